-- A sample keeps the rules of a question.
use Rattle.std.proofs.Common.{ℕ, ◌≡◌, ◌≤◌, [], ◌∷◌, arith}
use Rattle.std.proofs.lemmas.Bool.{false≢true}
use Rattle.std.proofs.lemmas.Bool.Decides.{nat_tests}
use Rattle.role_order.specs.Roles.{IsIn}
use Rattle.question_text.specs.Rules.{KeepsRules}
use Rattle.sample_question.specs.Samples.{sample}
use Rattle.sample_question.specs.declared.TheConstants.{MOST_SIZE}
use Rattle.sample_question.proofs.NameLemmas.{names_long, is_order}
use Rattle.sample_question.proofs.RuleLemmas.{rules_long, are_rules, is_goal, goal_width_one}

-- the profile's only role
only_first : (role : ℕ) → IsIn (0 ∷ []) role → role ≡ 0
only_first role h = grind (arith, nat_tests)

pub keeps : (size : ℕ) → 1 ≤ size → size ≤ MOST_SIZE → KeepsRules (sample size)
keeps size some few =
    let names = names_long size in
    let assign = rules_long size in
    record {
      order = is_order size few;
      edges = omega arith;
      admins = record { rises = tt; below = λ role h. absurd (false≢true h) };
      exclusive = (omega arith, tt);
      assign = (omega (arith, assign, few), are_rules size);
      revoke = (omega arith, tt);
      assignp = (omega arith, tt);
      revokep = (omega arith, tt);
      profiles = (
        omega arith,
        (
          record {
            set = record { rises = (tt, tt); below = λ role h. let zero_alone = only_first role h in omega (arith, names, zero_alone) };
            most = tt;
          },
          tt,
        ),
      );
      goal = (omega arith, (is_goal size some few, tt));
      narrow = let one = goal_width_one size in rw one (omega arith);
      apart = λ separate. absurd (false≢true separate);
    }
