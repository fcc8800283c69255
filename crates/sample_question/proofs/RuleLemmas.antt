-- The rules and the goal of a sample.
use Rattle.std.proofs.Common.{ℕ, zero, suc, ◌≡◌, ◌<◌, ◌≤◌, ◌+◌, ◌-◌, ◌*◌, ◌∙◌, Bool, true, false, cond, eqb, List, [], ◌∷◌, ◌++◌, map, length}
use Rattle.std.proofs.Common.{refl, sym, ap, arith}
use Rattle.std.proofs.lemmas.Bool.Decides.{nat_tests}
use Rattle.std.proofs.lemmas.List.{length-map, map_push}
use Rattle.list_words.specs.Lists.{Each}
use Rattle.role_order.specs.Graph.{Graph}
use Rattle.role_order.specs.Reach.{count_up}
use Rattle.arbac_laws.specs.Obligations.{flat}
use Rattle.arbac_policy.specs.declared.rule.CanAssign.{CanAssign}
use Rattle.arbac_policy.specs.Truth.{has, lacks, both, IsKnown}
use Rattle.arbac_policy.specs.PlainRules.{AssignRule, plain_rule}
use Rattle.arbac_policy.specs.Rules.{IsPolicy, AreCountable, policy_of}
use Rattle.cond_text.specs.Grammar.{term_count}
use Rattle.arbac_rules.specs.Widths.{width}
use Rattle.question_text.specs.Rules.{IsCondition, IsAssignRule}
use Rattle.question_text.proofs.TableLaws.{each_known}
use Rattle.sample_question.specs.Samples.{key, extra, rule, next, rules, goal, role_names}
use Rattle.sample_question.specs.declared.TheConstants.{MOST_SIZE}
use Rattle.sample_question.proofs.PairLemmas.{two_more, two_each, each_flat}
use Rattle.sample_question.proofs.NameLemmas.{names_long}

-- the rules of a place
abbrev pub rules_at : ℕ → ℕ → List AssignRule
rules_at size at = rule (has (extra at)) (key at) ∷ rule (lacks (key (next size at))) (extra at) ∷ []

pub rules_long : (size : ℕ) → length (rules size) ≡ 2 * size
rules_long size = two_each (rules_at size) (λ at. refl) 0 size

-- all rules are left
pub rules_first : (size : ℕ) (made : List CanAssign) → made ≡ [] → map plain_rule made ++ flat (rules_at size) (count_up 0 (size - 0)) ≡ rules size
rules_first size made e = let all : size - 0 ≡ size = omega arith in rw e (ap (λ (n : ℕ). flat (rules_at size) (count_up 0 n)) all)

-- the rules of one place more
pub rules_more : (size at : ℕ) (made : List CanAssign) (first second : CanAssign) → at < size → plain_rule first ≡ rule (has (extra at)) (key at)
    → plain_rule second ≡ rule (lacks (key (next size at))) (extra at)
    → map plain_rule made ++ flat (rules_at size) (count_up at (size - at)) ≡ rules size
    → map plain_rule ((made ++ first ∷ []) ++ second ∷ []) ++ flat (rules_at size) (count_up (at + 1) (size - (at + 1))) ≡ rules size
rules_more size at made first second l k x h =
    rw (map_push plain_rule (made ++ first ∷ []) second, map_push plain_rule made first, k, x)
    (two_more (rules_at size) (map plain_rule made) (rule (has (extra at)) (key at)) (rule (lacks (key (next size at))) (extra at))
    (rules size) size at l refl h)

next_below : (size at : ℕ) → at < size → next size at < size
next_below size at l = by_test (eqb (at + 1) size) refl
  where
    by_test : (t : Bool) → eqb (at + 1) size ≡ t → cond t 0 (at + 1) < size
    by_test true e = omega arith
    by_test false e = grind (arith, nat_tests)

pub are_rules : (size : ℕ) → Each (IsAssignRule (length (role_names size))) (rules size)
are_rules size = let long = names_long size in each_flat (IsAssignRule (length (role_names size))) (rules_at size) 0 size (λ at l m.
    let behind = next_below size at m in (
      record {
        admin = omega (arith, long);
        cond = record { known = omega (arith, long, m); few = omega arith };
        range = (omega (arith, long, m), omega (arith, long, m));
        narrow = omega arith;
      },
      (
        record {
          admin = omega (arith, long);
          cond = record { known = omega (arith, long, behind); few = omega arith };
          range = (omega (arith, long, m), omega (arith, long, m));
          narrow = omega arith;
        },
        tt,
      ),
    )) 0 size (omega arith) (omega arith)

-- ---- the policy

pub is_known : (size : ℕ) (order : Graph) (given : List CanAssign) → order.names ≡ role_names size → map plain_rule given ≡ rules size
    → IsPolicy (policy_of order given [] [] [] [])
is_known size order given e h = record {
  assign = each_known (length order.names) given (rw (e, h) (are_rules size));
  revoke = tt;
  assignp = tt;
  revokep = tt;
  exclusive = tt;
}

pub is_countable : (size : ℕ) (order : Graph) (given : List CanAssign) → size ≤ MOST_SIZE → map plain_rule given ≡ rules size
    → AreCountable (policy_of order given [] [] [] [])
is_countable size order given few h =
    let long : length given ≡ 2 * size = sym (length-map given plain_rule) ∙ ap length h ∙ rules_long size in
    record { assign = omega (arith, long); revoke = omega arith; assignp = omega arith; revokep = omega arith; exclusive = omega arith }

-- ---- the goal

pub goal_more : (at : ℕ) → 1 ≤ at → goal (at + 1) ≡ both (goal at) (has (key at))
goal_more zero l = absurd (omega arith)
goal_more (suc more) l = let e : suc more + 1 ≡ suc (suc more) = omega arith in rw e refl

goal_known : (count n : ℕ) → 2 ≤ count → 2 * n ≤ count → IsKnown count (goal n)
goal_known count zero l m = omega arith
goal_known count (suc zero) l m = omega arith
goal_known count (suc (suc more)) l m = (goal_known count (suc more) l (omega arith), omega arith)

goal_terms : (n : ℕ) → 1 ≤ n → term_count (goal n) ≡ n
goal_terms zero l = absurd (omega arith)
goal_terms (suc zero) l = refl
goal_terms (suc (suc more)) l = let rest = goal_terms (suc more) (omega arith) in omega (arith, rest)

pub goal_width_one : (n : ℕ) → width (goal n) ≡ 1
goal_width_one zero = refl
goal_width_one (suc zero) = refl
goal_width_one (suc (suc more)) = rw (goal_width_one (suc more)) refl

pub is_goal : (size : ℕ) → 1 ≤ size → size ≤ MOST_SIZE → IsCondition (length (role_names size)) (goal size)
is_goal size some few =
    let long = names_long size in
    let terms = goal_terms size some in
    record { known = goal_known (length (role_names size)) size (omega (arith, long, some)) (omega (arith, long)); few = omega (arith, terms, few) }
