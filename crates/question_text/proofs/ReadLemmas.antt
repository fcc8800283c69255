-- What the parts that were read keep, and what an answer says.
use Rattle.std.proofs.Common.{ℕ, ◌≡◌, List, length, Option, Some, None, Result, Ok, Err, refl, ap, ◌∙◌, arith, inl, inr}
use Rattle.std.proofs.lemmas.List.{length-map}
use Rattle.std.specs.Prelude.{Bool, IfOk, IfErr, ◌⊎◌}
use Rattle.toml.specs.Data.{Members}
use Rattle.arbac_policy.specs.Rules.{IsPolicy, AreCountable, policy_of}
use Rattle.arbac_policy.specs.PlainRules.{plain_rule}
use Rattle.question_text.specs.declared.reading.Roles.{Roles}
use Rattle.question_text.specs.declared.reading.Rules.{Rules}
use Rattle.question_text.specs.declared.question.Question.{Question}
use Rattle.question_text.specs.declared.question_error.QuestionError.{QuestionError}
use Rattle.question_text.specs.declared.question_error.QuestionError.TheVariants.{NotToml, Missing, WrongKind, UnknownRole, Order, Cond, MixedRole, TooMany}
use Rattle.question_text.specs.declared.question_error.QuestionError.TheVariants.{TooWide, UnknownKey, Memory}
use Rattle.question_text.specs.Outcomes.{Fault}
use Rattle.question_text.specs.Values.{QuestionValue, plain_of}
use Rattle.question_text.specs.Documents.{HeadValue, the_roles, the_rules, document}
use Rattle.question_text.specs.Rules.{KeepsRules}
use Rattle.question_text.specs.Views.{roles_view, rules_view}
use Rattle.question_text.specs.Answers.{fault_of, IsToldBy, Answers, Reads, Tells}
use Rattle.question_text.proofs.OutcomeLemmas.{same_ok, same_err, no_ok_err}
use Rattle.question_text.proofs.TableLaws.{each_known, each_revoke_known}
use Rattle.question_text.proofs.KeptLemmas.{the_roles_kept, the_rules_kept, document_kept}
use Rattle.question_text.proofs.SoleLemmas.{sole_document}

-- the parts that were read are a policy's
pub policy_read : (head : HeadValue) (table : Members) (roles : Roles) (rules : Rules) → the_roles head table (Ok (roles_view roles))
    → the_rules head.separate roles.admins roles.order.names table (Ok (rules_view rules))
    → IsPolicy (policy_of roles.order rules.assign.items rules.revoke.items rules.assignp.items rules.revokep.items roles.exclusive.items)
policy_read head table roles rules h k =
    let pairs = the_roles_kept head table (roles_view roles) h in
    let each = the_rules_kept head.separate roles.admins roles.order.names table (rules_view rules) k in
    let count = length roles.order.names in
    record {
      assign = each_known count rules.assign.items each.assign.1;
      revoke = each_revoke_known count rules.revoke.items each.revoke.1;
      assignp = each_known count rules.assignp.items each.assignp.1;
      revokep = each_revoke_known count rules.revokep.items each.revokep.1;
      exclusive = pairs.known;
    }

pub few_read : (head : HeadValue) (table : Members) (roles : Roles) (rules : Rules) → the_roles head table (Ok (roles_view roles))
    → the_rules head.separate roles.admins roles.order.names table (Ok (rules_view rules))
    → AreCountable (policy_of roles.order rules.assign.items rules.revoke.items rules.assignp.items rules.revokep.items roles.exclusive.items)
few_read head table roles rules h k =
    let pairs = the_roles_kept head table (roles_view roles) h in
    let each = the_rules_kept head.separate roles.admins roles.order.names table (rules_view rules) k in
    record {
      assign = omega (arith, length-map rules.assign.items plain_rule, each.assign.0);
      revoke = omega (arith, each.revoke.0);
      assignp = omega (arith, length-map rules.assignp.items plain_rule, each.assignp.0);
      revokep = omega (arith, each.revokep.0);
      exclusive = omega (arith, pairs.exclusive.few);
    }

-- what an answer is, whichever way it is asked

pub value_of : (need_goal : Bool) (bytes : List ℕ) (result : Result Question QuestionError) → Answers plain_of (document need_goal bytes) result
    → IfOk result (λ q. document need_goal bytes (Ok (plain_of q)))
value_of need_goal bytes (Ok q) h = h
value_of need_goal bytes (Err e) h = tt

pub kept_of : (need_goal : Bool) (bytes : List ℕ) (result : Result Question QuestionError) → Answers plain_of (document need_goal bytes) result
    → IfOk result (λ q. KeepsRules (plain_of q))
kept_of need_goal bytes (Ok q) h = document_kept need_goal bytes (plain_of q) h
kept_of need_goal bytes (Err e) h = tt

pub error_of : (need_goal : Bool) (bytes : List ℕ) (result : Result Question QuestionError) → Answers plain_of (document need_goal bytes) result
    → IfErr result (λ e. IsToldBy (document need_goal bytes) (fault_of e))
error_of need_goal bytes (Ok q) h = tt
error_of need_goal bytes (Err e) h = h

-- want of memory alone tells no fault
tells_none : (e : QuestionError) → fault_of e ≡ None → e ≡ Memory
tells_none NotToml is = absurd (cc)
tells_none (Missing key) is = absurd (cc)
tells_none (WrongKind key) is = absurd (cc)
tells_none (UnknownRole key) is = absurd (cc)
tells_none (Order error) is = absurd (cc)
tells_none (Cond key error) is = absurd (cc)
tells_none (MixedRole key) is = absurd (cc)
tells_none (TooMany key count) is = absurd (cc)
tells_none (TooWide key count) is = absurd (cc)
tells_none (UnknownKey key) is = absurd (cc)
tells_none Memory is = refl

pub only_of : (need_goal : Bool) (bytes : List ℕ) (result : Result Question QuestionError) → Answers plain_of (document need_goal bytes) result
    → (q : QuestionValue) → document need_goal bytes (Ok q) → Reads result q
only_of need_goal bytes (Ok value) h q k = same_ok (plain_of value) q (sole_document need_goal bytes (Ok (plain_of value)) (Ok q) h k)
only_of need_goal bytes (Err e) h q k = by_fault (fault_of e) refl h
  where
    by_fault : (told : Option Fault) → fault_of e ≡ told → IsToldBy (document need_goal bytes) told → e ≡ Memory
    by_fault None is h = tells_none e is
    by_fault (Some fault) is h = absurd (no_ok_err q fault (sole_document need_goal bytes (Ok q) (Err fault) k h))

pub told_of : (need_goal : Bool) (bytes : List ℕ) (result : Result Question QuestionError) → Answers plain_of (document need_goal bytes) result
    → (fault : Fault) → document need_goal bytes (Err fault) → Tells result fault
told_of need_goal bytes (Ok value) h fault k = no_ok_err (plain_of value) fault (sole_document need_goal bytes (Ok (plain_of value)) (Err fault) h k)
told_of need_goal bytes (Err e) h fault k = by_fault (fault_of e) refl h
  where
    same : (other : Fault) → document need_goal bytes (Err other) → other ≡ fault
    same other h = same_err other fault (sole_document need_goal bytes (Err other) (Err fault) h k)

    by_fault : (told : Option Fault) → fault_of e ≡ told → IsToldBy (document need_goal bytes) told → (fault_of e ≡ Some fault) ⊎ (e ≡ Memory)
    by_fault None is h = inr (tells_none e is)
    by_fault (Some other) is h = inl (is ∙ ap (λ (f : Fault). Some f) (same other h))
