-- What a question that keeps its rules gives of its conditions.
use Rattle.std.proofs.Common.{◌≤◌, List, [], ◌∷◌, length, map}
use Rattle.list_words.specs.Lists.{Each}
use Rattle.list_words.proofs.EachLemmas.{each_weaker}
use Rattle.cond_text.specs.Grammar.{term_count}
use Rattle.cond_text.specs.declared.TheConstants.{MOST_TERMS}
use Rattle.arbac_policy.specs.declared.cond.Cond.{Cond}
use Rattle.arbac_policy.specs.declared.rule.CanAssign.{CanAssign}
use Rattle.arbac_policy.specs.PlainRules.{plain_rule}
use Rattle.arbac_policy.specs.Truth.{IsKnown, term_of}
use Rattle.question_text.specs.declared.question.Question.{Question}
use Rattle.question_text.specs.Rules.{IsAssignRule, IsCondition, KeepsRules}
use Rattle.question_text.specs.Values.{plain_of}
use Rattle.cert_check.specs.Rulebooks.{AreNarrow, IsNarrowRule}

-- what holds of each item of a mapped list
pub each_mapped : {A B : Type 0} (f : A → B) (P : B → Type 0) (xs : List A) → Each P (map f xs) → Each (λ x. P (f x)) xs
each_mapped f P [] all = tt
each_mapped f P (x ∷ xs) all = (all.0, each_mapped f P xs all.1)

-- each rule to assign has few terms and few conjuncts
pub narrow_rules : (question : Question) → KeepsRules (plain_of question) → AreNarrow question.policy
narrow_rules question keeps =
    each_weaker (λ (rule : CanAssign). IsAssignRule (length question.policy.order.names) (plain_rule rule)) IsNarrowRule
    (λ rule kept. record { terms = kept.cond.few; conjuncts = kept.narrow }) question.policy.assign
    (each_mapped plain_rule (IsAssignRule (length question.policy.order.names)) question.policy.assign keeps.assign.1)

goal_kept : (question : Question) → KeepsRules (plain_of question)
    → Each (λ (cond : Cond). IsCondition (length question.policy.order.names) (term_of cond)) question.goal.items
goal_kept question keeps = each_mapped term_of (IsCondition (length question.policy.order.names)) question.goal.items keeps.goal.1

-- each condition of the goal has few terms
pub goal_terms : (question : Question) → KeepsRules (plain_of question)
    → Each (λ (cond : Cond). term_count (term_of cond) ≤ MOST_TERMS) question.goal.items
goal_terms question keeps =
    each_weaker (λ (cond : Cond). IsCondition (length question.policy.order.names) (term_of cond))
    (λ (cond : Cond). term_count (term_of cond) ≤ MOST_TERMS) (λ cond kept. kept.few) question.goal.items (goal_kept question keeps)

-- and roles that are known
pub goal_known : (question : Question) → KeepsRules (plain_of question)
    → Each (λ (cond : Cond). IsKnown (length question.policy.order.names) (term_of cond)) question.goal.items
goal_known question keeps =
    each_weaker (λ (cond : Cond). IsCondition (length question.policy.order.names) (term_of cond))
    (λ (cond : Cond). IsKnown (length question.policy.order.names) (term_of cond)) (λ cond kept. kept.known) question.goal.items
    (goal_kept question keeps)
