-- A question that keeps its rules can be made ready.
use Rattle.std.proofs.Common.{◌≤◌, length, arith}
use Rattle.list_words.specs.Lists.{Each, IsFirst}
use Rattle.list_words.proofs.EachLemmas.{each_at, each_weaker}
use Rattle.arbac_policy.specs.declared.rule.CanAssign.{CanAssign}
use Rattle.arbac_policy.specs.Truth.{IsKnown, term_of}
use Rattle.cond_text.specs.Grammar.{term_count}
use Rattle.cond_text.specs.declared.TheConstants.{MOST_TERMS}
use Rattle.req_pre.specs.Preparing.{AreShort, IsWide}
use Rattle.question_text.specs.declared.question.Question.{Question}
use Rattle.question_text.specs.Rules.{IsCondition, KeepsRules}
use Rattle.question_text.specs.Values.{plain_of}
use Rattle.cert_check.specs.Judgements.{asked_by}
use Rattle.cert_check.specs.Rulebooks.{IsNarrowRule}
use Rattle.cert_check.proofs.QuestionLemmas.{narrow_rules}

-- its rules have few terms
pub short_rules : (question : Question) → KeepsRules (plain_of question) → AreShort question.policy
short_rules question keeps =
    each_weaker IsNarrowRule (λ (rule : CanAssign). term_count (term_of rule.cond) ≤ MOST_TERMS) (λ rule narrow. narrow.terms) question.policy.assign
    (narrow_rules question keeps)

-- and none of them is too wide
pub none_wide : (question : Question) → KeepsRules (plain_of question) → (place : _) → IsFirst IsWide question.policy.assign place → ⊥
none_wide question keeps place first =
    let narrow = each_at IsNarrowRule question.policy.assign place first.item (narrow_rules question keeps) first.at in
    let few = narrow.conjuncts in
    let many = first.holds in
    omega (arith, few, many)

-- its goal names roles alone
pub goal_roles : (question : Question) → KeepsRules (plain_of question)
    → Each (IsKnown (length question.policy.order.names)) (asked_by question).goal
goal_roles question keeps = each_weaker (IsCondition (length question.policy.order.names)) (IsKnown (length question.policy.order.names))
    (λ cond kept. kept.known) (asked_by question).goal keeps.goal.1
