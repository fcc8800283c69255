use Rattle.std.proofs.Common.{◌≡◌, [], map, Some, Vec, Global}
use Rattle.std.specs.Prelude.{slice_get}
use Rattle.list_words.proofs.GetLemmas.{get_map}
use Rattle.arbac_policy.specs.declared.conjunct.Conjunct.{Conjunct}
use Rattle.arbac_laws.specs.Views.{needs_of}
use Rattle.cert_check.specs.Rulebooks.{conjuncts_of}
use Rattle.cert_check.proofs.BookLemmas.{item_there, seen_more}
use Rattle.cert_check.proofs.rulebook.lists_for.Goals as goal

-- the conjuncts of one rule more are listed
pub loop-rule-preserved : goal.loop-rule-preserved
loop-rule-preserved c =
    let rules = c.args.policy.now in
    let rule = c.rule-item.result in
    let i = c.loop-rule.rule-index in
    let here : slice_get c.assign-rules.result.now i ≡ Some rule = item_there c.assign-rules.result.now i rule c.loop-rule-test.true c.rule-item.is in
    let at : slice_get rules.assign i ≡ Some rule = rw c.assign-rules.ensures at here in
    let same : needs_of c.in_ok-few_conjuncts.field-0.items ≡ conjuncts_of rules rule = rw c.order.ensures.order at c.in_ok-few_conjuncts.ensures in
    seen_more (λ (list : Vec Conjunct Global). needs_of list.items) [] (map (conjuncts_of rules) rules.assign) c.loop-rule.lists.items c.push.new.self.items i
    c.in_ok-few_conjuncts.field-0 (conjuncts_of rules rule) c.loop-rule.invariant (get_map (conjuncts_of rules) rules.assign i rule at)
    c.in_ok-push.ensures.items same
