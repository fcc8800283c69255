use Rattle.std.proofs.Common.{◌∙◌, ap, sym, Some}
use Rattle.std.proofs.lemmas.Bool.{false≢true}
use Rattle.list_words.proofs.GetLemmas.{get_at}
use Rattle.rule_prune.specs.Relevant.{RangeMeets}
use Rattle.rule_prune.proofs.SliceLemmas.{all_listed, none_more_listed, one_listed}
use Rattle.rule_prune.proofs.slicing.places_with.Goals.{then-range_meets+in_ok-push, else-range_meets}
use Rattle.rule_prune.proofs.slicing.places_with.Goals as goal

-- the rule's place is listed if its range has one of the roles
pub loop-place-preserved : goal.loop-place-preserved
loop-place-preserved g c =
    let items = c.args.rules.now in
    let item = c.index-rules-place.result in
    let at = c.loop-place.place in
    let here = get_at items at item c.loop-place-test.true ∙ ap Some (sym c.index-rules-place.is) in
    let meets = rw c.range.ensures at c.range_meets.ensures in
    elim c.if-range_meets.branch [
      | then-range_meets+in_ok-push w ↦ rw (w.places-is, w.in_ok-push.ensures.items)
          (one_listed (λ rule. RangeMeets c.args.order.now (g.R.Ranged.range_of rule) c.args.roles.now) items at item c.loop-place.places.items here
          (meets.0 w.if-range_meets.true) c.loop-place.invariant)
      | else-range_meets w ↦ rw w.places-is
          (none_more_listed (λ rule. RangeMeets c.args.order.now (g.R.Ranged.range_of rule) c.args.roles.now) items at item c.loop-place.places.items here
          (λ m. false≢true (sym w.if-range_meets.false ∙ meets.1 m)) c.loop-place.invariant)
    ]

-- all rules are gone through
pub returns : goal.returns
returns g c =
    all_listed (λ rule. RangeMeets c.args.order.now (g.R.Ranged.range_of rule) c.args.roles.now) c.args.rules.now c.loop-place.place
    c.loop-place.places.items c.loop-place-test.false c.loop-place.invariant
