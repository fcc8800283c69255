use Rattle.std.proofs.Common.{◌∙◌, ap, sym, Some}
use Rattle.std.proofs.lemmas.Bool.{false≢true}
use Rattle.list_words.proofs.GetLemmas.{get_at}
use Rattle.ura_core.proofs.CriterionLemmas.{none_more, none_at_all}
use Rattle.ura_core.proofs.criterion.first_met.Goals as goal

pub loop-place-init : goal.loop-place-init
loop-place-init g c = c.requires.before

-- no item before this one meets the criterion
pub returns-then-is_met-clause-found : goal.returns-then-is_met-clause-found
returns-then-is_met-clause-found g c =
    let item = c.index-items-place.result in
    record {
      item = item;
      at = get_at c.args.items.now c.loop-place.place item c.loop-place-test.true ∙ ap Some (sym c.index-items-place.is);
      holds = c.is_met.ensures.0 c.if-is_met.true;
      none_before = c.loop-place.invariant;
    }

-- the item doesn't meet it either
pub loop-place-preserved : goal.loop-place-preserved
loop-place-preserved g c =
    let items = c.args.items.now in
    let item = c.index-items-place.result in
    none_more (g.C.Criterion.met c.args.criterion.now) items c.loop-place.place item c.loop-place.invariant
    (get_at items c.loop-place.place item c.loop-place-test.true ∙ ap Some (sym c.index-items-place.is))
    (λ met. false≢true (sym c.if-is_met.false ∙ c.is_met.ensures.1 met))

-- the loop has asked of each item
pub returns-clause-none : goal.returns-clause-none
returns-clause-none g c = none_at_all
    (g.C.Criterion.met c.args.criterion.now) c.args.items.now c.loop-place.place c.loop-place.invariant c.loop-place-test.false
