use Rattle.std.proofs.Common.{◌∙◌, ap, map, length, [], get_or, slice_set}
use Rattle.role_order.specs.Closures.{raised_set}
use Rattle.list_words.proofs.GetLemmas.{get_any}
use Rattle.role_order.proofs.ClosureLemmas.{mapped_step, mapped_all, written_back}
use Rattle.role_order.proofs.closure.add_edge.Goals as goal

pub loop-set-preserved : goal.loop-set-preserved
loop-set-preserved c =
    ap (λ s. slice_set c.loop-set.set-items c.loop-set.set-index s) c.raise.ensures
    ∙ mapped_step (raised_set c.index.result.now c.args.senior c.args.junior) c.deref_mut-set-items.result.now c.loop-set.set-items
    c.loop-set.set-index c.set-item.result c.loop-set-test.true c.loop-set.invariant

pub returns : goal.returns
returns c =
    written_back c.args.above.now.len c.loop-set.set-items c.args.above.now.items c.args.above.now.ok.0
    (c.loop-set.auto.set-items ∙ ap length c.deref_mut-set-items.ensures.value)
    ∙ c.loop-set.invariant
    ∙ mapped_all (raised_set c.index.result.now c.args.senior c.args.junior) c.deref_mut-set-items.result.now c.loop-set.set-index c.loop-set-test.false
    ∙ ap (λ seniors. map (raised_set seniors c.args.senior c.args.junior) c.deref_mut-set-items.result.now)
    (c.index.ensures ∙ get_any c.args.above.now.items c.args.senior c.index.result.now [] c.requires)
    ∙ ap (map (raised_set (get_or c.args.above.now.items c.args.senior []) c.args.senior c.args.junior)) c.deref_mut-set-items.ensures.value
