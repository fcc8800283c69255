use Rattle.std.proofs.Common.{◌<◌, ◌+◌, ◌^◌, ◌∙◌, arith, subst, sym, ap, map, length, get_or, slice_set}
use Rattle.req_core.specs.Forms.{moved}
use Rattle.list_words.specs.Lists.{Each}
use Rattle.list_words.proofs.EachLemmas.{each_at}
use Rattle.role_order.proofs.ClosureLemmas.{mapped_step, mapped_all, written_back}
use Rattle.req_core.proofs.FormLemmas.{unchanged}
use Rattle.req_core.proofs.forms.make_room.Goals as goal

pub move_on-requires : goal.move_on-requires
move_on-requires c =
    let items = c.deref_mut-place-items.result.now in
    let small : Each (λ place. place + 1 < 2 ^ 32) items = subst (Each (λ place. place + 1 < 2 ^ 32))
    (sym c.deref_mut-place-items.ensures.value) c.requires in
    each_at (λ place. place + 1 < 2 ^ 32) items c.loop-place.place-index (get_or c.loop-place.place-items c.loop-place.place-index 0) small
    (unchanged (moved c.args.at) items c.loop-place.place-items c.loop-place.place-index 0
    (omega (arith, c.loop-place.auto.place-items, c.loop-place-test.true)) c.loop-place.invariant)

pub loop-place-preserved : goal.loop-place-preserved
loop-place-preserved c =
    ap (λ s. slice_set c.loop-place.place-items c.loop-place.place-index s) c.move_on.ensures
    ∙ mapped_step (moved c.args.at) c.deref_mut-place-items.result.now c.loop-place.place-items c.loop-place.place-index 0 c.loop-place-test.true
    c.loop-place.invariant

pub returns : goal.returns
returns c =
    written_back c.args.places.now.len c.loop-place.place-items c.args.places.now.items c.args.places.now.ok.0
    (c.loop-place.auto.place-items ∙ ap length c.deref_mut-place-items.ensures.value)
    ∙ c.loop-place.invariant
    ∙ mapped_all (moved c.args.at) c.deref_mut-place-items.result.now c.loop-place.place-index c.loop-place-test.false
    ∙ ap (map (moved c.args.at)) c.deref_mut-place-items.ensures.value
