use Rattle.std.proofs.Common.{◌≡◌, ◌∙◌, ap, sym, arith, Some}
use Rattle.std.specs.Prelude.{slice_get}
use Rattle.list_words.proofs.GetLemmas.{get_at}
use Rattle.arbac_laws.specs.PreImages.{add_hit as and_hit}
use Rattle.arbac_laws.specs.Views.{needs_of}
use Rattle.req_pre.proofs.BackwardLemmas.{change_past, change_raw, length_raw}
use Rattle.req_pre.proofs.backwards.add_hit.Goals as goal

pub returns-in_ok-and_one : goal.returns-in_ok-and_one
returns-in_ok-and_one c =
    let raw = c.args.raw.now.items in
    let at = c.args.at in
    let old = c.index_mut.result.now in
    let here : slice_get raw at ≡ Some old = get_at raw at old (omega (arith, c.if-at-len.true, c.len.ensures)) ∙ ap Some (sym c.index_mut.ensures.value) in
    change_raw raw at c.and_one.new.user c.args.hit old here c.in_ok-and_one.ensures

pub returns-else-at-len : goal.returns-else-at-len
returns-else-at-len c =
    let raw = c.args.raw.now.items in
    change_past (and_hit c.args.hit) (needs_of raw) c.args.at (omega (arith, length_raw raw, c.if-at-len.false, c.len.ensures))
