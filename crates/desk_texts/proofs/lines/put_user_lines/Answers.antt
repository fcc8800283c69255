use Rattle.std.proofs.Common.{◌∙◌, ◌++◌, sym, ap, Some}
use Rattle.std.proofs.lemmas.Option.{slice_get-get_or}
use Rattle.text_pieces.proofs.PieceLemmas.{pieces_step, pieces_end}
use Rattle.desk_texts.specs.Lines.{user_line, user_lines}
use Rattle.desk_texts.proofs.lines.put_user_lines.Goals as goal

-- the user's line is the next piece
pub loop-place-preserved : goal.loop-place-preserved
loop-place-preserved c = pieces_step (user_line c.args.order.now.names) c.args.sets.now c.loop-place.place c.index-sets-place.result
    c.loop-place.text.items c.put_user_line.new.text.items (c.args.text.now.items ++ user_lines c.args.order.now.names c.args.sets.now)
    (slice_get-get_or c.args.sets.now c.loop-place.place c.index-sets-place.result c.loop-place-test.true ∙ ap Some (sym c.index-sets-place.is))
    c.loop-place.invariant c.in_ok-put_user_line.ensures

-- behind the last user no line is left
pub returns : goal.returns
returns c = pieces_end (user_line c.args.order.now.names) c.args.sets.now c.loop-place.place c.loop-place.text.items
    (c.args.text.now.items ++ user_lines c.args.order.now.names c.args.sets.now) c.loop-place-test.false c.loop-place.invariant
