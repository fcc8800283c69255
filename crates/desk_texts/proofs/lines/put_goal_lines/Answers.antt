use Rattle.std.proofs.Common.{◌++◌, get_or}
use Rattle.std.proofs.lemmas.Option.{slice_get-get_or}
use Rattle.text_pieces.proofs.PieceLemmas.{pieces_step, pieces_end}
use Rattle.desk_texts.specs.Lines.{goal_line, goal_lines}
use Rattle.desk_texts.proofs.lines.put_goal_lines.Goals as goal

-- the line of the condition at the place is the next piece
pub loop-place-preserved : goal.loop-place-preserved
loop-place-preserved c = pieces_step goal_line c.args.users.now c.loop-place.place (get_or c.args.users.now c.loop-place.place 0)
    c.loop-place.text.items c.put_goal_line.new.text.items (c.args.text.now.items ++ goal_lines c.args.users.now)
    (slice_get-get_or c.args.users.now c.loop-place.place 0 c.loop-place-test.true) c.loop-place.invariant c.in_ok-put_goal_line.ensures

-- behind the last condition no line is left
pub returns : goal.returns
returns c = pieces_end goal_line c.args.users.now c.loop-place.place c.loop-place.text.items
    (c.args.text.now.items ++ goal_lines c.args.users.now) c.loop-place-test.false c.loop-place.invariant
