use Rattle.std.proofs.Common.{◌++◌, arith}
use Rattle.text_pieces.proofs.PieceLemmas.{pieces_step, pieces_end}
use Rattle.desk_texts.specs.Lines.{held_name, held_names}
use Rattle.desk_texts.specs.Parts.{name_of}
use Rattle.desk_texts.proofs.NameLemmas.{name_at}
use Rattle.desk_texts.proofs.lines.put_held_names.Goals as goal

-- the role's name is the next piece
pub loop-role-preserved : goal.loop-role-preserved
loop-role-preserved c = pieces_step (held_name c.args.set.now) c.args.order.now.names c.loop-role.role (name_of c.args.order.now.names c.loop-role.role)
    c.loop-role.text.items c.put_held_name.new.text.items (c.args.text.now.items ++ held_names c.args.order.now.names c.args.set.now)
    (name_at c.args.order.now.names c.loop-role.role (omega (arith, c.count-role-end.ensures.count))) c.loop-role.invariant c.in_ok-put_held_name.ensures

-- behind the last role no name is left
pub returns : goal.returns
returns c = pieces_end (held_name c.args.set.now) c.args.order.now.names c.loop-role.role c.loop-role.text.items
    (c.args.text.now.items ++ held_names c.args.order.now.names c.args.set.now) (omega (arith, c.count-role-end.ensures.count)) c.loop-role.invariant
