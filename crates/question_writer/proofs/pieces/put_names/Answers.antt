use Rattle.std.proofs.Common.{sym, arith}
use Rattle.question_writer.specs.Texts.{quoted}
use Rattle.question_writer.proofs.PieceLemmas.{joined_step, joined_end}
use Rattle.question_writer.proofs.pieces.put_names.Goals as goal

pub loop-role-preserved : goal.loop-role-preserved
loop-role-preserved c =
    joined_step quoted c.args.order.now.names c.loop-role.role c.name.result.now c.loop-role.text.items c.put_comma.new.text.items
    c.put_quoted.new.text.items _
    (sym c.name.ensures) c.loop-role.invariant c.in_ok-put_comma.ensures c.in_ok-put_quoted.ensures

pub returns : goal.returns
returns c = joined_end quoted c.args.order.now.names c.loop-role.role c.args.text.now.items c.put.new.text.items c.loop-role.text.items c.put-2.new.text.items
    (omega (arith, c.count-role-end.ensures.count)) c.in_ok-put.ensures c.loop-role.invariant c.in_ok-put-2.ensures
