use Rattle.std.proofs.Common.{append_assoc}
use Rattle.question_writer.proofs.PieceLemmas.{name_at}
use Rattle.question_writer.proofs.pieces.put_range.Goals as goal

pub returns : goal.returns
returns c =
    rw (
      c.in_ok-put-7.ensures,
      c.in_ok-put-6.ensures,
      c.in_ok-put-5.ensures,
      c.in_ok-put-4.ensures,
      c.in_ok-put-3.ensures,
      c.in_ok-put-2.ensures,
      c.in_ok-put.ensures,
      c.opening.ensures,
      c.closing.ensures,
      name_at c.args.order.now.names c.args.range.now.low c.name.result.now c.name.ensures,
      name_at c.args.order.now.names c.args.range.now.high c.name-2.result.now c.name-2.ensures,
    )
    (simp append_assoc)
