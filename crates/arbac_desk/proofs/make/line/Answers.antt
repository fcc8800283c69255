use Rattle.arbac_desk.proofs.MakeLemmas.{line_pieces}
use Rattle.arbac_desk.proofs.make.line.Goals as goal

-- the pieces, in their order, are the line
pub returns : goal.returns
returns c = rw (
  c.in_ok-put_end.ensures,
  c.in_ok-put_count-3.ensures,
  c.in_ok-put_count-2.ensures,
  c.in_ok-put_count.ensures,
  c.new-text.ensures.items,
) (line_pieces c.args.size c.args.roles c.args.rules c.args.outcome.now)
