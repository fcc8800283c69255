use Rattle.std.proofs.Common.{◌≡◌}
use Rattle.question_writer.proofs.PieceLemmas.{roles_below}
use Rattle.question_writer.proofs.pieces.roles_of.Given as goal

abbrev pub invariant-loop-role : goal.invariant-loop-role
invariant-loop-role l = l.roles.items ≡ roles_below l.role l.set
