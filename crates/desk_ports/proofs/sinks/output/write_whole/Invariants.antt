use Rattle.std.proofs.Common.{length}
use Rattle.desk_ports.proofs.FrontLemmas.{IsWrittenTo}
use Rattle.desk_ports.proofs.sinks.output.write_whole.Given as goal

-- the writer took all but the rest
abbrev pub invariant-loop-rest : goal.invariant-loop-rest
invariant-loop-rest g l = IsWrittenTo (g.W.Write.contents l.initial.writer) (g.W.Write.contents l.writer) l.bytes l.rest

abbrev pub decreases-loop-rest : goal.decreases-loop-rest
decreases-loop-rest g l = length l.rest
