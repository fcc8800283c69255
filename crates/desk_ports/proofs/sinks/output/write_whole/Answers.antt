use Rattle.desk_ports.proofs.FrontLemmas.{written-step}
use Rattle.desk_ports.proofs.sinks.output.write_whole.Goals as goal

pub loop-rest-preserved : goal.loop-rest-preserved
loop-rest-preserved g c = written-step _ _ _ _ _ _ c.loop-rest.invariant c.in-Ok.ensures.bound c.in-Ok.ensures.bytes
