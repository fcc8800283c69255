use Rattle.arbac_laws.specs.Views.{need_of}
use Rattle.req_core.proofs.HitLemmas.{AreBare}
use Rattle.req_core.proofs.hits.bare_hits.Given as goal

abbrev pub invariant-loop-hit : goal.invariant-loop-hit
invariant-loop-hit l = AreBare (need_of l.raw) l.hit-index l.hits.items
