use Rattle.std.proofs.Common.{◌≡◌, drop}
use Rattle.arbac_laws.specs.PreImages.{has_alone}
use Rattle.cert_needs.proofs.before.has_alone.Given as goal

-- what is left decides
abbrev pub invariant-loop-hit : goal.invariant-loop-hit
invariant-loop-hit l = has_alone l.role (drop l.hit-index l.hits) ≡ has_alone l.role l.hits
