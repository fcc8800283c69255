use Rattle.arbac_laws.specs.PreImages.{is_barred}
use Rattle.cert_needs.proofs.ExclusionLemmas.{ArePassed}
use Rattle.cert_needs.proofs.exclusions.closed_roles.Given as goal

abbrev pub invariant-loop-role : goal.invariant-loop-role
invariant-loop-role l = ArePassed (λ role. is_barred l.order role l.pairs) l.role l.closed
