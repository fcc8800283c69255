use Rattle.arbac_laws.specs.PreImages.{barred}
use Rattle.cert_needs.proofs.ExclusionLemmas.{HaveAll}
use Rattle.cert_needs.proofs.exclusions.all_bars.Given as goal

abbrev pub invariant-loop-role : goal.invariant-loop-role
invariant-loop-role l = HaveAll (λ role. barred l.order role l.pairs) l.role l.bars.items
