use Rattle.arbac_laws.specs.PreImages.{barred}
use Rattle.req_pre.proofs.ExclusionLemmas.{HaveAll}
use Rattle.req_pre.proofs.exclusions.all_bars.Given as goal

abbrev pub invariant-loop-role : goal.invariant-loop-role
invariant-loop-role l = HaveAll (λ role. barred l.fn.policy.order role l.fn.policy.exclusive) l.role l.bars.items
