use Rattle.arbac_laws.specs.PreImages.{is_barred}
use Rattle.req_pre.proofs.ExclusionLemmas.{ArePassed}
use Rattle.req_pre.proofs.exclusions.closed_roles.Given as goal

abbrev pub invariant-loop-role : goal.invariant-loop-role
invariant-loop-role l = ArePassed (λ role. is_barred l.fn.policy.order role l.fn.policy.exclusive) l.role l.closed
