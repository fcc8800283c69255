use Rattle.std.specs.Prelude.{filter, nat_lt, slice_set}
use Rattle.arbac_policy.specs.Steps.{WeakSteps}
use Rattle.ura_core.proofs.strong.revoke_all.Given as goal

abbrev pub invariant-loop-role : goal.invariant-loop-role
invariant-loop-role l = WeakSteps l.on l.policy l.users l.list l.act.admin l.act.target (filter (λ x. nat_lt x l.role) l.falling)
    (slice_set l.list l.act.target l.left)
