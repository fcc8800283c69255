use Rattle.std.proofs.Common.{map}
use Rattle.arbac_policy.specs.Truth.{term_of}
use Rattle.arbac_policy.specs.declared.rule.CanAssign.{CanAssign}
use Rattle.arbac_policy.specs.declared.rule.CanRevoke.{CanRevoke}
use Rattle.rule_prune.specs.Relevant.{RangeMeets}
use Rattle.rule_prune.specs.Slicing.{ArePlacesWhere}
use Rattle.rule_prune.proofs.SliceLemmas.{least_slice}
use Rattle.rule_prune.proofs.slicing.slice_of.Goals as goal

pub returns : goal.returns
returns c =
    let policy = c.args.policy.now in
    let roles = c.in_ok-roles.roles in
    let givers : ArePlacesWhere (λ (rule : CanAssign). RangeMeets policy.order rule.range roles.wanted) policy.assign c.in_ok-assign.assign.items =
    rw (c.order-order.ensures.order, c.assign.ensures) at c.in_ok-assign.ensures in
    let takers : ArePlacesWhere (λ (rule : CanRevoke). RangeMeets policy.order rule.range roles.barred) policy.revoke c.in_ok-revoke.revoke.items =
    rw (c.order-order.ensures.order, c.revoke.ensures) at c.in_ok-revoke.ensures in
    least_slice policy (map term_of c.args.goal.now) roles (record { assign = c.in_ok-assign.assign; revoke = c.in_ok-revoke.revoke })
    c.in_ok-roles.ensures givers takers
