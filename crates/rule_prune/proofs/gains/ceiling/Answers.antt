use Rattle.role_order.specs.Roles.{IsWithin}
use Rattle.rule_prune.specs.Gains.{GiveAll}
use Rattle.rule_prune.specs.Steps.{IsClosure}
use Rattle.rule_prune.proofs.GainLemmas.{closure_ceiling}
use Rattle.rule_prune.proofs.gains.ceiling.Goals as goal

pub returns : goal.returns
returns c =
    let closure : IsClosure IsWithin (GiveAll c.args.prepared.now) c.drawn_roles-start.result c.with_gains.result =
    rw c.policy.ensures at c.with_gains.ensures in
    closure_ceiling c.args.prepared.now c.args.profiles.now c.drawn_roles-start.result c.with_gains.result c.drawn_roles-start.ensures closure
