use Rattle.std.proofs.Common.{length, map}
use Rattle.role_order.specs.Graph.{AreEdges}
use Rattle.arbac_policy.specs.Truth.{term_of}
use Rattle.rule_prune.specs.Slicing.{IsSliceOf}
use Rattle.rule_prune.proofs.SliceLemmas.{slice_relevant}
use Rattle.rule_prune.proofs.slicing.slice.Goals as goal

pub returns-in-Ok-clause-relevant : goal.returns-in-Ok-clause-relevant
returns-in-Ok-clause-relevant c =
    let prepared = c.args.prepared.now in
    let ends : AreEdges (length prepared.order.names) prepared.order.edges = rw (c.order.ensures.order, c.policy-policy.ensures) at c.is_order.ensures.ends in
    let least : IsSliceOf prepared (map term_of c.args.goal.now) c.in-Ok.slice = rw c.policy-policy.ensures at c.in-Ok.ensures in
    slice_relevant prepared ends (map term_of c.args.goal.now) c.in-Ok.slice least
