use Rattle.std.proofs.Common.{[]}
use Rattle.rule_prune.specs.Relevant.{AsksToAssign}
use Rattle.rule_prune.proofs.RelevantLemmas.{AreLinked, all_linked}
use Rattle.rule_prune.proofs.links.all_links.Goals as goal

-- one table after another
pub returns : goal.returns
returns c =
    let policy = c.args.policy.now in
    let first : AreLinked (AsksToAssign policy.order) policy.assign [] c.add_assigns.new.links.items =
    rw c.new-links.ensures.items at c.in_ok-add_assigns.ensures in
    all_linked policy c.givable_roles.result c.add_assigns.new.links.items c.add_pairs.new.links.items c.add_revokes.new.links.items c.givable_roles.ensures
    first c.in_ok-add_pairs.ensures c.in_ok-add_revokes.ensures
