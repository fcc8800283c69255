use Rattle.rule_prune.specs.Relevant.{AreAmong, LeadsOn}
use Rattle.rule_prune.specs.Steps.{ByEach}
use Rattle.rule_prune.proofs.RelevantLemmas.{all_stay, among_order}
use Rattle.rule_prune.proofs.StepLemmas.{nothing_new}
use Rattle.rule_prune.proofs.closing.following.Goals as goal

-- all that the links lead to is there already
pub returns-else-have_grown-clause-none : goal.returns-else-have_grown-clause-none
returns-else-have_grown-clause-none c =
    nothing_new AreAmong (ByEach LeadsOn c.args.links.now) among_order (all_stay c.args.links.now) c.args.roles.now c.with_links-more.result
    c.with_links-more.ensures (c.have_grown.ensures.same c.if-have_grown.false)
