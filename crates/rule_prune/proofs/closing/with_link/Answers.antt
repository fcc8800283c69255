use Rattle.std.proofs.Common.{◌∙◌, sym}
use Rattle.std.proofs.lemmas.Bool.{false≢true}
use Rattle.rule_prune.proofs.RelevantLemmas.{link_step, no_link_step}
use Rattle.rule_prune.proofs.closing.with_link.Goals as goal

-- the link starts from one of the roles
pub returns-then-have_met : goal.returns-then-have_met
returns-then-have_met c =
    link_step c.args.link.now c.args.roles.now c.joined.result (c.have_met.ensures.0 c.if-have_met.true) c.joined.ensures.wanted c.joined.ensures.barred

-- it doesn't
pub returns-else-have_met : goal.returns-else-have_met
returns-else-have_met c = no_link_step c.args.link.now c.args.roles.now (λ meets. false≢true (sym c.if-have_met.false ∙ c.have_met.ensures.1 meets))
