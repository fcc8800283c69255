use Rattle.std.proofs.Common.{◌≡◌, ◌∙◌, ap, sym, Some}
use Rattle.std.specs.Prelude.{slice_get}
use Rattle.list_words.proofs.GetLemmas.{get_at}
use Rattle.rule_prune.specs.Relevant.{AreAmong, LeadsOn}
use Rattle.rule_prune.specs.declared.links.Link.{Link}
use Rattle.rule_prune.proofs.RelevantLemmas.{among_order, link_stays}
use Rattle.rule_prune.proofs.StepLemmas.{all_steps, no_step, one_step}
use Rattle.rule_prune.proofs.closing.with_links.Goals as goal

pub loop-link-init : goal.loop-link-init
loop-link-init c = no_step AreAmong among_order LeadsOn c.args.links.now c.args.roles.now

-- one link more
pub loop-link-preserved : goal.loop-link-preserved
loop-link-preserved c =
    let links = c.args.links.now in
    let link = c.link-item.result in
    let here : slice_get links c.loop-link.link-index ≡ Some link =
    get_at links c.loop-link.link-index link c.loop-link-test.true ∙ ap (λ (l : Link). Some l) (sym c.link-item.is) in
    one_step AreAmong among_order LeadsOn link_stays links c.loop-link.link-index link here c.args.roles.now c.loop-link.more c.with_link-more.result
    c.loop-link.invariant c.with_link-more.ensures

pub returns : goal.returns
returns c =
    all_steps AreAmong LeadsOn c.args.links.now c.loop-link.link-index c.loop-link-test.false c.args.roles.now c.loop-link.more c.loop-link.invariant
