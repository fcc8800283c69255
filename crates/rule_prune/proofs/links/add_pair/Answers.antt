use Rattle.rule_prune.proofs.RelevantLemmas.{two_linked}
use Rattle.rule_prune.proofs.links.add_pair.Goals as goal

pub returns : goal.returns
returns c =
    two_linked c.args.order.now c.args.givable.now c.args.pair c.args.links.now.items c.apart_link.result c.apart_link-2.result c.push.new.self.items
    c.push-2.new.self.items c.in_ok-push.ensures.items c.in_ok-push-2.ensures.items c.apart_link.ensures c.apart_link-2.ensures
