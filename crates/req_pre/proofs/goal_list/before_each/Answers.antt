use Rattle.arbac_laws.specs.Views.{need_of, needs_of}
use Rattle.req_pre.specs.Views.{lists_of}
use Rattle.req_pre.proofs.PreparedLemmas.{at_mapped}
use Rattle.req_pre.proofs.GoalListLemmas.{item_there, before_more}
use Rattle.req_pre.proofs.goal_list.before_each.Goals as goal

pub loop-first-preserved : goal.loop-first-preserved
loop-first-preserved c =
    let firsts = c.args.firsts.now in
    let first = c.first-item.result in
    let i = c.loop-first.first-index in
    let at = item_there firsts i first c.loop-first-test.true c.first-item.is in
    before_more (needs_of firsts) (lists_of c.args.tails.now) (lists_of c.loop-first.all.items) (lists_of c.add_before.new.all.items) i (need_of first)
    (at_mapped need_of firsts i first at) c.in_ok-add_before.ensures c.loop-first.invariant
