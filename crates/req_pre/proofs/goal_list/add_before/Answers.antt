use Rattle.std.proofs.Common.{◌≡◌, ◌∷◌, map, Vec, Global}
use Rattle.arbac_laws.specs.Views.{need_of}
use Rattle.arbac_policy.specs.declared.conjunct.Conjunct.{Conjunct}
use Rattle.arbac_laws.specs.Views.{needs_of}
use Rattle.req_pre.specs.Views.{lists_of}
use Rattle.req_pre.proofs.PreparedLemmas.{at_mapped}
use Rattle.req_pre.proofs.GoalListLemmas.{item_there, seen_more}
use Rattle.req_pre.proofs.goal_list.add_before.Goals as goal

pub loop-tail-preserved : goal.loop-tail-preserved
loop-tail-preserved c =
    let tails = c.args.tails.now in
    let tail = c.tail-item.result in
    let a = need_of c.args.first.now in
    let i = c.loop-tail.tail-index in
    let at = item_there tails i tail c.loop-tail-test.true c.tail-item.is in
    let made : needs_of c.in_ok-with_first.field-0.items ≡ a ∷ needs_of tail.items = rw (c.deref.ensures.value) at c.in_ok-with_first.ensures in
    let there = at_mapped (λ needs. a ∷ needs) (lists_of tails) i (needs_of tail.items)
    (at_mapped (λ (raw : Vec Conjunct Global). needs_of raw.items) tails i tail at) in
    seen_more (λ (raw : Vec Conjunct Global). needs_of raw.items) (lists_of c.args.all.now.items)
    (map (λ needs. a ∷ needs) (lists_of tails)) c.loop-tail.all.items c.push.new.self.items i
    c.in_ok-with_first.field-0 (a ∷ needs_of tail.items) c.loop-tail.invariant there c.in_ok-push.ensures.items made
