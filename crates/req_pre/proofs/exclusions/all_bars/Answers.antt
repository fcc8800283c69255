use Rattle.std.proofs.Common.{◌≡◌, length, arith}
use Rattle.role_order.specs.Refusals.{IsOrder}
use Rattle.arbac_laws.specs.PreImages.{barred}
use Rattle.req_pre.proofs.ExclusionLemmas.{all_there, nothing_past}
use Rattle.req_pre.proofs.exclusions.all_bars.Goals as goal

-- the loop ends at the role count, from which on nothing is barred
pub returns : goal.returns
returns c =
    let order = c.args.policy.now.order in
    let pairs = c.args.policy.now.exclusive in
    let kept : IsOrder order.names order.edges = rw (c.order-order.ensures.order) at c.count-count.ensures.order in
    let all : c.count-count.result ≡ length order.names = rw (c.order-order.ensures.order) at c.count-count.ensures.count in
    all_there (λ role. barred order role pairs) c.loop-role.role c.loop-role.bars.items c.loop-role.invariant
    (λ role past. nothing_past order kept.ends pairs c.order-order.ensures.known.exclusive role (omega (all, c.loop-role-test.false, past, arith)))
