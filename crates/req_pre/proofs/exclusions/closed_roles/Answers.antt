use Rattle.std.proofs.Common.{ℕ, ◌≡◌, ◌∙◌, length, sym, arith}
use Rattle.role_order.specs.Refusals.{IsOrder}
use Rattle.arbac_laws.specs.PreImages.{is_barred}
use Rattle.req_pre.proofs.ExclusionLemmas.{all_passed, open_past, passed_more, passed_same}
use Rattle.req_pre.proofs.exclusions.closed_roles.Goals.{then-is_barred, else-is_barred}
use Rattle.req_pre.proofs.exclusions.closed_roles.Goals as goal

-- one role more
pub loop-role-preserved : goal.loop-role-preserved
loop-role-preserved c =
    let policy = c.args.policy.now in
    let test = λ (role : ℕ). is_barred policy.order role policy.exclusive in
    let tested : c.is_barred.result ≡ is_barred policy.order c.loop-role.role policy.exclusive =
    rw (c.order-order.ensures.order, c.exclusive.ensures) at c.is_barred.ensures in
    elim c.if-is_barred.branch [
      | then-is_barred w ↦ rw (w.closed-is, w.with-closed.ensures)
          (passed_more test c.loop-role.role c.loop-role.closed c.loop-role.invariant (sym tested ∙ w.if-is_barred.true))
      | else-is_barred w ↦ rw w.closed-is
          (passed_same test c.loop-role.role c.loop-role.closed c.loop-role.invariant (sym tested ∙ w.if-is_barred.false))
    ]

-- the loop ends at the role count, from which on no role is above a pair
pub returns : goal.returns
returns c =
    let order = c.args.policy.now.order in
    let pairs = c.args.policy.now.exclusive in
    let kept : IsOrder order.names order.edges = rw (c.order-order.ensures.order) at c.count-count.ensures.order in
    let all : c.count-count.result ≡ length order.names = rw (c.order-order.ensures.order) at c.count-count.ensures.count in
    all_passed (λ role. is_barred order role pairs) c.loop-role.role c.loop-role.closed c.loop-role.invariant
    (λ role past. open_past order kept.ends pairs c.order-order.ensures.known.exclusive role (omega (all, c.loop-role-test.false, past, arith)))
