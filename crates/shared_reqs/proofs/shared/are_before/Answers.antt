use Rattle.std.proofs.Common.{◌≡◌, ◌∙◌, ◌+◌, length, arith, sym, ap, ℕ}
use Rattle.std.specs.Prelude.{min, nat_lt}
use Rattle.arbac_laws.specs.Orders.{need_before}
use Rattle.shared_reqs.specs.Shared.{needs_shared}
use Rattle.shared_reqs.proofs.SharedLemmas.{before_by, before_ends, before_more, before_not, shared_long}
use Rattle.shared_reqs.proofs.shared.are_before.Goals as goal

-- all before are the same, and here the user is before
pub returns-then-precedes : goal.returns-then-precedes
returns-then-precedes c =
    before_by need_before (needs_shared c.args.users.now) (needs_shared c.args.others.now) c.loop-at.at c.user_at-user.result.now
    c.user_at-other.result.now c.user_at-user.ensures c.user_at-other.ensures (sym c.precedes.ensures ∙ c.if-precedes.true)
    ∙ c.loop-at.invariant

-- all before are the same, and here the other is before
pub returns-then-precedes-2 : goal.returns-then-precedes-2
returns-then-precedes-2 c =
    before_not need_before (needs_shared c.args.users.now) (needs_shared c.args.others.now) c.loop-at.at c.user_at-user.result.now
    c.user_at-other.result.now c.user_at-user.ensures c.user_at-other.ensures (sym c.precedes.ensures ∙ c.if-precedes.false)
    (sym c.precedes-in-loop-at.ensures ∙ c.if-precedes-2.true)
    ∙ c.loop-at.invariant

-- neither is before the other
pub loop-at-preserved : goal.loop-at-preserved
loop-at-preserved c =
    before_more need_before (needs_shared c.args.users.now) (needs_shared c.args.others.now) c.loop-at.at (c.loop-at.at + 1)
    c.user_at-user.result.now c.user_at-other.result.now (omega arith) c.user_at-user.ensures c.user_at-other.ensures
    (sym c.precedes.ensures ∙ c.if-precedes.false) (sym c.precedes-in-loop-at.ensures ∙ c.if-precedes-2.false)
    ∙ c.loop-at.invariant

-- there are as many user requirements as users
pub returns : goal.returns
returns c =
    let users = needs_shared c.args.users.now in
    let others = needs_shared c.args.others.now in
    let long = shared_long c.args.users.now in
    let other_long = shared_long c.args.others.now in
    let end : c.loop-at.at ≡ min (length users) (length others) =
    omega (arith, c.loop-at.auto.at-end, c.loop-at-test.false, c.min-count.ensures, long, other_long) in
    let ends : nat_lt (length users) (length others) ≡ nat_lt (length c.args.users.now) (length c.args.others.now) =
    ap (λ (n : ℕ). nat_lt n (length others)) long ∙ ap (λ (n : ℕ). nat_lt (length c.args.users.now) n) other_long in
    sym ends ∙ before_ends need_before c.loop-at.at users others end ∙ c.loop-at.invariant
