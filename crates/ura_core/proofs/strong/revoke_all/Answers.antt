use Rattle.std.proofs.Common.{ℕ, ◌≡◌, ◌∙◌, ◌<◌, sym, subst, arith, true, false}
use Rattle.std.specs.Prelude.{filter, nat_lt, slice_set}
use Rattle.role_order.specs.Roles.{IsIn, has_role}
use Rattle.arbac_policy.specs.Steps.{WeakSteps}
use Rattle.arbac_policy.specs.Verdicts.{WeaksDenied}
use Rattle.ura_core.proofs.StepLemmas.{below_next, below_same, below_all, below_none, split_at, weak_steps_more, weaks_denied_at}
use Rattle.list_words.proofs.GetLemmas.{set_itself}
use Rattle.ura_core.proofs.FallingLemmas.{falling_below}
use Rattle.ura_core.proofs.strong.revoke_all.Goals.{then-has+in-Granted, else-has}
use Rattle.ura_core.proofs.strong.revoke_all.Goals as goal

-- no role is below 0
pub loop-role-init : goal.loop-role-init
loop-role-init c = rw (below_none c.falling-falling.result) (set_itself c.args.list.now c.args.act.now.target c.args.set.now c.requires.set)

-- the roles below were taken away, and this one is refused
pub returns-in-Denied-clause-denied : goal.returns-in-Denied-clause-denied
returns-in-Denied-clause-denied c =
    let there : has_role c.falling-falling.result c.loop-role.role ≡ true = sym c.has.ensures.value ∙ c.if-has.true in
    let split = split_at c.falling-falling.result c.loop-role.role c.falling-falling.ensures.rises there in
    subst (λ roles. WeaksDenied c.args.on c.args.policy.now c.args.users.now c.args.list.now c.args.act.now.admin c.args.act.now.target roles
    c.in-Denied.part)
    (sym split.1 ∙ c.falling-falling.ensures.falling)
    (weaks_denied_at c.args.on c.args.policy.now c.args.users.now c.args.list.now
    (slice_set c.args.list.now c.args.act.now.target c.loop-role.left) c.args.act.now.admin c.args.act.now.target
    (filter (λ x. nat_lt x c.loop-role.role) c.falling-falling.result) c.loop-role.role split.0 c.in-Denied.part c.loop-role.invariant
    c.in-Denied.ensures.denied)

-- the role is taken away where it falls, and else the roles that fall below are as before
pub loop-role-preserved : goal.loop-role-preserved
loop-role-preserved c = elim c.if-has.branch [
  | then-has+in-Granted w ↦
      let there : has_role c.falling-falling.result c.loop-role.role ≡ true = sym c.has.ensures.value ∙ w.if-has.true in
      rw (w.left-is, below_next c.falling-falling.result c.loop-role.role c.falling-falling.ensures.rises there)
      (weak_steps_more c.args.on c.args.policy.now c.args.users.now c.args.list.now (slice_set c.args.list.now c.args.act.now.target c.loop-role.left)
      (slice_set c.args.list.now c.args.act.now.target w.in-Granted.next) c.args.act.now.admin c.args.act.now.target
      (filter (λ x. nat_lt x c.loop-role.role) c.falling-falling.result) c.loop-role.role c.loop-role.invariant w.in-Granted.ensures.granted)
  | else-has w ↦
      let gone : has_role c.falling-falling.result c.loop-role.role ≡ false = sym c.has.ensures.value ∙ w.if-has.false in
      rw (w.left-is, below_same c.falling-falling.result c.loop-role.role gone) c.loop-role.invariant
]

-- each role that falls is one of the order
pub returns-clause-granted : goal.returns-clause-granted
returns-clause-granted c =
    let ends = rw c.order.ensures.order at c.count-count.ensures.order.ends in
    let count = rw c.order.ensures.order at c.count-count.ensures.count in
    let below : (role : ℕ) → IsIn c.falling-falling.result role → role < c.loop-role.role = λ role h.
    let l = falling_below c.args.on c.args.policy.now.order c.args.set.now c.args.act.now.role ends c.requires.role role
    (rw c.falling-falling.ensures.falling at h) in
    omega (arith, l, count)
    in
    subst (λ roles. WeakSteps c.args.on c.args.policy.now c.args.users.now c.args.list.now c.args.act.now.admin c.args.act.now.target roles
    (slice_set c.args.list.now c.args.act.now.target c.loop-role.left))
    (below_all c.falling-falling.result c.loop-role.role below ∙ c.falling-falling.ensures.falling) c.loop-role.invariant
