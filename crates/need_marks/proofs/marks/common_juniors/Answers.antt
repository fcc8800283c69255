use Rattle.std.proofs.Common.{ℕ, ◌≡◌, ◌≤◌, ◌∷◌, true, false, List, length, subst}
use Rattle.std.specs.Prelude.{◌↔◌}
use Rattle.role_order.specs.Roles.{IsIn, IsWithin, common_roles}
use Rattle.role_order.specs.Reach.{seniors_of, juniors_of}
use Rattle.need_marks.proofs.MarkTestLemmas.{common_first}
use Rattle.need_marks.proofs.AimLemmas.{common_more, none_common}
use Rattle.need_marks.proofs.marks.common_juniors.Goals as goal

-- a role that is none of the order is above no role of the set
pub returns-then-role-count : goal.returns-then-role-count
returns-then-role-count c = rw c.empty.ensures (λ q. (
  λ i. absurd (let never : false ≡ true = i in cc),
  λ h.
      let order = c.args.order.now in
      let left = (c.loop-role.invariant.1 q).1 h in
      let past : length order.names ≤ c.in-Some.role = rw c.count.ensures.count at c.if-role-count.true in
      absurd (none_common order c.count.ensures.order.ends c.loop-role.common c.next.new.self c.in-Some.role past c.loop-role.invariant.0 q
      (left.0, subst (λ (roles : List ℕ). IsWithin roles (seniors_of order q)) c.in-Some.ensures.steps left.1)),
))

-- one role less is left
pub loop-role-preserved : goal.loop-role-preserved
loop-role-preserved c =
    let order = c.args.order.now in
    let common = c.loop-role.common in
    let role = c.in-Some.role in
    let is : c.common-common.result ≡ common_roles common (juniors_of order role) = rw c.juniors.ensures.juniors at c.common-common.ensures.common in
    rw is (
      λ q i. c.loop-role.invariant.0 q (common_first common (juniors_of order role) q i),
      λ q.
          let more = common_more order c.count.ensures.order.ends common c.next.new.self role q in
          let before : (IsIn common q × IsWithin (role ∷ c.next.new.self) (seniors_of order q))
          ↔ (IsIn c.args.set q × IsWithin c.args.roles.now (seniors_of order q)) =
          subst (λ (roles : List ℕ). (IsIn common q × IsWithin roles (seniors_of order q))
          ↔ (IsIn c.args.set q × IsWithin c.args.roles.now (seniors_of order q))) c.in-Some.ensures.steps (c.loop-role.invariant.1 q) in
          (λ h. before.0 (more.0 h), λ h. more.1 (before.1 h)),
    )
