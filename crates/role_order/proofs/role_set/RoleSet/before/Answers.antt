use Rattle.std.proofs.Common.{◌≡◌, ◌∙◌, Bool, true, false, sym, ap, not, arith, refl}
use Rattle.std.specs.Prelude.{is_some}
use Rattle.role_order.specs.Roles.{has_role, IsFirstFrom}
use Rattle.role_order.proofs.OrderLemmas.{set_order}
use Rattle.role_order.proofs.SetLemmas.{same_set}
use Rattle.role_order.proofs.FirstLemmas.{before_where_first_has, before_where_second_has, not_before_itself, differ_not, differ_first, differ_second}
use Rattle.role_order.proofs.FirstLemmas.{none_at_first}
use Rattle.role_order.proofs.role_set.RoleSet.before.Goals as goal

-- they have the same roles
pub returns-in-None-clause-value : goal.returns-in-None-clause-value
returns-in-None-clause-value c =
    sym (not_before_itself c.args.self.now c.args.other.now
    (same_set c.args.self.now c.args.other.now c.differing.ensures.sets.0.rises c.differing.ensures.sets.1.rises
    (λ q. differ_not (has_role c.args.self.now q) (has_role c.args.other.now q) (sym (c.differing.ensures.differ q)
    ∙ none_at_first c.differing.result q (sym c.in-None.ensures.value)))))

-- the set has the least role of one alone, so that it is before where the other goes on
pub returns-in-Some-clause-value : goal.returns-in-Some-clause-value
returns-in-Some-clause-value c =
    let xs = c.args.self.now in
    let ys = c.args.other.now in
    let role = c.in-Some.role in
    let first : IsFirstFrom c.differing.result 0 role = c.in-Some.ensures.found in
    let mine : has_role xs role ≡ true = sym c.if-has.ensures.value in
    let lacks : has_role ys role ≡ false = differ_first (has_role xs role) (has_role ys role) (sym (c.differing.ensures.differ role) ∙ first.there) mine in
    c.is_some.ensures ∙ ap is_some c.next_from.ensures.value
    ∙ sym (before_where_first_has xs ys role c.differing.ensures.sets.0.rises c.differing.ensures.sets.1.rises
    (λ q l. differ_not (has_role xs q) (has_role ys q) (sym (c.differing.ensures.differ q) ∙ first.none_between q (omega arith) l)) mine lacks)

-- the other has it, so that it is before unless the set goes on
pub returns-in-Some-2-clause-value : goal.returns-in-Some-2-clause-value
returns-in-Some-2-clause-value c =
    let xs = c.args.self.now in
    let ys = c.args.other.now in
    let role = c.in-Some.role in
    let first : IsFirstFrom c.differing.result 0 role = c.in-Some.ensures.found in
    let lacks : has_role xs role ≡ false = sym c.has.ensures.value ∙ c.if-has.false in
    let theirs : has_role ys role ≡ true = differ_second (has_role xs role) (has_role ys role) (sym (c.differing.ensures.differ role)
    ∙ first.there) lacks in
    not_of_some c.is_none.result (is_some c.next_from-in-Some-2.result) c.is_none.ensures ∙ ap (λ r. not (is_some r)) c.next_from-in-Some-2.ensures.value
    ∙ sym (before_where_second_has xs ys role c.differing.ensures.sets.0.rises c.differing.ensures.sets.1.rises
    (λ q l. differ_not (has_role xs q) (has_role ys q) (sym (c.differing.ensures.differ q) ∙ first.none_between q (omega arith) l)) lacks theirs)
  where
    not_of_some : (a b : Bool) → b ≡ not a → a ≡ not b
    not_of_some true b e = rw e refl
    not_of_some false b e = rw e refl

pub returns-in-None-clause-order : goal.returns-in-None-clause-order
returns-in-None-clause-order c = set_order

pub returns-in-Some-clause-order : goal.returns-in-Some-clause-order
returns-in-Some-clause-order c = set_order

pub returns-in-Some-2-clause-order : goal.returns-in-Some-2-clause-order
returns-in-Some-2-clause-order c = set_order
