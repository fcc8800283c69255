use Rattle.std.proofs.Common.{ℕ, ◌≡◌, ◌+◌, ◌-◌, ◌≤◌, ◌∙◌, sym, false, arith}
use Rattle.role_order.specs.declared.TheConstants.{MASK_BITS}
use Rattle.role_order.specs.Roles.{has_role, IsFirstFrom}
use Rattle.role_order.specs.Masks.{has_bit, IsNextBit}
use Rattle.role_order.proofs.MaskLemmas.{first_in_low, first_in_high, none_from, is_role_set}
use Rattle.role_order.proofs.FirstLemmas.{first_from_is, first_from_none}
use Rattle.role_order.proofs.role_set.RoleSet.next_from.Goals.{In-Some, In_ok-next_bit-in-None, After-from_residual}
use Rattle.role_order.proofs.role_set.RoleSet.next_from.Goals as goal

-- the low mask has the bit
in_low : (c : In-Some) → IsFirstFrom c.args.self.now c.args.from c.in-Some.role
in_low c = rw (← c.self.view_is) (first_in_low c.self.inside.low c.self.inside.high c.args.from c.in-Some.role c.self.invariant c.in-Some.ensures.found)

pub returns-in-Some-clause-found : goal.returns-in-Some-clause-found
returns-in-Some-clause-found c = in_low c

pub returns-in-Some-clause-set : goal.returns-in-Some-clause-set
returns-in-Some-clause-set c = rw (← c.self.view_is) (is_role_set c.self.inside.low c.self.inside.high c.self.invariant)

-- the first of a rising list is its least
pub returns-in-Some-clause-value : goal.returns-in-Some-clause-value
returns-in-Some-clause-value c =
    let set = rw c.self.view_is at (is_role_set c.self.inside.low c.self.inside.high c.self.invariant) in
    sym (first_from_is c.args.self.now c.args.from c.in-Some.role set.rises (in_low c))

next : (c : In_ok-next_bit-in-None) → IsNextBit c.self.inside.high (c.args.from - MASK_BITS) c.in_ok-next_bit-in-None.field-0
next c = let at : c.args.from - MASK_BITS ≡ c.saturating_sub.result = omega arith in rw at c.in_ok-next_bit-in-None.ensures.found

-- the low mask has no bit, and the high one does
in_high : (c : In_ok-next_bit-in-None) → IsFirstFrom c.args.self.now c.args.from (MASK_BITS + c.in_ok-next_bit-in-None.field-0)
in_high c = rw (← c.self.view_is)
    (first_in_high c.self.inside.low c.self.inside.high c.args.from c.in_ok-next_bit-in-None.field-0 c.self.invariant c.in-None.ensures.none (next c))

pub returns-in_ok-next_bit-in-None-clause-found : goal.returns-in_ok-next_bit-in-None-clause-found
returns-in_ok-next_bit-in-None-clause-found c = in_high c

pub returns-in_ok-next_bit-in-None-clause-set : goal.returns-in_ok-next_bit-in-None-clause-set
returns-in_ok-next_bit-in-None-clause-set c = rw (← c.self.view_is) (is_role_set c.self.inside.low c.self.inside.high c.self.invariant)

pub returns-in_ok-next_bit-in-None-clause-value : goal.returns-in_ok-next_bit-in-None-clause-value
returns-in_ok-next_bit-in-None-clause-value c =
    let set = rw c.self.view_is at (is_role_set c.self.inside.low c.self.inside.high c.self.invariant) in
    sym (first_from_is c.args.self.now c.args.from (MASK_BITS + c.in_ok-next_bit-in-None.field-0) set.rises (in_high c))

none_behind : (c : After-from_residual) → (k : ℕ) → c.args.from - MASK_BITS ≤ k → has_bit c.self.inside.high k ≡ false
none_behind c k l = let at : c.args.from - MASK_BITS ≡ c.saturating_sub.result = omega arith in c.in_err-next_bit-in-None.ensures.none k (omega arith)

-- neither mask has a bit
none_left : (c : After-from_residual) → (role : ℕ) → c.args.from ≤ role → has_role c.args.self.now role ≡ false
none_left c = rw (← c.self.view_is) (none_from c.self.inside.low c.self.inside.high c.args.from c.self.invariant c.in-None.ensures.none (none_behind c))

pub returns-in_err-next_bit-in-None-clause-none : goal.returns-in_err-next_bit-in-None-clause-none
returns-in_err-next_bit-in-None-clause-none c = rw c.from_residual.ensures (none_left c)

pub returns-in_err-next_bit-in-None-clause-set : goal.returns-in_err-next_bit-in-None-clause-set
returns-in_err-next_bit-in-None-clause-set c = rw (← c.self.view_is) (is_role_set c.self.inside.low c.self.inside.high c.self.invariant)

pub returns-in_err-next_bit-in-None-clause-value : goal.returns-in_err-next_bit-in-None-clause-value
returns-in_err-next_bit-in-None-clause-value c = c.from_residual.ensures ∙ sym (first_from_none c.args.self.now c.args.from (none_left c))
