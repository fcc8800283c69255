-- Masks and the sets that they stand for.
use Rattle.std.proofs.Common.{ℕ, ◌≡◌, ◌+◌, ◌-◌, ◌*◌, ◌/◌, ◌%◌, ◌^◌, ◌<◌, ◌≤◌, Bool, true, false, not, ◌||◌}
use Rattle.std.proofs.Common.{◌&&◌, cond, eqb, ltb, List, [], ◌∷◌, length, refl, arith, zero, suc, ap, sym, ◌∙◌, inl, inr, subst, min, max}
use Rattle.std.specs.Prelude.{◌⊎◌, filter, bit_and, bit_or, bit_xor, nat_eq, ◌==◌}
use Rattle.std.specs.Bool.{Decides}
use Rattle.std.specs.Cmp.Lexicographic.{pointwise}
use Rattle.std.proofs.lemmas.Slice.Eq.{bytes_eq-Decides}
use Rattle.std.specs.Int.Count.{ones, ones_in}
use Rattle.std.specs.Int.{bit_at, bit_not, trailing_zeros, w128}
use Rattle.std.proofs.lemmas.Bool.{ne_eqb, eq-eqb, eqb-true, false≢true}
use Rattle.std.proofs.lemmas.Bool.Decides.{nat_tests}
use Rattle.std.proofs.Math.Nat.{zero-mul, one-mul, pow-suc}
use Rattle.std.proofs.lemmas.Nat.{or_lt, xor_lt, and_le_l, pow_below, pow_pos, shr-shr, shr_le, ones_cat, div-add-mod', div_below, mod_below}
use Rattle.std.proofs.lemmas.Nat.Bits.{and_pow, bit_at_lowest, bit_at-suc, bit_at-trailing_zeros, bit_at_and, bit_at_or, bit_at_xor, bit_at-zero}
use Rattle.std.proofs.lemmas.Nat.Bits.{bit_at_above, bit_at_not, bit_at-pow_same, bit_at-pow_other}
use Rattle.role_order.specs.declared.TheConstants.{MOST_ROLES, MASK_BITS}
use Rattle.role_order.specs.Reach.{count_up}
use Rattle.role_order.specs.Roles.{has_role, with_role, without_role, less_roles, common_roles, join_roles, Rises, IsFirstFrom, IsRoleSet}
use Rattle.role_order.specs.Masks.{has_bit, is_held, held_roles, low_of, high_of, AreMasks, IsNextBit}
use Rattle.role_order.specs.MasksBack.{bit_cases, has_bit_of_one, has_bit_of_zero, has_role-held_roles, low_back, high_back}
use Rattle.role_order.proofs.SetLemmas.{has_role-filter, has_role-with_role, has_role-join_roles, rises-with_role, rises-join_roles, rises-filter}
use Rattle.role_order.proofs.SetLemmas.{rises-count_up, same_set}
use Rattle.list_words.proofs.TestLemmas.{same_test}

pub bit_of_true : (mask k : ℕ) → has_bit mask k ≡ true → bit_at mask k ≡ 1
unfolding has_bit
bit_of_true mask k e = eqb-true (bit_at mask k) 1 e

pub bit_of_false : (mask k : ℕ) → has_bit mask k ≡ false → bit_at mask k ≡ 0
bit_of_false mask k e = by_cases (bit_cases mask k)
  where
    by_cases : (bit_at mask k ≡ 0) ⊎ (bit_at mask k ≡ 1) → bit_at mask k ≡ 0
    by_cases (inl z) = z
    by_cases (inr o) = absurd (false≢true (sym e ∙ has_bit_of_one mask k o))

-- bits that pass the same test are equal
pub same_bits : (a b k : ℕ) → has_bit a k ≡ has_bit b k → bit_at a k ≡ bit_at b k
same_bits a b k e = by_test (has_bit a k) refl
  where
    by_test : (t : Bool) → has_bit a k ≡ t → bit_at a k ≡ bit_at b k
    by_test true h = bit_of_true a k h ∙ sym (bit_of_true b k (sym e ∙ h))
    by_test false h = bit_of_false a k h ∙ sym (bit_of_false b k (sym e ∙ h))

pub has_bit-or : (a b k : ℕ) → has_bit (bit_or a b) k ≡ (has_bit a k || has_bit b k)
unfolding has_bit
has_bit-or a b k = rw (bit_at_or a b k) (by_cases (bit_cases a k) (bit_cases b k))
  where
    by_cases : (bit_at a k ≡ 0) ⊎ (bit_at a k ≡ 1) → (bit_at b k ≡ 0) ⊎ (bit_at b k ≡ 1)
        → eqb (max (bit_at a k) (bit_at b k)) 1 ≡ (eqb (bit_at a k) 1 || eqb (bit_at b k) 1)
    by_cases (inl x) (inl y) = rw (x, y) refl
    by_cases (inl x) (inr y) = rw (x, y) refl
    by_cases (inr x) (inl y) = rw (x, y) refl
    by_cases (inr x) (inr y) = rw (x, y) refl

pub has_bit-and : (a b k : ℕ) → has_bit (bit_and a b) k ≡ (has_bit a k && has_bit b k)
unfolding has_bit
has_bit-and a b k = rw (bit_at_and a b k) (by_cases (bit_cases a k) (bit_cases b k))
  where
    by_cases : (bit_at a k ≡ 0) ⊎ (bit_at a k ≡ 1) → (bit_at b k ≡ 0) ⊎ (bit_at b k ≡ 1)
        → eqb (min (bit_at a k) (bit_at b k)) 1 ≡ (eqb (bit_at a k) 1 && eqb (bit_at b k) 1)
    by_cases (inl x) (inl y) = rw (x, y) refl
    by_cases (inl x) (inr y) = rw (x, y) refl
    by_cases (inr x) (inl y) = rw (x, y) refl
    by_cases (inr x) (inr y) = rw (x, y) refl

pub has_bit-xor : (a b k : ℕ) → has_bit (bit_xor a b) k ≡ ((has_bit a k && not (has_bit b k)) || (has_bit b k && not (has_bit a k)))
unfolding has_bit
has_bit-xor a b k = rw (bit_at_xor a b k) (by_cases (bit_cases a k) (bit_cases b k))
  where
    by_cases : (bit_at a k ≡ 0) ⊎ (bit_at a k ≡ 1) → (bit_at b k ≡ 0) ⊎ (bit_at b k ≡ 1)
        → eqb ((bit_at a k + bit_at b k) % 2) 1 ≡ ((eqb (bit_at a k) 1 && not (eqb (bit_at b k) 1)) || (eqb (bit_at b k) 1 && not (eqb (bit_at a k) 1)))
    by_cases (inl x) (inl y) = rw (x, y) refl
    by_cases (inl x) (inr y) = rw (x, y) refl
    by_cases (inr x) (inl y) = rw (x, y) refl
    by_cases (inr x) (inr y) = rw (x, y) refl

pub has_bit-pow : (r k : ℕ) → has_bit (2 ^ r) k ≡ (r == k)
has_bit-pow r k = by_test (eqb r k) refl
  where
    by_test : (t : Bool) → eqb r k ≡ t → has_bit (2 ^ r) k ≡ t
    by_test true e = let same : r ≡ k = eqb-true r k e in subst (λ q. has_bit (2 ^ r) q ≡ true) same (has_bit_of_one (2 ^ r) r (bit_at-pow_same r))
    by_test false e = has_bit_of_zero (2 ^ r) k (bit_at-pow_other r k (λ same. false≢true (sym e ∙ eq-eqb r k (sym same))))

-- no bit is set from the width on
pub has_bit_above : (mask width k : ℕ) → mask < 2 ^ width → width ≤ k → has_bit mask k ≡ false
has_bit_above mask width k l m = has_bit_of_zero mask k (bit_at_above mask width k l m)

pub no_bit : (k : ℕ) → has_bit 0 k ≡ false
no_bit k = has_bit_of_zero 0 k (bit_at-zero k)

-- the test `mask & 2 ^ k != 0`
pub tested_bit : (mask k : ℕ) → not (eqb (bit_and mask (2 ^ k)) 0) ≡ has_bit mask k
tested_bit mask k = by_cases (bit_cases mask k)
  where
    by_cases : (bit_at mask k ≡ 0) ⊎ (bit_at mask k ≡ 1) → not (eqb (bit_and mask (2 ^ k)) 0) ≡ has_bit mask k
    by_cases (inl z) =
        let none : bit_and mask (2 ^ k) ≡ 0 = rw (and_pow mask k, z) (zero-mul (2 ^ k)) in
        rw (none, has_bit_of_zero mask k z) refl
    by_cases (inr o) =
        let all : bit_and mask (2 ^ k) ≡ 2 ^ k = rw (and_pow mask k, o) (one-mul (2 ^ k)) in
        let more : 0 < 2 ^ k = pow_pos k in
        let other : eqb (2 ^ k) 0 ≡ false = ne_eqb (2 ^ k) 0 (λ e. omega (arith, e, more)) in
        rw (all, other, has_bit_of_one mask k o) refl

-- a mask that was shifted down
pub bit_at-shifted : (mask from k : ℕ) → bit_at (mask / 2 ^ from) k ≡ bit_at mask (from + k)
bit_at-shifted mask from k = ap (λ n. n % 2) (shr-shr mask from k)

-- no bit is left behind the place
pub none_left : (mask from : ℕ) → mask / 2 ^ from ≡ 0 → (k : ℕ) → from ≤ k → has_bit mask k ≡ false
none_left mask from e k l =
    let at : from + (k - from) ≡ k = omega arith in
    has_bit_of_zero mask k (subst (λ q. bit_at mask q ≡ 0) at (sym (bit_at-shifted mask from (k - from)) ∙ rw e (bit_at-zero (k - from))))

-- the lowest bit of what is left behind the place is the next one
pub next_of_left : (mask from : ℕ) → mask < 2 ^ MASK_BITS → 0 < mask / 2 ^ from → IsNextBit mask from (from + trailing_zeros w128 (mask / 2 ^ from))
next_of_left mask from fits more = record {
  reached = omega arith;
  within = by_order (ltb place MASK_BITS) refl;
  set = has_bit_of_one mask place one;
  none_between = λ k l m.
      let at : from + (k - from) ≡ k = omega arith in
      has_bit_of_zero mask k (subst (λ q. bit_at mask q ≡ 0) at (sym (bit_at-shifted mask from (k - from)) ∙ lowest.2 (k - from) (omega arith)));
}
  where
    left : ℕ
    left = mask / 2 ^ from

    lowest : (trailing_zeros w128 left < MASK_BITS) × (bit_at left (trailing_zeros w128 left) ≡ 1)
        × ((i : ℕ) → i < trailing_zeros w128 left → bit_at left i ≡ 0)
    lowest = bit_at-trailing_zeros w128 left more (omega (arith, shr_le mask from))

    place : ℕ
    place = from + trailing_zeros w128 left

    one : bit_at mask place ≡ 1
    one = sym (bit_at-shifted mask from (trailing_zeros w128 left)) ∙ lowest.1

    by_order : (t : Bool) → ltb place MASK_BITS ≡ t → place < MASK_BITS
    by_order true e = grind (arith, nat_tests)
    by_order false e =
        let past : MASK_BITS ≤ place = grind (arith, nat_tests) in
        absurd (false≢true (sym (has_bit_above mask MASK_BITS place fits past) ∙ has_bit_of_one mask place one))

has_role-count_up_past : (at n q : ℕ) → at + n ≤ q → has_role (count_up at n) q ≡ false
has_role-count_up_past at zero q l = refl
has_role-count_up_past at (suc n) q l =
    let other : eqb at q ≡ false = ne_eqb at q (λ e. omega (arith, e)) in
    rw other (has_role-count_up_past (at + 1) n q (omega arith))

has_role-held_roles_past : (count low high q : ℕ) → count ≤ q → has_role (held_roles count low high) q ≡ false
unfolding held_roles
has_role-held_roles_past count low high q l =
    has_role-filter (is_held low high) (count_up 0 count) q ∙ ap (λ t. t && is_held low high q) (has_role-count_up_past 0 count q (omega arith))

pub rises-held_roles : (count low high : ℕ) → Rises (held_roles count low high)
unfolding held_roles
rises-held_roles count low high = rises-filter (is_held low high) (count_up 0 count) (rises-count_up 0 count)

-- no bit of a number that is no role is set
pub is_held_past : (low high q : ℕ) → AreMasks low high → MOST_ROLES ≤ q → is_held low high q ≡ false
is_held_past low high q masks l =
    let behind : ltb q MASK_BITS ≡ false = grind (arith, nat_tests) in
    rw behind (has_bit_above high (MOST_ROLES - MASK_BITS) (q - MASK_BITS) masks.high_fits (omega arith))

-- a set has just the roles whose bits are set
pub has_role-masks : (low high : ℕ) → AreMasks low high → (q : ℕ) → has_role (held_roles MOST_ROLES low high) q ≡ is_held low high q
has_role-masks low high masks q = by_order (ltb q MOST_ROLES) refl
  where
    by_order : (t : Bool) → ltb q MOST_ROLES ≡ t → has_role (held_roles MOST_ROLES low high) q ≡ is_held low high q
    by_order true e = has_role-held_roles MOST_ROLES low high q (grind (arith, nat_tests))
    by_order false e =
        let past : MOST_ROLES ≤ q = grind (arith, nat_tests) in
        has_role-held_roles_past MOST_ROLES low high q past ∙ sym (is_held_past low high q masks past)

-- the masks of a rising list are those with just its bits
pub set_of_masks : (low high : ℕ) (set : List ℕ) → AreMasks low high → Rises set → ((q : ℕ) → is_held low high q ≡ has_role set q)
    → held_roles MOST_ROLES low high ≡ set
set_of_masks low high set masks rises each =
    same_set (held_roles MOST_ROLES low high) set (rises-held_roles MOST_ROLES low high) rises (λ q. has_role-masks low high masks q ∙ each q)

pub is_role_set : (low high : ℕ) → AreMasks low high → IsRoleSet (held_roles MOST_ROLES low high)
is_role_set low high masks = record {
  rises = rises-held_roles MOST_ROLES low high;
  below = λ q there. by_order q there (ltb q MOST_ROLES) refl;
}
  where
    by_order : (q : ℕ) → has_role (held_roles MOST_ROLES low high) q ≡ true → (t : Bool) → ltb q MOST_ROLES ≡ t → q < MOST_ROLES
    by_order q there true e = grind (arith, nat_tests)
    by_order q there false e =
        let past : MOST_ROLES ≤ q = grind (arith, nat_tests) in
        absurd (false≢true (sym (has_role-held_roles_past MOST_ROLES low high q past) ∙ there))

-- ---- the bit of a role in the mask that has it

pub in_low : (low high q : ℕ) → q < MASK_BITS → is_held low high q ≡ has_bit low q
in_low low high q l = let below : ltb q MASK_BITS ≡ true = grind (arith, nat_tests) in rw below refl

pub in_high : (low high q : ℕ) → MASK_BITS ≤ q → is_held low high q ≡ has_bit high (q - MASK_BITS)
in_high low high q l = let behind : ltb q MASK_BITS ≡ false = grind (arith, nat_tests) in rw behind refl

-- ---- the empty set, a role more and a role less

pub no_masks : AreMasks 0 0
no_masks = record { low_fits = pow_pos MASK_BITS; high_fits = pow_pos (MOST_ROLES - MASK_BITS) }

none_held : (q : ℕ) → is_held 0 0 q ≡ false
none_held q = elim (ltb q MASK_BITS) as (λ t. cond t (has_bit 0 q) (has_bit 0 (q - MASK_BITS)) ≡ false) [
  | true ↦ no_bit q
  | false ↦ no_bit (q - MASK_BITS)
]

pub set_of_none : held_roles MOST_ROLES 0 0 ≡ []
set_of_none = set_of_masks 0 0 [] no_masks tt none_held

pub low_with : (low high r : ℕ) → AreMasks low high → r < MASK_BITS → AreMasks (bit_or low (2 ^ r)) high
low_with low high r masks l = record { low_fits = or_lt MASK_BITS low (2 ^ r) masks.low_fits (pow_below r MASK_BITS l); high_fits = masks.high_fits }

pub high_with : (low high r : ℕ) → AreMasks low high → r < (MOST_ROLES - MASK_BITS) → AreMasks low (bit_or high (2 ^ r))
high_with low high r masks l =
    record { low_fits = masks.low_fits; high_fits = or_lt (MOST_ROLES - MASK_BITS) high (2 ^ r) masks.high_fits (pow_below r (MOST_ROLES - MASK_BITS) l) }

turned_or : (a b : Bool) → (a || b) ≡ (b || a)
turned_or true true = refl
turned_or true false = refl
turned_or false true = refl
turned_or false false = refl

and_true : (b : Bool) → (b && true) ≡ b
and_true true = refl
and_true false = refl

turned_test : (a b : ℕ) → eqb a b ≡ eqb b a
turned_test a b = same_test (eqb a b) (eqb b a) (λ s. let d : a ≡ b = eqb-true a b s in eq-eqb b a (sym d)) (λ s. let d : b ≡ a = eqb-true b a s in
    eq-eqb a b (sym d))

-- two roles of the second mask are the same where their places in it are
same_behind : (r q : ℕ) → MASK_BITS ≤ r → MASK_BITS ≤ q → eqb (r - MASK_BITS) (q - MASK_BITS) ≡ eqb r q
same_behind r q l m =
    same_test (eqb (r - MASK_BITS) (q - MASK_BITS)) (eqb r q)
    (λ s. eq-eqb r q (let d : r - MASK_BITS ≡ q - MASK_BITS = eqb-true (r - MASK_BITS) (q - MASK_BITS) s in omega arith))
    (λ s. let d : r ≡ q = eqb-true r q s in eq-eqb (r - MASK_BITS) (q - MASK_BITS) (ap (λ n. n - MASK_BITS) d))

-- a role below the first mask's end, added
pub set_with_low : (low high r : ℕ) → AreMasks low high → r < MASK_BITS → held_roles MOST_ROLES (bit_or low (2 ^ r)) high ≡ with_role
    (held_roles MOST_ROLES low high) r
set_with_low low high r masks l =
    set_of_masks (bit_or low (2 ^ r)) high (with_role set r) (low_with low high r masks l) (rises-with_role set r (rises-held_roles MOST_ROLES low high))
    (λ q. held q (ltb q MASK_BITS) refl ∙ ap (λ t. (r == q) || t) (sym (has_role-masks low high masks q)) ∙ sym (has_role-with_role set r q))
  where
    set : List ℕ
    set = held_roles MOST_ROLES low high

    held : (q : ℕ) (t : Bool) → ltb q MASK_BITS ≡ t
        → cond t (has_bit (bit_or low (2 ^ r)) q) (has_bit high (q - MASK_BITS)) ≡ ((r == q) || cond t (has_bit low q) (has_bit high (q - MASK_BITS)))
    held q true e = has_bit-or low (2 ^ r) q ∙ ap (λ t. has_bit low q || t) (has_bit-pow r q) ∙ turned_or (has_bit low q) (eqb r q)
    held q false e = let other : eqb r q ≡ false = ne_eqb r q (λ s. absurd (grind (arith, nat_tests))) in rw other refl

-- a role from the second mask's begin on, added
pub set_with_high : (low high r : ℕ) → AreMasks low high → MASK_BITS ≤ r → r < MOST_ROLES
    → held_roles MOST_ROLES low (bit_or high (2 ^ (r - MASK_BITS))) ≡ with_role (held_roles MOST_ROLES low high) r
set_with_high low high r masks l m =
    set_of_masks low (bit_or high (2 ^ (r - MASK_BITS))) (with_role set r) (high_with low high (r - MASK_BITS) masks (omega arith))
    (rises-with_role set r (rises-held_roles MOST_ROLES low high))
    (λ q. held q (ltb q MASK_BITS) refl ∙ ap (λ t. (r == q) || t) (sym (has_role-masks low high masks q)) ∙ sym (has_role-with_role set r q))
  where
    set : List ℕ
    set = held_roles MOST_ROLES low high

    held : (q : ℕ) (t : Bool) → ltb q MASK_BITS ≡ t
        → cond t (has_bit low q) (has_bit (bit_or high (2 ^ (r - MASK_BITS))) (q - MASK_BITS)) ≡ ((r == q) || cond t (has_bit low q)
        (has_bit high (q - MASK_BITS)))
    held q true e = let other : eqb r q ≡ false = ne_eqb r q (λ s. absurd (grind (arith, nat_tests))) in rw other refl
    held q false e =
        has_bit-or high (2 ^ (r - MASK_BITS)) (q - MASK_BITS)
        ∙ ap (λ t. has_bit high (q - MASK_BITS) || t) (has_bit-pow (r - MASK_BITS) (q - MASK_BITS) ∙ same_behind r q l (grind (arith, nat_tests)))
        ∙ turned_or (has_bit high (q - MASK_BITS)) (eqb r q)

-- ---- the roles of one or the other, of both, and of the first alone

pub joined_masks : (a b c d : ℕ) → AreMasks a b → AreMasks c d → AreMasks (bit_or a c) (bit_or b d)
joined_masks a b c d m n =
    record { low_fits = or_lt MASK_BITS a c m.low_fits n.low_fits; high_fits = or_lt (MOST_ROLES - MASK_BITS) b d m.high_fits n.high_fits }

pub joined_set : (a b c d : ℕ) → AreMasks a b → AreMasks c d → held_roles MOST_ROLES (bit_or a c) (bit_or b d) ≡ join_roles
    (held_roles MOST_ROLES a b) (held_roles MOST_ROLES c d)
joined_set a b c d m n =
    set_of_masks (bit_or a c) (bit_or b d) (join_roles xs ys) (joined_masks a b c d m n) (rises-join_roles xs ys (rises-held_roles MOST_ROLES c d))
    (λ q. held q ∙ ap (λ t. t || is_held c d q) (sym (has_role-masks a b m q)) ∙ ap (λ t. has_role xs q || t) (sym (has_role-masks c d n q))
    ∙ sym (has_role-join_roles xs ys q))
  where
    xs : List ℕ
    xs = held_roles MOST_ROLES a b

    ys : List ℕ
    ys = held_roles MOST_ROLES c d

    held : (q : ℕ) → is_held (bit_or a c) (bit_or b d) q ≡ (is_held a b q || is_held c d q)
    held q =
        elim (ltb q MASK_BITS) as
        (λ t. cond t (has_bit (bit_or a c) q) (has_bit (bit_or b d) (q - MASK_BITS)) ≡ (cond t (has_bit a q) (has_bit b (q - MASK_BITS)) || cond t
        (has_bit c q) (has_bit d (q - MASK_BITS))))
        [ true ↦ has_bit-or a c q | false ↦ has_bit-or b d (q - MASK_BITS) ]

-- ---- both, the first alone, and those that differ

common_masks : (a b c d : ℕ) → AreMasks a b → AreMasks (bit_and a c) (bit_and b d)
common_masks a b c d m = record { low_fits = omega (arith, m.low_fits, and_le_l a c); high_fits = omega (arith, m.high_fits, and_le_l b d) }

pub common_set : (a b c d : ℕ) → AreMasks a b → AreMasks c d
    → held_roles MOST_ROLES (bit_and a c) (bit_and b d) ≡ common_roles (held_roles MOST_ROLES a b) (held_roles MOST_ROLES c d)
common_set a b c d m n =
    set_of_masks (bit_and a c) (bit_and b d) (common_roles xs ys) (common_masks a b c d m) (rises-filter (has_role ys) xs (rises-held_roles MOST_ROLES a b))
    (λ q. held q ∙ ap (λ t. t && is_held c d q) (sym (has_role-masks a b m q)) ∙ ap (λ t. has_role xs q && t) (sym (has_role-masks c d n q))
    ∙ sym (has_role-filter (has_role ys) xs q))
  where
    xs : List ℕ
    xs = held_roles MOST_ROLES a b

    ys : List ℕ
    ys = held_roles MOST_ROLES c d

    held : (q : ℕ) → is_held (bit_and a c) (bit_and b d) q ≡ (is_held a b q && is_held c d q)
    held q =
        elim (ltb q MASK_BITS) as
        (λ t. cond t (has_bit (bit_and a c) q)
        (has_bit (bit_and b d) (q - MASK_BITS)) ≡ (cond t (has_bit a q) (has_bit b (q - MASK_BITS)) && cond t (has_bit c q) (has_bit d (q - MASK_BITS))))
        [ true ↦ has_bit-and a c q | false ↦ has_bit-and b d (q - MASK_BITS) ]

-- `a & !c` has the bits of the first that the second lacks
pub has_bit-less : (a c k : ℕ) → a < 2 ^ MASK_BITS → c < 2 ^ MASK_BITS → has_bit (bit_and a (bit_not w128 c)) k ≡ (has_bit a k && not (has_bit c k))
has_bit-less a c k m n = has_bit-and a (bit_not w128 c) k ∙ by_order (ltb k MASK_BITS) refl
  where
    by_bit : k < MASK_BITS → (t : Bool) → has_bit c k ≡ t → has_bit (bit_not w128 c) k ≡ not t
    by_bit l true e = has_bit_of_zero (bit_not w128 c) k (bit_at_not w128 c k n l ∙ rw (bit_of_true c k e) refl)
    by_bit l false e = has_bit_of_one (bit_not w128 c) k (bit_at_not w128 c k n l ∙ rw (bit_of_false c k e) refl)

    by_order : (t : Bool) → ltb k MASK_BITS ≡ t → (has_bit a k && has_bit (bit_not w128 c) k) ≡ (has_bit a k && not (has_bit c k))
    by_order true e = let l : k < MASK_BITS = grind (arith, nat_tests) in ap (λ t. has_bit a k && t) (by_bit l (has_bit c k) refl)
    by_order false e = let l : MASK_BITS ≤ k = grind (arith, nat_tests) in rw (has_bit_above a MASK_BITS k m l) refl

-- a high mask is below a whole one
wide : (mask : ℕ) → mask < 2 ^ (MOST_ROLES - MASK_BITS) → mask < 2 ^ MASK_BITS
wide mask l = omega (arith, l, pow_below (MOST_ROLES - MASK_BITS) MASK_BITS (omega arith))

lesser_masks : (a b c d : ℕ) → AreMasks a b → AreMasks (bit_and a (bit_not w128 c)) (bit_and b (bit_not w128 d))
lesser_masks a b c d m = common_masks a b (bit_not w128 c) (bit_not w128 d) m

pub lesser_set : (a b c d : ℕ) → AreMasks a b → AreMasks c d
    → held_roles MOST_ROLES (bit_and a (bit_not w128 c)) (bit_and b (bit_not w128 d)) ≡ less_roles (held_roles MOST_ROLES a b) (held_roles MOST_ROLES c d)
lesser_set a b c d m n =
    set_of_masks (bit_and a (bit_not w128 c)) (bit_and b (bit_not w128 d)) (less_roles xs ys) (lesser_masks a b c d m)
    (rises-filter (λ q. not (has_role ys q)) xs (rises-held_roles MOST_ROLES a b))
    (λ q. held q ∙ ap (λ t. t && not (is_held c d q)) (sym (has_role-masks a b m q)) ∙ ap (λ t. has_role xs q && not t) (sym (has_role-masks c d n q))
    ∙ sym (has_role-filter (λ q. not (has_role ys q)) xs q))
  where
    xs : List ℕ
    xs = held_roles MOST_ROLES a b

    ys : List ℕ
    ys = held_roles MOST_ROLES c d

    held : (q : ℕ) → is_held (bit_and a (bit_not w128 c)) (bit_and b (bit_not w128 d)) q ≡ (is_held a b q && not (is_held c d q))
    held q =
        elim (ltb q MASK_BITS) as (λ t. cond t (has_bit (bit_and a (bit_not w128 c)) q) (has_bit (bit_and b (bit_not w128 d)) (q - MASK_BITS))
        ≡ (cond t (has_bit a q) (has_bit b (q - MASK_BITS)) && not (cond t (has_bit c q) (has_bit d (q - MASK_BITS)))))
        [ true ↦ has_bit-less a c q m.low_fits n.low_fits | false ↦ has_bit-less b d (q - MASK_BITS) (wide b m.high_fits) (wide d n.high_fits) ]

-- a role below the first mask's end, taken out
pub set_without_low : (low high r : ℕ) → AreMasks low high → r < MASK_BITS
    → held_roles MOST_ROLES (bit_and low (bit_not w128 (2 ^ r))) high ≡ without_role (held_roles MOST_ROLES low high) r
set_without_low low high r masks l =
    set_of_masks (bit_and low (bit_not w128 (2 ^ r))) high (without_role set r) fits
    (rises-filter (λ x. not (x == r)) set (rises-held_roles MOST_ROLES low high))
    (λ q. held q (ltb q MASK_BITS) refl ∙ ap (λ t. t && not (q == r)) (sym (has_role-masks low high masks q))
    ∙ sym (has_role-filter (λ x. not (x == r)) set q))
  where
    set : List ℕ
    set = held_roles MOST_ROLES low high

    fits : AreMasks (bit_and low (bit_not w128 (2 ^ r))) high
    fits = record { low_fits = omega (arith, masks.low_fits, and_le_l low (bit_not w128 (2 ^ r))); high_fits = masks.high_fits }

    held : (q : ℕ) (t : Bool) → ltb q MASK_BITS ≡ t
        → cond t (has_bit (bit_and low (bit_not w128 (2 ^ r))) q)
        (has_bit high (q - MASK_BITS)) ≡ (cond t (has_bit low q) (has_bit high (q - MASK_BITS)) && not (q == r))
    held q true e =
        has_bit-less low (2 ^ r) q masks.low_fits (pow_below r MASK_BITS l) ∙ ap (λ t. has_bit low q && not t) (has_bit-pow r q ∙ turned_test r q)
    held q false e = let other : eqb q r ≡ false = ne_eqb q r (λ s. absurd (grind (arith, nat_tests))) in
        rw other (sym (and_true (has_bit high (q - MASK_BITS))))

-- a role from the second mask's begin on, taken out
pub set_without_high : (low high r : ℕ) → AreMasks low high → MASK_BITS ≤ r → r < 2 * MASK_BITS
    → held_roles MOST_ROLES low (bit_and high (bit_not w128 (2 ^ (r - MASK_BITS)))) ≡ without_role (held_roles MOST_ROLES low high) r
set_without_high low high r masks l m =
    set_of_masks low (bit_and high (bit_not w128 (2 ^ (r - MASK_BITS)))) (without_role set r) fits
    (rises-filter (λ x. not (x == r)) set (rises-held_roles MOST_ROLES low high))
    (λ q. held q (ltb q MASK_BITS) refl ∙ ap (λ t. t && not (q == r)) (sym (has_role-masks low high masks q))
    ∙ sym (has_role-filter (λ x. not (x == r)) set q))
  where
    set : List ℕ
    set = held_roles MOST_ROLES low high

    fits : AreMasks low (bit_and high (bit_not w128 (2 ^ (r - MASK_BITS))))
    fits = record { low_fits = masks.low_fits; high_fits = omega (arith, masks.high_fits, and_le_l high (bit_not w128 (2 ^ (r - MASK_BITS)))) }

    held : (q : ℕ) (t : Bool) → ltb q MASK_BITS ≡ t
        → cond t (has_bit low q) (has_bit (bit_and high (bit_not w128 (2 ^ (r - MASK_BITS)))) (q - MASK_BITS)) ≡ (cond t (has_bit low q)
        (has_bit high (q - MASK_BITS)) && not (q == r))
    held q true e = let other : eqb q r ≡ false = ne_eqb q r (λ s. absurd (grind (arith, nat_tests))) in rw other (sym (and_true (has_bit low q)))
    held q false e =
        let from : MASK_BITS ≤ q = grind (arith, nat_tests) in
        has_bit-less high (2 ^ (r - MASK_BITS)) (q - MASK_BITS) (wide high masks.high_fits) (pow_below (r - MASK_BITS) MASK_BITS (omega arith))
        ∙ ap (λ t. has_bit high (q - MASK_BITS) && not t) (has_bit-pow (r - MASK_BITS) (q - MASK_BITS) ∙ same_behind r q l from ∙ turned_test r q)

-- a number that is no role, taken out
pub set_without_none : (low high r : ℕ) → AreMasks low high → 2 * MASK_BITS ≤ r
    → held_roles MOST_ROLES low high ≡ without_role (held_roles MOST_ROLES low high) r
set_without_none low high r masks l =
    set_of_masks low high (without_role set r) masks (rises-filter (λ x. not (x == r)) set (rises-held_roles MOST_ROLES low high))
    (λ q. held q (eqb q r) refl ∙ ap (λ t. t && not (q == r)) (sym (has_role-masks low high masks q)) ∙ sym (has_role-filter (λ x. not (x == r)) set q))
  where
    set : List ℕ
    set = held_roles MOST_ROLES low high

    held : (q : ℕ) (t : Bool) → eqb q r ≡ t → is_held low high q ≡ (is_held low high q && not t)
    held q true e =
        let same : q ≡ r = eqb-true q r e in
        let past : is_held low high q ≡ false = is_held_past low high q masks (omega arith) in rw past refl
    held q false e = sym (and_true (is_held low high q))

-- the roles that one has and the other lacks
pub differing_masks : (a b c d : ℕ) → AreMasks a b → AreMasks c d → AreMasks (bit_xor a c) (bit_xor b d)
differing_masks a b c d m n =
    record { low_fits = xor_lt MASK_BITS a c m.low_fits n.low_fits; high_fits = xor_lt (MOST_ROLES - MASK_BITS) b d m.high_fits n.high_fits }

pub has_role-differing : (a b c d : ℕ) → AreMasks a b → AreMasks c d → (q : ℕ)
    → has_role (held_roles MOST_ROLES (bit_xor a c) (bit_xor b d)) q
    ≡ ((has_role (held_roles MOST_ROLES a b) q && not (has_role (held_roles MOST_ROLES c d) q))
    || (has_role (held_roles MOST_ROLES c d) q && not (has_role (held_roles MOST_ROLES a b) q)))
has_role-differing a b c d m n q =
    rw (has_role-masks (bit_xor a c) (bit_xor b d) (differing_masks a b c d m n) q, has_role-masks a b m q, has_role-masks c d n q)
    (elim (ltb q MASK_BITS) as (λ t. cond t (has_bit (bit_xor a c) q) (has_bit (bit_xor b d) (q - MASK_BITS))
    ≡ ((cond t (has_bit a q) (has_bit b (q - MASK_BITS)) && not (cond t (has_bit c q) (has_bit d (q - MASK_BITS))))
    || (cond t (has_bit c q) (has_bit d (q - MASK_BITS)) && not (cond t (has_bit a q) (has_bit b (q - MASK_BITS))))))
    [ true ↦ has_bit-xor a c q | false ↦ has_bit-xor b d (q - MASK_BITS) ])

-- ---- sets that are equal, and the empty one

-- one list has one pair of masks
pub same_masks : (a b c d : ℕ) → AreMasks a b → AreMasks c d → held_roles MOST_ROLES a b ≡ held_roles MOST_ROLES c d → (a ≡ c) × (b ≡ d)
same_masks a b c d m n e = (
  sym (low_back a b m) ∙ ap low_of e ∙ low_back c d n,
  sym (high_back a b m) ∙ ap high_of e ∙ high_back c d n,
)

-- the empty list has no bits
pub masks_of_none : (low high : ℕ) → AreMasks low high → held_roles MOST_ROLES low high ≡ [] → (low ≡ 0) × (high ≡ 0)
masks_of_none low high masks e = same_masks low high 0 0 masks no_masks (e ∙ sym set_of_none)

pub set_of_masks_none : (low high : ℕ) → low ≡ 0 → high ≡ 0 → held_roles MOST_ROLES low high ≡ []
set_of_masks_none low high e f = rw (e, f) set_of_none

-- both masks are equal where the lists are
pub equal_masks : (a b c d : ℕ) → AreMasks a b → AreMasks c d → (t : Bool) → (t ≡ true → (a ≡ c) × (b ≡ d))
    → ((a ≡ c) × (b ≡ d) → t ≡ true)
    → t ≡ pointwise nat_eq (held_roles MOST_ROLES a b) (held_roles MOST_ROLES c d)
equal_masks a b c d m n t to from =
    same_test t (pointwise nat_eq (held_roles MOST_ROLES a b) (held_roles MOST_ROLES c d))
    (λ h. let e = to h in decides.1 (ap (λ v. held_roles MOST_ROLES v b) e.0 ∙ ap (λ v. held_roles MOST_ROLES c v) e.1))
    (λ h. from (same_masks a b c d m n (decides.0 h)))
  where
    decides : Decides (pointwise nat_eq (held_roles MOST_ROLES a b) (held_roles MOST_ROLES c d)) (held_roles MOST_ROLES a b ≡ held_roles MOST_ROLES c d)
    decides = bytes_eq-Decides (held_roles MOST_ROLES a b) (held_roles MOST_ROLES c d)

-- ---- how many roles there are

half_fits : (mask n : ℕ) → mask < 2 ^ suc n → mask / 2 < 2 ^ n
half_fits mask n l = div_below mask 2 (2 ^ n) (omega arith) (rw (pow-suc 2 n) at l)

ones_of_0 : ones 0 ≡ 0
unfolding ones ones_in
ones_of_0 = refl

ones_of_1 : ones 1 ≡ 1
unfolding ones ones_in
ones_of_1 = refl

-- a mask's bits are its lowest one and those of its half
ones_halved : (mask : ℕ) → ones mask ≡ ones (mask / 2) + ones (mask % 2)
ones_halved mask =
    let low : mask % 2 < 2 = mod_below mask 2 (omega arith) in
    let whole : mask / 2 * 2 + mask % 2 ≡ mask = div-add-mod' mask 2 in
    ap ones (sym whole) ∙ ones_cat 1 (mask / 2) (mask % 2) low

has_bit-suc : (mask k : ℕ) → has_bit mask (suc k) ≡ has_bit (mask / 2) k
unfolding has_bit
has_bit-suc mask k = ap (λ b. eqb b 1) (bit_at-suc mask k)

-- of the numbers from one on, as many pass as the mask has bits whose tests they pass
passed_ones : (p : ℕ → Bool) (at n mask : ℕ) → mask < 2 ^ n → ((k : ℕ) → k < n → p (at + k) ≡ has_bit mask k)
    → length (filter p (count_up at n)) ≡ ones mask
passed_ones p at zero mask fits same = let none : mask ≡ 0 = omega (arith, fits) in rw none (sym ones_of_0)
passed_ones p at (suc n) mask fits same =
    let rest : length (filter p (count_up (at + 1) n)) ≡ ones (mask / 2) =
    passed_ones p (at + 1) n (mask / 2) (half_fits mask n fits) (λ k l.
    let at_k : (at + 1) + k ≡ at + suc k = omega arith in rw at_k (same (suc k) (omega arith) ∙ has_bit-suc mask k)) in
    let here : at + 0 ≡ at = omega arith in
    by_bit (bit_cases mask 0) (rw here at (same 0 (omega arith))) rest
  where
    by_bit : (bit_at mask 0 ≡ 0) ⊎ (bit_at mask 0 ≡ 1) → p at ≡ has_bit mask 0 → length (filter p (count_up (at + 1) n)) ≡ ones (mask / 2)
        → length (cond (p at) (at ∷ filter p (count_up (at + 1) n)) (filter p (count_up (at + 1) n))) ≡ ones mask
    by_bit (inl z) first rest =
        let low : mask % 2 ≡ 0 = sym (bit_at_lowest mask) ∙ z in
        rw (first, has_bit_of_zero mask 0 z) (rest ∙ sym (ones_halved mask ∙ rw (low, ones_of_0) (omega arith)))
    by_bit (inr o) first rest =
        let low : mask % 2 ≡ 1 = sym (bit_at_lowest mask) ∙ o in
        rw (first, has_bit_of_one mask 0 o) (ap suc rest ∙ sym (ones_halved mask ∙ rw (low, ones_of_1) (omega arith)))

passed_both : (p : ℕ → Bool) (at m n : ℕ) → length (filter p (count_up at (m + n))) ≡ length (filter p (count_up at m)) + length
    (filter p (count_up (at + m) n))
passed_both p at zero n =
    let all : 0 + n ≡ n = omega arith in
    let from : at + 0 ≡ at = omega arith in rw (all, from) (omega arith)
passed_both p at (suc m) n =
    let all : suc m + n ≡ suc (m + n) = omega arith in
    let from : at + suc m ≡ (at + 1) + m = omega arith in
    rw (all, from) (by_test (p at) (passed_both p (at + 1) m n))
  where
    by_test : (t : Bool) → length (filter p (count_up (at + 1) (m + n))) ≡ length (filter p (count_up (at + 1) m)) + length
        (filter p (count_up ((at + 1) + m) n))
        → length (cond t (at ∷ filter p (count_up (at + 1) (m + n))) (filter p (count_up (at + 1) (m + n))))
        ≡ length (cond t (at ∷ filter p (count_up (at + 1) m)) (filter p (count_up (at + 1) m))) + length (filter p (count_up ((at + 1) + m) n))
    by_test true e = omega (arith, e)
    by_test false e = e

-- a set has as many roles as its masks have bits
pub length-held_roles : (m n low high : ℕ) → m ≡ MASK_BITS → low < 2 ^ m → high < 2 ^ n
    → length (held_roles (m + n) low high) ≡ ones low + ones high
unfolding held_roles
length-held_roles m n low high width low_fits high_fits =
    passed_both (is_held low high) 0 m n
    ∙ rw (passed_ones (is_held low high) 0 m low low_fits in_low, passed_ones (is_held low high) (0 + m) n high high_fits in_high) refl
  where
    in_low : (k : ℕ) → k < m → is_held low high (0 + k) ≡ has_bit low k
    in_low k l =
        let at : 0 + k ≡ k = omega arith in
        let below : ltb k MASK_BITS ≡ true = grind (arith, nat_tests) in rw (at, below) refl

    in_high : (k : ℕ) → k < n → is_held low high ((0 + m) + k) ≡ has_bit high k
    in_high k l =
        let at : ((0 + m) + k) - MASK_BITS ≡ k = omega arith in
        let behind : ltb ((0 + m) + k) MASK_BITS ≡ false = grind (arith, nat_tests) in rw (behind, at) refl

-- ---- the least role from a number on

-- the low mask has a bit there
pub first_in_low : (low high from place : ℕ) → AreMasks low high → IsNextBit low from place → IsFirstFrom (held_roles MOST_ROLES low high) from place
first_in_low low high from place masks next = record {
  there = has_role-masks low high masks place ∙ in_low low high place next.within ∙ next.set;
  reached = next.reached;
  none_between = λ other l m. has_role-masks low high masks other ∙ in_low low high other (omega (arith, next.within)) ∙ next.none_between other l m;
}

-- the low mask has none, and the high one does
pub first_in_high : (low high from place : ℕ) → AreMasks low high → ((k : ℕ) → from ≤ k → has_bit low k ≡ false)
    → IsNextBit high (from - MASK_BITS) place
    → IsFirstFrom (held_roles MOST_ROLES low high) from (MASK_BITS + place)
first_in_high low high from place masks none next = record {
  there = has_role-masks low high masks (MASK_BITS + place) ∙ in_high low high (MASK_BITS + place) (omega arith)
      ∙ (let at : (MASK_BITS + place) - MASK_BITS ≡ place = omega arith in rw at next.set);
  reached = omega (arith, next.reached);
  none_between = λ other l m. has_role-masks low high masks other ∙ by_half other l m (ltb other MASK_BITS) refl;
}
  where
    by_half : (other : ℕ) → from ≤ other → other < MASK_BITS + place → (t : Bool) → ltb other MASK_BITS ≡ t
        → cond t (has_bit low other) (has_bit high (other - MASK_BITS)) ≡ false
    by_half other l m true e = none other l
    by_half other l m false e =
        let behind : MASK_BITS ≤ other = grind (arith, nat_tests) in
        next.none_between (other - MASK_BITS) (omega arith) (omega arith)

-- neither has
pub none_from : (low high from : ℕ) → AreMasks low high → ((k : ℕ) → from ≤ k → has_bit low k ≡ false)
    → ((k : ℕ) → from - MASK_BITS ≤ k → has_bit high k ≡ false)
    → (role : ℕ) → from ≤ role → has_role (held_roles MOST_ROLES low high) role ≡ false
none_from low high from masks none nor role l =
    has_role-masks low high masks role
    ∙ (elim (ltb role MASK_BITS) as (λ t. cond t (has_bit low role) (has_bit high (role - MASK_BITS)) ≡ false) [
      | true ↦ none role l
      | false ↦ nor (role - MASK_BITS) (omega arith)
    ])
