-- The masks of a set come back from the list of its roles.
use Rattle.std.specs.Prelude.{ℕ, zero, suc, ◌≡◌, ◌+◌, ◌-◌, ◌*◌, ◌%◌, ◌^◌, ◌<◌, ◌≤◌, ◌⊎◌, Bool, true, false}
use Rattle.std.specs.Prelude.{if◌then◌else◌, ◌∷◌, filter, refl}
use Rattle.std.specs.Int.{bit_at}
use Rattle.std.proofs.Common.{arith, ap, ◌∙◌, sym, eqb, ltb, cond, inl, inr}
use Rattle.std.proofs.Math.Nat.{mod-one, mod-eq_of_lt, zero-mul, one-mul}
use Rattle.std.proofs.lemmas.Bool.{ne_eqb, eqb-true}
use Rattle.std.proofs.lemmas.Bool.Decides.{nat_tests}
use Rattle.std.proofs.lemmas.Nat.{mod-pow-add}
use Rattle.std.proofs.lemmas.Nat.Bits.{bit_at-lt}
use Rattle.role_order.specs.declared.TheConstants.{MOST_ROLES, MASK_BITS}
use Rattle.role_order.specs.Roles.{has_role}
use Rattle.role_order.specs.Reach.{count_up}
use Rattle.role_order.specs.Masks.{has_bit, is_held, held_roles, mask_of, low_of, high_of, AreMasks}

-- a bit is 0 or 1
pub bit_cases : (mask k : ℕ) → (bit_at mask k ≡ 0) ⊎ (bit_at mask k ≡ 1)
bit_cases mask k = by_value (bit_at mask k) (bit_at-lt mask k)
  where
    by_value : (b : ℕ) → b < 2 → (b ≡ 0) ⊎ (b ≡ 1)
    by_value zero l = inl refl
    by_value (suc zero) l = inr refl
    by_value (suc (suc b)) l = absurd (omega arith)

pub has_bit_of_one : (mask k : ℕ) → bit_at mask k ≡ 1 → has_bit mask k ≡ true
unfolding has_bit
has_bit_of_one mask k e = rw e refl

pub has_bit_of_zero : (mask k : ℕ) → bit_at mask k ≡ 0 → has_bit mask k ≡ false
unfolding has_bit
has_bit_of_zero mask k e = rw e refl

-- of the numbers counted up, none below the first passes, and each other one as its test says
passed_below : (p : ℕ → Bool) (at n q : ℕ) → q < at → has_role (filter p (count_up at n)) q ≡ false
passed_below p at zero q l = refl
passed_below p at (suc n) q l =
    let other : eqb at q ≡ false = ne_eqb at q (λ e. omega arith) in
    elim (p at) as (λ t. has_role (cond t (at ∷ filter p (count_up (at + 1) n)) (filter p (count_up (at + 1) n))) q ≡ false)
    [ true ↦ rw other (passed_below p (at + 1) n q (omega arith)) | false ↦ passed_below p (at + 1) n q (omega arith) ]

passed : (p : ℕ → Bool) (at n q : ℕ) → at ≤ q → q < at + n → has_role (filter p (count_up at n)) q ≡ p q
passed p at zero q l m = absurd (omega arith)
passed p at (suc n) q l m = by_place (eqb at q) refl (λ k. passed p (at + 1) n q k (omega arith))
  where
    by_place : (t : Bool) → eqb at q ≡ t → (at + 1 ≤ q → has_role (filter p (count_up (at + 1) n)) q ≡ p q)
        → has_role (cond (p at) (at ∷ filter p (count_up (at + 1) n)) (filter p (count_up (at + 1) n))) q ≡ p q
    by_place true e rest =
        let same : at ≡ q = eqb-true at q e in
        let below : has_role (filter p (count_up (at + 1) n)) q ≡ false = passed_below p (at + 1) n q (omega arith) in
        by_test (p at) refl (ap p same) below
      where
        by_test : (t : Bool) → p at ≡ t → p at ≡ p q → has_role (filter p (count_up (at + 1) n)) q ≡ false
            → has_role (cond t (at ∷ filter p (count_up (at + 1) n)) (filter p (count_up (at + 1) n))) q ≡ p q
        by_test true h s b = rw e (sym h ∙ s)
        by_test false h s b = b ∙ sym h ∙ s
    by_place false e rest =
        let later : at + 1 ≤ q = grind (arith, nat_tests) in
        elim (p at) as (λ t. has_role (cond t (at ∷ filter p (count_up (at + 1) n)) (filter p (count_up (at + 1) n))) q ≡ p q)
        [ true ↦ rw e (rest later) | false ↦ rest later ]

-- a role below the count is there where its bit is set
pub has_role-held_roles : (count low high q : ℕ) → q < count → has_role (held_roles count low high) q ≡ is_held low high q
unfolding held_roles
has_role-held_roles count low high q l = passed (is_held low high) 0 count q (omega arith) (omega arith)

-- tests that agree below the width give one mask
same_mask : (p q : ℕ → Bool) (n : ℕ) → ((k : ℕ) → k < n → p k ≡ q k) → mask_of p n ≡ mask_of q n
unfolding mask_of
same_mask p q zero h = refl
same_mask p q (suc n) h =
    let rest : mask_of p n ≡ mask_of q n = same_mask p q n (λ k l. h k (omega arith)) in
    let last : p n ≡ q n = h n (omega arith) in
    rw (last, rest) refl

-- the mask of a number's bits is what of the number is below the width
mask_of-has_bit : (mask n : ℕ) → mask_of (has_bit mask) n ≡ mask % 2 ^ n
unfolding mask_of
mask_of-has_bit mask zero = sym (mod-one mask)
mask_of-has_bit mask (suc n) = by_bit (bit_cases mask n) (mask_of-has_bit mask n) ∙ sym split
  where
    split : mask % 2 ^ (suc n) ≡ bit_at mask n * 2 ^ n + mask % 2 ^ n
    split = let one_more : 1 + n ≡ suc n = omega arith in rw one_more at (mod-pow-add mask 1 n)

    by_bit : (bit_at mask n ≡ 0) ⊎ (bit_at mask n ≡ 1) → mask_of (has_bit mask) n ≡ mask % 2 ^ n
        → (if has_bit mask n then 2 ^ n else 0) + mask_of (has_bit mask) n ≡ bit_at mask n * 2 ^ n + mask % 2 ^ n
    by_bit (inl z) rest = rw (has_bit_of_zero mask n z, z, rest) (ap (λ t. t + mask % 2 ^ n) (sym (zero-mul (2 ^ n))))
    by_bit (inr o) rest = rw (has_bit_of_one mask n o, o, rest) (ap (λ t. t + mask % 2 ^ n) (sym (one-mul (2 ^ n))))

pub low_back : (low high : ℕ) → AreMasks low high → low_of (held_roles MOST_ROLES low high) ≡ low
low_back low high masks =
    same_mask (has_role (held_roles MOST_ROLES low high)) (has_bit low) MASK_BITS (λ k l. has_role-held_roles MOST_ROLES low high k (omega arith) ∙ held k l)
    ∙ mask_of-has_bit low MASK_BITS ∙ mod-eq_of_lt masks.low_fits
  where
    held : (k : ℕ) → k < MASK_BITS → is_held low high k ≡ has_bit low k
    held k l = let below : ltb k MASK_BITS ≡ true = grind (arith, nat_tests) in rw below refl

pub high_back : (low high : ℕ) → AreMasks low high → high_of (held_roles MOST_ROLES low high) ≡ high
high_back low high masks =
    same_mask (λ k. has_role (held_roles MOST_ROLES low high) (MASK_BITS + k)) (has_bit high) (MOST_ROLES - MASK_BITS)
    (λ k l. has_role-held_roles MOST_ROLES low high (MASK_BITS + k) (omega arith) ∙ held k)
    ∙ mask_of-has_bit high (MOST_ROLES - MASK_BITS) ∙ mod-eq_of_lt masks.high_fits
  where
    held : (k : ℕ) → is_held low high (MASK_BITS + k) ≡ has_bit high k
    held k =
        let at : (MASK_BITS + k) - MASK_BITS ≡ k = omega arith in
        let behind : ltb (MASK_BITS + k) MASK_BITS ≡ false = grind (arith, nat_tests) in rw (behind, at) refl
