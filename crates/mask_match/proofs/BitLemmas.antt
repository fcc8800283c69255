-- Bits of masks of 128 bits.
use Rattle.std.proofs.Common.{ℕ, ◌≡◌, ◌+◌, ◌-◌, ◌^◌, ◌<◌, ◌≤◌, ltb, zero, suc, refl, arith, sym, ◌∙◌, inl, inr, subst, min, max, true, false, Bool}
use Rattle.std.specs.Prelude.{◌⊎◌, ◌↔◌, bit_and, bit_or}
use Rattle.std.specs.Int.{bit_at, bit_not, trailing_zeros, w128}
use Rattle.std.proofs.lemmas.Bool.{cases_eq}
use Rattle.std.proofs.lemmas.Bool.Decides.{nat_tests}
use Rattle.std.proofs.Math.Nat.{zero-mul}
use Rattle.std.proofs.lemmas.Nat.{or_disjoint, and_le_l, pow_pos}
use Rattle.std.proofs.lemmas.Nat.Bits.{and_pow, bit_at-lt, bit_at-trailing_zeros, bit_at_and, bit_at_or, bit_at-zero, bit_at_above, bit_at_not}
use Rattle.std.proofs.lemmas.Nat.Bits.{bit_at-pow_same, bit_at-pow_other}
use Rattle.mask_match.specs.Holding.{IsOpen}

pub bit_cases : (n k : ℕ) → (bit_at n k ≡ 0) ⊎ (bit_at n k ≡ 1)
bit_cases n k = by_value (bit_at n k) (bit_at-lt n k)
  where
    by_value : (b : ℕ) → b < 2 → (b ≡ 0) ⊎ (b ≡ 1)
    by_value zero l = inl refl
    by_value (suc zero) l = inr refl
    by_value (suc (suc b)) l = absurd (omega arith)

-- the bits of a row that aren't seen
abbrev pub left_open : ℕ → ℕ → ℕ
left_open row seen = bit_and row (bit_not w128 seen)

pub is_open : (row seen k : ℕ) → row < 2 ^ 128 → seen < 2 ^ 128 → bit_at (left_open row seen) k ≡ 1 → IsOpen row seen k
is_open row seen k l m e =
    let both : min (bit_at row k) (bit_at (bit_not w128 seen) k) ≡ 1 = sym (bit_at_and row (bit_not w128 seen) k) ∙ e in
    by_bits both (bit_cases row k)
  where
    by_order : (w : Bool) → ltb k 128 ≡ w → bit_at row k ≡ 1 → min (bit_at row k) (bit_at (bit_not w128 seen) k) ≡ 1 → IsOpen row seen k
    by_order true h o both =
        let within : k < 128 = grind (arith, nat_tests) in
        let unseen : bit_at (bit_not w128 seen) k ≡ 1 - bit_at seen k = bit_at_not w128 seen k m within in
        record { within = within; set = o; unseen = by_seen unseen o both (bit_cases seen k) }
      where
        by_seen : bit_at (bit_not w128 seen) k ≡ 1 - bit_at seen k → bit_at row k ≡ 1
            → min (bit_at row k) (bit_at (bit_not w128 seen) k) ≡ 1 → (bit_at seen k ≡ 0) ⊎ (bit_at seen k ≡ 1) → bit_at seen k ≡ 0
        by_seen u o both (inl z) = z
        by_seen u o both (inr s) = absurd (omega (arith, u, both))
    by_order false h o both =
        let past : 128 ≤ k = grind (arith, nat_tests) in
        let no : bit_at row k ≡ 0 = bit_at_above row 128 k l past in absurd (omega (arith, no, o))

    by_bits : min (bit_at row k) (bit_at (bit_not w128 seen) k) ≡ 1 → (bit_at row k ≡ 0) ⊎ (bit_at row k ≡ 1) → IsOpen row seen k
    by_bits both (inl z) = absurd (omega (arith, both, z))
    by_bits both (inr o) = by_order (ltb k 128) refl o both

-- the lowest of some bits that aren't seen
pub open_lowest : (row seen n : ℕ) → row < 2 ^ 128 → seen < 2 ^ 128 → n ≤ left_open row seen → 0 < n
    → ((k : ℕ) → bit_at n k ≡ 1 → bit_at (left_open row seen) k ≡ 1) → IsOpen row seen (trailing_zeros w128 n)
open_lowest row seen n l m few more within =
    let fits : n < 2 ^ 128 = omega (arith, and_le_l row (bit_not w128 seen)) in
    let lowest = bit_at-trailing_zeros w128 n more fits in
    is_open row seen (trailing_zeros w128 n) l m (within (trailing_zeros w128 n) lowest.1)

pub open_and : (row seen free k : ℕ) → bit_at (bit_and (left_open row seen) free) k ≡ 1 → bit_at (left_open row seen) k ≡ 1
open_and row seen free k e =
    let both : min (bit_at (left_open row seen) k) (bit_at free k) ≡ 1 = sym (bit_at_and (left_open row seen) free k) ∙ e in
    by_bits both (bit_cases (left_open row seen) k)
  where
    by_bits : min (bit_at (left_open row seen) k) (bit_at free k) ≡ 1 → (bit_at (left_open row seen) k ≡ 0) ⊎ (bit_at (left_open row seen) k ≡ 1)
        → bit_at (left_open row seen) k ≡ 1
    by_bits both (inl z) = absurd (omega (arith, both, z))
    by_bits both (inr o) = o

-- where no bit is left, all are seen
pub none_open : (row seen : ℕ) → row < 2 ^ 128 → seen < 2 ^ 128 → left_open row seen ≡ 0 → (k : ℕ) → bit_at row k ≡ 1 → bit_at seen k ≡ 1
none_open row seen l m none k o = by_bits (bit_cases seen k)
  where
    within : (w : Bool) → ltb k 128 ≡ w → k < 128
    within true h = grind (arith, nat_tests)
    within false h =
        let past : 128 ≤ k = grind (arith, nat_tests) in
        let no : bit_at row k ≡ 0 = bit_at_above row 128 k l past in absurd (omega (arith, no, o))

    by_bits : (bit_at seen k ≡ 0) ⊎ (bit_at seen k ≡ 1) → bit_at seen k ≡ 1
    by_bits (inr s) = s
    by_bits (inl z) =
        let unseen : bit_at (bit_not w128 seen) k ≡ 1 - bit_at seen k = bit_at_not w128 seen k m (within (ltb k 128) refl) in
        let unset : bit_at (left_open row seen) k ≡ 0 = subst (λ n. bit_at n k ≡ 0) (sym none) (bit_at-zero k) in
        let both : min (bit_at row k) (bit_at (bit_not w128 seen) k) ≡ 0 = sym (bit_at_and row (bit_not w128 seen) k) ∙ unset in
        absurd (omega (arith, both, o, z, unseen))

-- a bit more
pub more_with : (mask place : ℕ) → bit_at mask place ≡ 0 → mask < bit_or mask (2 ^ place)
more_with mask place z =
    let none : bit_and mask (2 ^ place) ≡ 0 = rw (and_pow mask place, z) (zero-mul (2 ^ place)) in
    let sum : bit_or mask (2 ^ place) ≡ mask + 2 ^ place = or_disjoint mask (2 ^ place) none in
    omega (arith, sum, pow_pos place)

pub set_with : (mask place k : ℕ) → bit_at (bit_or mask (2 ^ place)) k ≡ 1 ↔ ((k ≡ place) ⊎ (bit_at mask k ≡ 1))
set_with mask place k = by_case (cases_eq k place)
  where
    is : bit_at (bit_or mask (2 ^ place)) k ≡ max (bit_at mask k) (bit_at (2 ^ place) k)
    is = bit_at_or mask (2 ^ place) k

    by_case : (k ≡ place) ⊎ (k ≡ place → ⊥) → bit_at (bit_or mask (2 ^ place)) k ≡ 1 ↔ ((k ≡ place) ⊎ (bit_at mask k ≡ 1))
    by_case (inl e) =
        let one : bit_at (2 ^ place) k ≡ 1 = subst (λ q. bit_at (2 ^ place) q ≡ 1) (sym e) (bit_at-pow_same place) in
        (λ h. inl e, λ h. omega (arith, is, one, bit_at-lt mask k))
    by_case (inr n) =
        let none : bit_at (2 ^ place) k ≡ 0 = bit_at-pow_other place k n in
        (λ h. inr (omega (arith, is, none, h)), from none)
      where
        from : bit_at (2 ^ place) k ≡ 0 → (k ≡ place) ⊎ (bit_at mask k ≡ 1) → bit_at (bit_or mask (2 ^ place)) k ≡ 1
        from none (inl e) = absurd (n e)
        from none (inr o) = omega (arith, is, none, o)
