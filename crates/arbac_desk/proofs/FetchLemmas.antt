-- What was fetched of a file, and what the file holds.
use Rattle.std.proofs.Common.{ℕ, ◌≡◌, ◌≤◌, ◌<◌, ◌+◌, ◌∙◌, List, [], ◌∷◌, length, take, refl, arith, zero, suc, subst, ap, inl, inr}
use Rattle.std.specs.Prelude.{◌⊎◌}
use Rattle.desk_ports.specs.Faults.{raised}
use Rattle.desk_ports.specs.Shelves.{ShelfView}
use Rattle.arbac_desk.specs.Answers.{HasFetched, HasMissed}

take_short : (xs : List ℕ) (n : ℕ) → length (take (suc n) xs) ≤ n → take (suc n) xs ≡ xs
take_short [] n l = refl
take_short (x ∷ xs) zero l = absurd (omega arith)
take_short (x ∷ xs) (suc n) l = ap (λ t. x ∷ t) (take_short xs n (omega arith))

take_less : (xs : List ℕ) (n : ℕ) → length (take n xs) ≤ length xs
take_less xs zero = omega arith
take_less [] (suc n) = omega arith
take_less (x ∷ xs) (suc n) = omega (arith, take_less xs n)

-- bytes that are few enough are all that the file holds
pub whole : (most : ℕ) (all bytes : List ℕ) → bytes ≡ take (most + 1) all → length bytes ≤ most → bytes ≡ all
whole most all bytes e l =
    let next : most + 1 ≡ suc most = omega arith in
    let e' : bytes ≡ take (suc most) all = subst (λ n. bytes ≡ take n all) next e in
    let few : length (take (suc most) all) ≤ most = subst (λ b. length b ≤ most) e' l in
    e' ∙ take_short all most few

-- and a file of which too many were fetched holds too many
pub longer : (most : ℕ) (all bytes : List ℕ) → bytes ≡ take (most + 1) all → most < length bytes → most < length all
longer most all bytes e l =
    let same : length bytes ≡ length (take (most + 1) all) = ap length e in
    omega (arith, l, same, take_less all (most + 1))

-- the bytes are too many, or have a fault that is told
abbrev pub IsLongOr : {F : Type 0} → ℕ → List ℕ → (List ℕ → F → Type 0) → (F → List ℕ) → List ℕ → List ℕ → Type 0
IsLongOr {F = F} most long IsNone line bytes text =
    ((most < length bytes) × (text ≡ long)) ⊎ ((length bytes ≤ most) × (fault : F) × IsNone bytes fault × (text ≡ line fault))

-- what is told so of the bytes that were fetched is so of all that the file holds
pub all_malformed : {F : Type 0} (most : ℕ) (long : List ℕ) (IsNone : List ℕ → F → Type 0) (line : F → List ℕ) (all bytes text : List ℕ)
    → bytes ≡ take (most + 1) all → IsLongOr most long IsNone line bytes text → IsLongOr most long IsNone line all text
all_malformed most long IsNone line all bytes text e (inl h) = inl (longer most all bytes e h.0, h.1)
all_malformed most long IsNone line all bytes text e (inr h) =
    let same = whole most all bytes e h.0 in
    inr (subst (λ b. length b ≤ most) same h.0, h.1, subst (λ b. IsNone b h.1) same h.2, h.3)

-- and then they aren't a text that has no fault
pub no_text : {F : Type 0} (most : ℕ) (long : List ℕ) (IsNone : List ℕ → F → Type 0) (line : F → List ℕ) (bytes text : List ℕ) (IsText : Type 0)
    → (IsText → length bytes ≤ most) → ((fault : F) → IsNone bytes fault → IsText → ⊥) → IsLongOr most long IsNone line bytes text → IsText → ⊥
no_text most long IsNone line bytes text IsText few none (inl h) is = absurd (omega (arith, h.0, few is))
no_text most long IsNone line bytes text IsText few none (inr h) is = none h.1 h.2 is

-- a fetch behind one that gave its text, seen from before both
pub then_fetched : (shelf middle shelf' : ShelfView) → HasFetched shelf middle → HasFetched middle shelf' → HasFetched shelf shelf'
then_fetched shelf middle shelf' first second = record {
  counted = second.counted ∙ first.counted;
  missed = second.missed ∙ first.missed;
}

-- and one that failed
pub then_missed : (shelf middle shelf' : ShelfView) (name : List ℕ) → HasFetched shelf middle → HasMissed middle shelf' name
    → HasMissed shelf shelf' name
then_missed shelf middle shelf' name first second = record {
  counted = second.counted ∙ ap raised first.counted;
  missed = second.missed;
}
