-- Whether one list covers another is decided, so that what isn't uncovered is covered.
use Rattle.std.proofs.Common.{ℕ, ◌≡◌, ◌<◌, Bool, true, false, List, [], ◌∷◌, length, refl, arith, zero, suc, sym, subst, ap, inl, inr, Some}
use Rattle.std.specs.Prelude.{◌⊎◌, slice_get}
use Rattle.list_words.specs.Embeds.{Embeds}
use Rattle.list_words.specs.Lists.{Each, Some_of}
use Rattle.list_words.proofs.EmbedLemmas.{embeds_none}
use Rattle.list_words.proofs.GetLemmas.{get_below, same_some}
use Rattle.list_words.proofs.NumberLemmas.{cases_eq}
use Rattle.arbac_laws.specs.Needs.{Covers, CoversNeed, IsCovered, Need}
use Rattle.arbac_laws.proofs.SameLemmas.{covers_of_test, covers_test, test_of_covers}

abbrev Decided : Type 0 → Type 0
Decided P = P ⊎ (P → ⊥)

decide_both : (P Q : Type 0) → Decided P → Decided Q → Decided (P × Q)
decide_both P Q (inl p) (inl q) = inl (p, q)
decide_both P Q (inl p) (inr n) = inr (λ both. n both.1)
decide_both P Q (inr n) d = inr (λ both. n both.0)

decide_some : {A : Type 0} (P : A → Type 0) → ((x : A) → Decided (P x)) → (xs : List A) → Decided (Some_of P xs)
decide_some P d [] = inr (λ h. h)
decide_some P d (x ∷ xs) = by_case (d x) (decide_some P d xs)
  where
    by_case : Decided (P x) → Decided (Some_of P xs) → Decided (P x ⊎ Some_of P xs)
    by_case (inl p) e = inl (inl p)
    by_case (inr n) (inl s) = inl (inr s)
    by_case (inr n) (inr m) = inr (λ some. elim some [ inl p ↦ n p | inr s ↦ m s ])

-- some place below the number is so, or none is
decide_place : (P : ℕ → Type 0) → ((k : ℕ) → Decided (P k)) → (n : ℕ) → ((k : ℕ) × P k) ⊎ ((k : ℕ) → k < n → P k → ⊥)
decide_place P d zero = inr (λ k l p. omega arith)
decide_place P d (suc n) = by_case (d n) (decide_place P d n)
  where
    by_case : Decided (P n) → ((k : ℕ) × P k) ⊎ ((k : ℕ) → k < n → P k → ⊥) → ((k : ℕ) × P k) ⊎ ((k : ℕ) → k < suc n → P k → ⊥)
    by_case (inl p) e = inl (n, p)
    by_case (inr unlike) (inl found) = inl found
    by_case (inr unlike) (inr none) = inr (λ k l p. by_place k (cases_eq k n) l p)
      where
        by_place : (k : ℕ) → (k ≡ n) ⊎ (k ≡ n → ⊥) → k < suc n → P k → ⊥
        by_place k (inl e) l p = unlike (subst P e p)
        by_place k (inr other) l p = none k (omega (arith, other, l)) p

-- the place is none of those
abbrev IsNoneOf : List ℕ → ℕ → Type 0
IsNoneOf used place = Each (λ u. u ≡ place → ⊥) used

decide_none : (used : List ℕ) (place : ℕ) → Decided (IsNoneOf used place)
decide_none [] place = inl tt
decide_none (u ∷ used) place = decide_both (u ≡ place → ⊥) (IsNoneOf used place) (turned (cases_eq u place)) (decide_none used place)
  where
    turned : (u ≡ place) ⊎ (u ≡ place → ⊥) → Decided (u ≡ place → ⊥)
    turned (inl e) = inr (λ n. n e)
    turned (inr n) = inl n

-- an injective map that leaves out these places
abbrev EmbedsPast : {A B : Type 0} → (A → B → Type 0) → List A → List B → List ℕ → Type 0
EmbedsPast R xs ys used = (f : Embeds R xs ys) × ((i : ℕ) → i < length xs → IsNoneOf used (f.to i))

-- the first item goes to the place, and the rest past it
record BeginsAt {A B : Type 0} (R : A → B → Type 0) (x : A) (xs : List A) (ys : List B) (used : List ℕ) (place : ℕ) : Type 0 where
  item : (y : B) × (slice_get ys place ≡ Some y) × R x y
  free : IsNoneOf used place
  rest : EmbedsPast R xs ys (place ∷ used)

begun : {A B : Type 0} (R : A → B → Type 0) (x : A) (xs : List A) (ys : List B) (used : List ℕ) (place : ℕ) → BeginsAt R x xs ys used place
    → EmbedsPast R (x ∷ xs) ys used
begun {A} {B} R x xs ys used place h = (record { to = to; apart = apart; each = each }, past)
  where
    to : ℕ → ℕ
    to zero = place
    to (suc i) = h.rest.0.to i

    apart : (i j : ℕ) → i < length (x ∷ xs) → j < length (x ∷ xs) → to i ≡ to j → i ≡ j
    apart zero zero l m e = refl
    apart zero (suc j) l m e = absurd ((h.rest.1 j (omega (arith, m))).0 e)
    apart (suc i) zero l m e = absurd ((h.rest.1 i (omega (arith, l))).0 (sym e))
    apart (suc i) (suc j) l m e = ap suc (h.rest.0.apart i j (omega (arith, l)) (omega (arith, m)) e)

    each : (i : ℕ) (v : A) → slice_get (x ∷ xs) i ≡ Some v → (w : B) × (slice_get ys (to i) ≡ Some w) × R v w
    each zero v is = (h.item.0, h.item.1, subst (λ u. R u h.item.0) (same_some x v is) h.item.2)
    each (suc i) v is = h.rest.0.each i v is

    past : (i : ℕ) → i < length (x ∷ xs) → IsNoneOf used (to i)
    past zero l = h.free
    past (suc i) l = (h.rest.1 i (omega (arith, l))).1

begins : {A B : Type 0} (R : A → B → Type 0) (x : A) (xs : List A) (ys : List B) (used : List ℕ) → (f : EmbedsPast R (x ∷ xs) ys used)
    → BeginsAt R x xs ys used (f.0.to 0)
begins R x xs ys used f = record {
  item = f.0.each 0 x refl;
  free = f.1 0 (omega arith);
  rest = (
    record {
      to = λ i. f.0.to (suc i);
      apart = λ i j l m e. let same = f.0.apart (suc i) (suc j) (omega (arith, l)) (omega (arith, m)) e in omega (arith, same);
      each = λ i v is. f.0.each (suc i) v is;
    },
    λ i l. (
      λ e. let same = f.0.apart 0 (suc i) (omega arith) (omega (arith, l)) e in omega (arith, same),
      f.1 (suc i) (omega (arith, l)),
    ),
  );
}

decide_item : {A B : Type 0} (R : A → B → Type 0) → ((x : A) (y : B) → Decided (R x y)) → (x : A) (ys : List B) (place : ℕ)
    → Decided ((y : B) × (slice_get ys place ≡ Some y) × R x y)
decide_item R d x [] place = inr (λ h. cc (h.1))
decide_item R d x (y ∷ ys) zero = by_case (d x y)
  where
    by_case : Decided (R x y) → Decided ((z : _) × (slice_get (y ∷ ys) 0 ≡ Some z) × R x z)
    by_case (inl r) = inl (y, refl, r)
    by_case (inr n) = inr (λ h. n (subst (R x) (sym (same_some y h.0 h.1)) h.2))
decide_item R d x (y ∷ ys) (suc place) = decide_item R d x ys place

decide_past : {A B : Type 0} (R : A → B → Type 0) → ((x : A) (y : B) → Decided (R x y)) → (xs : List A) (ys : List B) (used : List ℕ)
    → Decided (EmbedsPast R xs ys used)
decide_past R d [] ys used = inl (embeds_none R ys, λ i l. absurd (omega (arith, l)))
decide_past R d (x ∷ xs) ys used = by_place (decide_place (BeginsAt R x xs ys used) (λ place. at place (decide_past R d xs ys (place ∷ used))) (length ys))
  where
    at : (place : ℕ) → Decided (EmbedsPast R xs ys (place ∷ used)) → Decided (BeginsAt R x xs ys used place)
    at place rest = by_parts (decide_item R d x ys place) (decide_none used place) rest
      where
        by_parts : Decided ((y : _) × (slice_get ys place ≡ Some y) × R x y) → Decided (IsNoneOf used place)
            → Decided (EmbedsPast R xs ys (place ∷ used)) → Decided (BeginsAt R x xs ys used place)
        by_parts (inl item) (inl free) (inl more) = inl (record { item = item; free = free; rest = more })
        by_parts (inl item) (inl free) (inr n) = inr (λ b. n b.rest)
        by_parts (inl item) (inr n) more = inr (λ b. n b.free)
        by_parts (inr n) free more = inr (λ b. n b.item)

    by_place : ((k : ℕ) × BeginsAt R x xs ys used k) ⊎ ((k : ℕ) → k < length ys → BeginsAt R x xs ys used k → ⊥)
        → Decided (EmbedsPast R (x ∷ xs) ys used)
    by_place (inl found) = inl (begun R x xs ys used found.0 found.1)
    by_place (inr none) = inr (λ f. let b = begins R x xs ys used f in none (f.0.to 0) (get_below ys (f.0.to 0) b.item.0 b.item.1) b)

decide_need : (a b : Need) → Decided (CoversNeed a b)
decide_need a b = by_test (covers_test a b) refl
  where
    by_test : (t : Bool) → covers_test a b ≡ t → Decided (CoversNeed a b)
    by_test true e = inl (covers_of_test a b e)
    by_test false e = inr (λ c. let t = test_of_covers a b c in cc)

decide_cover : (a b : List Need) → Decided (Covers a b)
decide_cover a b = by_past (decide_past CoversNeed decide_need a b [])
  where
    by_past : Decided (EmbedsPast CoversNeed a b []) → Decided (Covers a b)
    by_past (inl f) = inl f.0
    by_past (inr n) = inr (λ f. n (f, λ i l. tt))

-- what isn't left uncovered is covered
pub covered_stable : (list : List (List Need)) (needs : List Need) → (¬ IsCovered list needs → ⊥) → IsCovered list needs
covered_stable list needs h = by_case (decide_some (λ one. Covers one needs) (λ one. decide_cover one needs) list)
  where
    by_case : Decided (IsCovered list needs) → IsCovered list needs
    by_case (inl c) = c
    by_case (inr n) = absurd (h n)
