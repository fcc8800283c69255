-- Places that are too few: a closed set of seen places, and more items than places.
use Rattle.std.proofs.Common.{ℕ, ◌≡◌, ◌<◌, ◌≤◌, List, [], ◌∷◌, length, get_or, map, refl, arith, zero, suc, ap, sym, ◌∙◌, inl, inr, subst}
use Rattle.std.proofs.Common.{Option, Some, Bool, true, false, cond, eqb, eq-eqb}
use Rattle.std.specs.Prelude.{◌⊎◌, unwrap_or}
use Rattle.std.specs.Int.{bit_at}
use Rattle.std.proofs.lemmas.Bool.{eqb-true, cases_eq, cases_lt, false≢true}
use Rattle.std.proofs.lemmas.Nat.Bits.{bit_at-zero}
use Rattle.std.proofs.lemmas.List.{length-map}
use Rattle.list_words.specs.Lists.{Each, Some_of, AreDifferent}
use Rattle.list_words.proofs.GetLemmas.{get_below}
use Rattle.list_words.proofs.EachLemmas.{each_by, each_some, map_some, some_one, different_rest, different_more}
use Rattle.list_words.proofs.DeficientLemmas.{few}
use Rattle.hall_match.specs.Joined.{IsTransversal}
use Rattle.mask_match.specs.Rows.{HasBitAt}
use Rattle.mask_match.specs.Holding.{holder_at, Holds, AreHeld, IsRowSeen, IsShut, AreShut}
use Rattle.mask_match.specs.declared.TheConstants.{MOST_PLACES}

-- the numbers below this one that pass the test
abbrev passing : (ℕ → Bool) → ℕ → List ℕ
passing test zero = []
passing test (suc n) = cond (test n) (n ∷ passing test n) (passing test n)

passes : (test : ℕ → Bool) (n k : ℕ) → Some_of (λ v. v ≡ k) (passing test n) → (k < n) × (test k ≡ true)
passes test zero k h = absurd h
passes test (suc n) k h = by_test (passes test n k) (test n) refl h
  where
    more : (k < n) × (test k ≡ true) → (k < suc n) × (test k ≡ true)
    more r = let l = r.0 in (omega (arith, l), r.1)

    by_test : (Some_of (λ v. v ≡ k) (passing test n) → (k < n) × (test k ≡ true)) → (t : Bool) → test n ≡ t
        → Some_of (λ v. v ≡ k) (cond t (n ∷ passing test n) (passing test n)) → (k < suc n) × (test k ≡ true)
    by_test rest true e (inl s) = (omega arith, subst (λ v. test v ≡ true) s e)
    by_test rest true e (inr i) = more (rest i)
    by_test rest false e i = more (rest i)

all_passing : (test : ℕ → Bool) (n k : ℕ) → k < n → test k ≡ true → Some_of (λ v. v ≡ k) (passing test n)
all_passing test zero k l e = absurd (omega arith)
all_passing test (suc n) k l e = by_test (λ m. all_passing test n k m e) (test n) refl (cases_eq n k)
  where
    below : (n ≡ k → ⊥) → k < n
    below d = by_order (cases_lt k n)
      where
        by_order : (k < n) ⊎ (n ≤ k) → k < n
        by_order (inl m) = m
        by_order (inr m) = absurd (d (omega (arith, l, m)))

    by_test : (k < n → Some_of (λ v. v ≡ k) (passing test n)) → (t : Bool) → test n ≡ t → (n ≡ k) ⊎ (n ≡ k → ⊥)
        → Some_of (λ v. v ≡ k) (cond t (n ∷ passing test n) (passing test n))
    by_test rest true p (inl s) = inl s
    by_test rest true p (inr d) = inr (rest (below d))
    by_test rest false p (inl s) = absurd (false≢true (sym p ∙ ap test s ∙ e))
    by_test rest false p (inr d) = rest (below d)

passing_different : (test : ℕ → Bool) (n : ℕ) → AreDifferent (passing test n)
passing_different test zero = λ i j x a b. cc
passing_different test (suc n) = by_test (passing_different test n) (test n)
  where
    by_test : AreDifferent (passing test n) → (t : Bool) → AreDifferent (cond t (n ∷ passing test n) (passing test n))
    by_test rest true = different_more n (passing test n) (each_by (λ y. n ≡ y → ⊥) (passing test n) (λ y i s. past y i s)) rest
      where
        past : (y : ℕ) → Some_of (λ v. v ≡ y) (passing test n) → n ≡ y → ⊥
        past y i s = let below = (passes test n y i).0 in omega (arith, below, s)
    by_test rest false = rest

-- a map that keeps different items apart
mapped_different : (f : ℕ → ℕ) (xs : List ℕ) → AreDifferent xs
    → ((a b : ℕ) → Some_of (λ v. v ≡ a) xs → Some_of (λ v. v ≡ b) xs → f a ≡ f b → a ≡ b) → AreDifferent (map f xs)
mapped_different f [] d apart = λ i j x a b. cc
mapped_different f (x ∷ xs) d apart =
    let rest = different_rest x xs d in
    different_more (f x) (map f xs) (each_by (λ y. f x ≡ y → ⊥) (map f xs) (λ y i s. other rest.0 y i s))
    (mapped_different f xs rest.1 (λ a b i j. apart a b (inr i) (inr j)))
  where
    other : Each (λ y. x ≡ y → ⊥) xs → (y : ℕ) → Some_of (λ v. v ≡ y) (map f xs) → f x ≡ y → ⊥
    other none y i s =
        let from = some_one (λ v. f v ≡ y) xs (map_some f (λ v. v ≡ y) xs i) in
        each_some (λ v. x ≡ v → ⊥) xs from.0 none from.1 (apart x from.0 (inl refl) (inr from.1) (s ∙ sym from.2))

-- more items than places can't be placed
count_all : (n : ℕ) → length (passing (λ _. true) n) ≡ n
count_all zero = refl
count_all (suc n) = ap suc (count_all n)

pub too_many : (Joins : ℕ → ℕ → Type 0) (left places : ℕ) (list : List ℕ) → places < left → IsTransversal Joins left places list → ⊥
too_many Joins left places list more t =
    let r = few (λ i. get_or list i 0) (all left) (all places) (passing_different (λ _. true) left)
    (λ i j a b e. t.apart i j (within i a) (within j b) e)
    (each_by (λ i. Some_of (λ v. v ≡ get_or list i 0) (all places)) (all left) (λ i a.
    all_passing (λ _. true) places (get_or list i 0) (t.each i (passes (λ _. true) left i a).0).0 refl)) in
    omega (arith, r, more, count_all left, count_all places)
  where
    all : ℕ → List ℕ
    all n = passing (λ _. true) n

    within : (i : ℕ) → Some_of (λ v. v ≡ i) (all left) → i < length list
    within i a = subst (λ n. i < n) (sym t.long) (passes (λ _. true) left i a).0

-- the item that holds the place
abbrev holder_of : List (Option ℕ) → ℕ → ℕ
holder_of h place = unwrap_or (holder_at h place) 0

holder_is : (h : List (Option ℕ)) (place item : ℕ) → holder_at h place ≡ Some item → holder_of h place ≡ item
holder_is h place item e = ap (λ o. unwrap_or o 0) e

abbrev is_seen : ℕ → ℕ → Bool
is_seen seen place = eqb (bit_at seen place) 1

-- where an item finds no place, and seen places are shut, they are fewer than their holders and the item
pub shut_in : (rows : List ℕ) (h : List (Option ℕ)) (seen item : ℕ) (list : List ℕ) → AreHeld rows h → (Holds h item → ⊥) → item < length rows
    → AreShut rows h 0 seen → IsRowSeen rows seen item → IsTransversal (HasBitAt rows) (length rows) MOST_PLACES list → ⊥
shut_in rows h seen item list held less below shut row t =
    let r = few to items places different (λ i j a b e. t.apart i j (listed i (known i a)) (listed j (known j b)) e)
    (each_by (λ i. Some_of (λ v. v ≡ to i) places) items among) in
    omega (arith, r, length-map places (holder_of h))
  where
    to : ℕ → ℕ
    to i = get_or list i 0

    places : List ℕ
    places = passing (is_seen seen) MOST_PLACES

    items : List ℕ
    items = item ∷ map (holder_of h) places

    -- who holds a seen place
    holder : (place : ℕ) → Some_of (λ v. v ≡ place) places → (k : ℕ) × (holder_at h place ≡ Some k) × IsRowSeen rows seen k
    holder place i =
        by_case (shut.shut place (eqb-true (bit_at seen place) 1 (passes (is_seen seen) MOST_PLACES place i).1))
      where
        by_case : (bit_at 0 place ≡ 1) ⊎ IsShut rows h seen place → (k : ℕ) × (holder_at h place ≡ Some k) × IsRowSeen rows seen k
        by_case (inl e) = let none = bit_at-zero place in absurd (omega (arith, e, none))
        by_case (inr s) = (s.0, s.1, s.2)

    -- each of these items has its row seen, and is one of the rows
    given : (i : ℕ) → Some_of (λ v. v ≡ i) (map (holder_of h) places) → Holds h i × IsRowSeen rows seen i
    given i a =
        let place = some_one (λ p. holder_of h p ≡ i) places (map_some (holder_of h) (λ v. v ≡ i) places a) in
        let k = holder place.0 place.1 in
        let same : k.0 ≡ i = sym (holder_is h place.0 k.0 k.1) ∙ place.2 in
        ((place.0, k.1 ∙ ap Some same), subst (λ v. IsRowSeen rows seen v) same k.2)

    known : (i : ℕ) → Some_of (λ v. v ≡ i) items → (i < length rows) × IsRowSeen rows seen i
    known i (inl s) = (subst (λ v. v < length rows) s below, subst (λ v. IsRowSeen rows seen v) s row)
    known i (inr a) =
        let one = given i a in
        let bit = held.own one.0.0 i one.0.1 in (get_below rows i bit.0 bit.1, one.1)

    listed : (i : ℕ) → (i < length rows) × IsRowSeen rows seen i → i < length list
    listed i k = subst (λ n. i < n) (sym t.long) k.0

    among : (i : ℕ) → Some_of (λ v. v ≡ i) items → Some_of (λ v. v ≡ to i) places
    among i a =
        let k = known i a in
        let one = t.each i k.0 in
        all_passing (is_seen seen) MOST_PLACES (to i) one.0 (eq-eqb (bit_at seen (to i)) 1 (k.1 (to i) one.1))

    apart : (a b : ℕ) → Some_of (λ v. v ≡ a) places → Some_of (λ v. v ≡ b) places → holder_of h a ≡ holder_of h b → a ≡ b
    apart a b i j e =
        let k = holder a i in
        let m = holder b j in
        let same : k.0 ≡ m.0 = sym (holder_is h a k.0 k.1) ∙ e ∙ holder_is h b m.0 m.1 in
        held.once a b k.0 k.1 (m.1 ∙ ap Some (sym same))

    different : AreDifferent items
    different = different_more item (map (holder_of h) places)
        (each_by (λ y. item ≡ y → ⊥) (map (holder_of h) places) (λ y a s. less (subst (λ v. Holds h v) (sym s) (given y a).0)))
        (mapped_different (holder_of h) places (passing_different (is_seen seen) MOST_PLACES) apart)
