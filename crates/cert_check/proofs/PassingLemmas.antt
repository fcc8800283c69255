-- Counting through a list, part by part.
use Rattle.std.proofs.Common.{ℕ, ◌≡◌, ◌<◌, ◌≤◌, ◌+◌, ◌-◌, ◌∙◌, Bool, true, false, List, [], ◌∷◌, ◌++◌, length, drop, Some, zero, suc}
use Rattle.std.proofs.Common.{refl, sym, ap, subst, arith, inl, inr}
use Rattle.std.specs.Prelude.{slice_get, IsTrue, ◌↔◌, ◌⊎◌}
use Rattle.std.proofs.lemmas.List.{drop_more, drop_all, length-append}
use Rattle.list_words.specs.Lists.{Each, IsFirst}
use Rattle.list_words.proofs.EachLemmas.{each_append, each_at}
use Rattle.list_words.proofs.GetLemmas.{get_below, get_within}
use Rattle.role_order.specs.Reach.{count_up}
use Rattle.arbac_laws.specs.Obligations.{flat, flat_places}
use Rattle.cert_check.specs.Passing.{Counts, GoesOn}

-- places of two lists, one behind the other

pub get_left : {A : Type 0} (xs ys : List A) (k : ℕ) (x : A) → slice_get xs k ≡ Some x → slice_get (xs ++ ys) k ≡ Some x
get_left [] ys k x e = cc
get_left (y ∷ xs) ys zero x e = e
get_left (y ∷ xs) ys (suc k) x e = get_left xs ys k x e

pub get_right : {A : Type 0} (xs ys : List A) (k j : ℕ) (x : A) → k ≡ length xs + j → slice_get ys j ≡ Some x
    → slice_get (xs ++ ys) k ≡ Some x
get_right [] ys k j x e h = let same : j ≡ k = omega (arith, e) in subst (λ n. slice_get ys n ≡ Some x) same h
get_right (y ∷ xs) ys zero j x e h = absurd (omega (arith, e))
get_right (y ∷ xs) ys (suc k) j x e h = get_right xs ys k j x (omega (arith, e)) h

pub get_side : {A : Type 0} (xs ys : List A) (k : ℕ) (x : A) → slice_get (xs ++ ys) k ≡ Some x
    → (slice_get xs k ≡ Some x) ⊎ ((j : ℕ) × (k ≡ length xs + j) × (slice_get ys j ≡ Some x))
get_side [] ys k x e = inr (k, omega arith, e)
get_side (y ∷ xs) ys zero x e = inl e
get_side (y ∷ xs) ys (suc k) x e = by_side (get_side xs ys k x e)
  where
    by_side : (slice_get xs k ≡ Some x) ⊎ ((j : ℕ) × (k ≡ length xs + j) × (slice_get ys j ≡ Some x))
        → (slice_get xs k ≡ Some x) ⊎ ((j : ℕ) × (suc k ≡ suc (length xs) + j) × (slice_get ys j ≡ Some x))
    by_side (inl h) = inl h
    by_side (inr h) = let same = h.1 in inr (h.0, omega (arith, same), h.2)

pub first_left : {A : Type 0} (P : A → Type 0) (xs ys : List A) (k : ℕ) → IsFirst P xs k → IsFirst P (xs ++ ys) k
first_left P xs ys k first = record {
  item = first.item;
  at = get_left xs ys k first.item first.at;
  holds = first.holds;
  none_before = λ j x l e. by_side j x l (get_side xs ys j x e);
}
  where
    by_side : (j : ℕ) (x : _) → j < k → (slice_get xs j ≡ Some x) ⊎ ((i : ℕ) × (j ≡ length xs + i) × (slice_get ys i ≡ Some x)) → ¬ P x
    by_side j x l (inl h) = first.none_before j x l h
    by_side j x l (inr h) = let below = get_below xs k first.item first.at in let same = h.1 in absurd (omega (arith, below, same, l))

pub first_right : {A : Type 0} (P : A → Type 0) (xs ys : List A) (k : ℕ) → Each (λ x. ¬ P x) xs → IsFirst P ys k
    → IsFirst P (xs ++ ys) (length xs + k)
first_right P xs ys k none first = record {
  item = first.item;
  at = get_right xs ys (length xs + k) k first.item refl first.at;
  holds = first.holds;
  none_before = λ j x l e. by_side j x l (get_side xs ys j x e);
}
  where
    by_side : (j : ℕ) (x : _) → j < length xs + k
        → (slice_get xs j ≡ Some x) ⊎ ((i : ℕ) × (j ≡ length xs + i) × (slice_get ys i ≡ Some x)) → ¬ P x
    by_side j x l (inl h) = each_at (λ y. ¬ P y) xs j x none h
    by_side j x l (inr h) = let same = h.1 in first.none_before h.0 x (omega (arith, same, l)) h.2

-- one part is passed
pub counts_more : {A : Type 0} (P : A → Type 0) (xs ys : List A) (from now : ℕ) (found : Bool) (to : ℕ) → Counts P xs from false now
    → Counts P ys now found to → Counts P (xs ++ ys) from found to
counts_more P xs ys from now true to h k =
    let passed = h.0 in let more = k.1 in
    (length xs + k.0, omega (arith, passed, more), first_right P xs ys k.0 h.1 k.2)
counts_more P xs ys from now false to h k =
    let passed = h.0 in let more = k.0 in let long = length-append xs ys in
    (omega (arith, passed, more, long), each_append (λ x. ¬ P x) xs ys h.1 k.1)

-- the first is found in one part
pub counts_stop : {A : Type 0} (P : A → Type 0) (xs ys : List A) (from to : ℕ) → Counts P xs from true to → Counts P (xs ++ ys) from true to
counts_stop P xs ys from to h = (h.0, h.1, first_left P xs ys h.0 h.2)

pub counts_none : {A : Type 0} (P : A → Type 0) (from : ℕ) → Counts P [] from false from
counts_none P from = (omega arith, tt)

-- steps of a loop through the parts

pub goes_on : {A : Type 0} (P : A → Type 0) (whole rest part left : List A) (from now next : ℕ) (found : Bool) → rest ≡ part ++ left
    → GoesOn P whole from rest now → Counts P part now found next → found ≡ false → GoesOn P whole from left next
goes_on P whole rest part left from now next false parts on passed not = λ found to h.
    on found to (subst (λ l. Counts P l now found to) (sym parts) (counts_more P part left now next found to passed h))
goes_on P whole rest part left from now next true parts on passed not = cc

pub goes_stop : {A : Type 0} (P : A → Type 0) (whole rest part left : List A) (from now to : ℕ) (found : Bool) → rest ≡ part ++ left
    → GoesOn P whole from rest now → Counts P part now found to → found ≡ true → Counts P whole from true to
goes_stop P whole rest part left from now to true parts on stopped yes' =
    on true to (subst (λ l. Counts P l now true to) (sym parts) (counts_stop P part left now to stopped))
goes_stop P whole rest part left from now to false parts on stopped yes' = cc

pub goes_end : {A : Type 0} (P : A → Type 0) (whole rest : List A) (from now : ℕ) → rest ≡ [] → GoesOn P whole from rest now
    → Counts P whole from false now
goes_end P whole rest from now none on = on false now (subst (λ l. Counts P l now false now) (sym none) (counts_none P now))

-- what is left of nested lists

pub drop_next : {A : Type 0} (xs : List A) (i : ℕ) (x : A) → slice_get xs i ≡ Some x → drop i xs ≡ x ∷ drop (i + 1) xs
drop_next xs i x h = let at = get_within xs i x h in drop_more xs i x at.0 ∙ ap (λ y. y ∷ drop (i + 1) xs) (sym at.1)

pub flat_next : {A B : Type 0} (f : A → List B) (xs : List A) (i : ℕ) (x : A) → slice_get xs i ≡ Some x
    → flat f (drop i xs) ≡ f x ++ flat f (drop (i + 1) xs)
flat_next f xs i x h = ap (flat f) (drop_next xs i x h)

pub flat_end : {A B : Type 0} (f : A → List B) (xs : List A) (i : ℕ) → length xs ≤ i → flat f (drop i xs) ≡ []
flat_end f xs i h = ap (flat f) (drop_all i xs h)

pub places_next : {A B : Type 0} (f : ℕ → A → List B) (xs : List A) (i : ℕ) (x : A) → slice_get xs i ≡ Some x
    → flat_places f i (drop i xs) ≡ f i x ++ flat_places f (i + 1) (drop (i + 1) xs)
places_next f xs i x h = ap (flat_places f i) (drop_next xs i x h)

pub places_end : {A B : Type 0} (f : ℕ → A → List B) (xs : List A) (i : ℕ) → length xs ≤ i → flat_places f i (drop i xs) ≡ []
places_end f xs i h = ap (flat_places f i) (drop_all i xs h)

pub count_next : {B : Type 0} (f : ℕ → List B) (n i : ℕ) → i < n
    → flat f (count_up i (n - i)) ≡ f i ++ flat f (count_up (i + 1) (n - (i + 1)))
count_next f n i h = let e : n - i ≡ suc (n - (i + 1)) = omega (arith, h) in ap (λ k. flat f (count_up i k)) e

pub count_end : {B : Type 0} (f : ℕ → List B) (n i : ℕ) → n ≤ i → flat f (count_up i (n - i)) ≡ []
count_end f n i h = let e : n - i ≡ 0 = omega (arith, h) in ap (λ k. flat f (count_up i k)) e

-- one item
pub counts_one : {A : Type 0} (P : A → Type 0) (x : A) (answer found : Bool) (from to : ℕ) → (IsTrue answer ↔ P x) → found ≡ answer
    → (found ≡ true → to ≡ from) → (found ≡ false → to ≡ from + 1) → Counts P (x ∷ []) from found to
counts_one P x true true from to h same stay on =
    let still = stay refl in
    (0, omega (arith, still), record { item = x; at = refl; holds = h.0 refl; none_before = λ k y l. absurd (omega (arith, l)) })
counts_one P x false false from to h same stay on =
    let one = on refl in (omega (arith, one), (λ p. let yes' : false ≡ true = h.1 p in cc, tt))
counts_one P x true false from to h same stay on = cc
counts_one P x false true from to h same stay on = cc

-- two lists, one behind the other

pub counts_first : {A : Type 0} (P : A → Type 0) (xs ys : List A) (from to : ℕ) (found : Bool) → Counts P xs from found to → found ≡ true
    → Counts P (xs ++ ys) from true to
counts_first P xs ys from to true h yes' = counts_stop P xs ys from to h
counts_first P xs ys from to false h yes' = cc

pub counts_second : {A : Type 0} (P : A → Type 0) (xs ys : List A) (from now to : ℕ) (first second found : Bool) → Counts P xs from first now
    → first ≡ false → Counts P ys now second to → second ≡ found → Counts P (xs ++ ys) from found to
counts_second P xs ys from now to false second found passed not h same =
    counts_more P xs ys from now found to passed (subst (λ b. Counts P ys now b to) same h)
counts_second P xs ys from now to true second found passed not h same = cc
