-- The unbeaten candidates are found one by one, and rise once they are sorted.
use Rattle.std.proofs.Common.{ℕ, ◌≡◌, ◌<◌, ◌≤◌, ◌+◌, ◌&&◌, ◌∙◌, Bool, true, false, not, List, [], ◌∷◌, ◌++◌, map, take, length, get_or}
use Rattle.std.proofs.Common.{Some, zero, suc, refl, sym, ap, subst, arith, inl, inr}
use Rattle.std.specs.Prelude.{◌⊎◌, slice_get, Contains}
use Rattle.std.specs.Cmp.{IsStrictWeakOrder}
use Rattle.std.specs.List.Sorted.{IsPermutation, IsSortedBy}
use Rattle.std.proofs.lemmas.List.{length-map}
use Rattle.std.proofs.lemmas.List.Sorted.{Contains-permutation, IsPermutation-sym, sorted_far}
use Rattle.std.proofs.lemmas.Map.Keys.{IsDistinct-IsPermutation, IsDistinct-from_apart, apart_from_distinct}
use Rattle.list_words.specs.Lists.{Each, Some_of, IsOneOf}
use Rattle.list_words.specs.Orders.{AreRising}
use Rattle.list_words.proofs.GetLemmas.{at_contains, get_at, get_below, get_map, get_within, same_some, take_one_more}
use Rattle.list_words.proofs.EachLemmas.{each_append, each_at, each_of, each_weaker, one_of_same, some_left, some_right}
use Rattle.list_words.proofs.EmbedLemmas.{embeds_itself}
use Rattle.list_words.proofs.NumberLemmas.{compare}
use Rattle.list_words.proofs.OrderLemmas.{is_same, not_both}
use Rattle.list_words.proofs.TestLemmas.{not_false}
use Rattle.arbac_laws.specs.Needs.{Need, Covers, CoversNeed, IsCovered}
use Rattle.arbac_laws.specs.Orders.{requirement_before}
use Rattle.arbac_laws.specs.Recorded.{Entry}
use Rattle.arbac_laws.proofs.CoverLemmas.{covers_itself}
use Rattle.arbac_laws.proofs.OrderLemmas.{requirement_order}
use Rattle.shared_reqs.specs.Shared.{needs_marked}
use Rattle.shared_reqs.specs.Indexes.{BeatsAt}
use Rattle.search_laws.specs.Candidates.{needs_in}
use Rattle.search_laws.specs.Beats.{AreUnbeaten, Beats, IsUnbeaten, entry_before}
use Rattle.search_rounds.specs.declared.candidate.Candidate.{Candidate}
use Rattle.search_rounds.specs.Views.{entry_of, entries_of}
use Rattle.search_rounds.specs.Ranking.{AreApart, AreBest, IsBest, candidate_before}

-- the index

pub needs_more : (kept : List Candidate) (i : ℕ) (one : Candidate) → slice_get kept i ≡ Some one
    → needs_in (entries_of (take (i + 1) kept)) ≡ needs_in (entries_of (take i kept)) ++ needs_marked one.req.value ∷ []
needs_more kept i one at = ap (λ (l : List Candidate). needs_in (entries_of l)) (take_one_more kept i one at) ∙ last (take i kept)
  where
    last : (l : List Candidate) → needs_in (entries_of (l ++ one ∷ [])) ≡ needs_in (entries_of l) ++ needs_marked one.req.value ∷ []
    last [] = refl
    last (x ∷ xs) = ap (λ (t : List (List Need)). needs_marked x.req.value ∷ t) (last xs)

pub member_at : (kept : List Candidate) (i : ℕ) (one : Candidate) → slice_get kept i ≡ Some one
    → slice_get (needs_in (entries_of kept)) i ≡ Some (needs_marked one.req.value)
member_at kept i one at = get_map (λ (e : Entry). e.needs) (entries_of kept) i (entry_of one) (get_map entry_of kept i one at)

-- the item of which the one at a place was made
pub get_mapped : {A B : Type 0} (f : A → B) (xs : List A) (k : ℕ) (y : B) → slice_get (map f xs) k ≡ Some y
    → (x : A) × (slice_get xs k ≡ Some x) × (f x ≡ y)
get_mapped f [] k y e = cc
get_mapped f (x ∷ xs) zero y e = (x, refl, cc)
get_mapped f (x ∷ xs) (suc k) y e = get_mapped f xs k y e

-- one member of the index beats another just where one candidate beats the other
pub member_beats : (candidates : List Entry) (other place : ℕ) → Beats candidates other place → BeatsAt (needs_in candidates) place other
member_beats candidates other place b = record {
  by = b.by.needs;
  by_is = get_map (λ (e : Entry). e.needs) candidates other b.by b.by_is;
  beaten = b.beaten.needs;
  beaten_is = get_map (λ (e : Entry). e.needs) candidates place b.beaten b.beaten_is;
  covers = b.covers;
  apart = b.apart;
}

pub beats_member : (candidates : List Entry) (other place : ℕ) → BeatsAt (needs_in candidates) place other → Beats candidates other place
beats_member candidates other place b = record {
  by = by.0;
  by_is = by.1;
  beaten = beaten.0;
  beaten_is = beaten.1;
  covers = subst (λ v. Covers v beaten.0.needs) (sym by.2) (subst (Covers b.by) (sym beaten.2) b.covers);
  apart = subst (λ v. ¬ (v ≡ beaten.0.needs) ⊎ (other < place)) (sym by.2) (subst (λ v. ¬ (b.by ≡ v) ⊎ (other < place)) (sym beaten.2) b.apart);
}
  where
    by : (x : Entry) × (slice_get candidates other ≡ Some x) × (x.needs ≡ b.by)
    by = get_mapped (λ (e : Entry). e.needs) candidates other b.by b.by_is

    beaten : (x : Entry) × (slice_get candidates place ≡ Some x) × (x.needs ≡ b.beaten)
    beaten = get_mapped (λ (e : Entry). e.needs) candidates place b.beaten b.beaten_is

-- the unbeaten ones of one candidate more

below_kept : (kept : List Candidate) (place : ℕ) (entry : Entry) → slice_get (entries_of kept) place ≡ Some entry → place < length kept
below_kept kept place entry at =
    let l = get_below (entries_of kept) place entry at in let same : length (entries_of kept) ≡ length kept = length-map kept entry_of in
    omega (arith, l, same)

-- where the property is wider, the items are the same
best_each : (candidates : List Entry) (count : ℕ) (list : List Entry)
    → Each (λ entry. (place : ℕ) × (place < count) × IsBest candidates place entry) list
    → Each (λ entry. (place : ℕ) × (place < count + 1) × IsBest candidates place entry) list
best_each candidates count list h =
    each_weaker (λ entry. (place : ℕ) × (place < count) × IsBest candidates place entry)
    (λ entry. (place : ℕ) × (place < count + 1) × IsBest candidates place entry)
    (λ entry one. (one.0, (let l = one.1 in omega (arith, l)), one.2)) list h

pub best_none : (candidates : List Entry) → AreBest candidates 0 []
best_none candidates = record { each = tt; all = λ place entry l best. absurd (omega (arith, l)); apart = tt }

pub best_same : (candidates : List Entry) (count : ℕ) (list : List Entry) → AreBest candidates count list
    → ((other : ℕ) × Beats candidates other count) → AreBest candidates (count + 1) list
best_same candidates count list b beaten = record {
  each = best_each candidates count list b.each;
  all = λ place entry l best. by_place place entry l best (compare place count);
  apart = b.apart;
}
  where
    by_place : (place : ℕ) (entry : Entry) → place < count + 1 → IsBest candidates place entry → (place < count) ⊎ ((place ≡ count) ⊎ (count < place))
        → Some_of (λ (one : Entry). one ≡ entry) list
    by_place place entry l best (inl less) = b.all place entry less best
    by_place place entry l best (inr (inl here)) = absurd (best.unbeaten beaten.0 (subst (Beats candidates beaten.0) (sym here) beaten.1))
    by_place place entry l best (inr (inr more)) = absurd (omega (arith, l, more))

pub best_more : (candidates : List Entry) (count : ℕ) (list : List Entry) (entry : Entry) → AreBest candidates count list
    → IsBest candidates count entry → AreBest candidates (count + 1) (list ++ entry ∷ [])
best_more candidates count list entry b best = record {
  each = each_append (λ entry. (place : ℕ) × (place < count + 1) × IsBest candidates place entry) list (entry ∷ [])
      (best_each candidates count list b.each) ((count, omega arith, best), tt);
  all = λ place one l own. by_place place one l own (compare place count);
  apart = apart list b.each b.apart;
}
  where
    by_place : (place : ℕ) (one : Entry) → place < count + 1 → IsBest candidates place one → (place < count) ⊎ ((place ≡ count) ⊎ (count < place))
        → Some_of (λ (other : Entry). other ≡ one) (list ++ entry ∷ [])
    by_place place one l own (inl less) = some_left (λ (other : Entry). other ≡ one) list (entry ∷ []) (b.all place one less own)
    by_place place one l own (inr (inl here)) =
        some_right (λ (other : Entry). other ≡ one) list (entry ∷ [])
        (inl (same_some entry one (sym best.at ∙ ap (slice_get candidates) (sym here) ∙ own.at)))
    by_place place one l own (inr (inr more)) = absurd (omega (arith, l, more))

    -- one that wants the same and stands before it would beat it
    other : (one : Entry) → (place : ℕ) × (place < count) × IsBest candidates place one → ¬ (one.needs ≡ entry.needs)
    other one there same = best.unbeaten there.0 (record {
      by = one;
      by_is = there.2.at;
      beaten = entry;
      beaten_is = best.at;
      covers = subst (Covers one.needs) same (embeds_itself CoversNeed covers_itself one.needs);
      apart = inr there.1;
    })

    apart : (list : List Entry) → Each (λ entry. (place : ℕ) × (place < count) × IsBest candidates place entry) list → AreApart list
        → AreApart (list ++ entry ∷ [])
    apart [] each h = (tt, tt)
    apart (x ∷ xs) each h =
        (each_append (λ (y : Entry). ¬ (x.needs ≡ y.needs)) xs (entry ∷ []) h.0 (other x each.0, tt), apart xs each.1 h.1)

pub best_all : (kept : List Candidate) (count : ℕ) (list : List Entry) → length kept ≤ count → AreBest (entries_of kept) count list
    → AreBest (entries_of kept) (length kept) list
best_all kept count list past b = record {
  each = each_weaker (λ entry. (place : ℕ) × (place < count) × IsBest (entries_of kept) place entry)
      (λ entry. (place : ℕ) × (place < length kept) × IsBest (entries_of kept) place entry)
      (λ entry one. (one.0, below_kept kept one.0 entry one.2.at, one.2)) list b.each;
  all = λ place entry l best. b.all place entry (omega (arith, l, past)) best;
  apart = b.apart;
}

-- a list that is sorted has the same items

pub contains_at : {A : Type 0} (xs : List A) (k : ℕ) (x : A) → slice_get xs k ≡ Some x → Contains xs x
contains_at xs k x at = let r = get_within xs k x at in (k, r.0, sym r.1)

pub each_moved : {A : Type 0} (P : A → Type 0) (xs ys : List A) → IsPermutation xs ys → Each P xs → Each P ys
each_moved P xs ys moved all = each_of P ys (λ k y at.
    let there = at_contains xs y (Contains-permutation ys xs y (IsPermutation-sym xs ys moved) (contains_at ys k y at)) in
    each_at P xs there.0 y all there.1)

pub one_moved : {A : Type 0} (xs ys : List A) (x : A) → IsPermutation xs ys → IsOneOf xs x → IsOneOf ys x
one_moved xs ys x moved one = at_contains ys x (Contains-permutation xs ys x moved (contains_at xs one.0 x one.1))

each_mapped : {A B : Type 0} (f : A → B) (P : B → Type 0) (xs : List A) → Each (λ x. P (f x)) xs → Each P (map f xs)
each_mapped f P [] h = tt
each_mapped f P (x ∷ xs) h = (h.0, each_mapped f P xs h.1)

mapped_each : {A B : Type 0} (f : A → B) (P : B → Type 0) (xs : List A) → Each P (map f xs) → Each (λ x. P (f x)) xs
mapped_each f P [] h = tt
mapped_each f P (x ∷ xs) h = (h.0, mapped_each f P xs h.1)

-- what is sorted and apart rises

pub candidate_order : IsStrictWeakOrder candidate_before
candidate_order = record {
  one_way = λ x y h. not_false (candidate_before y x) (λ k. not_both requirement_before requirement_order (wants x) (wants y) h k);
  chain = λ x y z n m. not_false (candidate_before x z) (λ h. between x y z n m h (requirement_order.total (wants x) (wants y)));
}
  where
    wants : Candidate → List Need
    wants x = needs_marked x.req.value

    never : (t : Bool) → t ≡ false → t ≡ true → ⊥
    never t n h = cc

    between : (x y z : Candidate) → candidate_before x y ≡ false → candidate_before y z ≡ false → candidate_before x z ≡ true
        → (requirement_before (wants x) (wants y) ≡ true) ⊎ ((wants x ≡ wants y) ⊎ (requirement_before (wants y) (wants x) ≡ true)) → ⊥
    between x y z n m h (inl k) = never (requirement_before (wants x) (wants y)) n k
    between x y z n m h (inr (inl e)) =
        never (requirement_before (wants y) (wants z)) m (subst (λ v. requirement_before v (wants z) ≡ true) e h)
    between x y z n m h (inr (inr k)) =
        never (requirement_before (wants y) (wants z)) m (requirement_order.through (wants y) (wants x) (wants z) k h)

-- neither of two candidates is before the other
abbrev want_same : Candidate → Candidate → Bool
want_same a b = is_same requirement_before (needs_marked a.req.value) (needs_marked b.req.value)

same_turned : (a b : Candidate) → want_same a b ≡ want_same b a
same_turned a b = by_tests (candidate_before a b) (candidate_before b a)
  where
    by_tests : (s t : Bool) → (not s && not t) ≡ (not t && not s)
    by_tests true true = refl
    by_tests true false = refl
    by_tests false true = refl
    by_tests false false = refl

differ : (a b : List Need) → ¬ (a ≡ b) → is_same requirement_before a b ≡ false
differ a b n = by_order (requirement_order.total a b)
  where
    first : (s t : Bool) → s ≡ true → (not s && not t) ≡ false
    first true t e = refl
    first false t e = cc

    second : (s t : Bool) → t ≡ true → (not s && not t) ≡ false
    second true true e = refl
    second false true e = refl
    second s false e = cc

    by_order : (requirement_before a b ≡ true) ⊎ ((a ≡ b) ⊎ (requirement_before b a ≡ true)) → is_same requirement_before a b ≡ false
    by_order (inl k) = first (requirement_before a b) (requirement_before b a) k
    by_order (inr (inl e)) = absurd (n e)
    by_order (inr (inr k)) = second (requirement_before a b) (requirement_before b a) k

differ_at : (list : List Candidate) → AreApart (entries_of list) → (i j : ℕ) (d : Candidate) → i < j → j < length list
    → want_same (get_or list i d) (get_or list j d) ≡ false
differ_at [] h i j d l m = absurd (omega (arith, m))
differ_at (x ∷ xs) h i zero d l m = absurd (omega (arith, l))
differ_at (x ∷ xs) h zero (suc j) d l m =
    let one = get_or xs j d in
    differ (needs_marked x.req.value) (needs_marked one.req.value)
    (each_at (λ (y : Entry). ¬ ((entry_of x).needs ≡ y.needs)) (entries_of xs) j (entry_of one) h.0
    (get_map entry_of xs j one (get_at xs j d (omega (arith, m)))))
differ_at (x ∷ xs) h (suc i) (suc j) d l m = differ_at xs h.1 i j d (omega (arith, l)) (omega (arith, m))

rising_at : {A : Type 0} (before : A → A → Bool) (xs : List A)
    → ((i j : ℕ) (d : A) → i < j → j < length xs → before (get_or xs i d) (get_or xs j d) ≡ true) → AreRising before xs
rising_at before [] h = tt
rising_at before (x ∷ xs) h = (
  each_of (λ y. before x y ≡ true) xs (λ k y at.
      let r = get_within xs k y at in let l = r.0 in
      subst (λ v. before x v ≡ true) (sym r.1) (h 0 (suc k) y (omega arith) (omega (arith, l)))),
  rising_at before xs (λ i j d l m. h (suc i) (suc j) d (omega (arith, l)) (omega (arith, m))),
)

rising_mapped : {A B : Type 0} (f : A → B) (before : B → B → Bool) (xs : List A) → AreRising (λ a b. before (f a) (f b)) xs → AreRising before (map f xs)
rising_mapped f before [] h = tt
rising_mapped f before (x ∷ xs) h = (each_mapped f (λ y. before (f x) y ≡ true) xs h.0, rising_mapped f before xs h.1)

pub sorted_rises : (list sorted : List Candidate) → AreApart (entries_of list) → IsPermutation list sorted → IsSortedBy candidate_before sorted
    → AreRising entry_before (entries_of sorted)
sorted_rises list sorted apart moved up =
    rising_mapped entry_of entry_before sorted (rising_at candidate_before sorted (λ i j d l m.
    by_tests (candidate_before (get_or sorted i d) (get_or sorted j d)) (candidate_before (get_or sorted j d) (get_or sorted i d))
    (apart_from_distinct want_same sorted i j d
    (IsDistinct-IsPermutation want_same same_turned list sorted moved (IsDistinct-from_apart want_same list (differ_at list apart))) l m)
    (sorted_far candidate_before candidate_order sorted up i j d (omega (arith, l)) m)))
  where
    by_tests : (s t : Bool) → (not s && not t) ≡ false → t ≡ false → s ≡ true
    by_tests true t h n = refl
    by_tests false true h n = cc
    by_tests false false h n = cc

-- the unbeaten ones, once sorted
pub best_sorted : (known : List (List Need)) (kept list sorted : List Candidate)
    → AreBest (entries_of kept) (length kept) (entries_of list)
    → IsPermutation list sorted → IsSortedBy candidate_before sorted
    → Each (λ (entry : Entry). ¬ IsCovered known entry.needs) (entries_of kept) → AreUnbeaten known (entries_of kept) (entries_of sorted)
best_sorted known kept list sorted best moved up new = record {
  rising = sorted_rises list sorted best.apart moved up;
  each = each_mapped entry_of (λ entry. (place : ℕ) × IsUnbeaten known (entries_of kept) place entry) sorted
      (each_moved (λ one. (place : ℕ) × IsUnbeaten known (entries_of kept) place (entry_of one)) list sorted moved
      (mapped_each entry_of (λ entry. (place : ℕ) × IsUnbeaten known (entries_of kept) place entry) list
      (each_weaker (λ entry. (place : ℕ) × (place < length kept) × IsBest (entries_of kept) place entry)
      (λ entry. (place : ℕ) × IsUnbeaten known (entries_of kept) place entry) unbeaten (entries_of list) best.each)));
  all = λ place entry one. there entry (one_of_same (entries_of list) entry
      (best.all place entry (below_kept kept place entry one.at) (record { at = one.at; unbeaten = one.unbeaten })));
}
  where
    unbeaten : (entry : Entry) → (place : ℕ) × (place < length kept) × IsBest (entries_of kept) place entry
        → (place : ℕ) × IsUnbeaten known (entries_of kept) place entry
    unbeaten entry one = (
      one.0,
      record {
        at = one.2.at;
        new = each_at (λ (e : Entry). ¬ IsCovered known e.needs) (entries_of kept) one.0 entry new one.2.at;
        unbeaten = one.2.unbeaten;
      },
    )

    there : (entry : Entry) → IsOneOf (entries_of list) entry → IsOneOf (entries_of sorted) entry
    there entry one =
        let made = get_mapped entry_of list one.0 entry one.1 in
        let moved' = one_moved list sorted made.0 moved (one.0, made.1) in
        (moved'.0, get_map entry_of sorted moved'.0 made.0 moved'.1 ∙ ap Some made.2)
