-- What holds of the holders once an item is given a place, and those who had it move.
use Rattle.std.proofs.Common.{ℕ, ◌≡◌, ◌+◌, ◌^◌, ◌<◌, ◌≤◌, List, [], ◌∷◌, length, get_or, refl, arith, zero, suc, ap, sym, ◌∙◌, inl, inr, subst, true, false}
use Rattle.std.proofs.Common.{Option, Some, None, set}
use Rattle.std.specs.Prelude.{◌⊎◌, ◌↔◌, replicate, IsTrue}
use Rattle.std.specs.Int.{bit_at}
use Rattle.std.proofs.lemmas.Bool.{cases_eq, cases_lt, false≢true}
use Rattle.std.proofs.lemmas.Nat.Bits.{bit_at_above}
use Rattle.std.proofs.lemmas.List.{get_or-set_same, get_or-set_other, set-set, set-get_or}
use Rattle.list_words.proofs.GetLemmas.{get_within, get_any, get_at}
use Rattle.mask_match.specs.Rows.{HasBitAt, ArePlaced}
use Rattle.mask_match.specs.Holding.{holder_at, Holds, AreHeld, IsGiven, IsRowSeen, IsShut, AreShut}
use Rattle.mask_match.specs.declared.TheConstants.{MOST_PLACES}

-- a place that is held is one
pub held_below : (h : List (Option ℕ)) (place item : ℕ) → holder_at h place ≡ Some item → place < length h
held_below [] zero item e = cc
held_below [] (suc p) item e = cc
held_below (x ∷ xs) zero item e = omega arith
held_below (x ∷ xs) (suc p) item e = let r = held_below xs p item e in omega (arith, r)

-- the holders with the item at the place
abbrev pub put : List (Option ℕ) → ℕ → ℕ → List (Option ℕ)
put h place item = set h place (Some item)

put_here : (h : List (Option ℕ)) (place item : ℕ) → place < length h → holder_at (put h place item) place ≡ Some item
put_here h place item l = get_or-set_same h place (Some item) None l

put_there : (h : List (Option ℕ)) (place item other : ℕ) → (other ≡ place → ⊥) → holder_at (put h place item) other ≡ holder_at h other
put_there h place item other n = get_or-set_other h place other (Some item) None n

-- whoever holds a place then is the item at the place, or held it before
put_cases : (h : List (Option ℕ)) (place item q k : ℕ) → place < length h → holder_at (put h place item) q ≡ Some k
    → ((q ≡ place) × (k ≡ item)) ⊎ ((q ≡ place → ⊥) × (holder_at h q ≡ Some k))
put_cases h place item q k l e = by_case (cases_eq q place)
  where
    by_case : (q ≡ place) ⊎ (q ≡ place → ⊥) → ((q ≡ place) × (k ≡ item)) ⊎ ((q ≡ place → ⊥) × (holder_at h q ≡ Some k))
    by_case (inl s) =
        let here : holder_at (put h place item) q ≡ Some item = subst (λ p. holder_at (put h place item) p ≡ Some item) (sym s) (put_here h place item l) in
        inl (s, cc (e, here))
    by_case (inr n) = inr (n, sym (put_there h place item q n) ∙ e)

-- what was put there is taken back
pub put_back : (h : List (Option ℕ)) (place item other : ℕ) → holder_at h place ≡ Some other → put (put h place item) place other ≡ h
put_back h place item other e =
    set-set h place (Some item) (Some other) ∙ subst (λ x. set h place x ≡ h) e (set-get_or h place None)

-- an item that has no place yet is given one; who had it has none then
pub put_held : (rows : List ℕ) (h : List (Option ℕ)) (place item : ℕ) → AreHeld rows h → (Holds h item → ⊥) → HasBitAt rows item place
    → place < length h → AreHeld rows (put h place item)
put_held rows h place item held less bit l = record {
  own = λ q k e. own q k (put_cases h place item q k l e);
  once = λ p q k a b. once p q k (put_cases h place item p k l a) (put_cases h place item q k l b);
}
  where
    own : (q k : ℕ) → ((q ≡ place) × (k ≡ item)) ⊎ ((q ≡ place → ⊥) × (holder_at h q ≡ Some k)) → HasBitAt rows k q
    own q k (inl s) = subst (λ v. HasBitAt rows v q) (sym s.1) (subst (λ v. HasBitAt rows item v) (sym s.0) bit)
    own q k (inr s) = held.own q k s.1

    once : (p q k : ℕ) → ((p ≡ place) × (k ≡ item)) ⊎ ((p ≡ place → ⊥) × (holder_at h p ≡ Some k))
        → ((q ≡ place) × (k ≡ item)) ⊎ ((q ≡ place → ⊥) × (holder_at h q ≡ Some k)) → p ≡ q
    once p q k (inl s) (inl r) = s.0 ∙ sym r.0
    once p q k (inl s) (inr r) = absurd (less (q, r.1 ∙ ap Some s.1))
    once p q k (inr s) (inl r) = absurd (less (p, s.1 ∙ ap Some r.1))
    once p q k (inr s) (inr r) = held.once p q k s.1 r.1

pub put_displaces : (rows : List ℕ) (h : List (Option ℕ)) (place item other : ℕ) → AreHeld rows h → (Holds h item → ⊥)
    → holder_at h place ≡ Some other → Holds (put h place item) other → ⊥
put_displaces rows h place item other held less at has =
    by_case (put_cases h place item has.0 other (held_below h place other at) has.1)
  where
    by_case : ((has.0 ≡ place) × (other ≡ item)) ⊎ ((has.0 ≡ place → ⊥) × (holder_at h has.0 ≡ Some other)) → ⊥
    by_case (inl s) = less (place, at ∙ ap Some s.1)
    by_case (inr s) = s.0 (held.once has.0 place other s.1 at)

-- a free place is given
pub put_free : (rows : List ℕ) (h : List (Option ℕ)) (place item : ℕ) → AreHeld rows h → (Holds h item → ⊥) → HasBitAt rows item place
    → place < length h → holder_at h place ≡ None → IsGiven rows h (put h place item) item
put_free rows h place item held less bit l free = record {
  held = put_held rows h place item held less bit l;
  here = (place, put_here h place item l);
  kept = λ other has. (has.0, put_there h place item has.0 (λ s. none other (subst (λ v. holder_at h v ≡ Some other) s has.1)) ∙ has.1);
  only = λ other has. only other has.0 (put_cases h place item has.0 other l has.1);
}
  where
    none : (other : ℕ) → holder_at h place ≡ Some other → ⊥
    none other e = cc

    only : (other q : ℕ) → ((q ≡ place) × (other ≡ item)) ⊎ ((q ≡ place → ⊥) × (holder_at h q ≡ Some other)) → (other ≡ item) ⊎ Holds h other
    only other q (inl s) = inl s.1
    only other q (inr s) = inr (q, s.1)

-- a place is given whose holder is given another
pub put_moved : (rows : List ℕ) (h new : List (Option ℕ)) (place item other : ℕ) → holder_at h place ≡ Some other
    → IsGiven rows (put h place item) new other → IsGiven rows h new item
put_moved rows h new place item other at given = record {
  held = given.held;
  here = given.kept item (place, put_here h place item l);
  kept = λ k has. kept k has (cases_eq has.0 place);
  only = λ k has. only k (given.only k has);
}
  where
    l : place < length h
    l = held_below h place other at

    kept : (k : ℕ) (has : Holds h k) → (has.0 ≡ place) ⊎ (has.0 ≡ place → ⊥) → Holds new k
    kept k has (inl s) =
        let here : holder_at h place ≡ Some k = subst (λ v. holder_at h v ≡ Some k) s has.1 in
        let same : other ≡ k = cc (at, here) in
        subst (λ v. Holds new v) same given.here
    kept k has (inr n) = given.kept k (has.0, put_there h place item has.0 n ∙ has.1)

    only : (k : ℕ) → (k ≡ other) ⊎ Holds (put h place item) k → (k ≡ item) ⊎ Holds h k
    only k (inl s) = inr (place, at ∙ ap Some (sym s))
    only k (inr has) = by_case (put_cases h place item has.0 k l has.1)
      where
        by_case : ((has.0 ≡ place) × (k ≡ item)) ⊎ ((has.0 ≡ place → ⊥) × (holder_at h has.0 ≡ Some k)) → (k ≡ item) ⊎ Holds h k
        by_case (inl s) = inl s.1
        by_case (inr s) = inr (has.0, s.1)

-- a row stays seen while more is
pub row_more : (rows : List ℕ) (before now item : ℕ) → ((k : ℕ) → bit_at before k ≡ 1 → bit_at now k ≡ 1) → IsRowSeen rows before item
    → IsRowSeen rows now item
row_more rows before now item still seen k has = still k (seen k has)

-- a place whose holder finds no other is shut too
pub shut_more : (rows : List ℕ) (h : List (Option ℕ)) (first before with now place item other : ℕ) → holder_at h place ≡ Some other
    → ((k : ℕ) → bit_at with k ≡ 1 ↔ ((k ≡ place) ⊎ (bit_at before k ≡ 1))) → AreShut rows h first before
    → AreShut rows (put h place item) with now → IsRowSeen rows now other → AreShut rows h first now
shut_more rows h first before with now place item other at sets old new row = record {
  still = λ k e. still k (old.still k e);
  shut = λ k e. after k (new.shut k e);
}
  where
    still : (k : ℕ) → bit_at before k ≡ 1 → bit_at now k ≡ 1
    still k e = new.still k ((sets k).1 (inr e))

    here : (k : ℕ) → k ≡ place → IsShut rows h now k
    here k s = (other, subst (λ v. holder_at h v ≡ Some other) (sym s) at, row)

    earlier : (k : ℕ) → (bit_at first k ≡ 1) ⊎ IsShut rows h before k → (bit_at first k ≡ 1) ⊎ IsShut rows h now k
    earlier k (inl e) = inl e
    earlier k (inr s) = inr (s.0, s.1, row_more rows before now s.0 still s.2)

    set : (k : ℕ) → (k ≡ place) ⊎ (bit_at before k ≡ 1) → (bit_at first k ≡ 1) ⊎ IsShut rows h now k
    set k (inl s) = inr (here k s)
    set k (inr e) = earlier k (old.shut k e)

    after : (k : ℕ) → (bit_at with k ≡ 1) ⊎ IsShut rows (put h place item) now k → (bit_at first k ≡ 1) ⊎ IsShut rows h now k
    after k (inl e) = set k ((sets k).0 e)
    after k (inr s) = by_case (cases_eq k place)
      where
        by_case : (k ≡ place) ⊎ (k ≡ place → ⊥) → (bit_at first k ≡ 1) ⊎ IsShut rows h now k
        by_case (inl e) = inr (here k e)
        by_case (inr n) = inr (s.0, sym (put_there h place item k n) ∙ s.1, s.2)

-- the row that is read is that of the item
pub row_read : (rows : List ℕ) (item place : ℕ) → HasBitAt rows item place → bit_at (get_or rows item 0) place ≡ 1
row_read rows item place has =
    let there = get_within rows item has.0 has.1 in
    subst (λ v. bit_at v place ≡ 1) (there.1 ∙ get_any rows item has.0 0 there.0) has.2

pub row_has : (rows : List ℕ) (item place : ℕ) → item < length rows → bit_at (get_or rows item 0) place ≡ 1 → HasBitAt rows item place
row_has rows item place l e = (get_or rows item 0, get_at rows item 0 l, e)

-- where all items hold places, there is a list of them
places_from : (h : List (Option ℕ)) (at n : ℕ) → ((k : ℕ) → at ≤ k → k < at + n → Holds h k)
    → (list : List ℕ) × (length list ≡ n) × ((k : ℕ) → k < n → holder_at h (get_or list k 0) ≡ Some (at + k))
places_from h at zero all = ([], refl, λ k l. absurd (omega arith))
places_from h at (suc n) all =
    let first = all at (omega arith) (omega arith) in
    let rest = places_from h (at + 1) n (λ k l m. all k (omega (arith, l)) (omega (arith, m))) in
    (first.0 ∷ rest.0, ap suc rest.1, each first rest.0 rest.2)
  where
    each : (first : Holds h at) (list : List ℕ) → ((k : ℕ) → k < n → holder_at h (get_or list k 0) ≡ Some (at + 1 + k)) → (k : ℕ) → k < suc n
        → holder_at h (get_or (first.0 ∷ list) k 0) ≡ Some (at + k)
    each first list rest zero l = let same : at ≡ at + 0 = omega arith in first.1 ∙ ap Some same
    each first list rest (suc k) l = let same : at + 1 + k ≡ at + suc k = omega arith in rest k (omega arith) ∙ ap Some same

pub all_held : (rows : List ℕ) (h : List (Option ℕ)) → AreHeld rows h
    → ((i : ℕ) → get_or rows i 0 < 2 ^ 128) → ((k : ℕ) → k < length rows → Holds h k) → ArePlaced rows
all_held rows h held fits all =
    let places = places_from h 0 (length rows) (λ k l m. all k (omega (arith, m))) in
    let here : (k : ℕ) → k < length rows → holder_at h (get_or places.0 k 0) ≡ Some k =
    λ k l. let same : 0 + k ≡ k = omega arith in places.2 k l ∙ ap Some same in (
      places.0,
      record {
        long = places.1;
        apart = λ i j l m e. apart places.0 here i j (subst (λ n. i < n) places.1 l) (subst (λ n. j < n) places.1 m) e;
        each = λ item l.
            let at = here item l in
            let bit = held.own (get_or places.0 item 0) item at in
            (within item (get_or places.0 item 0) bit, bit);
      },
    )
  where
    within : (item place : ℕ) → HasBitAt rows item place → place < MOST_PLACES
    within item place bit = by_order (cases_lt place MOST_PLACES)
      where
        by_order : (place < MOST_PLACES) ⊎ (MOST_PLACES ≤ place) → place < MOST_PLACES
        by_order (inl l) = l
        by_order (inr past) =
            let above = bit_at_above (get_or rows item 0) 128 place (fits item) past in
            let set = row_read rows item place bit in absurd (omega (arith, above, set))

    apart : (list : List ℕ) → ((k : ℕ) → k < length rows → holder_at h (get_or list k 0) ≡ Some k) → (i j : ℕ) → i < length rows
        → j < length rows → get_or list i 0 ≡ get_or list j 0 → i ≡ j
    apart list at i j l m e = let a = at i l in let b = subst (λ p. holder_at h p ≡ Some j) (sym e) (at j m) in cc (a, b)

-- the search for one item, in the row of searches
pub none_yet : (rows : List ℕ) (h : List (Option ℕ)) → ((k : ℕ) → Holds h k → ⊥) → AreHeld rows h
none_yet rows h none = record {
  own = λ place k e. absurd (none k (place, e));
  once = λ p q k a b. absurd (none k (p, a));
}

pub all_more : (rows : List ℕ) (old new : List (Option ℕ)) (item : ℕ) → IsGiven rows old new item → ((k : ℕ) → k < item → Holds old k)
    → (k : ℕ) → k < item + 1 → Holds new k
all_more rows old new item given all k l = by_case (cases_eq k item)
  where
    by_case : (k ≡ item) ⊎ (k ≡ item → ⊥) → Holds new k
    by_case (inl s) = subst (λ v. Holds new v) (sym s) given.here
    by_case (inr n) = given.kept k (all k (below (cases_lt k item)))
      where
        below : (k < item) ⊎ (item ≤ k) → k < item
        below (inl m) = m
        below (inr m) = absurd (n (omega (arith, l, m)))

pub only_more : (rows : List ℕ) (old new : List (Option ℕ)) (item : ℕ) → IsGiven rows old new item → ((k : ℕ) → Holds old k → k < item)
    → (k : ℕ) → Holds new k → k < item + 1
only_more rows old new item given only k has = by_case (given.only k has)
  where
    by_case : (k ≡ item) ⊎ Holds old k → k < item + 1
    by_case (inl s) = omega (arith, s)
    by_case (inr h) = let l = only k h in omega (arith, l)

pub is_false : (rows : List ℕ) → (ArePlaced rows → ⊥) → IsTrue false ↔ ArePlaced rows
is_false rows none = (λ f. absurd (false≢true f), λ p. absurd (none p))

pub is_true : (rows : List ℕ) → ArePlaced rows → IsTrue true ↔ ArePlaced rows
is_true rows p = (λ t. p, λ q. refl)

pub none_held : (n item : ℕ) → Holds (replicate n None) item → ⊥
none_held n item has = free n has.0 has.1
  where
    free : (m place : ℕ) → holder_at (replicate m None) place ≡ Some item → ⊥
    free zero zero e = cc
    free zero (suc p) e = cc
    free (suc m) zero e = cc
    free (suc m) (suc p) e = free m p e
