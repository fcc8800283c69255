-- How a place that is given or taken changes the counts.
use Rattle.std.proofs.Common.{ℕ, ◌≡◌, ◌<◌, ◌≤◌, ◌+◌, ◌-◌, List, length, get_or, set, arith, sym, ◌∙◌, ap, refl, cond, eqb}
use Rattle.std.proofs.Common.{Option, Some, None, inl, inr}
use Rattle.std.specs.Prelude.{◌⊎◌}
use Rattle.std.proofs.lemmas.Bool.{cases_eq, cases_lt, eq-eqb, ne_eqb, cond-true, cond-false}
use Rattle.std.proofs.lemmas.List.{length-set, get_or-set_same, get_or-set_other, get_or_past, get_or_read}
use Rattle.std.proofs.lemmas.List.Sums.{sum_by-set, count_by-le-length}
use Rattle.hall_match.specs.Holding.{is_at, given_at, holder_count}

-- what one item adds to the holder_count of a place
abbrev pub one_at : ℕ → Option ℕ → ℕ
one_at place given = cond (is_at place given) 1 0

pub one_same : (place : ℕ) → one_at place (Some place) ≡ 1
one_same place = cond-true {A = ℕ} (eqb place place) 1 0 (eq-eqb place place refl)

pub one_other : (place other : ℕ) → (other ≡ place → ⊥) → one_at place (Some other) ≡ 0
one_other place other n = cond-false {A = ℕ} (eqb other place) 1 0 (ne_eqb other place n)

pub holder_count-set : (given : List (Option ℕ)) (item place : ℕ) (new : Option ℕ) → item < length given
    → holder_count place (set given item new) + one_at place (given_at given item) ≡ holder_count place given
    + one_at place new
holder_count-set given item place new l = sum_by-set (λ g. cond (is_at place g) 1 0) given item new None
    l

-- an item that is given a place is one of the items
pub given_inside : (given : List (Option ℕ)) (item place : ℕ) → given_at given item ≡ Some place
    → item < length given
given_inside given item place e = either (cases_lt item (length given))
  where
    either : (item < length given) ⊎ (length given ≤ item) → item < length given
    either (inl l) = l
    either (inr l) = let past : given_at given item ≡ None = get_or_past given item None l in absurd
        (cc)

pub holder_count-give : (given : List (Option ℕ)) (item place : ℕ) → item < length given
    → given_at given item ≡ None
    → holder_count place (set given item (Some place)) ≡ holder_count place given + 1
holder_count-give given item place l e =
    let a = holder_count-set given item place (Some place) l in
    let b = ap (one_at place) e in
    let d = one_same place in omega (arith, a, b, d)

pub holder_count-give_other : (given : List (Option ℕ)) (item place other : ℕ) → item < length given
    → given_at given item ≡ None → (place ≡ other → ⊥)
    → holder_count other (set given item (Some place)) ≡ holder_count other given
holder_count-give_other given item place other l e n =
    let a = holder_count-set given item other (Some place) l in
    let b = ap (one_at other) e in
    let d = one_other other place n in omega (arith, a, b, d)

pub holder_count-release : (given : List (Option ℕ)) (item place : ℕ) → given_at given item ≡ Some place
    → holder_count place (set given item None) + 1 ≡ holder_count place given
holder_count-release given item place e =
    let a = holder_count-set given item place None (given_inside given item place e) in
    let b = ap (one_at place) e in
    let d = one_same place in omega (arith, a, b, d)

pub holder_count-release_other : (given : List (Option ℕ)) (item place other : ℕ)
    → given_at given item ≡ Some place → (place ≡ other → ⊥)
    → holder_count other (set given item None) ≡ holder_count other given
holder_count-release_other given item place other e n =
    let a = holder_count-set given item other None (given_inside given item place e) in
    let b = ap (one_at other) e in
    let d = one_other other place n in omega (arith, a, b, d)

-- where one item has no place, a place has fewer holder_count than there are items
pub holder_count-below : (given : List (Option ℕ)) (item place : ℕ) → item < length given
    → given_at given item ≡ None → holder_count place given < length given
holder_count-below given item place l e =
    let a = holder_count-give given item place l e in
    let b = count_by-le-length (is_at place) (set given item (Some place)) in
    let d = length-set given item (Some place) in omega (arith, a, b, d)

-- how often each place is used, as it is counted
abbrev pub Counted : List (Option ℕ) → List ℕ → Type 0
Counted given used = (place : ℕ) → place < length used → get_or used place 0 ≡ holder_count place given

pub counted_give : (given : List (Option ℕ)) (used : List ℕ) (item place was : ℕ)
    → item < length given → given_at given item ≡ None → place < length used
    → was ≡ get_or used place was → Counted given used
    → Counted (set given item (Some place)) (set used place (was + 1))
counted_give given used item place was l e inside reads counts q below = either (cases_eq q place)
  where
    here : was ≡ holder_count place given
    here = get_or_read used place was inside reads 0 ∙ counts place inside

    either : (q ≡ place) ⊎ (q ≡ place → ⊥)
        → get_or (set used place (was + 1)) q 0 ≡ holder_count q (set given item (Some place))
    either (inl s) = rw (s, get_or-set_same used place (was + 1) 0 inside, here)
        (sym (holder_count-give given item place l e))
    either (inr n) =
        let long = length-set used place (was + 1) in
        rw (get_or-set_other used place q (was + 1) 0 n) (counts q (omega (arith, long, below)) ∙
        sym (holder_count-give_other given item place q l e (λ d. n (sym d))))

pub counted_release : (given : List (Option ℕ)) (used : List ℕ) (item place was : ℕ)
    → given_at given item ≡ Some place → place < length used → was ≡ get_or used place was
    → Counted given used
    → Counted (set given item None) (set used place (was - 1))
counted_release given used item place was e inside reads counts q below = either (cases_eq q place)
  where
    here : was ≡ holder_count place given
    here = get_or_read used place was inside reads 0 ∙ counts place inside

    either : (q ≡ place) ⊎ (q ≡ place → ⊥)
        → get_or (set used place (was - 1)) q 0 ≡ holder_count q (set given item None)
    either (inl s) = rw (s, get_or-set_same used place (was - 1) 0 inside)
        (let a = holder_count-release given item place e in let b = here in omega (arith, a, b))
    either (inr n) =
        let long = length-set used place (was - 1) in
        rw (get_or-set_other used place q (was - 1) 0 n) (counts q (omega (arith, long, below)) ∙
        sym (holder_count-release_other given item place q e (λ d. n (sym d))))

-- every place that an item is given is one of the places
abbrev pub Inside : List (Option ℕ) → ℕ → Type 0
Inside given places = (item place : ℕ) → given_at given item ≡ Some place → place < places

pub inside_give : (given : List (Option ℕ)) (places item place : ℕ) → place < places
    → Inside given places → Inside (set given item (Some place)) places
inside_give given places item place below h i p e = either (cases_eq i item)
    (cases_lt item (length given))
  where
    either : (i ≡ item) ⊎ (i ≡ item → ⊥) → (item < length given) ⊎ (length given ≤ item)
        → p < places
    either (inr n) o = h i p (sym (get_or-set_other given item i (Some place) None n) ∙ e)
    either (inl s) (inl l) =
        let now : given_at (set given item (Some place)) item ≡ Some place = get_or-set_same given
        item (Some place) None l in
        let same : p ≡ place = cc in omega (arith, same, below)
    either (inl s) (inr l) =
        let long = length-set given item (Some place) in
        let none' : given_at (set given item (Some place)) i ≡ None = get_or_past
        (set given item (Some place)) i None (omega (arith, long, s, l)) in absurd (cc)

pub inside_release : (given : List (Option ℕ)) (places item : ℕ) → Inside given places
    → Inside (set given item None) places
inside_release given places item h i p e = either (cases_eq i item) (cases_lt item (length given))
  where
    either : (i ≡ item) ⊎ (i ≡ item → ⊥) → (item < length given) ⊎ (length given ≤ item)
        → p < places
    either (inr n) o = h i p (sym (get_or-set_other given item i None None n) ∙ e)
    either (inl s) (inl l) = let now : given_at (set given item None) item ≡ None = get_or-set_same
        given item None None l in absurd (cc)
    either (inl s) (inr l) =
        let long = length-set given item None in
        let none' : given_at (set given item None) i ≡ None = get_or_past (set given item None) i
        None (omega (arith, long, s, l)) in absurd (cc)
