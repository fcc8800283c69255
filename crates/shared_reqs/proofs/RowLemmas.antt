-- Shared user requirements by place, and rows of bits of whom they cover.
use Rattle.std.proofs.Common.{ℕ, ◌≡◌, ◌<◌, ◌≤◌, ◌+◌, ◌^◌, ◌∙◌, Bool, true, false, ap}
use Rattle.std.proofs.Common.{eqb, List, length, take, get_or, Option, Some, None, Vec, Global, refl, sym, subst, arith, inl, inr}
use Rattle.std.specs.Prelude.{◌⊎◌, ◌↔◌, ◌==◌, if◌then◌else◌, not, IsTrue, IfSome, IfNone, is_some, nat_lt, slice_get, slice_set, bit_and, bit_or}
use Rattle.std.specs.Int.{bit_at}
use Rattle.std.specs.declared.sync.Arc.{Arc}
use Rattle.std.proofs.lemmas.List.{length-map}
use Rattle.std.proofs.lemmas.Bool.{eq-eqb, eqb-true}
use Rattle.std.proofs.lemmas.Bool.Decides.{nat_tests}
use Rattle.list_words.specs.Lists.{Some_of}
use Rattle.list_words.specs.Embeds.{IsInjective}
use Rattle.list_words.proofs.TestLemmas.{or_cases, or_right}
use Rattle.list_words.proofs.GetLemmas.{same_some, get_below, get_there, get_at, get_map, get_take, get_taken, get_set_same, get_set_other}
use Rattle.list_words.proofs.EachLemmas.{some_at}
use Rattle.list_words.proofs.PlaceLemmas.{from_places, to_places}
use Rattle.list_words.proofs.CountLemmas.{embeds_long}
use Rattle.role_order.specs.Masks.{has_bit}
use Rattle.role_order.specs.MasksBack.{has_bit_of_one}
use Rattle.role_order.proofs.MaskLemmas.{bit_of_true, bit_of_false, has_bit-or, has_bit-pow, no_bit, tested_bit}
use Rattle.role_order.proofs.ClosureLemmas.{length_taken}
use Rattle.hall_match.specs.Joined.{IsTransversal, IsLeastTransversal, JoinsAt}
use Rattle.hall_match.proofs.JoinedLemmas.{none_embeds, transversal_places, places_transversal}
use Rattle.arbac_laws.specs.Needs.{Need, CoversNeed, Covers}
use Rattle.mask_match.specs.declared.TheConstants.{MOST_PLACES}
use Rattle.mask_match.specs.Rows.{HasBitAt, ArePlaced}
use Rattle.shared_reqs.specs.Shared.{MarkedNeed, marked_of, needs_shared}
use Rattle.shared_reqs.specs.CoverRows.{CoversThere, IsRow, AreRows, ArePlacedIn}

-- what is wanted of the user at a place
need_there : (users : List (Arc MarkedNeed Global)) (k : ℕ) (user : Arc MarkedNeed Global) → slice_get users k ≡ Some user
    → slice_get (needs_shared users) k ≡ Some user.value.need
need_there users k user at =
    get_map (λ (one : MarkedNeed). one.need) (marked_of users) k user.value (get_map (λ (one : Arc MarkedNeed Global). one.value) users k user at)

-- and where it is read there
pub need_read : (users : List (Arc MarkedNeed Global)) (k : ℕ) (user : Arc MarkedNeed Global) (marked : MarkedNeed) (need : Need)
    → slice_get users k ≡ Some user → marked ≡ user.value → need ≡ marked.need → slice_get (needs_shared users) k ≡ Some need
need_read users k user marked need at is wanted =
    need_there users k user at ∙ ap Some (sym (wanted ∙ ap (λ (one : MarkedNeed). one.need) is))

-- as many as there are users
pub needs_long : (users : List (Arc MarkedNeed Global)) → length (needs_shared users) ≡ length users
needs_long users =
    length-map (marked_of users) (λ (one : MarkedNeed). one.need) ∙ length-map users (λ (one : Arc MarkedNeed Global). one.value)

-- the item at a place of a slice
pub item_there : {A : Type 0} (xs : List A) (i : ℕ) (x : A) → i < length xs → x ≡ get_or xs i x → slice_get xs i ≡ Some x
item_there xs i x within is = get_at xs i x within ∙ ap (λ (y : _). Some y) (sym is)

-- what a slice's item at a place is, from its two tests
pub looked_up : {A : Type 0} (xs : List A) (k : ℕ) (x d : A) → true ≡ nat_lt k (length xs) → x ≡ get_or xs k d → slice_get xs k ≡ Some x
looked_up xs k x d test is =
    let within : k < length xs = grind (arith, nat_tests) in
    get_at xs k d within ∙ ap (λ (z : _). Some z) (sym is)

-- one bit more
bit_more : (row at k : ℕ) → (bit_at (bit_or row (2 ^ at)) k ≡ 1) ↔ ((bit_at row k ≡ 1) ⊎ (at ≡ k))
bit_more row at k = (
  λ one. by_side (or_cases (has_bit row k) (has_bit (2 ^ at) k) (sym (has_bit-or row (2 ^ at) k) ∙ has_bit_of_one (bit_or row (2 ^ at)) k one)),
  back,
)
  where
    by_side : (has_bit row k ≡ true) ⊎ (has_bit (2 ^ at) k ≡ true) → (bit_at row k ≡ 1) ⊎ (at ≡ k)
    by_side (inl h) = inl (bit_of_true row k h)
    by_side (inr h) = inr (eqb-true at k (sym (has_bit-pow at k) ∙ h))

    back : (bit_at row k ≡ 1) ⊎ (at ≡ k) → bit_at (bit_or row (2 ^ at)) k ≡ 1
    back (inl one) = bit_of_true (bit_or row (2 ^ at)) k (has_bit-or row (2 ^ at) k ∙ rw (has_bit_of_one row k one) refl)
    back (inr e) = bit_of_true (bit_or row (2 ^ at)) k
        (has_bit-or row (2 ^ at) k ∙ or_right (has_bit row k) (has_bit (2 ^ at) k) (has_bit-pow at k ∙ eq-eqb at k e))

-- the row so far has the bits of those so far who are covered
abbrev pub IsRowUpTo : Need → List Need → ℕ → ℕ → Type 0
IsRowUpTo user others at row = (k : ℕ) → (bit_at row k ≡ 1) ↔ ((k < at) × CoversThere user others k)

-- with one more who is covered
pub row_with : (user : Need) (others : List Need) (row at : ℕ) (other : Need) → slice_get others at ≡ Some other → CoversNeed user other
    → IsRowUpTo user others at row → IsRowUpTo user others (at + 1) (bit_or row (2 ^ at))
row_with user others row at other here covers before k = (λ one. to ((bit_more row at k).0 one), λ both. (bit_more row at k).1 (from (eqb at k) refl both))
  where
    to : (bit_at row k ≡ 1) ⊎ (at ≡ k) → (k < at + 1) × CoversThere user others k
    to (inl one) = let old = (before k).0 one in (omega (arith, old.0), old.1)
    to (inr e) = (omega (arith, e), subst (λ (place : ℕ). CoversThere user others place) e (other, here, covers))

    from : (t : Bool) → eqb at k ≡ t → (k < at + 1) × CoversThere user others k → (bit_at row k ≡ 1) ⊎ (at ≡ k)
    from true e both = inr (eqb-true at k e)
    from false e both = let less : k < at = grind (arith, nat_tests) in inl ((before k).1 (less, both.1))

-- with one more who is not
pub row_without : (user : Need) (others : List Need) (row at : ℕ) (other : Need) → slice_get others at ≡ Some other
    → ¬ CoversNeed user other → IsRowUpTo user others at row → IsRowUpTo user others (at + 1) row
row_without user others row at other here none before k = (λ one. let old = (before k).0 one in (omega (arith, old.0), old.1), from (eqb at k) refl)
  where
    from : (t : Bool) → eqb at k ≡ t → (k < at + 1) × CoversThere user others k → bit_at row k ≡ 1
    from true e both =
        let there : slice_get others k ≡ Some other = subst (λ (place : ℕ). slice_get others place ≡ Some other) (eqb-true at k e) here in
        let same : both.1.0 ≡ other = same_some both.1.0 other (sym both.1.1 ∙ there) in
        absurd (none (subst (λ (x : Need). CoversNeed user x) same both.1.2))
    from false e both = let less : k < at = grind (arith, nat_tests) in (before k).1 (less, both.1)

-- when all others are gone through, it is the user's row
pub row_whole : (user : Need) (others : List Need) (row at : ℕ) → length others ≤ at → IsRowUpTo user others at row → IsRow user others row
row_whole user others row at all before k = (
  λ one. ((before k).0 one).1,
  λ there. let less = get_below others k there.0 there.1 in (before k).1 (omega (arith, all, less), there),
)

-- one row more
pub rows_more : (users others : List Need) (rows : List ℕ) (at row : ℕ) (user : Need) → at < length rows
    → slice_get users at ≡ Some user → AreRows users others rows at → IsRow user others row → AreRows users others (slice_set rows at row) (at + 1)
rows_more users others rows at row user room here before is k one less there = by_test (eqb at k) refl
  where
    by_test : (t : Bool) → eqb at k ≡ t → (r : ℕ) × (slice_get (slice_set rows at row) k ≡ Some r) × IsRow one others r
    by_test true e =
        let same_place : at ≡ k = eqb-true at k e in
        let same : user ≡ one = same_some user one (sym (subst (λ (place : ℕ). slice_get users place ≡ Some user) same_place here) ∙ there) in (
          row,
          subst (λ (place : ℕ). slice_get (slice_set rows at row) place ≡ Some row) same_place (get_set_same rows at row room),
          subst (λ (x : Need). IsRow x others row) same is,
        )
    by_test false e =
        let short : k < at = grind (arith, nat_tests) in
        let old = before k one short there in
        (old.0, get_set_other rows at k row (λ same. let l : k < at = short in omega (arith, same, l)) ∙ old.1, old.2)

-- a user without a bit covers nobody, so there is no cover
pub none_covered : (users others : List Need) (at row : ℕ) (user : Need) → slice_get users at ≡ Some user → IsRow user others row
    → row ≡ 0 → ¬ Covers users others
none_covered users others at row user here is none c =
    let there = c.each at user here in
    let one : bit_at 0 (c.to at) ≡ 1 = rw none at ((is (c.to at)).1 (there.0, there.1, there.2)) in
    let never : false ≡ true = sym (no_bit (c.to at)) ∙ has_bit_of_one 0 (c.to at) one in cc

-- all rows are there
pub rows_of_all : (users others : List Need) (rows : List ℕ) (at : ℕ) → length users ≤ at → AreRows users others rows at
    → AreRows users others rows (length users)
rows_of_all users others rows at all are k user less here = are k user (omega (arith, less, all)) here

-- rows of all users can be placed just where the users cover the others
pub placed_cover : (users others : List Need) (rows : List ℕ) → length others ≤ MOST_PLACES → length users ≤ length rows
    → AreRows users others rows (length users) → ArePlaced (take (length users) rows) ↔ Covers users others
placed_cover users others rows few room are = (λ placed. to placed.0 placed.1, from)
  where
    long : length (take (length users) rows) ≡ length users
    long = length_taken rows (length users) room

    joined : (item place : ℕ) → item < length users → HasBitAt (take (length users) rows) item place → JoinsAt CoversNeed users others item place
    joined item place less bit =
        let user = get_there users item less in
        let own = are item user.0 less user.1 in
        let taken = get_taken rows (length users) item bit.0 bit.1 in
        let same : bit.0 ≡ own.0 = same_some bit.0 own.0 (sym taken.1 ∙ own.1) in
        let there = (own.2 place).0 (subst (λ (row : ℕ). bit_at row place ≡ 1) same bit.2) in
        (user.0, there.0, user.1, there.1, there.2)

    to : (list : List ℕ) → IsTransversal (HasBitAt (take (length users) rows)) (length (take (length users) rows)) MOST_PLACES list → Covers users others
    to list t = from_places CoversNeed users others list (transversal_places CoversNeed users others list record {
      long = t.long ∙ long;
      apart = t.apart;
      each = λ item less.
          let one = t.each item (subst (λ n. item < n) (sym long) less) in
          let j = joined item (get_or list item 0) less one.1 in
          (get_below others (get_or list item 0) j.1 j.3, j);
    })

    has_bit_there : (item place : ℕ) → JoinsAt CoversNeed users others item place → HasBitAt (take (length users) rows) item place
    has_bit_there item place j =
        let less = get_below users item j.0 j.2 in
        let own = are item j.0 less j.2 in
        (own.0, get_take rows (length users) item less ∙ own.1, (own.2 place).1 (j.1, j.3, j.4))

    from : Covers users others → ArePlaced (take (length users) rows)
    from c =
        let places = to_places CoversNeed users others c in
        let t = places_transversal CoversNeed users others places.0 places.1 in (
          places.0,
          record {
            long = t.long ∙ sym long;
            apart = t.apart;
            each = λ item less.
                let one = t.each item (subst (λ n. item < n) long less) in
                (let below = one.0 in omega (arith, below, few), has_bit_there item (get_or places.0 item 0) one.1);
          },
        )

-- more users cover no fewer others
pub too_many : (users others : List Need) → length others < length users → ¬ Covers users others
too_many users others more c = let fits = embeds_long CoversNeed users others c in omega (arith, fits, more)

-- there are too many others, or too few
pub not_few : (users others : List (Arc MarkedNeed Global)) → (128 < length others) ⊎ ((length others ≤ 128) × (length others < length users))
    → ¬ ((length others ≤ MOST_PLACES) × Covers (needs_shared users) (needs_shared others))
not_few users others (inl many) both = let few = both.0 in omega (arith, many, few)
not_few users others (inr more) both =
    too_many (needs_shared users) (needs_shared others) (let us = needs_long users in let them = needs_long others in omega (arith, us, them, more.1)) both.1

not_true : (b : Bool) → not b ≡ false → b ≡ true
not_true true e = refl
not_true false e = cc e

-- whether a bit isn't set, by the mask with that bit alone
pub free_bit : (taken k : ℕ) → IsTrue (eqb (bit_and taken (2 ^ k)) 0) ↔ (bit_at taken k ≡ 0)
free_bit taken k = by_test (has_bit taken k) refl
  where
    by_test : (t : Bool) → has_bit taken k ≡ t → IsTrue (eqb (bit_and taken (2 ^ k)) 0) ↔ (bit_at taken k ≡ 0)
    by_test true set = (
      λ zero. let never : false ≡ true = ap not (sym zero) ∙ tested_bit taken k ∙ set in cc,
      λ none. let never : 1 ≡ 0 = sym (bit_of_true taken k set) ∙ none in absurd (omega (arith, never)),
    )
    by_test false set = (λ zero. bit_of_false taken k set, λ none. not_true (eqb (bit_and taken (2 ^ k)) 0) (tested_bit taken k ∙ set))

-- nobody is placed yet
pub none_placed : (users others : List Need) (taken : ℕ) → ArePlacedIn users others 0 taken
none_placed users others taken = record {
  to = λ at. at;
  apart = λ i j l m e. e;
  each = λ at user less here. absurd (omega (arith, less));
}

-- a lesser number is another
other_number : (k at : ℕ) → k < at → eqb k at ≡ false
other_number k at less = by_test (eqb k at) refl
  where
    by_test : (t : Bool) → eqb k at ≡ t → eqb k at ≡ false
    by_test true e = let same = eqb-true k at e in absurd (omega (arith, less, same))
    by_test false e = e

-- one user more, at a place that was free
pub one_placed : (users others : List Need) (at taken place : ℕ) (user : Need) → slice_get users at ≡ Some user → bit_at taken place ≡ 0
    → CoversThere user others place → ArePlacedIn users others at taken → ArePlacedIn users others (at + 1) (bit_or taken (2 ^ place))
one_placed users others at taken place user here free covers before = record { to = to; apart = apart; each = each }
  where
    to : ℕ → ℕ
    to k = if k == at then place else before.to k

    at_is : to at ≡ place
    at_is = rw (eq-eqb at at refl) refl

    other_is : (k : ℕ) → k < at → to k ≡ before.to k
    other_is k less = rw (other_number k at less) refl

    taken_there : (k : ℕ) → k < at → k < length users → bit_at taken (before.to k) ≡ 1
    taken_there k less there = let user = get_there users k there in (before.each k user.0 less user.1).0

    long : at < length users
    long = get_below users at user here

    differs : (k : ℕ) → k < at → before.to k ≡ place → ⊥
    differs k less e =
        let one : bit_at taken place ≡ 1 = subst (λ (p : ℕ). bit_at taken p ≡ 1) e (taken_there k less (omega (arith, less, long))) in
        let never : 0 ≡ 1 = sym free ∙ one in absurd (omega (arith, never))

    apart : IsInjective (at + 1) to
    apart i j l m e = by_tests (eqb i at) (eqb j at) refl refl
      where
        by_tests : (s t : Bool) → eqb i at ≡ s → eqb j at ≡ t → i ≡ j
        by_tests true true p q = eqb-true i at p ∙ sym (eqb-true j at q)
        by_tests true false p q =
            let less : j < at = grind (arith, nat_tests) in
            absurd (differs j less (sym (other_is j less) ∙ sym e ∙ ap to (eqb-true i at p) ∙ at_is))
        by_tests false true p q =
            let less : i < at = grind (arith, nat_tests) in
            absurd (differs i less (sym (other_is i less) ∙ e ∙ ap to (eqb-true j at q) ∙ at_is))
        by_tests false false p q =
            let a : i < at = grind (arith, nat_tests) in
            let b : j < at = grind (arith, nat_tests) in
            before.apart i j a b (sym (other_is i a) ∙ e ∙ other_is j b)

    each : (k : ℕ) (one : Need) → k < at + 1 → slice_get users k ≡ Some one
        → (bit_at (bit_or taken (2 ^ place)) (to k) ≡ 1) × CoversThere one others (to k)
    each k one less there = by_test (eqb k at) refl
      where
        by_test : (t : Bool) → eqb k at ≡ t → (bit_at (bit_or taken (2 ^ place)) (to k) ≡ 1) × CoversThere one others (to k)
        by_test true e =
            let same_place : k ≡ at = eqb-true k at e in
            let same : user ≡ one = same_some user one (sym here ∙ subst (λ (p : ℕ). slice_get users p ≡ Some one) same_place there) in
            let is : place ≡ to k = sym at_is ∙ ap to (sym same_place) in
            subst (λ (p : ℕ). (bit_at (bit_or taken (2 ^ place)) p ≡ 1) × CoversThere one others p) is
            ((bit_more taken place place).1 (inr refl), subst (λ (x : Need). CoversThere x others place) same covers)
        by_test false e =
            let less : k < at = grind (arith, nat_tests) in
            let old = before.each k one less there in
            let is : before.to k ≡ to k = sym (other_is k less) in
            subst (λ (p : ℕ). (bit_at (bit_or taken (2 ^ place)) p ≡ 1) × CoversThere one others p) is
            ((bit_more taken place (before.to k)).1 (inl old.0), old.1)

-- where all are placed, they cover the others
pub placed_all : (users others : List Need) (at taken : ℕ) → length users ≤ at → ArePlacedIn users others at taken → Covers users others
placed_all users others at taken all placed = record {
  to = placed.to;
  apart = λ i j l m e. placed.apart i j (omega (arith, l, all)) (omega (arith, m, all)) e;
  each = λ k user here.
      let less = get_below users k user here in
      let own = placed.each k user (omega (arith, less, all)) here in
      (own.1.0, own.1.1, own.1.2);
}

-- a user who covers nobody leaves no cover
pub one_alone : (users others : List Need) (at : ℕ) (user : Need) → slice_get users at ≡ Some user → ¬ Some_of (CoversNeed user) others
    → ¬ Covers users others
one_alone users others at user here none c =
    let there = c.each at user here in none (some_at (CoversNeed user) others (c.to at) there.0 there.1 there.2)

-- where both items are there, the test decides
pub joins_there : (users others : List Need) (k u : ℕ) (user other : Need) (t : Bool) → slice_get users k ≡ Some user
    → slice_get others u ≡ Some other → IsTrue t ↔ CoversNeed user other → IsTrue t ↔ JoinsAt CoversNeed users others k u
joins_there users others k u user other t here there is = (
  λ passes. (user, other, here, there, is.0 passes),
  λ j.
      let first : j.0 ≡ user = same_some j.0 user (sym j.2 ∙ here) in
      let second : j.1 ≡ other = same_some j.1 other (sym j.3 ∙ there) in
      is.1 (subst (λ (a : Need). CoversNeed a other) first (subst (λ (b : Need). CoversNeed j.0 b) second j.4)),
)

-- where one is not, they don't go together
pub joins_nowhere : (users others : List Need) (k u : ℕ) → (length users ≤ k) ⊎ (length others ≤ u)
    → IsTrue false ↔ JoinsAt CoversNeed users others k u
joins_nowhere users others k u past = (λ e. absurd (let never : false ≡ true = e in cc), λ j. absurd (by_side past j))
  where
    by_side : (length users ≤ k) ⊎ (length others ≤ u) → JoinsAt CoversNeed users others k u → ⊥
    by_side (inl l) j = let less = get_below users k j.0 j.2 in omega (arith, l, less)
    by_side (inr l) j = let less = get_below others u j.1 j.3 in omega (arith, l, less)

-- a transversal is a cover, and where there is none there is no cover
pub found_covers : (users others : List Need) (left places : ℕ) (found : Option (Vec ℕ Global)) (t : Bool) → length users ≡ left → length others ≡ places
    → t ≡ is_some found
    → IfSome found (λ list. IsLeastTransversal (JoinsAt CoversNeed users others) left places list.items)
    → IfNone found ((list : List ℕ) → ¬ IsTransversal (JoinsAt CoversNeed users others) left places list)
    → IsTrue t ↔ Covers users others
found_covers users others left places (Some list) t long wide is least none = (
  λ _. from_places CoversNeed users others list.items (transversal_places CoversNeed users others list.items (rw (long, wide) least.transversal)),
  λ c. is,
)
found_covers users others left places None t long wide is least none = (
  λ e. let never : true ≡ false = sym e ∙ is in cc,
  λ c. absurd (none_embeds CoversNeed users others (rw (long, wide) none) c),
)
