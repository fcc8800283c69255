-- Items that are moved along an augmenting path, from its end to where it begins.
use Rattle.std.proofs.Common.{ℕ, ◌≡◌, ◌<◌, ◌≤◌, ◌+◌, List, length, set, arith, sym, ◌∙◌, ap, refl, subst, true, Option, Some}
use Rattle.std.proofs.Common.{None, inl, inr}
use Rattle.std.specs.Prelude.{◌⊎◌, slice_get, Contains}
use Rattle.std.proofs.lemmas.Bool.{cases_eq, ltb-true, lt-ltb}
use Rattle.std.proofs.lemmas.Option.{slice_get_within}
use Rattle.std.proofs.lemmas.List.{length-set, get_or-set_same, get_or-set_other}
use Rattle.hall_match.specs.declared.search.Reached.{Reached}
use Rattle.hall_match.specs.declared.search.Move.{Move}
use Rattle.hall_match.specs.Holding.{given_at, holder_count, has_more, has_room, IsPartialMatching}
use Rattle.hall_match.specs.Matchings.{capacity_at}
use Rattle.hall_match.specs.Rows.{row_at, AreInside}
use Rattle.hall_match.specs.Search.{Instance, IsAlternatingTree, IsStep, IsLeastPath}
use Rattle.hall_match.specs.Settling.{IsGiven, Settles}
use Rattle.hall_match.proofs.HoldingLemmas.{one_at, one_same, one_other, holder_count-set, given_inside}

-- the next item at a place with room keeps within its capacity
pub more_fits : (capacity : Option ℕ) (used most : ℕ) → has_more capacity used ≡ true
    → capacity ≡ Some most → used < most
more_fits None used most r e = absurd (cc)
more_fits (Some n) used most r e = let same : n ≡ most = cc in let l = ltb-true used n r in omega
    (arith, l, same)

pub fits_more : (capacity : Option ℕ) (used : ℕ) → ((most : ℕ) → capacity ≡ Some most → used < most)
    → has_more capacity used ≡ true
fits_more None used h = refl
fits_more (Some n) used h = lt-ltb used n (h n refl)

-- an item that is given a place with room, whatever it had before
module _ (capacities : List (Option ℕ)) (rows : List (List ℕ)) (given : List (Option ℕ))
    (item place : ℕ) (inside : item < length given) where
  pub held_set : IsPartialMatching capacities rows given → Contains (row_at rows item) place
      → has_room capacities given place ≡ true
      → IsPartialMatching capacities rows (set given item (Some place))
  held_set h near room = record {
    neighbours = λ i p e. neighbours i p e (cases_eq i item);
    within = λ p most e. within p most e (cases_eq place p);
  }
    where
      neighbours : (i p : ℕ) → given_at (set given item (Some place)) i ≡ Some p
          → (i ≡ item) ⊎ (i ≡ item → ⊥) → Contains (row_at rows i) p
      neighbours i p e (inl s) =
          let now : given_at (set given item (Some place)) item ≡ Some place = get_or-set_same given
          item (Some place) None inside in
          let same : p ≡ place = cc in
          rw (s, same) near
      neighbours i p e (inr n) = h.neighbours i p (sym (get_or-set_other given item i (Some place)
          None n) ∙ e)

      within : (p most : ℕ) → capacity_at capacities p ≡ Some most → (place ≡ p) ⊎ (place ≡ p → ⊥)
          → holder_count p (set given item (Some place)) ≤ most
      within p most e (inl s) =
          let a = holder_count-set given item p (Some place) inside in
          let b = ap (λ q. one_at q (Some place)) (sym s) ∙ one_same place in
          let r : has_room capacities given p ≡ true = ap (has_room capacities given) (sym s) ∙
          room in
          let l = more_fits (capacity_at capacities p) (holder_count p given) most r e in omega
          (arith, a, b, l)
      within p most e (inr n) =
          let a = holder_count-set given item p (Some place) inside in
          let b = one_other p place n in
          let l = h.within p most e in omega (arith, a, b, l)

  -- the place that it leaves has room then
  pub room_left : (from : ℕ) → IsPartialMatching capacities rows given → given_at given item ≡ Some from
      → (from ≡ place → ⊥) → has_room capacities (set given item (Some place)) from ≡ true
  room_left from h e n = fits_more (capacity_at capacities from)
      (holder_count from (set given item (Some place))) fits
    where
      fits : (most : ℕ) → capacity_at capacities from ≡ Some most
          → holder_count from (set given item (Some place)) < most
      fits most is =
          let a = holder_count-set given item from (Some place) inside in
          let b = ap (one_at from) e ∙ one_same from in
          let d = one_other from place (λ s. n (sym s)) in
          let l = h.within from most is in omega (arith, a, b, d, l)

-- the moves down to one place are made: it has room, and the users of earlier places stand as at first
pub record Moving (s : Instance) (path : List Reached) (now : List (Option ℕ)) (here : Reached) : Type 0
  where
    pub whole : length now ≡ length s.given
    pub held : IsPartialMatching s.capacities s.rows now
    pub free : given_at now s.item ≡ None
    pub at : ℕ
    pub is_here : slice_get path at ≡ Some here
    pub room : has_room s.capacities now here.place ≡ true
    pub before : (item : ℕ) → item < s.item → given_at now item ≡ given_at s.given item
    pub after : (item : ℕ) → s.item < item → IsGiven s.given item → IsGiven now item
    pub early : (k : ℕ) (r : Reached) (item : ℕ) → k < at → slice_get path k ≡ Some r
        → given_at s.given item ≡ Some r.place → given_at now item ≡ Some r.place

some_same : (a b : Reached) → Some a ≡ Some b → a ≡ b
some_same a b e = cc

-- how many moves are left at most
abbrev pub moves_left : Option Move → ℕ
moves_left None = 0
moves_left (Some move) = move.from + 1

-- one move, by the step with which its place was reached
module _ (s : Instance) (path : List Reached) (now : List (Option ℕ)) (here : Reached) (move : Move)
    (t : IsAlternatingTree s path) (m : Moving s path now here) (by : here.by ≡ Some move) where
  pub move_by : IsStep s path m.at here.place (Some move)
  move_by = subst (λ (o : Option Move). IsStep s path m.at here.place o) by
      (t.steps m.at here m.is_here)

  pub move_user : (s.item < move.item) × (move.item < length now) × (move.from < length path)
  move_user =
      let w = move_by in
      let user = given_inside s.given move.item w.0.place w.4 in
      let whole = m.whole in
      (w.3, omega (arith, user, whole), slice_get_within path move.from w.0 w.2)

  pub move_steps : (next : Reached) → slice_get path move.from ≡ Some next
      → Moving s path (set now move.item (Some here.place)) next
  move_steps next is = record {
    whole = length-set now move.item (Some here.place) ∙ m.whole;
    held = held_set s.capacities s.rows now move.item here.place inside m.held w.5 m.room;
    free = get_or-set_other now move.item s.item (Some here.place) None
        (λ same. let l = w.3 in omega (arith, l, same)) ∙ m.free;
    at = move.from;
    is_here = is;
    room = room_left s.capacities s.rows now move.item here.place inside next.place m.held user
        apart;
    before = λ item l. get_or-set_other now move.item item (Some here.place) None
        (λ same. let k = w.3 in omega (arith, k, l, same)) ∙ m.before item l;
    after = λ item l g. after item l g (cases_eq item move.item);
    early = λ k r item l e g. get_or-set_other now move.item item (Some here.place) None
        (λ same. other k r l e (sym (ap (given_at s.given) same) ∙ g)) ∙ m.early k r item
        (let a = w.1 in omega (arith, a, l)) e g;
  }
    where
      w : IsStep s path m.at here.place (Some move)
      w = move_by

      from : w.0 ≡ next
      from = some_same w.0 next (sym w.2 ∙ is)

      stood : given_at s.given move.item ≡ Some next.place
      stood = subst (λ (r : Reached). given_at s.given move.item ≡ Some r.place) from w.4

      inside : move.item < length now
      inside = move_user.1

      user : given_at now move.item ≡ Some next.place
      user = m.early move.from next move.item w.1 is stood

      apart : next.place ≡ here.place → ⊥
      apart same = let r = t.apart move.from m.at next here is m.is_here same in let l = w.1 in
          omega (arith, r, l)

      after : (item : ℕ) → s.item < item → IsGiven s.given item
          → (item ≡ move.item) ⊎ (item ≡ move.item → ⊥)
          → IsGiven (set now move.item (Some here.place)) item
      after item l g (inl same) = (
        here.place,
        rw same (get_or-set_same now move.item
            (Some here.place) None inside),
      )
      after item l g (inr n) = let r = m.after item l g in (
        r.0,
        get_or-set_other now move.item item
            (Some here.place) None n ∙ r.1,
      )

      other : (k : ℕ) (r : Reached) → k < move.from → slice_get path k ≡ Some r
          → given_at s.given move.item ≡ Some r.place → ⊥
      other k r l e g =
          let there = stood in
          let same : r.place ≡ next.place = cc in
          let n = t.apart k move.from r next e is same in omega (arith, n, l)

-- the item is given the place where the augmenting path begins
pub move_ends : (s : Instance) (path : List Reached) (now : List (Option ℕ)) (here : Reached)
    → IsLeastPath s path → s.item < length now → Moving s path now here → here.by ≡ None
    → Settles s (set now s.item (Some here.place))
move_ends s path now here f inside m by = record {
  whole = length-set now s.item (Some here.place) ∙ m.whole;
  held = held_set s.capacities s.rows now s.item here.place inside m.held near m.room;
  place = here.place;
  here = get_or-set_same now s.item (Some here.place) None inside;
  before = λ item l. get_or-set_other now s.item item (Some here.place) None
      (λ same. omega (arith, l, same)) ∙ m.before item l;
  after = λ item l g. let r = m.after item l g in (
    r.0,
    get_or-set_other now s.item item
        (Some here.place) None (λ same. omega (arith, l, same)) ∙ r.1,
  );
  closed = f.closed;
  is_closed = f.is_closed;
  least = λ lesser c l. f.least lesser c (let q = ap (λ (r : Reached). r.place) first in omega
      (arith, l, q));
}
  where
    start : m.at ≡ 0
    start = subst (λ (o : Option Move). IsStep s path m.at here.place o) by
        (f.found.tree.steps m.at here m.is_here)

    first : f.first ≡ here
    first = some_same f.first here (sym f.is_first ∙ ap (slice_get path) (sym start) ∙ m.is_here)

    near : Contains (row_at s.rows s.item) here.place
    near = subst (λ (r : Reached). Contains (row_at s.rows s.item) r.place) first f.neighbour

-- a move leads to a place that was reached before
pub move_falls : (s : Instance) (path : List Reached) (here next : Reached) (move : Move) (at : ℕ)
    → IsAlternatingTree s path → slice_get path at ≡ Some here → here.by ≡ Some move
    → slice_get path move.from ≡ Some next → moves_left next.by < moves_left here.by
move_falls s path here next move at t e by is = rw by (lower next.by (t.steps move.from next is))
  where
    lower : (by : Option Move) → IsStep s path move.from next.place by → moves_left by < move.from + 1
    lower None w = omega arith
    lower (Some other) w = let l = w.1 in omega (arith, l)

-- each place of an augmenting path is in a row
pub path_inside : (s : Instance) (path : List Reached) (here : Reached) (at count : ℕ) → IsLeastPath s path
    → slice_get path at ≡ Some here → AreInside s.rows count → here.place < count
path_inside s path here at count f e inside = either here.by (f.found.tree.steps at here e)
  where
    either : (by : Option Move) → IsStep s path at here.place by → here.place < count
    either None w =
        let first = some_same f.first here (sym f.is_first ∙ ap (slice_get path) (sym w) ∙ e) in
        subst (λ (r : Reached). r.place < count) first (inside s.item f.first.place f.neighbour)
    either (Some move) w = inside move.item here.place w.5
