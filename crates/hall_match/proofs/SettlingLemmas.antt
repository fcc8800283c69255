-- What is left of an partial_matching once an item is settled.
use Rattle.std.proofs.Common.{ℕ, ◌≡◌, ◌<◌, ◌≤◌, List, length, set, arith, sym, ◌∙◌, ap, refl, subst, Bool, true, false, Option, Some}
use Rattle.std.proofs.Common.{None, inl, inr}
use Rattle.std.specs.Prelude.{◌⊎◌, Contains, MatchOption, IsSome}
use Rattle.std.specs.Option.{is_some}
use Rattle.std.proofs.lemmas.Bool.{cases_eq, cases_lt, false≢true}
use Rattle.std.proofs.lemmas.List.{length-set, get_or-set_same, get_or-set_other, get_or_past, set_past}
use Rattle.std.proofs.lemmas.List.Elements.{All-contains}
use Rattle.hall_match.specs.Holding.{given_at, holder_count, has_room, IsPartialMatching}
use Rattle.hall_match.specs.Matchings.{ArePairsWithin, capacity_at}
use Rattle.hall_match.specs.Rows.{row_at, HaveEdges, AreInside}
use Rattle.hall_match.specs.Search.{Instance, IsClosedRow}
use Rattle.hall_match.specs.Settling.{IsGiven, Settles}
use Rattle.hall_match.proofs.HoldingLemmas.{holder_count-release, holder_count-set}
use Rattle.hall_match.proofs.MoveLemmas.{fits_more}

-- the items from the settled one on are given places, where the later ones were
pub given_down : (s : Instance) (new : List (Option ℕ)) → Settles s new → (k : ℕ) → s.item ≤ k
    → (s.item < k → IsGiven s.given k) → IsGiven new k
given_down s new h k l later = either (cases_eq k s.item)
  where
    either : (k ≡ s.item) ⊎ (k ≡ s.item → ⊥) → IsGiven new k
    either (inl e) = (h.place, ap (given_at new) e ∙ h.here)
    either (inr n) = let m : s.item < k = omega (arith, l, n) in h.after k m (later m)

-- an item whose place is taken from it
module _ (capacities : List (Option ℕ)) (rows : List (List ℕ)) (given : List (Option ℕ)) (item : ℕ)
    (held : IsPartialMatching capacities rows given) where
  pub release_free : given_at (set given item None) item ≡ None
  release_free = either (cases_lt item (length given))
    where
      either : (item < length given) ⊎ (length given ≤ item)
          → given_at (set given item None) item ≡ None
      either (inl l) = get_or-set_same given item None None l
      either (inr l) = let long = length-set {A = Option ℕ} given item None in get_or_past
          (set given item None) item None (omega (arith, long, l))

  pub release_other : (k : ℕ) → (k ≡ item → ⊥) → given_at (set given item None) k ≡ given_at given k
  release_other k n = get_or-set_other given item k None None n

  pub held_release : IsPartialMatching capacities rows (set given item None)
  held_release = record {
    neighbours = λ i p e. neighbours i p e (cases_eq i item);
    within = λ p most e. within p most e (cases_lt item (length given));
  }
    where
      neighbours : (i p : ℕ) → given_at (set given item None) i ≡ Some p
          → (i ≡ item) ⊎ (i ≡ item → ⊥) → Contains (row_at rows i) p
      neighbours i p e (inl s) = let free = ap (given_at (set given item None)) s ∙ release_free in
          absurd (cc)
      neighbours i p e (inr n) = held.neighbours i p (sym (release_other i n) ∙ e)

      within : (p most : ℕ) → capacity_at capacities p ≡ Some most
          → (item < length given) ⊎ (length given ≤ item) → holder_count p (set given item None) ≤ most
      within p most e (inl l) =
          let a = holder_count-set given item p None l in
          let b = held.within p most e in omega (arith, a, b)
      within p most e (inr l) =
          let a = ap (holder_count p) (set_past given item None l) in
          let b = held.within p most e in omega (arith, a, b)

  -- the place that it had has room then
  pub release_room : (place : ℕ) → given_at given item ≡ Some place
      → has_room capacities (set given item None) place ≡ true
  release_room place e = fits_more (capacity_at capacities place)
      (holder_count place (set given item None)) fits
    where
      fits : (most : ℕ) → capacity_at capacities place ≡ Some most
          → holder_count place (set given item None) < most
      fits most is =
          let a = holder_count-release given item place e in
          let b = held.within place most is in omega (arith, a, b)

-- so its row isn't closed
pub row_open : (s : Instance) (given : List (Option ℕ)) (seen : List Bool) (place : ℕ)
    → s.given ≡ set given s.item None → IsPartialMatching s.capacities s.rows given
    → given_at given s.item ≡ Some place → IsClosedRow s seen → ⊥
row_open s given seen place is held e closed =
    let near = held.neighbours s.item place e in
    let full = closed.closed.full place (closed.row place near) in
    let room = release_room s.capacities s.rows given s.item held place e in
    let same = ap (λ g. has_room s.capacities g place) is in
    false≢true (sym full ∙ same ∙ room)

-- an answer that can't be some is none
pub not_some : {X : Type 0} (answer : Option X) (P : Type 0) (Q : X → Type 0)
    → MatchOption answer P Q → ((x : X) → Q x → ⊥) → is_some answer ≡ true → ⊥
not_some None P Q h n e = false≢true e
not_some (Some x) P Q h n e = n x h

pub is_nothing : {X : Type 0} (answer : Option X) → is_some answer ≡ false → answer ≡ None
is_nothing None e = refl
is_nothing (Some x) e = absurd (false≢true (sym e))

pub is_something : {X : Type 0} (answer : Option X) (x : X) → answer ≡ Some x → IsSome answer
is_something {X} answer x e = subst (λ (o : Option X). IsSome o) (sym e) refl

-- the rows of edges between known ends have known places
pub rows_inside : (left : ℕ) (capacities : List (Option ℕ)) (edges : List (ℕ × ℕ))
    (rows : List (List ℕ)) → ArePairsWithin left capacities edges → HaveEdges rows edges
    → AreInside rows (length capacities)
rows_inside left capacities edges rows ends have item place c =
    let both = All-contains (λ (edge : ℕ × ℕ). (edge.0 < left) × (edge.1 < length capacities)) edges
    (item, place) ends ((have item place).0 c) in both.1

-- every item is given a place, where each was before the settled one lost its own
pub given_all : (s : Instance) (given new : List (Option ℕ)) → Settles s new → (k : ℕ)
    → ((k : ℕ) → (k ≡ s.item → ⊥) → given_at s.given k ≡ given_at given k) → IsGiven given k
    → IsGiven new k
given_all s given new h k stood g = either (cases_eq k s.item) (cases_lt k s.item)
  where
    either : (k ≡ s.item) ⊎ (k ≡ s.item → ⊥) → (k < s.item) ⊎ (s.item ≤ k) → IsGiven new k
    either (inl e) o = (h.place, ap (given_at new) e ∙ h.here)
    either (inr n) (inl l) = (g.0, h.before k l ∙ stood k n ∙ g.1)
    either (inr n) (inr l) = h.after k (omega (arith, l, n)) (g.0, stood k n ∙ g.1)
