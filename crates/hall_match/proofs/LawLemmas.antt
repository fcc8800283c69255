-- A deficient set stands against every matching, and there is only one least matching.
use Rattle.std.proofs.Common.{ℕ, ◌≡◌, ◌<◌, ◌≤◌, List, length, get_or, arith, sym, ap, true, Option, Some, unwrap_or}
use Rattle.std.specs.Prelude.{Contains}
use Rattle.std.specs.List.{list_any}
use Rattle.std.proofs.lemmas.List.{get_or_default}
use Rattle.std.proofs.lemmas.List.Folds.{list_any_at}
use Rattle.std.proofs.lemmas.Bool.{eq-eqb}
use Rattle.hall_match.specs.Holding.{is_at}
use Rattle.hall_match.specs.Matchings.{IsMatching, IsDeficient, capacity_at, uses}
use Rattle.hall_match.proofs.CountLemmas.{rising_from, sum-counts, few, sum-le}

-- a place of the list passes the test for any of them
pub contained_any : (places : List ℕ) (x : ℕ) → Contains places x
    → list_any (λ p. is_at p (Some x)) places ≡ true
contained_any places x c =
    list_any_at (λ p. is_at p (Some x)) places c.0 x c.1 (eq-eqb x (get_or places c.0 x) (sym c.2))

pub deficient : (left : ℕ) (capacities : List (Option ℕ)) (edges : List (ℕ × ℕ))
    (items list : List ℕ) → IsDeficient left capacities edges items
    → IsMatching left capacities edges list → ⊥
deficient left capacities edges items list d m =
    let many = few (λ x. list_any (λ p. is_at p (Some x)) d.places) 0 list items 0
    (rising_from items 0 (λ l. omega arith) d.rising) (λ k l. at k l) in
    let counts = sum-counts {X = ℕ} (λ x. Some x) 0 d.places list
    (rising_from d.places 0 (λ l. omega arith) d.once) in
    let room = sum-le (λ p. uses p list) (λ p. unwrap_or (capacity_at capacities p) 0) d.places
    (λ k p l e. fits p (k, l, e)) in
    let less = d.fewer in omega (arith, many, counts, room, less)
  where
    at : (k : ℕ) → k < length items
        → (get_or items k 0 < length list) × (list_any (λ p. is_at p
        (Some (get_or list (get_or items k 0) 0))) d.places ≡ true)
    at k l =
        let item : ℕ = get_or items k 0 in
        let below : item < left = d.below k 0 l in
        let whole = m.whole in
        let edge = m.neighbours item below in (
          omega (arith, whole, below),
          contained_any d.places (get_or list item 0)
              ((d.neighbours (get_or list item 0)).1 (
                item,
                (k, l, get_or_default items k item 0 l),
                edge,
              )),
        )

    fits : (p : ℕ) → Contains d.places p → uses p list ≤ unwrap_or (capacity_at capacities p) 0
    fits p c =
        let most = d.limited p c in
        let u = m.within p most.0 most.1 in
        let e : unwrap_or (capacity_at capacities p) 0 ≡ most.0 = ap (λ o. unwrap_or o 0) most.1 in
        omega (arith, u, e)
