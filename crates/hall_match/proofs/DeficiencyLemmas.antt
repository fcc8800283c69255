-- The items that stand against every matching are a deficient set.
use Rattle.std.proofs.Common.{ℕ, ◌≡◌, ◌<◌, ◌≤◌, ◌+◌, List, length, arith, sym, refl, subst, Bool, true, Option, Some, None, eqb, inl, inr}
use Rattle.std.specs.Prelude.{◌⊎◌, Contains}
use Rattle.std.proofs.lemmas.Bool.{cases_lt, false≢true, eqb-true, eq-eqb, or_cases, or_left, or_right}
use Rattle.hall_match.specs.Holding.{given_at, holder_count}
use Rattle.hall_match.specs.Matchings.{IsDeficient, IsNeighbour, capacity_at}
use Rattle.hall_match.specs.Rows.{row_at, HaveEdges}
use Rattle.hall_match.specs.Search.{Instance, IsSeen, IsReachable, IsClosedRow}
use Rattle.hall_match.specs.Blocking.{is_seen_at, AreBlocked}
use Rattle.hall_match.proofs.HoldingLemmas.{given_inside}
use Rattle.hall_match.proofs.MarkLemmas.{seen_places, seen_has, seen_only, marked_rising, increasing, full_limit, closed_counts}

-- an item that is given a seen place is given one
pub seen_at : (seen : List Bool) (given : Option ℕ) → is_seen_at seen given ≡ true
    → (place : ℕ) × (given ≡ Some place) × IsSeen seen place
seen_at seen None e = absurd (false≢true e)
seen_at seen (Some place) e = (place, refl, e)

module _ (s : Instance) (left : ℕ) (edges : List (ℕ × ℕ)) (seen : List Bool) (items : List ℕ)
    (rows : HaveEdges s.rows edges) (whole : length s.given ≡ left)
    (inside : s.item < length s.given) (none : (item : ℕ) → item < s.item + 1 → given_at s.given
    item ≡ None)
    (closed : IsClosedRow s seen) (blocked : AreBlocked s.given seen s.item items) where
  -- each seen place is a neighbour
  pub seen_neighbour : (place : ℕ) → IsSeen seen place → IsNeighbour edges items place
  seen_neighbour place e = either (closed.closed.reachable place e)
    where
      either : IsReachable s seen place → IsNeighbour edges items place
      either (inl c) = (
        s.item,
        (blocked.exact s.item).1 (
          inside,
          or_left (eqb s.item s.item)
              (is_seen_at seen (given_at s.given s.item)) (eq-eqb s.item s.item refl),
        ),
        (rows s.item place).0 c,
      )
      either (inr w) =
          let is : is_seen_at seen (given_at s.given w.1) ≡ true = subst
          (λ (o : Option ℕ). is_seen_at seen o ≡ true) (sym w.4) w.2 in (
            w.1,
            (blocked.exact w.1).1 (
              given_inside s.given w.1 w.0 w.4,
              or_right (eqb w.1 s.item)
                  (is_seen_at seen (given_at s.given w.1)) is,
            ),
            (rows w.1 place).0 w.5,
          )

  -- each neighbour is a seen place
  pub neighbour_seen : (place : ℕ) → IsNeighbour edges items place → IsSeen seen place
  neighbour_seen place n = let b = (blocked.exact n.0).0 n.1 in either
      (or_cases (eqb n.0 s.item) (is_seen_at seen (given_at s.given n.0)) b.1)
    where
      near : Contains (row_at s.rows n.0) place
      near = (rows n.0 place).1 n.2

      either : (eqb n.0 s.item ≡ true) ⊎ (is_seen_at seen (given_at s.given n.0) ≡ true)
          → IsSeen seen place
      either (inl e) = let same = eqb-true n.0 s.item e in closed.row place (rw same at near)
      either (inr e) =
          let g = seen_at seen (given_at s.given n.0) e in
          closed.closed.shut g.0 g.2 n.0 (later (cases_lt n.0 (s.item + 1)) g.0 g.1) g.1 place near
        where
          later : (n.0 < s.item + 1) ⊎ (s.item + 1 ≤ n.0) → (p : ℕ) → given_at s.given n.0 ≡ Some p
              → s.item + 1 ≤ n.0
          later (inl l) p g = let free = none n.0 l in absurd (cc)
          later (inr l) p g = l

  pub blocked_deficient : IsDeficient left s.capacities edges items
  blocked_deficient = record {
    rising = blocked.rising;
    below = λ k d l. let r = blocked.below k d l in omega (arith, r, whole);
    places = seen_places seen;
    once = increasing 0 (seen_places seen) (marked_rising 0 seen);
    neighbours = λ place. (
      λ c. seen_neighbour place (seen_only seen place c),
      λ n. seen_has seen
          place (neighbour_seen place n),
    );
    limited = λ place c. limit place (seen_only seen place c);
    fewer = (let a = closed_counts s seen closed.closed in let b = blocked.count in omega
        (arith, a, b));
  }
    where
      limit : (place : ℕ) → IsSeen seen place
          → (most : ℕ) × (capacity_at s.capacities place ≡ Some most)
      limit place e = let r = full_limit (capacity_at s.capacities place) (holder_count place s.given)
          (closed.closed.full place e) in (r.0, r.1)
