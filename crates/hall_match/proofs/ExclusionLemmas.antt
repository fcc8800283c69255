-- A matching that agrees up to an item gives that item no closed place.
use Rattle.std.proofs.Common.{ℕ, ◌≡◌, ◌<◌, ◌≤◌, ◌+◌, List, [], ◌∷◌, length, get_or, arith, zero, suc, sym, ◌∙◌, ap, refl}
use Rattle.std.proofs.Common.{subst, Bool, true, false, cond, Option, Some, None, count_by, sum_by, unwrap_or, inl, inr}
use Rattle.std.specs.Prelude.{◌⊎◌, Contains}
use Rattle.std.specs.List.{list_any}
use Rattle.std.proofs.lemmas.Bool.{cases_order, false≢true}
use Rattle.hall_match.specs.Holding.{is_at, given_at, holder_count}
use Rattle.hall_match.specs.Matchings.{IsMatching, capacity_at, capacity_of, uses}
use Rattle.hall_match.specs.Rows.{HaveEdges}
use Rattle.hall_match.specs.Search.{Instance, IsSeen, IsClosed}
use Rattle.hall_match.specs.Blocking.{is_seen_at}
use Rattle.hall_match.proofs.CountLemmas.{sum-counts, sum-le, count-cons}
use Rattle.hall_match.proofs.LawLemmas.{contained_any}
use Rattle.hall_match.proofs.DeficiencyLemmas.{seen_at}
use Rattle.hall_match.proofs.MarkLemmas.{seen_places, seen_has, seen_only, marked_rising, full_limit, closed_counts}

one : (s t : Bool) → (s ≡ true → t ≡ true) → cond s 1 0 ≤ cond t 1 0
one false t f = omega arith
one true true f = omega arith
one true false f = absurd (false≢true (f refl))

-- where one test passes wherever the other does, and at one more place, it passes more often
pub count_more : {X Y : Type 0} (p : X → Bool) (q : Y → Bool) (d : X) (e : Y) (xs : List X)
    (ys : List Y) (i : ℕ) → length xs ≡ length ys
    → ((k : ℕ) → k < length xs → p (get_or xs k d) ≡ true → q (get_or ys k e) ≡ true)
    → i < length xs
    → p (get_or xs i d) ≡ false → q (get_or ys i e) ≡ true → count_by p xs + 1 ≤ count_by q ys
count_more p q d e [] ys i long h l off on = absurd (omega (arith, l))
count_more p q d e (x ∷ xs) [] i long h l off on = absurd (omega (arith, long))
count_more p q d e (x ∷ xs) (y ∷ ys) zero long h l off on =
    let a = count-cons p x xs in
    let b = count-cons q y ys in
    let rest = count_same p q d e xs ys (omega (arith, long))
    (λ k m. h (suc k) (omega (arith, m))) in
    let f = ap (λ t. cond {A = ℕ} t 1 0) off in
    let g = ap (λ t. cond {A = ℕ} t 1 0) on in omega (arith, a, b, rest, f, g)
  where
    count_same : {X Y : Type 0} (p : X → Bool) (q : Y → Bool) (d : X) (e : Y) (xs : List X)
        (ys : List Y) → length xs ≡ length ys
        → ((k : ℕ) → k < length xs → p (get_or xs k d) ≡ true → q (get_or ys k e) ≡ true)
        → count_by p xs ≤ count_by q ys
    count_same p q d e [] ys long h = omega arith
    count_same p q d e (x ∷ xs) [] long h = absurd (omega (arith, long))
    count_same p q d e (x ∷ xs) (y ∷ ys) long h =
        let a = count-cons p x xs in
        let b = count-cons q y ys in
        let rest = count_same p q d e xs ys (omega (arith, long))
        (λ k m. h (suc k) (omega (arith, m))) in
        let f = one (p x) (q y) (h 0 (omega arith)) in omega (arith, a, b, rest, f)
count_more p q d e (x ∷ xs) (y ∷ ys) (suc i) long h l off on =
    let a = count-cons p x xs in
    let b = count-cons q y ys in
    let rest = count_more p q d e xs ys i (omega (arith, long))
    (λ k m. h (suc k) (omega (arith, m))) (omega (arith, l)) off on in
    let f = one (p x) (q y) (h 0 (omega arith)) in omega (arith, a, b, rest, f)

-- the places of a matching are used within their capacities, also together
pub uses_fit : (left : ℕ) (capacities : List (Option ℕ)) (edges : List (ℕ × ℕ)) (list places : List ℕ)
    → IsMatching left capacities edges list
    → ((p : ℕ) → Contains places p → (most : ℕ) × (capacity_at capacities p ≡ Some most))
    → sum_by (λ p. uses p list) places ≤ capacity_of capacities places
uses_fit left capacities edges list places m limited = sum-le (λ p. uses p list)
    (λ p. unwrap_or (capacity_at capacities p) 0) places (λ k p l e. fits p (k, l, e))
  where
    fits : (p : ℕ) → Contains places p → uses p list ≤ unwrap_or (capacity_at capacities p) 0
    fits p c =
        let most = limited p c in
        let u = m.within p most.0 most.1 in
        let e : unwrap_or (capacity_at capacities p) 0 ≡ most.0 = ap (λ o. unwrap_or o 0) most.1 in
        omega (arith, u, e)

pub excluded : (s : Instance) (left : ℕ) (edges : List (ℕ × ℕ)) (seen : List Bool) (other : List ℕ)
    → HaveEdges s.rows edges → length s.given ≡ left → s.item < left
    → given_at s.given s.item ≡ None
    → ((item : ℕ) → item < s.item → given_at s.given item ≡ Some (get_or other item 0)) → IsClosed s
    seen → IsMatching left s.capacities edges other → IsSeen seen (get_or other s.item 0) → ⊥
excluded s left edges seen other rows whole inside free agrees closed m here =
    let full = m.whole in
    let more = count_more (is_seen_at seen) (λ x. list_any (λ p. is_at p (Some x))
    (seen_places seen)) None 0 s.given other s.item (omega (arith, whole, full))
    (λ k l e. kept k l e (cases_order k s.item)) (omega (arith, inside, whole))
    (ap (is_seen_at seen) free) (contained_any (seen_places seen) (get_or other s.item 0)
    (seen_has seen (get_or other s.item 0) here)) in
    let counts = sum-counts {X = ℕ} (λ x. Some x) 0 (seen_places seen) other
    (marked_rising 0 seen) in
    let fit = uses_fit left s.capacities edges other (seen_places seen) m
    (λ p c. limit p (seen_only seen p c)) in
    let room = closed_counts s seen closed in omega (arith, more, counts, fit, room)
  where
    limit : (place : ℕ) → IsSeen seen place
        → (most : ℕ) × (capacity_at s.capacities place ≡ Some most)
    limit place e = let r = full_limit (capacity_at s.capacities place) (holder_count place s.given)
        (closed.full place e) in (r.0, r.1)

    kept : (k : ℕ) → k < length s.given → is_seen_at seen (given_at s.given k) ≡ true
        → (k ≡ s.item) ⊎ ((k < s.item) ⊎ (s.item < k))
        → list_any (λ p. is_at p (Some (get_or other k 0))) (seen_places seen) ≡ true
    kept k l e (inl same) = absurd (false≢true (sym (ap (is_seen_at seen)
        (ap (given_at s.given) same ∙ free)) ∙ e))
    kept k l e (inr (inl before)) = contained_any (seen_places seen) (get_or other k 0)
        (seen_has seen (get_or other k 0) (subst (λ (o : Option ℕ). is_seen_at seen o ≡ true)
        (agrees k before) e))
    kept k l e (inr (inr after)) =
        let g = seen_at seen (given_at s.given k) e in
        let near = (rows k (get_or other k 0)).1 (m.neighbours k (omega (arith, l, whole))) in
        contained_any (seen_places seen) (get_or other k 0) (seen_has seen (get_or other k 0)
        (closed.shut g.0 g.2 k (omega (arith, after)) g.1 (get_or other k 0) near))
