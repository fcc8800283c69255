-- The seen places as a list, and what their capacities are against the items that are given them.
use Rattle.std.proofs.Common.{ℕ, ◌≡◌, ◌<◌, ◌≤◌, ◌+◌, List, [], ◌∷◌, length, get_or, arith, zero, suc, sym, ap, refl, subst, Bool}
use Rattle.std.proofs.Common.{true, false, cond, eqb, Option, Some, None, count_by, unwrap_or, inl, inr}
use Rattle.std.specs.Prelude.{◌⊎◌, Contains}
use Rattle.std.specs.List.{list_any}
use Rattle.std.specs.List.Sorted.{IsStrictlyIncreasing}
use Rattle.std.proofs.lemmas.Bool.{eqb-true, ltb-false, or_cases, false≢true}
use Rattle.std.proofs.lemmas.List.Sums.{sum_by-le-sum_by}
use Rattle.hall_match.specs.Holding.{is_at, holder_count, has_more}
use Rattle.hall_match.specs.Matchings.{capacity_at, capacity_of}
use Rattle.hall_match.specs.Search.{Instance, IsSeen, IsClosed}
use Rattle.hall_match.specs.Blocking.{is_seen_at}
use Rattle.hall_match.proofs.CountLemmas.{IsRising, sum-counts, sum-le}

pub contains_here : {X : Type 0} (x : X) (xs : List X) → Contains (x ∷ xs) x
contains_here x xs = (0, omega arith, refl)

pub contains_more : {X : Type 0} (y : X) (xs : List X) (x : X) → Contains xs x → Contains (y ∷ xs) x
contains_more y xs x c = let l = c.1 in (suc c.0, omega (arith, l), c.2)

pub contains_cases : {X : Type 0} (y : X) (xs : List X) (x : X) → Contains (y ∷ xs) x
    → (y ≡ x) ⊎ Contains xs x
contains_cases y xs x c = cases c.0 c.1 c.2
  where
    cases : (k : ℕ) → k < length (y ∷ xs) → get_or (y ∷ xs) k x ≡ x → (y ≡ x) ⊎ Contains xs x
    cases zero l e = inl e
    cases (suc k) l e = inr (k, omega (arith, l), e)

-- the numbers of the marks that are set, counted from a number on
abbrev pub marked : ℕ → List Bool → List ℕ
marked at [] = []
marked at (true ∷ bs) = at ∷ marked (at + 1) bs
marked at (false ∷ bs) = marked (at + 1) bs

pub weaker : (low high : ℕ) (xs : List ℕ) → low ≤ high → IsRising high xs → IsRising low xs
weaker low high [] l r = tt
weaker low high (x ∷ xs) l r = let h = r.0 in (omega (arith, h, l), r.1)

pub marked_rising : (at : ℕ) (bs : List Bool) → IsRising at (marked at bs)
marked_rising at [] = tt
marked_rising at (true ∷ bs) = (omega arith, marked_rising (at + 1) bs)
marked_rising at (false ∷ bs) = weaker at (at + 1) (marked (at + 1) bs) (omega arith)
    (marked_rising (at + 1) bs)

pub increasing : (low : ℕ) (xs : List ℕ) → IsRising low xs → IsStrictlyIncreasing xs
increasing low [] r k l = absurd (omega (arith, l))
increasing low (x ∷ []) r k l = absurd (omega (arith, l))
increasing low (x ∷ y ∷ ys) r zero l = let h = r.1.0 in omega (arith, h)
increasing low (x ∷ y ∷ ys) r (suc k) l =
    let e : suc k + 1 ≡ suc (k + 1) = omega arith in
    let s = increasing (x + 1) (y ∷ ys) r.1 k (omega (arith, l)) in rw e s

pub marked_has : (at : ℕ) (bs : List Bool) (k : ℕ) → get_or bs k false ≡ true
    → Contains (marked at bs) (at + k)
marked_has at [] k e = absurd (false≢true e)
marked_has at (true ∷ bs) zero e = let same : at + 0 ≡ at = omega arith in rw same
    (contains_here at (marked (at + 1) bs))
marked_has at (false ∷ bs) zero e = absurd (false≢true e)
marked_has at (true ∷ bs) (suc k) e = let same : at + suc k ≡ (at + 1) + k = omega arith in rw same
    (contains_more at (marked (at + 1) bs) ((at + 1) + k) (marked_has (at + 1) bs k e))
marked_has at (false ∷ bs) (suc k) e = let same : at + suc k ≡ (at + 1) + k = omega arith in rw same
    (marked_has (at + 1) bs k e)

pub marked_only : (at : ℕ) (bs : List Bool) (x : ℕ) → Contains (marked at bs) x
    → (k : ℕ) × (x ≡ at + k) × (get_or bs k false ≡ true)
marked_only at [] x c = let l = c.1 in absurd (omega (arith, l))
marked_only at (true ∷ bs) x c = which (contains_cases at (marked (at + 1) bs) x c)
    (λ d. marked_only (at + 1) bs x d)
  where
    which : (at ≡ x) ⊎ Contains (marked (at + 1) bs) x
        → (Contains (marked (at + 1) bs) x → (k : ℕ) × (x ≡ (at + 1) + k) ×
        (get_or bs k false ≡ true)) → (k : ℕ) × (x ≡ at + k) × (get_or (true ∷ bs) k false ≡ true)
    which (inl e) f = (0, omega (arith, e), refl)
    which (inr d) f = let r = f d in let e = r.1 in (suc r.0, omega (arith, e), r.2)
marked_only at (false ∷ bs) x c = let r = marked_only (at + 1) bs x c in let e = r.1 in
    (suc r.0, omega (arith, e), r.2)

-- the seen places
abbrev pub seen_places : List Bool → List ℕ
seen_places seen = marked 0 seen

pub seen_has : (seen : List Bool) (place : ℕ) → IsSeen seen place
    → Contains (seen_places seen) place
seen_has seen place e = let c = marked_has 0 seen place e in let same : 0 + place ≡ place = omega
    arith in rw same at c

pub seen_only : (seen : List Bool) (place : ℕ) → Contains (seen_places seen) place
    → IsSeen seen place
seen_only seen place c = let r = marked_only 0 seen place c in let e = r.1 in let same : r.0 ≡
    place = omega (arith, e) in rw same at r.2

-- what is given one of the seen places is given a seen place, and the other way round
pub any_seen : (seen : List Bool) (given : Option ℕ)
    → list_any (λ p. is_at p given) (seen_places seen) ≡ true → is_seen_at seen given ≡ true
any_seen seen given t = let c = found (seen_places seen) given t in subst
    (λ (o : Option ℕ). is_seen_at seen o ≡ true) (sym c.1) (seen_only seen c.0 c.2)
  where
    found : (places : List ℕ) (given : Option ℕ) → list_any (λ p. is_at p given) places ≡ true
        → (p : ℕ) × (given ≡ Some p) × Contains places p
    found [] given t = absurd (false≢true t)
    found (p ∷ ps) None t = absurd (none_any ps t)
      where
        none_any : (ps : List ℕ) → list_any (λ p. is_at p None) ps ≡ true → ⊥
        none_any [] t = false≢true t
        none_any (p ∷ ps) t = none_any ps t
    found (p ∷ ps) (Some x) t = either (λ e. found ps (Some x) e)
        (or_cases (eqb x p) (list_any (λ p. is_at p (Some x)) ps) t)
      where
        either : (list_any (λ q. is_at q (Some x)) ps ≡ true → (q : ℕ) × (Some x ≡ Some q) ×
            Contains ps q) → (eqb x p ≡ true) ⊎ (list_any (λ q. is_at q (Some x)) ps ≡ true) →
            (q : ℕ) × (Some x ≡ Some q) × Contains (p ∷ ps) q
        either f (inl e) = (p, ap Some (eqb-true x p e), contains_here p ps)
        either f (inr e) = let r = f e in (r.0, r.1, contains_more p ps r.0 r.2)

-- a full place has a capacity, and as many holder_count
pub full_limit : (capacity : Option ℕ) (used : ℕ) → has_more capacity used ≡ false
    → (most : ℕ) × (capacity ≡ Some most) × (unwrap_or capacity 0 ≤ used)
full_limit None used e = absurd (false≢true (sym e))
full_limit (Some most) used e = (most, refl, ltb-false used most e)

-- the capacities of closed places are together at most the items that are given one
pub closed_counts : (s : Instance) (seen : List Bool) → IsClosed s seen
    → capacity_of s.capacities (seen_places seen) ≤ count_by (is_seen_at seen) s.given
closed_counts s seen h =
    let a = sum-le (λ p. unwrap_or (capacity_at s.capacities p) 0) (λ p. holder_count p s.given)
    (seen_places seen) (λ k p l e. fits p (seen_only seen p (k, l, e))) in
    let b = sum-counts {X = Option ℕ} (λ x. x) 0 (seen_places seen) s.given
    (marked_rising 0 seen) in
    let d = sum_by-le-sum_by (λ (x : Option ℕ). cond (list_any (λ p. is_at p x) (seen_places seen))
    1 0) (λ x. cond (is_seen_at seen x) 1 0) s.given (λ x. one
    (list_any (λ p. is_at p x) (seen_places seen)) (is_seen_at seen x) (any_seen seen x)) in
    omega (arith, a, b, d)
  where
    fits : (p : ℕ) → IsSeen seen p → unwrap_or (capacity_at s.capacities p) 0 ≤ holder_count p s.given
    fits p e = (full_limit (capacity_at s.capacities p) (holder_count p s.given) (h.full p e)).2

    one : (a b : Bool) → (a ≡ true → b ≡ true) → cond a 1 0 ≤ cond b 1 0
    one false b f = omega arith
    one true true f = omega arith
    one true false f = absurd (false≢true (f refl))
