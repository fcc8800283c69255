-- Matchings whose places may each be given to one item.
use Rattle.std.proofs.Common.{ℕ, ◌≡◌, ◌<◌, ◌≤◌, ◌+◌, ◌∙◌, Bool, true, false, cond, eqb, List, [], ◌∷◌, length, get_or, refl}
use Rattle.std.proofs.Common.{arith, zero, suc, sym, subst, ap, Some}
use Rattle.std.specs.Prelude.{◌==◌, Contains, replicate}
use Rattle.std.proofs.lemmas.Bool.{eqb-true, eq-eqb}
use Rattle.hall_match.proofs.CountLemmas.{count-cons}
use Rattle.hall_match.specs.Matchings.{capacity_at, uses, IsMatching}

ones_one : (n place most : ℕ) → capacity_at (replicate n (Some 1)) place ≡ Some most → most ≡ 1
ones_one zero place most e = cc
ones_one (suc n) zero most e = cc
ones_one (suc n) (suc place) most e = ones_one n place most e

one_capacity : (n place : ℕ) → place < n → capacity_at (replicate n (Some 1)) place ≡ Some 1
one_capacity zero place l = absurd (omega arith)
one_capacity (suc n) zero l = refl
one_capacity (suc n) (suc place) l = one_capacity n place (omega arith)

uses_here : (place x : ℕ) (xs : List ℕ) → x ≡ place → uses place (x ∷ xs) ≡ 1 + uses place xs
uses_here place x xs e = count-cons (λ given. given == place) x xs ∙ ap (λ t. cond t 1 0 + uses place xs) (eq-eqb x place e)

uses_other : (place x : ℕ) (xs : List ℕ) → eqb x place ≡ false → uses place (x ∷ xs) ≡ uses place xs
uses_other place x xs e = omega (arith, count-cons (λ given. given == place) x xs, ap {B = ℕ} (λ t. cond t 1 0) e)

uses_more : (place x : ℕ) (xs : List ℕ) → uses place xs ≤ uses place (x ∷ xs)
uses_more place x xs = by_place (eqb x place) refl
  where
    by_place : (t : Bool) → eqb x place ≡ t → uses place xs ≤ uses place (x ∷ xs)
    by_place true e = omega (arith, uses_here place x xs (eqb-true x place e))
    by_place false e = omega (arith, uses_other place x xs e)

used : (place : ℕ) (list : List ℕ) (j : ℕ) → j < length list → get_or list j 0 ≡ place → 1 ≤ uses place list
used place [] j m e = absurd (omega arith)
used place (x ∷ xs) zero m e = omega (arith, uses_here place x xs e)
used place (x ∷ xs) (suc j) m e = omega (arith, uses_more place x xs, used place xs j (omega arith) e)

-- a place that a list uses once stands at one item of it
once_apart : (list : List ℕ) (i j : ℕ) → i < length list → j < length list → get_or list i 0 ≡ get_or list j 0 → uses (get_or list i 0) list ≤ 1
    → i ≡ j
once_apart [] i j l m e once = absurd (omega arith)
once_apart (x ∷ xs) zero zero l m e once = refl
once_apart (x ∷ xs) zero (suc j) l m e once = absurd (omega (arith, uses_here x x xs refl, used x xs j (omega arith) (sym e), once))
once_apart (x ∷ xs) (suc i) zero l m e once =
    let again : uses x (x ∷ xs) ≤ 1 = subst (λ n. uses n (x ∷ xs) ≤ 1) e once in
    absurd (omega (arith, uses_here x x xs refl, used x xs i (omega arith) e, again))
once_apart (x ∷ xs) (suc i) (suc j) l m e once =
    ap suc (once_apart xs i j (omega arith) (omega arith) e (omega (arith, uses_more (get_or xs i 0) x xs, once)))

unused : (place : ℕ) (list : List ℕ) → ((j : ℕ) → j < length list → get_or list j 0 ≡ place → ⊥) → uses place list ≡ 0
unused place [] never = refl
unused place (x ∷ xs) never = by_place (unused place xs (λ j l same. never (suc j) (omega arith) same)) (eqb x place) refl
  where
    by_place : uses place xs ≡ 0 → (t : Bool) → eqb x place ≡ t → uses place (x ∷ xs) ≡ 0
    by_place rest true e = absurd (never 0 (omega arith) (eqb-true x place e))
    by_place rest false e = uses_other place x xs e ∙ rest

-- a list of different places uses none of them twice
apart_once : (list : List ℕ) → ((i j : ℕ) → i < length list → j < length list → get_or list i 0 ≡ get_or list j 0 → i ≡ j) → (place : ℕ)
    → uses place list ≤ 1
apart_once [] apart place = omega arith
apart_once (x ∷ xs) apart place =
    by_place (apart_once xs (λ i j l m same. omega (arith, apart (suc i) (suc j) (omega arith) (omega arith) same)) place) (eqb x place) refl
  where
    by_place : uses place xs ≤ 1 → (t : Bool) → eqb x place ≡ t → uses place (x ∷ xs) ≤ 1
    by_place rest true e =
        let here : x ≡ place = eqb-true x place e in
        let never : (j : ℕ) → j < length xs → get_or xs j 0 ≡ place → ⊥ =
        λ j l same. absurd (omega (arith, apart 0 (suc j) (omega arith) (omega arith) (here ∙ sym same))) in
        omega (arith, uses_here place x xs here, unused place xs never)
    by_place rest false e = omega (arith, uses_other place x xs e, rest)

-- a matching gives different items different places
pub matching_apart : (left n : ℕ) (edges : List (ℕ × ℕ)) (list : List ℕ) → ((k u : ℕ) → Contains edges (k, u) → u < n)
    → IsMatching left (replicate n (Some 1)) edges list
    → (i j : ℕ) → i < length list → j < length list → get_or list i 0 ≡ get_or list j 0 → i ≡ j
matching_apart left n edges list inside m i j l k e =
    let below : get_or list i 0 < n = inside i (get_or list i 0) (m.neighbours i (subst (λ n. i < n) m.whole l)) in
    once_apart list i j l k e (m.within (get_or list i 0) 1 (one_capacity n (get_or list i 0) below))

-- a list of different places uses none more often than its capacity
pub apart_within : (n : ℕ) (list : List ℕ) → ((i j : ℕ) → i < length list → j < length list → get_or list i 0 ≡ get_or list j 0 → i ≡ j)
    → (place most : ℕ) → capacity_at (replicate n (Some 1)) place ≡ Some most → uses place list ≤ most
apart_within n list apart place most e = omega (arith, ones_one n place most e, apart_once list apart place)
