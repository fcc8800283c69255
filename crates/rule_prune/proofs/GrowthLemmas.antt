-- Rising lists within one another: how many roles they have.
use Rattle.std.proofs.Common.{ℕ, ◌≡◌, ◌<◌, ◌≤◌, ◌+◌, true, eqb, List, [], ◌∷◌, length, refl, arith, zero, suc, sym, ◌∙◌, subst, inl, inr}
use Rattle.std.specs.Prelude.{◌⊎◌}
use Rattle.std.proofs.lemmas.Bool.{eqb-true, eq-eqb, false≢true}
use Rattle.list_words.specs.Lists.{Each}
use Rattle.list_words.proofs.TestLemmas.{or_cases, or_right}
use Rattle.role_order.specs.Reach.{count_up}
use Rattle.role_order.specs.Roles.{AreBelow, IsIn, IsWithin, Rises, has_role}
use Rattle.role_order.proofs.SetLemmas.{has_role-count_up, rises-count_up}

own : (x : ℕ) (xs : List ℕ) → IsIn (x ∷ xs) x
own x xs = rw (eq-eqb x x refl) refl

tail_in : (x : ℕ) (xs : List ℕ) → IsWithin xs (x ∷ xs)
tail_in x xs role h = or_right (eqb x role) (has_role xs role) h

-- what is in a rising list behind its head is above the head
above_head : (x : ℕ) (xs : List ℕ) (role : ℕ) → Each (λ y. x < y) xs → IsIn xs role → x < role
above_head x [] role h i = absurd (false≢true i)
above_head x (y ∷ ys) role h i = by_case (or_cases (eqb y role) (has_role ys role) i) (above_head x ys role h.1)
  where
    by_case : (eqb y role ≡ true) ⊎ IsIn ys role → (IsIn ys role → x < role) → x < role
    by_case (inl e) rest = subst (λ r. x < r) (eqb-true y role e) h.0
    by_case (inr k) rest = rest k

-- either the heads are one and the rest lies within the rest, or all of it lies within the rest
heads : (x : ℕ) (xs : List ℕ) (y : ℕ) (ys : List ℕ) → Rises (x ∷ xs) → Rises (y ∷ ys) → IsWithin (x ∷ xs) (y ∷ ys)
    → ((y ≡ x) × IsWithin xs ys) ⊎ IsWithin (x ∷ xs) ys
heads x xs y ys rx ry w = by_case (or_cases (eqb y x) (has_role ys x) (w x (own x xs)))
  where
    same : y ≡ x → IsWithin xs ys
    same e role h = by_tail (or_cases (eqb y role) (has_role ys role) (w role (tail_in x xs role h)))
      where
        by_tail : (eqb y role ≡ true) ⊎ IsIn ys role → IsIn ys role
        by_tail (inl f) = let l = above_head x xs role rx.0 h in let g = eqb-true y role f in absurd (omega arith)
        by_tail (inr k) = k

    behind : IsIn ys x → IsWithin (x ∷ xs) ys
    behind k role h = by_tail (or_cases (eqb y role) (has_role ys role) (w role h)) (or_cases (eqb x role) (has_role xs role) h)
      where
        by_tail : (eqb y role ≡ true) ⊎ IsIn ys role → (eqb x role ≡ true) ⊎ IsIn xs role → IsIn ys role
        by_tail (inr i) rest = i
        by_tail (inl f) (inl e) = subst (λ r. IsIn ys r) (eqb-true x role e) k
        by_tail (inl f) (inr i) =
            let g = eqb-true y role f in
            let l = above_head x xs role rx.0 i in
            let m = above_head y ys x ry.0 k in absurd (omega arith)

    by_case : (eqb y x ≡ true) ⊎ IsIn ys x → ((y ≡ x) × IsWithin xs ys) ⊎ IsWithin (x ∷ xs) ys
    by_case (inl e) = inl (eqb-true y x e, same (eqb-true y x e))
    by_case (inr k) = inr (behind k)

-- a rising list within another has no more roles
pub no_more : (xs ys : List ℕ) → Rises xs → Rises ys → IsWithin xs ys → length xs ≤ length ys
no_more [] ys rx ry w = omega arith
no_more (x ∷ xs) [] rx ry w = absurd (false≢true (w x (own x xs)))
no_more (x ∷ xs) (y ∷ ys) rx ry w = by_case (heads x xs y ys rx ry w) (no_more xs ys rx.1 ry.1) (no_more (x ∷ xs) ys rx ry.1)
  where
    by_case : ((y ≡ x) × IsWithin xs ys) ⊎ IsWithin (x ∷ xs) ys → (IsWithin xs ys → length xs ≤ length ys)
        → (IsWithin (x ∷ xs) ys → length (x ∷ xs) ≤ length ys) → length (x ∷ xs) ≤ length (y ∷ ys)
    by_case (inl e) rest whole = let l = rest e.1 in omega arith
    by_case (inr k) rest whole = let l = whole k in omega arith

-- and where it has as many, it has the same
pub as_many : (xs ys : List ℕ) → Rises xs → Rises ys → IsWithin xs ys → length ys ≤ length xs → IsWithin ys xs
as_many xs [] rx ry w l = λ role h. absurd (false≢true h)
as_many [] (y ∷ ys) rx ry w l = absurd (omega arith)
as_many (x ∷ xs) (y ∷ ys) rx ry w l = by_case (heads x xs y ys rx ry w) (λ v. as_many xs ys rx.1 ry.1 v (omega arith))
  where
    by_case : ((y ≡ x) × IsWithin xs ys) ⊎ IsWithin (x ∷ xs) ys → (IsWithin xs ys → IsWithin ys xs) → IsWithin (y ∷ ys) (x ∷ xs)
    by_case (inr k) rest = let m = no_more (x ∷ xs) ys rx ry.1 k in absurd (omega arith)
    by_case (inl e) rest = λ role h. by_role role (or_cases (eqb y role) (has_role ys role) h)
      where
        by_role : (role : ℕ) → (eqb y role ≡ true) ⊎ IsIn ys role → IsIn (x ∷ xs) role
        by_role role (inl f) = subst (λ r. IsIn (x ∷ xs) r) (sym e.0 ∙ eqb-true y role f) (own x xs)
        by_role role (inr i) = tail_in x xs role (rest e.1 role i)

pub length-count_up : (at n : ℕ) → length (count_up at n) ≡ n
length-count_up at zero = refl
length-count_up at (suc n) = let r = length-count_up (at + 1) n in omega arith

-- a rising list of roles below a number has at most so many
pub few_below : (count : ℕ) (xs : List ℕ) → Rises xs → AreBelow count xs → length xs ≤ count
few_below count xs rises below =
    let within = no_more xs (count_up 0 count) rises (rises-count_up 0 count)
    (λ role h. let l = below role h in has_role-count_up 0 count role (omega arith) (omega arith)) in
    let all = length-count_up 0 count in omega (arith, within, all)
