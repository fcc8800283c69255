-- Membership by a common role.
use Rattle.std.proofs.Common.{ℕ, ◌≡◌, true, List, [], ◌∷◌, refl, ◌||◌, inl, inr, eqb}
use Rattle.std.specs.Prelude.{◌⊎◌}
use Rattle.std.specs.List.{list_any}
use Rattle.std.proofs.lemmas.Bool.{eq-eqb, eqb-true}
use Rattle.role_order.specs.Roles.{has_role, have_common, IsIn}
use Rattle.list_words.proofs.TestLemmas.{or_cases, or_right}

-- a role of the first that is in the second
pub common_role : (xs ys : List ℕ) → have_common xs ys ≡ true → (role : ℕ) × IsIn xs role × IsIn ys role
common_role [] ys h = cc
common_role (x ∷ xs) ys h = by_case (or_cases (has_role ys x) (list_any (has_role ys) xs) h) (common_role xs ys)
  where
    by_case : (has_role ys x ≡ true) ⊎ (list_any (has_role ys) xs ≡ true) → (have_common xs ys ≡ true → (role : ℕ) × IsIn xs role × IsIn ys role)
        → (role : ℕ) × IsIn (x ∷ xs) role × IsIn ys role
    by_case (inl h) rest = (x, rw (eq-eqb x x refl) refl, h)
    by_case (inr h) rest = let r = rest h in (r.0, or_right (eqb x r.0) (has_role xs r.0) r.1, r.2)

pub common_of : (xs ys : List ℕ) (role : ℕ) → IsIn xs role → IsIn ys role → have_common xs ys ≡ true
common_of [] ys role a b = cc
common_of (x ∷ xs) ys role a b = by_case (or_cases (eqb x role) (has_role xs role) a) (λ h. common_of xs ys role h b)
  where
    by_case : (eqb x role ≡ true) ⊎ (has_role xs role ≡ true) → (has_role xs role ≡ true → have_common xs ys ≡ true)
        → (has_role ys x || list_any (has_role ys) xs) ≡ true
    by_case (inl e) rest = let same : x ≡ role = eqb-true x role e in rw (same, b) refl
    by_case (inr h) rest = or_right (has_role ys x) (list_any (has_role ys) xs) (rest h)
