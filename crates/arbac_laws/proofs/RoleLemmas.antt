-- Which roles the operations on sets keep.
use Rattle.std.proofs.Common.{ℕ, ◌≡◌, List, sym, ◌∙◌, eqb, Bool, true, false, not, ◌||◌, ◌&&◌, refl, inl, inr}
use Rattle.std.specs.Prelude.{◌⊎◌}
use Rattle.std.proofs.lemmas.Bool.{eqb-true, eq-eqb, ne_eqb}
use Rattle.role_order.proofs.SetLemmas.{has_role-filter, has_role-join_roles, has_role-with_role}
use Rattle.role_order.specs.Roles.{AreApart, IsIn, IsOut, has_role, join_roles, less_roles, with_role, without_role}

pub in_less : (xs ys : List ℕ) (q : ℕ) → IsIn xs q → IsOut ys q → IsIn (less_roles xs ys) q
in_less xs ys q i o = has_role-filter (λ x. not (has_role ys x)) xs q ∙ rw (i, o) refl

pub less_in : (xs ys : List ℕ) (q : ℕ) → IsIn (less_roles xs ys) q → IsIn xs q
less_in xs ys q h = first (has_role xs q) (not (has_role ys q)) (sym (has_role-filter (λ x. not (has_role ys x)) xs q) ∙ h)
  where
    first : (a b : Bool) → (a && b) ≡ true → a ≡ true
    first true b e = refl
    first false b e = cc

pub less_out : (xs ys : List ℕ) (q : ℕ) → IsIn (less_roles xs ys) q → IsOut ys q
less_out xs ys q h = second (has_role xs q) (has_role ys q) (sym (has_role-filter (λ x. not (has_role ys x)) xs q) ∙ h)
  where
    second : (a b : Bool) → (a && not b) ≡ true → b ≡ false
    second true false e = refl
    second true true e = cc
    second false b e = cc

pub in_with_same : (xs : List ℕ) (r : ℕ) → IsIn (with_role xs r) r
in_with_same xs r = rw (has_role-with_role xs r r, eq-eqb r r refl) refl

pub in_with : (xs : List ℕ) (r q : ℕ) → IsIn xs q → IsIn (with_role xs r) q
in_with xs r q h = has_role-with_role xs r q ∙ by_test (eqb r q) (has_role xs q) h
  where
    by_test : (t s : Bool) → s ≡ true → (t || s) ≡ true
    by_test true s h = refl
    by_test false s h = h

pub with_cases : (xs : List ℕ) (r q : ℕ) → IsIn (with_role xs r) q → (r ≡ q) ⊎ IsIn xs q
with_cases xs r q h = by_test (eqb r q) refl (sym (has_role-with_role xs r q) ∙ h)
  where
    by_test : (t : Bool) → eqb r q ≡ t → (t || has_role xs q) ≡ true → (r ≡ q) ⊎ IsIn xs q
    by_test true e h = inl (eqb-true r q e)
    by_test false e h = inr h

pub without_in : (xs : List ℕ) (r q : ℕ) → IsIn (without_role xs r) q → IsIn xs q × (q ≡ r → ⊥)
without_in xs r q h = by_tests (has_role xs q) (eqb q r) refl refl (sym (has_role-filter (λ x. not (eqb x r)) xs q) ∙ h)
  where
    by_tests : (s t : Bool) → has_role xs q ≡ s → eqb q r ≡ t → (s && not t) ≡ true → IsIn xs q × (q ≡ r → ⊥)
    by_tests true false s t h = (s, λ e. let yes' = eq-eqb q r e in cc)
    by_tests true true s t h = cc
    by_tests false t s e h = cc

pub in_without : (xs : List ℕ) (r q : ℕ) → IsIn xs q → (q ≡ r → ⊥) → IsIn (without_role xs r) q
in_without xs r q h n = has_role-filter (λ x. not (eqb x r)) xs q ∙ rw (h, ne_eqb q r n) refl

pub join_cases : (xs ys : List ℕ) (q : ℕ) → IsIn (join_roles xs ys) q → IsIn xs q ⊎ IsIn ys q
join_cases xs ys q h = by_test (has_role xs q) refl (sym (has_role-join_roles xs ys q) ∙ h)
  where
    by_test : (t : Bool) → has_role xs q ≡ t → (t || has_role ys q) ≡ true → IsIn xs q ⊎ IsIn ys q
    by_test true e h = inl e
    by_test false e h = inr h

pub in_join_left : (xs ys : List ℕ) (q : ℕ) → IsIn xs q → IsIn (join_roles xs ys) q
in_join_left xs ys q h = has_role-join_roles xs ys q ∙ rw h refl

pub in_join_right : (xs ys : List ℕ) (q : ℕ) → IsIn ys q → IsIn (join_roles xs ys) q
in_join_right xs ys q h = has_role-join_roles xs ys q ∙ by_test (has_role xs q) (has_role ys q) h
  where
    by_test : (t s : Bool) → s ≡ true → (t || s) ≡ true
    by_test true s h = refl
    by_test false s h = h

pub apart_join : (xs ys set : List ℕ) → AreApart xs set → AreApart ys set → AreApart (join_roles xs ys) set
apart_join xs ys set a b q h held = by_side (join_cases xs ys q h)
  where
    by_side : IsIn xs q ⊎ IsIn ys q → ⊥
    by_side (inl x) = a q x held
    by_side (inr y) = b q y held

pub cases_in : (xs : List ℕ) (q : ℕ) → IsIn xs q ⊎ IsOut xs q
cases_in xs q = by_test (has_role xs q) refl
  where
    by_test : (t : Bool) → has_role xs q ≡ t → IsIn xs q ⊎ IsOut xs q
    by_test true e = inl e
    by_test false e = inr e
