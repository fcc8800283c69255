-- All roles of an order, and the normal form of one user with one hit.
use Rattle.std.proofs.Common.{ℕ, ◌≡◌, ◌+◌, ◌∙◌, Bool, true, false, not, ◌||◌, ◌&&◌, cond, eqb, ltb, List, [], ◌∷◌, refl, arith, zero, suc, ap}
use Rattle.std.specs.Prelude.{if◌then◌else◌, Option, Some, None}
use Rattle.std.proofs.lemmas.Bool.{ne_eqb}
use Rattle.std.proofs.lemmas.Bool.Decides.{nat_tests}
use Rattle.role_order.specs.Reach.{count_up}
use Rattle.role_order.specs.Roles.{is_within, less_roles, with_role}
use Rattle.arbac_laws.specs.Needs.{Need}
use Rattle.arbac_laws.specs.NormalForms.{normal_form}
use Rattle.arbac_laws.specs.PreImages.{is_empty}
use Rattle.req_core.specs.Answers.{form_in}
use Rattle.req_core.specs.declared.answers.Normal.{Normal}

-- the numbers counted up, with the next one
pub next_counted : (from n next : ℕ) → next ≡ from + n → with_role (count_up from n) next ≡ count_up from (n + 1)
next_counted from zero next e = let same : next ≡ from = omega arith in ap (λ (r : ℕ). r ∷ []) same
next_counted from (suc n) next e =
    let below : ltb next from ≡ false = grind (arith, nat_tests) in
    let other : eqb from next ≡ false = ne_eqb from next (λ f. omega arith) in
    let more : suc n + 1 ≡ suc (n + 1) = omega arith in
    rw (below, other, more) (ap (λ (l : List ℕ). from ∷ l) (next_counted (from + 1) n next (omega arith)))

-- nothing is taken out
pub less_none : (xs : List ℕ) → less_roles xs [] ≡ xs
less_none [] = refl
less_none (x ∷ xs) = ap (λ (l : List ℕ). x ∷ l) (less_none xs)

-- one user with one hit is in normal form, where the hit has a role, and else impossible
pub one_form : (hit : List ℕ) → normal_form (record { hits = hit ∷ []; lacks = [] } ∷ [])
    ≡ (if is_empty hit then None else Some (record { hits = hit ∷ []; lacks = [] } ∷ []))
one_form hit = rw (less_none hit, never (is_within hit hit)) (by_test (is_empty hit))
  where
    wall : Need
    wall = record { hits = hit ∷ []; lacks = [] }

    never : (b : Bool) → (b && not b) ≡ false
    never true = refl
    never false = refl

    by_test : (t : Bool) → cond ((t || false) || false) None (Some (wall ∷ [])) ≡ cond t None (Some (wall ∷ []))
    by_test true = refl
    by_test false = refl

-- a form as a list of at most one
abbrev pub as_list : Option Normal → List (List Need)
as_list None = []
as_list (Some normal) = normal.req ∷ []

-- the normal form of one user with one hit, listed
pub one_listed : (hit : List ℕ) (raw : List Need) (form : Option Normal) → raw ≡ record { hits = hit ∷ []; lacks = [] } ∷ []
    → form_in form ≡ normal_form raw
    → as_list form ≡ (if is_empty hit then [] else (record { hits = hit ∷ []; lacks = [] } ∷ []) ∷ [])
one_listed hit raw form is made = by_form form (is_empty hit) (made ∙ ap normal_form is ∙ one_form hit)
  where
    wall : List Need
    wall = record { hits = hit ∷ []; lacks = [] } ∷ []

    by_form : (form : Option Normal) (t : Bool) → form_in form ≡ cond t None (Some wall) → as_list form ≡ cond t [] (wall ∷ [])
    by_form None true e = refl
    by_form None false e = cc
    by_form (Some normal) true e = cc
    by_form (Some normal) false e = let same : normal.req ≡ wall = cc in ap (λ (l : List Need). l ∷ []) same
