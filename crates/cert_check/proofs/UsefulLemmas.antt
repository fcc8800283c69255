-- Roles with which acts may be of use.
use Rattle.std.proofs.Common.{ℕ, ◌≡◌, ◌+◌, ◌∙◌, Bool, true, false, List, [], ◌∷◌, ◌++◌, map, take, Some, Option, refl, sym, ap}
use Rattle.std.specs.Prelude.{slice_get, filter, ◌||◌}
use Rattle.std.specs.List.{list_any}
use Rattle.std.proofs.lemmas.List.Folds.{list_any_more}
use Rattle.list_words.proofs.GetLemmas.{get_within}
use Rattle.list_words.proofs.TestLemmas.{or_none}
use Rattle.role_order.specs.Roles.{has_role, join_roles}
use Rattle.role_order.specs.declared.range.Range.{Range}
use Rattle.role_order.proofs.SetLemmas.{has_role-join_roles}
use Rattle.arbac_policy.specs.Rules.{Rules}
use Rattle.arbac_policy.specs.declared.conjunct.Conjunct.{Conjunct}
use Rattle.arbac_laws.specs.Needs.{Need}
use Rattle.arbac_laws.specs.Obligations.{flat, flat_places, roles_in}
use Rattle.arbac_laws.specs.Views.{need_of, needs_of}
use Rattle.cert_check.specs.Passing.{is_of_use, by_target, by_role, by_range}

-- one set more is joined
pub joined_more : {A : Type 0} (p : A → ℕ → Bool) (xs : List A) (i : ℕ) (x : A) (all set : List ℕ) (role : ℕ) → slice_get xs i ≡ Some x
    → has_role all role ≡ list_any (λ y. p y role) (take i xs) → has_role set role ≡ p x role
    → has_role (join_roles all set) role ≡ list_any (λ y. p y role) (take (i + 1) xs)
joined_more p xs i x all set role at before same =
    let there = get_within xs i x at in
    has_role-join_roles all set role
    ∙ ap (λ b. b || has_role set role) before
    ∙ ap (λ b. list_any (λ y. p y role) (take i xs) || b) (same ∙ ap (λ y. p y role) there.1)
    ∙ sym (list_any_more (λ y. p y role) xs i x there.0)

pub any_mapped : {A B : Type 0} (f : A → B) (p : B → Bool) (xs : List A) → list_any (λ x. p (f x)) xs ≡ list_any p (map f xs)
any_mapped f p [] = refl
any_mapped f p (x ∷ xs) = ap (λ b. p (f x) || b) (any_mapped f p xs)

-- where the role is of use to no user, there is no obligation with it
pub idle_role : (rules : Rules) (given : Option Need) (hit : List ℕ) (all : List Need) (role at : ℕ) (needs : List Need)
    → list_any (λ need. is_of_use given role need) needs ≡ false → flat_places (by_target rules given hit all role) at needs ≡ []
idle_role rules given hit all role at [] h = refl
idle_role rules given hit all role at (need ∷ needs) h =
    let both = or_none (is_of_use given role need) (list_any (λ one. is_of_use given role one) needs) h in
    let none : is_of_use given role need ≡ false = both.0 in
    rw none (idle_role rules given hit all role (at + 1) needs both.1)

pub flat_filtered : {B : Type 0} (f : ℕ → List B) (test : ℕ → Bool) → ((x : ℕ) → test x ≡ false → f x ≡ []) → (xs : List ℕ)
    → flat f (filter test xs) ≡ flat f xs
flat_filtered f test none [] = refl
flat_filtered f test none (x ∷ xs) = by_test (test x) refl (flat_filtered f test none xs)
  where
    by_test : (t : Bool) → test x ≡ t → flat f (filter test xs) ≡ flat f xs → flat f (filter test (x ∷ xs)) ≡ f x ++ flat f xs
    by_test true e rest = rw e (ap (λ l. f x ++ l) rest)
    by_test false e rest = rw (e, none x e) rest

-- so other roles are left out
pub useful_flat : (rules : Rules) (given : Option Need) (hit : List ℕ) (range : Range) (users : List Conjunct) (useful : List ℕ)
    → ((role : ℕ) → has_role useful role ≡ list_any (λ user. is_of_use given role (need_of user)) users)
    → flat (by_role rules given hit (needs_of users)) (filter (has_role useful) (roles_in rules.order range))
    ≡ by_range rules given hit range (needs_of users)
useful_flat rules given hit range users useful same =
    flat_filtered (by_role rules given hit (needs_of users)) (has_role useful)
    (λ role out. idle_role rules given hit (needs_of users) role 0 (needs_of users)
    (sym (any_mapped need_of (λ need. is_of_use given role need) users) ∙ sym (same role) ∙ out))
    (roles_in rules.order range)
