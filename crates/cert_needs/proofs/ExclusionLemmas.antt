-- Tables that are filled role by role.
use Rattle.std.proofs.Common.{ℕ, ◌≡◌, ◌+◌, ◌<◌, ◌≤◌, ◌∙◌, Bool, true, false, eqb, List, [], ◌∷◌, ◌++◌, length, Some, refl, arith, sym, subst}
use Rattle.std.specs.Prelude.{◌||◌, slice_get}
use Rattle.std.proofs.lemmas.Bool.{eqb-true}
use Rattle.std.proofs.lemmas.Bool.Decides.{nat_tests}
use Rattle.role_order.specs.Roles.{has_role, with_role}
use Rattle.role_order.proofs.SetLemmas.{has_role-with_role}
use Rattle.list_words.proofs.GetLemmas.{get_append, get_last, length_more}

-- so many sets, at each place its own
pub record HaveAll (set_at : ℕ → List ℕ) (count : ℕ) (sets : List (List ℕ)) : Type 0 where
  pub long : length sets ≡ count
  pub each : (k : ℕ) → k < count → slice_get sets k ≡ Some (set_at k)

pub all_more : (set_at : ℕ → List ℕ) (count : ℕ) (sets : List (List ℕ)) → HaveAll set_at count sets
    → HaveAll set_at (count + 1) (sets ++ set_at count ∷ [])
all_more set_at count sets all = record {
  long = omega (arith, length_more sets (set_at count), all.long);
  each = λ k less. by_place k less (eqb k count) refl;
}
  where
    by_place : (k : ℕ) → k < count + 1 → (t : Bool) → eqb k count ≡ t → slice_get (sets ++ set_at count ∷ []) k ≡ Some (set_at k)
    by_place k less true t =
        let same : k ≡ count = eqb-true k count t in
        let last : slice_get (sets ++ set_at count ∷ []) count ≡ Some (set_at count)
        = subst (λ j. slice_get (sets ++ set_at count ∷ []) j ≡ Some (set_at count)) all.long (get_last sets (set_at count)) in
        rw same last
    by_place k less false t =
        let below : k < count = grind (arith, nat_tests) in
        get_append sets (set_at count) k (omega (arith, all.long)) ∙ all.each k below

-- the set of the roles below a number that pass the test
pub record ArePassed (test : ℕ → Bool) (count : ℕ) (set : List ℕ) : Type 0 where
  pub below : (role : ℕ) → role < count → has_role set role ≡ test role
  pub above : (role : ℕ) → count ≤ role → has_role set role ≡ false

pub passed_more : (test : ℕ → Bool) (count : ℕ) (set : List ℕ) → ArePassed test count set → test count ≡ true
    → ArePassed test (count + 1) (with_role set count)
passed_more test count set passed passes = record {
  below = λ role less. has_role-with_role set count role ∙ by_role role less (eqb count role) refl;
  above = λ role past. has_role-with_role set count role ∙ none_at role past (eqb count role) refl;
}
  where
    by_role : (role : ℕ) → role < count + 1 → (t : Bool) → eqb count role ≡ t → (eqb count role || has_role set role) ≡ test role
    by_role role less true t = let same : count ≡ role = eqb-true count role t in rw t (sym (subst (λ j. test j ≡ true) same passes))
    by_role role less false t = let below : role < count = grind (arith, nat_tests) in rw t (passed.below role below)

    none_at : (role : ℕ) → count + 1 ≤ role → (t : Bool) → eqb count role ≡ t → (eqb count role || has_role set role) ≡ false
    none_at role past true t = let same : count ≡ role = eqb-true count role t in absurd (omega arith)
    none_at role past false t = rw t (passed.above role (omega arith))

pub passed_same : (test : ℕ → Bool) (count : ℕ) (set : List ℕ) → ArePassed test count set → test count ≡ false → ArePassed test (count + 1) set
passed_same test count set passed fails = record {
  below = λ role less. by_role role less (eqb count role) refl;
  above = λ role past. passed.above role (omega arith);
}
  where
    by_role : (role : ℕ) → role < count + 1 → (t : Bool) → eqb count role ≡ t → has_role set role ≡ test role
    by_role role less true t =
        let same : count ≡ role = eqb-true count role t in
        subst (λ j. has_role set j ≡ test j) same (passed.above count (omega arith) ∙ sym fails)
    by_role role less false t = let below : role < count = grind (arith, nat_tests) in passed.below role below
