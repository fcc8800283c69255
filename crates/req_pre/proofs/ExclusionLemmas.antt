-- Tables that are filled role by role, and what pairs bar from whoever is given what is no role.
use Rattle.std.proofs.Common.{ℕ, ◌≡◌, ◌+◌, ◌<◌, ◌≤◌, ◌∙◌, Bool, true, false, eqb, List, [], ◌∷◌, ◌++◌, length, get_or, refl, arith, sym, subst}
use Rattle.std.specs.Prelude.{◌||◌, nat_lt}
use Rattle.std.proofs.lemmas.Bool.{eqb-true}
use Rattle.std.proofs.lemmas.Bool.Decides.{nat_tests}
use Rattle.std.proofs.lemmas.List.{get_or_append_left, get_or_past, get_or_push}
use Rattle.list_words.specs.Lists.{Each}
use Rattle.list_words.proofs.GetLemmas.{length_more}
use Rattle.role_order.specs.Graph.{Graph, AreEdges}
use Rattle.role_order.specs.Reach.{seniors_of}
use Rattle.role_order.specs.Roles.{has_role, with_role}
use Rattle.role_order.proofs.ReachLemmas.{in_seniors}
use Rattle.role_order.proofs.SetLemmas.{has_role-with_role}
use Rattle.arbac_policy.specs.Rules.{IsKnownPair}
use Rattle.arbac_laws.specs.PreImages.{barred, is_barred}
use Rattle.arbac_laws.proofs.BarrierLemmas.{seniors_below}

-- a role is above none that is known, where it isn't known itself

senior_past : (order : Graph) → AreEdges (length order.names) order.edges → (junior role : ℕ) → junior < length order.names
    → length order.names ≤ role → has_role (seniors_of order junior) role ≡ false
senior_past order ends junior role known past = by_test (has_role (seniors_of order junior) role) refl
  where
    by_test : (t : Bool) → has_role (seniors_of order junior) role ≡ t → t ≡ false
    by_test true h = absurd (omega (seniors_below order (λ r. in_seniors order r ends) ends junior known role h, past, arith))
    by_test false h = refl

pub nothing_past : (order : Graph) → AreEdges (length order.names) order.edges → (pairs : List (ℕ × ℕ))
    → Each (IsKnownPair (length order.names)) pairs → (role : ℕ) → length order.names ≤ role → barred order role pairs ≡ []
nothing_past order ends [] known role past = refl
nothing_past order ends (pair ∷ pairs) known role past =
    rw (senior_past order ends pair.0 role known.0.0 past, senior_past order ends pair.1 role known.0.1 past) (nothing_past order ends pairs known.1 role past)

pub open_past : (order : Graph) → AreEdges (length order.names) order.edges → (pairs : List (ℕ × ℕ))
    → Each (IsKnownPair (length order.names)) pairs → (role : ℕ) → length order.names ≤ role → is_barred order role pairs ≡ false
open_past order ends [] known role past = refl
open_past order ends (pair ∷ pairs) known role past =
    rw (senior_past order ends pair.0 role known.0.0 past) (open_past order ends pairs known.1 role past)

-- so many sets, at each place its own
pub record HaveAll (set_at : ℕ → List ℕ) (count : ℕ) (sets : List (List ℕ)) : Type 0 where
  pub long : length sets ≡ count
  pub each : (k : ℕ) → k < count → get_or sets k [] ≡ set_at k

pub all_more : (set_at : ℕ → List ℕ) (count : ℕ) (sets : List (List ℕ)) → HaveAll set_at count sets
    → HaveAll set_at (count + 1) (sets ++ set_at count ∷ [])
all_more set_at count sets all = record {
  long = omega (arith, length_more sets (set_at count), all.long);
  each = λ k less. by_place k less (eqb k count) refl;
}
  where
    by_place : (k : ℕ) → k < count + 1 → (t : Bool) → eqb k count ≡ t → get_or (sets ++ set_at count ∷ []) k [] ≡ set_at k
    by_place k less true t =
        let same : k ≡ count = eqb-true k count t in
        rw same (get_or_push sets (set_at count) [] count all.long)
    by_place k less false t =
        let below : k < count = grind (arith, nat_tests) in
        get_or_append_left sets (set_at count ∷ []) [] k (omega (arith, all.long)) ∙ all.each k below

-- no set is left out, where from the number on there is none but the empty one
pub all_there : (set_at : ℕ → List ℕ) (count : ℕ) (sets : List (List ℕ)) → HaveAll set_at count sets
    → ((k : ℕ) → count ≤ k → set_at k ≡ []) → (k : ℕ) → get_or sets k [] ≡ set_at k
all_there set_at count sets all none k = by_place (nat_lt k count) refl
  where
    by_place : (t : Bool) → nat_lt k count ≡ t → get_or sets k [] ≡ set_at k
    by_place true t = all.each k (grind (arith, nat_tests))
    by_place false t =
        let past : count ≤ k = grind (arith, nat_tests) in
        get_or_past sets k [] (omega (arith, all.long)) ∙ sym (none k past)

-- the set of the roles below a number that pass the test
pub record ArePassed (test : ℕ → Bool) (count : ℕ) (set : List ℕ) : Type 0 where
  pub below : (role : ℕ) → role < count → has_role set role ≡ test role
  pub above : (role : ℕ) → count ≤ role → has_role set role ≡ false

pub passed_more : (test : ℕ → Bool) (count : ℕ) (set : List ℕ) → ArePassed test count set → test count ≡ true
    → ArePassed test (count + 1) (with_role set count)
passed_more test count set passed passes = record {
  below = λ role less. has_role-with_role set count role ∙ by_role role less (eqb count role) refl;
  above = λ role past. has_role-with_role set count role ∙ none_at role past (eqb count role) refl;
}
  where
    by_role : (role : ℕ) → role < count + 1 → (t : Bool) → eqb count role ≡ t → (eqb count role || has_role set role) ≡ test role
    by_role role less true t = let same : count ≡ role = eqb-true count role t in rw t (sym (subst (λ j. test j ≡ true) same passes))
    by_role role less false t = let below : role < count = grind (arith, nat_tests) in rw t (passed.below role below)

    none_at : (role : ℕ) → count + 1 ≤ role → (t : Bool) → eqb count role ≡ t → (eqb count role || has_role set role) ≡ false
    none_at role past true t = let same : count ≡ role = eqb-true count role t in absurd (omega arith)
    none_at role past false t = rw t (passed.above role (omega arith))

pub passed_same : (test : ℕ → Bool) (count : ℕ) (set : List ℕ) → ArePassed test count set → test count ≡ false → ArePassed test (count + 1) set
passed_same test count set passed fails = record {
  below = λ role less. by_role role less (eqb count role) refl;
  above = λ role past. passed.above role (omega arith);
}
  where
    by_role : (role : ℕ) → role < count + 1 → (t : Bool) → eqb count role ≡ t → has_role set role ≡ test role
    by_role role less true t =
        let same : count ≡ role = eqb-true count role t in
        subst (λ j. has_role set j ≡ test j) same (passed.above count (omega arith) ∙ sym fails)
    by_role role less false t = let below : role < count = grind (arith, nat_tests) in passed.below role below

-- no role is left out, where from the number on none passes
pub all_passed : (test : ℕ → Bool) (count : ℕ) (set : List ℕ) → ArePassed test count set → ((role : ℕ) → count ≤ role → test role ≡ false)
    → (role : ℕ) → has_role set role ≡ test role
all_passed test count set passed none role = by_place (nat_lt role count) refl
  where
    by_place : (t : Bool) → nat_lt role count ≡ t → has_role set role ≡ test role
    by_place true t = passed.below role (grind (arith, nat_tests))
    by_place false t =
        let past : count ≤ role = grind (arith, nat_tests) in
        passed.above role past ∙ sym (none role past)
