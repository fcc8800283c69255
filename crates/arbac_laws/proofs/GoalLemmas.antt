-- Meeting a goal is meeting one of its requirements that is possible.
use Rattle.std.proofs.Common.{ℕ, ◌≡◌, ◌<◌, List, [], ◌∷◌, ◌++◌, length, map, Some, arith, zero, suc, sym, ap, cond, subst, refl, inl, inr}
use Rattle.std.specs.Prelude.{slice_get, ◌⊎◌, ◌↔◌}
use Rattle.role_order.specs.Graph.{Graph}
use Rattle.list_words.specs.Lists.{Each, IsOneOf, Some_of}
use Rattle.arbac_policy.specs.Goals.{GoalMet}
use Rattle.arbac_policy.specs.Truth.{Satisfies, Term, user}
use Rattle.arbac_laws.specs.Conjuncts.{conjuncts}
use Rattle.arbac_laws.specs.Goals.{before_each, goal_requirements}
use Rattle.arbac_laws.specs.Needs.{IsPossible, Meets, MeetsNeed, Need}
use Rattle.arbac_laws.proofs.ConjunctLemmas.{conjunct_met, met_conjunct}
use Rattle.arbac_laws.proofs.CoverLemmas.{met_possible}
use Rattle.list_words.proofs.EachLemmas.{each_at, some_one_at, map_some, some_cases, some_item, some_left, some_map, some_right, some_weaker}
use Rattle.arbac_laws.proofs.ConjunctLemmas.{AreSeniors}

-- each item of the list is met where the map sends its place
abbrev pub MetAt : {A : Type 0} → (A → List ℕ → Type 0) → List (List ℕ) → (ℕ → ℕ) → List A → Type 0
MetAt {A} R users to xs = (i : ℕ) (x : A) → slice_get xs i ≡ Some x → (set : List ℕ) × (slice_get users (to i) ≡ Some set) × R x set

abbrev pub IsWay : List (List ℕ) → (ℕ → ℕ) → ℕ → List Need → Type 0
IsWay users to n needs = (length needs ≡ n) × MetAt MeetsNeed users to needs

pub some_before : (P : Need → Type 0) (Q : List Need → Type 0) (R : List Need → Type 0)
    → ((a : Need) (rest : List Need) → P a → Q rest → R (a ∷ rest)) → (xs : List Need) (rests : List (List Need))
    → Some_of P xs → Some_of Q rests → Some_of R (before_each xs rests)
some_before P Q R f [] rests h k = h
some_before P Q R f (a ∷ xs) rests (inl h) k =
    some_left R (map (λ rest. a ∷ rest) rests) (before_each xs rests)
    (some_map (λ rest. a ∷ rest) R rests (some_weaker Q (λ rest. R (a ∷ rest)) (λ rest q. f a rest h q) rests k))
some_before P Q R f (a ∷ xs) rests (inr h) k =
    some_right R (map (λ rest. a ∷ rest) rests) (before_each xs rests) (some_before P Q R f xs rests h k)

pub goal_ways : (order : Graph) → AreSeniors order → (users : List (List ℕ)) (to : ℕ → ℕ) (goal : List Term)
    → MetAt (λ cond set. Satisfies user order.edges set cond) users to goal → Some_of (IsWay users to (length goal)) (goal_requirements order goal)
goal_ways order same users to [] h = inl (refl, λ i x e. cc)
goal_ways order same users to (cond ∷ goal) h =
    let one = h 0 cond refl in
    some_before (λ a. MeetsNeed a one.0) (IsWay users (λ i. to (suc i)) (length goal)) (IsWay users to (length (cond ∷ goal)))
    (λ a rest m w. (ap suc w.0, both_at a rest one.0 one.1 m w.1))
    (conjuncts order cond) (goal_requirements order goal) (conjunct_met order same one.0 cond one.2)
    (goal_ways order same users (λ i. to (suc i)) goal (λ i x e. h (suc i) x e))
  where
    both_at : (a : Need) (rest : List Need) (set : List ℕ) → slice_get users (to 0) ≡ Some set → MeetsNeed a set
        → MetAt MeetsNeed users (λ i. to (suc i)) rest → MetAt MeetsNeed users to (a ∷ rest)
    both_at a rest set is m w zero x e = let e' : Some a ≡ Some x = e in let same : a ≡ x = cc in (set, is, subst (λ n. MeetsNeed n set) same m)
    both_at a rest set is m w (suc i) x e = w i x e

pub goal_met_needs : (order : Graph) → AreSeniors order → (users : List (List ℕ)) (goal : List Term) → GoalMet order.edges goal users
    → Some_of (λ needs. Meets users needs) (goal_requirements order goal)
goal_met_needs order same users goal g =
    some_weaker (IsWay users g.to (length goal)) (λ needs. Meets users needs)
    (λ needs w. record { to = g.to; apart = λ i j li lj e. g.apart i j (subst (λ n. i < n) w.0 li) (subst (λ n. j < n) w.0 lj) e; each = w.1 })
    (goal_requirements order goal) (goal_ways order same users g.to goal g.each)

pub before_some : (P : Need → Type 0) (Q : List Need → Type 0) (R : List Need → Type 0)
    → ((a : Need) (rest : List Need) → R (a ∷ rest) → P a × Q rest) → (xs : List Need) (rests : List (List Need))
    → Some_of R (before_each xs rests) → Some_of P xs × Some_of Q rests
before_some P Q R f [] rests h = absurd h
before_some P Q R f (a ∷ xs) rests h = by_side (some_cases R (map (λ rest. a ∷ rest) rests) (before_each xs rests) h) (before_some P Q R f xs rests)
  where
    parts : (list : List (List Need)) → Some_of (λ rest. R (a ∷ rest)) list → P a × Some_of Q list
    parts [] k = absurd k
    parts (rest ∷ list) (inl k) = let r = f a rest k in (r.0, inl r.1)
    parts (rest ∷ list) (inr k) = let r = parts list k in (r.0, inr r.1)

    by_side : Some_of R (map (λ rest. a ∷ rest) rests) ⊎ Some_of R (before_each xs rests)
        → (Some_of R (before_each xs rests) → Some_of P xs × Some_of Q rests) → Some_of P (a ∷ xs) × Some_of Q rests
    by_side (inl k) again = let r = parts rests (map_some (λ rest. a ∷ rest) R rests k) in (inl r.0, r.1)
    by_side (inr k) again = let r = again k in (inr r.0, r.1)

-- the user at the place meets it
abbrev pub IsMetAt : List (List ℕ) → ℕ → Need → Type 0
IsMetAt users place need = (set : List ℕ) × (slice_get users place ≡ Some set) × MeetsNeed need set

pub ways_goal : (order : Graph) → AreSeniors order → (users : List (List ℕ)) (to : ℕ → ℕ) (goal : List Term)
    → Some_of (IsWay users to (length goal)) (goal_requirements order goal) → MetAt (λ cond set. Satisfies user order.edges set cond) users to goal
ways_goal order same users to [] h i x e = cc
ways_goal order same users to (cond ∷ goal) h i x e =
    by_place i x e (before_some (IsMetAt users (to 0)) (IsWay users (λ i. to (suc i)) (length goal)) (IsWay users to (length (cond ∷ goal)))
    (λ a rest w. (w.1 0 a refl, (shorter rest w.0, λ i x e. w.1 (suc i) x e))) (conjuncts order cond) (goal_requirements order goal) h)
    (ways_goal order same users (λ i. to (suc i)) goal)
  where
    shorter : (rest : List Need) → suc (length rest) ≡ suc (length goal) → length rest ≡ length goal
    shorter rest e = omega (arith, e)

    parts : (list : List Need) → Some_of (IsMetAt users (to 0)) list → (set : List ℕ) × (slice_get users (to 0) ≡ Some set)
        × Some_of (λ need. MeetsNeed need set) list
    parts [] k = absurd k
    parts (a ∷ list) (inl k) = (k.0, k.1, inl k.2)
    parts (a ∷ list) (inr k) = let r = parts list k in (r.0, r.1, inr r.2)

    by_place : (i : ℕ) (x : Term) → slice_get (cond ∷ goal) i ≡ Some x → Some_of (IsMetAt users (to 0)) (conjuncts order cond)
        × Some_of (IsWay users (λ i. to (suc i)) (length goal)) (goal_requirements order goal)
        → (Some_of (IsWay users (λ i. to (suc i)) (length goal)) (goal_requirements order goal)
        → MetAt (λ cond set. Satisfies user order.edges set cond) users (λ i. to (suc i)) goal)
        → (set : List ℕ) × (slice_get users (to i) ≡ Some set) × Satisfies user order.edges set x
    by_place zero x e p again =
        let r = parts (conjuncts order cond) p.0 in
        let e' : Some cond ≡ Some x = e in let same' : cond ≡ x = cc in
        (r.0, r.1, subst (λ c. Satisfies user order.edges r.0 c) same' (met_conjunct order same r.0 cond r.2))
    by_place (suc i) x e p again = again p.1 i x e

-- all the ways of a goal have its length
pub ways_long : (order : Graph) (goal : List Term) → Each (λ needs. length needs ≡ length goal) (goal_requirements order goal)
ways_long order [] = (refl, tt)
ways_long order (cond ∷ goal) = each_before (conjuncts order cond) (goal_requirements order goal) (ways_long order goal)
  where
    each_map : (a : Need) (rests more : List (List Need)) → Each (λ needs. length needs ≡ length goal) rests
        → Each (λ needs. length needs ≡ length (cond ∷ goal)) more
        → Each (λ needs. length needs ≡ length (cond ∷ goal)) (map (λ rest. a ∷ rest) rests ++ more)
    each_map a [] more h k = k
    each_map a (rest ∷ rests) more h k = (ap suc h.0, each_map a rests more h.1 k)

    each_before : (xs : List Need) (rests : List (List Need)) → Each (λ needs. length needs ≡ length goal) rests
        → Each (λ needs. length needs ≡ length (cond ∷ goal)) (before_each xs rests)
    each_before [] rests h = tt
    each_before (a ∷ xs) rests h = each_map a rests (before_each xs rests) h (each_before xs rests h)

pub goal_both : (order : Graph) → AreSeniors order → (goal : List Term) (users : List (List ℕ))
    → GoalMet order.edges goal users ↔ Some_of (λ needs. IsPossible needs × Meets users needs) (goal_requirements order goal)
goal_both order same goal users = (
  λ g. some_weaker (λ needs. Meets users needs) (λ needs. IsPossible needs × Meets users needs) (λ needs m. (met_possible users needs m, m))
      (goal_requirements order goal) (goal_met_needs order same users goal g),
  λ h. back (some_item (λ needs. IsPossible needs × Meets users needs) (goal_requirements order goal) h),
)
  where
    back : (needs : List Need) × IsOneOf (goal_requirements order goal) needs × (IsPossible needs × Meets users needs) → GoalMet order.edges goal users
    back one =
        let long = each_at (λ needs. length needs ≡ length goal) (goal_requirements order goal) one.1.0 one.0 (ways_long order goal) one.1.1 in
        record {
          to = one.2.1.to;
          apart = λ i j li lj e. one.2.1.apart i j (subst (λ n. i < n) (sym long) li) (subst (λ n. j < n) (sym long) lj) e;
          each = ways_goal order same users one.2.1.to goal
              (some_one_at (IsWay users one.2.1.to (length goal)) (goal_requirements order goal) one.0 one.1 (long, one.2.1.each));
        }
