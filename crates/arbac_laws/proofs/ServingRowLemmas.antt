-- Which profiles serve small requirements.
use Rattle.std.proofs.Common.{ℕ, ◌≡◌, ◌≤◌, ◌<◌, ◌+◌, ◌∙◌, Bool, true, false, cond, eqb, List, [], ◌∷◌, Some, get_or, arith}
use Rattle.std.proofs.Common.{zero, suc, sym, subst, ap, refl, inl, inr}
use Rattle.std.specs.Prelude.{◌⊎◌, Contains, slice_get}
use Rattle.std.proofs.lemmas.Bool.{eqb-true}
use Rattle.list_words.proofs.TestLemmas.{or_cases}
use Rattle.role_order.specs.Roles.{IsIn}
use Rattle.list_words.proofs.GetLemmas.{at_contains, same_some}
use Rattle.arbac_policy.specs.declared.profile.Profile.{Profile}
use Rattle.arbac_policy.specs.Goals.{times}
use Rattle.hall_match.specs.Matchings.{IsBefore, IsNeighbour, capacity_at}
use Rattle.arbac_laws.specs.Needs.{MeetsNeed, Need}
use Rattle.arbac_laws.specs.Rows.{one_admin, many_admins, hits, adm, c}
use Rattle.arbac_laws.specs.Serving.{AreServing, AreUnserved, IsServed, Serves, ServesLeast, counts}
use Rattle.arbac_laws.proofs.RowLemmas.{one_profile}
use Rattle.arbac_laws.proofs.ServeLemmas.{drawn_served, unserved_unmet}

one_role : (x role : ℕ) → IsIn (x ∷ []) role → x ≡ role
one_role x role h = by_case (or_cases (eqb x role) false h)
  where
    by_case : (eqb x role ≡ true) ⊎ (false ≡ true) → x ≡ role
    by_case (inl e) = eqb-true x role e
    by_case (inr e) = cc

-- who has adm alone meets a hit of adm
adm_met : MeetsNeed (hits adm) (adm ∷ [])
adm_met = record { hits = ((adm, refl, refl), tt); lacks = λ role h held. cc }

pub adm_served : IsServed one_admin (hits adm) 0
adm_served = (record { set = adm ∷ []; most = Some 1 }, refl, adm_met)

-- and none of c
pub c_not_served : IsServed one_admin (hits c) 0 → ⊥
c_not_served s =
    let common = s.2.hits.0 in
    let held : IsIn (adm ∷ []) common.0 = subst (λ set. IsIn set common.0) (one_profile 0 s.0 s.1).1 common.2 in
    let first = one_role adm common.0 held in
    let second = one_role c common.0 common.1 in
    omega (arith, first, second)

-- a profile that has a user serves one need that its set meets
serves_one : (profiles : List Profile) (place : ℕ) (profile : Profile) (need : Need) → slice_get profiles place ≡ Some profile
    → MeetsNeed need profile.set
    → ((most : ℕ) → profile.most ≡ Some most → 1 ≤ most) → Serves profiles (need ∷ []) (place ∷ [])
serves_one profiles place profile need is met some = record { drawn = record { places = places; few = few }; long = refl; each = each }
  where
    places : (k p : ℕ) → slice_get (place ∷ []) k ≡ Some p → (profile : Profile) × (slice_get profiles p ≡ Some profile)
    places zero p e = let same : place ≡ p = cc in (profile, subst (λ q. slice_get profiles q ≡ Some profile) same is)
    places (suc k) p e = cc

    few : (p : ℕ) (other : Profile) (most : ℕ) → slice_get profiles p ≡ Some other → other.most ≡ Some most → times p (place ∷ []) ≤ most
    few p other most there e = by_test (eqb place p) refl
      where
        by_test : (t : Bool) → eqb place p ≡ t → cond t 1 0 + 0 ≤ most
        by_test true t =
            let at : slice_get profiles p ≡ Some profile = subst (λ q. slice_get profiles q ≡ Some profile) (eqb-true place p t) is in
            let same : profile ≡ other = cc (at, there) in
            let l = some most (ap (λ (q : Profile). q.most) same ∙ e) in
            omega (arith, l)
        by_test false t = omega arith

    each : (i : ℕ) (one : Need) → slice_get (need ∷ []) i ≡ Some one → IsServed profiles one (get_or (place ∷ []) i 0)
    each zero one e = let same : need ≡ one = cc in subst (λ n. IsServed profiles n place) same (profile, is, met)
    each (suc i) one e = cc

pub served_once : Serves one_admin (hits adm ∷ []) (0 ∷ [])
served_once =
    serves_one one_admin 0 (record { set = adm ∷ []; most = Some 1 }) (hits adm) refl adm_met (λ most e. let one = same_some 1 most e in omega (arith, one))

first_serves : Serves many_admins (hits adm ∷ []) (0 ∷ [])
first_serves =
    serves_one many_admins 0 (record { set = adm ∷ []; most = Some 1 }) (hits adm) refl adm_met (λ most e. let one = same_some 1 most e in
    omega (arith, one))

pub not_served_twice : Serves one_admin (hits adm ∷ hits adm ∷ []) (0 ∷ 0 ∷ []) → ⊥
not_served_twice s = let few = s.drawn.few 0 (record { set = adm ∷ []; most = Some 1 }) 1 refl refl in omega (arith, few)

pub first_least : ServesLeast many_admins (hits adm ∷ []) (0 ∷ [])
first_least = record { serves = first_serves; least = least }
  where
    by_place : (place : ℕ) (profile : Profile) → slice_get many_admins place ≡ Some profile → (place ∷ [] ≡ 0 ∷ [])
        ⊎ IsBefore (0 ∷ []) (place ∷ [])
    by_place zero profile e = inl refl
    by_place (suc zero) profile e = inr (record { item = 0; inside = omega arith; same = refl; less = omega arith })
    by_place (suc (suc place)) profile e = cc

    least : (other : List ℕ) → Serves many_admins (hits adm ∷ []) other → (other ≡ 0 ∷ []) ⊎ IsBefore (0 ∷ []) other
    least [] s = let long = s.long in absurd (omega (arith, long))
    least (place ∷ []) s = let one = s.drawn.places 0 place refl in by_place place one.0 one.1
    least (place ∷ next ∷ rest) s = let long = s.long in absurd (omega (arith, long))

pub second_not_least : ServesLeast many_admins (hits adm ∷ []) (1 ∷ []) → ⊥
second_not_least l = by_case (l.least (0 ∷ []) first_serves)
  where
    by_item : (item : ℕ) → item < 1 → get_or (1 ∷ []) item 0 < get_or (0 ∷ []) item 0 → ⊥
    by_item zero inside less = omega (arith, less)
    by_item (suc item) inside less = omega (arith, inside)

    first : List ℕ
    first = 0 ∷ []

    second : List ℕ
    second = 1 ∷ []

    by_case : (first ≡ second) ⊎ IsBefore (1 ∷ []) (0 ∷ []) → ⊥
    by_case (inl e) = cc
    by_case (inr b) = by_item b.item b.inside b.less

-- what holds of a pair's parts holds of those of an equal one
of_pair : (P : ℕ → ℕ → Type 0) (first second : ℕ × ℕ) → Some first ≡ Some second → P first.0 first.1 → P second.0 second.1
of_pair P first second e p = subst (λ (pair : ℕ × ℕ). P pair.0 pair.1) (same_some first second e) p

pub one_pair : AreServing one_admin (hits adm ∷ hits c ∷ []) ((0, 0) ∷ [])
one_pair k place = (λ h. let at = at_contains pairs (k, place) h in paired at.0 at.1, λ h. served k place h.0 h.1 h.2)
  where
    Serving : ℕ → ℕ → Type 0
    Serving k place = (need : Need) × (slice_get (hits adm ∷ hits c ∷ []) k ≡ Some need) × IsServed one_admin need place

    pairs : List (ℕ × ℕ)
    pairs = (0, 0) ∷ []

    paired : (i : ℕ) → slice_get pairs i ≡ Some (k, place) → Serving k place
    paired zero e = of_pair Serving (0, 0) (k, place) e (hits adm, refl, adm_served)
    paired (suc i) e = cc

    served : (k place : ℕ) (need : Need) → slice_get (hits adm ∷ hits c ∷ []) k ≡ Some need → IsServed one_admin need place
        → Contains pairs (k, place)
    served k (suc place) need e s = let none = s.1 in cc
    served zero zero need e s = (0, omega arith, refl)
    served (suc zero) zero need e s = let same : hits c ≡ need = cc in absurd (c_not_served (subst (λ n. IsServed one_admin n 0) (sym same) s))
    served (suc (suc k)) zero need e s = cc

pub not_no_pairs : AreServing one_admin (hits adm ∷ []) [] → ⊥
not_no_pairs are = let none = (are 0 0).1 (hits adm, refl, adm_served) in let l = none.1 in omega (arith, l)

pub two_unserved : AreUnserved one_admin (hits adm ∷ hits adm ∷ []) (0 ∷ 1 ∷ [])
two_unserved = (
  pairs,
  serving,
  record {
    rising = rising;
    below = below;
    places = 0 ∷ [];
    once = λ k l. omega (arith, l);
    neighbours = λ place. (neighbour place, near place);
    limited = λ place h. let same = only_zero place h in (1, subst (λ p. capacity_at (counts one_admin) p ≡ Some 1) same refl);
    fewer = omega arith;
  },
)
  where
    pairs : List (ℕ × ℕ)
    pairs = (0, 0) ∷ (1, 0) ∷ []

    serving : AreServing one_admin (hits adm ∷ hits adm ∷ []) pairs
    serving k place = (λ h. let at = at_contains pairs (k, place) h in paired at.0 at.1, λ h. served k place h.0 h.1 h.2)
      where
        Serving : ℕ → ℕ → Type 0
        Serving k place = (need : Need) × (slice_get (hits adm ∷ hits adm ∷ []) k ≡ Some need) × IsServed one_admin need place

        paired : (i : ℕ) → slice_get pairs i ≡ Some (k, place) → Serving k place
        paired zero e = of_pair Serving (0, 0) (k, place) e (hits adm, refl, adm_served)
        paired (suc zero) e = of_pair Serving (1, 0) (k, place) e (hits adm, refl, adm_served)
        paired (suc (suc i)) e = cc

        served : (k place : ℕ) (need : Need) → slice_get (hits adm ∷ hits adm ∷ []) k ≡ Some need → IsServed one_admin need place
            → Contains pairs (k, place)
        served k (suc place) need e s = let none = s.1 in cc
        served zero zero need e s = (0, omega arith, refl)
        served (suc zero) zero need e s = (1, omega arith, refl)
        served (suc (suc k)) zero need e s = cc

    rising : (k : ℕ) → k + 1 < 2 → get_or (0 ∷ 1 ∷ []) k 0 < get_or (0 ∷ 1 ∷ []) (k + 1) 0
    rising zero l = omega arith
    rising (suc k) l = absurd (omega (arith, l))

    below : (k d : ℕ) → k < 2 → get_or (0 ∷ 1 ∷ []) k d < 2
    below zero d l = omega arith
    below (suc zero) d l = omega arith
    below (suc (suc k)) d l = absurd (omega (arith, l))

    only_zero : (place : ℕ) → Contains (0 ∷ []) place → 0 ≡ place
    only_zero place h = let at = at_contains (0 ∷ []) place h in by_place at.0 at.1
      where
        by_place : (i : ℕ) → slice_get (0 ∷ []) i ≡ Some place → 0 ≡ place
        by_place zero e = same_some 0 place e
        by_place (suc i) e = cc

    neighbour : (place : ℕ) → Contains (0 ∷ []) place → IsNeighbour pairs (0 ∷ 1 ∷ []) place
    neighbour place h = let same = only_zero place h in
        subst (λ p. IsNeighbour pairs (0 ∷ 1 ∷ []) p) same (0, (0, omega arith, refl), (0, omega arith, refl))

    near : (place : ℕ) → IsNeighbour pairs (0 ∷ 1 ∷ []) place → Contains (0 ∷ []) place
    near place h = let at = at_contains pairs (h.0, place) h.2 in by_place at.0 at.1
      where
        by_place : (i : ℕ) → slice_get pairs i ≡ Some (h.0, place) → Contains (0 ∷ []) place
        by_place zero e = of_pair (λ item p. Contains (0 ∷ []) p) (0, 0) (h.0, place) e (0, omega arith, refl)
        by_place (suc zero) e = of_pair (λ item p. Contains (0 ∷ []) p) (1, 0) (h.0, place) e (0, omega arith, refl)
        by_place (suc (suc i)) e = cc

-- one choice serves one of them
pub one_not_unserved : AreUnserved one_admin (hits adm ∷ []) (0 ∷ []) → ⊥
one_not_unserved u =
    let h = (drawn_served one_admin (hits adm ∷ [])).1 (0 ∷ [], served_once) in
    unserved_unmet one_admin (hits adm ∷ []) (0 ∷ []) u h.0 h.1 h.2
