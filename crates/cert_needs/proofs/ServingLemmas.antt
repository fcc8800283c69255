-- Profiles that serve users: tests, and the matching.
use Rattle.std.proofs.Common.{ℕ, ◌≡◌, ◌<◌, ◌≤◌, ◌∙◌, Bool, true, false, not, eqb, List, [], ◌∷◌, length, get_or, Option, Some, None}
use Rattle.std.proofs.Common.{zero, suc, refl, arith, sym, subst}
use Rattle.std.specs.Prelude.{◌↔◌, slice_get}
use Rattle.std.specs.List.{list_any, list_all}
use Rattle.std.proofs.lemmas.List.{length-map}
use Rattle.std.proofs.lemmas.Bool.{eq-eqb}
use Rattle.std.proofs.lemmas.Bool.Decides.{nat_tests}
use Rattle.std.proofs.lemmas.Map.Keys.{any_passes_from_place}
use Rattle.list_words.proofs.TestLemmas.{and_both, both_true, not_false, not_true}
use Rattle.list_words.proofs.GetLemmas.{same_some, get_at, get_below, get_map}
use Rattle.list_words.proofs.EachLemmas.{each_of}
use Rattle.role_order.specs.Roles.{have_common, HaveCommon}
use Rattle.arbac_policy.specs.declared.conjunct.Conjunct.{Conjunct}
use Rattle.arbac_policy.specs.declared.profile.Profile.{Profile}
use Rattle.arbac_policy.specs.Goals.{times}
use Rattle.hall_match.specs.Joined.{JoinsAt, OfPairs}
use Rattle.hall_match.specs.Matchings.{IsLeast, IsMatching}
use Rattle.arbac_laws.specs.Needs.{Need, MeetsNeed}
use Rattle.arbac_laws.specs.Closed.{IsUnmet}
use Rattle.arbac_laws.specs.Serving.{Serves, ServesLeast, counts}
use Rattle.arbac_laws.specs.Views.{need_of, needs_of}
use Rattle.arbac_laws.proofs.SameLemmas.{all_each, each_all}
use Rattle.arbac_laws.proofs.GainLemmas.{common_is, is_common}
use Rattle.arbac_laws.proofs.ServeLemmas.{ServedAt, least_serves, none_unmet, unmet_unserved}
use Rattle.cert_needs.specs.Serving.{has_users, meets_need, serves_need, IsMeeting}
use Rattle.cert_needs.proofs.CoverLemmas.{got_map}

-- one user and one profile

-- where the test passes, the set meets the requirement
test_meets : (need : Need) (set : List ℕ) → meets_need need set ≡ true → MeetsNeed need set
test_meets need set t =
    let both = and_both (not (have_common need.lacks set)) (list_all (λ hit. have_common hit set) need.hits) t in record {
      hits = all_each (λ hit. HaveCommon hit set) (λ hit. have_common hit set) (λ hit e. common_is hit set e) need.hits both.1;
      lacks = λ role i j. not_true (have_common need.lacks set) both.0 (is_common need.lacks set (role, i, j));
    }

-- and the other way round
meets_passes : (need : Need) (set : List ℕ) → MeetsNeed need set → meets_need need set ≡ true
meets_passes need set met =
    let apart : have_common need.lacks set ≡ false =
    not_false (have_common need.lacks set) (λ e. let c = common_is need.lacks set e in met.lacks c.0 c.1 c.2) in
    both_true (not (have_common need.lacks set)) (list_all (λ hit. have_common hit set) need.hits) (rw apart refl)
    (each_all (λ hit. HaveCommon hit set) (λ hit. have_common hit set) (λ hit c. is_common hit set c) need.hits met.hits)

-- users whom no profile serves

-- a place that stands in a choice stands there at least once
stands_once : (place : ℕ) (choice : List ℕ) (k : ℕ) → slice_get choice k ≡ Some place → 1 ≤ times place choice
stands_once place [] k e = cc
stands_once place (x ∷ xs) zero e =
    let same : x ≡ place = same_some x place e in let yes : eqb x place ≡ true = eq-eqb x place same in rw yes (omega arith)
stands_once place (x ∷ xs) (suc k) e = let rest = stands_once place xs k e in omega (arith, rest)

-- a count that isn't 0
counted : (most : Option ℕ) → ¬ (most ≡ Some 0) → has_users most ≡ true
counted None differs = refl
counted (Some zero) differs = absurd (differs refl)
counted (Some (suc n)) differs = let apart : eqb (suc n) 0 ≡ false = grind (arith, nat_tests) in rw apart refl

-- a choice that serves all users has a profile for each that may have users and serves it
all_served : (users : List Conjunct) (profiles : List Profile) (choice : List ℕ) → Serves profiles (needs_of users) choice
    → list_all (λ user. list_any (λ profile. serves_need profile (need_of user)) profiles) users ≡ true
all_served users profiles choice s =
    each_all (λ user. has user ≡ true) has (λ user h. h) users (each_of (λ user. has user ≡ true) users one)
  where
    has : Conjunct → Bool
    has user = list_any (λ profile. serves_need profile (need_of user)) profiles

    one : (k : ℕ) (user : Conjunct) → slice_get users k ≡ Some user → has user ≡ true
    one k user is =
        let by = s.each k (need_of user) (get_map need_of users k user is) in
        let place = get_or choice k 0 in
        let long = s.long in
        let many = length-map users need_of in
        let inside = get_below users k user is in
        let less : k < length choice = omega (arith, long, many, inside) in
        let stands = stands_once place choice k (get_at choice k 0 less) in
        let some : has_users by.0.most ≡ true = counted by.0.most (λ e. let few = s.drawn.few place by.0 0 by.1 e in omega (arith, few, stands)) in
        any_passes_from_place (λ profile. serves_need profile (need_of user)) profiles place by.0 by.1
        (both_true (has_users by.0.most) (meets_need (need_of user) by.0.set) some (meets_passes (need_of user) by.0.set by.2))

-- where some user is served by no profile, no drawn users meet the requirement
pub unserved : (users : List Conjunct) (profiles : List Profile) (t : Bool)
    → t ≡ list_all (λ user. list_any (λ profile. serves_need profile (need_of user)) profiles) users → t ≡ false
    → IsUnmet profiles (needs_of users)
unserved users profiles t is fails =
    (unmet_unserved profiles (needs_of users)).1 (λ choice s. let passes : t ≡ true = is ∙ all_served users profiles choice s in cc)

-- the matching

-- users and profiles go together as requirements and profiles do
joined_seen : (users : List Conjunct) (profiles : List Profile) (k u : ℕ)
    → JoinsAt IsMeeting users profiles k u ↔ ServedAt profiles (needs_of users) k u
joined_seen users profiles k u = (
  λ h. (need_of h.0, h.1, get_map need_of users k h.0 h.2, h.3, test_meets (need_of h.0) h.1.set h.4),
  λ h.
      let user = got_map need_of users k h.0 h.2 in
      (user.0, h.1, user.1, h.3, meets_passes (need_of user.0) h.1.set (subst (λ (n : Need). MeetsNeed n h.1.set) (sym user.2) h.4)),
)

-- what holds of a list of the one pairs holds of a list of the others
pub pairs_seen : (users : List Conjunct) (profiles : List Profile) (P : ℕ → List (ℕ × ℕ) → Type 0)
    → OfPairs (JoinsAt IsMeeting users profiles) (length users) (length (counts profiles)) (P (length users))
    → OfPairs (ServedAt profiles (needs_of users)) (length (needs_of users)) (length (counts profiles)) (P (length (needs_of users)))
pairs_seen users profiles P (pairs, joined, holds) =
    subst (λ (n : ℕ). OfPairs (ServedAt profiles (needs_of users)) n (length (counts profiles)) (P n)) (sym (length-map users need_of)) (
      pairs,
      λ k u. (
        λ c. let h = (joined k u).0 c in (h.0, h.1, (joined_seen users profiles k u).0 h.2),
        λ h. (joined k u).1 (h.0, h.1, (joined_seen users profiles k u).1 h.2),
      ),
      holds,
    )

-- the least matching is the least choice
pub matched_serves : (users : List Conjunct) (profiles : List Profile) (list : List ℕ)
    → OfPairs (JoinsAt IsMeeting users profiles) (length users) (length (counts profiles)) (λ pairs. IsLeast (length users) (counts profiles) pairs list)
    → ServesLeast profiles (needs_of users) list
matched_serves users profiles list m =
    least_serves profiles (needs_of users) list (pairs_seen users profiles (λ n pairs. IsLeast n (counts profiles) pairs list) m)

-- where there is no matching, no drawn users meet the requirement
pub unmatched_unmet : (users : List Conjunct) (profiles : List Profile)
    → OfPairs (JoinsAt IsMeeting users profiles) (length users) (length (counts profiles))
    (λ pairs. (list : List ℕ) → ¬ IsMatching (length users) (counts profiles) pairs list)
    → IsUnmet profiles (needs_of users)
unmatched_unmet users profiles none =
    none_unmet profiles (needs_of users) (pairs_seen users profiles (λ n pairs. (list : List ℕ) → ¬ IsMatching n (counts profiles) pairs list) none)
