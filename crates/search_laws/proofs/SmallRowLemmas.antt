-- Small policies, searched: rounds, outcomes and plans.
use Rattle.std.proofs.Common.{ℕ, zero, suc, ◌≡◌, ◌≤◌, ◌∙◌, List, [], ◌∷◌, ◌++◌, Some, None, get_or, refl, sym, ap, subst}
use Rattle.std.proofs.Common.{inl, inr, arith, eqb, false, true}
use Rattle.std.specs.Prelude.{◌⊎◌, map, slice_get}
use Rattle.std.proofs.lemmas.Bool.{eqb-true}
use Rattle.list_words.specs.Lists.{Each, IsOneOf}
use Rattle.list_words.proofs.EachLemmas.{each_at}
use Rattle.list_words.proofs.GetLemmas.{same_some}
use Rattle.list_words.proofs.TestLemmas.{or_cases}
use Rattle.role_order.specs.Reach.{seniors_of}
use Rattle.role_order.specs.Roles.{HaveCommon, IsIn}
use Rattle.arbac_policy.specs.declared.act.Act.{Act}
use Rattle.arbac_policy.specs.declared.profile.Profile.{Profile}
use Rattle.arbac_policy.specs.Goals.{times}
use Rattle.arbac_policy.specs.Rules.{Rules}
use Rattle.arbac_policy.specs.Truth.{any, has, both}
use Rattle.arbac_policy.proofs.TermLemmas.{term_any}
use Rattle.hall_match.specs.Matchings.{IsBefore}
use Rattle.arbac_laws.specs.Closed.{IsUnmet}
use Rattle.arbac_laws.specs.Needs.{IsCovered, MeetsNeed, Need}
use Rattle.arbac_laws.specs.NormalForms.{pre_form}
use Rattle.arbac_laws.specs.Obligations.{Obligation, assigns, flat, obligations, pre_image, role_of}
use Rattle.arbac_laws.specs.PreImages.{fresh, itself, other}
use Rattle.arbac_laws.specs.Recorded.{Entry, Origin, of_goal, of_parent}
use Rattle.arbac_laws.specs.Rows.{adm, anyone, c, d, hits, hits_both, hits_either, one_admin, pair_policy}
use Rattle.arbac_laws.specs.Serving.{IsServed, Serves, ServesLeast}
use Rattle.arbac_laws.proofs.FormPlaceLemmas.{are_places}
use Rattle.arbac_laws.proofs.PairLemmas.{nothing_will_do}
use Rattle.arbac_laws.proofs.RowLemmas.{has_adm_alone, nobody_has_c, two_users}
use Rattle.arbac_laws.proofs.SameLemmas.{covers_test}
use Rattle.arbac_laws.proofs.ServeLemmas.{drawn_served}
use Rattle.arbac_laws.proofs.ServingRowLemmas.{served_once}
use Rattle.search_laws.specs.Beats.{AreUnbeaten, IsUnbeaten}
use Rattle.search_laws.specs.Candidates.{as_candidate, goal_candidates, needs_in, next_candidates, parent_candidates}
use Rattle.search_laws.specs.Plans.{Plans}
use Rattle.search_laws.specs.Rounds.{IsMet, IsOutcome, Round, Search, closed, ends, found, goes_on}
use Rattle.search_laws.specs.Rows.{a, any_number, b, before_of, both_entries, both_gift, free_policy, gift_policy, goal_entry, goal_of}
use Rattle.search_laws.specs.Rows.{half_entries, no_user, one_role, one_user, own_gift, search_of, takes, three_needs, three_users, two_roles}
use Rattle.search_laws.proofs.CoverTests.{covered_beaten, first_unbeaten, goes_somewhere, never_covered, unbeaten_by}
use Rattle.search_laws.proofs.RoundLemmas.{one_outcome}
use Rattle.search_laws.proofs.RowLemmas.{single_unbeaten}

-- searches of one goal requirement

-- where 4096 may be recorded, one may
pub some_room : (limit : ℕ) → limit ≡ 4096 → 0 ≡ limit → ⊥
some_room limit is e = omega (arith, is, e)

-- it is recorded where it is new and none meets it
pub goal_kept : (s : Search) (entry : Entry) → goal_candidates s.rules s.goal ≡ entry ∷ [] → ¬ IsCovered (s.barriers ++ []) entry.needs
    → IsUnmet s.profiles entry.needs → ¬ (0 ≡ s.limit) → Round s [] (goal_candidates s.rules s.goal) (goes_on (entry ∷ []))
goal_kept s entry first new unmet room = subst (λ candidates. Round s [] candidates (goes_on (entry ∷ []))) (sym first) (record {
  list = entry ∷ [];
  unbeaten = single_unbeaten (s.barriers ++ []) entry new;
  walked = inr (unmet, inr (room, refl));
})

-- and the search is closed with it where no obligation leads to it
pub goal_closed : (s : Search) (entry : Entry) → goal_candidates s.rules s.goal ≡ entry ∷ [] → ¬ IsCovered (s.barriers ++ []) entry.needs
    → IsUnmet s.profiles entry.needs → ¬ (0 ≡ s.limit) → next_candidates s.rules (entry ∷ []) 0 ≡ []
    → IsOutcome s (closed (entry ∷ []))
goal_closed s entry first new unmet room none = record {
  walk = goes_on (entry ∷ []);
  first = goal_kept s entry first new unmet room;
  rounds = 1;
  rest = inr (omega arith, goes_on (entry ∷ []), round, (refl, refl));
}
  where
    round : Round s (entry ∷ []) (next_candidates s.rules (entry ∷ []) 0) (goes_on (entry ∷ []))
    round = subst (λ candidates. Round s (entry ∷ []) candidates (goes_on (entry ∷ []))) (sym none) (record {
      list = [];
      unbeaten = record { rising = tt; each = tt; all = λ place taken u. let at = u.at in cc };
      walked = refl;
    })

-- it is found at once where it is new and some meet it
pub goal_found : (s : Search) (entry : Entry) → goal_candidates s.rules s.goal ≡ entry ∷ [] → ¬ IsCovered (s.barriers ++ []) entry.needs
    → IsMet s.profiles entry.needs → IsOutcome s (found [] entry)
goal_found s entry first new met = record {
  walk = ends (found [] entry);
  first = subst (λ candidates. Round s [] candidates (ends (found [] entry))) (sym first) (record {
    list = entry ∷ [];
    unbeaten = single_unbeaten (s.barriers ++ []) entry new;
    walked = inl (met, refl);
  });
  rounds = 0;
  rest = refl;
}

-- it is left out where it is covered already
pub goal_covered : (s : Search) (entry : Entry) → goal_candidates s.rules s.goal ≡ entry ∷ [] → IsCovered (s.barriers ++ []) entry.needs
    → IsOutcome s (closed [])
goal_covered s entry first covered = record {
  walk = goes_on [];
  first = subst (λ candidates. Round s [] candidates (goes_on [])) (sym first) (record {
    list = [];
    unbeaten = covered_beaten (s.barriers ++ []) entry covered;
    walked = refl;
  });
  rounds = 0;
  rest = (refl, refl);
}

-- candidates, one by one

-- the pre-images of an entry, from the form before each of its obligations
pub candidates_by : (rules : Rules) (parent : ℕ) (entry : Entry) (forms : List (Obligation × List Need))
    → obligations rules entry.needs ≡ map (λ (form : Obligation × List Need). form.0) forms
    → Each (λ (form : Obligation × List Need). pre_form rules entry.needs form.0 ≡ Some form.1) forms
    → parent_candidates rules parent entry ≡ map (λ (form : Obligation × List Need). before_of parent form.0 form.1) forms
candidates_by rules parent entry forms e each = ap (λ obs. flat given obs) e ∙ formed forms each
  where
    given : Obligation → List Entry
    given ob = as_candidate (of_parent parent ob) (pre_form rules entry.needs ob)

    formed : (forms : List (Obligation × List Need)) → Each (λ (form : Obligation × List Need). pre_form rules entry.needs form.0 ≡ Some form.1) forms
        → flat given (map (λ (form : Obligation × List Need). form.0) forms)
        ≡ map (λ (form : Obligation × List Need). before_of parent form.0 form.1) forms
    formed [] each = refl
    formed (form ∷ forms) each =
        ap (λ o. as_candidate (of_parent parent form.0) o ++ flat given (map (λ (form : Obligation × List Need). form.0) forms)) each.0
        ∙ ap (λ rest. before_of parent form.0 form.1 ∷ rest) (formed forms each.1)

-- where there is none before any of these obligations, there is no candidate
pub no_candidates : (rules : Rules) (parent : ℕ) (needs : List Need) (obs : List Obligation) → Each (λ ob. pre_form rules needs ob ≡ None) obs
    → flat (λ ob. as_candidate (of_parent parent ob) (pre_form rules needs ob)) obs ≡ []
no_candidates rules parent needs [] each = refl
no_candidates rules parent needs (ob ∷ obs) each =
    ap (λ o. as_candidate (of_parent parent ob) o ++ flat (λ ob. as_candidate (of_parent parent ob) (pre_form rules needs ob)) obs) each.0
    ∙ no_candidates rules parent needs obs each.1

-- two lists that are the same two are joined to the same
pub joined : (xs ys zs ws : List Entry) → xs ≡ ys → zs ≡ ws → xs ++ zs ≡ ys ++ ws
joined xs ys zs ws e f = ap (λ list. list ++ zs) e ∙ ap (λ list. ys ++ list) f

-- outcomes told apart

-- a closed search finds nothing
pub closed_or_found : (s : Search) (list recorded : List Entry) (entry : Entry) → IsOutcome s (closed list) → IsOutcome s (found recorded entry)
    → ⊥
closed_or_found s list recorded entry o p = let e = one_outcome s (closed list) (found recorded entry) o p in cc

-- nor is it closed with a list that is empty where the other isn't
pub closed_or_empty : (s : Search) (entry : Entry) (list : List Entry) → IsOutcome s (closed (entry ∷ list)) → IsOutcome s (closed []) → ⊥
closed_or_empty s entry list o p = let e = one_outcome s (closed (entry ∷ list)) (closed []) o p in cc

-- no profiles

pub gift_goal : goal_candidates gift_policy (has c ∷ []) ≡ goal_entry ∷ []
unfolding seniors_of
gift_goal = refl

pub no_profile_closed : IsOutcome (search_of gift_policy [] (has c ∷ []) ((hits_either adm c ∷ []) ∷ [])) (closed [])
unfolding covers_test
no_profile_closed = goal_covered (search_of gift_policy [] (has c ∷ []) ((hits_either adm c ∷ []) ∷ [])) goal_entry gift_goal
    (inl (goes_somewhere (hits_either adm c) (hits c ∷ []) refl))

pub no_profile_not_recorded : IsOutcome (search_of gift_policy [] (has c ∷ []) ((hits_either adm c ∷ []) ∷ [])) (closed (goal_entry ∷ [])) → ⊥
no_profile_not_recorded o =
    closed_or_empty (search_of gift_policy [] (has c ∷ []) ((hits_either adm c ∷ []) ∷ [])) goal_entry [] o no_profile_closed

-- a profile of no user

-- one user is more than may be drawn
pub nobody_drawn : (need : Need) → IsUnmet no_user (need ∷ [])
nobody_drawn need users drawn met = let s = (drawn_served no_user (need ∷ [])).0 (users, drawn, met) in by_choice s.0 s.1
  where
    by_choice : (choice : List ℕ) → Serves no_user (need ∷ []) choice → ⊥
    by_choice [] s = let long = s.long in omega (arith, long)
    by_choice (zero ∷ rest) s = let few = s.drawn.few 0 (record { set = a ∷ []; most = Some 0 }) 0 refl refl in omega (arith, few)
    by_choice (suc place ∷ rest) s = let one = s.drawn.places 0 (suc place) refl in let at = one.1 in cc

pub anyone_goal : goal_candidates one_role (any ∷ []) ≡ goal_of (anyone ∷ []) ∷ []
anyone_goal = refl

-- no rule, no obligation
pub no_rules : (entry : Entry) → next_candidates one_role (entry ∷ []) 0 ≡ []
no_rules entry = refl

pub no_user_closed : IsOutcome (search_of one_role no_user (any ∷ []) ((hits a ∷ []) ∷ [])) (closed (goal_of (anyone ∷ []) ∷ []))
unfolding covers_test
no_user_closed = goal_closed (search_of one_role no_user (any ∷ []) ((hits a ∷ []) ∷ [])) (goal_of (anyone ∷ [])) anyone_goal
    (never_covered ((hits a ∷ []) ∷ []) (anyone ∷ []) refl) (nobody_drawn anyone) (some_room 4096 refl) (no_rules (goal_of (anyone ∷ [])))

pub no_user_not_empty : IsOutcome (search_of one_role no_user (any ∷ []) ((hits a ∷ []) ∷ [])) (closed []) → ⊥
no_user_not_empty = closed_or_empty (search_of one_role no_user (any ∷ []) ((hits a ∷ []) ∷ [])) (goal_of (anyone ∷ [])) [] no_user_closed

-- a profile of any number of users

-- who has a alone meets a hit of a
pub a_met : MeetsNeed (hits a) (a ∷ [])
a_met = record { hits = ((a, refl, refl), tt); lacks = λ role h held. cc }

-- what has no number has no greatest one
pub none_some : (most : ℕ) → None ≡ Some most → ⊥
none_some most e = cc

pub any_number_serves : Serves any_number (hits a ∷ []) (0 ∷ [])
any_number_serves = record {
  drawn = record {
    places = λ k place at. each_at (λ p. (profile : Profile) × (slice_get any_number p ≡ Some profile)) (0 ∷ []) k place ((only, refl), tt) at;
    few = few;
  };
  long = refl;
  each = each;
}
  where
    only : Profile
    only = record { set = a ∷ []; most = None }

    few : (place : ℕ) (profile : Profile) (most : ℕ) → slice_get any_number place ≡ Some profile → profile.most ≡ Some most
        → times place (0 ∷ []) ≤ most
    few zero profile most at e =
        let at' : Some only ≡ Some profile = at in absurd (none_some most (ap (λ (p : Profile). p.most) (same_some only profile at') ∙ e))
    few (suc place) profile most at e = cc

    each : (i : ℕ) (need : Need) → slice_get (hits a ∷ []) i ≡ Some need → IsServed any_number need (get_or (0 ∷ []) i 0)
    each zero need at =
        let at' : Some (hits a) ≡ Some need = at in
        subst (λ n. IsServed any_number n 0) (same_some (hits a) need at') (only, refl, a_met)
    each (suc i) need at = cc

pub a_goal : goal_candidates one_role (has a ∷ []) ≡ goal_of (hits a ∷ []) ∷ []
unfolding seniors_of
a_goal = refl

pub any_number_found : IsOutcome (search_of one_role any_number (has a ∷ []) []) (found [] (goal_of (hits a ∷ [])))
any_number_found = goal_found (search_of one_role any_number (has a ∷ []) []) (goal_of (hits a ∷ [])) a_goal (λ h. h)
    ((drawn_served any_number (hits a ∷ [])).1 (0 ∷ [], any_number_serves))

-- a goal requirement has no act before it
pub goal_no_act : (needs : List Need) (to : ℕ → ℕ) (act : Act) (acts : List Act) → Plans one_role [] (goal_of needs) to (act ∷ acts) → ⊥
goal_no_act needs to act acts plan = let e = plan.3.origin in cc

pub any_number_not_closed : IsOutcome (search_of one_role any_number (has a ∷ []) []) (closed (goal_of (hits a ∷ []) ∷ [])) → ⊥
any_number_not_closed o =
    closed_or_found (search_of one_role any_number (has a ∷ []) []) (goal_of (hits a ∷ []) ∷ []) [] (goal_of (hits a ∷ [])) o any_number_found

-- one act

-- the gift by a new user
abbrev pub fresh_gift : Entry
fresh_gift = before_of 0 (assigns 0 0 c 0 fresh) (anyone ∷ hits adm ∷ [])

pub gift_obligations : obligations gift_policy (hits c ∷ []) ≡ assigns 0 0 c 0 itself ∷ assigns 0 0 c 0 fresh ∷ []
unfolding seniors_of
gift_obligations = rw term_any refl

pub gift_candidates : next_candidates gift_policy (goal_entry ∷ []) 0 ≡ own_gift ∷ fresh_gift ∷ []
unfolding seniors_of
gift_candidates = ap (λ list. list ++ []) (candidates_by gift_policy 0 goal_entry
    ((assigns 0 0 c 0 itself, hits adm ∷ []) ∷ (assigns 0 0 c 0 fresh, anyone ∷ hits adm ∷ []) ∷ [])
    gift_obligations (rw term_any refl, (rw term_any refl, tt)))

-- one's own gift covers it
pub own_gift_stays : AreUnbeaten (needs_in (goal_entry ∷ [])) (own_gift ∷ fresh_gift ∷ []) (own_gift ∷ [])
unfolding covers_test
own_gift_stays = first_unbeaten (needs_in (goal_entry ∷ [])) own_gift (fresh_gift ∷ []) (never_covered (needs_in (goal_entry ∷ [])) (hits adm ∷ []) refl)
    (goes_somewhere (hits adm) (anyone ∷ hits adm ∷ []) refl, tt) (inr refl, tt)

-- one user with adm
pub adm_drawn : IsMet one_admin (hits adm ∷ [])
adm_drawn = (drawn_served one_admin (hits adm ∷ [])).1 (0 ∷ [], served_once)

pub own_gift_found : IsOutcome (search_of gift_policy one_admin (has c ∷ []) []) (found (goal_entry ∷ []) own_gift)
own_gift_found = record {
  walk = goes_on (goal_entry ∷ []);
  first = goal_kept s goal_entry gift_goal (λ h. h) (nobody_has_c one_admin (refl, tt) []) (some_room 4096 refl);
  rounds = 1;
  rest = inr (omega arith, ends (found (goal_entry ∷ []) own_gift), round, refl);
}
  where
    s : Search
    s = search_of gift_policy one_admin (has c ∷ []) []

    round : Round s (goal_entry ∷ []) (next_candidates gift_policy (goal_entry ∷ []) 0) (ends (found (goal_entry ∷ []) own_gift))
    round = subst (λ candidates. Round s (goal_entry ∷ []) candidates (ends (found (goal_entry ∷ []) own_gift))) (sym gift_candidates)
        (record { list = own_gift ∷ []; unbeaten = own_gift_stays; walked = inl (adm_drawn, refl) })

pub own_gift_before : pre_image gift_policy (hits c ∷ []) (assigns 0 0 c 0 itself) ≡ Some (hits adm ∷ [])
unfolding seniors_of
own_gift_before = rw term_any refl

pub own_gift_plan : Plans gift_policy (goal_entry ∷ []) own_gift (λ user. user) (takes c ∷ [])
own_gift_plan = (
  goal_entry,
  assigns 0 0 c 0 itself,
  0 ∷ [],
  record {
    number = 0;
    origin = refl;
    parent_is = refl;
    raw = hits adm ∷ [];
    raw_is = own_gift_before;
    stand = are_places (hits adm ∷ []);
  },
  refl,
  (0, refl),
)

pub own_gift_no_shorter : Plans gift_policy (goal_entry ∷ []) own_gift (λ user. user) [] → ⊥
own_gift_no_shorter plan = let e = plan.1 in cc

pub own_gift_not_closed : IsOutcome (search_of gift_policy one_admin (has c ∷ []) []) (closed (goal_entry ∷ [])) → ⊥
own_gift_not_closed o =
    closed_or_found (search_of gift_policy one_admin (has c ∷ []) []) (goal_entry ∷ []) (goal_entry ∷ []) own_gift o own_gift_found

-- two goals and one user

pub two_goals : goal_candidates one_role (has a ∷ has a ∷ []) ≡ goal_of (hits a ∷ hits a ∷ []) ∷ []
unfolding seniors_of
two_goals = refl

pub two_goals_closed : IsOutcome (search_of one_role one_user (has a ∷ has a ∷ []) []) (closed (goal_of (hits a ∷ hits a ∷ []) ∷ []))
two_goals_closed = goal_closed (search_of one_role one_user (has a ∷ has a ∷ []) []) (goal_of (hits a ∷ hits a ∷ [])) two_goals (λ h. h)
    (two_users (hits a) (hits a)) (some_room 4096 refl) (no_rules (goal_of (hits a ∷ hits a ∷ [])))

pub two_goals_not_empty : IsOutcome (search_of one_role one_user (has a ∷ has a ∷ []) []) (closed []) → ⊥
two_goals_not_empty =
    closed_or_empty (search_of one_role one_user (has a ∷ has a ∷ []) []) (goal_of (hits a ∷ hits a ∷ [])) [] two_goals_closed

pub two_goals_not_found : IsOutcome (search_of one_role one_user (has a ∷ has a ∷ []) []) (found [] (goal_of (hits a ∷ hits a ∷ []))) → ⊥
two_goals_not_found = closed_or_found (search_of one_role one_user (has a ∷ has a ∷ []) []) (goal_of (hits a ∷ hits a ∷ []) ∷ []) []
    (goal_of (hits a ∷ hits a ∷ [])) two_goals_closed

-- three goals and three users

pub three_goals : goal_candidates two_roles (has a ∷ has a ∷ has b ∷ []) ≡ goal_of three_needs ∷ []
unfolding seniors_of
three_goals = refl

pub three_goals_turned : goal_candidates two_roles (has b ∷ has a ∷ has a ∷ []) ≡ goal_of three_needs ∷ []
unfolding seniors_of
three_goals_turned = refl

-- the profile of both roles
abbrev pub with_both : Profile
with_both = record { set = a ∷ b ∷ []; most = Some 1 }

-- and that of a alone
abbrev pub with_a : Profile
with_a = record { set = a ∷ []; most = Some 2 }

pub least_serves : Serves three_users three_needs (1 ∷ 1 ∷ 0 ∷ [])
least_serves = record {
  drawn = record {
    places = λ k place at. each_at (λ p. (profile : Profile) × (slice_get three_users p ≡ Some profile)) (1 ∷ 1 ∷ 0 ∷ []) k place
        ((with_a, refl), ((with_a, refl), ((with_both, refl), tt))) at;
    few = few;
  };
  long = refl;
  each = each;
}
  where
    few : (place : ℕ) (profile : Profile) (most : ℕ) → slice_get three_users place ≡ Some profile → profile.most ≡ Some most
        → times place (1 ∷ 1 ∷ 0 ∷ []) ≤ most
    few zero profile most at e =
        let at' : Some with_both ≡ Some profile = at in
        let same : Some 1 ≡ Some most = ap (λ (p : Profile). p.most) (same_some with_both profile at') ∙ e in
        let one : ℕ = 1 in let count : one ≡ most = same_some one most same in omega (arith, count)
    few (suc zero) profile most at e =
        let at' : Some with_a ≡ Some profile = at in
        let same : Some 2 ≡ Some most = ap (λ (p : Profile). p.most) (same_some with_a profile at') ∙ e in
        let two : ℕ = 2 in let count : two ≡ most = same_some two most same in omega (arith, count)
    few (suc (suc place)) profile most at e = cc

    each : (i : ℕ) (need : Need) → slice_get three_needs i ≡ Some need → IsServed three_users need (get_or (1 ∷ 1 ∷ 0 ∷ []) i 0)
    each zero need at =
        let at' : Some (hits a) ≡ Some need = at in
        subst (λ n. IsServed three_users n 1) (same_some (hits a) need at') (with_a, refl, a_met)
    each (suc zero) need at =
        let at' : Some (hits a) ≡ Some need = at in
        subst (λ n. IsServed three_users n 1) (same_some (hits a) need at') (with_a, refl, a_met)
    each (suc (suc zero)) need at =
        let at' : Some (hits b) ≡ Some need = at in
        subst (λ n. IsServed three_users n 0) (same_some (hits b) need at')
        (with_both, refl, record { hits = ((b, refl, refl), tt); lacks = λ role h held. cc })
    each (suc (suc (suc i))) need at = cc

-- the role in a set of one role is that role
pub alone : (x role : ℕ) → IsIn (x ∷ []) role → x ≡ role
alone x role h = by_case (or_cases (eqb x role) false h)
  where
    by_case : (eqb x role ≡ true) ⊎ (false ≡ true) → x ≡ role
    by_case (inl e) = eqb-true x role e
    by_case (inr e) = cc

-- two sets of one role each that have one in common have the same role
pub common_role : (x y : ℕ) → HaveCommon (x ∷ []) (y ∷ []) → x ≡ y
common_role x y h = alone x h.0 h.1 ∙ sym (alone y h.0 h.2)

-- a user without b doesn't meet a hit of it
pub b_not_served : IsServed three_users (hits b) 1 → ⊥
b_not_served s =
    let at : Some with_a ≡ Some s.0 = s.1 in
    let met : MeetsNeed (hits b) (a ∷ []) = subst (λ (p : Profile). MeetsNeed (hits b) p.set) (sym (same_some with_a s.0 at)) s.2 in
    let e = common_role b a met.hits.0 in omega (arith, e)

-- a profile beyond the second there isn't
pub no_third : (place : ℕ) (profile : Profile) → slice_get three_users (suc (suc place)) ≡ Some profile → ⊥
no_third place profile at = cc

pub least_choice : ServesLeast three_users three_needs (1 ∷ 1 ∷ 0 ∷ [])
least_choice = record { serves = least_serves; least = least }
  where
    IsLater : List ℕ → Type 0
    IsLater rival = (rival ≡ 1 ∷ 1 ∷ 0 ∷ []) ⊎ IsBefore (1 ∷ 1 ∷ 0 ∷ []) rival

    by_places : (x y z : ℕ) → Serves three_users three_needs (x ∷ y ∷ z ∷ []) → IsLater (x ∷ y ∷ z ∷ [])
    by_places x y (suc zero) s = absurd (b_not_served (s.each 2 (hits b) refl))
    by_places x y (suc (suc z)) s = let one = s.drawn.places 2 (suc (suc z)) refl in absurd (no_third z one.0 one.1)
    by_places zero y zero s = let few = s.drawn.few 0 with_both 1 refl refl in absurd (omega (arith, few))
    by_places (suc zero) zero zero s = let few = s.drawn.few 0 with_both 1 refl refl in absurd (omega (arith, few))
    by_places (suc zero) (suc zero) zero s = inl refl
    by_places (suc zero) (suc (suc y)) zero s = let one = s.drawn.places 1 (suc (suc y)) refl in absurd (no_third y one.0 one.1)
    by_places (suc (suc x)) y zero s = let one = s.drawn.places 0 (suc (suc x)) refl in absurd (no_third x one.0 one.1)

    least : (rival : List ℕ) → Serves three_users three_needs rival → IsLater rival
    least [] s = let long = s.long in absurd (omega (arith, long))
    least (x ∷ []) s = let long = s.long in absurd (omega (arith, long))
    least (x ∷ y ∷ []) s = let long = s.long in absurd (omega (arith, long))
    least (x ∷ y ∷ z ∷ []) s = by_places x y z s
    least (x ∷ y ∷ z ∷ w ∷ rest) s = let long = s.long in absurd (omega (arith, long))

pub choice_unserved : Serves three_users three_needs (0 ∷ 1 ∷ 1 ∷ []) → ⊥
choice_unserved s = b_not_served (s.each 2 (hits b) refl)

pub choice_too_many : Serves three_users three_needs (0 ∷ 1 ∷ 0 ∷ []) → ⊥
choice_too_many s = let few = s.drawn.few 0 with_both 1 refl refl in omega (arith, few)

-- three users who are drawn so
pub three_drawn : IsMet three_users three_needs
three_drawn = (drawn_served three_users three_needs).1 (1 ∷ 1 ∷ 0 ∷ [], least_serves)

pub three_found : IsOutcome (search_of two_roles three_users (has a ∷ has a ∷ has b ∷ []) []) (found [] (goal_of three_needs))
three_found = goal_found (search_of two_roles three_users (has a ∷ has a ∷ has b ∷ []) []) (goal_of three_needs) three_goals (λ h. h) three_drawn

pub three_found_turned : IsOutcome (search_of two_roles three_users (has b ∷ has a ∷ has a ∷ []) []) (found [] (goal_of three_needs))
three_found_turned =
    goal_found (search_of two_roles three_users (has b ∷ has a ∷ has a ∷ []) []) (goal_of three_needs) three_goals_turned (λ h. h) three_drawn

pub three_not_closed : IsOutcome (search_of two_roles three_users (has a ∷ has a ∷ has b ∷ []) []) (closed (goal_of three_needs ∷ [])) → ⊥
three_not_closed o =
    closed_or_found (search_of two_roles three_users (has a ∷ has a ∷ has b ∷ []) []) (goal_of three_needs ∷ []) [] (goal_of three_needs) o three_found

-- roles that exclude each other

pub both_goal : goal_candidates pair_policy (both (has c) (has d) ∷ []) ≡ goal_of (hits_both c d ∷ []) ∷ []
unfolding seniors_of
both_goal = refl

pub none_before_both : next_candidates pair_policy (goal_of (hits_both c d ∷ []) ∷ []) 0 ≡ []
none_before_both = ap (λ list. list ++ [])
    (no_candidates pair_policy 0 (hits_both c d ∷ []) (obligations pair_policy (hits_both c d ∷ [])) nothing_will_do)

pub excluded_closed : IsOutcome (search_of pair_policy one_admin (both (has c) (has d) ∷ []) []) (closed (goal_of (hits_both c d ∷ []) ∷ []))
excluded_closed = goal_closed (search_of pair_policy one_admin (both (has c) (has d) ∷ []) []) (goal_of (hits_both c d ∷ [])) both_goal (λ h. h)
    (nobody_has_c one_admin (refl, tt) ((d ∷ []) ∷ [])) (some_room 4096 refl) none_before_both

pub excluded_not_found : IsOutcome (search_of pair_policy one_admin (both (has c) (has d) ∷ []) []) (found both_entries both_gift) → ⊥
excluded_not_found = closed_or_found (search_of pair_policy one_admin (both (has c) (has d) ∷ []) []) (goal_of (hits_both c d ∷ []) ∷ [])
    both_entries both_gift excluded_closed

-- roles that don't

pub free_goal : goal_candidates free_policy (both (has c) (has d) ∷ []) ≡ goal_of (hits_both c d ∷ []) ∷ []
unfolding seniors_of
free_goal = refl

-- before the last of them is given
abbrev pub half_candidates : List Entry
half_candidates =
    before_of 0 (assigns 0 0 c 0 itself) (hits_both adm d ∷ [])
    ∷ before_of 0 (assigns 0 0 c 0 fresh) (hits adm ∷ hits d ∷ [])
    ∷ before_of 0 (assigns 1 0 d 0 itself) (hits_both adm c ∷ [])
    ∷ before_of 0 (assigns 1 0 d 0 fresh) (hits adm ∷ hits c ∷ [])
    ∷ []

pub half_obligations : obligations free_policy
    (hits_both c d ∷ []) ≡ assigns 0 0 c 0 itself ∷ assigns 0 0 c 0 fresh ∷ assigns 1 0 d 0 itself ∷ assigns 1 0 d 0 fresh ∷ []
unfolding seniors_of
half_obligations = rw term_any refl

pub half_are : next_candidates free_policy (goal_of (hits_both c d ∷ []) ∷ []) 0 ≡ half_candidates
unfolding seniors_of
half_are = ap (λ list. list ++ []) (candidates_by free_policy 0 (goal_of (hits_both c d ∷ []))
    (
    (assigns 0 0 c 0 itself, hits_both adm d ∷ [])
    ∷ (assigns 0 0 c 0 fresh, hits adm ∷ hits d ∷ [])
    ∷ (assigns 1 0 d 0 itself, hits_both adm c ∷ [])
    ∷ (assigns 1 0 d 0 fresh, hits adm ∷ hits c ∷ [])
    ∷ []
    )
    half_obligations (rw term_any refl, (rw term_any refl, (rw term_any refl, (rw term_any refl, tt)))))

-- none of them covers another
pub half_stay : AreUnbeaten ((hits_both c d ∷ []) ∷ []) half_candidates half_entries
unfolding covers_test
half_stay = record {
  rising = ((refl, (refl, (refl, tt))), ((refl, (refl, tt)), ((refl, tt), (tt, tt))));
  each = (
    (2, unbeaten_by known half_candidates 2 (before_of 0 (assigns 1 0 d 0 itself) (hits_both adm c ∷ [])) refl refl refl),
    (
      (0, unbeaten_by known half_candidates 0 (before_of 0 (assigns 0 0 c 0 itself) (hits_both adm d ∷ [])) refl refl refl),
      (
        (3, unbeaten_by known half_candidates 3 (before_of 0 (assigns 1 0 d 0 fresh) (hits adm ∷ hits c ∷ [])) refl refl refl),
        ((1, unbeaten_by known half_candidates 1 (before_of 0 (assigns 0 0 c 0 fresh) (hits adm ∷ hits d ∷ [])) refl refl refl), tt),
      ),
    ),
  );
  all = all;
}
  where
    known : List (List Need)
    known = (hits_both c d ∷ []) ∷ []

    all : (place : ℕ) (entry : Entry) → IsUnbeaten known half_candidates place entry → IsOneOf half_entries entry
    all zero entry u = (1, u.at)
    all (suc zero) entry u = (3, u.at)
    all (suc (suc zero)) entry u = (0, u.at)
    all (suc (suc (suc zero))) entry u = (2, u.at)
    all (suc (suc (suc (suc place)))) entry u = let at = u.at in cc

-- who has adm alone doesn't meet what wants another role
pub adm_not_met : (needs : List Need) (k : ℕ) (need : Need) → slice_get needs k ≡ Some need → ¬ MeetsNeed need (adm ∷ []) → IsUnmet one_admin needs
adm_not_met needs k need at apart users drawn f =
    let one = f.each k need at in apart (subst (MeetsNeed need) (has_adm_alone one_admin (refl, tt) users drawn (f.to k) one.0 one.1) one.2)

-- nor a hit of it beside one of adm
pub both_not_met : (role : ℕ) → ¬ (role ≡ adm) → MeetsNeed (hits_both adm role) (adm ∷ []) → ⊥
both_not_met role n met = n (common_role role adm met.hits.1.0)

pub half_round : Round (search_of free_policy one_admin (both (has c) (has d) ∷ []) []) (goal_of (hits_both c d ∷ []) ∷ [])
    (next_candidates free_policy (goal_of (hits_both c d ∷ []) ∷ []) 0) (goes_on both_entries)
half_round =
    subst (λ candidates. Round (search_of free_policy one_admin (both (has c) (has d) ∷ []) []) (goal_of (hits_both c d ∷ []) ∷ []) candidates
    (goes_on both_entries)) (sym half_are) (record {
      list = half_entries;
      unbeaten = half_stay;
      walked = inr (
        adm_not_met (hits_both adm c ∷ []) 0 (hits_both adm c) refl (both_not_met c (λ e. omega (arith, e))),
        inr (
          (λ e. omega (arith, e)),
          inr (
            adm_not_met (hits_both adm d ∷ []) 0 (hits_both adm d) refl (both_not_met d (λ e. omega (arith, e))),
            inr (
              (λ e. omega (arith, e)),
              inr (
                two_users (hits adm) (hits c),
                inr (
                  (λ e. omega (arith, e)),
                  inr (two_users (hits adm) (hits d), inr ((λ e. omega (arith, e)), refl)),
                ),
              ),
            ),
          ),
        ),
      );
    })

-- before the first of them is given
abbrev pub more_candidates : List Entry
more_candidates =
    before_of 1 (assigns 0 0 c 0 fresh) (hits adm ∷ hits adm ∷ [])
    ∷ before_of 2 (assigns 1 0 d 0 itself) (hits adm ∷ [])
    ∷ before_of 2 (assigns 1 0 d 0 fresh) (hits adm ∷ hits adm ∷ [])
    ∷ before_of 3 (assigns 0 0 c 1 itself) (hits adm ∷ hits adm ∷ [])
    ∷ before_of 3 (assigns 0 0 c 1 (other 0)) (anyone ∷ hits adm ∷ [])
    ∷ before_of 3 (assigns 0 0 c 1 fresh) (anyone ∷ hits adm ∷ hits adm ∷ [])
    ∷ before_of 4 (assigns 1 0 d 1 itself) (hits adm ∷ hits adm ∷ [])
    ∷ before_of 4 (assigns 1 0 d 1 (other 0)) (anyone ∷ hits adm ∷ [])
    ∷ before_of 4 (assigns 1 0 d 1 fresh) (anyone ∷ hits adm ∷ hits adm ∷ [])
    ∷ []

-- by the user himself, who lacks c alone, or d alone
pub c_obligations : obligations free_policy (hits_both adm c ∷ []) ≡ assigns 0 0 c 0 itself ∷ assigns 0 0 c 0 fresh ∷ []
unfolding seniors_of
c_obligations = rw term_any refl

pub d_obligations : obligations free_policy (hits_both adm d ∷ []) ≡ assigns 1 0 d 0 itself ∷ assigns 1 0 d 0 fresh ∷ []
unfolding seniors_of
d_obligations = rw term_any refl

-- the same where another has adm
pub c_other_obligations : obligations free_policy
    (hits adm ∷ hits c ∷ []) ≡ assigns 0 0 c 1 itself ∷ assigns 0 0 c 1 (other 0) ∷ assigns 0 0 c 1 fresh ∷ []
unfolding seniors_of
c_other_obligations = rw term_any refl

pub d_other_obligations : obligations free_policy
    (hits adm ∷ hits d ∷ []) ≡ assigns 1 0 d 1 itself ∷ assigns 1 0 d 1 (other 0) ∷ assigns 1 0 d 1 fresh ∷ []
unfolding seniors_of
d_other_obligations = rw term_any refl

pub c_candidates : parent_candidates free_policy 1 (before_of 0 (assigns 1 0 d 0 itself) (hits_both adm c ∷ []))
    ≡ both_gift ∷ before_of 1 (assigns 0 0 c 0 fresh) (hits adm ∷ hits adm ∷ []) ∷ []
unfolding seniors_of
c_candidates = candidates_by free_policy 1 (before_of 0 (assigns 1 0 d 0 itself) (hits_both adm c ∷ []))
    ((assigns 0 0 c 0 itself, hits adm ∷ []) ∷ (assigns 0 0 c 0 fresh, hits adm ∷ hits adm ∷ []) ∷ [])
    c_obligations (rw term_any refl, (rw term_any refl, tt))

pub d_candidates : parent_candidates free_policy 2 (before_of 0 (assigns 0 0 c 0 itself) (hits_both adm d ∷ []))
    ≡ before_of 2 (assigns 1 0 d 0 itself) (hits adm ∷ []) ∷ before_of 2 (assigns 1 0 d 0 fresh) (hits adm ∷ hits adm ∷ []) ∷ []
unfolding seniors_of
d_candidates = candidates_by free_policy 2 (before_of 0 (assigns 0 0 c 0 itself) (hits_both adm d ∷ []))
    ((assigns 1 0 d 0 itself, hits adm ∷ []) ∷ (assigns 1 0 d 0 fresh, hits adm ∷ hits adm ∷ []) ∷ [])
    d_obligations (rw term_any refl, (rw term_any refl, tt))

pub c_other_candidates : parent_candidates free_policy 3 (before_of 0 (assigns 1 0 d 0 fresh) (hits adm ∷ hits c ∷ []))
    ≡ before_of 3 (assigns 0 0 c 1 itself) (hits adm ∷ hits adm ∷ [])
    ∷ before_of 3 (assigns 0 0 c 1 (other 0)) (anyone ∷ hits adm ∷ [])
    ∷ before_of 3 (assigns 0 0 c 1 fresh) (anyone ∷ hits adm ∷ hits adm ∷ [])
    ∷ []
unfolding seniors_of
c_other_candidates = candidates_by free_policy 3 (before_of 0 (assigns 1 0 d 0 fresh) (hits adm ∷ hits c ∷ []))
    (
    (assigns 0 0 c 1 itself, hits adm ∷ hits adm ∷ [])
    ∷ (assigns 0 0 c 1 (other 0), anyone ∷ hits adm ∷ [])
    ∷ (assigns 0 0 c 1 fresh, anyone ∷ hits adm ∷ hits adm ∷ [])
    ∷ []
    )
    c_other_obligations (rw term_any refl, (rw term_any refl, (rw term_any refl, tt)))

pub d_other_candidates : parent_candidates free_policy 4 (before_of 0 (assigns 0 0 c 0 fresh) (hits adm ∷ hits d ∷ []))
    ≡ before_of 4 (assigns 1 0 d 1 itself) (hits adm ∷ hits adm ∷ [])
    ∷ before_of 4 (assigns 1 0 d 1 (other 0)) (anyone ∷ hits adm ∷ [])
    ∷ before_of 4 (assigns 1 0 d 1 fresh) (anyone ∷ hits adm ∷ hits adm ∷ [])
    ∷ []
unfolding seniors_of
d_other_candidates = candidates_by free_policy 4 (before_of 0 (assigns 0 0 c 0 fresh) (hits adm ∷ hits d ∷ []))
    (
    (assigns 1 0 d 1 itself, hits adm ∷ hits adm ∷ [])
    ∷ (assigns 1 0 d 1 (other 0), anyone ∷ hits adm ∷ [])
    ∷ (assigns 1 0 d 1 fresh, anyone ∷ hits adm ∷ hits adm ∷ [])
    ∷ []
    )
    d_other_obligations (rw term_any refl, (rw term_any refl, (rw term_any refl, tt)))

pub last_are : next_candidates free_policy both_entries 1 ≡ both_gift ∷ more_candidates
last_are = joined _ _ _ _ c_candidates (joined _ _ _ _ d_candidates (joined _ _ _ _ c_other_candidates (ap (λ list. list ++ []) d_other_candidates)))

-- the first covers all others
pub last_stays : AreUnbeaten (needs_in both_entries) (both_gift ∷ more_candidates) (both_gift ∷ [])
unfolding covers_test
last_stays = first_unbeaten (needs_in both_entries) both_gift more_candidates (never_covered (needs_in both_entries) (hits adm ∷ []) refl) (
  goes_somewhere (hits adm) (hits adm ∷ hits adm ∷ []) refl,
  (
    goes_somewhere (hits adm) (hits adm ∷ []) refl,
    (
      goes_somewhere (hits adm) (hits adm ∷ hits adm ∷ []) refl,
      (
        goes_somewhere (hits adm) (hits adm ∷ hits adm ∷ []) refl,
        (
          goes_somewhere (hits adm) (anyone ∷ hits adm ∷ []) refl,
          (
            goes_somewhere (hits adm) (anyone ∷ hits adm ∷ hits adm ∷ []) refl,
            (
              goes_somewhere (hits adm) (hits adm ∷ hits adm ∷ []) refl,
              (
                goes_somewhere (hits adm) (anyone ∷ hits adm ∷ []) refl,
                (goes_somewhere (hits adm) (anyone ∷ hits adm ∷ hits adm ∷ []) refl, tt),
              ),
            ),
          ),
        ),
      ),
    ),
  ),
)
    (inr refl, (inl refl, (inr refl, (inr refl, (inr refl, (inr refl, (inr refl, (inr refl, (inr refl, tt)))))))))

pub last_round : Round (search_of free_policy one_admin (both (has c) (has d) ∷ []) []) both_entries (next_candidates free_policy both_entries 1)
    (ends (found both_entries both_gift))
last_round =
    subst (λ candidates. Round (search_of free_policy one_admin (both (has c) (has d) ∷ []) []) both_entries candidates
    (ends (found both_entries both_gift))) (sym last_are) (record {
      list = both_gift ∷ [];
      unbeaten = last_stays;
      walked = inl (adm_drawn, refl);
    })

pub two_acts_found : IsOutcome (search_of free_policy one_admin (both (has c) (has d) ∷ []) []) (found both_entries both_gift)
two_acts_found = record {
  walk = goes_on (goal_of (hits_both c d ∷ []) ∷ []);
  first = goal_kept (search_of free_policy one_admin (both (has c) (has d) ∷ []) []) (goal_of (hits_both c d ∷ [])) free_goal (λ h. h)
      (nobody_has_c one_admin (refl, tt) ((d ∷ []) ∷ [])) (some_room 4096 refl);
  rounds = 2;
  rest = inr (omega arith, goes_on both_entries, half_round, inr (omega arith, ends (found both_entries both_gift), last_round, refl));
}

pub two_acts_not_closed : IsOutcome (search_of free_policy one_admin (both (has c) (has d) ∷ []) []) (closed both_entries) → ⊥
two_acts_not_closed o =
    closed_or_found (search_of free_policy one_admin (both (has c) (has d) ∷ []) []) both_entries both_entries both_gift o two_acts_found

pub c_before : pre_image free_policy (hits_both adm c ∷ []) (assigns 0 0 c 0 itself) ≡ Some (hits_both adm adm ∷ [])
unfolding seniors_of
c_before = rw term_any refl

pub d_before : pre_image free_policy (hits_both c d ∷ []) (assigns 1 0 d 0 itself) ≡ Some (hits_both adm c ∷ [])
unfolding seniors_of
d_before = rw term_any refl

pub two_acts_plan : Plans free_policy both_entries both_gift (λ user. user) (takes c ∷ takes d ∷ [])
two_acts_plan = (
  before_of 0 (assigns 1 0 d 0 itself) (hits_both adm c ∷ []),
  assigns 0 0 c 0 itself,
  0 ∷ [],
  record {
    number = 1;
    origin = refl;
    parent_is = refl;
    raw = hits_both adm adm ∷ [];
    raw_is = c_before;
    stand = are_places (hits_both adm adm ∷ []);
  },
  refl,
  (
    goal_of (hits_both c d ∷ []),
    assigns 1 0 d 0 itself,
    0 ∷ [],
    record {
      number = 0;
      origin = refl;
      parent_is = refl;
      raw = hits_both adm c ∷ [];
      raw_is = d_before;
      stand = are_places (hits_both adm c ∷ []);
    },
    refl,
    (0, refl),
  ),
)

-- the role that is given by the act of the origin
abbrev pub role_given : Origin → ℕ
role_given (of_goal number) = 0
role_given (of_parent number ob) = role_of ob

pub two_acts_not_turned : Plans free_policy both_entries both_gift (λ user. user) (takes d ∷ takes c ∷ []) → ⊥
two_acts_not_turned plan =
    let first : c ≡ role_of plan.1 = ap role_given plan.3.origin in
    let second : d ≡ role_of plan.1 = ap (λ (act : Act). act.role) plan.4 in
    omega (arith, first, second)
