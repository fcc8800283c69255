-- In the small policy two users of adm reach the goal.
use Rattle.std.proofs.Common.{ℕ, ◌≡◌, ◌≤◌, ◌<◌, ◌∙◌, subst, List, [], ◌∷◌, Some, arith, zero, suc, cond, ap, sym, refl, inl, inr}
use Rattle.std.specs.Prelude.{slice_get}
use Rattle.role_order.specs.Graph.{here}
use Rattle.role_order.specs.Ranges.{IsInRange}
use Rattle.arbac_policy.specs.declared.act.ActKind.TheVariants.{Assign, Weak}
use Rattle.arbac_policy.specs.declared.profile.Profile.{Profile}
use Rattle.arbac_policy.specs.Goals.{GoalMet, IsDrawn, IsReachable, times}
use Rattle.arbac_policy.specs.Steps.{AssignStep, WeakStep}
use Rattle.arbac_policy.specs.Truth.{Satisfies, Term, has, user}
use Rattle.list_words.proofs.GetLemmas.{same_some}
use Rattle.arbac_laws.specs.Rows.{mix, only, two_admins, adm, c}
use Rattle.arbac_laws.proofs.RowLemmas.{lacks_adm}

-- two users of adm, then one of them without it, and then with c in its place
abbrev two_users : List (List ℕ)
two_users = (adm ∷ []) ∷ (adm ∷ []) ∷ []

abbrev one_bare : List (List ℕ)
one_bare = [] ∷ (adm ∷ []) ∷ []

abbrev one_given : List (List ℕ)
one_given = (c ∷ []) ∷ (adm ∷ []) ∷ []

two_drawn : IsDrawn two_admins two_users
two_drawn = record { choice = 0 ∷ 0 ∷ []; drawn = record { places = places; few = few }; are_users = ((of_adm, refl, refl), ((of_adm, refl, refl), tt)) }
  where
    of_adm : Profile
    of_adm = record { set = adm ∷ []; most = Some 2 }

    places : (k place : ℕ) → slice_get (0 ∷ 0 ∷ []) k ≡ Some place → (profile : Profile) × (slice_get two_admins place ≡ Some profile)
    places zero place e = let same : 0 ≡ place = cc in (of_adm, ap (slice_get two_admins) (sym same))
    places (suc zero) place e = let same : 0 ≡ place = cc in (of_adm, ap (slice_get two_admins) (sym same))
    places (suc (suc k)) place e = cc

    few : (place : ℕ) (profile : Profile) (most : ℕ) → slice_get two_admins place ≡ Some profile → profile.most ≡ Some most
        → times place (0 ∷ 0 ∷ []) ≤ most
    few zero profile most is e =
        let is' : Some of_adm ≡ Some profile = is in
        let two : Some 2 ≡ Some most = ap (λ (p : Profile). p.most) (same_some of_adm profile is') ∙ e in
        omega (arith, same_some 2 most two)
    few (suc place) profile most is e = cc

in_only : (role : ℕ) → role < 2 → IsInRange mix.order (only role) role
in_only role l = record { is_role = l; above_low = here; below_high = here; low = λ e. cc; high = λ e. cc }

-- the second user takes adm from the first
adm_taken : WeakStep user mix two_users two_users 1 0 adm one_bare
adm_taken = record {
  by = adm ∷ [];
  by_is = refl;
  set = adm ∷ [];
  set_is = refl;
  lets = inl (record { in_range = in_only adm (omega arith); by_admin = (adm, refl, here) });
  gives = refl;
}

-- and gives it c
c_given : AssignStep user mix one_bare one_bare 1 0 c one_given
c_given = record {
  by = adm ∷ [];
  by_is = refl;
  set = [];
  set_is = refl;
  lets = inl (record { in_range = in_only c (omega arith); by_admin = (adm, refl, here); meets = rw lacks_adm (λ m. cc m.1) });
  free = inr (λ none. none);
  gives = refl;
}

goal_met : GoalMet mix.order.edges (has c ∷ []) one_given
goal_met = record {
  to = λ i. i;
  apart = λ i j l m e. e;
  each = each;
}
  where
    each : (i : ℕ) (cond : Term) → slice_get (has c ∷ []) i ≡ Some cond
        → (set : List ℕ) × (slice_get one_given i ≡ Some set) × Satisfies user mix.order.edges set cond
    each zero cond e =
        let e' : Some (has c) ≡ Some cond = e in
        (c ∷ [], refl, subst (Satisfies user mix.order.edges (c ∷ [])) (same_some (has c) cond e') (c, refl, here))
    each (suc i) cond e = cc

pub mix_reached : IsReachable mix two_admins (has c ∷ [])
mix_reached = record {
  start = two_users;
  drawn = two_drawn;
  acts = record { kind = Weak; admin = 1; target = 0; role = adm } ∷ record { kind = Assign; admin = 1; target = 0; role = c } ∷ [];
  end = one_given;
  run = (one_bare, adm_taken, (one_given, c_given, refl));
  met = goal_met;
}
