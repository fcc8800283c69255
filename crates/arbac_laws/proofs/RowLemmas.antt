-- The small policy, computed, and a closed list for it.
use Rattle.std.proofs.Common.{ℕ, ◌≡◌, ◌≤◌, List, [], ◌∷◌, length, Some, None, Option, arith, zero, suc, sym, ◌∙◌, ap, eqb, true}
use Rattle.std.proofs.Common.{subst, refl, inl, inr}
use Rattle.std.specs.Prelude.{slice_get}
use Rattle.std.proofs.lemmas.Bool.{eq-eqb}
use Rattle.list_words.specs.Lists.{Each}
use Rattle.role_order.specs.Reach.{seniors_of}
use Rattle.role_order.specs.Roles.{IsIn}
use Rattle.arbac_policy.specs.Rules.{Rules}
use Rattle.arbac_policy.specs.Goals.{AreUsers, IsDrawn, times}
use Rattle.arbac_policy.specs.Truth.{term_of, has, lacks}
use Rattle.arbac_policy.specs.declared.cond.Cond.TheVariants.{Lacks}
use Rattle.arbac_policy.proofs.TermLemmas.{term_lacks}
use Rattle.arbac_policy.specs.declared.profile.Profile.{Profile}
use Rattle.arbac_laws.specs.Closed.{IsClosedList, IsUnmet}
use Rattle.arbac_laws.specs.Goals.{goal_requirements}
use Rattle.arbac_laws.specs.Needs.{CoversNeed, IsCovered, IsPossible, Meets, MeetsNeed, Need}
use Rattle.arbac_laws.specs.NormalForms.{normal_form, pre_form}
use Rattle.arbac_laws.specs.Obligations.{Obligation, and_then, obligations, pre_image, assigns, revokes}
use Rattle.arbac_laws.specs.PreImages.{itself, other, fresh}
use Rattle.arbac_laws.specs.Rows.{mix, adm, c, hits, without, anyone, one_admin, mix_needs}
use Rattle.arbac_laws.proofs.BarrierLemmas.{drawn_profile}
use Rattle.list_words.proofs.CountLemmas.{embeds_long}
use Rattle.arbac_laws.proofs.CoverLemmas.{covers_itself}
use Rattle.list_words.proofs.EachLemmas.{each_at}
use Rattle.list_words.proofs.EmbedLemmas.{embeds_front, embeds_itself, embeds_none}
use Rattle.list_words.proofs.GetLemmas.{same_some}
use Rattle.arbac_laws.proofs.NormalLemmas.{covered_alike, none_impossible}
use Rattle.std.proofs.Common.{false, true}
use Rattle.std.proofs.lemmas.Bool.{eqb-true}
use Rattle.list_words.proofs.TestLemmas.{or_cases}
use Rattle.std.specs.Prelude.{◌⊎◌}

pub lacks_adm : term_of (Lacks adm) ≡ lacks adm
lacks_adm = term_lacks adm

-- each step of the search, computed

pub goal_is : goal_requirements mix.order (has c ∷ []) ≡ (hits c ∷ []) ∷ []
unfolding seniors_of
goal_is = refl

pub first_obligations : obligations mix (hits c ∷ []) ≡ assigns 0 0 c 0 itself ∷ assigns 0 0 c 0 fresh ∷ []
unfolding seniors_of
first_obligations = rw lacks_adm refl

pub first_itself : pre_form mix (hits c ∷ []) (assigns 0 0 c 0 itself) ≡ None
unfolding seniors_of
first_itself = rw lacks_adm refl

pub first_fresh : pre_form mix (hits c ∷ []) (assigns 0 0 c 0 fresh) ≡ Some (without adm ∷ hits adm ∷ [])
unfolding seniors_of
first_fresh = rw lacks_adm refl

pub first_before : pre_image mix (hits c ∷ []) (assigns 0 0 c 0 fresh) ≡ Some (without adm ∷ hits adm ∷ [])
unfolding seniors_of
first_before = rw lacks_adm refl

pub second_obligations : obligations mix (without adm ∷ hits adm ∷ []) ≡ revokes 0 adm 0 itself ∷ revokes 0 adm 0
    (other 1) ∷ revokes 0 adm 0 fresh ∷ []
unfolding seniors_of
second_obligations = rw lacks_adm refl

pub second_itself : pre_form mix (without adm ∷ hits adm ∷ []) (revokes 0 adm 0 itself) ≡ Some (hits adm ∷ hits adm ∷ [])
unfolding seniors_of
second_itself = refl

pub second_other : pre_form mix (without adm ∷ hits adm ∷ []) (revokes 0 adm 0 (other 1)) ≡ Some (anyone ∷ hits adm ∷ [])
unfolding seniors_of
second_other = refl

pub second_fresh : pre_form mix (without adm ∷ hits adm ∷ []) (revokes 0 adm 0 fresh) ≡ Some (anyone ∷ hits adm ∷ hits adm ∷ [])
unfolding seniors_of
second_fresh = refl

pub third_obligations : obligations mix (anyone ∷ hits adm ∷ []) ≡ []
unfolding seniors_of
third_obligations = rw lacks_adm refl

-- what is covered

pub anyone_covers : (need : Need) → CoversNeed anyone need
anyone_covers need = record { hits = tt; lacks = λ role h. cc }

pub covered_second : IsCovered mix_needs (without adm ∷ hits adm ∷ [])
covered_second = inr (inl (embeds_itself CoversNeed covers_itself (without adm ∷ hits adm ∷ [])))

pub covered_third : (need : Need) (needs : List Need) → IsCovered mix_needs (need ∷ hits adm ∷ needs)
covered_third need needs = inr (inr (inl (embeds_front CoversNeed anyone need (hits adm ∷ []) (hits adm ∷ needs) (anyone_covers need)
    (embeds_front CoversNeed (hits adm) (hits adm) [] needs (covers_itself (hits adm)) (embeds_none CoversNeed needs)))))

-- the pre-image of the obligation is covered, if it is possible
abbrev pub IsMet : List Need → Obligation → Type 0
IsMet needs ob = (before : List Need) → pre_image mix needs ob ≡ Some before → IsPossible before → IsCovered mix_needs before

pub form_of : (rules : Rules) (needs : List Need) (ob : Obligation) (before : List Need) (form : Option (List Need)) → pre_form rules needs ob ≡ form
    → pre_image rules needs ob ≡ Some before → normal_form before ≡ form
form_of rules needs ob before form n e = sym (ap (λ o. and_then o normal_form) e) ∙ n

pub by_none : (needs : List Need) (ob : Obligation) → pre_form mix needs ob ≡ None → IsMet needs ob
by_none needs ob n before e possible = absurd ((none_impossible before).0 (form_of mix needs ob before None n e) possible)

pub by_form : (needs : List Need) (ob : Obligation) (form : List Need) → pre_form mix needs ob ≡ Some form → IsCovered mix_needs form → IsMet needs ob
by_form needs ob form n covered before e possible = (covered_alike mix_needs before form (form_of mix needs ob before (Some form) n e)).1 covered

pub first_met : Each (IsMet (hits c ∷ [])) (obligations mix (hits c ∷ []))
first_met = subst (Each (IsMet (hits c ∷ []))) (sym first_obligations) (
  by_none (hits c ∷ []) (assigns 0 0 c 0 itself) first_itself,
  (by_form (hits c ∷ []) (assigns 0 0 c 0 fresh) (without adm ∷ hits adm ∷ []) first_fresh covered_second, tt),
)

pub second_met : Each (IsMet (without adm ∷ hits adm ∷ [])) (obligations mix (without adm ∷ hits adm ∷ []))
second_met = subst (Each (IsMet (without adm ∷ hits adm ∷ []))) (sym second_obligations) (
  by_form (without adm ∷ hits adm ∷ []) (revokes 0 adm 0 itself) (hits adm ∷ hits adm ∷ []) second_itself (covered_third (hits adm) []),
  (
    by_form (without adm ∷ hits adm ∷ []) (revokes 0 adm 0 (other 1)) (anyone ∷ hits adm ∷ []) second_other (covered_third anyone []),
    (
      by_form (without adm ∷ hits adm ∷ []) (revokes 0 adm 0 fresh) (anyone ∷ hits adm ∷ hits adm ∷ []) second_fresh
          (covered_third anyone (hits adm ∷ [])),
      tt,
    ),
  ),
)

pub third_met : Each (IsMet (anyone ∷ hits adm ∷ [])) (obligations mix (anyone ∷ hits adm ∷ []))
third_met = subst (Each (IsMet (anyone ∷ hits adm ∷ []))) (sym third_obligations) tt

-- drawn populations: at most one user, who has adm alone

pub one_profile : (place : ℕ) (profile : Profile) → slice_get one_admin place ≡ Some profile → (place ≡ 0) × (profile.set ≡ adm ∷ [])
one_profile zero profile e =
    let e' : Some (record { set = adm ∷ []; most = Some 1 }) ≡ Some profile = e in
    (refl, sym (ap (λ (p : Profile). p.set) (same_some (record { set = adm ∷ []; most = Some 1 }) profile e')))
one_profile (suc place) profile e = cc

pub as_often : (choice : List ℕ) (users : List (List ℕ)) → AreUsers one_admin choice users → length users ≡ times 0 choice
as_often [] [] are = refl
as_often [] (u ∷ us) are = absurd are
as_often (p ∷ ps) [] are = absurd are
as_often (p ∷ ps) (u ∷ us) are =
    let first = (one_profile p are.0.0 are.0.1).0 in
    let rest = as_often ps us are.1 in
    let one : eqb p 0 ≡ true = eq-eqb p 0 first in
    rw one (omega (arith, rest))

pub few_users : (users : List (List ℕ)) → IsDrawn one_admin users → length users ≤ 1
few_users users drawn =
    let few = drawn.drawn.few 0 (record { set = adm ∷ []; most = Some 1 }) 1 refl refl in
    let long = as_often drawn.choice users drawn.are_users in
    omega (arith, few, long)

-- who is drawn from profiles of adm alone has adm alone
pub has_adm_alone : (profiles : List Profile) → Each (λ (profile : Profile). profile.set ≡ adm ∷ []) profiles → (users : List (List ℕ))
    → IsDrawn profiles users
    → (i : ℕ) (set : List ℕ) → slice_get users i ≡ Some set → set ≡ adm ∷ []
has_adm_alone profiles all users drawn i set at =
    let d = drawn_profile profiles drawn.choice users drawn.are_users i set at in
    d.3 ∙ each_at (λ (profile : Profile). profile.set ≡ adm ∷ []) profiles d.0 d.1 all d.2

pub nobody_has_c : (profiles : List Profile) → Each (λ (profile : Profile). profile.set ≡ adm ∷ []) profiles → (more : List (List ℕ))
    → IsUnmet profiles (record { hits = (c ∷ []) ∷ more; lacks = [] } ∷ [])
nobody_has_c profiles all more users drawn f =
    let one = f.each 0 (record { hits = (c ∷ []) ∷ more; lacks = [] }) refl in
    let common = one.2.hits.0 in
    apart common.0 common.1 (subst (λ s. IsIn s common.0) (has_adm_alone profiles all users drawn (f.to 0) one.0 one.1) common.2)
  where
    apart : (role : ℕ) → IsIn (c ∷ []) role → IsIn (adm ∷ []) role → ⊥
    apart role h k = by_cases (or_cases (eqb c role) false h) (or_cases (eqb adm role) false k)
      where
        by_cases : (eqb c role ≡ true) ⊎ (false ≡ true) → (eqb adm role ≡ true) ⊎ (false ≡ true) → ⊥
        by_cases (inl e) (inl f) = let one : 1 ≡ role = eqb-true 1 role e in let none : 0 ≡ role = eqb-true 0 role f in omega (arith, one, none)
        by_cases (inl e) (inr f) = cc
        by_cases (inr e) f = cc

pub nobody_lacks_adm : (profiles : List Profile) → Each (λ (profile : Profile). profile.set ≡ adm ∷ []) profiles → (needs : List Need)
    → IsUnmet profiles (without adm ∷ needs)
nobody_lacks_adm profiles all needs users drawn f =
    let one = f.each 0 (without adm) refl in
    one.2.lacks adm refl (subst (λ s. IsIn s adm) (sym (has_adm_alone profiles all users drawn (f.to 0) one.0 one.1)) refl)

pub two_users : (a b : Need) (users : List (List ℕ)) → IsDrawn one_admin users → Meets users (a ∷ b ∷ []) → ⊥
two_users a b users drawn f = let few = few_users users drawn in let long = embeds_long MeetsNeed (a ∷ b ∷ []) users f in omega (arith, few, long)

pub mix_closed : IsClosedList mix one_admin (has c ∷ []) mix_needs
mix_closed = record {
  goals = λ needs is possible. each_at (IsCovered mix_needs) (goal_requirements mix.order (has c ∷ [])) is.0 needs
      (subst (Each (IsCovered mix_needs)) (sym goal_is) (inl (embeds_itself CoversNeed covers_itself (hits c ∷ [])), tt)) is.1;
  pre_images = λ needs is ob at before e possible.
      let all = each_at (λ needs. Each (IsMet needs) (obligations mix needs)) mix_needs is.0 needs (first_met, (second_met, (third_met, tt))) is.1 in
      each_at (IsMet needs) (obligations mix needs) at.0 ob all at.1 before e possible;
  unmet = λ needs is. each_at (IsUnmet one_admin) mix_needs is.0 needs
      (nobody_has_c one_admin (refl, tt) [], (two_users (without adm) (hits adm), (two_users anyone (hits adm), tt))) is.1;
}
