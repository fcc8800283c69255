-- A list recorded for the small policy.
use Rattle.std.proofs.Common.{ℕ, ◌≡◌, [], ◌∷◌, Some, zero, suc, sym, ap, subst, refl, inl, inr}
use Rattle.std.specs.Prelude.{slice_get, take}
use Rattle.list_words.specs.Lists.{Some_of}
use Rattle.role_order.specs.Roles.{IsWithin, less_roles}
use Rattle.arbac_policy.specs.Truth.{has}
use Rattle.arbac_laws.specs.Needs.{Covers, CoversNeed, IsCovered, Need}
use Rattle.arbac_laws.specs.Obligations.{assigns}
use Rattle.arbac_laws.specs.PreImages.{fresh}
use Rattle.arbac_laws.specs.Rows.{mix, adm, c, hits, without, two_admins, mix_entries}
use Rattle.arbac_laws.specs.Recorded.{Entry, IsEntry, IsRecordedList, of_goal, of_parent}
use Rattle.list_words.proofs.GetLemmas.{same_some}
use Rattle.arbac_laws.proofs.RowLemmas.{goal_is, first_obligations, first_before, nobody_has_c, nobody_lacks_adm}

pub first_not_covering : Covers (hits c ∷ []) (without adm ∷ hits adm ∷ []) → ⊥
first_not_covering f = let one = f.each 0 (hits c) refl in at_place (f.to 0) one.0 one.1 one.2
  where
    by_hit : Some_of (λ other. IsWithin (less_roles other []) (c ∷ [])) ((adm ∷ []) ∷ []) → ⊥
    by_hit (inl w) = let none = w adm refl in cc
    by_hit (inr h) = h

    at_place : (k : ℕ) (y : Need) → slice_get (without adm ∷ hits adm ∷ []) k ≡ Some y → CoversNeed (hits c) y → ⊥
    at_place zero y e h = let e' : Some (without adm) ≡ Some y = e in (subst (CoversNeed (hits c)) (sym (same_some (without adm) y e')) h).hits.0
    at_place (suc zero) y e h = let e' : Some (hits adm) ≡ Some y = e in by_hit (subst (CoversNeed (hits c)) (sym (same_some (hits adm) y e')) h).hits.0
    at_place (suc (suc k)) y e h = cc

pub mix_recorded : IsRecordedList mix two_admins (has c ∷ []) mix_entries
mix_recorded place entry at = at_place place at
  where
    goal : Entry
    goal = record { origin = of_goal 0; needs = hits c ∷ [] }

    before : Entry
    before = record { origin = of_parent 0 (assigns 0 0 c 0 fresh); needs = without adm ∷ hits adm ∷ [] }

    first : IsEntry mix two_admins (has c ∷ []) [] goal
    first = record {
      derived = (hits c ∷ [], ap (λ list. slice_get list 0) goal_is, refl);
      uncovered = λ h. h;
      unmet = nobody_has_c two_admins (refl, tt) [];
    }

    second : IsEntry mix two_admins (has c ∷ []) (goal ∷ []) before
    second = record {
      derived = (without adm ∷ hits adm ∷ [], (goal, refl, (1, ap (λ list. slice_get list 1) first_obligations), first_before), refl);
      uncovered = λ h. by_some h;
      unmet = nobody_lacks_adm two_admins (refl, tt) (hits adm ∷ []);
    }
      where
        by_some : IsCovered ((hits c ∷ []) ∷ []) (without adm ∷ hits adm ∷ []) → ⊥
        by_some (inl f) = first_not_covering f
        by_some (inr h) = h

    at_place : (place : ℕ) → slice_get mix_entries place ≡ Some entry → IsEntry mix two_admins (has c ∷ []) (take place mix_entries) entry
    at_place zero e = subst (IsEntry mix two_admins (has c ∷ []) []) (same_some goal entry e) first
    at_place (suc zero) e = subst (IsEntry mix two_admins (has c ∷ []) (goal ∷ [])) (same_some before entry e) second
    at_place (suc (suc place)) e = cc
