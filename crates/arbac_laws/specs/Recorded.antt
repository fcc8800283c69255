-- Recorded lists: requirements with their origins, as a search keeps them.
use Rattle.std.specs.Prelude.{ℕ, ◌≡◌, List, map, slice_get, take, Some}
use Rattle.list_words.specs.Lists.{IsOneOf}
use Rattle.arbac_policy.specs.declared.profile.Profile.{Profile}
use Rattle.arbac_policy.specs.Truth.{Term}
use Rattle.arbac_policy.specs.Rules.{Rules}
use Rattle.arbac_laws.specs.Needs.{Need, IsCovered}
use Rattle.arbac_laws.specs.Goals.{goal_requirements}
use Rattle.arbac_laws.specs.Obligations.{Obligation, obligations, pre_image}
use Rattle.arbac_laws.specs.NormalForms.{normal_form}
use Rattle.arbac_laws.specs.Closed.{IsUnmet}

-- a goal requirement by its number, or the pre-image of a parent by its place and an obligation
pub data Origin : Type 0 where
  of_goal : ℕ → Origin
  of_parent : ℕ → Obligation → Origin

-- a requirement with its origin
pub record Entry : Type 0 where
  pub origin : Origin
  pub needs : List Need

-- the origin, with these entries before it, names this requirement
abbrev pub IsOrigin : Rules → List Term → List Entry → Origin → List Need → Type 0
IsOrigin rules goal earlier (of_goal number) needs = slice_get (goal_requirements rules.order goal) number ≡ Some needs
IsOrigin rules goal earlier (of_parent parent ob) needs =
    (entry : Entry) × (slice_get earlier parent ≡ Some entry)
    × IsOneOf (obligations rules entry.needs) ob × (pre_image rules entry.needs ob ≡ Some needs)

-- the entry is the normal form of what its origin names, is covered by no earlier one, and no drawn
-- population meets it
pub record IsEntry (rules : Rules) (profiles : List Profile) (goal : List Term) (earlier : List Entry) (entry : Entry) : Type 0 where
  pub derived : (needs : List Need) × IsOrigin rules goal earlier entry.origin needs × (normal_form needs ≡ Some entry.needs)
  pub uncovered : ¬ IsCovered (map (λ (e : Entry). e.needs) earlier) entry.needs
  pub unmet : IsUnmet profiles entry.needs

-- each entry is one after those before it
abbrev pub IsRecordedList : Rules → List Profile → List Term → List Entry → Type 0
IsRecordedList rules profiles goal list =
    (place : ℕ) (entry : Entry) → slice_get list place ≡ Some entry → IsEntry rules profiles goal (take place list) entry
