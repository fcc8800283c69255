-- The candidates of a round of the search, in the order of their origins.
use Rattle.std.specs.Prelude.{ℕ, List, [], ◌∷◌, map, take, drop, Option, Some, None}
use Rattle.arbac_policy.specs.Truth.{Term}
use Rattle.arbac_policy.specs.Rules.{Rules}
use Rattle.arbac_laws.specs.Needs.{Need}
use Rattle.arbac_laws.specs.Goals.{goal_requirements}
use Rattle.arbac_laws.specs.Obligations.{flat, flat_places, obligations}
use Rattle.arbac_laws.specs.NormalForms.{normal_form, pre_form}
use Rattle.arbac_laws.specs.Recorded.{Origin, Entry, of_goal, of_parent}

-- the requirement with its origin, where there is one
abbrev pub as_candidate : Origin → Option (List Need) → List Entry
as_candidate origin None = []
as_candidate origin (Some needs) = record { origin = origin; needs = needs } ∷ []

-- of the first round: the possible goal requirements in normal form, by number
abbrev pub goal_candidates : Rules → List Term → List Entry
goal_candidates rules goal =
    flat_places (λ number needs. as_candidate (of_goal number) (normal_form needs)) 0 (goal_requirements rules.order goal)

-- the possible pre-images of a recorded entry in normal form, in the order of its obligations
abbrev pub parent_candidates : Rules → ℕ → Entry → List Entry
parent_candidates rules parent entry =
    flat (λ ob. as_candidate (of_parent parent ob) (pre_form rules entry.needs ob)) (obligations rules entry.needs)

-- a round takes the next so many recorded entries, or all that are left
abbrev pub batch : ℕ
batch = 64

-- of a later round: the pre-images of the entries behind those that were taken, parent by parent
abbrev pub next_candidates : Rules → List Entry → ℕ → List Entry
next_candidates rules recorded taken = flat_places (parent_candidates rules) taken (take batch (drop taken recorded))

-- the requirements of entries
abbrev pub needs_in : List Entry → List (List Need)
needs_in entries = map (λ (entry : Entry). entry.needs) entries
