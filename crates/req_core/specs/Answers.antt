-- What the answers say.
use Rattle.std.specs.Prelude.{ℕ, List, Option, option_map}
use Rattle.arbac_laws.specs.Needs.{Need}
use Rattle.req_core.specs.declared.answers.Normal.{Normal}
use Rattle.req_core.specs.declared.answers.Met.{Met}
use Rattle.req_core.specs.declared.answers.Met.TheVariants.{Choice, Apart}

-- the requirement in normal form, where there is one
abbrev pub form_in : Option Normal → Option (List Need)
form_in normal = option_map (λ n. n.req) normal

-- what holds of the choice, where the requirement is met
abbrev pub IfChoice : Met → (List ℕ → Type 0) → Type 0
IfChoice (Choice list) P = P list.items
IfChoice (Apart items) P = Unit {0}

-- what holds of the places, where it isn't
abbrev pub IfApart : Met → (List ℕ → Type 0) → Type 0
IfApart (Choice list) P = Unit {0}
IfApart (Apart items) P = P items.items
