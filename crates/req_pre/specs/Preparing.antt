-- A policy with the conjuncts of its rules and what its exclusive pairs bar.
use Rattle.std.specs.Prelude.{ℕ, ◌≡◌, ◌<◌, ◌≤◌, List, [], get_or}
use Rattle.list_words.specs.Lists.{Each, IsFirst}
use Rattle.role_order.specs.Graph.{Graph}
use Rattle.role_order.specs.Roles.{has_role}
use Rattle.arbac_policy.specs.declared.rule.CanAssign.{CanAssign}
use Rattle.arbac_policy.specs.Truth.{term_of}
use Rattle.arbac_policy.specs.Rules.{Rules}
use Rattle.cond_text.specs.Grammar.{term_count}
use Rattle.cond_text.specs.declared.TheConstants.{MOST_TERMS}
use Rattle.arbac_laws.specs.Needs.{Need}
use Rattle.arbac_laws.specs.Conjuncts.{conjuncts}
use Rattle.arbac_laws.specs.PreImages.{barred, is_barred}
use Rattle.arbac_rules.specs.declared.TheConstants.{MOST_CONJUNCTS}
use Rattle.arbac_rules.specs.Widths.{width}
use Rattle.req_pre.specs.declared.answers.PrepareError.{PrepareError}
use Rattle.req_pre.specs.declared.answers.PrepareError.TheVariants.{TooWide, Memory}

-- the conjuncts of the rule's condition
abbrev pub conjuncts_of : Rules → CanAssign → List Need
conjuncts_of rules rule = conjuncts rules.order (term_of rule.cond)

-- no condition of a rule has more terms than may be written
abbrev pub AreShort : Rules → Type 0
AreShort rules = Each (λ rule. term_count (term_of rule.cond) ≤ MOST_TERMS) rules.assign

-- the condition has more conjuncts than may be listed
abbrev pub IsWide : CanAssign → Type 0
IsWide rule = MOST_CONJUNCTS < width (term_of rule.cond)

-- the error tells the first rule whose condition is too wide, and how many conjuncts it has
abbrev pub IsTooWide : Rules → PrepareError → Type 0
IsTooWide rules (TooWide rule count) =
    (first : IsFirst IsWide rules.assign rule) × (count ≡ width (term_of first.item.cond))
IsTooWide rules Memory = Unit {0}

-- the set at a number, and no role where there is none, is what the pairs bar from whoever is given the role; the other set
-- has the roles that nobody can be given who lacks them
pub record AreExclusions (order : Graph) (pairs : List (ℕ × ℕ)) (bars : List (List ℕ)) (closed : List ℕ) : Type 0 where
  pub bars_are : (role : ℕ) → get_or bars role [] ≡ barred order role pairs
  pub closed_are : (role : ℕ) → has_role closed role ≡ is_barred order role pairs
