-- What is made once for a policy.
use Rattle.std.specs.Prelude.{◌≤◌, List, map}
use Rattle.list_words.specs.Lists.{Each}
use Rattle.arbac_policy.specs.declared.rule.CanAssign.{CanAssign}
use Rattle.arbac_policy.specs.declared.conjunct.Conjunct.{Conjunct}
use Rattle.arbac_policy.specs.Truth.{term_of}
use Rattle.arbac_policy.specs.Rules.{Rules}
use Rattle.cond_text.specs.Grammar.{term_count}
use Rattle.cond_text.specs.declared.TheConstants.{MOST_TERMS}
use Rattle.arbac_rules.specs.declared.TheConstants.{MOST_CONJUNCTS}
use Rattle.arbac_rules.specs.Widths.{width}
use Rattle.arbac_laws.specs.Needs.{Need}
use Rattle.arbac_laws.specs.Conjuncts.{conjuncts}
use Rattle.arbac_laws.specs.Views.{needs_of}

-- the conjuncts of the rule's condition
abbrev pub conjuncts_of : Rules → CanAssign → List Need
conjuncts_of rules rule = conjuncts rules.order (term_of rule.cond)

-- lists of conjuncts as lists of needs
abbrev pub lists_of : {A : Type 0} → (A → List Conjunct) → List A → List (List Need)
lists_of items lists = map (λ list. needs_of (items list)) lists

-- the condition has few terms and few conjuncts
pub record IsNarrowRule (rule : CanAssign) : Type 0 where
  pub terms : term_count (term_of rule.cond) ≤ MOST_TERMS
  pub conjuncts : width (term_of rule.cond) ≤ MOST_CONJUNCTS

-- each rule to assign has such a condition
abbrev pub AreNarrow : Rules → Type 0
AreNarrow rules = Each IsNarrowRule rules.assign
