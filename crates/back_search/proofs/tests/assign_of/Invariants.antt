use Rattle.std.proofs.Common.{◌≤◌}
use Rattle.list_words.specs.Lists.{Each}
use Rattle.arbac_policy.specs.Truth.{term_of}
use Rattle.arbac_policy.specs.declared.rule.CanAssign.{CanAssign}
use Rattle.cond_text.specs.Grammar.{term_count}
use Rattle.cond_text.specs.declared.TheConstants.{MOST_TERMS}
use Rattle.back_search.proofs.tests.assign_of.Given as goal

-- the conditions so far are short
abbrev pub invariant-loop-admin : goal.invariant-loop-admin
invariant-loop-admin g l = Each (λ (rule : CanAssign). term_count (term_of rule.cond) ≤ MOST_TERMS) l.rules.items
