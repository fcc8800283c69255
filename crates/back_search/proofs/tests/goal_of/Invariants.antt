use Rattle.std.proofs.Common.{◌≤◌, length}
use Rattle.list_words.specs.Lists.{Each}
use Rattle.cond_text.specs.Grammar.{term_count}
use Rattle.cond_text.specs.declared.TheConstants.{MOST_TERMS}
use Rattle.arbac_policy.specs.Truth.{term_of, IsKnown}
use Rattle.back_search.proofs.tests.goal_of.Given as goal

abbrev pub invariant-loop-text : goal.invariant-loop-text
invariant-loop-text g l = record {
  terms : Each (λ cond. term_count (term_of cond) ≤ MOST_TERMS) l.goal.items;
  known : Each (λ cond. IsKnown (length l.order.names) (term_of cond)) l.goal.items;
}
