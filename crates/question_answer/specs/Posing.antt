-- A question that is ready to be searched.
use Rattle.std.specs.Prelude.{◌≤◌, length, map}
use Rattle.list_words.specs.Lists.{Each}
use Rattle.arbac_policy.specs.Truth.{term_of, IsKnown}
use Rattle.cond_text.specs.Grammar.{term_count}
use Rattle.cond_text.specs.declared.TheConstants.{MOST_TERMS}
use Rattle.cert_check.specs.Asked.{Asked}
use Rattle.question_answer.specs.declared.posed.Posed.{Posed}

-- what it asks
abbrev pub asked_in : Posed → Asked
asked_in posed = record { rules = posed.prepared; profiles = posed.profiles.items; goal = map term_of posed.goal.items }

-- the conditions of its goal are within their limit, and name roles alone
pub record IsSearchable (posed : Posed) : Type 0 where
  pub terms : Each (λ cond. term_count (term_of cond) ≤ MOST_TERMS) posed.goal.items
  pub names : Each (λ cond. IsKnown (length posed.prepared.order.names) (term_of cond)) posed.goal.items
