use Rattle.std.proofs.Common.{◌≡◌}
use Rattle.arbac_policy.specs.Truth.{term_of}
use Rattle.sample_question.specs.Samples as samples
use Rattle.sample_question.proofs.conditions.goal.Given as goal

-- the goal of so many places
abbrev pub invariant-loop-at : goal.invariant-loop-at
invariant-loop-at l = term_of l.cond ≡ samples.goal l.at
