use Rattle.std.proofs.Common.{[]}
use Rattle.arbac_policy.specs.Truth.{term_of}
use Rattle.rule_prune.specs.Relevant.{AreAmong, asked}
use Rattle.rule_prune.specs.Steps.{IsStep}
use Rattle.rule_prune.proofs.StepLemmas.{ByFirst}
use Rattle.rule_prune.proofs.relevance.goal_roles.Given as goal

-- what the conditions so far want and bar
abbrev pub invariant-loop-cond : goal.invariant-loop-cond
invariant-loop-cond l =
    IsStep AreAmong (ByFirst (λ cond old new. AreAmong (asked l.order (term_of cond)) new) l.goal l.cond-index) (record { wanted = []; barred = [] }) l.roles
