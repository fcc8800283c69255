use Rattle.std.proofs.Common.{◌≡◌, map, drop}
use Rattle.arbac_policy.specs.Truth.{term_of}
use Rattle.arbac_laws.specs.Goals.{goal_requirements}
use Rattle.cert_check.specs.Rulebooks.{lists_of}
use Rattle.cert_check.proofs.goals.goal_requirements.Given as goal

abbrev pub invariant-loop-at : goal.invariant-loop-at
invariant-loop-at l = lists_of (λ users. users.items) l.all.items ≡ goal_requirements l.order (map term_of (drop l.at l.goal))
