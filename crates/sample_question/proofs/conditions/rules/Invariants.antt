use Rattle.std.proofs.Common.{◌≡◌, ◌++◌, ◌-◌, map}
use Rattle.role_order.specs.Reach.{count_up}
use Rattle.arbac_policy.specs.PlainRules.{plain_rule}
use Rattle.arbac_laws.specs.Obligations.{flat}
use Rattle.sample_question.specs.Samples.{rules}
use Rattle.sample_question.proofs.RuleLemmas.{rules_at}
use Rattle.sample_question.proofs.conditions.rules.Given as goal

-- the rules so far, and those that are left
abbrev pub invariant-loop-at : goal.invariant-loop-at
invariant-loop-at l = map plain_rule l.rules.items ++ flat (rules_at l.size) (count_up l.at (l.size - l.at)) ≡ rules l.size
