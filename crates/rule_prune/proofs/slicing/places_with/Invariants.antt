use Rattle.rule_prune.specs.Relevant.{RangeMeets}
use Rattle.rule_prune.proofs.SliceLemmas.{AreListed}
use Rattle.rule_prune.proofs.slicing.places_with.Given as goal

-- of the rules so far
abbrev pub invariant-loop-place : goal.invariant-loop-place
invariant-loop-place g l = AreListed (λ rule. RangeMeets l.order (g.R.Ranged.range_of rule) l.roles) l.rules l.place l.places.items
