use Rattle.std.proofs.Common.{◌≡◌, take}
use Rattle.arbac_laws.specs.Goals.{before_each}
use Rattle.arbac_laws.specs.Views.{needs_of}
use Rattle.req_pre.specs.Views.{lists_of}
use Rattle.req_pre.proofs.goal_list.before_each.Given as goal

abbrev pub invariant-loop-first : goal.invariant-loop-first
invariant-loop-first l = lists_of l.all.items ≡ before_each (take l.first-index (needs_of l.firsts)) (lists_of l.tails)
