use Rattle.std.proofs.Common.{◌≡◌, take}
use Rattle.arbac_laws.specs.Goals.{before_each}
use Rattle.arbac_laws.specs.Views.{needs_of}
use Rattle.cert_check.specs.Rulebooks.{lists_of}
use Rattle.cert_check.proofs.goals.before_each.Given as goal

abbrev pub invariant-loop-first : goal.invariant-loop-first
invariant-loop-first l = lists_of (λ users. users.items) l.all.items
    ≡ before_each (take l.first-index (needs_of l.firsts)) (lists_of (λ users. users.items) l.tails)
