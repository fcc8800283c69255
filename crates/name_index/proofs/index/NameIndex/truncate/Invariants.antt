use Rattle.std.proofs.Common.{◌≡◌, length, take}
use Rattle.name_index.specs.Indexed.{IsIndexed}
use Rattle.name_index.proofs.index.NameIndex.truncate.Given as goal

-- the names that are left have their places, and the first of them are the first of all
abbrev pub invariant-loop-self : goal.invariant-loop-self
invariant-loop-self l =
    IsIndexed l.self-inside.names.items l.self-inside.places × (take l.count l.self-inside.names.items ≡ take l.count l.fn.self)

abbrev pub decreases-loop-self : goal.decreases-loop-self
decreases-loop-self l = length l.self-inside.names.items
