use Rattle.std.proofs.Common.{◌-◌, length}
use Rattle.desk_ports.proofs.FrontLemmas.{IsReadTo}
use Rattle.desk_ports.proofs.shelves.files.read_front.Given as goal

-- no more than is wanted was read, and it is the front of what the reader had
abbrev pub invariant-loop-piece : goal.invariant-loop-piece
invariant-loop-piece g l = IsReadTo (g.F.Read.remaining l.initial.file) (g.F.Read.remaining l.file) l.wanted l.bytes.items

abbrev pub decreases-loop-piece : goal.decreases-loop-piece
decreases-loop-piece g l = l.wanted - length l.bytes.items
