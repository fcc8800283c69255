use Rattle.std.proofs.Common.{ℕ, ◌≤◌, ◌+◌, List, length}
use Rattle.cert_text.specs.Steps.{IsReadUpTo}
use Rattle.cert_text.proofs.reading.read_lines.Given as goal

abbrev pub invariant-loop-line : goal.invariant-loop-line
invariant-loop-line g l = record {
  read : (bytes : List ℕ) → IsReadUpTo l.order.names bytes (g.S.Section.draft l.fn.section) l.first l.text
      → IsReadUpTo l.order.names bytes (g.S.Section.draft l.section) l.number l.rest;
  room : l.number + length l.rest ≤ l.first + length l.text;
}

abbrev pub decreases-loop-line : goal.decreases-loop-line
decreases-loop-line g l = length l.rest
