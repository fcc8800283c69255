use Rattle.std.proofs.Common.{◌≡◌, ◌+◌, ◌≤◌, length}
use Rattle.cond_text.specs.Views.{state_of}
use Rattle.cond_text.specs.Machine.{start}
use Rattle.cond_text.specs.Judge.{judge}
use Rattle.cond_text.proofs.parsing.judge.Given as goal

abbrev pub invariant-loop-first : goal.invariant-loop-first
invariant-loop-first l = record {
  few : l.terms + length l.rest ≤ length l.list;
  same : judge l.count l.size (state_of l.state) l.terms l.rest ≡ judge l.count l.size start 0 l.list;
}

abbrev pub decreases-loop-first : goal.decreases-loop-first
decreases-loop-first l = length l.rest
