use Rattle.std.proofs.Common.{◌≡◌, ◌≤◌, ◌+◌, length}
use Rattle.text_lines.specs.Lines.{split}
use Rattle.policy_text.specs.Runs.{behind_edges}
use Rattle.policy_text.specs.Faults.{EndsOrder}
use Rattle.policy_text.specs.Steps.{order_view, body_view, run_view, Passes}
use Rattle.policy_text.proofs.body.read_body.Given as goal

abbrev pub invariant-loop-line : goal.invariant-loop-line
invariant-loop-line l = record {
  passed : Passes (order_view l.order) l.text l.first (run_view l.order l.body) l.rest l.number;
  room : l.number + length l.rest ≤ l.first + length l.text;
  fresh : behind_edges (body_view l.body) ≡ 0 → EndsOrder (split l.rest).0;
}

abbrev pub decreases-loop-line : goal.decreases-loop-line
decreases-loop-line l = length l.rest
