use Rattle.std.proofs.Common.{◌≤◌, ◌+◌, length}
use Rattle.policy_text.specs.Runs.{nothing}
use Rattle.policy_text.specs.Steps.{listing_view, Passes}
use Rattle.policy_text.proofs.listing.read_listing.Given as goal

abbrev pub invariant-loop-line : goal.invariant-loop-line
invariant-loop-line l = record {
  passed : Passes nothing l.text 2 (listing_view l.listing) l.rest l.number;
  room : l.number + length l.rest ≤ 2 + length l.text;
}

abbrev pub decreases-loop-line : goal.decreases-loop-line
decreases-loop-line l = length l.rest
