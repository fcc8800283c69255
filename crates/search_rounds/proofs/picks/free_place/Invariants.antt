use Rattle.std.proofs.Common.{ℕ, ◌≡◌, ◌<◌, length}
use Rattle.role_order.specs.Graph.{Graph}
use Rattle.role_order.specs.Reach.{seniors_of}
use Rattle.shared_reqs.specs.Shared.{AreOwnMarks, needs_marked}
use Rattle.search_rounds.specs.Picks.{IsFreePlace}
use Rattle.search_rounds.proofs.picks.free_place.Given as goal

abbrev pub invariant-loop-place : goal.invariant-loop-place
invariant-loop-place l =
    (order : Graph) → l.deed.admin < length order.names → l.deed.hit ≡ seniors_of order l.deed.admin → AreOwnMarks order l.parent.req.now
    → (k : ℕ) → k < l.place → ¬ IsFreePlace l.deed.hit (needs_marked l.parent.req.now) l.deed.target k
