use Rattle.std.proofs.Common.{◌≡◌, ◌-◌, Some}
use Rattle.role_order.specs.Reach.{count_up}
use Rattle.arbac_laws.specs.Needs.{Need}
use Rattle.arbac_laws.specs.Obligations.{flat}
use Rattle.req_core.specs.Forms.{user_form}
use Rattle.shared_reqs.specs.Shared.{needs_marked}
use Rattle.search_rounds.specs.Keeping.{Gathered, Gathers}
use Rattle.search_rounds.specs.Making.{ob_by, way_of}
use Rattle.search_rounds.specs.Picks.{by_other}
use Rattle.search_rounds.proofs.picks.gather_others.Given as goal

abbrev pub invariant-loop-place : goal.invariant-loop-place
invariant-loop-place l = record {
  order : l.gathering.order ≡ l.fn.gathering.order;
  gathers : (raw : Need) → user_form raw ≡ Some l.before.value.need → (new : Gathered)
      → Gathers l.gathering new (flat (by_other l.parent.number (ob_by (way_of l.deed.change) l.deed.role l.deed.target) l.deed.hit
      (needs_marked l.parent.req.now) l.deed.target raw) (count_up l.place (l.count - l.place)))
      → Gathers l.fn.gathering new (flat (by_other l.parent.number (ob_by (way_of l.deed.change) l.deed.role l.deed.target) l.deed.hit
      (needs_marked l.parent.req.now) l.deed.target raw) (count_up 0 l.count));
}
