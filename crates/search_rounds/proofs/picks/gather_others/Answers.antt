use Rattle.std.proofs.Common.{ℕ, ◌≡◌, ◌∙◌, length, subst, rules}
use Rattle.role_order.specs.Reach.{count_up}
use Rattle.arbac_laws.specs.Obligations.{flat}
use Rattle.shared_reqs.specs.Shared.{needs_marked}
use Rattle.search_rounds.specs.Keeping.{Gathers}
use Rattle.search_rounds.specs.Making.{ob_by, way_of}
use Rattle.search_rounds.specs.Picks.{by_other}
use Rattle.search_rounds.proofs.PickLemmas.{others_last, others_next}
use Rattle.search_rounds.proofs.picks.gather_others.Goals as goal

pub loop-place-preserved : goal.loop-place-preserved
loop-place-preserved c = record {
  order = c.in_ok-gather_other.ensures.order ∙ c.loop-place.invariant.order;
  gathers = λ raw e new rest. c.loop-place.invariant.gathers raw e new
      (others_next (by_other c.args.parent.now.number (ob_by (way_of c.args.deed.now.change) c.args.deed.now.role c.args.deed.now.target)
      c.args.deed.now.hit (needs_marked c.args.parent.now.req.now) c.args.deed.now.target raw)
      c.loop-place.gathering c.gather_other.new.gathering new c.in_ok-count.count c.loop-place.place c.loop-place-test.true
      (c.in_ok-gather_other.ensures.gathers raw e) rest);
}

pub returns-clause-gathers : goal.returns-clause-gathers
returns-clause-gathers c = λ raw e.
    let all : c.in_ok-count.count ≡ length c.args.parent.now.req.now = search rules in
    subst (λ (n : ℕ). Gathers c.args.gathering.now c.loop-place.gathering
    (flat (by_other c.args.parent.now.number (ob_by (way_of c.args.deed.now.change) c.args.deed.now.role c.args.deed.now.target)
    c.args.deed.now.hit (needs_marked c.args.parent.now.req.now) c.args.deed.now.target raw) (count_up 0 n))) all
    (c.loop-place.invariant.gathers raw e c.loop-place.gathering
    (others_last (by_other c.args.parent.now.number (ob_by (way_of c.args.deed.now.change) c.args.deed.now.role c.args.deed.now.target)
    c.args.deed.now.hit (needs_marked c.args.parent.now.req.now) c.args.deed.now.target raw)
    c.loop-place.gathering c.in_ok-count.count c.loop-place.place c.loop-place-test.false))
