use Rattle.std.proofs.Common.{ℕ, length, subst, sym}
use Rattle.role_order.specs.Reach.{count_up}
use Rattle.arbac_laws.specs.Obligations.{flat}
use Rattle.shared_reqs.specs.Shared.{needs_marked}
use Rattle.search_rounds.specs.Keeping.{Gathers}
use Rattle.search_rounds.specs.Making.{by_pick, ob_by, way_of}
use Rattle.search_rounds.specs.Picks.{by_other}
use Rattle.search_rounds.proofs.PickLemmas.{all_gathered, marked_length}
use Rattle.search_rounds.proofs.picks.gather_all.Goals as goal

pub returns : goal.returns
returns c = λ raw e.
    all_gathered (by_pick c.args.parent.now.number (ob_by (way_of c.args.deed.now.change) c.args.deed.now.role c.args.deed.now.target)
    c.args.deed.now.hit (needs_marked c.args.parent.now.req.now) c.args.deed.now.target raw)
    c.args.deed.now.target (length (needs_marked c.args.parent.now.req.now)) c.args.gathering.now c.gather_pick.new.gathering
    c.gather_others.new.gathering c.gather_pick-2.new.gathering
    (c.in_ok-gather_pick.ensures.gathers raw e)
    (subst (λ (n : ℕ). Gathers c.gather_pick.new.gathering c.gather_others.new.gathering
    (flat (by_other c.args.parent.now.number (ob_by (way_of c.args.deed.now.change) c.args.deed.now.role c.args.deed.now.target)
    c.args.deed.now.hit (needs_marked c.args.parent.now.req.now) c.args.deed.now.target raw) (count_up 0 n)))
    (sym (marked_length c.args.parent.now.req.now)) (c.in_ok-gather_others.ensures.gathers raw e))
    (c.in_ok-gather_pick-2.ensures.gathers raw e)
