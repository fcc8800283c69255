use Rattle.std.proofs.Common.{rules}
use Rattle.req_pre.specs.Views.{pick_of}
use Rattle.shared_reqs.specs.Shared.{needs_marked}
use Rattle.search_rounds.specs.Making.{by_pick, by_picks, ob_by, way_of}
use Rattle.search_rounds.specs.Picks.{IsFirstFree}
use Rattle.search_rounds.proofs.KeepingLemmas.{gathers_some}
use Rattle.search_rounds.proofs.PickLemmas.{first_keeps, length_marked}
use Rattle.search_rounds.proofs.picks.gather_picks.Goals as goal

-- the candidates of all others are left out
pub returns-in_ok-gather_pick-in-Some : goal.returns-in_ok-gather_pick-in-Some
returns-in_ok-gather_pick-in-Some c = λ raw e.
    let first : IsFirstFree c.args.deed.now.hit (needs_marked c.args.parent.now.req.now) c.args.deed.now.target c.args.before.now.value.need
    (pick_of c.in-Some.admin) = search rules in
    gathers_some c.args.gathering.now c.gather_pick.new.gathering
    (by_picks c.args.parent.now.number (ob_by (way_of c.args.deed.now.change) c.args.deed.now.role c.args.deed.now.target)
    c.args.deed.now.hit (needs_marked c.args.parent.now.req.now) c.args.deed.now.target raw)
    (by_pick c.args.parent.now.number (ob_by (way_of c.args.deed.now.change) c.args.deed.now.role c.args.deed.now.target)
    c.args.deed.now.hit (needs_marked c.args.parent.now.req.now) c.args.deed.now.target raw (pick_of c.in-Some.admin))
    (first_keeps c.args.gathering.now.known c.args.parent.now.number
    (ob_by (way_of c.args.deed.now.change) c.args.deed.now.role c.args.deed.now.target) c.args.deed.now.hit
    (needs_marked c.args.parent.now.req.now) c.args.deed.now.target c.args.before.now.value.need raw (pick_of c.in-Some.admin)
    (length_marked c.args.parent.now.req.now c.args.deed.now.target c.requires.target) e first)
    (c.in_ok-gather_pick-in-Some.ensures.gathers raw e)
