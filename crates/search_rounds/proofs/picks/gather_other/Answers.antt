use Rattle.std.proofs.Common.{◌≡◌, List, sym, subst, rules}
use Rattle.arbac_laws.specs.Recorded.{Entry}
use Rattle.shared_reqs.specs.Shared.{needs_marked}
use Rattle.search_rounds.specs.Keeping.{Gathers}
use Rattle.search_rounds.specs.Making.{ob_by, way_of}
use Rattle.search_rounds.proofs.KeepingLemmas.{gathers_none}
use Rattle.search_rounds.proofs.PickLemmas.{other_target}
use Rattle.search_rounds.proofs.picks.gather_other.Goals as goal

pub returns-then-place-deed-clause-gathers : goal.returns-then-place-deed-clause-gathers
returns-then-place-deed-clause-gathers c = λ raw e.
    let same : c.args.place ≡ c.args.deed.now.target = search rules in
    subst (λ (list : List Entry). Gathers c.args.gathering.now c.args.gathering.now list)
    (sym (other_target c.args.parent.now.number (ob_by (way_of c.args.deed.now.change) c.args.deed.now.role c.args.deed.now.target)
    c.args.deed.now.hit (needs_marked c.args.parent.now.req.now) c.args.deed.now.target raw c.args.place same))
    (gathers_none c.args.gathering.now)
