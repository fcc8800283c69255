use Rattle.std.proofs.Common.{◌≡◌, List, [], None, Option, sym, subst, rules}
use Rattle.std.specs.Prelude.{slice_set}
use Rattle.arbac_laws.specs.Needs.{Need}
use Rattle.arbac_laws.specs.NormalForms.{normal_form}
use Rattle.arbac_laws.specs.PreImages.{with_admin}
use Rattle.arbac_laws.specs.Recorded.{of_parent}
use Rattle.req_pre.specs.Views.{pick_of}
use Rattle.shared_reqs.specs.Shared.{needs_marked}
use Rattle.search_laws.specs.Candidates.{as_candidate}
use Rattle.search_rounds.specs.Keeping.{Gathered, Gathers}
use Rattle.search_rounds.specs.Making.{ob_by, way_of}
use Rattle.search_rounds.proofs.KeepingLemmas.{gathers_none}
use Rattle.search_rounds.proofs.picks.gather_pick.Goals as goal

-- where nothing is made, there is no candidate
pub returns-in-None-clause-gathers : goal.returns-in-None-clause-gathers
returns-in-None-clause-gathers c = λ raw e.
    let none : None ≡ normal_form (with_admin (pick_of c.args.admin) c.args.deed.now.target c.args.deed.now.hit
    (slice_set (needs_marked c.args.parent.now.req.now) c.args.deed.now.target raw)) = search rules in
    let same : c.make.new.gathering ≡ c.args.gathering.now = c.make.ensures.same in
    subst (λ (made : Option (List Need)). Gathers c.args.gathering.now c.make.new.gathering
    (as_candidate (of_parent c.args.parent.now.number
    (ob_by (way_of c.args.deed.now.change) c.args.deed.now.role c.args.deed.now.target (pick_of c.args.admin))) made)) none
    (subst (λ (g : Gathered). Gathers c.args.gathering.now g []) (sym same) (gathers_none c.args.gathering.now))
