use Rattle.std.proofs.Common.{◌≡◌, ◌∙◌, ap, subst}
use Rattle.arbac_laws.specs.Obligations.{flat_places}
use Rattle.arbac_laws.specs.Recorded.{Entry}
use Rattle.shared_reqs.specs.Shared.{needs_marked}
use Rattle.search_rounds.specs.Keeping.{Gathers}
use Rattle.search_rounds.specs.Making.{by_assign, by_revoke, by_rules}
use Rattle.search_rounds.specs.Views.{entry_of}
use Rattle.search_rounds.proofs.KeepingLemmas.{gathers_more}
use Rattle.search_rounds.proofs.ListingLemmas.{parent_listed}
use Rattle.search_rounds.proofs.making.gather_parent.Goals as goal

-- by rules to assign, and then by rules to revoke
pub returns : goal.returns
returns c =
    let rules = c.args.prepared.now in
    let entry : Entry = entry_of c.args.parent.now in
    let needs = needs_marked c.deref.result.now in
    let same : needs ≡ entry.needs = ap needs_marked c.deref.ensures in
    subst (Gathers c.args.gathering.now c.gather_revokes.new.gathering) (ap (by_rules rules c.args.number) same ∙ parent_listed rules c.args.number entry)
    (gathers_more c.args.gathering.now c.gather_assigns.new.gathering c.gather_revokes.new.gathering
    (flat_places (by_assign rules c.args.number needs) 0 rules.assign) (flat_places (by_revoke rules c.args.number needs) 0 rules.revoke)
    c.in_ok-gather_assigns.ensures c.in_ok-gather_revokes.ensures)
