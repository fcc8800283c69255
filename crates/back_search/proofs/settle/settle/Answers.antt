use Rattle.std.proofs.Common.{List, sym, subst}
use Rattle.list_words.specs.Lists.{Each}
use Rattle.arbac_laws.specs.Needs.{IsCovered}
use Rattle.arbac_laws.specs.Recorded.{Entry}
use Rattle.search_laws.specs.Beats.{AreUnbeaten}
use Rattle.search_rounds.specs.Keeping.{Gathered}
use Rattle.search_rounds.specs.Views.{entries_of}
use Rattle.back_search.specs.Stops.{Records, walk_of}
use Rattle.back_search.proofs.SettleLemmas.{between_by, settled_round}
use Rattle.back_search.proofs.settle.settle.Goals as goal

-- the list is that of the kept ones, which are new
pub returns-clause-round : goal.returns-clause-round
returns-clause-round c =
    let old = c.args.gathering.now in
    let unbeaten = subst (λ (kept : List Entry). AreUnbeaten old.known kept (entries_of c.in_ok-list.list.items)) c.take-kept.ensures.kept
    (c.in_ok-list.ensures.unbeaten old.known
    (subst (λ (kept : List Entry). Each (λ (entry : Entry). ¬ IsCovered old.known entry.needs) kept) (sym c.take-kept.ensures.kept) c.requires.gathered.new)) in
    λ s all profiles limit known normal keeps.
    settled_round s old.known (entries_of c.args.recorded.now.items) all old.kept (entries_of c.in_ok-list.list.items)
    (walk_of c.in_ok-stop.stop (entries_of c.walk.new.recorded.items)) known normal keeps unbeaten (c.in_ok-stop.ensures.walks s profiles limit)

-- the walk knows what it records, and all else stayed when the kept ones left
pub returns-clause-between : goal.returns-clause-between
returns-clause-between c =
    let old = c.args.gathering.now in
    let before = entries_of c.args.recorded.now.items in
    let after = entries_of c.walk.new.recorded.items in
    let records = subst (λ (g : Gathered). Records g c.walk.new.gathering before after) c.take-kept.ensures.rest c.in_ok-stop.ensures.records in
    λ s all profiles limit order known normal keeps.
    between_by s old c.walk.new.gathering before after all c.in_ok-stop.stop order known c.requires.gathered normal keeps
    (returns-clause-round c s all profiles limit known normal keeps) records
