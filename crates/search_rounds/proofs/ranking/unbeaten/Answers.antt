use Rattle.std.proofs.Common.{List, length, rules, subst}
use Rattle.std.proofs.lemmas.Fn.{always_returns_same}
use Rattle.shared_reqs.specs.Shared.{AreOwnMarks}
use Rattle.search_rounds.specs.declared.candidate.Candidate.{Candidate}
use Rattle.search_rounds.specs.Ranking.{AreBest, candidate_before}
use Rattle.search_rounds.specs.Views.{entries_of}
use Rattle.search_rounds.proofs.RankingLemmas.{best_sorted, candidate_order, each_moved}
use Rattle.search_rounds.proofs.ranking.unbeaten.Goals as goal

-- sorting only moves candidates
pub returns-clause-marks : goal.returns-clause-marks
returns-clause-marks c =
    each_moved (λ (one : Candidate). AreOwnMarks c.args.order.now one.req.value) c.in_ok-list.list.items c.sort_unstable_by.new.self.items
    c.sort_unstable_by.ensures.permutation c.in_ok-list.ensures.marks

-- the closure compares two candidates by their requirements
pub returns-clause-unbeaten : goal.returns-clause-unbeaten
returns-clause-unbeaten c = λ known new.
    let facts = c.sort_unstable_by.ensures in
    let list = c.in_ok-list.list.items in
    best_sorted known c.args.kept.items list c.sort_unstable_by.new.self.items
    (subst (λ (kept : List Candidate). AreBest (entries_of kept) (length kept) (entries_of list)) c.deref.ensures.value c.in_ok-list.ensures.best)
    facts.permutation
    (facts.sorted candidate_before candidate_order (always_returns_same _ _ _ (λ a r f called. search rules))) new
