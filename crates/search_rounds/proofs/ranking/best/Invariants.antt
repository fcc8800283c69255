use Rattle.search_rounds.specs.Ranking.{AreBest}
use Rattle.search_rounds.specs.Views.{entries_of, HaveOwnMarks}
use Rattle.search_rounds.proofs.ranking.best.Given as goal

abbrev pub invariant-loop-place : goal.invariant-loop-place
invariant-loop-place l = HaveOwnMarks l.order l.best.items × AreBest (entries_of l.kept) l.place (entries_of l.best.items)
