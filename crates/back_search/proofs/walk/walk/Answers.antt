use Rattle.std.proofs.Common.{◌≡◌, ◌∷◌, [], ◌++◌, ◌∙◌, List, ap, sym, subst}
use Rattle.std.proofs.lemmas.List.{append_assoc}
use Rattle.role_order.specs.Graph.{Graph}
use Rattle.search_rounds.specs.Keeping.{Gathered}
use Rattle.search_rounds.specs.Views.{entries_of, HaveOwnMarks}
use Rattle.search_rounds.specs.declared.candidate.Candidate.{Candidate}
use Rattle.back_search.proofs.WalkLemmas.{records_more, walk_passes, walk_stops}
use Rattle.back_search.proofs.walk.walk.Goals as goal

-- the candidates so far went by, and the walk stops at this one
pub returns-in-Some-2-clause-walks : goal.returns-in-Some-2-clause-walks
returns-in-Some-2-clause-walks c =
    let walked = rw c.in-Some-2.is at c.in_ok-stop.ensures.walks in
    let all : c.args.list.items ≡ c.loop-one.yielded ++ c.in-Some.one ∷ c.next.new.self.rest.items =
    sym c.loop-one.invariant.left ∙ ap (λ (list : List Candidate). c.loop-one.yielded ++ list) c.in-Some.ensures.steps.0 in
    λ s profiles limit.
    walk_stops s (entries_of c.args.recorded.now.items) (entries_of c.loop-one.recorded.items) (entries_of c.walk_one.new.recorded.items)
    c.args.list.items c.loop-one.yielded c.next.new.self.rest.items c.in-Some.one c.in-Some-2.stop all (c.loop-one.invariant.walks s profiles limit)
    (walked s profiles limit)

-- what went by is recorded, and this one adds what it adds
pub returns-in-Some-2-clause-records : goal.returns-in-Some-2-clause-records
returns-in-Some-2-clause-records c =
    records_more c.args.gathering.now c.loop-one.gathering c.walk_one.new.gathering (entries_of c.args.recorded.now.items)
    (entries_of c.loop-one.recorded.items) (entries_of c.walk_one.new.recorded.items) c.loop-one.invariant.records c.in_ok-stop.ensures.records

-- this one goes by too
pub loop-one-preserved : goal.loop-one-preserved
loop-one-preserved c =
    let walked = rw c.in_default.is at c.in_ok-stop.ensures.walks in
    let order = ap (λ (g : Gathered). g.order) c.loop-one.invariant.records.gathered in record {
      left = append_assoc c.loop-one.yielded (c.in-Some.one ∷ []) c.next.new.self.rest.items
          ∙ ap (λ (list : List Candidate). c.loop-one.yielded ++ list) (sym c.in-Some.ensures.steps.0) ∙ c.loop-one.invariant.left;
      walks = λ s profiles limit.
          walk_passes s (entries_of c.args.recorded.now.items) (entries_of c.loop-one.recorded.items) (entries_of c.walk_one.new.recorded.items)
          c.loop-one.yielded c.in-Some.one (c.loop-one.invariant.walks s profiles limit) (walked s profiles limit);
      records = records_more c.args.gathering.now c.loop-one.gathering c.walk_one.new.gathering (entries_of c.args.recorded.now.items)
          (entries_of c.loop-one.recorded.items) (entries_of c.walk_one.new.recorded.items) c.loop-one.invariant.records c.in_ok-stop.ensures.records;
      marks = subst (λ (graph : Graph). HaveOwnMarks graph c.walk_one.new.recorded.items) order c.in_ok-stop.ensures.marks;
    }
