use Rattle.std.proofs.Common.{◌≡◌, ◌++◌, ◌∷◌, ◌∙◌, [], List, Some, take, refl, sym, ap, arith}
use Rattle.std.specs.Prelude.{slice_get}
use Rattle.list_words.proofs.EachLemmas.{each_at}
use Rattle.list_words.proofs.GetLemmas.{take_all}
use Rattle.arbac_laws.specs.Needs.{Need}
use Rattle.shared_reqs.specs.Shared.{AreOwnMarks, needs_marked}
use Rattle.search_laws.specs.Candidates.{needs_in}
use Rattle.search_rounds.specs.declared.candidate.Candidate.{Candidate}
use Rattle.search_rounds.specs.Views.{entries_of}
use Rattle.search_rounds.proofs.ListingLemmas.{item_is}
use Rattle.search_rounds.proofs.RankingLemmas.{needs_more}
use Rattle.search_rounds.proofs.ranking.index_of.Goals as goal

pub loop-one-init : goal.loop-one-init
loop-one-init c = (c.new-index.ensures.order, c.new-index.ensures.none)

-- the copy of the requirement has the same marks
pub add-requires : goal.add-requires
add-requires c =
    let list = c.args.kept.now in
    let one : Candidate = c.one-item.result in
    let there : slice_get list c.loop-one.one-index ≡ Some one = item_is list list c.loop-one.one-index one refl c.loop-one-test.true c.one-item.is in
    rw (c.loop-one.invariant.0, c.in_ok-clone.ensures.cases)
    (each_at (λ (one : Candidate). AreOwnMarks c.args.order.now one.req.value) list c.loop-one.one-index one c.requires there)

-- one requirement more
pub loop-one-preserved : goal.loop-one-preserved
loop-one-preserved c =
    let list = c.args.kept.now in
    let at = c.loop-one.one-index in
    let one : Candidate = c.one-item.result in
    let there : slice_get list at ≡ Some one = item_is list list at one refl c.loop-one-test.true c.one-item.is in
    let same : needs_marked c.in_ok-clone.field-0.value ≡ needs_marked one.req.value = rw c.in_ok-clone.ensures.cases refl in (
      c.in_ok-add.ensures.order ∙ c.loop-one.invariant.0,
      c.in_ok-add.ensures.added
          ∙ ap (λ (l : List (List Need)). l ++ needs_marked c.in_ok-clone.field-0.value ∷ []) c.loop-one.invariant.1
          ∙ ap (λ (n : List Need). needs_in (entries_of (take at list)) ++ n ∷ []) same
          ∙ sym (needs_more list at one there),
    )

pub returns-clause-order : goal.returns-clause-order
returns-clause-order c = c.loop-one.invariant.0

-- all of them
pub returns-clause-members : goal.returns-clause-members
returns-clause-members c =
    let list = c.args.kept.now in
    let at = c.loop-one.one-index in
    c.loop-one.invariant.1 ∙ ap (λ (l : List Candidate). needs_in (entries_of l)) (take_all list at (let l = c.loop-one-test.false in omega (arith, l)))
