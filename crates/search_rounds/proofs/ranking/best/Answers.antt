use Rattle.std.proofs.Common.{ℕ, ◌≡◌, ◌∷◌, ◌∙◌, [], List, Some, true, refl, sym, ap, subst, arith}
use Rattle.std.specs.Prelude.{slice_get}
use Rattle.std.proofs.lemmas.List.{map-append}
use Rattle.list_words.proofs.EachLemmas.{each_append, each_at}
use Rattle.list_words.proofs.GetLemmas.{get_map}
use Rattle.arbac_laws.specs.Needs.{Need}
use Rattle.shared_reqs.specs.Shared.{AreOwnMarks, needs_marked}
use Rattle.shared_reqs.specs.Indexes.{BeatsAt}
use Rattle.search_laws.specs.Beats.{Beats}
use Rattle.search_laws.specs.Candidates.{needs_in}
use Rattle.search_rounds.specs.declared.candidate.Candidate.{Candidate}
use Rattle.search_rounds.specs.Ranking.{AreBest, IsBest}
use Rattle.search_rounds.specs.Views.{entry_of, entries_of, HaveOwnMarks}
use Rattle.search_rounds.proofs.ListingLemmas.{item_is}
use Rattle.search_rounds.proofs.RankingLemmas.{beats_member, best_all, best_more, best_none, best_same, member_at, member_beats}
use Rattle.search_rounds.proofs.ranking.best.Goals as goal
use Rattle.search_rounds.proofs.ranking.best.Goals.{then-not-is_beaten+in_ok-clone+in_ok-push, else-not-is_beaten}

-- nothing yet
pub loop-place-init : goal.loop-place-init
loop-place-init c =
    subst (λ (l : List Candidate). HaveOwnMarks c.args.order.now l × AreBest (entries_of c.args.kept.now) 0 (entries_of l))
    (sym c.new-best.ensures.items) (tt, best_none (entries_of c.args.kept.now))

-- the member of the index at the place is the candidate's requirement
pub is_beaten-requires-clause-member : goal.is_beaten-requires-clause-member
is_beaten-requires-clause-member c =
    let list = c.args.kept.now in
    let at = c.loop-place.place in
    let one : Candidate = c.index-kept-place.result in
    let there : slice_get list at ≡ Some one = item_is list list at one refl c.loop-place-test.true c.index-kept-place.is in
    ap (λ (members : List (List Need)). slice_get members c.in_ok-small.field-0) c.in_ok-index.ensures.members
    ∙ ap (slice_get (needs_in (entries_of list))) c.in_ok-small.ensures
    ∙ member_at list at one there
    ∙ ap (λ req. Some (needs_marked req)) (sym c.deref.ensures)

-- the candidate stays just where none beats it
pub loop-place-preserved : goal.loop-place-preserved
loop-place-preserved c =
    let list = c.args.kept.now in
    let order = c.args.order.now in
    let at = c.loop-place.place in
    let one : Candidate = c.index-kept-place.result in
    let entries = entries_of list in
    let there : slice_get list at ≡ Some one = item_is list list at one refl c.loop-place-test.true c.index-kept-place.is in
    let so_far = entries_of c.loop-place.best.items in
    let beats : (other : ℕ) → BeatsAt c.in_ok-index.index.members c.in_ok-small.field-0 other → Beats entries other at =
    λ other b. beats_member entries other at (subst (λ place. BeatsAt (needs_in entries) place other) c.in_ok-small.ensures
    (subst (λ members. BeatsAt members c.in_ok-small.field-0 other) c.in_ok-index.ensures.members b)) in
    let beaten : (other : ℕ) → Beats entries other at → BeatsAt c.in_ok-index.index.members c.in_ok-small.field-0 other =
    λ other b. subst (λ members. BeatsAt members c.in_ok-small.field-0 other) (sym c.in_ok-index.ensures.members)
    (subst (λ place. BeatsAt (needs_in entries) place other) (sym c.in_ok-small.ensures) (member_beats entries other at b)) in
    let answer = c.in_ok-is_beaten.ensures in
    elim c.if-not-is_beaten.branch [
      | then-not-is_beaten+in_ok-clone+in_ok-push w ↦
          let no = w.if-not-is_beaten.true in
          let best : IsBest entries at (entry_of one) = record {
            at = get_map entry_of list at one there;
            unbeaten = λ other b. let yes' : c.in_ok-is_beaten.is_beaten ≡ true = answer.1 (other, beaten other b) in cc;
          } in
          let marks : AreOwnMarks order one.req.value = each_at (λ (one : Candidate). AreOwnMarks order one.req.value) list at one c.requires there in
          let pushed : Candidate = record { req = record { ptr = w.in_ok-clone.field-0.ptr; value = one.req.value }; origin = one.origin } in
          rw (w.best-is, w.in_ok-push.ensures.items, w.in_ok-clone.ensures.cases, map-append) (
            each_append (λ (one : Candidate). AreOwnMarks order one.req.value) c.loop-place.best.items (pushed ∷ []) c.loop-place.invariant.0 (marks, tt),
            best_more entries at so_far (entry_of one) c.loop-place.invariant.1 best,
          )
      | else-not-is_beaten w ↦
          let found = answer.0 w.if-not-is_beaten.false in
          rw w.best-is
          (c.loop-place.invariant.0, best_same entries at so_far c.loop-place.invariant.1 (found.0, beats found.0 found.1))
    ]

pub returns-clause-marks : goal.returns-clause-marks
returns-clause-marks c = c.loop-place.invariant.0

-- all candidates were tried
pub returns-clause-best : goal.returns-clause-best
returns-clause-best c =
    best_all c.args.kept.now c.loop-place.place (entries_of c.loop-place.best.items) (let l = c.loop-place-test.false in omega (arith, l))
    c.loop-place.invariant.1
