use Rattle.std.proofs.Common.{ℕ, ◌<◌, ◌-◌, ◌+◌, List, length, take, drop, refl, sym, subst, arith, rules}
use Rattle.std.proofs.lemmas.List.{length-map}
use Rattle.list_words.proofs.GetLemmas.{get_map}
use Rattle.arbac_laws.specs.Obligations.{flat_places}
use Rattle.arbac_laws.specs.Recorded.{Entry}
use Rattle.search_laws.specs.Candidates.{parent_candidates, next_candidates}
use Rattle.search_rounds.specs.Keeping.{Gathers}
use Rattle.search_rounds.specs.Views.{entry_of, entries_of}
use Rattle.search_rounds.specs.Listing.{GoesOn}
use Rattle.search_rounds.proofs.ListingLemmas.{starts, goes_on, ends, item_is, batch_taken, part_next, part_end}
use Rattle.search_rounds.proofs.making.gather_batch.Goals as goal

-- nothing is gathered yet; a round takes the next entries, or all that are left
pub loop-place-init : goal.loop-place-init
loop-place-init c =
    let entries : List Entry = entries_of c.args.recorded.now in
    let f : ℕ → Entry → List Entry = parent_candidates c.args.prepared.now in
    let long = length-map c.args.recorded.now entry_of in
    let fits : length c.args.recorded.now < 18446744073709551616 = search rules in
    let end_is = c.min-end.ensures in
    let sum_is = c.saturating_add.ensures in
    subst (λ (l : List Entry). GoesOn c.args.gathering.now c.args.gathering.now (flat_places f c.args.taken l)
    (next_candidates c.args.prepared.now entries c.args.taken))
    (sym (batch_taken entries c.args.taken c.min-end.result (omega (arith, long, fits, end_is, sum_is))))
    (starts c.args.gathering.now (next_candidates c.args.prepared.now entries c.args.taken))

-- those of one parent more
pub loop-place-preserved : goal.loop-place-preserved
loop-place-preserved c =
    let recorded = c.args.recorded.now in
    let entries : List Entry = entries_of recorded in
    let f : ℕ → Entry → List Entry = parent_candidates c.args.prepared.now in
    let at = c.loop-place.place in
    let end = c.min-end.result in
    let one = c.index-recorded-place.result in
    let below : at < length recorded = (let l = c.loop-place-test.true in let is = c.min-end.ensures in omega (arith, l, is)) in
    let here = get_map entry_of recorded at one (item_is recorded recorded at one refl below c.index-recorded-place.is) in
    goes_on c.args.gathering.now c.loop-place.gathering c.gather_parent.new.gathering (flat_places f at (take (end - at) (drop at entries)))
    (f at (entry_of one)) (flat_places f (at + 1) (take (end - (at + 1)) (drop (at + 1) entries))) (next_candidates c.args.prepared.now entries c.args.taken)
    (part_next f entries at end (entry_of one) c.loop-place-test.true here) c.loop-place.invariant
    (subst (λ (n : ℕ). Gathers c.loop-place.gathering c.gather_parent.new.gathering (f n (entry_of one))) c.in_ok-small.ensures
    c.in_ok-gather_parent.ensures)

-- those of all parents that the round takes
pub returns : goal.returns
returns c =
    let entries : List Entry = entries_of c.args.recorded.now in
    let f : ℕ → Entry → List Entry = parent_candidates c.args.prepared.now in
    let at = c.loop-place.place in
    let end = c.min-end.result in
    ends c.args.gathering.now c.loop-place.gathering (flat_places f at (take (end - at) (drop at entries)))
    (next_candidates c.args.prepared.now entries c.args.taken) (part_end f entries at end c.loop-place-test.false) c.loop-place.invariant
