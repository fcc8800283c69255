use Rattle.std.proofs.Common.{ℕ, ◌≡◌, ◌<◌, length, get_or, List, arith, sym, ◌∙◌}
use Rattle.hall_match.specs.Rows.{lists, row_at}
use Rattle.hall_match.specs.Search.{Instance, instance}
use Rattle.hall_match.proofs.SearchLemmas.{near_inside, row_seen, row_next, goes_further, next_seen, read_true}
use Rattle.hall_match.proofs.search.reach_row.Goals as goal

pub index-requires : goal.index-requires
index-requires c =
    let inside = near_inside (lists c.args.rows.now) (length c.args.capacities.now) c.args.by.item c.row_of-place-items.result.now c.loop-place.place-index
    c.requires.inside c.row_of-place-items.ensures c.loop-place-test.true in
    omega (
      arith,
      inside,
      c.requires.places,
      c.loop-place.invariant.goes_on.places,
      c.loop-place.search.seen.ok.0,
    )

pub visit-requires : goal.visit-requires
visit-requires c =
    let inside = near_inside (lists c.args.rows.now) (length c.args.capacities.now) c.args.by.item c.row_of-place-items.result.now c.loop-place.place-index
    c.requires.inside c.row_of-place-items.ensures c.loop-place-test.true in
    omega (arith, inside, c.requires.places, c.loop-place.invariant.goes_on.places)

pub has_room-requires-clause-listed : goal.has_room-requires-clause-listed
has_room-requires-clause-listed c =
    near_inside (lists c.args.rows.now) (length c.args.capacities.now) c.args.by.item c.row_of-place-items.result.now c.loop-place.place-index
    c.requires.inside c.row_of-place-items.ensures c.loop-place-test.true

pub has_room-requires-clause-inside : goal.has_room-requires-clause-inside
has_room-requires-clause-inside c =
    let inside = near_inside (lists c.args.rows.now) (length c.args.capacities.now) c.args.by.item c.row_of-place-items.result.now c.loop-place.place-index
    c.requires.inside c.row_of-place-items.ensures c.loop-place-test.true in
    omega (arith, inside, c.requires.used)

pub returns-then-has_room : goal.returns-then-has_room
returns-then-has_room c =
    let old = c.loop-place in
    let start = c.args.search.now in
    let new = c.visit.new.search in
    let s : Instance = instance c.args.capacities.now c.args.rows.now c.args.held.now.given.items
    start.item in
    let long : length old.search.seen.items ≡ length s.capacities =
    old.invariant.goes_on.places ∙ c.requires.places in
    let step = row_next s old.search.seen.items new.seen.items start.reached.items
    old.search.reached.items new.reached.items c.args.by c.row_of-place-items.result.now
    old.place-index c.index.result.now old.invariant.search c.requires.later
    old.invariant.goes_on.reached c.requires.from c.row_of-place-items.ensures
    c.loop-place-test.true (rw long c.requires.inside) c.index.ensures c.if-index.false
    c.in_ok-visit.ensures.seen c.in_ok-visit.ensures.reached in
    record {
      item = c.visit.ensures.item ∙ old.invariant.item;
      goes_on = goes_further start.seen.items old.search.seen.items new.seen.items
          start.reached.items old.search.reached.items new.reached.items
          old.invariant.goes_on step.goes_on;
      outcome = step.found (sym c.has_room.ensures ∙ c.if-has_room.true);
      seen = tt;
    }

pub loop-place-preserved-then-index : goal.loop-place-preserved-then-index
loop-place-preserved-then-index c =
    let old = c.loop-place in
    let seen = old.search.seen.items in
    let items : List ℕ = c.row_of-place-items.result.now in
    let place : ℕ = get_or items old.place-index 0 in
    let inside = near_inside (lists c.args.rows.now) (length c.args.capacities.now) c.args.by.item items old.place-index
    c.requires.inside c.row_of-place-items.ensures c.loop-place-test.true in
    let within : place < length seen =
    omega (arith, inside, c.requires.places, old.invariant.goes_on.places) in
    let here = read_true seen place c.index.result.now within c.index.ensures c.if-index.true in
    record {
      item = old.invariant.item;
      goes_on = old.invariant.goes_on;
      search = old.invariant.search;
      seen = next_seen seen seen items old.place-index (λ p e. e) here old.invariant.seen;
    }

pub loop-place-preserved : goal.loop-place-preserved
loop-place-preserved c =
    let old = c.loop-place in
    let start = c.args.search.now in
    let new = c.visit.new.search in
    let items : List ℕ = c.row_of-place-items.result.now in
    let s : Instance = instance c.args.capacities.now c.args.rows.now c.args.held.now.given.items
    start.item in
    let long : length old.search.seen.items ≡ length s.capacities =
    old.invariant.goes_on.places ∙ c.requires.places in
    let step = row_next s old.search.seen.items new.seen.items start.reached.items
    old.search.reached.items new.reached.items c.args.by items
    old.place-index c.index.result.now old.invariant.search c.requires.later
    old.invariant.goes_on.reached c.requires.from c.row_of-place-items.ensures
    c.loop-place-test.true (rw long c.requires.inside) c.index.ensures c.if-index.false
    c.in_ok-visit.ensures.seen c.in_ok-visit.ensures.reached in
    record {
      item = c.visit.ensures.item ∙ old.invariant.item;
      goes_on = goes_further start.seen.items old.search.seen.items new.seen.items
          start.reached.items old.search.reached.items new.reached.items
          old.invariant.goes_on step.goes_on;
      search = step.full (sym c.has_room.ensures ∙ c.if-has_room.false);
      seen = next_seen old.search.seen.items new.seen.items items old.place-index
          step.goes_on.seen step.here old.invariant.seen;
    }

pub returns-clause-seen : goal.returns-clause-seen
returns-clause-seen c =
    row_seen c.loop-place.search.seen.items (row_at (lists c.args.rows.now) c.args.by.item)
    c.row_of-place-items.result.now c.row_of-place-items.ensures
    (λ k l. c.loop-place.invariant.seen k (omega (arith, l)))
