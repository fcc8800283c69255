use Rattle.std.proofs.Common.{ℕ, get_or, List, arith}
use Rattle.std.proofs.lemmas.Bool.{MatchBool-at_true}
use Rattle.hall_match.specs.Rows.{row_at}
use Rattle.hall_match.specs.Search.{Instance, instance, IsFoundFrom, IsClosedWith}
use Rattle.hall_match.proofs.SearchLemmas.{near, row_seen, next_seen, read_true, least_path}
use Rattle.hall_match.proofs.search.find_path.Goals as goal

pub index-requires : goal.index-requires
index-requires c =
    let s : Instance = instance c.args.capacities.now c.args.rows.now c.args.held.now.given.items
    c.args.item in
    let items : List ℕ = c.row_of-place-items.result.now in
    let contained = near (row_at s.rows s.item) items c.loop-place.place-index
    c.row_of-place-items.ensures c.loop-place-test.true in
    let inside = c.requires.ready.inside s.item (get_or items c.loop-place.place-index 0)
    contained in
    omega (arith, inside, c.loop-place.invariant.places, c.loop-place.search.seen.ok.0)

pub returns-then-branch : goal.returns-then-branch
returns-then-branch c =
    let s : Instance = instance c.args.capacities.now c.args.rows.now c.args.held.now.given.items
    c.args.item in
    let old = c.loop-place in
    let new = c.reach_from.new.search in
    let items : List ℕ = c.row_of-place-items.result.now in
    let place : ℕ = get_or items old.place-index 0 in
    let same = old.invariant.item in
    let before : Instance = instance c.args.capacities.now c.args.rows.now c.args.held.now.given.items
    old.search.item in
    let found = MatchBool-at_true (IsFoundFrom before new.reached.items place)
    (IsClosedWith before old.search.seen.items new.seen.items place) c.if-branch.true
    c.in_ok-reach_from.ensures.outcome in
    least_path s old.search.seen.items new.reached.items items old.place-index
    c.row_of-place-items.ensures (c.requires.rising s.item) c.loop-place-test.true
    old.invariant.closed old.invariant.seen (rw same at found)

pub loop-place-preserved-then-index : goal.loop-place-preserved-then-index
loop-place-preserved-then-index c =
    let s : Instance = instance c.args.capacities.now c.args.rows.now c.args.held.now.given.items
    c.args.item in
    let old = c.loop-place in
    let seen = old.search.seen.items in
    let items : List ℕ = c.row_of-place-items.result.now in
    let place : ℕ = get_or items old.place-index 0 in
    let contained = near (row_at s.rows s.item) items old.place-index c.row_of-place-items.ensures
    c.loop-place-test.true in
    let inside = c.requires.ready.inside s.item place contained in
    let here = read_true seen place c.index.result.now (omega (arith, inside, old.invariant.places))
    c.index.ensures c.if-index.true in
    record {
      item = old.invariant.item;
      places = old.invariant.places;
      closed = old.invariant.closed;
      seen = next_seen seen seen items old.place-index (λ p e. e) here old.invariant.seen;
    }

pub returns : goal.returns
returns c =
    let s : Instance = instance c.args.capacities.now c.args.rows.now c.args.held.now.given.items
    c.args.item in
    let last = c.loop-place in
    record {
      places = last.invariant.places;
      closed = last.invariant.closed;
      row = row_seen last.search.seen.items (row_at s.rows s.item) c.row_of-place-items.result.now
          c.row_of-place-items.ensures (λ k l. last.invariant.seen k (omega (arith, l)));
    }
