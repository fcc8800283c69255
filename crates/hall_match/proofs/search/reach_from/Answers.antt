use Rattle.std.proofs.Common.{ℕ, ◌≡◌, ◌+◌, ◌<◌, length, Option, Some, None, arith, refl, sym, ◌∙◌}
use Rattle.std.specs.Prelude.{slice_get}
use Rattle.std.proofs.lemmas.Bool.{MatchBool-at_true}
use Rattle.hall_match.specs.declared.search.Reached.{Reached}
use Rattle.hall_match.specs.Search.{Instance, instance, IsSeen, IsSearch, IsFound}
use Rattle.hall_match.proofs.SearchLemmas.{goes_same, found_begins, search_begins, search_ends, seen_here, seen_still}
use Rattle.hall_match.proofs.search.reach_from.Goals as goal

pub visit-requires : goal.visit-requires
visit-requires c =
    let inside = c.requires.ready.inside c.args.search.now.item c.args.place c.requires.neighbour in
    omega (arith, inside, c.requires.places)

pub has_room-requires-clause-listed : goal.has_room-requires-clause-listed
has_room-requires-clause-listed c = c.requires.ready.inside c.args.search.now.item c.args.place
    c.requires.neighbour

pub has_room-requires-clause-inside : goal.has_room-requires-clause-inside
has_room-requires-clause-inside c =
    let inside = c.requires.ready.inside c.args.search.now.item c.args.place c.requires.neighbour in
    omega (arith, inside, c.requires.ready.counts)

pub returns-then-has_room-clause-outcome : goal.returns-then-has_room-clause-outcome
returns-then-has_room-clause-outcome c =
    let s : Instance = instance c.args.capacities.now c.args.rows.now c.args.held.now.given.items
    c.args.search.now.item in
    let room = sym c.has_room.ensures ∙ c.if-has_room.true in
    rw (c.in_ok-visit.ensures.reached, c.clear.ensures.items) (record {
      found = found_begins s c.args.search.now.seen.items c.args.place room;
      begins = refl;
    })

pub loop-at-init : goal.loop-at-init
loop-at-init c =
    let s : Instance = instance c.args.capacities.now c.args.rows.now c.args.held.now.given.items
    c.args.search.now.item in
    let full = sym c.has_room.ensures ∙ c.if-has_room.false in
    let new = c.visit.new.search in
    let inside = c.requires.ready.inside c.args.search.now.item c.args.place c.requires.neighbour in
    let begins = search_begins s c.args.search.now.seen.items c.args.place c.requires.closed
    (omega (arith, inside, c.requires.places)) c.requires.neighbour full in
    record {
      item = refl;
      goes_on = goes_same new.seen.items new.reached.items;
      search = rw (
        c.in_ok-visit.ensures.item,
        c.in_ok-visit.ensures.seen,
        c.in_ok-visit.ensures.reached,
        c.clear.ensures.items,
      ) begins;
    }

pub returns-then-branch-clause-outcome : goal.returns-then-branch-clause-outcome
returns-then-branch-clause-outcome c =
    let old = c.loop-at in
    let new = c.reach_by_users.new.search in
    let same = old.invariant.item ∙ c.in_ok-visit.ensures.item in
    let before : Instance = instance c.args.capacities.now c.args.rows.now c.args.held.now.given.items
    old.search.item in
    let found = MatchBool-at_true (IsFound before new.reached.items)
    (IsSearch before new.seen.items new.reached.items (old.at + 1)) c.if-branch.true
    c.in_ok-reach_by_users.ensures.outcome in
    let first : ◌≡◌ {A = Option Reached} (slice_get c.visit.new.search.reached.items 0)
    (Some (record { place = c.args.place; by = None })) = rw
    (c.in_ok-visit.ensures.reached, c.clear.ensures.items) refl in
    record {
      found = rw same at found;
      begins = c.in_ok-reach_by_users.ensures.goes_on.reached 0
          (record { place = c.args.place; by = None }) (old.invariant.goes_on.reached 0
          (record { place = c.args.place; by = None }) first);
    }

pub returns-clause-outcome : goal.returns-clause-outcome
returns-clause-outcome c =
    let last = c.loop-at in
    let seen = c.args.search.now.seen.items in
    let now = last.search.seen.items in
    let place : ℕ = c.args.place in
    let same = c.in_ok-visit.ensures.item in
    let marks = c.in_ok-visit.ensures.seen in
    let inside = c.requires.ready.inside c.args.search.now.item place c.requires.neighbour in
    let within : place < length seen = omega (arith, inside, c.requires.places) in
    let before : Instance = instance c.args.capacities.now c.args.rows.now c.args.held.now.given.items
    c.visit.new.search.item in
    let closed = search_ends before now last.search.reached.items last.at
    (omega (arith, c.loop-at-test.false, c.len.ensures, last.search.reached.ok.0))
    last.invariant.search in
    let still = λ (p : ℕ) (e : IsSeen seen p). last.invariant.goes_on.seen p
    (rw marks (seen_still seen place p e)) in
    record {
      closed = rw same at closed;
      here = last.invariant.goes_on.seen place (rw marks (seen_here seen place within));
      still = still;
    }
