use Rattle.std.proofs.Common.{ℕ, ◌+◌, ◌<◌, length, Option, None, arith, refl, sym, ◌∙◌, subst}
use Rattle.std.proofs.lemmas.Bool.{MatchBool-at_false}
use Rattle.std.proofs.lemmas.List.{get_or_read}
use Rattle.std.proofs.lemmas.Option.{slice_get_read}
use Rattle.hall_match.specs.Rows.{row_at}
use Rattle.hall_match.specs.Chains.{IsLastUser}
use Rattle.hall_match.specs.Search.{Instance, instance, IsRowSeen, IsSearch, IsFound}
use Rattle.hall_match.proofs.ChainLemmas.{none_from}
use Rattle.hall_match.proofs.SearchLemmas.{seen_inside, goes_same, goes_further, search_next}
use Rattle.hall_match.proofs.WalkLemmas.{walk_starts, walk_steps, walk_ends, walk_falls, walk_at, walk_on}
use Rattle.hall_match.proofs.search.reach_by_users.Goals as goal

pub index-user-requires : goal.index-user-requires
index-user-requires c =
    let start = c.args.search.now in
    let here = slice_get_read start.reached.items (length start.reached.items) c.args.at
    c.index.result.now refl c.requires.at c.index.ensures in
    let inside = seen_inside start.seen.items c.index.result.now.place
    (c.requires.search.marked c.args.at c.index.result.now here) in
    omega (arith, inside, c.requires.places, c.requires.ready.places, c.args.users.now.last.ok.0)

pub loop-user-init : goal.loop-user-init
loop-user-init c =
    let start = c.args.search.now in
    let s : Instance = instance c.args.capacities.now c.args.rows.now c.args.held.now.given.items
    start.item in
    let place : ℕ = c.index.result.now.place in
    let here = slice_get_read start.reached.items (length start.reached.items) c.args.at
    c.index.result.now refl c.requires.at c.index.ensures in
    let seen = seen_inside start.seen.items place (c.requires.search.marked c.args.at
    c.index.result.now here) in
    let inside : place < length c.args.users.now.last.items = omega
    (arith, seen, c.requires.places, c.requires.ready.places) in
    let read = get_or_read c.args.users.now.last.items place c.index-user.result.now inside
    c.index-user.ensures None in
    let last = subst (λ (o : Option ℕ). IsLastUser s.given place (s.item + 1) (length s.given) o)
    (sym read) (c.requires.ready.chains.last place inside) in
    record {
      item = refl;
      goes_on = goes_same start.seen.items start.reached.items;
      search = c.requires.search;
      walk = walk_starts s start.seen.items place c.index-user.result.now last;
    }

pub reach_row-requires-clause-from : goal.reach_row-requires-clause-from
reach_row-requires-clause-from c =
    let start = c.args.search.now in
    let s : Instance = instance c.args.capacities.now c.args.rows.now c.args.held.now.given.items
    start.item in
    let here = slice_get_read start.reached.items (length start.reached.items) c.args.at
    c.index.result.now refl c.requires.at c.index.ensures in
    let user = walk_at s c.loop-user.search.seen.items c.index.result.now.place c.in-Some.item
    c.loop-user.user c.in-Some.is c.loop-user.invariant.walk in (
      c.index.result.now,
      c.loop-user.invariant.goes_on.reached c.args.at c.index.result.now here,
      user.1,
    )

pub loop-user-smaller : goal.loop-user-smaller
loop-user-smaller c =
    let start = c.args.search.now in
    let s : Instance = instance c.args.capacities.now c.args.rows.now c.args.held.now.given.items
    start.item in
    let old = c.loop-user in
    let ready = c.requires.ready in
    let next = walk_on s old.search.seen.items c.index.result.now.place c.in-Some.item old.user
    c.index-user-in-Some.result.now c.args.users.now.last.items c.args.users.now.before.items
    ready.chains ready.items c.in-Some.is
    old.invariant.walk c.index-user-in-Some.ensures in
    walk_falls s c.index.result.now.place c.in-Some.item old.user c.index-user-in-Some.result.now
    c.in-Some.is next

pub loop-user-preserved : goal.loop-user-preserved
loop-user-preserved c =
    let start = c.args.search.now in
    let s : Instance = instance c.args.capacities.now c.args.rows.now c.args.held.now.given.items
    start.item in
    let old = c.loop-user in
    let new = c.reach_row.new.search in
    let ready = c.requires.ready in
    let place : ℕ = c.index.result.now.place in
    let item : ℕ = c.in-Some.item in
    let row = c.in_ok-reach_row.ensures in
    let next = walk_on s old.search.seen.items place item old.user c.index-user-in-Some.result.now
    c.args.users.now.last.items c.args.users.now.before.items ready.chains ready.items
    c.in-Some.is old.invariant.walk
    c.index-user-in-Some.ensures in
    let same = old.invariant.item in
    let search = MatchBool-at_false (IsFound (instance c.args.capacities.now c.args.rows.now
    c.args.held.now.given.items old.search.item) new.reached.items)
    (IsSearch (instance c.args.capacities.now c.args.rows.now c.args.held.now.given.items
    old.search.item) new.seen.items new.reached.items c.args.at) c.if-branch.false
    row.outcome in
    let seen = MatchBool-at_false (Unit {0}) (IsRowSeen new.seen.items (row_at s.rows item))
    c.if-branch.false row.seen in
    record {
      item = c.reach_row.ensures.item ∙ same;
      goes_on = goes_further start.seen.items old.search.seen.items new.seen.items
          start.reached.items old.search.reached.items new.reached.items old.invariant.goes_on
          row.goes_on;
      search = rw same at search;
      walk = walk_steps s old.search.seen.items new.seen.items place item old.user
          c.index-user-in-Some.result.now row.goes_on.seen c.in-Some.is old.invariant.walk seen
          next;
    }

pub returns-clause-outcome : goal.returns-clause-outcome
returns-clause-outcome c =
    let start = c.args.search.now in
    let s : Instance = instance c.args.capacities.now c.args.rows.now c.args.held.now.given.items
    start.item in
    let last = c.loop-user in
    let here = slice_get_read start.reached.items (length start.reached.items) c.args.at
    c.index.result.now refl c.requires.at c.index.ensures in
    let shut = walk_ends s last.search.seen.items c.index.result.now.place last.user
    (none_from last.user c.in_default.not-Some) last.invariant.walk in
    search_next s last.search.seen.items last.search.reached.items c.args.at c.index.result.now
    (last.invariant.goes_on.reached c.args.at c.index.result.now here) shut
    last.invariant.search
