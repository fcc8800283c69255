use Rattle.std.proofs.Common.{ℕ, ◌<◌, length, Option, Some, None, arith, refl, ◌∙◌}
use Rattle.std.proofs.lemmas.List.{length-set, set-set}
use Rattle.std.proofs.lemmas.Option.{slice_get_read}
use Rattle.hall_match.specs.declared.search.Move.{Move}
use Rattle.hall_match.specs.Search.{Instance, instance}
use Rattle.hall_match.proofs.ChainLemmas.{none_from}
use Rattle.hall_match.proofs.MoveLemmas.{move_user, move_steps, move_falls, move_ends, path_inside}
use Rattle.hall_match.proofs.settling.settle.Goals as goal

pub release-requires : goal.release-requires
release-requires c =
    let s : Instance = instance c.args.capacities.now c.args.rows.now c.args.held.now.given.items
    c.args.item in
    let old = c.loop-here in
    let user = move_user s c.in-Path.path.items old.held.given.items old.here c.in-Some.step
    old.invariant.found.found.tree old.invariant.moving c.in-Some.is in user.1

pub give-requires-clause-item : goal.give-requires-clause-item
give-requires-clause-item c =
    let s : Instance = instance c.args.capacities.now c.args.rows.now c.args.held.now.given.items
    c.args.item in
    let old = c.loop-here in
    let user = move_user s c.in-Path.path.items old.held.given.items old.here c.in-Some.step
    old.invariant.found.found.tree old.invariant.moving c.in-Some.is in
    let long = length-set {A = Option ℕ} old.held.given.items c.in-Some.step.item None in
    rw c.release.ensures.given (omega (arith, user.1, long))

pub give-requires-clause-inside : goal.give-requires-clause-inside
give-requires-clause-inside c =
    let s : Instance = instance c.args.capacities.now c.args.rows.now c.args.held.now.given.items
    c.args.item in
    let old = c.loop-here in
    let inside = path_inside s c.in-Path.path.items old.here old.invariant.moving.at
    (length s.capacities) old.invariant.found old.invariant.moving.is_here c.requires.inside in
    omega (arith, inside, c.release.ensures.places, old.invariant.places)

pub index-here-requires-in-Some : goal.index-here-requires-in-Some
index-here-requires-in-Some c =
    let s : Instance = instance c.args.capacities.now c.args.rows.now c.args.held.now.given.items
    c.args.item in
    let old = c.loop-here in
    let user = move_user s c.in-Path.path.items old.held.given.items old.here c.in-Some.step
    old.invariant.found.found.tree old.invariant.moving c.in-Some.is in
    omega (arith, user.2, c.in-Path.path.ok.0)

pub loop-here-smaller : goal.loop-here-smaller
loop-here-smaller c =
    let s : Instance = instance c.args.capacities.now c.args.rows.now c.args.held.now.given.items
    c.args.item in
    let old = c.loop-here in
    let path = c.in-Path.path.items in
    let user = move_user s path old.held.given.items old.here c.in-Some.step
    old.invariant.found.found.tree old.invariant.moving c.in-Some.is in
    let next = slice_get_read path (length path) c.in-Some.step.from c.index-here-in-Some.result.now
    refl user.2 c.index-here-in-Some.ensures in
    move_falls s path old.here c.index-here-in-Some.result.now c.in-Some.step old.invariant.moving.at
    old.invariant.found.found.tree old.invariant.moving.is_here c.in-Some.is next

pub loop-here-preserved : goal.loop-here-preserved
loop-here-preserved c =
    let s : Instance = instance c.args.capacities.now c.args.rows.now c.args.held.now.given.items
    c.args.item in
    let old = c.loop-here in
    let path = c.in-Path.path.items in
    let now = old.held.given.items in
    let step = c.in-Some.step in
    let user = move_user s path now old.here step old.invariant.found.found.tree
    old.invariant.moving c.in-Some.is in
    let next = slice_get_read path (length path) step.from c.index-here-in-Some.result.now refl user.2
    c.index-here-in-Some.ensures in
    let moved = move_steps s path now old.here step old.invariant.found.found.tree
    old.invariant.moving c.in-Some.is c.index-here-in-Some.result.now next in
    record {
      places = c.give.ensures.places ∙ c.release.ensures.places ∙ old.invariant.places;
      found = old.invariant.found;
      moving = rw (
        c.give.ensures.given,
        c.release.ensures.given,
        set-set {A = Option ℕ} now
            step.item None (Some old.here.place),
      ) moved;
    }

pub give-requires-2-clause-inside : goal.give-requires-2-clause-inside
give-requires-2-clause-inside c =
    let s : Instance = instance c.args.capacities.now c.args.rows.now c.args.held.now.given.items
    c.args.item in
    let old = c.loop-here in
    let inside = path_inside s c.in-Path.path.items old.here old.invariant.moving.at
    (length s.capacities) old.invariant.found old.invariant.moving.is_here c.requires.inside in
    omega (arith, inside, old.invariant.places)

pub returns-clause-outcome : goal.returns-clause-outcome
returns-clause-outcome c =
    let s : Instance = instance c.args.capacities.now c.args.rows.now c.args.held.now.given.items
    c.args.item in
    let last = c.loop-here in
    let long = last.invariant.moving.whole in
    let inside : s.item < length last.held.given.items = omega
    (arith, long, c.requires.item, c.requires.whole) in
    rw c.give-2.ensures.given (move_ends s c.in-Path.path.items last.held.given.items last.here
    last.invariant.found inside last.invariant.moving (none_from {X = Move} last.here.by
    c.in_default.not-Some))
