use Rattle.std.proofs.Common.{ℕ, ◌≡◌, ◌<◌, ◌≤◌, ◌∙◌, length, replicate, Option, Some, None, arith, rules}
use Rattle.std.proofs.lemmas.List.{length-replicate, length-set, get_or_read}
use Rattle.hall_match.specs.Holding.{given_at}
use Rattle.hall_match.proofs.ChainLemmas.{none_from, chains_none, chains_free, chains_used}
use Rattle.hall_match.proofs.users.users_from.Goals as goal
use Rattle.hall_match.proofs.users.users_from.Goals.{in-Some, in_default}

pub loop-item-init : goal.loop-item-init
loop-item-init c =
    let last : c.in_ok-last.last.items ≡ replicate c.args.places None = search rules in
    let before : c.in_ok-before.before.items ≡ replicate (length c.args.given.now) None = search
    rules in
    record {
      places = rw last (length-replicate {A = Option ℕ} c.args.places None);
      items = rw before (length-replicate {A = Option ℕ} (length c.args.given.now) None);
      chains = rw (last, before) (chains_none c.args.given.now c.args.low c.args.places
          (length c.args.given.now));
    }

pub loop-item-preserved : goal.loop-item-preserved
loop-item-preserved c =
    let old = c.loop-item in
    let places : ℕ = c.args.places in
    elim c.match-given-item.branch [
      | in-Some w ↦
          let place : ℕ = w.in-Some.place in
          let inside : place < length old.last.items = let p = c.requires.inside old.item place
          w.in-Some.is in omega (arith, p, old.invariant.places) in
          let room : old.item < length old.before.items = omega (arith, old.invariant.items) in
          let up : c.args.low ≤ old.item = omega arith in
          let read = get_or_read old.last.items place w.index.result.now inside w.index.ensures
          None in
          rw (w.last-is, w.before-is) (record {
            places = length-set old.last.items place (Some old.item) ∙ old.invariant.places;
            items = length-set old.before.items old.item w.index.result.now ∙ old.invariant.items;
            chains = rw read (chains_used c.args.given.now c.args.low old.item place old.last.items
                old.before.items up w.in-Some.is inside room old.invariant.chains);
          })
      | in_default w ↦
          rw (w.last-is, w.before-is) (record {
            places = old.invariant.places;
            items = old.invariant.items;
            chains = chains_free c.args.given.now c.args.low old.item old.last.items
                old.before.items (none_from (given_at c.args.given.now old.item)
                w.in_default.not-Some) old.invariant.chains;
          })
    ]

pub returns-clause-chains : goal.returns-clause-chains
returns-clause-chains c =
    let all : c.loop-item.item ≡ length c.args.given.now = omega (arith, c.requires.low) in rw all
    at c.loop-item.invariant.chains
