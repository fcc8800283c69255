use Rattle.std.proofs.Common.{ℕ, ◌+◌, length, Some, arith}
use Rattle.std.proofs.lemmas.List.{length-set, get_or_read}
use Rattle.hall_match.proofs.HoldingLemmas.{holder_count-below, counted_give, inside_give}
use Rattle.hall_match.proofs.partial_matching.PartialMatching.give.Goals as goal

pub overflow_add-index_mut : goal.overflow_add-index_mut
overflow_add-index_mut c =
    let held = c.args.self.now in
    let place : ℕ = c.args.place in
    let below = holder_count-below held.given.items c.args.item place c.requires.item c.requires.free in
    let read = get_or_read held.used.items place c.index_mut-2.result.now c.requires.inside
    c.index_mut-2.ensures.value 0 in
    let count = held.counted place c.requires.inside in
    let few = held.few in omega (arith, below, read, count, few)

pub invariant_of-self : goal.invariant_of-self
invariant_of-self c =
    let held = c.args.self.now in
    let long = length-set held.given.items c.args.item (Some c.args.place) in
    let used = length-set held.used.items c.args.place (c.index_mut-2.result.now + 1) in
    let few = held.few in
    record {
      few = omega (arith, long, few);
      inside = λ i p e. let r = inside_give held.given.items (length held.used.items) c.args.item
          c.args.place c.requires.inside held.inside i p e in omega (arith, r, used);
      counted = counted_give held.given.items held.used.items c.args.item c.args.place
          c.index_mut-2.result.now c.requires.item c.requires.free c.requires.inside
          c.index_mut-2.ensures.value held.counted;
    }
