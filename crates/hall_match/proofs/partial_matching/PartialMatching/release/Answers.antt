use Rattle.std.proofs.Common.{ℕ, ◌≡◌, ◌<◌, ◌-◌, List, Option, Some, None, length, get_or, arith, ◌∙◌, sym}
use Rattle.std.proofs.lemmas.List.{length-set, get_or_read}
use Rattle.hall_match.specs.Holding.{given_at}
use Rattle.hall_match.proofs.HoldingLemmas.{holder_count-release, counted_release, inside_release}
use Rattle.hall_match.proofs.partial_matching.PartialMatching.release.Goals as goal

was_given : (given : List (Option ℕ)) (item : ℕ) (read : Option ℕ) (place : ℕ) → item < length given → read ≡ get_or given item read
    → read ≡ Some place
    → given_at given item ≡ Some place
was_given given item read place l is some = sym (get_or_read {X = Option ℕ} given item read l is None) ∙ some

pub index_mut-requires-in-Some : goal.index_mut-requires-in-Some
index_mut-requires-in-Some c =
    let held = c.args.self.now in
    let was = was_given held.given.items c.args.item c.index.result.now c.in-Some.place c.requires c.index.ensures c.in-Some.is in
    let inside = held.inside c.args.item c.in-Some.place was in omega
    (arith, inside, held.used.ok.0)

pub overflow_sub-index_mut : goal.overflow_sub-index_mut
overflow_sub-index_mut c =
    let held = c.args.self.now in
    let place : ℕ = c.in-Some.place in
    let was = was_given held.given.items c.args.item c.index.result.now place c.requires c.index.ensures c.in-Some.is in
    let inside = held.inside c.args.item place was in
    let read = get_or_read held.used.items place c.index_mut-in-Some.result.now inside
    c.index_mut-in-Some.ensures.value 0 in
    let count = held.counted place inside in
    let one = holder_count-release held.given.items c.args.item place was in omega
    (arith, read, count, one)

pub invariant_of-self : goal.invariant_of-self
invariant_of-self c =
    let held = c.args.self.now in
    let place : ℕ = c.in-Some.place in
    let was = was_given held.given.items c.args.item c.index.result.now place c.requires c.index.ensures c.in-Some.is in
    let inside = held.inside c.args.item place was in
    let long = length-set {A = Option ℕ} held.given.items c.args.item None in
    let used = length-set held.used.items place (c.index_mut-in-Some.result.now - 1) in
    let few = held.few in
    record {
      few = omega (arith, long, few);
      inside = λ i p e. let r = inside_release held.given.items (length held.used.items) c.args.item
          held.inside i p e in omega (arith, r, used);
      counted = counted_release held.given.items held.used.items c.args.item place
          c.index_mut-in-Some.result.now was inside c.index_mut-in-Some.ensures.value held.counted;
    }
