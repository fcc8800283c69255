use Rattle.std.proofs.Common.{◌≡◌, ◌<◌, length, arith, ap, subst, sym, ◌∙◌, Some, None}
use Rattle.list_words.proofs.GetLemmas.{get_below}
use Rattle.mask_match.specs.Holding.{holder_at, Holds, AreHeld, IsGiven, AreShut}
use Rattle.mask_match.proofs.MovingLemmas.{put, held_below, put_held, put_displaces, put_free, put_moved, put_back, shut_more, row_read, row_has}
use Rattle.mask_match.proofs.placing.+find_place.Goals as goal

-- a free place is the item's
pub returns-in-None-clause-outcome : goal.returns-in-None-clause-outcome
returns-in-None-clause-outcome t c =
    let rows = c.args.rows.now in
    let old = c.args.holders.now.items in
    let place = c.in-Some.place in
    let same : c.loop-place.holders.items ≡ old = c.loop-place.invariant.same in
    let bit = row_has rows c.args.item place c.requires.item c.in-Some.ensures.found.set in
    let long : place < length c.loop-place.holders.items = omega (arith, c.in-Some.ensures.found.within) in
    let free : holder_at old place ≡ None = subst (λ v. holder_at v place ≡ None) same c.in-None.is in
    rw same (put_free rows old place c.args.item c.requires.held c.requires.placeless bit (subst (λ v. place < length v) same long) free)

-- who held the place has none now, and more is seen
pub find_place-requires : goal.find_place-requires
find_place-requires t c =
    let rows = c.args.rows.now in
    let old = c.args.holders.now.items in
    let place = c.in-Some.place in
    let other = c.in-Some-before.other in
    let same : c.loop-place.holders.items ≡ old = c.loop-place.invariant.same in
    let at : holder_at old place ≡ Some other = subst (λ v. holder_at v place ≡ Some other) same c.in-Some-before.is in
    let bit = row_has rows c.args.item place c.requires.item c.in-Some.ensures.found.set in
    let its = c.requires.held.own place other at in
    let held = put_held rows old place c.args.item c.requires.held c.requires.placeless bit (held_below old place other at) in
    let less = put_displaces rows old place c.args.item other c.requires.held c.requires.placeless at in (
      omega (arith, c.with_bit.ensures.more, c.loop-place.invariant.more),
      (
        get_below rows other its.0 its.1,
        (
          subst (λ v. AreHeld rows (put v place c.args.item)) (sym same) held,
          subst (λ v. Holds (put v place c.args.item) other → ⊥) (sym same) less,
        ),
      ),
    )

-- who held the place has another
pub returns-then-find_place-clause-outcome : goal.returns-then-find_place-clause-outcome
returns-then-find_place-clause-outcome t c =
    let rows = c.args.rows.now in
    let old = c.args.holders.now.items in
    let new = c.find_place.new.holders.items in
    let place = c.in-Some.place in
    let other = c.in-Some-before.other in
    let same : c.loop-place.holders.items ≡ old = c.loop-place.invariant.same in
    let at : holder_at old place ≡ Some other = subst (λ v. holder_at v place ≡ Some other) same c.in-Some-before.is in
    put_moved rows old new place c.args.item other at
    (subst (λ v. IsGiven rows (put v place c.args.item) new other) same c.if-find_place.ensures.outcome)

-- who held the place finds no other, and keeps it
pub loop-place-preserved : goal.loop-place-preserved
loop-place-preserved t c =
    let rows = c.args.rows.now in
    let old = c.args.holders.now.items in
    let now = c.find_place.new.seen in
    let place = c.in-Some.place in
    let other = c.in-Some-before.other in
    let same : c.loop-place.holders.items ≡ old = c.loop-place.invariant.same in
    let at : holder_at old place ≡ Some other = subst (λ v. holder_at v place ≡ Some other) same c.in-Some-before.is in
    let shut = subst (λ v. AreShut rows (put v place c.args.item) c.with_bit.result now) same c.if-find_place.ensures.outcome in
    let stays : c.find_place.new.holders.items ≡ put old place c.args.item =
    c.if-find_place.ensures.unmoved ∙ ap (λ v. put v place c.args.item) same in
    record {
      same = rw stays (put_back old place c.args.item other at);
      more = omega (arith, c.with_bit.ensures.more, c.loop-place.invariant.more, c.if-find_place.ensures.seen);
      shut = shut_more rows old c.args.seen.now c.loop-place.seen c.with_bit.result now place c.args.item other at
          c.with_bit.ensures.set c.loop-place.invariant.shut shut c.if-find_place.ensures.none;
    }

-- no bit of the row is left
pub returns-clause-none : goal.returns-clause-none
returns-clause-none t c = λ place has. c.in_default.ensures.none place (row_read c.args.rows.now c.args.item place has)
