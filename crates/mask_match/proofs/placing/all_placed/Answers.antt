use Rattle.std.proofs.Common.{◌<◌, ◌≤◌, length, arith}
use Rattle.std.proofs.lemmas.Bool.Decides.{nat_tests}
use Rattle.mask_match.specs.Rows.{HasBitAt}
use Rattle.mask_match.specs.declared.TheConstants.{MOST_PLACES}
use Rattle.mask_match.proofs.MovingLemmas.{all_held, none_yet, all_more, only_more, is_false, is_true}
use Rattle.mask_match.proofs.ShortageLemmas.{too_many, shut_in}
use Rattle.mask_match.proofs.placing.all_placed.Goals as goal

-- more items than places
pub returns-then-rows-gt-MOST_PLACES : goal.returns-then-rows-gt-MOST_PLACES
returns-then-rows-gt-MOST_PLACES c =
    let rows = c.args.rows.now in
    let more : MOST_PLACES < length rows = grind (arith, nat_tests) in
    is_false rows (λ p. too_many (HasBitAt rows) (length rows) MOST_PLACES p.0 more p.1)

pub loop-item-init : goal.loop-item-init
loop-item-init c = record {
  held = none_yet c.args.rows.now c.nobody-holders.result.items c.nobody-holders.ensures;
  all = λ k l. absurd (omega (arith, l));
  only = λ k has. absurd (c.nobody-holders.ensures k has);
}

-- the items before it alone have places
pub find_place-requires-clause-placeless : goal.find_place-requires-clause-placeless
find_place-requires-clause-placeless c = λ has. let l = c.loop-item.invariant.only c.loop-item.item has in absurd (omega (arith, l))

-- the item finds no place
pub returns-then-not-find_place : goal.returns-then-not-find_place
returns-then-not-find_place c =
    let rows = c.args.rows.now in
    let item = c.loop-item.item in
    let within : item < length rows = grind (arith, nat_tests) in
    is_false rows (λ p. shut_in rows c.loop-item.holders.items c.find_place.new.seen item p.0 c.loop-item.invariant.held
    (λ has. let l = c.loop-item.invariant.only item has in absurd (omega (arith, l))) within
    c.if-not-find_place.ensures.outcome c.if-not-find_place.ensures.none p.1)

-- one item more has a place
pub loop-item-preserved : goal.loop-item-preserved
loop-item-preserved c =
    let rows = c.args.rows.now in
    let old = c.loop-item.holders.items in
    let new = c.find_place.new.holders.items in
    let given = c.if-not-find_place.ensures.outcome in
    record {
      held = given.held;
      all = all_more rows old new c.loop-item.item given c.loop-item.invariant.all;
      only = only_more rows old new c.loop-item.item given c.loop-item.invariant.only;
    }

-- all have places
pub returns : goal.returns
returns c =
    let rows = c.args.rows.now in
    let h = c.loop-item.holders.items in
    let all : length rows ≤ c.loop-item.item = grind (arith, nat_tests) in
    is_true rows (all_held rows h c.loop-item.invariant.held (λ i. (c.type_inv.rows i).fits) (λ k l. c.loop-item.invariant.all k (omega (arith, l, all))))
