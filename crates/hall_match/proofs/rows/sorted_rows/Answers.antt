use Rattle.std.proofs.Common.{◌<◌, length, arith, refl, ◌∙◌}
use Rattle.std.proofs.lemmas.List.{length-map, length-set}
use Rattle.std.proofs.lemmas.List.Sorted.{IsNonDecreasingBy-from_sort}
use Rattle.hall_match.specs.Rows.{lists}
use Rattle.hall_match.proofs.RowLemmas.{sorted_same, sorted_rising, all_rising}
use Rattle.hall_match.proofs.rows.sorted_rows.Goals as goal

pub loop-i-init : goal.loop-i-init
loop-i-init c = record {
  whole = refl;
  same = λ item place. (λ h. h, λ h. h);
  rising = λ item l. absurd (omega arith);
}

pub loop-i-preserved : goal.loop-i-preserved
loop-i-preserved c =
    let old = c.loop-i in
    let rows = old.rows.items in
    let inside : old.i < length rows = omega (
      arith,
      old.rows.ok.0,
      old.invariant.whole,
      c.args.rows.ok.0,
    ) in
    record {
      whole = length-set rows old.i c.sort.new.self ∙ old.invariant.whole;
      same = sorted_same (lists c.args.rows.items) rows old.i c.index_mut.result.now c.sort.new.self
          inside c.index_mut.ensures.value c.in_ok-sort.ensures.permutation old.invariant.same;
      rising = sorted_rising rows old.i c.sort.new.self inside
          (IsNonDecreasingBy-from_sort (λ x. x) c.sort.new.self.items c.in_ok-sort.ensures.sorted)
          old.invariant.rising;
    }

pub returns : goal.returns
returns c =
    let last = c.loop-i in
    record {
      whole = last.invariant.whole;
      same = last.invariant.same;
      rising = all_rising (lists last.rows.items) (λ item l. last.invariant.rising item
          (let long = length-map last.rows.items (λ row. row.items) in omega
          (arith, long, l, last.invariant.whole, c.args.rows.ok.0)));
    }
