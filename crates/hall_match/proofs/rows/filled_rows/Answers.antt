use Rattle.std.proofs.Common.{ℕ, ◌<◌, List, length, get_or, arith, refl, ◌∙◌}
use Rattle.std.proofs.lemmas.List.{take_all, length-set}
use Rattle.hall_match.proofs.RowLemmas.{filled}
use Rattle.hall_match.proofs.rows.filled_rows.Goals as goal

pub loop-item-init : goal.loop-item-init
loop-item-init c = record { whole = refl; edges = c.requires.empty }

pub index_mut-requires : goal.index_mut-requires
index_mut-requires c =
    let k : ℕ = c.loop-item.item-index in
    omega (
      arith,
      c.requires.items k (0, 0) (omega arith),
      c.loop-item.rows.ok.0,
      c.loop-item.invariant.whole,
    )

pub loop-item-preserved : goal.loop-item-preserved
loop-item-preserved c =
    let edges : List (ℕ × ℕ) = c.args.edges.now in
    let k : ℕ = c.loop-item.item-index in
    let edge : ℕ × ℕ = get_or edges k (0, 0) in
    let rows = c.loop-item.rows.items in
    let below : k < length edges = omega arith in
    let inside : edge.0 < length rows = omega (
      arith,
      c.requires.items k (0, 0) below,
      c.loop-item.invariant.whole,
    ) in
    record {
      whole = length-set rows edge.0 c.push.new.self ∙ c.loop-item.invariant.whole;
      edges = filled rows edges k edge.0 edge.1 c.index_mut.result.now c.push.new.self below refl
          inside c.index_mut.ensures.value c.in_ok-push.ensures.items c.loop-item.invariant.edges;
    }

pub returns : goal.returns
returns c =
    let all = take_all c.loop-item.item-index c.args.edges.now (omega arith) in
    record {
      whole = c.loop-item.invariant.whole;
      edges = rw all at c.loop-item.invariant.edges;
    }
