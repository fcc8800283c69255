use Rattle.std.proofs.Common.{ℕ, List, [], length, arith, ap, ◌∙◌}
use Rattle.std.proofs.lemmas.List.{map_push, replicate_more, length-map, length-replicate}
use Rattle.hall_match.proofs.RowLemmas.{have_none}
use Rattle.hall_match.proofs.rows.empty_rows.Goals as goal

pub loop-preserved : goal.loop-preserved
loop-preserved c =
    rw (
      c.in_ok-push.ensures.items,
      map_push (λ row. row.items) c.loop.rows.items c.new.result,
      c.loop.invariant,
      c.new.ensures.items,
    ) (replicate_more c.loop.counter [])

pub returns-clause-whole : goal.returns-clause-whole
returns-clause-whole c =
    let a = length-map c.loop.rows.items (λ row. row.items) in
    let b = ap length c.loop.invariant ∙ length-replicate {A = List ℕ} c.loop.counter [] in omega
    (arith, a, b)

pub returns-clause-empty : goal.returns-clause-empty
returns-clause-empty c = rw c.loop.invariant (have_none c.loop.counter)
