use Rattle.std.proofs.lemmas.Result.{IfOk-weaker}
use Rattle.hall_match.specs.Rows.{lists, HaveEdges, HaveSame}
use Rattle.hall_match.proofs.RowLemmas.{same_edges}
use Rattle.hall_match.proofs.rows.rows_of.Goals as goal

pub returns-clause-edges : goal.returns-clause-edges
returns-clause-edges c =
    let filled = lists c.in_ok-rows-2.rows.items in
    IfOk-weaker c.sorted_rows.result (λ rows. HaveSame filled (lists rows.items))
    (λ rows. HaveEdges (lists rows.items) c.args.edges.now)
    (λ rows same. same_edges filled (lists rows.items) c.args.edges.now same
    c.in_ok-rows-2.ensures.edges) c.sorted_rows.ensures.same
