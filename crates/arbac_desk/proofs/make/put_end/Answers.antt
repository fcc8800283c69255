use Rattle.std.proofs.Common.{length}
use Rattle.std.specs.Prelude.{codes}
use Rattle.std.specs.Fmt.{decimal}
use Rattle.std.proofs.lemmas.Result.{IfOk-equal}
use Rattle.arbac_desk.proofs.MakeLemmas.{end_pieces}
use Rattle.arbac_desk.proofs.make.put_end.Goals as goal

-- the pieces, in their order, are the text
pub returns-in_ok-put_count-in-Found-2 : goal.returns-in_ok-put_count-in-Found-2
returns-in_ok-put_count-in-Found-2 c = IfOk-equal c.put.result _ _ _ c.put.ensures
    (rw (c.in-Found.is, c.in_ok-put_count-in-Found-2.ensures, c.in_ok-put_count-in-Found.ensures, c.len.ensures, c.in-Found.acts.ok.0)
    (end_pieces c.args.text.now.items (codes ", recorded ") (decimal c.in-Found.recorded) (codes ", reachable by ")
    (decimal (length c.in-Found.acts.items)) (codes " acts\n")))

-- the pieces, in their order, are the text
pub returns-in_ok-put_count-in-Closed-2 : goal.returns-in_ok-put_count-in-Closed-2
returns-in_ok-put_count-in-Closed-2 c = IfOk-equal c.put-in-Closed.result _ _ _ c.put-in-Closed.ensures
    (rw (c.in-Closed.is, c.in_ok-put_count-in-Closed-2.ensures, c.in_ok-put_count-in-Closed.ensures, c.len-in-Closed.ensures, c.in-Closed.needs.ok.0)
    (end_pieces c.args.text.now.items (codes ", recorded ") (decimal c.in-Closed.recorded) (codes ", unreachable by ")
    (decimal (length c.in-Closed.needs.items)) (codes " needs\n")))
