use Rattle.std.proofs.Common.{◌≡◌, arith, subst}
use Rattle.hall_match.proofs.EdgeLemmas.{HaveItems}
use Rattle.hall_match.proofs.JoinedLemmas.{GoesBelow, row_more, rows_whole}
use Rattle.hall_match.proofs.edges.pairs_where.Goals as goal

-- the next item's pairs are added
pub loop-item-preserved : goal.loop-item-preserved
loop-item-preserved g c =
    row_more (g.E.Edges.joins c.args.edges.now) c.args.places c.loop-item.pairs.items c.put_pairs.new.pairs.items c.loop-item.item c.loop-item.invariant
    c.in_ok-put_pairs.ensures

-- all items are gone through
pub returns : goal.returns
returns g c =
    let joins = g.E.Edges.joins c.args.edges.now in
    let all : c.loop-item.item ≡ c.args.items = omega (arith, c.loop-item-test.false, c.loop-item.auto.item-end) in
    rows_whole joins c.args.places c.loop-item.pairs.items c.args.items
    (subst (λ n. HaveItems c.loop-item.pairs.items n (GoesBelow joins c.args.places)) all c.loop-item.invariant)
