use Rattle.std.proofs.Common.{ℕ, ◌≡◌, ◌∙◌, ◌++◌, ◌∷◌, ◌<◌, ◌+◌, [], sym, ap, subst, Some, take, length, arith, slice_index_or}
use Rattle.std.specs.Prelude.{slice_get}
use Rattle.std.proofs.lemmas.Bool.{false≢true}
use Rattle.list_words.proofs.EachLemmas.{each_at}
use Rattle.list_words.proofs.GetLemmas.{get_at, take_one_more}
use Rattle.role_order.specs.Graph.{IsEdge}
use Rattle.role_order.specs.Closures.{AreAbove}
use Rattle.role_order.proofs.ClosureLemmas.{raised_above, known_above, acyclic_more}
use Rattle.role_order.proofs.closure.close.Goals.{then-not-has, else-not-has}
use Rattle.role_order.proofs.closure.close.Goals as goal

-- one edge more: the table is raised, or led along it already
pub loop-place-preserved : goal.loop-place-preserved
loop-place-preserved c =
    let front = take c.loop-place.place c.args.edges.now in
    let edge : ℕ × ℕ = slice_index_or c.args.edges.now c.loop-place.place (0, 0) in
    let at : slice_get c.args.edges.now c.loop-place.place ≡ Some edge = get_at c.args.edges.now c.loop-place.place (0, 0) c.loop-place-test.true in
    let ends : IsEdge c.args.count edge = each_at (IsEdge c.args.count) c.args.edges.now c.loop-place.place edge c.requires.ends at in
    let more : take (c.loop-place.place + 1) c.args.edges.now ≡ front ++ edge ∷ [] = take_one_more c.args.edges.now c.loop-place.place edge at in
    let table : AreAbove c.args.count front c.loop-place.above.items = c.loop-place.invariant.table in
    let few_senior : edge.0 < length c.loop-place.above.items = omega (arith, table.long, ends.0) in
    let few_junior : edge.1 < length c.loop-place.above.items = omega (arith, table.long, ends.1) in
    let senior_at : slice_get c.loop-place.above.items edge.0 ≡ Some c.index.result.now =
    get_at c.loop-place.above.items edge.0 c.index.result.now few_senior ∙ ap Some (sym c.index.ensures) in
    let junior_at : slice_get c.loop-place.above.items edge.1 ≡ Some c.index-in-loop-place.result.now =
    get_at c.loop-place.above.items edge.1 c.index-in-loop-place.result.now few_junior ∙ ap Some (sym c.index-in-loop-place.ensures) in
    record {
      table = subst (λ t. AreAbove c.args.count t c.if-not-has.above.items) (sym more) (elim c.if-not-has.branch [
        | then-not-has w ↦ rw (w.above-is, w.add_edge.ensures) (raised_above c.args.count front c.loop-place.above.items edge.0 edge.1 table ends.0 ends.1)
        | else-not-has w ↦ rw w.above-is (known_above c.args.count front c.loop-place.above.items edge.0 edge.1 table
            ((table.each edge.1 c.index-in-loop-place.result.now junior_at edge.0).0 (sym c.has-in-loop-place.ensures.value ∙ w.if-not-has.false)))
      ]);
      acyclic = acyclic_more c.args.edges.now c.loop-place.place edge at c.loop-place.invariant.acyclic
          (λ back. false≢true (sym c.if-has.false ∙ c.has.ensures.value ∙ (table.each edge.0 c.index.result.now senior_at edge.1).1 back));
    }
