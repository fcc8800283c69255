use Rattle.std.proofs.Common.{◌≡◌, true, false, arith, sym, subst, ◌∙◌}
use Rattle.hall_match.proofs.EdgeLemmas.{HaveUpTo, place_more, place_same}
use Rattle.hall_match.proofs.edges.put_pairs.Goals.{then-has+in_ok-push, else-has}
use Rattle.hall_match.proofs.edges.put_pairs.Goals as goal

-- the next place is listed exactly where the item goes with it
pub loop-place-preserved : goal.loop-place-preserved
loop-place-preserved g c =
    let joins = g.E.Edges.joins c.args.edges.now c.args.item in
    elim c.if-has.branch [
      | then-has+in_ok-push w ↦ rw (w.pairs-is, w.in_ok-push.ensures.items)
          (place_more c.args.pairs.now.items c.loop-place.pairs.items c.args.item c.loop-place.place joins c.loop-place.invariant
          (c.has.ensures.0 w.if-has.true))
      | else-has w ↦
          let apart : joins c.loop-place.place → ⊥ = λ h. let yes : true ≡ false = sym (c.has.ensures.1 h) ∙ w.if-has.false in cc in
          rw (w.pairs-is) (place_same c.args.pairs.now.items c.loop-place.pairs.items c.args.item c.loop-place.place joins c.loop-place.invariant apart)
    ]

-- all places are gone through
pub returns : goal.returns
returns g c =
    let all : c.loop-place.place ≡ c.args.places = omega (arith, c.loop-place-test.false, c.loop-place.auto.place-end) in
    subst (λ n. HaveUpTo c.args.pairs.now.items c.loop-place.pairs.items c.args.item n (g.E.Edges.joins c.args.edges.now c.args.item)) all
    c.loop-place.invariant
