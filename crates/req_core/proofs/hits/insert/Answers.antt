use Rattle.std.proofs.Common.{ℕ, ◌≡◌, ◌<◌, sym, ap, arith, ◌∙◌, subst, length, List, Some, true}
use Rattle.std.specs.Prelude.{slice_get}
use Rattle.role_order.specs.Orders.{set_before}
use Rattle.list_words.proofs.GetLemmas.{get_at, get_within}
use Rattle.req_core.specs.Forms.{IsSpot}
use Rattle.req_core.proofs.HitLemmas.{insert_new, insert_kept}
use Rattle.req_core.proofs.hits.insert.Goals as goal
use Rattle.req_core.proofs.hits.insert.Goals.{then-at-len-via-then-at-len, then-at-len-via-else-at-len+then-before}

-- at its place stands no equal hit
pub returns-in_ok-insert : goal.returns-in_ok-insert
returns-in_ok-insert c =
    let hits = c.args.hits.now.items in
    let hit = c.args.hit.now in
    let at = c.place_of-at.result in
    let spot : IsSpot set_before hit hits at = rw c.deref.ensures.value at c.place_of-at.ensures in
    c.in_ok-insert.ensures.items ∙ elim c.then-at-len.branch [
      | then-at-len-via-then-at-len w ↦ insert_new set_before hit hits at spot (λ y e.
          let less = (get_within hits at y e).0 in absurd (omega (arith, less, w.if-at-len.true, c.len.ensures)))
      | then-at-len-via-else-at-len+then-before w ↦ insert_new set_before hit hits at spot (λ y e.
          let less = (get_within hits at y e).0 in
          let one = w.index.result.now in
          let also : slice_get hits at ≡ Some one = get_at hits at one less ∙ ap Some (sym w.index.ensures) in
          let same : one ≡ y = cc in
          subst (λ (q : List ℕ). set_before hit q ≡ true) same (sym w.before-else-at-len.ensures.value ∙ w.if-before.true))
    ]

-- at its place stands an equal hit
pub returns-else-before : goal.returns-else-before
returns-else-before c =
    let hits = c.args.hits.now.items in
    let hit = c.args.hit.now in
    let at = c.place_of-at.result in
    let spot : IsSpot set_before hit hits at = rw c.deref.ensures.value at c.place_of-at.ensures in
    let within = spot.within in
    let one = c.index.result.now in
    let less : at < length hits = omega (arith, within, c.if-at-len.false, c.len.ensures) in
    let here : slice_get hits at ≡ Some one = get_at hits at one less ∙ ap Some (sym c.index.ensures) in
    insert_kept set_before hit hits at one spot here (sym c.before-else-at-len.ensures.value ∙ c.if-before.false)
