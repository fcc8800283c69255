use Rattle.std.proofs.Common.{ℕ, ◌≡◌, ◌<◌, sym, ap, arith, ◌∙◌, subst, length, List, Some, true}
use Rattle.std.specs.Prelude.{slice_get, insert}
use Rattle.std.specs.List.{prefix_len}
use Rattle.std.proofs.lemmas.List.Sums.{prefix_len-le-length}
use Rattle.role_order.specs.Orders.{set_before}
use Rattle.list_words.proofs.GetLemmas.{get_at, get_within}
use Rattle.cert_needs.proofs.HitLemmas.{insert_new, insert_kept}
use Rattle.cert_needs.proofs.forms.insert_hit.Goals as goal
use Rattle.cert_needs.proofs.forms.insert_hit.Goals.{then-at-len-via-then-at-len, then-at-len-via-else-at-len+then-before}

-- at its place stands no equal hit
pub returns-in_ok-insert : goal.returns-in_ok-insert
returns-in_ok-insert c =
    let hits = c.args.hits.now.items in
    let hit = c.args.hit.now in
    let at = c.hits_ahead-at.result in
    let ahead : at ≡ prefix_len (λ other. set_before other hit) hits = rw c.deref.ensures.value at c.hits_ahead-at.ensures in
    c.in_ok-insert.ensures.items ∙ ap (λ (n : ℕ). insert hits n hit) ahead ∙ insert_new set_before hit hits (λ y e.
    let there : slice_get hits at ≡ Some y = subst (λ (n : ℕ). slice_get hits n ≡ Some y) (sym ahead) e in
    let less = (get_within hits at y there).0 in
    elim c.then-at-len.branch [
      | then-at-len-via-then-at-len w ↦ absurd (omega (arith, less, w.if-at-len.true, c.len.ensures))
      | then-at-len-via-else-at-len+then-before w ↦
          let one = w.index.result.now in
          let also : slice_get hits at ≡ Some one = get_at hits at one less ∙ ap Some (sym w.index.ensures) in
          let same : one ≡ y = cc in
          subst (λ (q : List ℕ). set_before hit q ≡ true) same (sym w.before-else-at-len.ensures.value ∙ w.if-before.true)
    ])

-- at its place stands an equal hit
pub returns-else-before : goal.returns-else-before
returns-else-before c =
    let hits = c.args.hits.now.items in
    let hit = c.args.hit.now in
    let at = c.hits_ahead-at.result in
    let ahead : at ≡ prefix_len (λ other. set_before other hit) hits = rw c.deref.ensures.value at c.hits_ahead-at.ensures in
    let one = c.index.result.now in
    let short = prefix_len-le-length (λ other. set_before other hit) hits in
    let less : at < length hits = omega (arith, short, ahead, c.if-at-len.false, c.len.ensures) in
    let here : slice_get hits at ≡ Some one = get_at hits at one less ∙ ap Some (sym c.index.ensures) in
    insert_kept set_before hit hits one (subst (λ (n : ℕ). slice_get hits n ≡ Some one) ahead here)
    (sym c.before-else-at-len.ensures.value ∙ c.if-before.false)

-- it isn't the end
pub index-requires : goal.index-requires
index-requires c =
    let hits = c.deref.result.now in
    let hit = c.args.hit.now in
    let ahead : c.hits_ahead-at.result ≡ prefix_len (λ other. set_before other hit) hits = c.hits_ahead-at.ensures in
    let short = prefix_len-le-length (λ other. set_before other hit) hits in
    omega (arith, short, ahead, c.deref.ensures.len, c.len.ensures, c.if-at-len.false)

-- no more hits are ahead than there are
pub insert-requires : goal.insert-requires
insert-requires c =
    let hits = c.deref.result.now in
    let hit = c.args.hit.now in
    let ahead : c.hits_ahead-at.result ≡ prefix_len (λ other. set_before other hit) hits = c.hits_ahead-at.ensures in
    let short = prefix_len-le-length (λ other. set_before other hit) hits in
    omega (arith, short, ahead, c.deref.ensures.len)
