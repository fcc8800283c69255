use Rattle.std.proofs.Common.{List, ℕ, ◌++◌, ◌∙◌, length, map, drop, ◌+◌, append_assoc, refl, sym, ap, Some}
use Rattle.std.specs.Prelude.{codes}
use Rattle.list_words.proofs.EachLemmas.{each_at}
use Rattle.list_words.proofs.GetLemmas.{get_at}
use Rattle.role_order.specs.Roles.{AreBelow, Rises}
use Rattle.cert_text.specs.LineForms.{joined, spell_hits}
use Rattle.cert_text.specs.Texts.{set_names}
use Rattle.cert_text.proofs.PutLemmas.{next_put, all_put, one_more, all_so_far, two_put}
use Rattle.cert_text.proofs.pieces.put_hits.Goals as goal

pub put_names-requires : goal.put_names-requires
put_names-requires c =
    each_at (AreBelow (length c.args.order.now.names)) c.args.hits.now c.loop-hit.hit-index c.hit-item.result c.requires
    (get_at c.args.hits.now c.loop-hit.hit-index c.hit-item.result c.loop-hit-test.true ∙ ap Some (sym c.hit-item.is))

pub loop-hit-preserved : goal.loop-hit-preserved
loop-hit-preserved c =
    let names = c.args.order.now.names in
    let hit = c.hit-item.result in
    let left : List (List ℕ) → List ℕ = λ hits. spell_hits (map (set_names names) hits) in
    let at = get_at c.args.hits.now c.loop-hit.hit-index hit c.loop-hit-test.true ∙ ap Some (sym c.hit-item.is) in (
      next_put left (codes " hit " ++ joined (set_names names hit)) c.args.hits.now c.loop-hit.hit-index hit
          c.loop-hit.text.items c.put_names.new.text.items _
          at (sym (append_assoc (codes " hit ") (joined (set_names names hit)) (left (drop (c.loop-hit.hit-index + 1) c.args.hits.now))))
          c.loop-hit.invariant.0
          (two_put c.loop-hit.text.items c.put.new.text.items c.put_names.new.text.items (codes " hit ") (joined (set_names names hit))
          c.in_ok-put.ensures c.in_ok-put_names.ensures.text),
      one_more Rises c.args.hits.now c.loop-hit.hit-index hit at c.loop-hit.invariant.1 c.in_ok-put_names.ensures.rises,
    )

pub returns : goal.returns
returns c = record {
  text = all_put (λ (hits : List (List ℕ)). spell_hits (map (set_names c.args.order.now.names) hits)) c.args.hits.now c.loop-hit.hit-index
      c.loop-hit.text.items _ c.loop-hit-test.false refl c.loop-hit.invariant.0;
  rise = all_so_far Rises c.args.hits.now c.loop-hit.hit-index c.loop-hit-test.false c.loop-hit.invariant.1;
}
