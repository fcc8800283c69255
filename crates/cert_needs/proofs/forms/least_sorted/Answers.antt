use Rattle.std.proofs.Common.{◌≡◌, ◌-◌, sym, ap, arith, ◌∙◌, Some, cond}
use Rattle.std.specs.Prelude.{slice_get}
use Rattle.std.specs.List.{list_any}
use Rattle.role_order.specs.Orders.{set_before}
use Rattle.list_words.proofs.GetLemmas.{get_at}
use Rattle.arbac_laws.specs.NormalForms.{insert_once, is_less}
use Rattle.cert_needs.proofs.HitLemmas.{sorted_step}
use Rattle.cert_needs.proofs.forms.least_sorted.Goals as goal

-- one hit more is put in its place, unless a different one lies within it
pub loop-at-preserved : goal.loop-at-preserved
loop-at-preserved c =
    let hits = c.args.hits.now in
    let at = c.loop-at.at in
    let hit = c.index-hits-at.result in
    let here : slice_get hits (at - 1) ≡ Some hit =
    get_at hits (at - 1) hit (omega (arith, c.loop-at.auto.at, c.loop-at-test.true)) ∙ ap Some (sym c.index-hits-at.is) in
    c.in_ok-insert_least.ensures ∙ ap (λ list. cond (list_any (λ other. is_less other hit) hits) list (insert_once set_before hit list)) c.loop-at.invariant
    ∙ sorted_step set_before (λ hit. list_any (λ other. is_less other hit) hits) hits (at - 1) at hit (omega (arith, c.loop-at-test.true)) here
