use Rattle.std.proofs.Common.{◌∙◌, ap, ℕ, List}
use Rattle.role_order.specs.Orders.{set_before}
use Rattle.arbac_laws.specs.NormalForms.{least_hits, sort_once}
use Rattle.arbac_laws.specs.Views.{need_of}
use Rattle.req_core.proofs.HitLemmas.{made_normal}
use Rattle.req_core.proofs.hits.normal_user.Goals as goal

-- the hits are the sorted least ones
pub made-requires : goal.made-requires
made-requires c =
    let need = need_of c.args.raw.now in
    let is = c.in-Some.is in
    let found = rw is at c.in_ok-bare_hits.ensures.hits in
    let sets = rw is at c.in_ok-bare_hits.ensures.sets in
    made_normal need c.in-Some.hits.items c.in_ok-hits-in-Some.hits.items sets found
    (c.in_ok-hits-in-Some.ensures ∙ ap (λ (h : List (List ℕ)). sort_once set_before (least_hits h)) c.deref.ensures.value)
