use Rattle.std.proofs.Common.{◌∙◌, ap, sym, map, List, ℕ}
use Rattle.std.specs.List.{list_any}
use Rattle.role_order.specs.Roles.{without_role}
use Rattle.arbac_laws.specs.PreImages.{is_empty}
use Rattle.req_pre.proofs.TargetLemmas.{weak_none, weak_some}
use Rattle.req_pre.proofs.targets.before_weak.Goals as goal

pub returns-then-has_alone : goal.returns-then-has_alone
returns-then-has_alone c =
    let role = c.args.role in
    weak_none role c.args.user.now
    (ap (λ (hits : List (List ℕ)). list_any (λ hit. is_empty (without_role hit role)) hits) (sym c.hits.ensures.hits) ∙ sym c.has_alone.ensures
    ∙ c.if-has_alone.true)

pub returns : goal.returns
returns c =
    let role = c.args.role in
    weak_some role c.args.user.now c.in_ok-hits.hits.items c.without-lacks.result
    (ap (λ (hits : List (List ℕ)). list_any (λ hit. is_empty (without_role hit role)) hits) (sym c.hits.ensures.hits) ∙ sym c.has_alone.ensures
    ∙ c.if-has_alone.false)
    (c.in_ok-hits.ensures ∙ ap (map (λ hit. without_role hit role)) c.hits-2.ensures.hits)
    (c.without-lacks.ensures ∙ ap (λ lacks. without_role lacks role) c.lacks.ensures)
