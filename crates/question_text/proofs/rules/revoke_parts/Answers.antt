use Rattle.std.proofs.Common.{refl, inl, inr}
use Rattle.toml.specs.View.{table_view}
use Rattle.question_text.specs.Tables.{revoke_parts, the_range}
use Rattle.question_text.proofs.TableLemmas.{stops}
use Rattle.question_text.proofs.rules.revoke_parts.Goals as goal

pub returns-in_err-range : goal.returns-in_err-range
returns-in_err-range c =
    let names = c.args.order.now.names in
    let rule = table_view c.args.rule.now in
    let path = c.args.path.now in
    stops _ (the_range names rule path) (revoke_parts names rule path) _ _ c.from_residual-in_err-range.ensures.1
    (λ fault h. inr (tt, c.in_ok-knows_only.ensures, inr (c.in_ok-admin.admin, c.in_ok-admin.ensures, inl (fault, h, refl)))) c.in_err-range.ensures

pub returns : goal.returns
returns c = inr (tt, c.in_ok-knows_only.ensures, inr (c.in_ok-admin.admin, c.in_ok-admin.ensures, inr (c.in_ok-range.range, c.in_ok-range.ensures, refl)))
