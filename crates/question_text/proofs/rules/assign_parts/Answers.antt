use Rattle.std.proofs.Common.{refl, inl, inr}
use Rattle.toml.specs.View.{table_view}
use Rattle.question_text.specs.Tables.{assign_parts, the_condition, the_range}
use Rattle.question_text.proofs.TableLemmas.{stops}
use Rattle.question_text.proofs.rules.assign_parts.Goals as goal

pub returns-in_err-cond-clause-answers : goal.returns-in_err-cond-clause-answers
returns-in_err-cond-clause-answers c =
    let names = c.args.order.now.names in
    let rule = table_view c.args.rule.now in
    let path = c.args.path.now in
    stops _ (the_condition names rule path) (assign_parts names rule path) _ _ c.from_residual-in_err-cond.ensures.1
    (λ fault h. inr (tt, c.in_ok-knows_only.ensures, inr (c.in_ok-admin.admin, c.in_ok-admin.ensures, inl (fault, h, refl)))) c.in_err-cond.ensures.answers

pub returns-in_err-range-clause-answers : goal.returns-in_err-range-clause-answers
returns-in_err-range-clause-answers c =
    let names = c.args.order.now.names in
    let rule = table_view c.args.rule.now in
    let path = c.args.path.now in
    stops _ (the_range names rule path) (assign_parts names rule path) _ _ c.from_residual-in_err-range.ensures.1
    (λ fault h. inr (
      tt,
      c.in_ok-knows_only.ensures,
      inr (c.in_ok-admin.admin, c.in_ok-admin.ensures, inr (_, c.in_ok-cond.ensures.answers, inl (fault, h, refl))),
    )) c.in_err-range.ensures

pub returns-clause-answers : goal.returns-clause-answers
returns-clause-answers c =
    inr (
      tt,
      c.in_ok-knows_only.ensures,
      inr (c.in_ok-admin.admin, c.in_ok-admin.ensures, inr (_, c.in_ok-cond.ensures.answers, inr (c.in_ok-range.range, c.in_ok-range.ensures, refl))),
    )
