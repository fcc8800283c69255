use Rattle.std.proofs.Common.{None, refl, inl, inr}
use Rattle.toml.specs.Data.{as_table}
use Rattle.toml.specs.View.{table_view, view}
use Rattle.question_text.specs.Tables.{revoke_parts, a_revoke_rule, not_mixed_rule}
use Rattle.question_text.proofs.KeyLemmas.{kind_seen}
use Rattle.question_text.proofs.TableLemmas.{stops}
use Rattle.question_text.proofs.rules.a_revoke_rule.Goals as goal

pub returns-in_err-rule : goal.returns-in_err-rule
returns-in_err-rule c =
    let separate = c.args.separate in
    let admins = c.args.admins.now in
    let names = c.args.order.now.names in
    let path = c.args.path.now in
    let d = view c.args.value.now in
    let rule = table_view c.in_ok-table.table.now in
    let t = kind_seen (λ m. table_view m.now) c.as_table.result (as_table d) path c.in_ok-table.table c.as_table.ensures c.in_ok-table.ensures in
    stops _ (revoke_parts names rule path) (a_revoke_rule separate admins names path d) _ _ c.from_residual-in_err-rule.ensures.1
    (λ fault h. inr (rule, t, inl (fault, h, refl))) c.in_err-rule.ensures

pub returns-in_err-revoke_tests : goal.returns-in_err-revoke_tests
returns-in_err-revoke_tests c =
    let separate = c.args.separate in
    let admins = c.args.admins.now in
    let names = c.args.order.now.names in
    let path = c.args.path.now in
    let d = view c.args.value.now in
    let rule = table_view c.in_ok-table.table.now in
    let t = kind_seen (λ m. table_view m.now) c.as_table.result (as_table d) path c.in_ok-table.table c.as_table.ensures c.in_ok-table.ensures in
    stops _ (not_mixed_rule separate admins c.in_ok-rule.rule.admin c.in_ok-rule.rule.range None path)
    (a_revoke_rule separate admins names path d) _ _ c.from_residual-in_err-revoke_tests.ensures.1
    (λ fault h. inr (rule, t, inr (c.in_ok-rule.rule, c.in_ok-rule.ensures, inl (fault, h, refl)))) c.in_err-revoke_tests.ensures

pub returns : goal.returns
returns c =
    let separate = c.args.separate in
    let admins = c.args.admins.now in
    let names = c.args.order.now.names in
    let path = c.args.path.now in
    let d = view c.args.value.now in
    let rule = table_view c.in_ok-table.table.now in
    let t = kind_seen (λ m. table_view m.now) c.as_table.result (as_table d) path c.in_ok-table.table c.as_table.ensures c.in_ok-table.ensures in
    inr (rule, t, inr (c.in_ok-rule.rule, c.in_ok-rule.ensures, inr (tt, c.in_ok-revoke_tests.ensures, refl)))
