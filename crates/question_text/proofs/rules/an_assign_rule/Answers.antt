use Rattle.std.proofs.Common.{refl, inl, inr}
use Rattle.toml.specs.Data.{as_table}
use Rattle.toml.specs.View.{table_view, view}
use Rattle.arbac_policy.specs.PlainRules.{plain_rule}
use Rattle.question_text.specs.Tables.{assign_parts, assign_tests, an_assign_rule}
use Rattle.question_text.proofs.KeyLemmas.{kind_seen}
use Rattle.question_text.proofs.TableLemmas.{stops}
use Rattle.question_text.proofs.rules.an_assign_rule.Goals as goal

pub returns-in_err-rule : goal.returns-in_err-rule
returns-in_err-rule c =
    let separate = c.args.separate in
    let admins = c.args.admins.now in
    let names = c.args.order.now.names in
    let path = c.args.path.now in
    let d = view c.args.value.now in
    let rule = table_view c.in_ok-table.table.now in
    let t = kind_seen (λ m. table_view m.now) c.as_table.result (as_table d) path c.in_ok-table.table c.as_table.ensures c.in_ok-table.ensures in
    stops _ (assign_parts names rule path) (an_assign_rule separate admins names path d) _ _ c.from_residual-in_err-rule.ensures.1
    (λ fault h. inr (rule, t, inl (fault, h, refl))) c.in_err-rule.ensures.answers

pub returns-in_err-assign_tests : goal.returns-in_err-assign_tests
returns-in_err-assign_tests c =
    let separate = c.args.separate in
    let admins = c.args.admins.now in
    let names = c.args.order.now.names in
    let path = c.args.path.now in
    let d = view c.args.value.now in
    let rule = table_view c.in_ok-table.table.now in
    let t = kind_seen (λ m. table_view m.now) c.as_table.result (as_table d) path c.in_ok-table.table c.as_table.ensures c.in_ok-table.ensures in
    stops _ (assign_tests separate admins (plain_rule c.in_ok-rule.rule) path)
    (an_assign_rule separate admins names path d) _ _ c.from_residual-in_err-assign_tests.ensures.1
    (λ fault h. inr (rule, t, inr (plain_rule c.in_ok-rule.rule, c.in_ok-rule.ensures.answers, inl (fault, h, refl)))) c.in_err-assign_tests.ensures

pub returns : goal.returns
returns c =
    let separate = c.args.separate in
    let admins = c.args.admins.now in
    let names = c.args.order.now.names in
    let path = c.args.path.now in
    let d = view c.args.value.now in
    let rule = table_view c.in_ok-table.table.now in
    let t = kind_seen (λ m. table_view m.now) c.as_table.result (as_table d) path c.in_ok-table.table c.as_table.ensures c.in_ok-table.ensures in
    inr (rule, t, inr (plain_rule c.in_ok-rule.rule, c.in_ok-rule.ensures.answers, inr (tt, c.in_ok-assign_tests.ensures, refl)))
