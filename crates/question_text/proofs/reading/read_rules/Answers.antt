use Rattle.std.proofs.Common.{map, refl, inl, inr}
use Rattle.std.specs.Prelude.{codes}
use Rattle.toml.specs.View.{table_view}
use Rattle.arbac_policy.specs.PlainRules.{plain_rule}
use Rattle.question_text.specs.Tables.{assign_rules, revoke_rules}
use Rattle.question_text.specs.Documents.{the_rules}
use Rattle.question_text.specs.Views.{rules_view}
use Rattle.question_text.proofs.TableLemmas.{stops}
use Rattle.question_text.proofs.reading.read_rules.Goals as goal

pub returns-in_err-revoke : goal.returns-in_err-revoke
returns-in_err-revoke c =
    let admins = c.args.roles.now.admins in
    let names = c.args.roles.now.order.names in
    let table = table_view c.args.table.now in
    stops rules_view (revoke_rules c.args.separate admins names table (codes "can_revoke"))
    (the_rules c.args.separate admins names table) _ _ c.from_residual-in_err-revoke.ensures.1
    (λ fault h. inr (map plain_rule c.in_ok-assign.assign.items, c.in_ok-assign.ensures.rules, inl (fault, h, refl))) c.in_err-revoke.ensures.rules

pub returns-in_err-assignp : goal.returns-in_err-assignp
returns-in_err-assignp c =
    let admins = c.args.roles.now.admins in
    let names = c.args.roles.now.order.names in
    let table = table_view c.args.table.now in
    stops rules_view (assign_rules c.args.separate admins names table (codes "can_assignp"))
    (the_rules c.args.separate admins names table) _ _ c.from_residual-in_err-assignp.ensures.1
    (λ fault h. inr (
      map plain_rule c.in_ok-assign.assign.items,
      c.in_ok-assign.ensures.rules,
      inr (c.in_ok-revoke.revoke.items, c.in_ok-revoke.ensures.rules, inl (fault, h, refl)),
    )) c.in_err-assignp.ensures.rules

pub returns-in_err-revokep : goal.returns-in_err-revokep
returns-in_err-revokep c =
    let admins = c.args.roles.now.admins in
    let names = c.args.roles.now.order.names in
    let table = table_view c.args.table.now in
    stops rules_view (revoke_rules c.args.separate admins names table (codes "can_revokep"))
    (the_rules c.args.separate admins names table) _ _ c.from_residual-in_err-revokep.ensures.1
    (λ fault h. inr (
      map plain_rule c.in_ok-assign.assign.items,
      c.in_ok-assign.ensures.rules,
      inr (
        c.in_ok-revoke.revoke.items,
        c.in_ok-revoke.ensures.rules,
        inr (map plain_rule c.in_ok-assignp.assignp.items, c.in_ok-assignp.ensures.rules, inl (fault, h, refl)),
      ),
    )) c.in_err-revokep.ensures.rules

pub returns : goal.returns
returns c = inr (
  map plain_rule c.in_ok-assign.assign.items,
  c.in_ok-assign.ensures.rules,
  inr (
    c.in_ok-revoke.revoke.items,
    c.in_ok-revoke.ensures.rules,
    inr (
      map plain_rule c.in_ok-assignp.assignp.items,
      c.in_ok-assignp.ensures.rules,
      inr (c.in_ok-revokep.revokep.items, c.in_ok-revokep.ensures.rules, refl),
    ),
  ),
)
