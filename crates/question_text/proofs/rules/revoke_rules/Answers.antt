use Rattle.std.proofs.Common.{Option, Ok, [], subst}
use Rattle.std.specs.Prelude.{Vec}
use Rattle.std.specs.Borrow.{Bor}
use Rattle.std.specs.declared.alloc.Global.{Global}
use Rattle.toml.specs.declared.value.Value.{Value}
use Rattle.toml.specs.View.{table_view, array_view}
use Rattle.arbac_policy.specs.declared.TheConstants.{MOST_RULES}
use Rattle.question_text.specs.Keys.{list_of, as_list, optional}
use Rattle.question_text.specs.Views.{entries_of}
use Rattle.question_text.specs.Tables.{a_revoke_rule}
use Rattle.question_text.proofs.TableLemmas.{tables_stop, tables_end}
use Rattle.question_text.proofs.TableLaws.{revokes_known, revokes_few}
use Rattle.question_text.proofs.rules.revoke_rules.Goals as goal

pub returns-in_err-at_most-clause-rules : goal.returns-in_err-at_most-clause-rules
returns-in_err-at_most-clause-rules c =
    tables_stop (λ rules. rules.items) MOST_RULES (a_revoke_rule c.args.separate c.args.admins.now c.args.order.now.names)
    (table_view c.args.table.now) c.args.key.now
    (list_of (array_view c.in-Some.list.now)) _ c.in_err-at_most.field-0.0
    (subst (λ (o : Option (Bor (Vec Value Global))). optional as_list [] (table_view c.args.table.now) [] c.args.key.now
    (Ok (entries_of o))) c.in-Some.is c.in_ok-list.ensures) c.from_residual-in_err-at_most.ensures.1 c.in_err-at_most.ensures

pub returns-clause-rules : goal.returns-clause-rules
returns-clause-rules c =
    tables_end (λ rules. rules.items) MOST_RULES (a_revoke_rule c.args.separate c.args.admins.now c.args.order.now.names)
    (table_view c.args.table.now) c.args.key.now
    (list_of (array_view c.in-Some.list.now)) c.each_entry.result
    (subst (λ (o : Option (Bor (Vec Value Global))). optional as_list [] (table_view c.args.table.now) [] c.args.key.now
    (Ok (entries_of o))) c.in-Some.is c.in_ok-list.ensures) c.in_ok-at_most.ensures c.each_entry.ensures

pub returns-clause-known : goal.returns-clause-known
returns-clause-known c =
    revokes_known c.args.separate c.args.admins.now c.args.order.now.names (table_view c.args.table.now) c.args.key.now c.each_entry.result
    (tables_end (λ rules. rules.items) MOST_RULES (a_revoke_rule c.args.separate c.args.admins.now c.args.order.now.names)
    (table_view c.args.table.now) c.args.key.now
    (list_of (array_view c.in-Some.list.now)) c.each_entry.result
    (subst (λ (o : Option (Bor (Vec Value Global))). optional as_list [] (table_view c.args.table.now) [] c.args.key.now
    (Ok (entries_of o))) c.in-Some.is c.in_ok-list.ensures) c.in_ok-at_most.ensures c.each_entry.ensures)

pub returns-clause-few : goal.returns-clause-few
returns-clause-few c =
    revokes_few c.args.separate c.args.admins.now c.args.order.now.names (table_view c.args.table.now) c.args.key.now c.each_entry.result
    (tables_end (λ rules. rules.items) MOST_RULES (a_revoke_rule c.args.separate c.args.admins.now c.args.order.now.names)
    (table_view c.args.table.now) c.args.key.now
    (list_of (array_view c.in-Some.list.now)) c.each_entry.result
    (subst (λ (o : Option (Bor (Vec Value Global))). optional as_list [] (table_view c.args.table.now) [] c.args.key.now
    (Ok (entries_of o))) c.in-Some.is c.in_ok-list.ensures) c.in_ok-at_most.ensures c.each_entry.ensures)
