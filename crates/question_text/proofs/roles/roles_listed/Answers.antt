use Rattle.toml.specs.View.{table_view, array_view}
use Rattle.question_text.specs.Keys.{list_of}
use Rattle.question_text.specs.Roles.{listed_roles}
use Rattle.question_text.specs.Answers.{fault_of}
use Rattle.question_text.proofs.OutcomeLemmas.{answers_exit}
use Rattle.question_text.proofs.RoleLemmas.{many_told, entry_told, mixed_told, all_listed, none_listed}
use Rattle.question_text.proofs.roles.roles_listed.Goals as goal

pub returns-in_default : goal.returns-in_default
returns-in_default g c =
    rw c.new.ensures.items (none_listed c.args.most (g.R.ReadEntry.reads c.args.reader.now) c.args.separate c.args.admins.now c.args.key.now
    (table_view c.args.table.now) (rw c.in_default.is at c.in_ok-list.ensures))

pub returns-in_err-at_most : goal.returns-in_err-at_most
returns-in_err-at_most g c =
    let listed = listed_roles c.args.most (g.R.ReadEntry.reads c.args.reader.now) c.args.separate c.args.admins.now c.args.key.now
    (table_view c.args.table.now) in
    answers_exit (λ roles. roles.items) listed c.in_err-at_most.field-0.0 c.from_residual-in_err-at_most.result c.from_residual-in_err-at_most.ensures.1
    (many_told c.args.most (g.R.ReadEntry.reads c.args.reader.now) c.args.separate c.args.admins.now c.args.key.now (table_view c.args.table.now)
    (list_of (array_view c.in-Some.list.now)) (fault_of c.in_err-at_most.field-0.0) (rw c.in-Some.is at c.in_ok-list.ensures) c.in_err-at_most.ensures)

pub returns-in_err-roles : goal.returns-in_err-roles
returns-in_err-roles g c =
    let listed = listed_roles c.args.most (g.R.ReadEntry.reads c.args.reader.now) c.args.separate c.args.admins.now c.args.key.now
    (table_view c.args.table.now) in
    answers_exit (λ roles. roles.items) listed c.in_err-roles.field-0.0 c.from_residual-in_err-roles.result c.from_residual-in_err-roles.ensures.1
    (entry_told c.args.most (g.R.ReadEntry.reads c.args.reader.now) c.args.separate c.args.admins.now c.args.key.now (table_view c.args.table.now)
    (list_of (array_view c.in-Some.list.now)) (fault_of c.in_err-roles.field-0.0)
    (rw c.in-Some.is at c.in_ok-list.ensures) c.in_ok-at_most.ensures c.in_err-roles.ensures)

pub returns-in_err-not_mixed : goal.returns-in_err-not_mixed
returns-in_err-not_mixed g c =
    let listed = listed_roles c.args.most (g.R.ReadEntry.reads c.args.reader.now) c.args.separate c.args.admins.now c.args.key.now
    (table_view c.args.table.now) in
    answers_exit (λ roles. roles.items) listed c.in_err-not_mixed.field-0.0 c.from_residual-in_err-not_mixed.result c.from_residual-in_err-not_mixed.ensures.1
    (mixed_told c.args.most (g.R.ReadEntry.reads c.args.reader.now) c.args.separate c.args.admins.now c.args.key.now (table_view c.args.table.now)
    (list_of (array_view c.in-Some.list.now)) c.in_ok-roles.roles.items (fault_of c.in_err-not_mixed.field-0.0)
    (rw c.in-Some.is at c.in_ok-list.ensures) c.in_ok-at_most.ensures c.in_ok-roles.ensures (rw c.as_slice.ensures.value at c.in_err-not_mixed.ensures))

pub returns : goal.returns
returns g c =
    all_listed c.args.most (g.R.ReadEntry.reads c.args.reader.now) c.args.separate c.args.admins.now c.args.key.now (table_view c.args.table.now)
    (list_of (array_view c.in-Some.list.now)) c.in_ok-roles.roles.items
    (rw c.in-Some.is at c.in_ok-list.ensures) c.in_ok-at_most.ensures c.in_ok-roles.ensures (rw c.as_slice.ensures.value at c.in_ok-not_mixed.ensures)
