use Rattle.toml.specs.View.{table_view, array_view}
use Rattle.role_order.specs.Names.{texts}
use Rattle.question_text.specs.Keys.{list_of}
use Rattle.question_text.specs.Roles.{role_names}
use Rattle.question_text.specs.Answers.{fault_of}
use Rattle.question_text.proofs.OutcomeLemmas.{answers_exit}
use Rattle.question_text.proofs.RoleLemmas.{order_speaks, name_told}
use Rattle.question_text.proofs.roles.role_names.Goals as goal

pub returns-in_err-names-clause-names : goal.returns-in_err-names-clause-names
returns-in_err-names-clause-names c =
    let table = table_view c.args.table.now in
    answers_exit (λ order. order.names) (role_names table) c.in_err-names.field-0.0 c.from_residual-in_err-names.result c.from_residual-in_err-names.ensures.1
    (name_told table (list_of (array_view c.in_ok-list.list.now)) (fault_of c.in_err-names.field-0.0) c.in_ok-list.ensures c.in_err-names.ensures)

pub returns-clause-names : goal.returns-clause-names
returns-clause-names c =
    order_speaks (λ order. order.names) (table_view c.args.table.now) (list_of (array_view c.in_ok-list.list.now))
    (texts c.in_ok-names.names.items) c.order_of.result
    c.in_ok-list.ensures c.in_ok-names.ensures (rw c.new.ensures.items at c.order_of.ensures.answer) c.order_of.ensures.names
