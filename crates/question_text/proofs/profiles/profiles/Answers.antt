use Rattle.std.proofs.Common.{Option, Ok, [], subst}
use Rattle.std.specs.Prelude.{Vec, codes}
use Rattle.std.specs.Borrow.{Bor}
use Rattle.std.specs.declared.alloc.Global.{Global}
use Rattle.toml.specs.declared.value.Value.{Value}
use Rattle.toml.specs.View.{table_view, array_view}
use Rattle.question_text.specs.declared.TheConstants.{MOST_PROFILES}
use Rattle.question_text.specs.Keys.{list_of, as_list, optional}
use Rattle.question_text.specs.Views.{entries_of}
use Rattle.question_text.specs.Tables.{a_profile}
use Rattle.question_text.proofs.TableLemmas.{tables_stop, tables_end}
use Rattle.question_text.proofs.profiles.profiles.Goals as goal

pub returns-in_err-at_most : goal.returns-in_err-at_most
returns-in_err-at_most c =
    tables_stop (λ profiles. profiles.items) MOST_PROFILES (a_profile c.args.order.now.names) (table_view c.args.table.now) (codes "profile")
    (list_of (array_view c.in-Some.list.now)) _
    c.in_err-at_most.field-0.0
    (subst (λ (o : Option (Bor (Vec Value Global))). optional as_list [] (table_view c.args.table.now) [] (codes "profile")
    (Ok (entries_of o))) c.in-Some.is c.in_ok-list.ensures)
    c.from_residual-in_err-at_most.ensures.1 c.in_err-at_most.ensures

pub returns : goal.returns
returns c =
    tables_end (λ profiles. profiles.items) MOST_PROFILES (a_profile c.args.order.now.names) (table_view c.args.table.now) (codes "profile")
    (list_of (array_view c.in-Some.list.now))
    c.each_entry.result
    (subst (λ (o : Option (Bor (Vec Value Global))). optional as_list [] (table_view c.args.table.now) [] (codes "profile")
    (Ok (entries_of o))) c.in-Some.is c.in_ok-list.ensures)
    c.in_ok-at_most.ensures c.each_entry.ensures
