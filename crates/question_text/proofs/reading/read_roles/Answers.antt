use Rattle.std.proofs.Common.{refl, inl, inr}
use Rattle.toml.specs.View.{table_view}
use Rattle.question_text.specs.Roles.{admin_roles, role_edges, exclusive_pairs}
use Rattle.question_text.specs.Documents.{the_roles}
use Rattle.question_text.specs.Views.{head_view, roles_view}
use Rattle.question_text.proofs.TableLemmas.{stops}
use Rattle.question_text.proofs.reading.read_roles.Goals as goal

pub returns-in_err-admins : goal.returns-in_err-admins
returns-in_err-admins c =
    let head = head_view c.args.head.now in
    let table = table_view c.args.table.now in
    let names = c.in_ok-named.named.names in
    stops roles_view (admin_roles head.separate names table) (the_roles head table) _ _ c.from_residual-in_err-admins.ensures.1
    (λ fault h. inr (names, c.in_ok-named.ensures.names, inl (fault, h, refl))) c.in_err-admins.ensures

pub returns-in_err-order : goal.returns-in_err-order
returns-in_err-order c =
    let head = head_view c.args.head.now in
    let table = table_view c.args.table.now in
    let names = c.in_ok-named.named.names in
    let admins = c.in_ok-admins.admins in
    stops roles_view (role_edges head.separate admins names table) (the_roles head table) _ _ c.from_residual-in_err-order.ensures.1
    (λ fault h. inr (names, c.in_ok-named.ensures.names, inr (admins, c.in_ok-admins.ensures, inl (fault, h, refl)))) c.in_err-order.ensures.edges

pub returns-in_err-exclusive : goal.returns-in_err-exclusive
returns-in_err-exclusive c =
    let head = head_view c.args.head.now in
    let table = table_view c.args.table.now in
    let names = c.in_ok-named.named.names in
    let admins = c.in_ok-admins.admins in
    stops roles_view (exclusive_pairs head.version head.separate admins names table) (the_roles head table) _ _ c.from_residual-in_err-exclusive.ensures.1
    (λ fault h. inr (
      names,
      c.in_ok-named.ensures.names,
      inr (admins, c.in_ok-admins.ensures, inr (c.in_ok-order.order.edges, c.in_ok-order.ensures.edges, inl (fault, h, refl))),
    ))
    (rw c.in_ok-order.ensures.names at c.in_err-exclusive.ensures)

pub returns : goal.returns
returns c =
    let pairs = rw c.in_ok-order.ensures.names at c.in_ok-exclusive.ensures in
    rw c.in_ok-order.ensures.names
    (inr (
      c.in_ok-named.named.names,
      c.in_ok-named.ensures.names,
      inr (
        c.in_ok-admins.admins,
        c.in_ok-admins.ensures,
        inr (c.in_ok-order.order.edges, c.in_ok-order.ensures.edges, inr (c.in_ok-exclusive.exclusive.items, pairs, refl)),
      ),
    ))
