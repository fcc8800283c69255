use Rattle.std.proofs.Common.{◌∙◌, List, ℕ, None, Ok, refl, subst, inl, inr}
use Rattle.std.specs.Prelude.{codes, ◌∷◌, []}
use Rattle.toml.specs.Data.{as_table}
use Rattle.toml.specs.View.{table_view, array_view, view}
use Rattle.question_text.specs.Keys.{knows_only, required, optional, as_list, as_most, key_of, list_of}
use Rattle.question_text.specs.Roles.{role_set}
use Rattle.question_text.specs.Answers.{IsToldBy, fault_of}
use Rattle.question_text.specs.Tables.{a_profile}
use Rattle.question_text.proofs.KeyLemmas.{kind_seen}
use Rattle.question_text.proofs.TableLemmas.{stops}
use Rattle.question_text.proofs.profiles.profile_of.Goals as goal

pub returns-in_err-knows_only : goal.returns-in_err-knows_only
returns-in_err-knows_only c =
    let names = c.args.order.now.names in
    let path = c.args.path.now in
    let d = view c.args.value.now in
    let table = table_view c.in_ok-table.table.now in
    let t = kind_seen (λ m. table_view m.now) c.as_table.result (as_table d) path c.in_ok-table.table c.as_table.ensures c.in_ok-table.ensures in
    stops _ (knows_only (codes "roles" ∷ (codes "most" ∷ [])) table path) (a_profile names path d) _ _ c.from_residual-in_err-knows_only.ensures.1
    (λ fault h. inr (table, t, inl (fault, h, refl))) c.in_err-knows_only.ensures

pub returns-in_err-list : goal.returns-in_err-list
returns-in_err-list c =
    let names = c.args.order.now.names in
    let path = c.args.path.now in
    let d = view c.args.value.now in
    let table = table_view c.in_ok-table.table.now in
    let t = kind_seen (λ m. table_view m.now) c.as_table.result (as_table d) path c.in_ok-table.table c.as_table.ensures c.in_ok-table.ensures in
    stops _ (required as_list table path (codes "roles")) (a_profile names path d) _ _ c.from_residual-in_err-list.ensures.1
    (λ fault h. inr (table, t, inr (tt, c.in_ok-knows_only.ensures, inl (fault, h, refl)))) c.in_err-list.ensures

pub returns-in_err-set : goal.returns-in_err-set
returns-in_err-set c =
    let names = c.args.order.now.names in
    let path = c.args.path.now in
    let d = view c.args.value.now in
    let table = table_view c.in_ok-table.table.now in
    let list = list_of (array_view c.in_ok-list.list.now) in
    let t = kind_seen (λ m. table_view m.now) c.as_table.result (as_table d) path c.in_ok-table.table c.as_table.ensures c.in_ok-table.ensures in
    stops _ (role_set names (key_of path (codes "roles")) list) (a_profile names path d) _ _ c.from_residual-in_err-set.ensures.1
    (λ fault h. inr (table, t, inr (tt, c.in_ok-knows_only.ensures, inr (list, c.in_ok-list.ensures, inl (fault, h, refl)))))
    (subst (λ (p : List ℕ). IsToldBy (role_set names p list) (fault_of c.in_err-set.field-0.0))
    (c.as_str.ensures.value ∙ c.in_ok-key.ensures) c.in_err-set.ensures)

pub returns-in_err-most : goal.returns-in_err-most
returns-in_err-most c =
    let names = c.args.order.now.names in
    let path = c.args.path.now in
    let d = view c.args.value.now in
    let table = table_view c.in_ok-table.table.now in
    let list = list_of (array_view c.in_ok-list.list.now) in
    let t = kind_seen (λ m. table_view m.now) c.as_table.result (as_table d) path c.in_ok-table.table c.as_table.ensures c.in_ok-table.ensures in
    let set = subst (λ (p : List ℕ). role_set names p list (Ok c.in_ok-set.set)) (c.as_str.ensures.value ∙ c.in_ok-key.ensures) c.in_ok-set.ensures in
    stops _ (optional as_most None table path (codes "most")) (a_profile names path d) _ _ c.from_residual-in_err-most.ensures.1
    (λ fault h. inr (
      table,
      t,
      inr (tt, c.in_ok-knows_only.ensures, inr (list, c.in_ok-list.ensures, inr (c.in_ok-set.set, set, inl (fault, h, refl)))),
    )) c.in_err-most.ensures

pub returns : goal.returns
returns c =
    let names = c.args.order.now.names in
    let path = c.args.path.now in
    let d = view c.args.value.now in
    let table = table_view c.in_ok-table.table.now in
    let list = list_of (array_view c.in_ok-list.list.now) in
    let t = kind_seen (λ m. table_view m.now) c.as_table.result (as_table d) path c.in_ok-table.table c.as_table.ensures c.in_ok-table.ensures in
    let set = subst (λ (p : List ℕ). role_set names p list (Ok c.in_ok-set.set)) (c.as_str.ensures.value ∙ c.in_ok-key.ensures) c.in_ok-set.ensures in
    inr (
      table,
      t,
      inr (
        tt,
        c.in_ok-knows_only.ensures,
        inr (list, c.in_ok-list.ensures, inr (c.in_ok-set.set, set, inr (c.in_ok-most.most, c.in_ok-most.ensures, refl))),
      ),
    )
