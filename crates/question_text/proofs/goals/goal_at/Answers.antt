use Rattle.std.proofs.Common.{List, Ok, map, refl, subst, inl, inr}
use Rattle.std.specs.Prelude.{codes}
use Rattle.toml.specs.View.{array_view, view}
use Rattle.arbac_policy.specs.declared.cond.Cond.{Cond}
use Rattle.arbac_policy.specs.Truth.{term_of}
use Rattle.arbac_policy.specs.declared.TheConstants.{MOST_GOALS}
use Rattle.question_text.specs.Keys.{list_of, as_filled_list, at_most, entries}
use Rattle.question_text.specs.Answers.{IsToldBy, fault_of}
use Rattle.question_text.specs.Tables.{a_goal_condition, not_wide_goal, a_goal}
use Rattle.question_text.proofs.KeyLemmas.{kind_seen}
use Rattle.question_text.proofs.SeenLemmas.{entries_seen, entries_told}
use Rattle.question_text.proofs.TableLaws.{conditions_few}
use Rattle.question_text.proofs.TableLemmas.{stops}
use Rattle.question_text.proofs.goals.goal_at.Goals as goal

pub returns-in_err-at_most : goal.returns-in_err-at_most
returns-in_err-at_most c =
    let names = c.args.order.now.names in
    let d = view c.args.value.now in
    let list = list_of (array_view c.in_ok-list.list.now) in
    let t = kind_seen (λ l. list_of (array_view l.now)) c.filled_list.result (as_filled_list d)
    (codes "goal") c.in_ok-list.list c.filled_list.ensures c.in_ok-list.ensures in
    stops _ (at_most MOST_GOALS (codes "goal") list) (a_goal names d) _ _ c.from_residual-in_err-at_most.ensures.1
    (λ fault h. inr (list, t, inl (fault, h, refl))) c.in_err-at_most.ensures

pub returns-in_err-conds : goal.returns-in_err-conds
returns-in_err-conds c =
    let names = c.args.order.now.names in
    let d = view c.args.value.now in
    let list = list_of (array_view c.in_ok-list.list.now) in
    let t = kind_seen (λ l. list_of (array_view l.now)) c.filled_list.result (as_filled_list d)
    (codes "goal") c.in_ok-list.list c.filled_list.ensures c.in_ok-list.ensures in
    stops _ (entries (a_goal_condition names) (codes "goal") list) (a_goal names d) _ _ c.from_residual-in_err-conds.ensures.1
    (λ fault h. inr (list, t, inr (tt, c.in_ok-at_most.ensures, inl (fault, h, refl))))
    (entries_told term_of (a_goal_condition names) (codes "goal") list (fault_of c.in_err-conds.field-0.0) c.in_err-conds.ensures)

pub returns-in_err-not_wide : goal.returns-in_err-not_wide
returns-in_err-not_wide c =
    let names = c.args.order.now.names in
    let d = view c.args.value.now in
    let list = list_of (array_view c.in_ok-list.list.now) in
    let t = kind_seen (λ l. list_of (array_view l.now)) c.filled_list.result (as_filled_list d)
    (codes "goal") c.in_ok-list.list c.filled_list.ensures c.in_ok-list.ensures in
    let terms = map term_of c.in_ok-conds.conds.items in
    stops _ (not_wide_goal terms) (a_goal names d) _ _ c.from_residual-in_err-not_wide.ensures.1
    (λ fault h. inr (
      list,
      t,
      inr (
        tt,
        c.in_ok-at_most.ensures,
        inr (terms, (entries_seen term_of (a_goal_condition names) (codes "goal") list c.in_ok-conds.conds.items c.in_ok-conds.ensures), inl (fault, h, refl)),
      ),
    ))
    (subst (λ (xs : List Cond). IsToldBy (not_wide_goal (map term_of xs)) (fault_of c.in_err-not_wide.field-0.0)) c.as_slice.ensures.value
    c.in_err-not_wide.ensures)

pub not_wide-requires : goal.not_wide-requires
not_wide-requires c =
    let names = c.args.order.now.names in
    let list = list_of (array_view c.in_ok-list.list.now) in
    let conds = c.in_ok-conds.conds.items in
    rw c.as_slice.ensures.value
    (conditions_few names list conds (entries_seen term_of (a_goal_condition names) (codes "goal") list conds c.in_ok-conds.ensures))

pub returns : goal.returns
returns c =
    let names = c.args.order.now.names in
    let d = view c.args.value.now in
    let list = list_of (array_view c.in_ok-list.list.now) in
    let t = kind_seen (λ l. list_of (array_view l.now)) c.filled_list.result (as_filled_list d)
    (codes "goal") c.in_ok-list.list c.filled_list.ensures c.in_ok-list.ensures in
    let terms = map term_of c.in_ok-conds.conds.items in
    let narrow = subst (λ (xs : List Cond). not_wide_goal (map term_of xs) (Ok tt)) c.as_slice.ensures.value c.in_ok-not_wide.ensures in
    inr (
      list,
      t,
      inr (
        tt,
        c.in_ok-at_most.ensures,
        inr (terms, (entries_seen term_of (a_goal_condition names) (codes "goal") list c.in_ok-conds.conds.items c.in_ok-conds.ensures), inr (tt, narrow, refl)),
      ),
    )
