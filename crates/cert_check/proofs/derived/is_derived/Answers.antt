use Rattle.std.proofs.Common.{ℕ, ◌≡◌, ◌≤◌, ◌∙◌, Bool, List, length, map, Some, true, false, ap, arith}
use Rattle.std.specs.Prelude.{◌↔◌, IsTrue, slice_get}
use Rattle.std.proofs.lemmas.List.{length-map}
use Rattle.list_words.proofs.GetLemmas.{get_below, get_map}
use Rattle.arbac_policy.specs.Rules.{Rules}
use Rattle.arbac_laws.specs.Needs.{Need}
use Rattle.arbac_laws.specs.Obligations.{assigns, revokes}
use Rattle.arbac_laws.specs.Views.{need_of, needs_of}
use Rattle.cert_text.specs.Certificates.{entry_of, origin_of, pick_of, users_of}
use Rattle.cert_check.specs.Asked.{IsDerivedEntry}
use Rattle.cert_check.specs.Origins.{IsExchanged, IsGiven, IsTaken}
use Rattle.cert_check.proofs.OriginLemmas.{found_at, given_form, given_none, ok_weaker, orphan_none, parent_derived, parent_none, past_end, taken_form}
use Rattle.cert_check.proofs.OriginLemmas.{own_seniors, taken_none}
use Rattle.cert_check.proofs.derived.is_derived.Goals as goal

-- the role can't be given so
pub returns-in_default-2 : goal.returns-in_default-2
returns-in_default-2 c = λ asked same goals. (
  λ e. absurd (let never : false ≡ true = e in cc),
  λ d.
      let rules = c.args.book.now in
      let earlier = c.args.earlier.now in
      let parent = c.in-Some.parent.now in
      let order : c.order.result.now ≡ rules.order = c.order.ensures.order ∙ ap (λ (r : Rules). r.order) c.policy.ensures in
      let seniors = own_seniors rules c.order.result.now order c.is_order.ensures.ends in
      let found = c.in-Some.ensures.lookup in
      let at : slice_get earlier c.in-Assign.parent ≡ Some parent = found_at earlier c.in-Assign.parent parent found.3.0 found.1 in
      let pick = pick_of c.in-Assign.admin in
      let form = users_of c.args.step.now.need in
      let none : (hit : List ℕ) (before : Need)
      → IsGiven rules (users_of parent.need) c.in-Assign.rule c.in-Assign.conjunct c.in-Assign.role c.in-Assign.target hit before → ⊥ =
      rw (c.in_default-2.is, c.as_slice-users.ensures.value) at c.in_ok-by-in-Assign.ensures.none in
      absurd (parent_none asked rules same (map entry_of earlier) c.in-Assign.parent (entry_of parent) (get_map entry_of earlier c.in-Assign.parent parent at)
      (assigns c.in-Assign.rule c.in-Assign.conjunct c.in-Assign.role c.in-Assign.target pick) form
      (given_none rules seniors (users_of parent.need) c.in-Assign.rule c.in-Assign.conjunct c.in-Assign.role c.in-Assign.target pick form none)
      (origin_of c.args.step.now.origin) (ap origin_of c.in-Assign.is) d),
)

-- the target is one of the users
pub is_exchanged-requires : goal.is_exchanged-requires
is_exchanged-requires c =
    let users = c.as_slice-users.result.now in
    let by = c.in-Some-2.by in
    let act = c.in-Assign in
    let given : IsGiven c.args.book.now (needs_of users) act.rule act.conjunct act.role act.target by.hit (need_of by.before) =
    rw c.in-Some-2.is at c.in_ok-by-in-Assign.ensures.some in
    let below = get_below (needs_of users) c.in-Assign.target given.parts.need given.parts.need_is in
    let long = length-map users need_of in
    omega (arith, below, long)

-- what must be met before the role is given
pub returns-in-Some-2 : goal.returns-in-Some-2
returns-in-Some-2 c = λ asked same goals.
    let rules = c.args.book.now in
    let earlier = c.args.earlier.now in
    let parent = c.in-Some.parent.now in
    let by = c.in-Some-2.by in
    let order : c.order.result.now ≡ rules.order = c.order.ensures.order ∙ ap (λ (r : Rules). r.order) c.policy.ensures in
    let seniors = own_seniors rules c.order.result.now order c.is_order.ensures.ends in
    let found = c.in-Some.ensures.lookup in
    let at : slice_get earlier c.in-Assign.parent ≡ Some parent = found_at earlier c.in-Assign.parent parent found.3.0 found.1 in
    let pick = pick_of c.in-Assign.admin in
    let form = users_of c.args.step.now.need in
    let needs = users_of parent.need in
    let given : IsGiven rules needs c.in-Assign.rule c.in-Assign.conjunct c.in-Assign.role c.in-Assign.target by.hit (need_of by.before) =
    rw (c.in-Some-2.is, c.as_slice-users.ensures.value) at c.in_ok-by-in-Assign.ensures.some in
    ok_weaker (λ (answer : Bool). IsTrue answer ↔ IsExchanged needs c.in-Assign.target pick by.hit (need_of by.before) form)
    (λ (answer : Bool). IsTrue answer ↔ IsDerivedEntry asked (map entry_of earlier) (entry_of c.args.step.now))
    (λ answer h. parent_derived asked rules same (map entry_of earlier) c.in-Assign.parent (entry_of parent)
    (get_map entry_of earlier c.in-Assign.parent parent at)
    (assigns c.in-Assign.rule c.in-Assign.conjunct c.in-Assign.role c.in-Assign.target pick) form answer
    (given_form rules seniors needs c.in-Assign.rule c.in-Assign.conjunct c.in-Assign.role c.in-Assign.target pick by.hit (need_of by.before) form given
    answer h)
    (origin_of c.args.step.now.origin) (ap origin_of c.in-Assign.is))
    c.is_exchanged.result (rw (c.as_slice-users.ensures.value, c.as_slice-form.ensures.value) at c.is_exchanged.ensures)

-- no step stands at the parent's place
pub returns-in_default-get : goal.returns-in_default-get
returns-in_default-get c = λ asked same goals. (
  λ e. absurd (let never : false ≡ true = e in cc),
  λ d.
      let earlier = c.args.earlier.now in
      let long = length-map earlier entry_of in
      let past : length (map entry_of earlier) ≤ c.in-Weak.parent = let short = c.in_default-get.ensures.lookup.3 in omega (arith, short, long) in
      absurd (orphan_none asked (map entry_of earlier) c.in-Weak.parent (past_end (map entry_of earlier) c.in-Weak.parent past)
      (revokes c.in-Weak.rule c.in-Weak.role c.in-Weak.target (pick_of c.in-Weak.admin)) (users_of c.args.step.now.need)
      (origin_of c.args.step.now.origin) (ap origin_of c.in-Weak.is) d),
)

-- the role can't be taken so
pub returns-in_default-3 : goal.returns-in_default-3
returns-in_default-3 c = λ asked same goals. (
  λ e. absurd (let never : false ≡ true = e in cc),
  λ d.
      let rules = c.args.book.now in
      let earlier = c.args.earlier.now in
      let parent = c.in-Some-get.parent.now in
      let order : c.order.result.now ≡ rules.order = c.order.ensures.order ∙ ap (λ (r : Rules). r.order) c.policy.ensures in
      let seniors = own_seniors rules c.order.result.now order c.is_order.ensures.ends in
      let found = c.in-Some-get.ensures.lookup in
      let at : slice_get earlier c.in-Weak.parent ≡ Some parent = found_at earlier c.in-Weak.parent parent found.3.0 found.1 in
      let pick = pick_of c.in-Weak.admin in
      let form = users_of c.args.step.now.need in
      let none : (hit : List ℕ) (before : Need)
      → IsTaken rules (users_of parent.need) c.in-Weak.rule c.in-Weak.role c.in-Weak.target hit before → ⊥ =
      rw (c.in_default-3.is, c.as_slice-users-in-Weak.ensures.value) at c.in_ok-by-in-Weak.ensures.none in
      absurd (parent_none asked rules same (map entry_of earlier) c.in-Weak.parent (entry_of parent) (get_map entry_of earlier c.in-Weak.parent parent at)
      (revokes c.in-Weak.rule c.in-Weak.role c.in-Weak.target pick) form
      (taken_none rules seniors (users_of parent.need) c.in-Weak.rule c.in-Weak.role c.in-Weak.target pick form none)
      (origin_of c.args.step.now.origin) (ap origin_of c.in-Weak.is) d),
)

-- the target is one of the users
pub is_exchanged-requires-in-Weak : goal.is_exchanged-requires-in-Weak
is_exchanged-requires-in-Weak c =
    let users = c.as_slice-users-in-Weak.result.now in
    let by = c.in-Some-3.by in
    let taken : IsTaken c.args.book.now (needs_of users) c.in-Weak.rule c.in-Weak.role c.in-Weak.target by.hit (need_of by.before) =
    rw c.in-Some-3.is at c.in_ok-by-in-Weak.ensures.some in
    let below = get_below (needs_of users) c.in-Weak.target taken.parts.need taken.parts.need_is in
    let long = length-map users need_of in
    omega (arith, below, long)

-- what must be met before the role is taken
pub returns-in-Some-3 : goal.returns-in-Some-3
returns-in-Some-3 c = λ asked same goals.
    let rules = c.args.book.now in
    let earlier = c.args.earlier.now in
    let parent = c.in-Some-get.parent.now in
    let by = c.in-Some-3.by in
    let order : c.order.result.now ≡ rules.order = c.order.ensures.order ∙ ap (λ (r : Rules). r.order) c.policy.ensures in
    let seniors = own_seniors rules c.order.result.now order c.is_order.ensures.ends in
    let found = c.in-Some-get.ensures.lookup in
    let at : slice_get earlier c.in-Weak.parent ≡ Some parent = found_at earlier c.in-Weak.parent parent found.3.0 found.1 in
    let pick = pick_of c.in-Weak.admin in
    let form = users_of c.args.step.now.need in
    let needs = users_of parent.need in
    let taken : IsTaken rules needs c.in-Weak.rule c.in-Weak.role c.in-Weak.target by.hit (need_of by.before) =
    rw (c.in-Some-3.is, c.as_slice-users-in-Weak.ensures.value) at c.in_ok-by-in-Weak.ensures.some in
    ok_weaker (λ (answer : Bool). IsTrue answer ↔ IsExchanged needs c.in-Weak.target pick by.hit (need_of by.before) form)
    (λ (answer : Bool). IsTrue answer ↔ IsDerivedEntry asked (map entry_of earlier) (entry_of c.args.step.now))
    (λ answer h. parent_derived asked rules same (map entry_of earlier) c.in-Weak.parent (entry_of parent)
    (get_map entry_of earlier c.in-Weak.parent parent at)
    (revokes c.in-Weak.rule c.in-Weak.role c.in-Weak.target pick) form answer
    (taken_form rules seniors needs c.in-Weak.rule c.in-Weak.role c.in-Weak.target pick by.hit (need_of by.before) form taken answer h)
    (origin_of c.args.step.now.origin) (ap origin_of c.in-Weak.is))
    c.is_exchanged-in-Weak.result (rw (c.as_slice-users-in-Weak.ensures.value, c.as_slice-form.ensures.value) at c.is_exchanged-in-Weak.ensures)
