use Rattle.std.proofs.Common.{◌≡◌, ◌∙◌, None, Some, sym, ap, subst}
use Rattle.std.specs.Prelude.{slice_get}
use Rattle.role_order.specs.Graph.{Graph}
use Rattle.role_order.specs.Ranges.{IsInRange}
use Rattle.arbac_policy.specs.Rules.{Rules}
use Rattle.arbac_laws.specs.Views.{need_of, needs_of}
use Rattle.arbac_laws.proofs.FlatLemmas.{any_some, some_any}
use Rattle.cert_check.proofs.OriginLemmas.{are_at, AreAt, found_at, given_same}
use Rattle.cert_check.proofs.derived.before_given.Goals as goal
use Rattle.cert_check.proofs.derived.before_given.Goals.{then-not-is_in_range-via-then-not-is_in_range}
use Rattle.cert_check.proofs.derived.before_given.Goals.{then-not-is_in_range-via-else-not-is_in_range+then-not-has_hit}

-- the role is outside of the range, or no hit has it
pub returns-then-not-is_in_range-clause-none : goal.returns-then-not-is_in_range-clause-none
returns-then-not-is_in_range-clause-none c = λ hit before g.
    let rules = c.args.book.now in
    let by = c.in-Some.by.now in
    let when = c.in-Some-get.when.now in
    let user = c.in-Some-get-2.user.now in
    let first = c.in-Some.ensures.lookup in
    let second = c.in-Some-get.ensures.lookup in
    let third = c.in-Some-get-2.ensures.lookup in
    let rule_at : slice_get c.assign.result.now c.args.rule ≡ Some by = found_at c.assign.result.now c.args.rule by first.3.0 first.1 in
    let are : AreAt rules (needs_of c.args.users.now) c.args.rule c.args.conjunct c.args.target by (need_of when) (need_of user) =
    are_at rules c.args.users.now c.args.rule c.args.conjunct c.args.target by c.in-Some-conjuncts_at.conjuncts.now when user
    (rw (c.assign.ensures, c.policy-policy.ensures) at rule_at) c.in-Some-conjuncts_at.ensures.list
    (found_at c.in-Some-conjuncts_at.conjuncts.now c.args.conjunct when second.3.0 second.1)
    (found_at c.args.users.now c.args.target user third.3.0 third.1) in
    let same = given_same rules (needs_of c.args.users.now) c.args.rule c.args.conjunct c.args.role c.args.target hit before g by (need_of when)
    (need_of user) are in
    let order : c.order-order.result.now ≡ rules.order = c.order-order.ensures.order ∙ ap (λ (r : Rules). r.order) c.policy-policy.ensures in
    elim c.then-not-is_in_range.branch [
      | then-not-is_in_range-via-then-not-is_in_range w ↦
          let passes = c.is_in_range.ensures.1 (subst (λ (graph : Graph). IsInRange graph by.range c.args.role) (sym order) same.0) in
          let fails = w.if-not-is_in_range.true in cc
      | then-not-is_in_range-via-else-not-is_in_range+then-not-has_hit w ↦
          let has = any_some c.args.role user.hits.items same.1 in
          let tested = rw w.deref.ensures.value at w.has_hit.ensures in
          let fails = w.if-not-has_hit.true in cc
    ]

-- nothing that the target could meet before leads to it
pub returns-in_default-2-clause-none : goal.returns-in_default-2-clause-none
returns-in_default-2-clause-none c = λ hit before g.
    let rules = c.args.book.now in
    let by = c.in-Some.by.now in
    let when = c.in-Some-get.when.now in
    let user = c.in-Some-get-2.user.now in
    let first = c.in-Some.ensures.lookup in
    let second = c.in-Some-get.ensures.lookup in
    let third = c.in-Some-get-2.ensures.lookup in
    let rule_at : slice_get c.assign.result.now c.args.rule ≡ Some by = found_at c.assign.result.now c.args.rule by first.3.0 first.1 in
    let are : AreAt rules (needs_of c.args.users.now) c.args.rule c.args.conjunct c.args.target by (need_of when) (need_of user) =
    are_at rules c.args.users.now c.args.rule c.args.conjunct c.args.target by c.in-Some-conjuncts_at.conjuncts.now when user
    (rw (c.assign.ensures, c.policy-policy.ensures) at rule_at) c.in-Some-conjuncts_at.ensures.list
    (found_at c.in-Some-conjuncts_at.conjuncts.now c.args.conjunct when second.3.0 second.1)
    (found_at c.args.users.now c.args.target user third.3.0 third.1) in
    let same = given_same rules (needs_of c.args.users.now) c.args.rule c.args.conjunct c.args.role c.args.target hit before g by (need_of when)
    (need_of user) are in
    let none = rw (c.exclusions.ensures, c.in_default-2.is) at c.in_ok-before.ensures in
    let never : None ≡ Some before = none ∙ same.2 in cc

-- each part was looked up and tested
pub returns-clause-some : goal.returns-clause-some
returns-clause-some c =
    let rules = c.args.book.now in
    let by = c.in-Some.by.now in
    let when = c.in-Some-get.when.now in
    let user = c.in-Some-get-2.user.now in
    let first = c.in-Some.ensures.lookup in
    let second = c.in-Some-get.ensures.lookup in
    let third = c.in-Some-get-2.ensures.lookup in
    let rule_at : slice_get c.assign.result.now c.args.rule ≡ Some by = found_at c.assign.result.now c.args.rule by first.3.0 first.1 in
    let are : AreAt rules (needs_of c.args.users.now) c.args.rule c.args.conjunct c.args.target by (need_of when) (need_of user) =
    are_at rules c.args.users.now c.args.rule c.args.conjunct c.args.target by c.in-Some-conjuncts_at.conjuncts.now when user
    (rw (c.assign.ensures, c.policy-policy.ensures) at rule_at) c.in-Some-conjuncts_at.ensures.list
    (found_at c.in-Some-conjuncts_at.conjuncts.now c.args.conjunct when second.3.0 second.1)
    (found_at c.args.users.now c.args.target user third.3.0 third.1) in
    let order : c.order-order.result.now ≡ rules.order = c.order-order.ensures.order ∙ ap (λ (r : Rules). r.order) c.policy-policy.ensures in
    let within : IsInRange c.order-order.result.now by.range c.args.role = c.is_in_range.ensures.0 c.if-not-is_in_range.false in
    let tested = rw c.deref.ensures.value at c.has_hit.ensures in
    record {
      parts = record {
        by = by;
        by_is = are.by_is;
        when = need_of when;
        when_is = are.when_is;
        in_range = rw order at within;
        need = need_of user;
        need_is = are.need_is;
        wanted = some_any c.args.role user.hits.items (sym tested ∙ c.if-not-has_hit.false);
        is_pick = tt;
      };
      hit_is = rw order at c.seniors-hit.ensures.seniors;
      before_is = sym (rw (c.exclusions.ensures, c.in-Some-2.is) at c.in_ok-before.ensures);
    }
