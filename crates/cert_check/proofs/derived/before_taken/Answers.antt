use Rattle.std.proofs.Common.{◌≡◌, ◌∙◌, Some, sym, ap}
use Rattle.std.specs.Prelude.{slice_get}
use Rattle.list_words.proofs.GetLemmas.{get_map}
use Rattle.role_order.specs.Ranges.{IsInRange}
use Rattle.arbac_policy.specs.Rules.{Rules}
use Rattle.arbac_laws.specs.Views.{need_of}
use Rattle.cert_check.proofs.OriginLemmas.{found_at}
use Rattle.cert_check.proofs.derived.before_taken.Goals as goal

-- each part was looked up and tested
pub returns-clause-some : goal.returns-clause-some
returns-clause-some c =
    let rules = c.args.book.now in
    let users = c.args.users.now in
    let by = c.in-Some.by.now in
    let user = c.in-Some-get.user.now in
    let order : c.order-order.result.now ≡ rules.order = c.order-order.ensures.order ∙ ap (λ (r : Rules). r.order) c.policy-policy.ensures in
    let first = c.in-Some.ensures.lookup in
    let second = c.in-Some-get.ensures.lookup in
    let rule_at : slice_get c.revoke.result.now c.args.rule ≡ Some by = found_at c.revoke.result.now c.args.rule by first.3.0 first.1 in
    let user_at : slice_get users c.args.target ≡ Some user = found_at users c.args.target user second.3.0 second.1 in
    let within : IsInRange c.order-order.result.now by.range c.args.role = c.is_in_range.ensures.0 c.if-not-is_in_range.false in
    record {
      parts = record {
        by = by;
        by_is = rw (c.revoke.ensures, c.policy-policy.ensures) at rule_at;
        in_range = rw order at within;
        need = need_of user;
        need_is = get_map need_of users c.args.target user user_at;
        barred = sym c.has.ensures.value ∙ c.if-not-has.false;
        is_pick = tt;
      };
      hit_is = rw order at c.seniors-hit.ensures.seniors;
      before_is = sym (rw c.in-Some-2.is at c.in_ok-before.ensures);
    }
