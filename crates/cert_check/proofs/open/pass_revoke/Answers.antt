use Rattle.std.proofs.Common.{◌≡◌, ◌∙◌, ap, false, refl, get_or}
use Rattle.arbac_policy.specs.declared.rule.CanRevoke.{CanRevoke}
use Rattle.arbac_policy.specs.Rules.{Rules}
use Rattle.arbac_laws.specs.Views.{needs_of}
use Rattle.cert_check.proofs.ImageLemmas.{revoke_counts, item_is}
use Rattle.cert_check.proofs.open.pass_revoke.Goals as goal

-- the acts are those of the rule at the place
pub returns : goal.returns
returns c = λ rule at.
    let book = c.args.member.now.book.now in
    let none : CanRevoke = record { admin = 0; range = record { low = 0; high = 0; low_open = false; high_open = false } } in
    let one : CanRevoke = get_or c.revoke.result.now c.args.at none in
    let same : one ≡ rule = item_is book.revoke c.revoke.result.now c.args.at rule one none
    (c.revoke.ensures ∙ ap (λ (r : Rules). r.revoke) c.policy-policy.ensures) at refl in
    revoke_counts c.args.member.now.index.now.members book (needs_of c.args.member.now.users.now) c.order-order.result.now one rule
    c.seniors-hit.result c.args.place.now c.pass_range.new.place c.in_ok-found.found same
    (c.order-order.ensures.order ∙ ap (λ (r : Rules). r.order) c.policy-policy.ensures)
    c.seniors-hit.ensures.seniors c.in_ok-found.ensures
