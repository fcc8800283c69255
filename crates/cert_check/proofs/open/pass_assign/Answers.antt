use Rattle.std.proofs.Common.{◌≡◌, ◌∙◌, sym, ap}
use Rattle.list_words.proofs.GetLemmas.{same_some}
use Rattle.arbac_policy.specs.Rules.{Rules}
use Rattle.arbac_laws.specs.Views.{needs_of}
use Rattle.cert_check.specs.Rulebooks.{conjuncts_of}
use Rattle.cert_check.proofs.ImageLemmas.{assign_counts, item_is}
use Rattle.cert_check.proofs.open.pass_assign.Goals as goal

-- the conjuncts are those of the rule at the place
pub returns : goal.returns
returns c = λ rule at.
    let book = c.args.member.now.book.now in
    let one = c.index-assign-at.result in
    let kept = c.in-Some.ensures.list in
    let same : one ≡ rule = item_is book.assign c.assign.result.now c.args.at rule one one
    (c.assign.ensures ∙ ap (λ (r : Rules). r.assign) c.policy-policy.ensures) at c.index-assign-at.is in
    assign_counts c.args.member.now.index.now.members book (needs_of c.args.member.now.users.now) c.order-order.result.now one rule
    (needs_of c.in-Some.conjuncts.now) c.seniors-hit.result c.args.place.now c.pass_conjuncts.new.place c.in_ok-found.found same
    (c.order-order.ensures.order ∙ ap (λ (r : Rules). r.order) c.policy-policy.ensures)
    (kept.2 ∙ ap (conjuncts_of book) (same_some kept.0 rule (sym kept.1 ∙ at)))
    c.seniors-hit.ensures.seniors c.in_ok-found.ensures
