use Rattle.std.proofs.Common.{◌≡◌, ◌≤◌, ◌∙◌, ap, sym, length, Some, Vec, Global, arith}
use Rattle.std.specs.Prelude.{slice_get}
use Rattle.list_words.proofs.GetLemmas.{get_at, get_within, below_more}
use Rattle.list_words.proofs.EachLemmas.{each_of}
use Rattle.arbac_policy.specs.declared.rule.CanAssign.{CanAssign}
use Rattle.arbac_rules.specs.declared.TheConstants.{MOST_CONJUNCTS}
use Rattle.arbac_policy.specs.declared.conjunct.Conjunct.{Conjunct}
use Rattle.arbac_rules.specs.declared.listing.WideError.TheVariants.{TooWide}
use Rattle.arbac_laws.specs.Views.{needs_of}
use Rattle.arbac_rules.specs.Widths.{IsTooWide as IsTooWideList}
use Rattle.req_pre.specs.Preparing.{conjuncts_of, IsWide}
use Rattle.req_pre.proofs.PreparedLemmas.{wide_first, narrow_here, mapped_more}
use Rattle.req_pre.proofs.prepared.lists_for.Goals as goal

pub returns-in-Err-TooWide-clause-wide : goal.returns-in-Err-TooWide-clause-wide
returns-in-Err-TooWide-clause-wide c =
    let rules = c.args.policy.now in
    let rule = c.rule-item.result in
    let here : slice_get c.assign-rule-items.result.now c.loop-place.place ≡ Some rule =
    get_at _ _ _ c.loop-place-test.true ∙ ap (λ (x : CanAssign). Some x) (sym c.rule-item.is) in
    let at : slice_get rules.assign c.loop-place.place ≡ Some rule = rw (c.assign-rule-items.ensures) at here in
    let told : IsTooWideList (conjuncts_of rules rule) (TooWide c.in-Err-TooWide.count) =
    rw (c.in-Err-TooWide.field-0-is, c.order-order.ensures.order) at c.in-Err-TooWide.ensures.wide in
    rw (c.in-Err-TooWide.field-0-is) (wide_first rules c.loop-place.place c.in-Err-TooWide.count rule at c.loop-place.invariant.narrow told)

pub loop-place-preserved : goal.loop-place-preserved
loop-place-preserved c =
    let rules = c.args.policy.now in
    let rule = c.rule-item.result in
    let here : slice_get c.assign-rule-items.result.now c.loop-place.place ≡ Some rule =
    get_at _ _ _ c.loop-place-test.true ∙ ap (λ (x : CanAssign). Some x) (sym c.rule-item.is) in
    let at : slice_get rules.assign c.loop-place.place ≡ Some rule = rw (c.assign-rule-items.ensures) at here in
    let same : needs_of c.in-Ok.list.items ≡ conjuncts_of rules rule = rw (c.order-order.ensures.order) at c.in-Ok.ensures.list in
    let few : length (conjuncts_of rules rule) ≤ MOST_CONJUNCTS = rw (c.order-order.ensures.order) at c.in-Ok.ensures.few in
    record {
      lists = mapped_more (λ (l : Vec Conjunct Global). needs_of l.items)
          (conjuncts_of rules) c.loop-place.lists.items c.push.new.self.items rules.assign c.loop-place.place c.in-Ok.list rule
          c.loop-place.invariant.lists at c.in_ok-push-in-Ok.ensures.items same;
      narrow = below_more (λ (x : CanAssign). ¬ IsWide x) rules.assign c.loop-place.place rule c.loop-place.invariant.narrow at (narrow_here rules rule few);
    }

pub returns-clause-narrow : goal.returns-clause-narrow
returns-clause-narrow c =
    let rules = c.args.policy.now in
    let all : length rules.assign ≤ c.loop-place.place = rw (c.assign-rule-items.ensures) at c.loop-place-test.false in
    each_of (λ (x : CanAssign). ¬ IsWide x) rules.assign
    (λ k x e. c.loop-place.invariant.narrow k x (omega ((get_within rules.assign k x e).0, all, arith)) e)
