use Rattle.std.proofs.Common.{◌≡◌, ◌∙◌, List, Global, Some, ap, arith, subst, sym}
use Rattle.std.specs.Prelude.{slice_get}
use Rattle.std.specs.declared.sync.Arc.{Arc}
use Rattle.list_words.proofs.EachLemmas.{each_at}
use Rattle.list_words.proofs.GetLemmas.{get_at, get_below, get_map, same_some}
use Rattle.shared_reqs.specs.Shared.{MarkedNeed, IsOwnMark, needs_marked, needs_shared}
use Rattle.shared_reqs.proofs.SharedLemmas.{copied, need_there, shared_long}
use Rattle.shared_reqs.proofs.pool.Pool.share.Goals as goal

-- the same is wanted of the user at the place that was found
pub returns-in-Some-clause-need : goal.returns-in-Some-clause-need
returns-in-Some-clause-need c =
    let items = c.self.inside.users.items in
    let at = c.in-Some.at in
    let one = c.index.result.now in
    let there : slice_get (needs_shared items) at ≡ Some c.args.user =
    subst (λ (l : List MarkedNeed). slice_get (needs_marked l) at ≡ Some c.args.user) (sym c.self.view_is) c.in-Some.ensures in
    let below = get_below (needs_shared items) at c.args.user there in
    let long = shared_long items in
    let here : slice_get items at ≡ Some one = get_at items at one (omega (arith, below, long)) ∙ ap Some (sym c.index.ensures) in
    let same : one.value.need ≡ c.args.user = same_some one.value.need c.args.user (sym (need_there items at one here) ∙ there) in
    copied (λ (m : MarkedNeed). m.need ≡ c.args.user) _ c.clone.result one.value c.clone.ensures.cases same

-- its mark is its own, as those of all of the pool are
pub returns-in-Some-clause-mark : goal.returns-in-Some-clause-mark
returns-in-Some-clause-mark c =
    let items = c.self.inside.users.items in
    let at = c.in-Some.at in
    let one = c.index.result.now in
    let there : slice_get (needs_shared items) at ≡ Some c.args.user =
    subst (λ (l : List MarkedNeed). slice_get (needs_marked l) at ≡ Some c.args.user) (sym c.self.view_is) c.in-Some.ensures in
    let below = get_below (needs_shared items) at c.args.user there in
    let long = shared_long items in
    let here : slice_get items at ≡ Some one = get_at items at one (omega (arith, below, long)) ∙ ap Some (sym c.index.ensures) in
    let member : slice_get c.args.self.now at ≡ Some one.value =
    subst (λ (l : List MarkedNeed). slice_get l at ≡ Some one.value) c.self.view_is
    (get_map (λ (u : Arc MarkedNeed Global). u.value) items at one here) in
    copied (IsOwnMark c.args.order.now) _ c.clone.result one.value c.clone.ensures.cases
    (each_at (IsOwnMark c.args.order.now) c.args.self.now at one.value c.requires member)
