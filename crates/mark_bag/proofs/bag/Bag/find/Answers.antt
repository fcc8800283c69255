use Rattle.std.proofs.Common.{ℕ, ◌≡◌, ◌<◌, length, ◌∙◌, subst}
use Rattle.std.specs.Prelude.{IfNone}
use Rattle.list_words.specs.Lists.{IsOneOf}
use Rattle.mark_bag.specs.Index.{IsIndex}
use Rattle.mark_bag.proofs.FindLemmas.{none_accepted}
use Rattle.mark_bag.proofs.bag.Bag.find.Goals as goal

pub find_in_groups-requires : goal.find_in_groups-requires
find_in_groups-requires g c group o = rw c.deref-2.ensures.value
    (c.self.invariant.groups_lie group (subst (λ list. IsOneOf list group) c.deref.ensures.value o))

pub returns-clause-none : goal.returns-clause-none
returns-clause-none g c =
    let accepts = g.T.Accepts.accepts c.args.test.now in
    let same : c.deref-2.result.now ≡ c.args.self.now = c.deref-2.ensures.value ∙ c.self.view_is in
    let index : IsIndex g.M.Mark.within c.deref-2.result.now c.deref.result.now = rw (c.deref-2.ensures.value, c.deref.ensures.value) c.self.invariant in
    subst (λ list. IfNone c.find_in_groups.result ((item : ℕ) → item < length list → accepts item → ⊥)) same
    (none_accepted (g.Q.Query.fits c.args.query.now) accepts c.deref-2.result.now c.deref.result.now c.find_in_groups.result index.whole
    (λ item mark is_mark. c.requires item mark (rw (← same) is_mark)) c.find_in_groups.ensures.none)
