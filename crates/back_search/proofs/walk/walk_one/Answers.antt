use Rattle.std.proofs.Common.{◌≡◌, ◌++◌, ◌∷◌, [], List, length, ap, rules, sym, subst, ◌∙◌}
use Rattle.std.proofs.lemmas.List.{length-map}
use Rattle.arbac_policy.specs.declared.profile.Profile.{Profile}
use Rattle.arbac_laws.specs.Closed.{IsUnmet}
use Rattle.arbac_laws.specs.Serving.{ServesLeast}
use Rattle.arbac_laws.specs.Recorded.{Entry}
use Rattle.search_laws.specs.Rounds.{Walks, goes_on}
use Rattle.shared_reqs.specs.Shared.{needs_marked}
use Rattle.search_rounds.specs.declared.candidate.Candidate.{Candidate}
use Rattle.search_rounds.specs.Views.{entry_of, entries_of}
use Rattle.back_search.proofs.WalkLemmas.{walks_found, walks_full, walks_on, entries_append}
use Rattle.back_search.proofs.walk.walk_one.Goals as goal

pub returns-in-Some-clause-walks : goal.returns-in-Some-clause-walks
returns-in-Some-clause-walks c =
    let least = rw c.deref.ensures at (rw c.in-Some.is at c.in_ok-choice.ensures.some) in
    λ s profiles limit.
    walks_found s (entries_of c.args.recorded.now.items) (entry_of c.args.one) c.in-Some.choice.items
    (subst (λ (list : List Profile). ServesLeast list (needs_marked c.args.one.req.value) c.in-Some.choice.items) (sym profiles) least)

-- no drawn users meet it, and as many are recorded as may be
pub returns-then-len-limit-clause-walks : goal.returns-then-len-limit-clause-walks
returns-then-len-limit-clause-walks c =
    let unmet = rw c.deref.ensures at (rw c.in_default.is at c.in_ok-choice.ensures.none) in
    let count : c.len.result ≡ length c.args.recorded.now.items = search rules in
    let full : length (entries_of c.args.recorded.now.items) ≡ c.args.limit =
    length-map c.args.recorded.now.items entry_of ∙ sym count ∙ c.if-len-limit.true in
    λ s profiles limit.
    walks_full s (entries_of c.args.recorded.now.items) (entry_of c.args.one)
    (subst (λ (list : List Profile). IsUnmet list (needs_marked c.args.one.req.value)) (sym profiles) unmet) (full ∙ sym limit)

-- no drawn users meet it, and fewer are recorded
pub returns-clause-walks : goal.returns-clause-walks
returns-clause-walks c =
    let unmet = rw c.deref.ensures at (rw c.in_default.is at c.in_ok-choice.ensures.none) in
    let count : c.len.result ≡ length c.args.recorded.now.items = search rules in
    let long = length-map c.args.recorded.now.items entry_of in
    let pushed : entries_of c.push.new.self.items ≡ entries_of c.args.recorded.now.items ++ entry_of c.args.one ∷ [] =
    ap (λ (list : List Candidate). entries_of list) c.in_ok-push.ensures.items ∙ entries_append c.args.recorded.now.items (c.args.one ∷ []) in
    λ s profiles limit.
    subst (λ (list : List Entry). Walks s (entries_of c.args.recorded.now.items) (entry_of c.args.one ∷ []) (goes_on list)) (sym pushed)
    (walks_on s (entries_of c.args.recorded.now.items) (entry_of c.args.one)
    (subst (λ (list : List Profile). IsUnmet list (needs_marked c.args.one.req.value)) (sym profiles) unmet)
    (λ full. c.if-len-limit.false (count ∙ sym long ∙ full ∙ limit)))
