use Rattle.std.proofs.Common.{sym, subst, ◌∙◌, List}
use Rattle.std.proofs.lemmas.Bool.{false≢true}
use Rattle.list_words.specs.Lists.{Each, Some_of}
use Rattle.shared_reqs.specs.Shared.{MarkedNeed, needs_marked}
use Rattle.back_search.specs.Stops.{MayServe}
use Rattle.back_search.proofs.WalkLemmas.{unserved_unmet}
use Rattle.back_search.proofs.walk.choice_of.Goals as goal

pub returns-then-not-are_served-clause-none : goal.returns-then-not-are_served-clause-none
returns-then-not-are_served-clause-none c =
    unserved_unmet c.args.profiles.now (needs_marked c.args.req.now)
    (λ each.
    false≢true (sym c.if-not-are_served.true ∙
    c.are_served.ensures.1
    (subst (λ (list : List MarkedNeed). Each (λ need. Some_of (MayServe need) c.args.profiles.now) (needs_marked list)) (sym c.users.ensures.users) each)))

pub returns-clause-none : goal.returns-clause-none
returns-clause-none c =
    let unmet = rw c.in-Apart.is at c.in_ok-choice.ensures.unmet in
    rw c.in_ok-plain.ensures at unmet
