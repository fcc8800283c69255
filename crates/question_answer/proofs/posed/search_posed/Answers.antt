use Rattle.std.proofs.Common.{List, ◌≡◌, Some}
use Rattle.list_words.specs.Lists.{IsOneOf}
use Rattle.arbac_laws.specs.Closed.{IsUnmet}
use Rattle.arbac_laws.specs.Needs.{Need, IsCovered}
use Rattle.arbac_laws.specs.Obligations.{Obligation, obligations, pre_image}
use Rattle.back_search.specs.Answers.{AreBarriers, IsAnswer, Shows}
use Rattle.question_answer.specs.Outcomes.{search_under}
use Rattle.question_answer.specs.Posing.{asked_in}
use Rattle.question_answer.proofs.posed.search_posed.Goals as goal

-- the barriers are those of a ceiling, closed and unmet, so that the outcome shows what it says
pub returns : goal.returns
returns g c =
    let rules = c.args.posed.now.prepared in
    let ceiling = rw c.deref.ensures.value at c.in_ok-known.ensures.list in
    let s = search_under (asked_in c.args.posed.now) c.args.limit ceiling.0 in
    let closed : (needs : List Need) → IsOneOf s.barriers needs → (ob : Obligation) → IsOneOf (obligations rules needs) ob
    → (before : List Need) → pre_image rules needs ob ≡ Some before → IsCovered s.barriers before =
    rw ceiling.2 at c.in_ok-known.ensures.closed in
    let unmet : (needs : List Need) → IsOneOf s.barriers needs → IsUnmet s.profiles needs =
    rw (c.deref.ensures.value, ceiling.2) at c.in_ok-known.ensures.unmet in
    let are_barriers : AreBarriers s = record { closed = λ needs is ob listed before e possible. closed needs is ob listed before e; unmet = unmet } in
    let answer : IsAnswer s c.in_ok-outcome.outcome =
    rw (c.deref-2.ensures.value, c.deref-3.ensures.value, c.deref-4.ensures.value, ceiling.2) at c.in_ok-outcome.ensures.outcome in
    let shows : AreBarriers s → Shows s c.in_ok-outcome.outcome =
    rw (c.deref-2.ensures.value, c.deref-3.ensures.value, c.deref-4.ensures.value, ceiling.2) at c.in_ok-outcome.ensures.shows in
    record { ceiling = ceiling.0; is_ceiling = ceiling.1; is_answer = answer; shows = shows are_barriers }
