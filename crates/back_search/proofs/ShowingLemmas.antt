-- What the answers of a search show.
use Rattle.std.proofs.Common.{ℕ, ◌≡◌, ◌∙◌, List, ◌∷◌, [], ◌++◌, length, Some, sym, subst}
use Rattle.std.proofs.lemmas.List.{length-map}
use Rattle.role_order.specs.Graph.{AreEdges}
use Rattle.arbac_policy.specs.Goals.{IsReachable}
use Rattle.arbac_laws.specs.Closed.{IsClosedList}
use Rattle.arbac_laws.specs.Recorded.{Entry}
use Rattle.arbac_laws.proofs.ConjunctLemmas.{are_seniors}
use Rattle.arbac_laws.proofs.ObligationLemmas.{list_excludes}
use Rattle.arbac_laws.proofs.ServeLemmas.{serves_users}
use Rattle.search_laws.specs.Candidates.{needs_in}
use Rattle.search_laws.specs.Rounds.{Search}
use Rattle.search_laws.proofs.OutcomeLemmas.{closed_list, full_limit, full_list}
use Rattle.search_laws.proofs.PlanLemmas.{found_runs}
use Rattle.back_search.specs.declared.outcome.Outcome.{Outcome}
use Rattle.back_search.specs.declared.outcome.Outcome.TheVariants.{Found, Closed, Limit}
use Rattle.back_search.specs.Answers.{entry_in, entries_in, IsAnswer, AreBarriers, Shows}

-- a plan; a closed list; a recorded list of the limit and one more
pub answer_shows : (s : Search) → AreEdges (length s.rules.order.names) s.rules.order.edges → AreBarriers s → (outcome : Outcome) → IsAnswer s outcome
    → Shows s outcome
answer_shows s edges barriers (Found choice acts count) answer =
    let same = are_seniors s.rules.order edges in
    let recorded = answer.0 in
    let entry = answer.1 in
    let found = answer.2 in
    let least = answer.3 in
    let served = serves_users s.profiles entry.needs choice.items least.serves in
    let run = found_runs s same recorded entry found served.0 (λ user. user) served.2 acts.items answer.4 in
    record { drawn = least.serves.drawn; users = served.0; are_users = served.1; end = run.0; run = run.1; met = run.2 }
answer_shows s edges barriers (Closed needs count) answer =
    let same = are_seniors s.rules.order edges in
    let recorded = answer.0 in
    let list : IsClosedList s.rules s.profiles s.goal (s.barriers ++ needs_in recorded) =
    closed_list s same barriers.closed barriers.unmet recorded answer.1 in (
      subst (IsClosedList s.rules s.profiles s.goal) (sym answer.2) list,
      list_excludes s.rules same s.profiles s.goal (s.barriers ++ needs_in recorded) list,
    )
answer_shows s edges barriers (Limit recorded next) answer =
    let same = are_seniors s.rules.order edges in (
      sym (length-map recorded.items entry_in) ∙ full_limit s (entries_in recorded.items) (entry_in next) answer,
      full_list s same (entries_in recorded.items) (entry_in next) answer,
    )
