-- What a search answers.
use Rattle.std.specs.Prelude.{ℕ, ◌≡◌, List, ◌∷◌, [], ◌++◌, length, map, Some}
use Rattle.list_words.specs.Lists.{IsOneOf}
use Rattle.arbac_policy.specs.declared.act.Act.{Act}
use Rattle.arbac_policy.specs.declared.cond.Cond.{Cond}
use Rattle.arbac_policy.specs.declared.profile.Profile.{Profile}
use Rattle.arbac_policy.specs.Truth.{term_of}
use Rattle.arbac_policy.specs.Rules.{Rules}
use Rattle.arbac_policy.specs.Steps.{Run}
use Rattle.arbac_policy.specs.Goals.{AreUsers, IsDrawnChoice, IsReachable, GoalMet}
use Rattle.arbac_laws.specs.Needs.{Need, IsCovered, IsPossible}
use Rattle.arbac_laws.specs.Closed.{IsClosedList, IsUnmet}
use Rattle.arbac_laws.specs.Obligations.{Obligation, obligations, pre_image}
use Rattle.arbac_laws.specs.Recorded.{Entry as Recorded, IsRecordedList}
use Rattle.arbac_laws.specs.Serving.{ServesLeast}
use Rattle.search_laws.specs.Candidates.{needs_in}
use Rattle.search_laws.specs.Plans.{Plans}
use Rattle.search_laws.specs.Rounds.{Search, IsOutcome, found, closed, full}
use Rattle.search_rounds.specs.Views.{origin_of}
use Rattle.back_search.specs.declared.outcome.Entry.{Entry}
use Rattle.back_search.specs.declared.outcome.Outcome.{Outcome}
use Rattle.back_search.specs.declared.outcome.Outcome.TheVariants.{Found, Closed, Limit}

-- what is searched for
abbrev pub search_for : Rules → List Profile → List Cond → List (List Need) → ℕ → Search
search_for rules profiles goal barriers limit =
    record { rules = rules; profiles = profiles; goal = map term_of goal; barriers = barriers; limit = limit }

-- a recorded entry as the laws see it
abbrev pub entry_in : Entry → Recorded
entry_in one = record { origin = origin_of one.origin; needs = one.req }

-- each of a list
abbrev pub entries_in : List Entry → List Recorded
entries_in list = map entry_in list

-- an entry that drawn users meet: the least choice of these, and the plan from where they stand; or the barriers and the
-- recorded requirements, with nothing left to take; or as many recorded entries as the limit, and one more
abbrev pub IsAnswer : Search → Outcome → Type 0
IsAnswer s (Found choice acts count) = (recorded : List Recorded) × (entry : Recorded) × IsOutcome s (found recorded entry)
    × ServesLeast s.profiles entry.needs choice.items × Plans s.rules recorded entry (λ user. user) acts.items × (count ≡ length recorded)
IsAnswer s (Closed needs count) = (recorded : List Recorded) × IsOutcome s (closed recorded)
    × (needs.items ≡ s.barriers ++ needs_in recorded) × (count ≡ length recorded)
IsAnswer s (Limit recorded next) = IsOutcome s (full (entries_in recorded.items) (entry_in next))

-- the choice is drawn, and the acts lead from its users to users who meet the goal
pub record IsPlan (s : Search) (choice : List ℕ) (acts : List Act) : Type 0 where
  pub drawn : IsDrawnChoice s.profiles choice
  pub users : List (List ℕ)
  pub are_users : AreUsers s.profiles choice users
  pub end : List (List ℕ)
  pub run : Run s.rules users acts end
  pub met : GoalMet s.rules.order.edges s.goal end

-- whatever is possible before an act that may lead to a barrier is covered by a barrier, and no drawn users meet one
pub record AreBarriers (s : Search) : Type 0 where
  pub closed : (needs : List Need) → IsOneOf s.barriers needs → (ob : Obligation) → IsOneOf (obligations s.rules needs) ob
      → (before : List Need) → pre_image s.rules needs ob ≡ Some before → IsPossible before → IsCovered s.barriers before
  pub unmet : (needs : List Need) → IsOneOf s.barriers needs → IsUnmet s.profiles needs

-- what each answer shows: a plan; a closed list, so that nothing is reachable; a recorded list, of the limit and one more
abbrev pub Shows : Search → Outcome → Type 0
Shows s (Found choice acts count) = IsPlan s choice.items acts.items
Shows s (Closed needs count) = IsClosedList s.rules s.profiles s.goal needs.items × ¬ IsReachable s.rules s.profiles s.goal
Shows s (Limit recorded next) = (length recorded.items ≡ s.limit)
    × IsRecordedList s.rules s.profiles s.goal (entries_in recorded.items ++ entry_in next ∷ [])
