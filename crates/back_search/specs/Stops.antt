-- How a round ends.
use Rattle.std.specs.Prelude.{ℕ, ◌≡◌, List, [], ◌++◌, Option, Some, None}
use Rattle.list_words.specs.Lists.{Each}
use Rattle.arbac_policy.specs.declared.profile.Profile.{Profile}
use Rattle.arbac_laws.specs.Needs.{Need, MeetsNeed, IsCovered}
use Rattle.arbac_laws.specs.Recorded.{Entry}
use Rattle.arbac_laws.specs.Serving.{ServesLeast}
use Rattle.search_laws.specs.Candidates.{needs_in}
use Rattle.search_laws.specs.Rounds.{Search, Outcome, Walk, ends, goes_on, found, full, closed}
use Rattle.search_rounds.specs.Keeping.{Gathered}
use Rattle.search_rounds.specs.Views.{entry_of}
use Rattle.back_search.specs.Answers.{search_for}
use Rattle.back_search.specs.declared.task.Task.{Task}
use Rattle.back_search.specs.declared.walk.Stop.{Stop}
use Rattle.back_search.specs.declared.walk.Stop.TheVariants.{Found, Full}

-- there may be users of the profile, and they meet the user requirement
abbrev pub MayServe : Need → Profile → Type 0
MayServe need profile = (profile.most ≡ Some 0 → ⊥) × MeetsNeed need profile.set

-- the walk that left this list recorded
abbrev pub walk_of : Option Stop → List Entry → Walk
walk_of None recorded = goes_on recorded
walk_of (Some (Found choice entry)) recorded = ends (found recorded (entry_of entry))
walk_of (Some (Full next)) recorded = ends (full recorded (entry_of next))

-- the choice is the least that serves what was found
abbrev pub IsServed : List Profile → Option Stop → Type 0
IsServed profiles None = Unit {0}
IsServed profiles (Some (Found choice entry)) = ServesLeast profiles (entry_of entry).needs choice.items
IsServed profiles (Some (Full next)) = Unit {0}

-- the search goes on
abbrev pub IfGoesOn : Option Stop → Type 0 → Type 0
IfGoesOn None P = P
IfGoesOn (Some stop) P = Unit {0}

-- what is recorded besides is known besides
pub record Records (old new : Gathered) (before after : List Entry) : Type 0 where
  pub more : List Entry
  pub recorded : after ≡ before ++ more
  pub gathered : new ≡ record { order = old.order; known = old.known ++ needs_in more; seen = old.seen; kept = old.kept }

-- between rounds: barriers and recorded requirements are known, nothing is kept, and all that was made is covered by what is known
pub record IsBetween (s : Search) (g : Gathered) (recorded : List Entry) : Type 0 where
  pub order : g.order ≡ s.rules.order
  pub known : g.known ≡ s.barriers ++ needs_in recorded
  pub kept : g.kept ≡ []
  pub seen : Each (IsCovered g.known) g.seen

-- the search that the task is
abbrev pub search_of : Task → Search
search_of task = search_for task.prepared.now task.profiles.now task.goal.now task.barriers.now task.limit

-- the outcome of a search that stopped so, with this list recorded
abbrev pub outcome_of : Option Stop → List Entry → Outcome
outcome_of None recorded = closed recorded
outcome_of (Some (Found choice entry)) recorded = found recorded (entry_of entry)
outcome_of (Some (Full next)) recorded = full recorded (entry_of next)
