-- The rounds of a search, one after another.
use Rattle.std.proofs.Common.{ℕ, ◌≡◌, ◌≤◌, ◌<◌, ◌+◌, ◌∙◌, ◌⊎◌, List, [], ◌++◌, length, Some, suc, refl, ap, sym, subst, arith, inl, inr}
use Rattle.std.specs.Prelude.{min}
use Rattle.std.proofs.lemmas.List.{length-append}
use Rattle.list_words.specs.Lists.{Each}
use Rattle.list_words.proofs.EachLemmas.{each_of, each_weaker}
use Rattle.role_order.specs.Graph.{AreEdges}
use Rattle.arbac_laws.specs.Needs.{Need, IsCovered}
use Rattle.arbac_laws.specs.NormalForms.{IsNormal}
use Rattle.arbac_laws.specs.Recorded.{Entry, IsRecordedList}
use Rattle.arbac_laws.proofs.ConjunctLemmas.{are_seniors}
use Rattle.arbac_laws.proofs.RecordedLemmas.{each_normal}
use Rattle.search_laws.specs.Candidates.{batch, needs_in, goal_candidates, next_candidates}
use Rattle.search_laws.proofs.BeatLemmas.{AreNormal}
use Rattle.search_laws.proofs.CandidateLemmas.{goal_derived, next_derived, next_normal}
use Rattle.search_laws.proofs.OutcomeLemmas.{recorded_none, round_shows}
use Rattle.search_laws.proofs.RoundLemmas.{IsLesser, min_cases, takes_some, walk_kept, walk_within}
use Rattle.search_laws.specs.Rounds.{Search, Outcome, Walk, ends, goes_on, closed, Round, ComesTo, IsOutcome}
use Rattle.search_rounds.specs.Keeping.{Keeps, Gathered, IsGathered, Gathers}
use Rattle.search_rounds.proofs.KeepingLemmas.{keeps_all}
use Rattle.back_search.specs.declared.walk.Stop.{Stop}
use Rattle.back_search.specs.declared.walk.Stop.TheVariants.{Found, Full}
use Rattle.back_search.specs.Stops.{IsBetween, walk_of, outcome_of}

-- a round has gathered these candidates
pub record IsMade (s : Search) (g : Gathered) (recorded all : List Entry) : Type 0 where
  pub order : g.order ≡ s.rules.order
  pub known : g.known ≡ s.barriers ++ needs_in recorded
  pub gathered : IsGathered g
  pub keeps : Keeps g.known all g.kept

-- between rounds nothing is kept, so all is well
pub between_gathered : (s : Search) (g : Gathered) (recorded : List Entry) → IsBetween s g recorded → IsGathered g
between_gathered s g recorded b = record {
  new = subst (λ kept. Each (λ (entry : Entry). ¬ IsCovered g.known entry.needs) kept) (sym b.kept) tt;
  seen = each_weaker (IsCovered g.known) (λ needs. IsCovered g.known needs ⊎ IsCovered (needs_in g.kept) needs) (λ needs h. inl h) g.seen b.seen;
}

pub made_from : (s : Search) (g h : Gathered) (recorded all : List Entry) → IsBetween s g recorded → Gathers g h all → IsMade s h recorded all
made_from s g h recorded all b gathers = record {
  order = gathers.order ∙ b.order;
  known = gathers.known ∙ b.known;
  gathered = gathers.still (between_gathered s g recorded b);
  keeps = subst (λ known. Keeps known all h.kept) (sym gathers.known)
      (gathers.kept (between_gathered s g recorded b) [] (subst (λ kept. Keeps g.known [] kept) (sym b.kept) (keeps_all g.known [])));
}

-- what is recorded is in normal form, and so are the candidates of the next round
pub next_are_normal : (s : Search) → AreEdges (length s.rules.order.names) s.rules.order.edges → (recorded : List Entry) (taken : ℕ)
    → IsRecordedList s.rules s.profiles s.goal recorded → AreNormal (next_candidates s.rules recorded taken)
next_are_normal s edges recorded taken list =
    let same = are_seniors s.rules.order edges in
    next_normal s.rules same recorded taken
    (each_of (λ (entry : Entry). IsNormal entry.needs) recorded (λ place entry at. each_normal s.rules same s.profiles s.goal recorded list place entry at))

-- while a search goes on behind its first round: whatever it comes to from here, it comes to
pub record IsGoing (s : Search) (first : List Entry) (g : Gathered) (recorded : List Entry) (taken : ℕ) : Type 0 where
  pub between : IsBetween s g recorded
  pub list : IsRecordedList s.rules s.profiles s.goal recorded
  pub few : length recorded ≤ s.limit
  pub low : taken ≤ length recorded
  pub leads : (rounds : ℕ) (outcome : Outcome) → ComesTo s rounds recorded taken outcome → (all : ℕ) × ComesTo s all first 0 outcome

pub going_begins : (s : Search) (g : Gathered) (recorded : List Entry) → IsBetween s g recorded → IsRecordedList s.rules s.profiles s.goal recorded
    → length recorded ≤ s.limit → IsGoing s recorded g recorded 0
going_begins s g recorded between list few = record {
  between = between;
  list = list;
  few = few;
  low = omega arith;
  leads = λ rounds outcome h. (rounds, h);
}

-- a round more
pub going_on : (s : Search) (first : List Entry) (g h : Gathered) (recorded more : List Entry) (taken : ℕ) → IsGoing s first g recorded taken
    → taken < length recorded → Round s recorded (next_candidates s.rules recorded taken) (goes_on more) → IsBetween s h more
    → IsGoing s first h more (min (taken + batch) (length recorded))
going_on s first g h recorded more taken going l round between = record {
  between = between;
  list = round_shows s recorded (next_candidates s.rules recorded taken) (goes_on more) going.list (next_derived s.rules s.goal recorded taken) round;
  few = walk_within s recorded round.list more going.few round.walked;
  low =
      let kept = walk_kept s recorded round.list more round.walked in
      let long : length more ≡ length recorded + length round.list = ap length kept ∙ length-append recorded round.list in
      by_least (length more) (length round.list) long (min_cases (taken + batch) (length recorded));
  leads = λ rounds outcome comes. going.leads (suc rounds) outcome (inr (l, goes_on more, round, comes));
}
  where
    by_least : (long some : ℕ) → long ≡ length recorded + some → IsLesser (taken + batch) (length recorded) → min (taken + batch) (length recorded) ≤ long
    by_least long some e (inl h) = let less = h.0 in let same = h.1 in omega (arith, e, less, same)
    by_least long some e (inr h) = let same = h.1 in omega (arith, e, same)

-- a round ends it
pub going_ends : (s : Search) (first : List Entry) (g : Gathered) (recorded : List Entry) (taken : ℕ) (outcome : Outcome) (walk : Walk)
    → IsGoing s first g recorded taken → taken < length recorded → Round s recorded (next_candidates s.rules recorded taken) walk → walk ≡ ends outcome
    → (all : ℕ) × ComesTo s all first 0 outcome
going_ends s first g recorded taken outcome walk going l round e =
    let ended : Round s recorded (next_candidates s.rules recorded taken) (ends outcome) =
    subst (Round s recorded (next_candidates s.rules recorded taken)) e round in
    going.leads 1 outcome (inr (l, ends outcome, ended, refl))

-- all is taken
pub going_closed : (s : Search) (first : List Entry) (g : Gathered) (recorded : List Entry) (taken : ℕ) → IsGoing s first g recorded taken
    → length recorded ≤ taken → (all : ℕ) × ComesTo s all first 0 (closed recorded)
going_closed s first g recorded taken going l =
    let low = going.low in going.leads 0 (closed recorded) (omega (arith, l, low), refl)

-- the walk that stopped so ends the search with its outcome
pub stop_ends : (stop : Stop) (recorded : List Entry) → walk_of (Some stop) recorded ≡ ends (outcome_of (Some stop) recorded)
stop_ends (Found choice entry) recorded = refl
stop_ends (Full next) recorded = refl

-- a search that ends with its first round
pub first_ends : (s : Search) (walk : Walk) (outcome : Outcome) → Round s [] (goal_candidates s.rules s.goal) walk → walk ≡ ends outcome
    → IsOutcome s outcome
first_ends s walk outcome round e = record { walk = ends outcome; first = subst (Round s [] (goal_candidates s.rules s.goal)) e round; rounds = 0; rest = refl }

-- or behind it
pub later_comes : (s : Search) (recorded : List Entry) (outcome : Outcome) (rounds : ℕ) → Round s [] (goal_candidates s.rules s.goal) (goes_on recorded)
    → ComesTo s rounds recorded 0 outcome → IsOutcome s outcome
later_comes s recorded outcome rounds round comes = record { walk = goes_on recorded; first = round; rounds = rounds; rest = comes }

-- what is recorded behind the first round
pub first_list : (s : Search) (recorded : List Entry) → Round s [] (goal_candidates s.rules s.goal) (goes_on recorded)
    → IsRecordedList s.rules s.profiles s.goal recorded × (length recorded ≤ s.limit)
first_list s recorded round = (
  round_shows s [] (goal_candidates s.rules s.goal) (goes_on recorded) (recorded_none s.rules s.profiles s.goal) (goal_derived s.rules s.goal []) round,
  walk_within s [] round.list recorded (omega arith) round.walked,
)
