-- A found entry has one plan, and the plan is a run.
use Rattle.std.proofs.Common.{ℕ, ◌≡◌, ◌<◌, ◌≤◌, List, [], ◌∷◌, Some, length, get_or, take, refl, arith, zero, suc, sym, ◌∙◌, ap}
use Rattle.std.proofs.Common.{subst, inl, inr}
use Rattle.std.specs.Prelude.{slice_get}
use Rattle.list_words.specs.Lists.{IsOneOf}
use Rattle.list_words.proofs.GetLemmas.{get_taken, same_some, take_all}
use Rattle.list_words.proofs.EachLemmas.{some_one_at}
use Rattle.arbac_policy.specs.Goals.{GoalMet, IsReachable}
use Rattle.arbac_policy.specs.Rules.{Rules}
use Rattle.arbac_policy.specs.Steps.{Run, Step}
use Rattle.arbac_policy.specs.Truth.{Term}
use Rattle.arbac_policy.specs.declared.act.Act.{Act}
use Rattle.arbac_policy.specs.declared.profile.Profile.{Profile}
use Rattle.arbac_laws.specs.Goals.{goal_requirements}
use Rattle.arbac_laws.specs.Needs.{IsPossible, Meets, MeetsBy, Need}
use Rattle.arbac_laws.specs.NormalForms.{AreFormPlaces, normal_form}
use Rattle.arbac_laws.specs.PreImages.{admin_place}
use Rattle.arbac_laws.specs.Obligations.{Obligation, act_of, obligations, pick_of, pre_image, target_of}
use Rattle.arbac_laws.specs.Recorded.{Entry, IsOrigin, IsRecordedList, Origin, of_goal, of_parent}
use Rattle.arbac_laws.proofs.ConjunctLemmas.{AreSeniors}
use Rattle.arbac_laws.proofs.CoverLemmas.{met_covering, met_possible}
use Rattle.arbac_laws.proofs.FormPlaceLemmas.{form_places, one_form_place}
use Rattle.arbac_laws.proofs.GoalLemmas.{goal_both}
use Rattle.arbac_laws.proofs.NormalLemmas.{normal_both, placed_met}
use Rattle.arbac_laws.proofs.ObligationLemmas.{listed_leads}
use Rattle.search_laws.specs.Plans.{ComesFrom, Plans}
use Rattle.search_laws.specs.Rounds.{IsMet, IsOutcome, Search, found}
use Rattle.search_laws.proofs.CandidateLemmas.{IsDerived}
use Rattle.search_laws.proofs.OutcomeLemmas.{Came, came}

-- where users stand who stood at these places
abbrev pub onward : (ℕ → ℕ) → List ℕ → ℕ → ℕ
onward to places = λ user. to (get_or places user 0)

-- the plan of an entry, where each of its parents has one
pub plan_by_origin : (rules : Rules) (profiles : List Profile) (goal : List Term) (recorded : List Entry) → IsRecordedList rules profiles goal recorded
    → (n : ℕ)
    → ((k : ℕ) → k < n → (parent : Entry) → IsDerived rules goal (take k recorded) parent → (to : ℕ → ℕ)
    → (acts : List Act) × Plans rules recorded parent to acts)
    → (entry : Entry) (origin : Origin) → entry.origin ≡ origin → (needs : List Need) → IsOrigin rules goal (take n recorded) origin needs
    → normal_form needs ≡ Some entry.needs
    → (to : ℕ → ℕ) → (acts : List Act) × Plans rules recorded entry to acts
plan_by_origin rules profiles goal recorded list n again entry (of_goal number) e needs named form to = ([], (number, e))
plan_by_origin rules profiles goal recorded list n again entry (of_parent number ob) e needs named form to =
    let there = get_taken recorded n number named.0 named.1 in
    let stand = form_places needs entry.needs form in
    let rest = again number there.0 named.0 (list number named.0 there.1).derived (onward to stand.0) in (
      act_of ob (length named.0.needs) (onward to stand.0) ∷ rest.0,
      (named.0, ob, stand.0, record { number = number; origin = e; parent_is = there.1; raw = needs; raw_is = named.3; stand = stand.1 }, refl, rest.1),
    )

-- by the parents, each before its children
pub planned : (rules : Rules) (profiles : List Profile) (goal : List Term) (recorded : List Entry) → IsRecordedList rules profiles goal recorded
    → (m n : ℕ)
    → n ≤ m
    → (entry : Entry) → IsDerived rules goal (take n recorded) entry → (to : ℕ → ℕ) → (acts : List Act) × Plans rules recorded entry to acts
planned rules profiles goal recorded list zero n l entry derived to =
    plan_by_origin rules profiles goal recorded list n
    (λ k less parent own to. absurd (omega (arith, l, less))) entry entry.origin refl derived.0 derived.1 derived.2 to
planned rules profiles goal recorded list (suc m) n l entry derived to =
    plan_by_origin rules profiles goal recorded list n
    (λ k less parent own to. planned rules profiles goal recorded list m k (omega (arith, l, less)) parent own to)
    entry entry.origin refl derived.0 derived.1 derived.2 to

-- a derived entry has a plan
pub has_plan : (rules : Rules) (profiles : List Profile) (goal : List Term) (recorded : List Entry) → IsRecordedList rules profiles goal recorded
    → (entry : Entry) → IsDerived rules goal recorded entry → (to : ℕ → ℕ) → (acts : List Act) × Plans rules recorded entry to acts
has_plan rules profiles goal recorded list entry derived to =
    planned rules profiles goal recorded list (length recorded) (length recorded) (omega arith) entry
    (subst (λ earlier. IsDerived rules goal earlier entry) (sym (take_all recorded (length recorded) (omega arith))) derived) to

-- one plan

-- an origin isn't both
pub goal_not_parent : (entry : Entry) (number parent : ℕ) (ob : Obligation) → entry.origin ≡ of_goal number → entry.origin ≡ of_parent parent ob
    → ⊥
goal_not_parent entry number parent ob e f = cc

-- one origin names one parent and one obligation
pub same_parent : (m n : ℕ) (a b : Obligation) → of_parent m a ≡ of_parent n b → (m ≡ n) × (a ≡ b)
same_parent m n a b e = (cc, cc)

-- an entry comes from one parent by one obligation, and stands at one row of places
pub comes_from_one : (rules : Rules) (recorded : List Entry) (entry p q : Entry) (a b : Obligation) (xs ys : List ℕ) → ComesFrom rules recorded entry p a xs
    → ComesFrom rules recorded entry q b ys
    → (p ≡ q) × (a ≡ b) × (xs ≡ ys)
comes_from_one rules recorded entry p q a b xs ys f g =
    (parent, named.1, one_form_place g.raw entry.needs xs ys (subst (λ raw. AreFormPlaces raw entry.needs xs) raw f.stand) g.stand)
  where
    named : (f.number ≡ g.number) × (a ≡ b)
    named = same_parent f.number g.number a b (sym f.origin ∙ g.origin)

    parent : p ≡ q
    parent = same_some p q (sym f.parent_is ∙ ap (slice_get recorded) named.0 ∙ g.parent_is)

    raw : f.raw ≡ g.raw
    raw = same_some f.raw g.raw (sym f.raw_is ∙ ap (λ (v : Entry). pre_image rules v.needs a) parent ∙ ap (pre_image rules q.needs) named.1 ∙ g.raw_is)

-- an entry has one plan
pub one_plan : (rules : Rules) (recorded : List Entry) (first second : List Act) (entry : Entry) (to : ℕ → ℕ) → Plans rules recorded entry to first
    → Plans rules recorded entry to second → first ≡ second
one_plan rules recorded [] [] entry to f g = refl
one_plan rules recorded [] (act ∷ acts) entry to f g = absurd (goal_not_parent entry f.0 g.3.number g.1 f.1 g.3.origin)
one_plan rules recorded (act ∷ acts) [] entry to f g = absurd (goal_not_parent entry g.0 f.3.number f.1 g.1 f.3.origin)
one_plan rules recorded (x ∷ xs) (y ∷ ys) entry to f g =
    ap (λ v. v ∷ xs) (f.4 ∙ act ∙ sym g.4) ∙ ap (λ t. y ∷ t) (one_plan rules recorded xs ys g.0 (onward to g.2) moved g.5)
  where
    same : (f.0 ≡ g.0) × (f.1 ≡ g.1) × (f.2 ≡ g.2)
    same = comes_from_one rules recorded entry f.0 g.0 f.1 g.1 f.2 g.2 f.3 g.3

    act : act_of f.1 (length f.0.needs) (onward to f.2) ≡ act_of g.1 (length g.0.needs) (onward to g.2)
    act = ap (λ (p : Entry). act_of f.1 (length p.needs) (onward to f.2)) same.0 ∙ ap (λ ob. act_of ob (length g.0.needs) (onward to f.2)) same.1
        ∙ ap (λ places. act_of g.1 (length g.0.needs) (onward to places)) same.2

    moved : Plans rules recorded g.0 (onward to g.2) xs
    moved = subst (λ places. Plans rules recorded g.0 (onward to places) xs) same.2 (subst (λ p. Plans rules recorded p (onward to f.2) xs) same.0 f.5)

-- the plan is a run

-- an act reads two places alone
pub act_same : (ob : Obligation) (count : ℕ) (f g : ℕ → ℕ) → ((i : ℕ) → f i ≡ g i) → act_of ob count f ≡ act_of ob count g
act_same ob count f g e = let admin = e (admin_place (pick_of ob) (target_of ob) count) in let target = e (target_of ob) in cc

-- each recorded entry is derived
abbrev pub AreDerived : Rules → List Term → List Entry → Type 0
AreDerived rules goal recorded = (place : ℕ) (entry : Entry) → slice_get recorded place ≡ Some entry → IsDerived rules goal recorded entry

-- a recorded list is one
pub are_derived : (rules : Rules) (profiles : List Profile) (goal : List Term) (recorded : List Entry) → IsRecordedList rules profiles goal recorded
    → AreDerived rules goal recorded
are_derived rules profiles goal recorded list place entry at = let d = (list place entry at).derived in (d.0, among entry.origin d.0 d.1, d.2)
  where
    among : (origin : Origin) (needs : List Need) → IsOrigin rules goal (take place recorded) origin needs → IsOrigin rules goal recorded origin needs
    among (of_goal number) needs named = named
    among (of_parent number ob) needs named = (named.0, (get_taken recorded place number named.0 named.1).1, named.2, named.3)

-- the obligation of an entry is one of its parent's
pub is_listed : (rules : Rules) (goal : List Term) (recorded : List Entry) (entry parent : Entry) (ob : Obligation) (places : List ℕ)
    → IsDerived rules goal recorded entry
    → ComesFrom rules recorded entry parent ob places → IsOneOf (obligations rules parent.needs) ob
is_listed rules goal recorded entry parent ob places derived comes =
    by_named (subst (λ origin. IsOrigin rules goal recorded origin derived.0) comes.origin derived.1)
  where
    by_named : IsOrigin rules goal recorded (of_parent comes.number ob) derived.0 → IsOneOf (obligations rules parent.needs) ob
    by_named named = subst (λ (p : Entry). IsOneOf (obligations rules p.needs) ob) (same_some named.0 parent (sym named.1 ∙ comes.parent_is)) named.2

-- from users who meet the entry its plan is a run to users who meet the goal
pub plan_runs : (rules : Rules) → AreSeniors rules.order → (goal : List Term) (recorded : List Entry) → AreDerived rules goal recorded
    → (acts : List Act) (entry : Entry) → IsDerived rules goal recorded entry → (users : List (List ℕ)) (to : ℕ → ℕ)
    → MeetsBy users entry.needs to
    → Plans rules recorded entry to acts
    → (end : List (List ℕ)) × Run rules users acts end × GoalMet rules.order.edges goal end
plan_runs rules same goal recorded each [] entry derived users to met plan = (
  users,
  refl,
  (goal_both rules.order same goal users).1
      (some_one_at (λ needs. IsPossible needs × Meets users needs) (goal_requirements rules.order goal) derived.0 (plan.0, named)
      (met_possible users derived.0 before, before)),
)
  where
    named : slice_get (goal_requirements rules.order goal) plan.0 ≡ Some derived.0
    named = subst (λ origin. IsOrigin rules goal recorded origin derived.0) plan.1 derived.1

    before : Meets users derived.0
    before = met_covering users derived.0 entry.needs (normal_both derived.0 entry.needs derived.2).0 met.0
plan_runs rules same goal recorded each (act ∷ acts) entry derived users to met plan =
    let rest = plan_runs rules same goal recorded each acts plan.0 (each comes.number plan.0 comes.parent_is) leads.0 (onward to plan.2)
    (leads.2.0, λ i. leads.2.1 i ∙ stood i) plan.5 in
    (rest.0, (leads.0, step, rest.1), rest.2)
  where
    comes : ComesFrom rules recorded entry plan.0 plan.1 plan.2
    comes = plan.3

    raw : MeetsBy users comes.raw (λ i. met.0.to (get_or plan.2 i 0))
    raw = placed_met users comes.raw entry.needs plan.2 comes.stand.at met.0

    stood : (i : ℕ) → raw.0.to i ≡ onward to plan.2 i
    stood i = raw.1 i ∙ met.1 (get_or plan.2 i 0)

    leads : (new : List (List ℕ)) × Step rules users (act_of plan.1 (length plan.0.needs) raw.0.to) new × MeetsBy new plan.0.needs raw.0.to
    leads =
        listed_leads rules same users plan.0.needs plan.1
        (is_listed rules goal recorded entry plan.0 plan.1 plan.2 derived comes) comes.raw comes.raw_is raw.0

    step : Step rules users act leads.0
    step = subst (λ a. Step rules users a leads.0) (act_same plan.1 (length plan.0.needs) raw.0.to (onward to plan.2) stood ∙ sym plan.4) leads.1

-- found

-- what a search shows that found an entry
pub found_shows : (s : Search) → AreSeniors s.rules.order → (recorded : List Entry) (entry : Entry) → IsOutcome s (found recorded entry)
    → IsRecordedList s.rules s.profiles s.goal recorded × IsDerived s.rules s.goal recorded entry × IsMet s.profiles entry.needs
found_shows s same recorded entry o = by_case (came s same (found recorded entry) o)
  where
    by_case : Came s (found recorded entry)
        → IsRecordedList s.rules s.profiles s.goal recorded × IsDerived s.rules s.goal recorded entry × IsMet s.profiles entry.needs
    by_case (inl h) = let e = h.2 in cc
    by_case (inr h) = h

-- a found entry has a plan
pub found_plan : (s : Search) → AreSeniors s.rules.order → (recorded : List Entry) (entry : Entry) → IsOutcome s (found recorded entry)
    → (to : ℕ → ℕ)
    → (acts : List Act) × Plans s.rules recorded entry to acts
found_plan s same recorded entry o to =
    let shown = found_shows s same recorded entry o in has_plan s.rules s.profiles s.goal recorded shown.0 entry shown.1 to

-- the plan of a found entry is a run to users who meet the goal
pub found_runs : (s : Search) → AreSeniors s.rules.order → (recorded : List Entry) (entry : Entry) → IsOutcome s (found recorded entry)
    → (users : List (List ℕ)) (to : ℕ → ℕ) → MeetsBy users entry.needs to → (acts : List Act) → Plans s.rules recorded entry to acts
    → (end : List (List ℕ)) × Run s.rules users acts end × GoalMet s.rules.order.edges s.goal end
found_runs s same recorded entry o users to met acts plan =
    let shown = found_shows s same recorded entry o in
    plan_runs s.rules same s.goal recorded (are_derived s.rules s.profiles s.goal recorded shown.0) acts entry shown.1 users to met plan

-- where an entry is found, the goal is reachable
pub found_reachable : (s : Search) → AreSeniors s.rules.order → (recorded : List Entry) (entry : Entry) → IsOutcome s (found recorded entry)
    → IsReachable s.rules s.profiles s.goal
found_reachable s same recorded entry o =
    let met = (found_shows s same recorded entry o).2 in
    let plan = found_plan s same recorded entry o met.2.to in
    let run = found_runs s same recorded entry o met.0 met.2.to (met.2, λ i. refl) plan.0 plan.1 in
    record { start = met.0; drawn = met.1; acts = plan.0; end = run.0; run = run.1; met = run.2 }
