-- What stands in the course of a search, and what its outcome shows.
use Rattle.std.proofs.Common.{ℕ, ◌≡◌, ◌<◌, ◌≤◌, ◌+◌, List, [], ◌∷◌, ◌++◌, Some, length, min, take, true, refl, arith, zero}
use Rattle.std.proofs.Common.{suc, sym, ◌∙◌, ap, subst, inl, inr}
use Rattle.std.specs.Prelude.{◌⊎◌, slice_get}
use Rattle.std.proofs.lemmas.List.{take-append-le}
use Rattle.list_words.specs.Lists.{Each, IsOneOf}
use Rattle.list_words.specs.Orders.{AreRising}
use Rattle.list_words.proofs.NumberLemmas.{compare}
use Rattle.list_words.proofs.GetLemmas.{get_append, get_below, get_last_cases, take_all}
use Rattle.list_words.proofs.EachLemmas.{each_at, each_both, each_of, each_weaker, some_cases, some_left, some_right}
use Rattle.arbac_policy.specs.Truth.{Term}
use Rattle.arbac_policy.specs.Rules.{Rules}
use Rattle.arbac_policy.specs.declared.profile.Profile.{Profile}
use Rattle.arbac_laws.specs.Closed.{IsClosedList, IsUnmet}
use Rattle.arbac_laws.specs.Goals.{goal_requirements}
use Rattle.arbac_laws.specs.Needs.{Covers, IsCovered, IsPossible, Need}
use Rattle.arbac_laws.specs.NormalForms.{IsNormal}
use Rattle.arbac_laws.specs.Obligations.{Obligation, obligations, pre_image}
use Rattle.arbac_laws.specs.Recorded.{Entry, IsEntry, IsOrigin, IsRecordedList, Origin, of_goal, of_parent}
use Rattle.arbac_laws.proofs.ConjunctLemmas.{AreSeniors}
use Rattle.arbac_laws.proofs.NormalLemmas.{covered_alike}
use Rattle.arbac_laws.proofs.OrderLemmas.{requirement_order}
use Rattle.arbac_laws.proofs.RecordedLemmas.{each_normal}
use Rattle.search_laws.specs.Beats.{IsUnbeaten, entry_before}
use Rattle.search_laws.specs.Candidates.{batch, goal_candidates, needs_in, next_candidates}
use Rattle.search_laws.specs.Rounds.{ComesTo, Continues, IsMet, IsOutcome, Outcome, Round, Search, Walk, Walks, closed, ends, found, full, goes_on}
use Rattle.search_laws.proofs.BeatLemmas.{AreNormal}
use Rattle.search_laws.proofs.CandidateLemmas.{IsDerived, child_each, goal_derived, goal_each, goals_normal, has_form, next_derived, next_each, next_normal}
use Rattle.search_laws.proofs.RoundLemmas.{IsLesser, WalksOn, covered_more, min_cases, needs_append, round_covered, same_end, walk_kept}

-- recorded lists that grow

-- an origin still names the requirement, as more is recorded
pub origin_more : (rules : Rules) (goal : List Term) (earlier : List Entry) (entry : Entry) (origin : Origin) (needs : List Need)
    → IsOrigin rules goal earlier origin needs → IsOrigin rules goal (earlier ++ entry ∷ []) origin needs
origin_more rules goal earlier entry (of_goal number) needs named = named
origin_more rules goal earlier entry (of_parent number ob) needs named =
    (named.0, get_append earlier entry number (get_below earlier number named.0 named.1) ∙ named.1, named.2, named.3)

-- an entry is still derived, as more is recorded
pub derived_more : (rules : Rules) (goal : List Term) (earlier : List Entry) (more entry : Entry) → IsDerived rules goal earlier entry
    → IsDerived rules goal (earlier ++ more ∷ []) entry
derived_more rules goal earlier more entry derived = (derived.0, origin_more rules goal earlier more entry.origin derived.0 derived.1, derived.2)

-- nothing recorded is a recorded list
pub recorded_none : (rules : Rules) (profiles : List Profile) (goal : List Term) → IsRecordedList rules profiles goal []
recorded_none rules profiles goal place entry at = cc

-- one entry more
pub recorded_more : (rules : Rules) (profiles : List Profile) (goal : List Term) (list : List Entry) (entry : Entry) → IsRecordedList rules profiles goal list
    → IsEntry rules profiles goal list entry → IsRecordedList rules profiles goal (list ++ entry ∷ [])
recorded_more rules profiles goal list entry recorded one place other at = by_place (get_last_cases list entry other place at)
  where
    by_place : (slice_get list place ≡ Some other) ⊎ ((place ≡ length list) × (entry ≡ other))
        → IsEntry rules profiles goal (take place (list ++ entry ∷ [])) other
    by_place (inl there) =
        let below = get_below list place other there in
        subst (λ earlier. IsEntry rules profiles goal earlier other) (sym (take-append-le place list (entry ∷ []) (omega (arith, below))))
        (recorded place other there)
    by_place (inr last) =
        subst (λ n. IsEntry rules profiles goal (take n (list ++ entry ∷ [])) other) (sym last.0)
        (subst (λ earlier. IsEntry rules profiles goal earlier other)
        (sym (take-append-le (length list) list (entry ∷ []) (omega arith) ∙ take_all list (length list) (omega arith)))
        (subst (IsEntry rules profiles goal list) last.1 one))

-- what stands in the front of two lists
pub get_front : {A : Type 0} (xs ys : List A) (i : ℕ) → i < length xs → slice_get (xs ++ ys) i ≡ slice_get xs i
get_front [] ys i l = absurd (omega arith)
get_front (x ∷ xs) ys zero l = refl
get_front (x ∷ xs) ys (suc i) l = get_front xs ys i (omega arith)

-- a walk

-- none of the entries covers a later one
abbrev pub NoneCovers : List Entry → Type 0
NoneCovers [] = Unit {0}
NoneCovers (entry ∷ entries) = Each (λ (later : Entry). ¬ Covers entry.needs later.needs) entries × NoneCovers entries

-- one unbeaten candidate covers another only where they are one requirement
pub none_covers : (known : List (List Need)) (candidates list : List Entry) → AreRising entry_before list
    → Each (λ entry. (place : ℕ) × IsUnbeaten known candidates place entry) list
    → NoneCovers list
none_covers known candidates [] rising each = tt
none_covers known candidates (x ∷ xs) rising each = (
  each_weaker (λ y. (entry_before x y ≡ true) × ((place : ℕ) × IsUnbeaten known candidates place y)) (λ (y : Entry). ¬ Covers x.needs y.needs) apart xs
      (each_both (λ y. entry_before x y ≡ true) (λ y. (place : ℕ) × IsUnbeaten known candidates place y) xs rising.0 each.1),
  none_covers known candidates xs rising.1 each.1,
)
  where
    apart : (y : Entry) → (entry_before x y ≡ true) × ((place : ℕ) × IsUnbeaten known candidates place y) → ¬ Covers x.needs y.needs
    apart y h = λ covers. h.1.1.unbeaten each.0.0 (record {
      by = x;
      by_is = each.0.1.at;
      beaten = y;
      beaten_is = h.1.1.at;
      covers = covers;
      apart = inl (λ e. requirement_order.never y.needs (subst (λ v. entry_before (record { origin = x.origin; needs = v }) y ≡ true) e h.0));
    })

-- entries that may be walked: each is derived and new, and none covers a later one
pub record AreNext (s : Search) (recorded entries : List Entry) : Type 0 where
  pub derived : Each (IsDerived s.rules s.goal recorded) entries
  pub new : Each (λ (entry : Entry). ¬ IsCovered (needs_in recorded) entry.needs) entries
  pub apart : NoneCovers entries

-- the first of them is recorded, and the others may still be walked
pub next_more : (s : Search) (recorded : List Entry) (entry : Entry) (entries : List Entry) → AreNext s recorded (entry ∷ entries)
    → AreNext s (recorded ++ entry ∷ []) entries
next_more s recorded entry entries next = record {
  derived =
      each_weaker (IsDerived s.rules s.goal recorded) (IsDerived s.rules s.goal (recorded ++ entry ∷ []))
      (derived_more s.rules s.goal recorded entry) entries next.derived.1;
  new =
      each_weaker (λ (v : Entry). (¬ IsCovered (needs_in recorded) v.needs) × (¬ Covers entry.needs v.needs))
      (λ (v : Entry). ¬ IsCovered (needs_in (recorded ++ entry ∷ [])) v.needs) uncovered entries
      (each_both (λ (v : Entry). ¬ IsCovered (needs_in recorded) v.needs) (λ (v : Entry). ¬ Covers entry.needs v.needs) entries next.new.1 next.apart.0);
  apart = next.apart.1;
}
  where
    uncovered : (v : Entry) → (¬ IsCovered (needs_in recorded) v.needs) × (¬ Covers entry.needs v.needs)
        → ¬ IsCovered (needs_in (recorded ++ entry ∷ [])) v.needs
    uncovered v h covered =
        by_side (some_cases (λ one. Covers one v.needs) (needs_in recorded) (entry.needs ∷ [])
        (subst (λ list. IsCovered list v.needs) (needs_append recorded (entry ∷ [])) covered))
      where
        by_side : IsCovered (needs_in recorded) v.needs ⊎ IsCovered (entry.needs ∷ []) v.needs → ⊥
        by_side (inl k) = h.0 k
        by_side (inr (inl k)) = h.1 k
        by_side (inr (inr k)) = k

-- what a walk shows by its end
abbrev pub Shows : Search → Walk → Type 0
Shows s (ends (found recorded entry)) =
    IsRecordedList s.rules s.profiles s.goal recorded × IsDerived s.rules s.goal recorded entry × IsMet s.profiles entry.needs
Shows s (ends (full recorded entry)) = IsRecordedList s.rules s.profiles s.goal (recorded ++ entry ∷ [])
Shows s (ends (closed recorded)) = ⊥
Shows s (goes_on recorded) = IsRecordedList s.rules s.profiles s.goal recorded

-- each entry is recorded in its turn, until the walk ends
pub walk_shows : (s : Search) (recorded entries : List Entry) (walk : Walk) → IsRecordedList s.rules s.profiles s.goal recorded → AreNext s recorded entries
    → Walks s recorded entries walk → Shows s walk
walk_shows s recorded [] walk list next e = subst (Shows s) (sym e) list
walk_shows s recorded (entry ∷ entries) walk list next (inl h) =
    let shown : Shows s (ends (found recorded entry)) = (list, next.derived.0, h.0) in subst (Shows s) (sym h.1) shown
walk_shows s recorded (entry ∷ entries) walk list next (inr h) =
    by_room h.1 (walk_shows s (recorded ++ entry ∷ []) entries walk grown (next_more s recorded entry entries next))
  where
    grown : IsRecordedList s.rules s.profiles s.goal (recorded ++ entry ∷ [])
    grown = recorded_more s.rules s.profiles s.goal recorded entry list (record { derived = next.derived.0; uncovered = next.new.0; unmet = h.0 })

    by_room : WalksOn s recorded entry entries walk → (Walks s (recorded ++ entry ∷ []) entries walk → Shows s walk) → Shows s walk
    by_room (inl k) again = subst (Shows s) (sym k.1) grown
    by_room (inr k) again = again k.1

-- a round shows what the walk of its unbeaten candidates does
pub round_shows : (s : Search) (recorded candidates : List Entry) (walk : Walk) → IsRecordedList s.rules s.profiles s.goal recorded
    → Each (IsDerived s.rules s.goal recorded) candidates → Round s recorded candidates walk → Shows s walk
round_shows s recorded candidates walk list derived round = walk_shows s recorded round.list walk list (record {
  derived = each_weaker (λ entry. (place : ℕ) × IsUnbeaten known candidates place entry) (IsDerived s.rules s.goal recorded)
      (λ entry one. each_at (IsDerived s.rules s.goal recorded) candidates one.0 entry derived one.1.at) round.list round.unbeaten.each;
  new = each_weaker (λ entry. (place : ℕ) × IsUnbeaten known candidates place entry) (λ (entry : Entry). ¬ IsCovered (needs_in recorded) entry.needs)
      (λ entry one. λ covered. one.1.new (some_right (λ v. Covers v entry.needs) s.barriers (needs_in recorded) covered)) round.list round.unbeaten.each;
  apart = none_covers known candidates round.list round.unbeaten.rising round.unbeaten.each;
}) round.walked
  where
    known : List (List Need)
    known = s.barriers ++ needs_in recorded

-- what is possible of the requirement's pre-images is covered
abbrev pub AreCoveredBefore : Rules → List (List Need) → List Need → Type 0
AreCoveredBefore rules list needs = (ob : Obligation) → IsOneOf (obligations rules needs) ob
    → (before : List Need) → pre_image rules needs ob ≡ Some before → IsPossible before → IsCovered list before

-- what stands while so many recorded entries are taken: they are a recorded list, and what is possible of the goal
-- requirements and of the pre-images of what was taken is covered
pub record Stands (s : Search) (recorded : List Entry) (taken : ℕ) : Type 0 where
  pub list : IsRecordedList s.rules s.profiles s.goal recorded
  pub goals : (needs : List Need) → IsOneOf (goal_requirements s.rules.order s.goal) needs → IsPossible needs
      → IsCovered (s.barriers ++ needs_in recorded) needs
  pub pre_images : (number : ℕ) (parent : Entry) → number < taken → slice_get recorded number ≡ Some parent
      → AreCoveredBefore s.rules (s.barriers ++ needs_in recorded) parent.needs

-- after the round of the goal
pub first_stands : (s : Search) (recorded : List Entry) → Round s [] (goal_candidates s.rules s.goal) (goes_on recorded) → Stands s recorded 0
first_stands s recorded round = record {
  list = round_shows s [] (goal_candidates s.rules s.goal) (goes_on recorded) (recorded_none s.rules s.profiles s.goal)
      (goal_derived s.rules s.goal []) round;
  goals = λ needs is possible.
      let form = has_form needs possible in
      (covered_alike (s.barriers ++ needs_in recorded) needs form.0 form.1).1
      (goal_each (λ (entry : Entry). IsCovered (s.barriers ++ needs_in recorded) entry.needs) s.rules s.goal
      (round_covered s [] (goal_candidates s.rules s.goal) recorded (goals_normal s.rules s.goal) round) is.0 needs form.0 is.1 form.1);
  pre_images = λ number parent l at ob is before e possible. absurd (omega (arith, l));
}

-- after a later round
pub next_stands : (s : Search) → AreSeniors s.rules.order → (recorded : List Entry) (taken : ℕ) (more : List Entry) → Stands s recorded taken
    → Round s recorded (next_candidates s.rules recorded taken) (goes_on more) → Stands s more (min (taken + batch) (length recorded))
next_stands s same recorded taken more stands round = record {
  list = round_shows s recorded candidates (goes_on more) stands.list (next_derived s.rules s.goal recorded taken) round;
  goals = λ needs is possible. still needs (stands.goals needs is possible);
  pre_images = λ number parent l at. by_order number parent (was_there number parent l at) (compare number taken) l;
}
  where
    candidates : List Entry
    candidates = next_candidates s.rules recorded taken

    normal : AreNormal recorded
    normal =
        each_of (λ (entry : Entry). IsNormal entry.needs) recorded
        (λ place entry at. each_normal s.rules same s.profiles s.goal recorded stands.list place entry at)

    kept : more ≡ recorded ++ round.list
    kept = walk_kept s recorded round.list more round.walked

    still : (needs : List Need) → IsCovered (s.barriers ++ needs_in recorded) needs → IsCovered (s.barriers ++ needs_in more) needs
    still needs covered = subst (λ list. IsCovered (s.barriers ++ needs_in list) needs) (sym kept) (covered_more s.barriers recorded round.list needs covered)

    bounds : (number : ℕ) → number < min (taken + batch) (length recorded) → (number < taken + batch) × (number < length recorded)
    bounds number l = by_cases (min_cases (taken + batch) (length recorded))
      where
        by_cases : IsLesser (taken + batch) (length recorded) → (number < taken + batch) × (number < length recorded)
        by_cases (inl h) = let e = h.1 in let less = h.0 in (omega (arith, l, e), omega (arith, l, e, less))
        by_cases (inr h) = let e = h.1 in let less = h.0 in (omega (arith, l, e, less), omega (arith, l, e))

    was_there : (number : ℕ) (parent : Entry) → number < min (taken + batch) (length recorded) → slice_get more number ≡ Some parent
        → slice_get recorded number ≡ Some parent
    was_there number parent l at = sym (get_front recorded round.list number (bounds number l).1) ∙ ap (λ list. slice_get list number) (sym kept) ∙ at

    taken_now : (number : ℕ) (parent : Entry) → taken ≤ number → number < taken + batch → slice_get recorded number ≡ Some parent
        → AreCoveredBefore s.rules (s.barriers ++ needs_in more) parent.needs
    taken_now number parent low high there ob is before e possible =
        let form = has_form before possible in
        (covered_alike (s.barriers ++ needs_in more) before form.0 form.1).1
        (child_each (λ (entry : Entry). IsCovered (s.barriers ++ needs_in more) entry.needs) s.rules number parent
        (next_each (λ (entry : Entry). IsCovered (s.barriers ++ needs_in more) entry.needs) s.rules recorded taken
        (round_covered s recorded candidates more (next_normal s.rules same recorded taken normal) round) number parent low high there)
        ob before form.0 is e form.1)

    by_order : (number : ℕ) (parent : Entry) → slice_get recorded number ≡ Some parent → (number < taken) ⊎ ((number ≡ taken) ⊎ (taken < number))
        → number < min (taken + batch) (length recorded) → AreCoveredBefore s.rules (s.barriers ++ needs_in more) parent.needs
    by_order number parent there (inl less) l = λ ob is before e possible. still before (stands.pre_images number parent less there ob is before e possible)
    by_order number parent there (inr (inl here)) l = taken_now number parent (omega (arith, here)) (bounds number l).0 there
    by_order number parent there (inr (inr after)) l = taken_now number parent (omega (arith, after)) (bounds number l).0 there

-- how a search came to its outcome: all that is recorded was taken, or a round showed it
abbrev pub Came : Search → Outcome → Type 0
Came s outcome = ((recorded : List Entry) × Stands s recorded (length recorded) × (outcome ≡ closed recorded)) ⊎ Shows s (ends outcome)

-- the round ends the search, or it goes on
pub goes_further : (s : Search) (outcome : Outcome) (rest : List Entry → Type 0) (walk : Walk) → Shows s walk → Continues rest walk outcome
    → ((more : List Entry) → walk ≡ goes_on more → rest more → Came s outcome) → Came s outcome
goes_further s outcome rest (ends end) shown e onward = inr (subst (λ o. Shows s (ends o)) (sym e) shown)
goes_further s outcome rest (goes_on more) shown r onward = onward more refl r

-- from what stands the search comes to its outcome
pub comes : (s : Search) → AreSeniors s.rules.order → (rounds : ℕ) (recorded : List Entry) (taken : ℕ) (outcome : Outcome) → Stands s recorded taken
    → ComesTo s rounds recorded taken outcome → Came s outcome
comes s same zero recorded taken outcome stands h = inl (recorded, subst (Stands s recorded) h.0 stands, h.1)
comes s same (suc rounds) recorded taken outcome stands (inl h) = inl (recorded, subst (Stands s recorded) h.0 stands, h.1)
comes s same (suc rounds) recorded taken outcome stands (inr h) =
    goes_further s outcome (λ more. ComesTo s rounds more (min (taken + batch) (length recorded)) outcome) h.1
    (round_shows s recorded (next_candidates s.rules recorded taken) h.1 stands.list (next_derived s.rules s.goal recorded taken) h.2) h.3
    (λ more e rest. comes s same rounds more (min (taken + batch) (length recorded)) outcome
    (next_stands s same recorded taken more stands (subst (Round s recorded (next_candidates s.rules recorded taken)) e h.2)) rest)

-- from the goal the search comes to its outcome
pub came : (s : Search) → AreSeniors s.rules.order → (outcome : Outcome) → IsOutcome s outcome → Came s outcome
came s same outcome o =
    goes_further s outcome (λ recorded. ComesTo s o.rounds recorded 0 outcome) o.walk
    (round_shows s [] (goal_candidates s.rules s.goal) o.walk (recorded_none s.rules s.profiles s.goal) (goal_derived s.rules s.goal []) o.first) o.rest
    (λ recorded e rest. comes s same o.rounds recorded 0 outcome
    (first_stands s recorded (subst (Round s [] (goal_candidates s.rules s.goal)) e o.first)) rest)

-- closed

-- where a search is closed, all that is recorded was taken
pub closed_stands : (s : Search) → AreSeniors s.rules.order → (recorded : List Entry) → IsOutcome s (closed recorded)
    → Stands s recorded (length recorded)
closed_stands s same recorded o = by_case (came s same (closed recorded) o)
  where
    by_case : Came s (closed recorded) → Stands s recorded (length recorded)
    by_case (inl h) = let e : h.0 ≡ recorded = same_closed h.0 recorded h.2 in subst (λ list. Stands s list (length list)) e h.1
      where
        same_closed : (a b : List Entry) → closed b ≡ closed a → a ≡ b
        same_closed a b e = cc
    by_case (inr h) = absurd h

-- which of the entries has the requirement
pub needs_at : (entries : List Entry) (needs : List Need) (place : ℕ) → slice_get (needs_in entries) place ≡ Some needs
    → (entry : Entry) × (slice_get entries place ≡ Some entry) × (entry.needs ≡ needs)
needs_at [] needs place at = cc
needs_at (x ∷ xs) needs zero at = let same : x.needs ≡ needs = cc in (x, refl, same)
needs_at (x ∷ xs) needs (suc place) at = needs_at xs needs place at

-- an item of two lists is one of the first or of the second
pub one_of_both : {A : Type 0} (xs ys : List A) (x : A) (place : ℕ) → slice_get (xs ++ ys) place ≡ Some x → IsOneOf xs x ⊎ IsOneOf ys x
one_of_both [] ys x place at = inr (place, at)
one_of_both (y ∷ xs) ys x zero at = inl (0, at)
one_of_both (y ∷ xs) ys x (suc place) at = by_side (one_of_both xs ys x place at)
  where
    by_side : IsOneOf xs x ⊎ IsOneOf ys x → IsOneOf (y ∷ xs) x ⊎ IsOneOf ys x
    by_side (inl h) = inl (suc h.0, h.1)
    by_side (inr h) = inr h

-- barriers are closed under pre-images
abbrev pub AreClosed : Search → Type 0
AreClosed s = (needs : List Need) → IsOneOf s.barriers needs → AreCoveredBefore s.rules s.barriers needs

-- with the barriers, what a closed search recorded is a closed list
pub closed_list : (s : Search) → AreSeniors s.rules.order → AreClosed s → ((needs : List Need) → IsOneOf s.barriers needs → IsUnmet s.profiles needs)
    → (recorded : List Entry) → IsOutcome s (closed recorded) → IsClosedList s.rules s.profiles s.goal (s.barriers ++ needs_in recorded)
closed_list s same barriers unmet recorded o = record {
  goals = stands.goals;
  pre_images = λ needs is. before_one needs (one_of_both s.barriers (needs_in recorded) needs is.0 is.1);
  unmet = λ needs is. unmet_one needs (one_of_both s.barriers (needs_in recorded) needs is.0 is.1);
}
  where
    stands : Stands s recorded (length recorded)
    stands = closed_stands s same recorded o

    before_one : (needs : List Need) → IsOneOf s.barriers needs ⊎ IsOneOf (needs_in recorded) needs
        → AreCoveredBefore s.rules (s.barriers ++ needs_in recorded) needs
    before_one needs (inl is) = λ ob listed before e possible.
        some_left (λ one. Covers one before) s.barriers (needs_in recorded) (barriers needs is ob listed before e possible)
    before_one needs (inr is) =
        let one = needs_at recorded needs is.0 is.1 in
        subst (AreCoveredBefore s.rules (s.barriers ++ needs_in recorded)) one.2 (stands.pre_images is.0 one.0 (get_below recorded is.0 one.0 one.1) one.1)

    unmet_one : (needs : List Need) → IsOneOf s.barriers needs ⊎ IsOneOf (needs_in recorded) needs → IsUnmet s.profiles needs
    unmet_one needs (inl is) = unmet needs is
    unmet_one needs (inr is) = let one = needs_at recorded needs is.0 is.1 in subst (IsUnmet s.profiles) one.2 (stands.list is.0 one.0 one.1).unmet

-- full

-- what a full search recorded, with the next entry, is a recorded list
pub full_list : (s : Search) → AreSeniors s.rules.order → (recorded : List Entry) (next : Entry) → IsOutcome s (full recorded next)
    → IsRecordedList s.rules s.profiles s.goal (recorded ++ next ∷ [])
full_list s same recorded next o = by_case (came s same (full recorded next) o)
  where
    by_case : Came s (full recorded next) → IsRecordedList s.rules s.profiles s.goal (recorded ++ next ∷ [])
    by_case (inl h) = let e = h.2 in cc
    by_case (inr h) = h

-- where the outcome is full, as many entries are recorded as may be
abbrev pub IsFull : Search → Outcome → Type 0
IsFull s (found recorded entry) = Unit {0}
IsFull s (full recorded entry) = length recorded ≡ s.limit
IsFull s (closed recorded) = Unit {0}

-- of a walk
pub walk_full : (s : Search) (recorded entries : List Entry) (outcome : Outcome) → Walks s recorded entries (ends outcome) → IsFull s outcome
walk_full s recorded [] outcome e = let e' : ends outcome ≡ goes_on recorded = e in cc
walk_full s recorded (entry ∷ entries) outcome (inl h) =
    let e : outcome ≡ found recorded entry = same_end outcome (found recorded entry) h.1 in subst (IsFull s) (sym e) tt
walk_full s recorded (entry ∷ entries) outcome (inr h) = by_room h.1 (walk_full s (recorded ++ entry ∷ []) entries outcome)
  where
    by_room : WalksOn s recorded entry entries (ends outcome) → (Walks s (recorded ++ entry ∷ []) entries (ends outcome) → IsFull s outcome)
        → IsFull s outcome
    by_room (inl k) again = subst (IsFull s) (sym (same_end outcome (full recorded entry) k.1)) k.0
    by_room (inr k) again = again k.1

-- of a round
pub round_full : (s : Search) (recorded candidates : List Entry) (outcome : Outcome) (rest : List Entry → Type 0)
    → ((more : List Entry) → rest more → IsFull s outcome)
    → (walk : Walk) → Round s recorded candidates walk → Continues rest walk outcome → IsFull s outcome
round_full s recorded candidates outcome rest onward (ends end) round e = subst (IsFull s) (sym e) (walk_full s recorded round.list end round.walked)
round_full s recorded candidates outcome rest onward (goes_on more) round r = onward more r

-- of the rounds
pub comes_full : (s : Search) (rounds : ℕ) (recorded : List Entry) (taken : ℕ) (outcome : Outcome) → ComesTo s rounds recorded taken outcome
    → IsFull s outcome
comes_full s zero recorded taken outcome h = subst (IsFull s) (sym h.1) tt
comes_full s (suc rounds) recorded taken outcome (inl h) = subst (IsFull s) (sym h.1) tt
comes_full s (suc rounds) recorded taken outcome (inr h) =
    round_full s recorded (next_candidates s.rules recorded taken) outcome (λ more. ComesTo s rounds more (min (taken + batch) (length recorded)) outcome)
    (λ more rest. comes_full s rounds more (min (taken + batch) (length recorded)) outcome rest) h.1 h.2 h.3

-- of the search
pub full_limit : (s : Search) (recorded : List Entry) (next : Entry) → IsOutcome s (full recorded next) → length recorded ≡ s.limit
full_limit s recorded next o =
    round_full s [] (goal_candidates s.rules s.goal) (full recorded next) (λ list. ComesTo s o.rounds list 0 (full recorded next))
    (λ list rest. comes_full s o.rounds list 0 (full recorded next) rest) o.walk o.first o.rest
