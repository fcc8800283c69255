-- Steps of a recorded list, one after another.
use Rattle.std.proofs.Common.{ℕ, ◌≡◌, ◌∙◌, ◌<◌, ◌≤◌, ◌+◌, List, [], ◌∷◌, ◌++◌, length, map, take, Some, sym, subst, ap, refl, arith}
use Rattle.std.specs.Prelude.{slice_get}
use Rattle.std.proofs.Math.Seq.{take-append_seam}
use Rattle.std.proofs.lemmas.List.{length-map, length-take-le, map_push, take-append-le, take-map}
use Rattle.list_words.specs.Lists.{IsFirst}
use Rattle.list_words.proofs.GetLemmas.{get_append, get_below, get_last, get_map, take_one_more}
use Rattle.arbac_policy.specs.Rules.{Rules}
use Rattle.arbac_policy.specs.Truth.{term_of}
use Rattle.arbac_laws.specs.Goals.{goal_requirements}
use Rattle.arbac_laws.specs.Needs.{Covers, IsCovered, Need}
use Rattle.arbac_laws.specs.Recorded.{Entry, IsEntry, IsRecordedList}
use Rattle.search_laws.proofs.OutcomeLemmas.{recorded_more}
use Rattle.question_text.specs.declared.question.Question.{Question}
use Rattle.cert_text.specs.declared.cert.Step.{Step}
use Rattle.cert_text.specs.Certificates.{entry_of, undecided, users_of}
use Rattle.cert_check.specs.Asked.{Asked, FailsFirst, HasProperty, IsDerivedEntry, IsMetStep, IsRepeated, IsUnderived, needs_in, reason_of}
use Rattle.cert_check.specs.Judgements.{asked_by}
use Rattle.cert_check.specs.Steps.{IsStepFault}
use Rattle.cert_check.specs.declared.judgement.Why.{Why}
use Rattle.cert_check.specs.declared.judgement.Why.TheVariants.{NotDrawn, StepRefused, GoalNotMet, GoalUncovered, Open, StartsMet, NotDerived}
use Rattle.cert_check.specs.declared.judgement.Why.TheVariants.{Repeated, WrongCount}

-- where the steps before it are right, what is wrong with a step is where the certificate fails first
pub fails_at : (asked : Asked) (recorded : List Entry) (next : Entry) (place : ℕ) (earlier : List Entry) (entry : Entry)
    → take place (recorded ++ next ∷ []) ≡ earlier → length earlier ≡ place → slice_get (recorded ++ next ∷ []) place ≡ Some entry
    → IsRecordedList asked.rules asked.profiles asked.goal earlier → (why : Why) → IsStepFault asked earlier entry why
    → FailsFirst asked (undecided (length recorded) recorded next) (reason_of why)
fails_at asked recorded next place earlier entry front long at right (NotDerived p) f = (
  refl,
  subst (IsUnderived asked (recorded ++ next ∷ [])) (sym (f.0 ∙ long)) (record {
    before = subst (IsRecordedList asked.rules asked.profiles asked.goal) (sym front) right;
    entry = entry;
    at = at;
    wrong = subst (λ (list : List Entry). IsDerivedEntry asked list entry → ⊥) (sym front) f.1;
  }),
)
fails_at asked recorded next place earlier entry front long at right (Repeated p one) f = (
  refl,
  subst (λ (n : ℕ). IsRepeated asked (recorded ++ next ∷ []) n one) (sym (f.0 ∙ long)) (record {
    before = subst (IsRecordedList asked.rules asked.profiles asked.goal) (sym front) right;
    entry = entry;
    at = at;
    derived = subst (λ (list : List Entry). IsDerivedEntry asked list entry) (sym front) f.1;
    covered = subst (λ (list : List Entry). IsFirst (λ needs. Covers needs entry.needs) (needs_in list) one) (sym front) f.2;
  }),
)
fails_at asked recorded next place earlier entry front long at right (StartsMet p choice) f = (
  refl,
  subst (λ (n : ℕ). IsMetStep asked (recorded ++ next ∷ []) n choice.items) (sym (f.0 ∙ long)) (record {
    before = subst (IsRecordedList asked.rules asked.profiles asked.goal) (sym front) right;
    entry = entry;
    at = at;
    derived = subst (λ (list : List Entry). IsDerivedEntry asked list entry) (sym front) f.1;
    new = subst (λ (list : List Entry). IsCovered (needs_in list) entry.needs → ⊥) (sym front) f.2;
    least = f.3;
  }),
)
fails_at asked recorded next place earlier entry front long at right (NotDrawn user) f = absurd f
fails_at asked recorded next place earlier entry front long at right (StepRefused p part) f = absurd f
fails_at asked recorded next place earlier entry front long at right GoalNotMet f = absurd f
fails_at asked recorded next place earlier entry front long at right (GoalUncovered goal) f = absurd f
fails_at asked recorded next place earlier entry front long at right (Open need obligation) f = absurd f
fails_at asked recorded next place earlier entry front long at right (WrongCount count) f = absurd f

-- the same of a recorded step
pub step_fails : (asked : Asked) (steps : List Step) (next : Entry) (place : ℕ) (step : Step) → slice_get steps place ≡ Some step
    → IsRecordedList asked.rules asked.profiles asked.goal (map entry_of (take place steps)) → (why : Why)
    → IsStepFault asked (map entry_of (take place steps)) (entry_of step) why
    → FailsFirst asked (undecided (length steps) (map entry_of steps) next) (reason_of why)
step_fails asked steps next place step at right why f =
    subst (λ (n : ℕ). FailsFirst asked (undecided n (map entry_of steps) next) (reason_of why)) (length-map steps entry_of)
    (fails_at asked (map entry_of steps) next place (map entry_of (take place steps)) (entry_of step) front long there right why f)
  where
    less : place < length steps
    less = get_below steps place step at

    short : place ≤ length (map entry_of steps)
    short = let same = length-map steps entry_of in omega (arith, less, same)

    front : take place (map entry_of steps ++ next ∷ []) ≡ map entry_of (take place steps)
    front = take-append-le place (map entry_of steps) (next ∷ []) short ∙ take-map entry_of place steps

    long : length (map entry_of (take place steps)) ≡ place
    long = length-map (take place steps) entry_of ∙ length-take-le place steps (omega (arith, less))

    there : slice_get (map entry_of steps ++ next ∷ []) place ≡ Some (entry_of step)
    there = get_append (map entry_of steps) next place (let same = length-map steps entry_of in omega (arith, less, same))
        ∙ get_map entry_of steps place step at

-- the same of the one after the recorded ones
pub next_fails : (asked : Asked) (steps : List Step) (next : Entry) → IsRecordedList asked.rules asked.profiles asked.goal (map entry_of steps)
    → (why : Why) → IsStepFault asked (map entry_of steps) next why → FailsFirst asked (undecided (length steps) (map entry_of steps) next) (reason_of why)
next_fails asked steps next right why f =
    subst (λ (n : ℕ). FailsFirst asked (undecided n (map entry_of steps) next) (reason_of why)) (length-map steps entry_of)
    (fails_at asked (map entry_of steps) next (length (map entry_of steps)) (map entry_of steps) next front refl (get_last (map entry_of steps) next)
    right why f)
  where
    front : take (length (map entry_of steps)) (map entry_of steps ++ next ∷ []) ≡ map entry_of steps
    front = take-append_seam (map entry_of steps) (next ∷ [])

pub entries_more : (steps : List Step) (place : ℕ) (step : Step) → slice_get steps place ≡ Some step
    → map entry_of (take (place + 1) steps) ≡ map entry_of (take place steps) ++ entry_of step ∷ []
entries_more steps place step at = ap (map entry_of) (take_one_more steps place step at) ∙ map_push entry_of (take place steps) step

-- one right step more
pub one_step_more : (asked : Asked) (steps : List Step) (place : ℕ) (step : Step) → slice_get steps place ≡ Some step
    → IsRecordedList asked.rules asked.profiles asked.goal (map entry_of (take place steps))
    → IsEntry asked.rules asked.profiles asked.goal (map entry_of (take place steps)) (entry_of step)
    → IsRecordedList asked.rules asked.profiles asked.goal (map entry_of (take (place + 1) steps))
one_step_more asked steps place step at right one =
    subst (IsRecordedList asked.rules asked.profiles asked.goal) (sym (entries_more steps place step at))
    (recorded_more asked.rules asked.profiles asked.goal (map entry_of (take place steps)) (entry_of step) right one)

pub members_more : (steps : List Step) (place : ℕ) (step : Step) → slice_get steps place ≡ Some step → (old new : List (List Need))
    → old ≡ needs_in (map entry_of (take place steps)) → new ≡ old ++ users_of step.need ∷ []
    → new ≡ needs_in (map entry_of (take (place + 1) steps))
members_more steps place step at old new was is =
    is ∙ ap (λ (list : List (List Need)). list ++ users_of step.need ∷ []) was
    ∙ sym (ap needs_in (entries_more steps place step at) ∙ map_push (λ (e : Entry). e.needs) (map entry_of (take place steps)) (entry_of step))

-- all steps are right
pub all_right : (asked : Asked) (steps : List Step) (next : Entry) → IsRecordedList asked.rules asked.profiles asked.goal (map entry_of steps)
    → IsEntry asked.rules asked.profiles asked.goal (map entry_of steps) next → HasProperty asked (undecided (length steps) (map entry_of steps) next)
all_right asked steps next right one =
    (length-map steps entry_of, recorded_more asked.rules asked.profiles asked.goal (map entry_of steps) next right one)

-- a mark more, for a user more

-- what holds of whatever is asked under the book's rules and of these goals, holds of the question
pub of_question : (P : Asked → Type 0) (question : Question) (book : Rules) (goals : List (List Need)) → book ≡ question.policy
    → goals ≡ goal_requirements question.policy.order (map term_of question.goal.items)
    → ((asked : Asked) → asked.rules ≡ book → goals ≡ goal_requirements book.order asked.goal → P asked) → P (asked_by question)
of_question P question book goals same listed holds =
    holds (asked_by question) (sym same)
    (listed ∙ ap (λ (rules : Rules). goal_requirements rules.order (map term_of question.goal.items)) (sym same))
