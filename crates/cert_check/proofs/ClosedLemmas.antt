-- The first of listed requirements that isn't as a closed list wants it, and lists where none is so.
use Rattle.std.proofs.Common.{ℕ, ◌≡◌, ◌<◌, ◌≤◌, ◌+◌, List, length, map, arith, subst, Some}
use Rattle.std.specs.Prelude.{slice_get}
use Rattle.list_words.specs.Lists.{Each, IsFirst, IsOneOf}
use Rattle.list_words.proofs.EachLemmas.{each_of, each_at, some_each, some_one_at}
use Rattle.list_words.proofs.GetLemmas.{below_more, get_below, get_map}
use Rattle.arbac_policy.specs.declared.profile.Profile.{Profile}
use Rattle.arbac_policy.specs.Rules.{Rules}
use Rattle.arbac_laws.specs.Needs.{IsCovered, IsPossible, Need}
use Rattle.arbac_laws.specs.Closed.{IsClosedList, IsUnmet}
use Rattle.arbac_laws.specs.Goals.{goal_requirements}
use Rattle.arbac_laws.specs.Obligations.{Obligation, obligations, pre_image}
use Rattle.arbac_laws.specs.Serving.{ServesLeast}
use Rattle.arbac_laws.proofs.ServeLemmas.{unmet_unserved}
use Rattle.cert_needs.proofs.CoverLemmas.{got_map}
use Rattle.cert_text.specs.declared.cert.Need as code
use Rattle.cert_text.specs.Certificates.{users_of}
use Rattle.cert_check.specs.Asked.{AreGoalsCovered, Asked, HasOpen, HasStart, IsFirstMet, IsFirstOpen, IsOpen, IsUncovered}
use Rattle.cert_check.specs.Firsts.{IsMetAt, IsOpenAt}
use Rattle.cert_check.proofs.DecidingLemmas.{covered_stable}
use Rattle.cert_check.proofs.FirstLemmas.{first_some}

-- P holds of no item before the place, as it is seen
abbrev pub NoneBefore : {A B : Type 0} → (A → B) → (B → Type 0) → List A → ℕ → Type 0
NoneBefore {A} {B} f P xs place = (k : ℕ) (x : A) → k < place → slice_get xs k ≡ Some x → ¬ P (f x)

pub none_more : {A B : Type 0} (f : A → B) (P : B → Type 0) (xs : List A) (place : ℕ) (x : A) → NoneBefore f P xs place
    → slice_get xs place ≡ Some x → ¬ P (f x) → NoneBefore f P xs (place + 1)
none_more f P xs place x before at unlike = below_more (λ y. ¬ P (f y)) xs place x before at unlike

none_seen : {A B : Type 0} (f : A → B) (P : B → Type 0) (xs : List A) (place : ℕ) → NoneBefore f P xs place
    → (k : ℕ) (y : B) → k < place → slice_get (map f xs) k ≡ Some y → ¬ P y
none_seen f P xs place before k y l at = let one = got_map f xs k y at in subst (λ v. ¬ P v) one.2 (before k one.0 l one.1)

-- so at the end there is none
pub none_all : {A B : Type 0} (f : A → B) (P : B → Type 0) (xs : List A) (place : ℕ) → NoneBefore f P xs place → length xs ≤ place
    → Each (λ y. ¬ P y) (map f xs)
none_all {A} {B} f P xs place before end = each_of (λ y. ¬ P y) (map f xs) each
  where
    each : (k : ℕ) (y : B) → slice_get (map f xs) k ≡ Some y → ¬ P y
    each k y at =
        let one = got_map f xs k y at in
        let below = get_below xs k one.0 one.1 in
        subst (λ v. ¬ P v) one.2 (before k one.0 (omega (arith, below, end)) one.1)

-- the item at the place is the first
pub first_here : {A B : Type 0} (f : A → B) (P : B → Type 0) (xs : List A) (place : ℕ) (x : A) → NoneBefore f P xs place
    → slice_get xs place ≡ Some x → P (f x) → IsFirst P (map f xs) place
first_here f P xs place x before at here = record {
  item = f x;
  at = get_map f xs place x at;
  holds = here;
  none_before = none_seen f P xs place before;
}

-- with its first open obligation
pub open_here : (rules : Rules) (members : List (List Need)) (needs : List code.Need) (place obligation : ℕ) (need : code.Need)
    → NoneBefore users_of (HasOpen rules members) needs place → slice_get needs place ≡ Some need
    → IsFirst (IsOpen rules members (users_of need)) (obligations rules (users_of need)) obligation
    → IsOpenAt rules members (map users_of needs) place obligation
open_here rules members needs place obligation need before at first = record {
  member = record {
    item = users_of need;
    at = get_map users_of needs place need at;
    holds = first_some (IsOpen rules members (users_of need)) (obligations rules (users_of need)) obligation first;
    none_before = none_seen users_of (HasOpen rules members) needs place before;
  };
  first = first;
}

pub not_open : (rules : Rules) (members : List (List Need)) (needs : List Need)
    → Each (λ ob. ¬ IsOpen rules members needs ob) (obligations rules needs) → ¬ HasOpen rules members needs
not_open rules members needs none some =
    some_each (IsOpen rules members needs) (λ ob. ¬ IsOpen rules members needs ob) ⊥ (λ ob h n. n h) (obligations rules needs) some none

-- with the least choice that serves it
pub met_here : (profiles : List Profile) (needs : List code.Need) (place : ℕ) (choice : List ℕ) (need : code.Need)
    → NoneBefore users_of (HasStart profiles) needs place → slice_get needs place ≡ Some need → ServesLeast profiles (users_of need) choice
    → IsMetAt profiles (map users_of needs) place choice
met_here profiles needs place choice need before at least = record {
  member = record {
    item = users_of need;
    at = get_map users_of needs place need at;
    holds = (choice, least.serves);
    none_before = none_seen users_of (HasStart profiles) needs place before;
  };
  least = least;
}

pub not_met : (profiles : List Profile) (needs : List Need) → IsUnmet profiles needs → ¬ HasStart profiles needs
not_met profiles needs unmet start = (unmet_unserved profiles needs).0 unmet start.0 start.1

-- a list where nothing fails is closed
pub closed_of : (asked : Asked) (list : List (List Need)) → AreGoalsCovered asked list → Each (λ needs. ¬ HasOpen asked.rules list needs) list
    → Each (λ needs. ¬ HasStart asked.profiles needs) list → IsClosedList asked.rules asked.profiles asked.goal list
closed_of asked list goals none_open none_met = record { goals = covered; pre_images = images; unmet = unmet }
  where
    covered : (needs : List Need) → IsOneOf (goal_requirements asked.rules.order asked.goal) needs → IsPossible needs → IsCovered list needs
    covered needs one possible =
        let lacks = each_at (λ x. ¬ IsUncovered list x) (goal_requirements asked.rules.order asked.goal) one.0 needs goals one.1 in
        covered_stable list needs (λ un. lacks (possible, un))

    images : (needs : List Need) → IsOneOf list needs → (ob : Obligation) → IsOneOf (obligations asked.rules needs) ob
        → (before : List Need) → pre_image asked.rules needs ob ≡ Some before → IsPossible before → IsCovered list before
    images needs one ob there before is possible =
        let lacks = each_at (λ x. ¬ HasOpen asked.rules list x) list one.0 needs none_open one.1 in
        covered_stable list before
        (λ un. lacks (some_one_at (IsOpen asked.rules list needs) (obligations asked.rules needs) ob there (before, is, (possible, un))))

    unmet : (needs : List Need) → IsOneOf list needs → IsUnmet asked.profiles needs
    unmet needs one =
        let lacks = each_at (λ x. ¬ HasStart asked.profiles x) list one.0 needs none_met one.1 in
        (unmet_unserved asked.profiles needs).1 (λ choice serves. lacks (choice, serves))

pub first_open_of : (asked : Asked) (list : List (List Need)) (place obligation : ℕ) → AreGoalsCovered asked list
    → IsOpenAt asked.rules list list place obligation → IsFirstOpen asked list place obligation
first_open_of asked list place obligation goals open_at = record { goals = goals; member = open_at.member; first = open_at.first }

pub first_met_of : (asked : Asked) (list : List (List Need)) (place : ℕ) (choice : List ℕ) → AreGoalsCovered asked list
    → Each (λ needs. ¬ HasOpen asked.rules list needs) list → IsMetAt asked.profiles list place choice → IsFirstMet asked list place choice
first_met_of asked list place choice goals none_open met = record { goals = goals; none_open = none_open; member = met.member; least = met.least }
