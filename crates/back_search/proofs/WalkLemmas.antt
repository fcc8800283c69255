-- Walks over candidates, piece by piece, and who may serve a requirement.
use Rattle.std.proofs.Common.{ℕ, ◌≡◌, ◌<◌, ◌≤◌, ◌∙◌, Bool, true, false, List, [], ◌∷◌, ◌++◌, length, get_or, map, Some, zero, suc}
use Rattle.std.proofs.Common.{refl, arith, sym, ap, subst, inl, inr}
use Rattle.std.specs.Prelude.{◌↔◌, ◌==◌, slice_get}
use Rattle.std.specs.Bool.{MatchBool}
use Rattle.std.specs.List.{AllWithin, HoldsAt}
use Rattle.std.proofs.lemmas.Bool.{eq-eqb}
use Rattle.std.proofs.lemmas.List.{append_assoc}
use Rattle.list_words.specs.Lists.{Each, Some_of}
use Rattle.list_words.proofs.GetLemmas.{get_at, get_below, get_within, get_there, same_some}
use Rattle.list_words.proofs.EachLemmas.{each_at, each_of, some_at, some_item}
use Rattle.arbac_policy.specs.declared.profile.Profile.{Profile}
use Rattle.arbac_policy.specs.Goals.{times}
use Rattle.arbac_laws.specs.Needs.{Need}
use Rattle.arbac_laws.specs.Closed.{IsUnmet}
use Rattle.arbac_laws.specs.Recorded.{Entry}
use Rattle.arbac_laws.specs.Serving.{Serves, ServesLeast}
use Rattle.arbac_laws.proofs.ServeLemmas.{drawn_served, unmet_unserved}
use Rattle.search_laws.specs.Candidates.{needs_in}
use Rattle.search_laws.specs.Rounds.{Outcome, Search, Walk, Walks, ends, found, full, goes_on}
use Rattle.search_laws.proofs.RoundLemmas.{WalksOn, needs_append, on_not_ends, same_list}
use Rattle.search_rounds.specs.Keeping.{Gathered}
use Rattle.search_rounds.specs.Views.{entry_of, entries_of}
use Rattle.search_rounds.specs.declared.candidate.Candidate.{Candidate}
use Rattle.back_search.specs.declared.walk.Stop.{Stop}
use Rattle.back_search.specs.declared.walk.Stop.TheVariants.{Found, Full}
use Rattle.back_search.specs.Stops.{MayServe, Records, walk_of}

-- tests of some and of each

-- the test passes exactly where P holds of some item
pub some_by_any : {A : Type 0} (P : A → Type 0) (r : Bool) (xs : List A)
    → MatchBool r ((k : ℕ) × (k < length xs) × HoldsAt P xs k) (AllWithin (λ x. P x → ⊥) xs 0 (length xs)) → (r ≡ true) ↔ Some_of P xs
some_by_any P true xs h = (λ _. let one = get_there xs h.0 h.1 in some_at P xs h.0 one.0 one.1 (holds one.0 one.1), λ _. refl)
  where
    holds : (x : _) → slice_get xs h.0 ≡ Some x → P x
    holds x at = subst P (sym (get_within xs h.0 x at).1) (h.2 x)
some_by_any P false xs h = (λ e. cc, λ some. absurd (by_item (some_item P xs some)))
  where
    by_item : ((x : _) × ((k : ℕ) × (slice_get xs k ≡ Some x)) × P x) → ⊥
    by_item one =
        let within = get_within xs one.1.0 one.0 one.1.1 in
        h one.1.0 one.0 (omega arith) within.0 (subst P within.1 one.2)

-- the test passes exactly where P holds of each item
pub each_by_all : {A : Type 0} (P : A → Type 0) (r : Bool) (xs : List A)
    → MatchBool r (AllWithin P xs 0 (length xs)) ((k : ℕ) × (k < length xs) × HoldsAt (λ x. P x → ⊥) xs k) → (r ≡ true) ↔ Each P xs
each_by_all P true xs h = (λ _. each_of P xs holds, λ _. refl)
  where
    holds : (k : ℕ) (x : _) → slice_get xs k ≡ Some x → P x
    holds k x at = let within = get_within xs k x at in subst P (sym within.1) (h k x (omega arith) within.0)
each_by_all P false xs h = (λ e. cc, λ each. absurd (by_item each))
  where
    by_item : Each P xs → ⊥
    by_item each =
        let one = get_there xs h.0 h.1 in
        let within = get_within xs h.0 one.0 one.1 in
        h.2 one.0 (subst P within.1 (each_at P xs h.0 one.0 each one.1))

-- what holds of each item's image holds of each of the images
pub each_map : {A B : Type 0} (f : A → B) (P : B → Type 0) (xs : List A) → Each (λ x. P (f x)) xs → Each P (map f xs)
each_map f P [] each = tt
each_map f P (x ∷ xs) each = (each.0, each_map f P xs each.1)

-- and the other way round
pub map_each : {A B : Type 0} (f : A → B) (P : B → Type 0) (xs : List A) → Each P (map f xs) → Each (λ x. P (f x)) xs
map_each f P [] each = tt
map_each f P (x ∷ xs) each = (each.0, map_each f P xs each.1)

-- who may serve

-- a place that stands in a choice stands there at least once
stands_once : (place : ℕ) (choice : List ℕ) (k : ℕ) → slice_get choice k ≡ Some place → 1 ≤ times place choice
stands_once place [] k e = cc
stands_once place (x ∷ xs) zero e =
    let same : x ≡ place = same_some x place e in let yes : (x == place) ≡ true = eq-eqb x place same in rw yes (omega arith)
stands_once place (x ∷ xs) (suc k) e = let rest = stands_once place xs k e in omega (arith, rest)

-- the profiles of a choice that serves the requirement may serve it one by one
each_may : (profiles : List Profile) (needs : List Need) (choice : List ℕ) → Serves profiles needs choice
    → Each (λ need. Some_of (MayServe need) profiles) needs
each_may profiles needs choice s = each_of (λ need. Some_of (MayServe need) profiles) needs one
  where
    one : (k : ℕ) (need : Need) → slice_get needs k ≡ Some need → Some_of (MayServe need) profiles
    one k need is =
        let by = s.each k need is in
        let place = get_or choice k 0 in
        let long = s.long in
        let inside = get_below needs k need is in
        let less : k < length choice = omega (arith, long, inside) in
        let stands = stands_once place choice k (get_at choice k 0 less) in
        some_at (MayServe need) profiles place by.0 by.1 (λ e. let few = s.drawn.few place by.0 0 by.1 e in omega (arith, few, stands), by.2)

-- where no profile may serve some user requirement, no drawn users meet the requirement
pub unserved_unmet : (profiles : List Profile) (needs : List Need) → (Each (λ need. Some_of (MayServe need) profiles) needs → ⊥) → IsUnmet profiles needs
unserved_unmet profiles needs none = (unmet_unserved profiles needs).1 (λ choice s. none (each_may profiles needs choice s))

-- one candidate

-- a candidate that drawn users meet ends the walk
pub walks_found : (s : Search) (recorded : List Entry) (entry : Entry) (choice : List ℕ) → ServesLeast s.profiles entry.needs choice
    → Walks s recorded (entry ∷ []) (ends (found recorded entry))
walks_found s recorded entry choice least = inl ((drawn_served s.profiles entry.needs).1 (choice, least.serves), refl)

-- so does one for which there is no room
pub walks_full : (s : Search) (recorded : List Entry) (entry : Entry) → IsUnmet s.profiles entry.needs → length recorded ≡ s.limit
    → Walks s recorded (entry ∷ []) (ends (full recorded entry))
walks_full s recorded entry unmet e = inr (unmet, inl (e, refl))

-- else it goes on
pub walks_on : (s : Search) (recorded : List Entry) (entry : Entry) → IsUnmet s.profiles entry.needs → (length recorded ≡ s.limit → ⊥)
    → Walks s recorded (entry ∷ []) (goes_on (recorded ++ entry ∷ []))
walks_on s recorded entry unmet n = inr (unmet, inr (n, refl))

-- a candidate behind others
pub entries_append : (xs ys : List Candidate) → entries_of (xs ++ ys) ≡ entries_of xs ++ entries_of ys
entries_append [] ys = refl
entries_append (x ∷ xs) ys = ap (λ t. entry_of x ∷ t) (entries_append xs ys)

-- piece by piece

-- a walk that goes on goes on with what is left
pub walk_further : (s : Search) (recorded xs ys mid : List Entry) (walk : Walk) → Walks s recorded xs (goes_on mid) → Walks s mid ys walk
    → Walks s recorded (xs ++ ys) walk
walk_further s recorded [] ys mid walk e rest = subst (λ list. Walks s list ys walk) (same_list mid recorded e) rest
walk_further s recorded (x ∷ xs) ys mid walk (inl h) rest = absurd (on_not_ends mid (found recorded x) h.1)
walk_further s recorded (x ∷ xs) ys mid walk (inr h) rest = by_room h.1 (walk_further s (recorded ++ x ∷ []) xs ys mid walk)
  where
    by_room : WalksOn s recorded x xs (goes_on mid)
        → (Walks s (recorded ++ x ∷ []) xs (goes_on mid) → Walks s mid ys walk → Walks s (recorded ++ x ∷ []) (xs ++ ys) walk)
        → Walks s recorded (x ∷ xs ++ ys) walk
    by_room (inl k) again = absurd (on_not_ends mid (full recorded x) k.1)
    by_room (inr k) again = inr (h.0, inr (k.0, again k.1 rest))

-- a walk that ended never comes to what is left
pub walk_ended : (s : Search) (recorded xs ys : List Entry) (outcome : Outcome) → Walks s recorded xs (ends outcome)
    → Walks s recorded (xs ++ ys) (ends outcome)
walk_ended s recorded [] ys outcome e = absurd (on_not_ends recorded outcome (sym e))
walk_ended s recorded (x ∷ xs) ys outcome (inl h) = inl h
walk_ended s recorded (x ∷ xs) ys outcome (inr h) = by_room h.1 (walk_ended s (recorded ++ x ∷ []) xs ys outcome)
  where
    by_room : WalksOn s recorded x xs (ends outcome)
        → (Walks s (recorded ++ x ∷ []) xs (ends outcome) → Walks s (recorded ++ x ∷ []) (xs ++ ys) (ends outcome))
        → Walks s recorded (x ∷ xs ++ ys) (ends outcome)
    by_room (inl k) again = inr (h.0, inl k)
    by_room (inr k) again = inr (h.0, inr (k.0, again k.1))

-- the first pieces go on, and the walk stops at one more
pub walk_stops : (s : Search) (recorded mid after : List Entry) (all before rest : List Candidate) (one : Candidate) (stop : Stop)
    → all ≡ before ++ one ∷ rest
    → Walks s recorded (entries_of before) (goes_on mid) → Walks s mid (entry_of one ∷ []) (walk_of (Some stop) after)
    → Walks s recorded (entries_of all) (walk_of (Some stop) after)
walk_stops s recorded mid after all before rest one stop is first last =
    subst (λ list. Walks s recorded list (walk_of (Some stop) after)) (sym (ap (λ list. entries_of list) is ∙ entries_append before (one ∷ rest)))
    (walk_further s recorded (entries_of before) (entry_of one ∷ entries_of rest) mid (walk_of (Some stop) after) first (by_stop stop last))
  where
    by_stop : (stop : Stop) → Walks s mid (entry_of one ∷ []) (walk_of (Some stop) after)
        → Walks s mid (entry_of one ∷ entries_of rest) (walk_of (Some stop) after)
    by_stop (Found choice entry) w = walk_ended s mid (entry_of one ∷ []) (entries_of rest) (found after (entry_of entry)) w
    by_stop (Full next) w = walk_ended s mid (entry_of one ∷ []) (entries_of rest) (full after (entry_of next)) w

-- the first pieces go on, and the walk goes past one more
pub walk_passes : (s : Search) (recorded mid after : List Entry) (before : List Candidate) (one : Candidate)
    → Walks s recorded (entries_of before) (goes_on mid) → Walks s mid (entry_of one ∷ []) (goes_on after)
    → Walks s recorded (entries_of (before ++ one ∷ [])) (goes_on after)
walk_passes s recorded mid after before one first last =
    subst (λ list. Walks s recorded list (goes_on after)) (sym (entries_append before (one ∷ [])))
    (walk_further s recorded (entries_of before) (entry_of one ∷ []) mid (goes_on after) first last)

-- what is recorded and known piece by piece is so in all
pub records_more : (old mid new : Gathered) (before between after : List Entry) → Records old mid before between → Records mid new between after
    → Records old new before after
records_more old mid new before between after first last = record {
  more = first.more ++ last.more;
  recorded = last.recorded ∙ ap (λ list. list ++ last.more) first.recorded ∙ append_assoc before first.more last.more;
  gathered = last.gathered ∙ ap (λ (g : Gathered). with_more g) first.gathered ∙ ap (λ known. known_as known) known;
}
  where
    with_more : Gathered → Gathered
    with_more g = record { order = g.order; known = g.known ++ needs_in last.more; seen = g.seen; kept = g.kept }

    known_as : List (List Need) → Gathered
    known_as known = record { order = old.order; known = known; seen = old.seen; kept = old.kept }

    known : (old.known ++ needs_in first.more) ++ needs_in last.more ≡ old.known ++ needs_in (first.more ++ last.more)
    known = append_assoc old.known (needs_in first.more) (needs_in last.more) ∙ ap (λ list. old.known ++ list) (sym (needs_append first.more last.more))
