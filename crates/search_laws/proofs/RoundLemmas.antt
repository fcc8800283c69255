-- What a round keeps, and that a search has one outcome.
use Rattle.std.proofs.Common.{ℕ, ◌≡◌, ◌<◌, ◌≤◌, ◌+◌, List, [], ◌∷◌, ◌++◌, length, min, refl, arith, zero, suc, sym, ◌∙◌}
use Rattle.std.proofs.Common.{ap, subst, inl, inr}
use Rattle.std.specs.Prelude.{◌⊎◌, slice_get, Some}
use Rattle.std.proofs.lemmas.List.{append-nil, append_assoc}
use Rattle.std.proofs.Math.Nat.{min-eq_left, min-eq_right}
use Rattle.list_words.specs.Lists.{Each, IsOneOf}
use Rattle.list_words.proofs.NumberLemmas.{compare}
use Rattle.list_words.proofs.GetLemmas.{length_more}
use Rattle.list_words.proofs.EachLemmas.{each_of, some_cases, some_left, some_map, some_one_at, some_right}
use Rattle.arbac_policy.specs.declared.profile.Profile.{Profile}
use Rattle.arbac_laws.specs.Closed.{IsUnmet}
use Rattle.arbac_laws.specs.Needs.{Covers, IsCovered, Need}
use Rattle.arbac_laws.specs.Recorded.{Entry}
use Rattle.search_laws.specs.Candidates.{batch, goal_candidates, needs_in, next_candidates}
use Rattle.search_laws.specs.Rounds.{ComesTo, Continues, IsMet, IsOutcome, Outcome, Round, Search, Walk, Walks, ends, found, full, goes_on}
use Rattle.search_laws.proofs.DecideLemmas.{Decided, covered_decided}
use Rattle.search_laws.proofs.BeatLemmas.{AreNormal, one_unbeaten, unbeaten_covers}

-- a walk goes on with one list
pub same_list : (a b : List Entry) → goes_on a ≡ goes_on b → a ≡ b
same_list a b e = cc

-- a walk ends with one outcome
pub same_end : (a b : Outcome) → ends a ≡ ends b → a ≡ b
same_end a b e = cc

-- a walk doesn't both go on and end
pub on_not_ends : (list : List Entry) (outcome : Outcome) → goes_on list ≡ ends outcome → ⊥
on_not_ends list outcome e = cc

-- an item at the end of the first list, or in front of the second
pub more_is : {A : Type 0} (xs : List A) (y : A) (ys : List A) → (xs ++ y ∷ []) ++ ys ≡ xs ++ y ∷ ys
more_is xs y ys = append_assoc xs (y ∷ []) ys

-- what is left of a walk at an entry that no drawn users meet
abbrev pub WalksOn : Search → List Entry → Entry → List Entry → Walk → Type 0
WalksOn s recorded entry entries walk =
    ((length recorded ≡ s.limit) × (walk ≡ ends (full recorded entry)))
    ⊎ (¬ (length recorded ≡ s.limit) × Walks s (recorded ++ entry ∷ []) entries walk)

-- a walk that goes on keeps what is recorded, and all that is walked
pub walk_kept : (s : Search) (recorded entries more : List Entry) → Walks s recorded entries (goes_on more) → more ≡ recorded ++ entries
walk_kept s recorded [] more e = same_list more recorded e ∙ sym (append-nil recorded)
walk_kept s recorded (entry ∷ entries) more (inl h) = absurd (on_not_ends more (found recorded entry) h.1)
walk_kept s recorded (entry ∷ entries) more (inr h) = by_room h.1 (walk_kept s (recorded ++ entry ∷ []) entries more)
  where
    by_room : WalksOn s recorded entry entries (goes_on more)
        → (Walks s (recorded ++ entry ∷ []) entries (goes_on more) → more ≡ (recorded ++ entry ∷ []) ++ entries)
        → more ≡ recorded ++ entry ∷ entries
    by_room (inl k) again = absurd (on_not_ends more (full recorded entry) k.1)
    by_room (inr k) again = again k.1 ∙ more_is recorded entry entries

-- a walk that goes on keeps within the limit
pub walk_within : (s : Search) (recorded entries more : List Entry) → length recorded ≤ s.limit → Walks s recorded entries (goes_on more)
    → length more ≤ s.limit
walk_within s recorded [] more l e = subst (λ list. length list ≤ s.limit) (sym (same_list more recorded e)) l
walk_within s recorded (entry ∷ entries) more l (inl h) = absurd (on_not_ends more (found recorded entry) h.1)
walk_within s recorded (entry ∷ entries) more l (inr h) = by_room h.1 (walk_within s (recorded ++ entry ∷ []) entries more)
  where
    room : ¬ (length recorded ≡ s.limit) → length (recorded ++ entry ∷ []) ≤ s.limit
    room n = by_order (compare (length recorded) s.limit)
      where
        by_order : (length recorded < s.limit) ⊎ ((length recorded ≡ s.limit) ⊎ (s.limit < length recorded))
            → length (recorded ++ entry ∷ []) ≤ s.limit
        by_order (inl less) = let long = length_more recorded entry in omega (arith, long, less)
        by_order (inr (inl e)) = absurd (n e)
        by_order (inr (inr more)) = absurd (omega (arith, l, more))

    by_room : WalksOn s recorded entry entries (goes_on more)
        → (length (recorded ++ entry ∷ []) ≤ s.limit → Walks s (recorded ++ entry ∷ []) entries (goes_on more) → length more ≤ s.limit)
        → length more ≤ s.limit
    by_room (inl k) again = absurd (on_not_ends more (full recorded entry) k.1)
    by_room (inr k) again = again (room k.0) k.1

-- the lesser of two numbers is one of them
abbrev pub IsLesser : ℕ → ℕ → Type 0
IsLesser a b = ((a ≤ b) × (min a b ≡ a)) ⊎ ((b ≤ a) × (min a b ≡ b))

-- by their order
pub min_cases : (a b : ℕ) → IsLesser a b
min_cases a b = by_order (compare a b)
  where
    by_order : (a < b) ⊎ ((a ≡ b) ⊎ (b < a)) → IsLesser a b
    by_order (inl l) = let h : a ≤ b = omega (arith, l) in inl (h, min-eq_left h)
    by_order (inr (inl e)) = let h : a ≤ b = omega (arith, e) in inl (h, min-eq_left h)
    by_order (inr (inr l)) = let h : b ≤ a = omega (arith, l) in inr (h, min-eq_right h)

-- a round takes some that weren't taken
pub takes_some : (recorded : List Entry) (taken : ℕ) → taken < length recorded → taken < min (taken + batch) (length recorded)
takes_some recorded taken l = by_cases (min_cases (taken + batch) (length recorded))
  where
    by_cases : IsLesser (taken + batch) (length recorded) → taken < min (taken + batch) (length recorded)
    by_cases (inl h) = let e = h.1 in omega (arith, e)
    by_cases (inr h) = let e = h.1 in omega (arith, e, l)

-- the requirements of two lists of entries
pub needs_append : (xs ys : List Entry) → needs_in (xs ++ ys) ≡ needs_in xs ++ needs_in ys
needs_append [] ys = refl
needs_append (x ∷ xs) ys = ap (λ t. x.needs ∷ t) (needs_append xs ys)

-- what is covered stays so, as more is recorded
pub covered_more : (barriers : List (List Need)) (xs ys : List Entry) (needs : List Need) → IsCovered (barriers ++ needs_in xs) needs
    → IsCovered (barriers ++ needs_in (xs ++ ys)) needs
covered_more barriers xs ys needs covered = by_side (some_cases (λ one. Covers one needs) barriers (needs_in xs) covered)
  where
    by_side : IsCovered barriers needs ⊎ IsCovered (needs_in xs) needs → IsCovered (barriers ++ needs_in (xs ++ ys)) needs
    by_side (inl h) = some_left (λ one. Covers one needs) barriers (needs_in (xs ++ ys)) h
    by_side (inr h) = some_right (λ one. Covers one needs) barriers (needs_in (xs ++ ys))
        (subst (λ list. IsCovered list needs) (sym (needs_append xs ys)) (some_left (λ one. Covers one needs) (needs_in xs) (needs_in ys) h))

-- one of the entries covers the requirement
pub entry_covers : (entries : List Entry) (one : Entry) (needs : List Need) → IsOneOf entries one → Covers one.needs needs
    → IsCovered (needs_in entries) needs
entry_covers entries one needs is covers =
    some_map (λ (e : Entry). e.needs) (λ v. Covers v needs) entries (some_one_at (λ (e : Entry). Covers e.needs needs) entries one is covers)

-- after a round that goes on each candidate is covered
pub round_covered : (s : Search) (recorded candidates more : List Entry) → AreNormal candidates → Round s recorded candidates (goes_on more)
    → Each (λ (entry : Entry). IsCovered (s.barriers ++ needs_in more) entry.needs) candidates
round_covered s recorded candidates more normal round =
    each_of (λ (entry : Entry). IsCovered (s.barriers ++ needs_in more) entry.needs) candidates
    (λ place entry at. subst (λ list. IsCovered (s.barriers ++ needs_in list) entry.needs) (sym (walk_kept s recorded round.list more round.walked))
    (by_known place entry at (covered_decided (s.barriers ++ needs_in recorded) entry.needs)))
  where
    by_known : (place : ℕ) (entry : Entry) → slice_get candidates place ≡ Some entry → Decided (IsCovered (s.barriers ++ needs_in recorded) entry.needs)
        → IsCovered (s.barriers ++ needs_in (recorded ++ round.list)) entry.needs
    by_known place entry at (inl covered) = covered_more s.barriers recorded round.list entry.needs covered
    by_known place entry at (inr new) =
        let one = unbeaten_covers (s.barriers ++ needs_in recorded) candidates normal place entry at new in
        some_right (λ v. Covers v entry.needs) s.barriers (needs_in (recorded ++ round.list))
        (subst (λ list. IsCovered list entry.needs) (sym (needs_append recorded round.list))
        (some_right (λ v. Covers v entry.needs) (needs_in recorded) (needs_in round.list)
        (entry_covers round.list one.0 entry.needs (round.unbeaten.all one.1 one.0 one.2) one.3)))

-- a search has one outcome

-- a requirement isn't both met and unmet
pub met_not_unmet : (profiles : List Profile) (needs : List Need) → IsMet profiles needs → IsUnmet profiles needs → ⊥
met_not_unmet profiles needs met unmet = unmet met.0 met.1 met.2

-- a walk has one end
pub one_walk : (s : Search) (recorded entries : List Entry) (first second : Walk) → Walks s recorded entries first → Walks s recorded entries second
    → first ≡ second
one_walk s recorded [] first second e f = e ∙ sym f
one_walk s recorded (entry ∷ entries) first second (inl h) (inl k) = h.1 ∙ sym k.1
one_walk s recorded (entry ∷ entries) first second (inl h) (inr k) = absurd (met_not_unmet s.profiles entry.needs h.0 k.0)
one_walk s recorded (entry ∷ entries) first second (inr h) (inl k) = absurd (met_not_unmet s.profiles entry.needs k.0 h.0)
one_walk s recorded (entry ∷ entries) first second (inr h) (inr k) = by_room h.1 k.1 (one_walk s (recorded ++ entry ∷ []) entries first second)
  where
    by_room : WalksOn s recorded entry entries first → WalksOn s recorded entry entries second
        → (Walks s (recorded ++ entry ∷ []) entries first → Walks s (recorded ++ entry ∷ []) entries second → first ≡ second) → first ≡ second
    by_room (inl a) (inl b) again = a.1 ∙ sym b.1
    by_room (inl a) (inr b) again = absurd (b.0 a.0)
    by_room (inr a) (inl b) again = absurd (a.0 b.0)
    by_room (inr a) (inr b) again = again a.1 b.1

-- a round has one end
pub one_round : (s : Search) (recorded candidates : List Entry) (first second : Walk) → Round s recorded candidates first
    → Round s recorded candidates second
    → first ≡ second
one_round s recorded candidates first second a b =
    one_walk s recorded b.list first second
    (subst (λ list. Walks s recorded list first)
    (one_unbeaten (s.barriers ++ needs_in recorded) candidates a.list b.list a.unbeaten b.unbeaten) a.walked) b.walked

-- where rounds end alike, and what comes of a list is one outcome, so is what comes of the rounds
pub continues_one : (P Q : List Entry → Type 0) (first second : Outcome) → ((list : List Entry) → P list → Q list → first ≡ second)
    → (walk : Walk) → Continues P walk first → Continues Q walk second → first ≡ second
continues_one P Q first second h (ends end) e f = e ∙ sym f
continues_one P Q first second h (goes_on list) p q = h list p q

-- rounds come to one outcome
pub comes_one : (s : Search) (m n : ℕ) (recorded : List Entry) (taken : ℕ) (first second : Outcome) → ComesTo s m recorded taken first
    → ComesTo s n recorded taken second → first ≡ second
comes_one s zero zero recorded taken first second a b = a.1 ∙ sym b.1
comes_one s zero (suc n) recorded taken first second a (inl b) = a.1 ∙ sym b.1
comes_one s zero (suc n) recorded taken first second a (inr b) = let e = a.0 in let l = b.0 in absurd (omega (arith, e, l))
comes_one s (suc m) zero recorded taken first second (inl a) b = a.1 ∙ sym b.1
comes_one s (suc m) zero recorded taken first second (inr a) b = let e = b.0 in let l = a.0 in absurd (omega (arith, e, l))
comes_one s (suc m) (suc n) recorded taken first second (inl a) (inl b) = a.1 ∙ sym b.1
comes_one s (suc m) (suc n) recorded taken first second (inl a) (inr b) = let e = a.0 in let l = b.0 in absurd (omega (arith, e, l))
comes_one s (suc m) (suc n) recorded taken first second (inr a) (inl b) = let e = b.0 in let l = a.0 in absurd (omega (arith, e, l))
comes_one s (suc m) (suc n) recorded taken first second (inr a) (inr b) =
    continues_one (λ more. ComesTo s m more (min (taken + batch) (length recorded)) first)
    (λ more. ComesTo s n more (min (taken + batch) (length recorded)) second) first second
    (λ more p q. comes_one s m n more (min (taken + batch) (length recorded)) first second p q) b.1
    (subst (λ walk. Continues (λ more. ComesTo s m more (min (taken + batch) (length recorded)) first) walk first)
    (one_round s recorded (next_candidates s.rules recorded taken) a.1 b.1 a.2 b.2) a.3) b.3

-- the search has one outcome
pub one_outcome : (s : Search) (first second : Outcome) → IsOutcome s first → IsOutcome s second → first ≡ second
one_outcome s first second a b =
    continues_one (λ recorded. ComesTo s a.rounds recorded 0 first) (λ recorded. ComesTo s b.rounds recorded 0 second) first second
    (λ recorded p q. comes_one s a.rounds b.rounds recorded 0 first second p q) b.walk
    (subst (λ walk. Continues (λ recorded. ComesTo s a.rounds recorded 0 first) walk first)
    (one_round s [] (goal_candidates s.rules s.goal) a.walk b.walk a.first b.first) a.rest) b.rest
