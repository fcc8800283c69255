-- Choices that are drawn so far, and what one more place makes of them.
use Rattle.std.proofs.lemmas.Bool.{eqb-true}
use Rattle.std.proofs.lemmas.Bool.Decides.{nat_tests}
use Rattle.std.proofs.lemmas.Grind.{get_or-set_at}
use Rattle.std.proofs.lemmas.List.{get_or-replicate, get_or-set_other, take-take}
use Rattle.std.proofs.Common.{ℕ, ◌≡◌, ◌<◌, ◌≤◌, ◌+◌, ◌-◌, Bool, true, false, eqb, ltb, List, [], ◌∷◌, ◌++◌, length}
use Rattle.std.proofs.Common.{length-take, take, get_or, refl, arith, zero, suc, sym, subst, ap, ◌∙◌, inl, inr, Option, Some, None}
use Rattle.std.specs.Prelude.{slice_get, slice_set, replicate, ◌⊎◌, ◌==◌, if◌then◌else◌}
use Rattle.list_words.proofs.GetLemmas.{get_last_cases, get_take, get_taken, take_one_more}
use Rattle.list_words.proofs.NumberLemmas.{compare}
use Rattle.arbac_policy.specs.declared.profile.Profile.{Profile}
use Rattle.arbac_policy.specs.Goals.{times, IsDrawnChoice}
use Rattle.profile_set.specs.Draws.{IsSpent, IsSpentAt, AreProfiles, AreFew, is_below, has_left}

times_last : (number : ℕ) (xs : List ℕ) (x : ℕ) → times number (xs ++ x ∷ []) ≡ times number xs + (if x == number then 1 else 0)
times_last number [] x = omega arith
times_last number (y ∷ ys) x = rw (times_last number ys x) (omega arith)

-- the count up to a place and with it
times_more : (number : ℕ) (xs : List ℕ) (i x : ℕ) → slice_get xs i ≡ Some x
    → times number (take (i + 1) xs) ≡ times number (take i xs) + (if x == number then 1 else 0)
times_more number xs i x e = ap (times number) (take_one_more xs i x e) ∙ times_last number (take i xs) x

times_here : (number : ℕ) (xs : List ℕ) (i x : ℕ) → slice_get xs i ≡ Some x → x ≡ number
    → times number (take (i + 1) xs) ≡ times number (take i xs) + 1
times_here number xs i x e same =
    let test : eqb x number ≡ true = grind (arith, nat_tests) in
    times_more number xs i x e ∙ ap (λ t. times number (take i xs) + (if t then 1 else 0)) test

times_other : (number : ℕ) (xs : List ℕ) (i x : ℕ) → slice_get xs i ≡ Some x → (x ≡ number → ⊥)
    → times number (take (i + 1) xs) ≡ times number (take i xs)
times_other number xs i x e other =
    let test : eqb x number ≡ false = grind (arith, nat_tests, other) in
    times_more number xs i x e ∙ ap (λ t. times number (take i xs) + (if t then 1 else 0)) test ∙ omega arith

-- a number at a place stands once more in the whole than before the place
times_past : (xs : List ℕ) (i x : ℕ) → slice_get xs i ≡ Some x → times x (take i xs) + 1 ≤ times x xs
times_past [] i x e = cc
times_past (y ∷ ys) zero x e = let same : y ≡ x = cc in let one : eqb y x ≡ true = grind (arith, nat_tests) in rw one (omega arith)
times_past (y ∷ ys) (suc i) x e = let r = times_past ys i x e in omega (arith, r)

-- no more of a number stand before a place than there are places
pub times_few : (number : ℕ) (xs : List ℕ) (i : ℕ) → times number (take i xs) ≤ i
times_few number xs zero = omega arith
times_few number [] (suc i) = omega arith
times_few number (x ∷ xs) (suc i) = let r = times_few number xs i in by_test (eqb x number) r
  where
    by_test : (t : Bool) → times number (take i xs) ≤ i → (if t then 1 else 0) + times number (take i xs) ≤ suc i
    by_test true r = omega (arith, r)
    by_test false r = omega (arith, r)

-- nor more than in the whole
times_taken : (number : ℕ) (xs : List ℕ) (i : ℕ) → times number (take i xs) ≤ times number xs
times_taken number xs zero = omega arith
times_taken number [] (suc i) = omega arith
times_taken number (x ∷ xs) (suc i) = let r = times_taken number xs i in omega (arith, r)

pub profiles_more : (profiles : List Profile) (xs : List ℕ) (i x : ℕ) → slice_get xs i ≡ Some x → AreProfiles profiles (take i xs)
    → x < length profiles → AreProfiles profiles (take (i + 1) xs)
profiles_more profiles xs i x e are less k number at =
    by_place (get_last_cases (take i xs) x number k (subst (λ ys. slice_get ys k ≡ Some number) (take_one_more xs i x e) at))
  where
    by_place : (slice_get (take i xs) k ≡ Some number) ⊎ ((k ≡ length (take i xs)) × (x ≡ number)) → number < length profiles
    by_place (inl h) = are k number h
    by_place (inr h) = subst (λ n. n < length profiles) h.1 less

-- for each number of the block that begins here the list has how often it stands in the choice
abbrev pub AreUses : ℕ → List ℕ → List ℕ → Type 0
AreUses from choice used = (i : ℕ) → i < 1024 → get_or used i 0 ≡ times (from + i) choice

pub uses_none : (from : ℕ) → AreUses from [] (replicate 1024 0)
uses_none from i l = get_or-replicate 1024 i 0 0 l

-- what the list has for a number of the block
pub used_of : (from : ℕ) (xs : List ℕ) (x : ℕ) (used : List ℕ) → from ≤ x → x - from < 1024 → AreUses from xs used
    → get_or used (x - from) 0 ≡ times x xs
used_of from xs x used low high are = let n : from + (x - from) ≡ x = omega arith in are (x - from) high ∙ ap (λ k. times k xs) n

pub uses_here : (from : ℕ) (xs : List ℕ) (i x : ℕ) (used : List ℕ) → slice_get xs i ≡ Some x → from ≤ x → x - from < 1024
    → length used ≡ 1024
    → AreUses from (take i xs) used → AreUses from (take (i + 1) xs) (slice_set used (x - from) (get_or used (x - from) 0 + 1))
uses_here from xs i x used e low high long are j l = by_place (compare j (x - from))
  where
    other : (from + j ≡ x → ⊥) → (j ≡ x - from → ⊥) → get_or (slice_set used (x - from) (get_or used (x - from) 0 + 1)) j 0 ≡ times (from + j)
        (take (i + 1) xs)
    other n m = get_or-set_other used (x - from) j (get_or used (x - from) 0 + 1) 0 m ∙ are j l ∙ sym (times_other (from + j) xs i x e (λ s. n (sym s)))

    by_place : (j < x - from) ⊎ ((j ≡ x - from) ⊎ (x - from < j))
        → get_or (slice_set used (x - from) (get_or used (x - from) 0 + 1)) j 0 ≡ times (from + j) (take (i + 1) xs)
    by_place (inl h) = other (λ s. omega arith) (λ s. omega arith)
    by_place (inr (inl h)) =
        get_or-set_at used (x - from) j (get_or used (x - from) 0 + 1) 0 h (omega arith)
        ∙ ap (λ n. n + 1) (ap (λ k. get_or used k 0) (sym h) ∙ are j l)
        ∙ sym (times_here (from + j) xs i x e (omega arith))
    by_place (inr (inr h)) = other (λ s. omega arith) (λ s. omega arith)

-- a number outside of the block
pub uses_other : (from : ℕ) (xs : List ℕ) (i x : ℕ) (used : List ℕ) → slice_get xs i ≡ Some x
    → ((j : ℕ) → j < 1024 → from + j ≡ x → ⊥)
    → AreUses from (take i xs) used → AreUses from (take (i + 1) xs) used
uses_other from xs i x used e out are j l = are j l ∙ sym (times_other (from + j) xs i x e (λ s. out j l (sym s)))

pub few_none : (profiles : List Profile) (from to : ℕ) → AreFew profiles from to []
few_none profiles from to number profile most low high at m = omega arith

pub few_other : (profiles : List Profile) (from to : ℕ) (xs : List ℕ) (i x : ℕ) → slice_get xs i ≡ Some x → (from ≤ x → x < to → ⊥)
    → AreFew profiles from to (take i xs) → AreFew profiles from to (take (i + 1) xs)
few_other profiles from to xs i x e out few number profile most low high at m =
    let count = times_other number xs i x e (λ s. out (omega arith) (omega arith)) in
    let before = few number profile most low high at m in omega (arith, count, before)

left_below : (profile : Profile) (most used : ℕ) → profile.most ≡ Some most → has_left (Some profile) used ≡ true → used < most
left_below profile most used e h = let below : ltb used most ≡ true = ap (λ o. is_below o used) (sym e) ∙ h in grind (arith, nat_tests)

-- a number of which something is left
pub few_here : (profiles : List Profile) (from to : ℕ) (xs : List ℕ) (i x : ℕ) → slice_get xs i ≡ Some x
    → has_left (slice_get profiles x) (times x (take i xs)) ≡ true → AreFew profiles from to (take i xs) → AreFew profiles from to (take (i + 1) xs)
few_here profiles from to xs i x e left few number profile most low high at m = by_test (eqb x number) refl
  where
    by_test : (t : Bool) → eqb x number ≡ t → times number (take (i + 1) xs) ≤ most
    by_test true t =
        let same : x ≡ number = eqb-true x number t in
        let count = times_here number xs i x e same in
        let here : has_left (slice_get profiles number) (times number (take i xs)) ≡ true =
        subst (λ n. has_left (slice_get profiles n) (times n (take i xs)) ≡ true) same left in
        let below = left_below profile most (times number (take i xs)) m (ap (λ o. has_left o (times number (take i xs))) (sym at) ∙ here) in
        omega (arith, count, below)
    by_test false t =
        let count = times_other number xs i x e (λ s. grind (arith, nat_tests)) in
        let before = few number profile most low high at m in omega (arith, count, before)

spent_of : (profiles : List Profile) (number used : ℕ) (o : Option Profile) → slice_get profiles number ≡ o → has_left o used ≡ false
    → IsSpent profiles number used
spent_of profiles number used None e h = inl e
spent_of profiles number used (Some profile) e h = by_most profile.most refl
  where
    by_most : (m : Option ℕ) → profile.most ≡ m → IsSpent profiles number used
    by_most None m = let no : true ≡ false = ap (λ o. is_below o used) (sym m) ∙ h in cc
    by_most (Some most) m =
        let past : ltb used most ≡ false = ap (λ o. is_below o used) (sym m) ∙ h in
        inr (profile, most, e, m, grind (arith, nat_tests))

pub spent_at : (profiles : List Profile) (xs : List ℕ) (i x : ℕ) → slice_get xs i ≡ Some x
    → has_left (slice_get profiles x) (times x (take i xs)) ≡ false
    → IsSpentAt profiles xs i
spent_at profiles xs i x e h = (x, e, spent_of profiles x (times x (take i xs)) (slice_get profiles x) refl h)

-- what is spent in the front of a choice is spent in the choice
pub spent_taken : (profiles : List Profile) (xs : List ℕ) (n i : ℕ) → i < n → IsSpentAt profiles (take n xs) i → IsSpentAt profiles xs i
spent_taken profiles xs n i l h = (
  h.0,
  sym (get_take xs n i l) ∙ h.1,
  subst (λ ys. IsSpent profiles h.0 (times h.0 ys)) (take-take i n xs (omega arith)) h.2,
)

-- no choice is drawn where nothing is left of a number at a place of it
pub spent_refused : (profiles : List Profile) (xs : List ℕ) (i : ℕ) → IsSpentAt profiles xs i → IsDrawnChoice profiles xs → ⊥
spent_refused profiles xs i (x, e, inl none) drawn = let p = drawn.places i x e in let no : None ≡ Some p.0 = sym none ∙ p.1 in cc
spent_refused profiles xs i (x, e, inr (profile, most, at, m, past)) drawn =
    let few = drawn.few x profile most at m in let more = times_past xs i x e in absurd (omega (arith, few, more, past))

-- before the place stand profiles alone, none of the first so many beyond its count, and at it nothing is left
pub record IsDrawnBelow (profiles : List Profile) (count : ℕ) (xs : List ℕ) (place : ℕ) : Type 0 where
  pub within : place ≤ length xs
  pub profiles_are : AreProfiles profiles (take place xs)
  pub few : AreFew profiles 0 count (take place xs)
  pub spent : place < length xs → IsSpentAt profiles xs place

-- one block more, counted in the front of the choice
pub block_more : (profiles : List Profile) (from to : ℕ) (xs : List ℕ) (end next : ℕ) → IsDrawnBelow profiles from xs end
    → next ≤ length (take end xs)
    → AreFew profiles from to (take next (take end xs)) → (next < length (take end xs) → IsSpentAt profiles (take end xs) next)
    → IsDrawnBelow profiles to xs next
block_more profiles from to xs end next so within few spent = record {
  within = omega (arith, ends, so.within);
  profiles_are = λ k number e. let taken = get_taken xs next k number e in
      so.profiles_are k number (get_take xs end k (omega (arith, ends, taken.0)) ∙ taken.1);
  few = λ number profile most low high at m. by_block number profile most (compare number from) high at m;
  spent = λ l. by_end (compare next end) l;
}
  where
    ends : next ≤ end
    ends = let long = length-take end xs in omega (arith, long, within)

    front : take next (take end xs) ≡ take next xs
    front = take-take next end xs ends

    by_block : (number : ℕ) (profile : Profile) (most : ℕ) → (number < from) ⊎ ((number ≡ from) ⊎ (from < number)) → number < to
        → slice_get profiles number ≡ Some profile → profile.most ≡ Some most → times number (take next xs) ≤ most
    by_block number profile most (inl l) high at m =
        let before = so.few number profile most (omega arith) l at m in
        let taken = times_taken number (take end xs) next in
        let same = ap (times number) front in omega (arith, before, taken, same)
    by_block number profile most (inr l) high at m = let here = few number profile most (omega arith) high at m in rw (← front) here

    by_end : (next < end) ⊎ ((next ≡ end) ⊎ (end < next)) → next < length xs → IsSpentAt profiles xs next
    by_end (inl l) less = let long = length-take end xs in spent_taken profiles xs end next l (spent (omega (arith, long, so.within)))
    by_end (inr (inl e)) less = subst (IsSpentAt profiles xs) (sym e) (so.spent (subst (λ n. n < length xs) e less))
    by_end (inr (inr l)) less = absurd (omega (arith, l, ends))
