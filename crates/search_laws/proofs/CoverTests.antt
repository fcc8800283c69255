-- Tests by which it is computed that a requirement doesn't cover another, and which candidates stay.
use Rattle.std.proofs.Common.{ℕ, zero, suc, ◌≡◌, ◌<◌, ◌+◌, ◌∙◌, Bool, true, false, ◌||◌, ◌&&◌, not, eqb, List, [], ◌∷◌, Some, length}
use Rattle.std.proofs.Common.{refl, sym, subst, inl, inr, arith}
use Rattle.std.specs.Prelude.{◌⊎◌, nat_lt, slice_get}
use Rattle.std.proofs.lemmas.Bool.{eqb-true, ltb-true}
use Rattle.list_words.specs.Lists.{Each, IsOneOf}
use Rattle.list_words.proofs.CountLemmas.{cut, embeds_long}
use Rattle.list_words.proofs.EachLemmas.{each_at}
use Rattle.list_words.proofs.EmbedLemmas.{embeds_none}
use Rattle.list_words.proofs.GetLemmas.{same_some}
use Rattle.list_words.proofs.TestLemmas.{and_both, not_true, or_cases}
use Rattle.arbac_laws.specs.Needs.{Covers, CoversNeed, IsCovered, Need}
use Rattle.arbac_laws.specs.Recorded.{Entry}
use Rattle.arbac_laws.proofs.SameLemmas.{covers_of_test, covers_test, test_of_covers}
use Rattle.search_laws.specs.Beats.{AreUnbeaten, Beats, IsUnbeaten}
use Rattle.search_laws.proofs.BeatLemmas.{never_beats}
use Rattle.search_laws.proofs.DecideLemmas.{embeds_put}

-- the user covers none of these
abbrev pub goes_nowhere : Need → List Need → Bool
goes_nowhere x [] = true
goes_nowhere x (y ∷ ys) = not (covers_test x y) && goes_nowhere x ys

-- some user covers none of these
abbrev pub leaves_one : List Need → List Need → Bool
leaves_one [] ys = false
leaves_one (x ∷ xs) ys = goes_nowhere x ys || leaves_one xs ys

-- it has more users, or one of them covers none of the other's
abbrev pub covers_never : List Need → List Need → Bool
covers_never xs ys = nat_lt (length ys) (length xs) || leaves_one xs ys

-- none of the list covers the requirement
abbrev pub all_never : List (List Need) → List Need → Bool
all_never [] needs = true
all_never (one ∷ list) needs = covers_never one needs && all_never list needs

-- no user of the list is covered by one who goes nowhere
pub nowhere : (x : Need) (ys : List Need) → goes_nowhere x ys ≡ true → (k : ℕ) (y : Need) → slice_get ys k ≡ Some y → CoversNeed x y → ⊥
nowhere x [] t k y at h = cc
nowhere x (z ∷ ys) t zero y at h =
    let at' : Some z ≡ Some y = at in
    not_true (covers_test x z) (and_both (not (covers_test x z)) (goes_nowhere x ys) t).0
    (test_of_covers x z (subst (CoversNeed x) (sym (same_some z y at')) h))
nowhere x (z ∷ ys) t (suc k) y at h = nowhere x ys (and_both (not (covers_test x z)) (goes_nowhere x ys) t).1 k y at h

-- where one is left, it stands at a place
pub left_at : (xs ys : List Need) → leaves_one xs ys ≡ true → (k : ℕ) × (x : Need) × (slice_get xs k ≡ Some x) × (goes_nowhere x ys ≡ true)
left_at [] ys t = cc
left_at (x ∷ xs) ys t = by_case (or_cases (goes_nowhere x ys) (leaves_one xs ys) t) (left_at xs ys)
  where
    Left : List Need → Type 0
    Left list = (k : ℕ) × (y : Need) × (slice_get list k ≡ Some y) × (goes_nowhere y ys ≡ true)

    by_case : (goes_nowhere x ys ≡ true) ⊎ (leaves_one xs ys ≡ true) → (leaves_one xs ys ≡ true → Left xs) → Left (x ∷ xs)
    by_case (inl e) rest = (0, x, refl, e)
    by_case (inr e) rest = let one = rest e in (suc one.0, one.1, one.2, one.3)

-- what passes the test doesn't cover
pub never_covers : (xs ys : List Need) → covers_never xs ys ≡ true → Covers xs ys → ⊥
never_covers xs ys t f = by_case (or_cases (nat_lt (length ys) (length xs)) (leaves_one xs ys) t)
  where
    by_case : (nat_lt (length ys) (length xs) ≡ true) ⊎ (leaves_one xs ys ≡ true) → ⊥
    by_case (inl e) =
        let more = ltb-true (length ys) (length xs) e in let long = embeds_long CoversNeed xs ys f in omega (arith, more, long)
    by_case (inr e) =
        let one = left_at xs ys e in let there = f.each one.0 one.1 one.2 in nowhere one.1 ys one.3 (f.to one.0) there.0 there.1 there.2

-- nor does a list whose requirements all pass it
pub never_covered : (list : List (List Need)) (needs : List Need) → all_never list needs ≡ true → ¬ IsCovered list needs
never_covered [] needs t h = h
never_covered (one ∷ list) needs t (inl f) = never_covers one needs (and_both (covers_never one needs) (all_never list needs) t).0 f
never_covered (one ∷ list) needs t (inr h) = never_covered list needs (and_both (covers_never one needs) (all_never list needs) t).1 h

-- a user covers one of these, at some place
pub goes_somewhere : (x : Need) (ys : List Need) → goes_nowhere x ys ≡ false → Covers (x ∷ []) ys
goes_somewhere x ys t =
    let one = place ys t in embeds_put CoversNeed x [] ys one.0 one.1 one.2 one.3 (embeds_none CoversNeed (cut one.0 ys))
  where
    Gone : List Need → Type 0
    Gone list = (k : ℕ) × (y : Need) × (slice_get list k ≡ Some y) × CoversNeed x y

    place : (list : List Need) → goes_nowhere x list ≡ false → Gone list
    place [] t = cc
    place (y ∷ list) t = by_test (covers_test x y) refl t (place list)
      where
        by_test : (s : Bool) → covers_test x y ≡ s → (not s && goes_nowhere x list) ≡ false → (goes_nowhere x list ≡ false → Gone list)
            → Gone (y ∷ list)
        by_test true e t rest = (0, y, refl, covers_of_test x y e)
        by_test false e t rest = let one = rest t in (suc one.0, one.1, one.2, one.3)

-- candidates

-- counted from `from`, none of the candidates covers the requirement, but for the one at the place
abbrev pub others_never : ℕ → List Entry → ℕ → List Need → Bool
others_never from [] place needs = true
others_never from (entry ∷ entries) place needs =
    (eqb from place || covers_never entry.needs needs) && others_never (suc from) entries place needs

-- so whatever covers it stands at that place
pub covers_itself_alone : (candidates : List Entry) (from place : ℕ) (needs : List Need) → others_never from candidates place needs ≡ true
    → (i : ℕ) (entry : Entry) → slice_get candidates i ≡ Some entry → Covers entry.needs needs → from + i ≡ place
covers_itself_alone [] from place needs t i entry at f = cc
covers_itself_alone (x ∷ rest) from place needs t zero entry at f =
    by_case (or_cases (eqb from place) (covers_never x.needs needs)
    (and_both (eqb from place || covers_never x.needs needs) (others_never (suc from) rest place needs) t).0)
  where
    by_case : (eqb from place ≡ true) ⊎ (covers_never x.needs needs ≡ true) → from + 0 ≡ place
    by_case (inl e) = let same = eqb-true from place e in omega (arith, same)
    by_case (inr e) =
        let at' : Some x ≡ Some entry = at in
        absurd (never_covers x.needs needs e (subst (λ (v : Entry). Covers v.needs needs) (sym (same_some x entry at')) f))
covers_itself_alone (x ∷ rest) from place needs t (suc i) entry at f =
    let later = covers_itself_alone rest (suc from) place needs
    (and_both (eqb from place || covers_never x.needs needs) (others_never (suc from) rest place needs) t).1 i entry at f in
    omega (arith, later)

-- a new candidate whom no other covers is unbeaten
pub unbeaten_by : (known : List (List Need)) (candidates : List Entry) (place : ℕ) (entry : Entry) → slice_get candidates place ≡ Some entry
    → all_never known entry.needs ≡ true → others_never 0 candidates place entry.needs ≡ true → IsUnbeaten known candidates place entry
unbeaten_by known candidates place entry at new alone = record { at = at; new = never_covered known entry.needs new; unbeaten = none }
  where
    none : (other : ℕ) → Beats candidates other place → ⊥
    none other b =
        let same : b.beaten ≡ entry = same_some b.beaten entry (sym b.beaten_is ∙ at) in
        let here = covers_itself_alone candidates 0 place entry.needs alone other b.by b.by_is
        (subst (λ (v : Entry). Covers b.by.needs v.needs) same b.covers) in
        let e : other ≡ place = omega (arith, here) in
        never_beats candidates place (subst (λ k. Beats candidates k place) e b)

-- the first candidate stays alone where it covers all others, which don't cover it or are the same requirement
pub first_unbeaten : (known : List (List Need)) (first : Entry) (rest : List Entry) → ¬ IsCovered known first.needs
    → Each (λ (entry : Entry). Covers first.needs entry.needs) rest
    → Each (λ (entry : Entry). (first.needs ≡ entry.needs) ⊎ (covers_never entry.needs first.needs ≡ true)) rest
    → AreUnbeaten known (first ∷ rest) (first ∷ [])
first_unbeaten known first rest new covers back = record {
  rising = (tt, tt);
  each = ((0, record { at = refl; new = new; unbeaten = none }), tt);
  all = all;
}
  where
    by_back : (i : ℕ) (x y : Entry) → (x.needs ≡ y.needs) ⊎ (covers_never y.needs x.needs ≡ true) → Covers y.needs x.needs
        → ¬ (y.needs ≡ x.needs) ⊎ (suc i < 0) → ⊥
    by_back i x y (inl e) f (inl n) = n (sym e)
    by_back i x y (inr e) f (inl n) = never_covers y.needs x.needs e f
    by_back i x y k f (inr l) = omega (arith, l)

    none : (place : ℕ) → Beats (first ∷ rest) place 0 → ⊥
    none zero b = never_beats (first ∷ rest) 0 b
    none (suc i) b =
        let first_is : Some b.beaten ≡ Some first = sym b.beaten_is in
        let same : b.beaten ≡ first = same_some b.beaten first first_is in
        by_back i b.beaten b.by
        (subst (λ (v : Entry). (v.needs ≡ b.by.needs) ⊎ (covers_never b.by.needs v.needs ≡ true)) (sym same)
        (each_at (λ (entry : Entry). (first.needs ≡ entry.needs) ⊎ (covers_never entry.needs first.needs ≡ true)) rest i b.by back b.by_is))
        b.covers b.apart

    all : (place : ℕ) (entry : Entry) → IsUnbeaten known (first ∷ rest) place entry → IsOneOf (first ∷ []) entry
    all zero entry u = (0, u.at)
    all (suc i) entry u = absurd (u.unbeaten 0 (record {
      by = first;
      by_is = refl;
      beaten = entry;
      beaten_is = u.at;
      covers = each_at (λ (entry : Entry). Covers first.needs entry.needs) rest i entry covers u.at;
      apart = inr (omega arith);
    }))

-- a candidate that is covered already doesn't stay
pub covered_beaten : (known : List (List Need)) (entry : Entry) → IsCovered known entry.needs → AreUnbeaten known (entry ∷ []) []
covered_beaten known entry covered = record { rising = tt; each = tt; all = all }
  where
    all : (place : ℕ) (other : Entry) → IsUnbeaten known (entry ∷ []) place other → IsOneOf [] other
    all zero other u =
        let at : Some entry ≡ Some other = u.at in
        absurd (u.new (subst (λ (v : Entry). IsCovered known v.needs) (same_some entry other at) covered))
    all (suc place) other u = let at = u.at in cc
