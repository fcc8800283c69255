-- Steps of loops over names.
use Rattle.std.proofs.Common.{ℕ, ◌≡◌, ◌+◌, ◌<◌, ◌≤◌, Bool, true, false, cond, List, [], ◌∷◌, ◌++◌, length, get_or, take, drop}
use Rattle.std.proofs.Common.{refl, arith, zero, suc, ap, sym, ◌∙◌, Some, None, subst, inl, inr}
use Rattle.std.specs.Prelude.{String, Option, slice_get, position, not, nat_lt, ◌⊎◌, All, Contains}
use Rattle.std.specs.Cmp.{IsStrictWeakOrder}
use Rattle.std.specs.Cmp.Lexicographic.{slice_cmp}
use Rattle.std.specs.List.Sorted.{IsPermutation, IsSortedBy, IsNonDecreasingBy, IsPartitionPoint}
use Rattle.std.specs.Ordering.{is_lt, is_eq, nat_cmp, ordering_index}
use Rattle.std.specs.declared.cmp.Ordering.TheVariants.{Less, Equal, Greater}
use Rattle.std.specs.List.{prefix_len}
use Rattle.std.specs.Str.{bytes_eq}
use Rattle.std.specs.String.{string_bytes}
use Rattle.std.specs.declared.alloc.Global.{Global}
use Rattle.std.proofs.lemmas.Bool.{false≢true}
use Rattle.std.proofs.lemmas.Cmp.{nat_list_cmp_total}
use Rattle.std.proofs.lemmas.List.Elements.{All-push, All-weaker, Contains-push, Contains-append_left}
use Rattle.std.proofs.lemmas.List.Quantifiers.{position-Some}
use Rattle.std.proofs.lemmas.List.Sorted.{ranks_by, searchable_from_sorted, All-permutation, Contains-permutation}
use Rattle.std.proofs.lemmas.Map.Text.{is_eq-slice_cmp}
use Rattle.role_order.specs.Names.{texts, place_of, name_at, IsNameTable}
use Rattle.list_words.proofs.NumberLemmas.{cases_eq, compare}
use Rattle.list_words.specs.Lists.{AreDifferent}
use Rattle.list_words.proofs.GetLemmas.{get_at, get_last_cases, take_one_more}
use Rattle.std.proofs.lemmas.Bool.Decides.{nat_tests}
use Rattle.std.proofs.lemmas.Slice.Eq.{bytes_eq-Decides}

pub length_texts : (ss : List (String Global)) → length (texts ss) ≡ length ss
length_texts [] = refl
length_texts (s ∷ ss) = ap suc (length_texts ss)

pub texts_read : (ss : List (String Global)) (i : ℕ) (s : String Global) → i < length ss → s ≡ get_or ss i s
    → drop i (texts ss) ≡ string_bytes s ∷ drop (i + 1) (texts ss)
texts_read [] i s h e = absurd (omega arith)
texts_read (x ∷ ss) zero s h e = let same : s ≡ x = e in rw same
texts_read (x ∷ ss) (suc i) s h e = let n : suc i + 1 ≡ suc (i + 1) = omega arith in rw n (texts_read ss i s (omega arith) e)

pub texts_end : (ss : List (String Global)) (i : ℕ) → length ss ≤ i → drop i (texts ss) ≡ []
texts_end [] zero h = refl
texts_end [] (suc i) h = refl
texts_end (x ∷ ss) zero h = absurd (omega arith)
texts_end (x ∷ ss) (suc i) h = texts_end ss i (omega arith)

pub texts-take : (ss : List (String Global)) (i : ℕ) → texts (take i ss) ≡ take i (texts ss)
texts-take ss zero = refl
texts-take [] (suc i) = refl
texts-take (s ∷ ss) (suc i) = ap (λ t. string_bytes s ∷ t) (texts-take ss i)

pub slice_get_texts : (ss : List (String Global)) (i : ℕ) (s : String Global) → i < length ss → s ≡ get_or ss i s
    → slice_get (texts ss) i ≡ Some (string_bytes s)
slice_get_texts [] i s h e = absurd (omega arith)
slice_get_texts (x ∷ ss) zero s h e = let same : s ≡ x = e in rw same
slice_get_texts (x ∷ ss) (suc i) s h e = slice_get_texts ss i s (omega arith) e

pub get_texts_of : (ss : List (String Global)) (i : ℕ) (text : List ℕ) → slice_get (texts ss) i ≡ Some text → i < length ss
get_texts_of [] i text e = cc
get_texts_of (s ∷ ss) zero text e = omega arith
get_texts_of (s ∷ ss) (suc i) text e = omega (arith, get_texts_of ss i text e)

prefix-texts : (text : List ℕ) (ss : List (String Global)) → prefix_len (λ s. not (bytes_eq (string_bytes s) text)) ss ≡ prefix_len
    (λ s. not (bytes_eq s text)) (texts ss)
prefix-texts text [] = refl
prefix-texts text (s ∷ ss) =
    elim (bytes_eq (string_bytes s) text) as (λ t. cond (not t) (1 + prefix_len (λ s. not (bytes_eq (string_bytes s) text)) ss) 0 ≡ cond (not t)
    (1 + prefix_len (λ s. not (bytes_eq s text)) (texts ss)) 0)
    [ true ↦ refl | false ↦ ap (λ n. 1 + n) (prefix-texts text ss) ]

-- a place is found among strings as it is among their texts
pub position-texts : (text : List ℕ) (ss : List (String Global)) → position (λ s. bytes_eq (string_bytes s) text) ss ≡ place_of (texts ss) text
position-texts text ss = rw (prefix-texts text ss, length_texts ss) refl

pub texts-push : (ss : List (String Global)) (s : String Global) → texts (ss ++ s ∷ []) ≡ texts ss ++ string_bytes s ∷ []
texts-push [] s = refl
texts-push (x ∷ ss) s = ap (λ t. string_bytes x ∷ t) (texts-push ss s)

bytes_eq-same : (text : List ℕ) → bytes_eq text text ≡ true
bytes_eq-same text = (bytes_eq-Decides text text).1 refl

none_of : (text : List ℕ) (names : List (List ℕ)) (k : ℕ) → place_of names text ≡ None → slice_get names k ≡ Some text → ⊥
none_of text names k none at =
    past (prefix_len (λ name. not (bytes_eq name text)) names)
    (nat_lt (prefix_len (λ name. not (bytes_eq name text)) names) (length names)) refl none (found names k at)
  where
    found : (names : List (List ℕ)) (k : ℕ) → slice_get names k ≡ Some text → prefix_len (λ name. not (bytes_eq name text)) names < length names
    found [] k at = cc
    found (n ∷ ns) zero at = let same : n ≡ text = cc in rw (same, bytes_eq-same text) (omega arith)
    found (n ∷ ns) (suc k) at =
        elim (bytes_eq n text) as
        (λ t. cond (not t) (1 + prefix_len (λ name. not (bytes_eq name text)) ns) 0 < suc (length ns)) [
          | true ↦ omega arith
          | false ↦ omega (arith, found ns k at)
        ]

    past : (n : ℕ) (t : Bool) → nat_lt n (length names) ≡ t → cond t (Some n) None ≡ None → n < length names → ⊥
    past n true t e l = cc
    past n false t e l = absurd (grind (arith, nat_tests))

-- names that differ, with one more that isn't among them
pub different_more : (names : List (List ℕ)) (i : ℕ) (name : List ℕ) → slice_get names i ≡ Some name → AreDifferent (take i names)
    → place_of (take i names) name ≡ None → AreDifferent (take (i + 1) names)
different_more names i name at before none j k text ej ek =
    by_places (get_last_cases (take i names) name text j (subst (λ t. slice_get t j ≡ Some text) (take_one_more names i name at) ej))
    (get_last_cases (take i names) name text k (subst (λ t. slice_get t k ≡ Some text) (take_one_more names i name at) ek))
  where
    by_places : (slice_get (take i names) j ≡ Some text) ⊎ ((j ≡ length (take i names)) × (name ≡ text)) → (slice_get (take i names) k ≡ Some text)
        ⊎ ((k ≡ length (take i names)) × (name ≡ text)) → j ≡ k
    by_places (inl a) (inl b) = before j k text a b
    by_places (inl a) (inr b) = absurd (none_of name (take i names) j none (subst (λ t. slice_get (take i names) j ≡ Some t) (sym b.1) a))
    by_places (inr a) (inl b) = absurd (none_of name (take i names) k none (subst (λ t. slice_get (take i names) k ≡ Some t) (sym a.1) b))
    by_places (inr a) (inr b) = a.0 ∙ sym b.0

-- ---- a name by its number

-- the name of a number is that of the string there
pub name_at-texts : (ss : List (String Global)) (k : ℕ) (s : String Global) → k < length ss → s ≡ get_or ss k s
    → string_bytes s ≡ name_at (texts ss) k
name_at-texts [] k s l e = absurd (omega arith)
name_at-texts (x ∷ ss) zero s l e = let same : s ≡ x = e in rw same refl
name_at-texts (x ∷ ss) (suc k) s l e = name_at-texts ss k s (omega arith) e

pub name_at-past : (ss : List (String Global)) (k : ℕ) → length ss ≤ k → [] ≡ name_at (texts ss) k
name_at-past [] k l = refl
name_at-past (x ∷ ss) zero l = absurd (omega arith)
name_at-past (x ∷ ss) (suc k) l = name_at-past ss k (omega arith)

-- of names that differ, the one that equals a text is the first that does
pub place_of-found : (names : List (List ℕ)) (role : ℕ) (text : List ℕ) → AreDifferent names → role < length names
    → bytes_eq (name_at names role) text ≡ true
    → place_of names text ≡ Some role
place_of-found names role text different within equal = by_place (place_of names text) refl
  where
    is_text : (k : ℕ) → bytes_eq (name_at names k) text ≡ true → name_at names k ≡ text
    is_text k e = (bytes_eq-Decides (name_at names k) text).0 e

    by_place : (r : Option ℕ) → place_of names text ≡ r → place_of names text ≡ Some role
    by_place None e = absurd (none_of text names role e (get_at names role [] within ∙ ap Some (is_text role equal)))
    by_place (Some k) e =
        let found = position-Some (λ name. bytes_eq name text) names k [] e in
        let same : k ≡ role = different k role text (get_at names k [] found.0 ∙ ap Some (is_text k found.1))
        (get_at names role [] within ∙ ap Some (is_text role equal)) in
        e ∙ ap Some same

-- a text that no name equals
pub place_of-none : (names : List (List ℕ)) (text : List ℕ) → ((role : ℕ) → role < length names → bytes_eq (name_at names role) text ≡ true → ⊥)
    → place_of names text ≡ None
place_of-none names text none = by_place (place_of names text) refl
  where
    by_place : (r : Option ℕ) → place_of names text ≡ r → place_of names text ≡ None
    by_place None e = e
    by_place (Some k) e = let found = position-Some (λ name. bytes_eq name text) names k [] e in absurd (none k found.0 found.1)

-- ---- the table of numbers

-- numbers below one, each of them, with that one
pub numbers_more : (xs : List ℕ) (n : ℕ) → All (λ role. role < n) xs × ((role : ℕ) → role < n → Contains xs role)
    → All (λ role. role < n + 1) (xs ++ n ∷ []) × ((role : ℕ) → role < n + 1 → Contains (xs ++ n ∷ []) role)
numbers_more xs n all = (
  All-push (λ role. role < n + 1) xs n (All-weaker (λ role. role < n) (λ role. role < n + 1) (λ role l. omega arith) xs all.0) (omega arith),
  λ role l. by_place role l (cases_eq role n),
)
  where
    by_place : (role : ℕ) → role < n + 1 → (role ≡ n) ⊎ (role ≡ n → ⊥) → Contains (xs ++ n ∷ []) role
    by_place role l (inl e) = rw e (Contains-push xs n)
    by_place role l (inr apart) = Contains-append_left xs (n ∷ []) role (all.1 role (compared (compare role n)))
      where
        compared : (role < n) ⊎ ((role ≡ n) ⊎ (n < role)) → role < n
        compared (inl l) = l
        compared (inr (inl e)) = absurd (apart e)
        compared (inr (inr m)) = absurd (omega arith)

-- the order of two numbers by their names
abbrev pub name_less : List (List ℕ) → ℕ → ℕ → Bool
name_less names a b = is_lt (slice_cmp nat_cmp (name_at names a) (name_at names b))

pub name_order : (names : List (List ℕ)) → IsStrictWeakOrder (name_less names)
name_order names = ranks_by nat_list_cmp_total (name_at names)

-- numbers that were sorted by name
pub sorted_table : (names : List (List ℕ)) (numbers table : List ℕ) → All (λ role. role < length names) numbers
    → ((role : ℕ) → role < length names → Contains numbers role)
    → IsPermutation numbers table → IsSortedBy (name_less names) table → IsNameTable names table
sorted_table names numbers table within complete moved sorted = record {
  within = All-permutation (λ role. role < length names) numbers table moved within;
  complete = λ role l. Contains-permutation numbers table role moved (complete role l);
  sorted = sorted;
}

-- a number that the search finds has the text
pub place_of-searched : (names : List (List ℕ)) (table text : List ℕ) (role : ℕ) → AreDifferent names → role < length names
    → slice_cmp nat_cmp (name_at names role) text ≡ Equal → place_of names text ≡ Some role
place_of-searched names table text role different within equal =
    place_of-found names role text different within (sym (is_eq-slice_cmp (name_at names role) text) ∙ ap is_eq equal)

-- where the search finds none, no name is the text
pub place_of-unsearched : (names : List (List ℕ)) (table text : List ℕ) (at : ℕ) → IsNameTable names table
    → (IsNonDecreasingBy (λ role. ordering_index (slice_cmp nat_cmp (name_at names role) text)) table
    → IsPartitionPoint (λ role. slice_cmp nat_cmp (name_at names role) text ≡ Less)
    (λ role. slice_cmp nat_cmp (name_at names role) text ≡ Greater) table at)
    → place_of names text ≡ None
place_of-unsearched names table text at sorted found = place_of-none names text (λ role l equal. by_place role equal (sorted.complete role l))
  where
    parted : IsPartitionPoint (λ role. slice_cmp nat_cmp (name_at names role) text ≡ Less)
        (λ role. slice_cmp nat_cmp (name_at names role) text ≡ Greater) table at
    parted = found (searchable_from_sorted nat_list_cmp_total (name_at names) table text sorted.sorted)

    same : (role : ℕ) → bytes_eq (name_at names role) text ≡ true → is_eq (slice_cmp nat_cmp (name_at names role) text) ≡ true
    same role e = is_eq-slice_cmp (name_at names role) text ∙ e

    by_place : (role : ℕ) → bytes_eq (name_at names role) text ≡ true → Contains table role → ⊥
    by_place role equal (k, l, e) = by_order (compare k at)
      where
        less : k < at → slice_cmp nat_cmp (name_at names role) text ≡ Less
        less m = rw e at (parted.0 k role (omega arith) m)

        greater : at ≤ k → slice_cmp nat_cmp (name_at names role) text ≡ Greater
        greater m = rw e at (parted.1 k role m l)

        by_order : (k < at) ⊎ ((k ≡ at) ⊎ (at < k)) → ⊥
        by_order (inl m) = false≢true (sym (ap is_eq (less m)) ∙ same role equal)
        by_order (inr (inl m)) = false≢true (sym (ap is_eq (greater (omega arith))) ∙ same role equal)
        by_order (inr (inr m)) = false≢true (sym (ap is_eq (greater (omega arith))) ∙ same role equal)
