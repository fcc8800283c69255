-- The places of names that differ, and the map of them, as names come and go.
use Rattle.std.proofs.Common.{ℕ, ◌≡◌, ◌<◌, ◌+◌, ◌^◌, Bool, true, false, cond, List, [], ◌∷◌, ◌++◌, length, get_or}
use Rattle.std.proofs.Common.{refl, arith, sym, ap, subst, ◌∙◌, Some, None, inl, inr}
use Rattle.std.specs.HashMap.{HashMap, get_by_text}
use Rattle.std.specs.Prelude.{String, Option, ◌⊎◌, IfSome, slice_get}
use Rattle.std.specs.Str.{bytes_eq}
use Rattle.std.specs.declared.alloc.Global.{Global}
use Rattle.std.proofs.lemmas.List.Quantifiers.{position-Some}
use Rattle.std.proofs.lemmas.Slice.Eq.{bytes_eq-Decides}
use Rattle.list_words.specs.Lists.{AreDifferent}
use Rattle.list_words.proofs.GetLemmas.{get_at, get_within, get_append, get_last, get_last_cases, length_more}
use Rattle.role_order.specs.Names.{place_of}
use Rattle.role_order.proofs.NameLemmas.{place_of-found, place_of-none}
use Rattle.name_index.specs.Indexed.{IsIndexed}

-- ---- the place of a text

equal_bytes : (name text : List ℕ) → bytes_eq name text ≡ true → name ≡ text
equal_bytes name text e = (bytes_eq-Decides name text).0 e

same_bytes : (text : List ℕ) → bytes_eq text text ≡ true
same_bytes text = (bytes_eq-Decides text text).1 refl

-- the text stands at its place
place_of-there : (names : List (List ℕ)) (text : List ℕ) (place : ℕ) → place_of names text ≡ Some place → slice_get names place ≡ Some text
place_of-there names text place e =
    let found = position-Some (λ name. bytes_eq name text) names place [] e in
    get_at names place [] found.0 ∙ ap Some (equal_bytes (get_or names place []) text found.1)

-- of names that differ, a text has the place where it stands
place_of-here : (names : List (List ℕ)) (text : List ℕ) (place : ℕ) → AreDifferent names → slice_get names place ≡ Some text
    → place_of names text ≡ Some place
place_of-here names text place different at =
    let within = (get_within names place text at).0 in
    let item = get_at names place [] within in
    let same : text ≡ get_or names place [] = cc in
    place_of-found names place text different within (subst (λ t. bytes_eq t text ≡ true) same (same_bytes text))

-- a text that stands nowhere has no place
place_of-nowhere : (names : List (List ℕ)) (text : List ℕ) → ((place : ℕ) → slice_get names place ≡ Some text → ⊥) → place_of names text ≡ None
place_of-nowhere names text nowhere = place_of-none names text (λ place within equal.
    nowhere place (get_at names place [] within ∙ ap Some (equal_bytes (get_or names place []) text equal)))

-- a place that is told is one of the names', and has the text
pub told_place : (names : List (List ℕ)) (text : List ℕ) (told : Option ℕ) → told ≡ place_of names text
    → IfSome told (λ place. place < length names) × IfSome told (λ place. slice_get names place ≡ Some text)
told_place names text None e = (tt, tt)
told_place names text (Some place) e = let at = place_of-there names text place (sym e) in ((get_within names place text at).0, at)

-- ---- one name more

-- a name without a place stands nowhere
stands_nowhere : (names : List (List ℕ)) (name : List ℕ) (place : ℕ) → AreDifferent names → place_of names name ≡ None
    → slice_get names place ≡ Some name → ⊥
stands_nowhere names name place different new at = let e = place_of-here names name place different at in cc

different_last : (names : List (List ℕ)) (name : List ℕ) → AreDifferent names → place_of names name ≡ None → AreDifferent (names ++ name ∷ [])
different_last names name different new j k text ej ek =
    by_places (get_last_cases names name text j ej) (get_last_cases names name text k ek)
  where
    by_places : (slice_get names j ≡ Some text) ⊎ ((j ≡ length names) × (name ≡ text))
        → (slice_get names k ≡ Some text) ⊎ ((k ≡ length names) × (name ≡ text)) → j ≡ k
    by_places (inl a) (inl b) = different j k text a b
    by_places (inl a) (inr b) = absurd (stands_nowhere names name j different new (subst (λ t. slice_get names j ≡ Some t) (sym b.1) a))
    by_places (inr a) (inl b) = absurd (stands_nowhere names name k different new (subst (λ t. slice_get names k ≡ Some t) (sym a.1) b))
    by_places (inr a) (inr b) = a.0 ∙ sym b.0

different_front : (names : List (List ℕ)) (name : List ℕ) → AreDifferent (names ++ name ∷ []) → AreDifferent names
different_front names name different j k text a b = different j k text (before j a) (before k b)
  where
    before : (i : ℕ) → slice_get names i ≡ Some text → slice_get (names ++ name ∷ []) i ≡ Some text
    before i at = get_append names name i (get_within names i text at).0 ∙ at

-- the last name has the last place, and each other text the place that it had
place_of-last : (names : List (List ℕ)) (name text : List ℕ) → AreDifferent (names ++ name ∷ [])
    → place_of (names ++ name ∷ []) text ≡ cond (bytes_eq name text) (Some (length names)) (place_of names text)
place_of-last names name text different = by_name (bytes_eq name text) refl
  where
    all : List (List ℕ)
    all = names ++ name ∷ []

    by_front : (r : Option ℕ) → place_of names text ≡ r → bytes_eq name text ≡ false → place_of all text ≡ r
    by_front None e other = place_of-nowhere all text (λ place at. by_place place (get_last_cases names name text place at))
      where
        by_place : (place : ℕ) → (slice_get names place ≡ Some text) ⊎ ((place ≡ length names) × (name ≡ text)) → ⊥
        by_place place (inl at) = stands_nowhere names text place (different_front names name different) e at
        by_place place (inr last) = let equal = (bytes_eq-Decides name text).1 last.1 in cc
    by_front (Some place) e other =
        let at = place_of-there names text place e in
        place_of-here all text place different (get_append names name place (get_within names place text at).0 ∙ at)

    by_name : (t : Bool) → bytes_eq name text ≡ t → place_of all text ≡ cond (bytes_eq name text) (Some (length names)) (place_of names text)
    by_name true e =
        rw e (place_of-here all text (length names) different (get_last names name ∙ ap Some (equal_bytes name text e)))
    by_name false e = rw e (by_front (place_of names text) refl e)

-- ---- the map

-- the last name's place is put into the map
pub indexed_more : {S : Type 0} (names : List (List ℕ)) (name : List ℕ) (old new : HashMap (String Global) ℕ S) → IsIndexed names old
    → place_of names name ≡ None → length names + 1 < 2 ^ 32
    → ((text : List ℕ) → get_by_text new text ≡ cond (bytes_eq name text) (Some (length names)) (get_by_text old text))
    → IsIndexed (names ++ name ∷ []) new
indexed_more names name old new is absent room put =
    let different = different_last names name is.different absent in
    record {
      different = different;
      places_are = λ text. rw (put text, is.places_are text) (sym (place_of-last names name text different));
      few = subst (λ n. n < 2 ^ 32) (sym (length_more names name)) room;
    }

-- the last name is taken out of the map
pub indexed_less : {S : Type 0} (names : List (List ℕ)) (name : List ℕ) (old new : HashMap (String Global) ℕ S) → IsIndexed (names ++ name ∷ []) old
    → ((text : List ℕ) → get_by_text new text ≡ cond (bytes_eq name text) None (get_by_text old text)) → IsIndexed names new
indexed_less names name old new is taken = record {
  different = front;
  places_are = λ text. taken text ∙ rw (is.places_are text, place_of-last names name text is.different) (by_name text (bytes_eq name text) refl);
  few = omega (arith, is.few, length_more names name);
}
  where
    front : AreDifferent names
    front = different_front names name is.different

    at_end : (text : List ℕ) (place : ℕ) → name ≡ text → slice_get names place ≡ Some text → ⊥
    at_end text place same at =
        let within = (get_within names place text at).0 in
        let last = is.different place (length names) text (get_append names name place within ∙ at) (get_last names name ∙ ap Some same) in
        omega arith

    by_name : (text : List ℕ) (t : Bool) → bytes_eq name text ≡ t
        → cond t None (cond t (Some (length names)) (place_of names text)) ≡ place_of names text
    by_name text true e = sym (place_of-nowhere names text (λ place. at_end text place (equal_bytes name text e)))
    by_name text false e = refl
