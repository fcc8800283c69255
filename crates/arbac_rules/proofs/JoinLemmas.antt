-- Lists of conjuncts that grow by one at a time.
use Rattle.std.proofs.Common.{ℕ, ◌≡◌, ◌≤◌, ◌<◌, ◌+◌, ◌∙◌, List, [], ◌∷◌, ◌++◌, length, take, get_or, Some, refl, zero}
use Rattle.std.proofs.Common.{suc, ap, sym, append_assoc, arith}
use Rattle.std.specs.List.{slice_get}
use Rattle.std.proofs.lemmas.List.{append-nil, map_push}
use Rattle.list_words.proofs.GetLemmas.{take_all, take_one_more}
use Rattle.arbac_laws.specs.Needs.{Need}
use Rattle.arbac_laws.specs.Conjuncts.{join_all, join_needs, join_with}
use Rattle.arbac_policy.specs.declared.conjunct.Conjunct.{Conjunct}
use Rattle.arbac_laws.specs.Views.{need_of, needs_of}

pub get_needs : (xs : List Conjunct) (i : ℕ) (x : Conjunct) → i < length xs → x ≡ get_or xs i x → slice_get (needs_of xs) i ≡ Some (need_of x)
get_needs [] i x h e = absurd (omega arith)
get_needs (y ∷ xs) zero x h e = let same : x ≡ y = e in rw same refl
get_needs (y ∷ xs) (suc i) x h e = get_needs xs i x (omega arith) e

pub length_needs : (xs : List Conjunct) → length (needs_of xs) ≡ length xs
length_needs [] = refl
length_needs (x ∷ xs) = ap (λ n. suc n) (length_needs xs)

pub take_needs : (xs : List Conjunct) (i : ℕ) → length xs ≤ i → take i (needs_of xs) ≡ needs_of xs
take_needs xs i h = take_all (needs_of xs) i (omega (length_needs xs, h, arith))

pub with_push : (a : Need) (bs : List Need) (b : Need) → join_with a (bs ++ b ∷ []) ≡ join_with a bs ++ join_needs a b ∷ []
with_push a [] b = refl
with_push a (x ∷ bs) b = ap (λ l. join_needs a x ∷ l) (with_push a bs b)

pub all_push : (xs : List Need) (a : Need) (bs : List Need) → join_all (xs ++ a ∷ []) bs ≡ join_all xs bs ++ join_with a bs
all_push [] a bs = append-nil (join_with a bs)
all_push (x ∷ xs) a bs =
    ap (λ l. join_with x bs ++ l) (all_push xs a bs) ∙ sym (append_assoc (join_with x bs) (join_all xs bs) (join_with a bs))

-- one more of the others, joined, is added
pub added_one : (old : List Need) (a : Need) (xs out new : List Conjunct) (i : ℕ) (x y : Conjunct) → slice_get (needs_of xs) i ≡ Some (need_of x)
    → new ≡ out ++ y ∷ [] → need_of y ≡ join_needs a (need_of x)
    → needs_of out ≡ old ++ join_with a (take i (needs_of xs))
    → needs_of new ≡ old ++ join_with a (take (i + 1) (needs_of xs))
added_one old a xs out new i x y at grown joined before =
    ap needs_of grown
    ∙ map_push need_of out y
    ∙ ap (λ l. l ++ need_of y ∷ []) before
    ∙ ap (λ n. (old ++ join_with a (take i (needs_of xs))) ++ n ∷ []) joined
    ∙ append_assoc old (join_with a (take i (needs_of xs))) (join_needs a (need_of x) ∷ [])
    ∙ ap (λ l. old ++ l) (sym (ap (join_with a) (take_one_more (needs_of xs) i (need_of x) at) ∙ with_push a (take i (needs_of xs)) (need_of x)))

-- one more of the left ones is joined with each of the right ones
pub joined_one : (xs bs all new : List Conjunct) (i : ℕ) (x : Conjunct) → slice_get (needs_of xs) i ≡ Some (need_of x)
    → needs_of new ≡ needs_of all ++ join_with (need_of x) (needs_of bs)
    → needs_of all ≡ join_all (take i (needs_of xs)) (needs_of bs)
    → needs_of new ≡ join_all (take (i + 1) (needs_of xs)) (needs_of bs)
joined_one xs bs all new i x at grown before =
    grown
    ∙ ap (λ l. l ++ join_with (need_of x) (needs_of bs)) before
    ∙ sym (ap (λ l. join_all l (needs_of bs)) (take_one_more (needs_of xs) i (need_of x) at) ∙ all_push (take i (needs_of xs)) (need_of x) (needs_of bs))
