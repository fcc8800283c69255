-- A user who has a hit within the administrator's already needs no other.
use Rattle.std.proofs.Common.{ℕ, ◌≡◌, ◌<◌, ◌≤◌, Bool, true, false, List, [], ◌∷◌, ◌++◌, Some, length, refl, arith, zero, suc, sym}
use Rattle.std.proofs.Common.{subst, inl}
use Rattle.std.specs.Prelude.{slice_get}
use Rattle.list_words.proofs.CountLemmas.{count, counted}
use Rattle.list_words.proofs.GetLemmas.{get_there, same_some}
use Rattle.list_words.proofs.TestLemmas.{not_false}
use Rattle.arbac_laws.specs.Needs.{Covers, CoversNeed, Need}
use Rattle.arbac_laws.specs.PreImages.{IsPick, Pick, add_hit, change_at, with_admin, itself, other, fresh}
use Rattle.arbac_laws.specs.Rows.{adm, anyone, hits}
use Rattle.arbac_laws.proofs.CoverLemmas.{covers_itself, covers_need, covers_transitive}
use Rattle.arbac_laws.proofs.RoleLemmas.{less_in}
use Rattle.arbac_laws.proofs.SameLemmas.{covers_of_test, covers_test, test_of_covers}
use Rattle.search_laws.specs.Pruning.{HasHitWithin, IsFree}
use Rattle.search_laws.proofs.MonotonyLemmas.{Along, along_itself, covers_along, without_admin}

-- one more hit within which a hit lies already
pub free_covers : (need : Need) (hit : List ℕ) → HasHitWithin hit need → CoversNeed (add_hit hit need) need
free_covers need hit h = record { hits = (h, (covers_itself need).hits); lacks = λ role k. k }

-- a hit added where one lies within it already: each user still covers the one at its place
pub change_free : (xs : List Need) (k : ℕ) (x : Need) (hit : List ℕ) → slice_get xs k ≡ Some x → HasHitWithin hit x
    → Along (change_at k (add_hit hit) xs) xs
change_free [] k x hit at h = tt
change_free (y ∷ ys) zero x hit at h = let same : x ≡ y = cc in (free_covers y hit (subst (HasHitWithin hit) same h), along_itself ys)
change_free (y ∷ ys) (suc k) x hit at h = (covers_itself y, change_free ys k x hit at h)

-- where the administrator is free, no more is wanted
pub free_admin : (needs : List Need) (target : ℕ) (hit : List ℕ) (pick : Pick) → IsFree hit pick target needs
    → Covers (with_admin pick target hit needs) needs
free_admin needs target hit itself free = covers_along (change_at target (add_hit hit) needs) needs (change_free needs target free.0 hit free.1 free.2)
free_admin needs target hit (other place) free = covers_along (change_at place (add_hit hit) needs) needs (change_free needs place free.0 hit free.1 free.2)
free_admin needs target hit fresh free = absurd free

-- who is an administrator already has the pre-image that covers those of all others
pub free_covers_others : (needs : List Need) (target : ℕ) (hit : List ℕ) (free pick : Pick) → IsFree hit free target needs
    → Covers (with_admin free target hit needs) (with_admin pick target hit needs)
free_covers_others needs target hit free pick is =
    covers_transitive (with_admin free target hit needs) needs (with_admin pick target hit needs) (free_admin needs target hit free is)
    (without_admin needs target pick hit)

-- users who have a hit within the set, counted

-- a user of whom the hit alone is wanted
abbrev pub wants : List ℕ → Need
wants hit = record { hits = hit ∷ []; lacks = [] }

-- whether a user has a hit within the set
abbrev pub is_free : List ℕ → Need → Bool
is_free hit need = covers_test (wants hit) need

-- who has a hit within the set passes
pub free_test : (hit : List ℕ) (need : Need) → HasHitWithin hit need → is_free hit need ≡ true
free_test hit need h = test_of_covers (wants hit) need (record { hits = (h, tt); lacks = λ role k. cc })

-- who passes has a hit within the set
pub test_free : (hit : List ℕ) (need : Need) → is_free hit need ≡ true → HasHitWithin hit need
test_free hit need e = (covers_of_test (wants hit) need e).hits.0

-- what is covered has at least as many such users
pub count_covered : (hit : List ℕ) (xs ys : List Need) → Covers xs ys → count (is_free hit) xs ≤ count (is_free hit) ys
count_covered hit xs ys f = counted CoversNeed (is_free hit) (is_free hit)
    (λ x y c e. test_of_covers (wants hit) y (covers_need (wants hit) x y (covers_of_test (wants hit) x e) c)) xs ys f

-- who is given the hit passes
pub added_is_free : (hit : List ℕ) (need : Need) → is_free hit (add_hit hit need) ≡ true
added_is_free hit need = free_test hit (add_hit hit need) (inl (λ role h. less_in hit need.lacks role h))

-- where someone who hasn't such a hit is given it, there is one more
pub count_change : (hit : List ℕ) (xs : List Need) (k : ℕ) (x : Need) → slice_get xs k ≡ Some x → is_free hit x ≡ false
    → count (is_free hit) (change_at k (add_hit hit) xs) ≡ suc (count (is_free hit) xs)
count_change hit [] k x at e = cc
count_change hit (y ∷ ys) zero x at e =
    let same : x ≡ y = cc in
    let before : is_free hit y ≡ false = subst (λ v. is_free hit v ≡ false) same e in
    rw (added_is_free hit y, before) (omega arith)
count_change hit (y ∷ ys) (suc k) x at e = let r = count_change hit ys k x at e in omega (arith, r)

-- one more such user at the end
pub count_more : (hit : List ℕ) (xs : List Need) (x : Need) → is_free hit x ≡ true
    → count (is_free hit) (xs ++ x ∷ []) ≡ suc (count (is_free hit) xs)
count_more hit [] x e = rw e (omega arith)
count_more hit (y ∷ ys) x e = let r = count_more hit ys x e in omega (arith, r)

-- where the administrator isn't free, one more has such a hit
pub count_admin : (needs : List Need) (target : ℕ) (hit : List ℕ) (pick : Pick) → target < length needs → IsPick pick target (length needs)
    → ¬ IsFree hit pick target needs
    → count (is_free hit) (with_admin pick target hit needs) ≡ suc (count (is_free hit) needs)
count_admin needs target hit itself l is n =
    let one = get_there needs target l in
    count_change hit needs target one.0 one.1 (not_false (is_free hit one.0) (λ e. n (one.0, one.1, test_free hit one.0 e)))
count_admin needs target hit (other place) l is n =
    let one = get_there needs place is.0 in
    count_change hit needs place one.0 one.1 (not_false (is_free hit one.0) (λ e. n (one.0, one.1, test_free hit one.0 e)))
count_admin needs target hit fresh l is n = count_more hit needs (wants hit) (added_is_free hit (record { hits = []; lacks = [] }))

-- who isn't an administrator already has a pre-image with one more such user, which doesn't cover that of one who is
pub not_covering_free : (needs : List Need) (target : ℕ) (hit : List ℕ) (free pick : Pick) → IsFree hit free target needs → target < length needs
    → IsPick pick target (length needs)
    → ¬ IsFree hit pick target needs → Covers (with_admin pick target hit needs) (with_admin free target hit needs) → ⊥
not_covering_free needs target hit free pick is l picked n covers =
    let more = count_admin needs target hit pick l picked n in
    let few = count_covered hit (with_admin pick target hit needs) needs
    (covers_transitive (with_admin pick target hit needs) (with_admin free target hit needs) needs covers (free_admin needs target hit free is)) in
    omega (arith, more, few)

-- a user with adm beside another

-- the user with adm is an administrator already
pub adm_free : IsFree (adm ∷ []) (other 1) 0 (anyone ∷ hits adm ∷ [])
adm_free = (hits adm, refl, inl (λ role h. less_in (adm ∷ []) [] role h))

-- a user of whom nothing is wanted isn't
pub anyone_not_free : IsFree (adm ∷ []) itself 0 (anyone ∷ hits adm ∷ []) → ⊥
anyone_not_free free = subst (HasHitWithin (adm ∷ [])) (sym (same_some anyone free.0 free.1)) free.2
