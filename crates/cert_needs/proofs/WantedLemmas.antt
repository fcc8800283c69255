-- Users of whom one may administer.
use Rattle.std.proofs.Common.{ℕ, ◌≡◌, ◌+◌, ◌∙◌, List, [], ◌∷◌, ◌++◌, take, Option, Some, None, zero, suc, refl, sym, ap, subst, inl, inr}
use Rattle.std.specs.Prelude.{slice_get, slice_set}
use Rattle.std.proofs.lemmas.List.{map_push}
use Rattle.list_words.proofs.GetLemmas.{same_some, get_map, get_last_cases, take_one_more}
use Rattle.arbac_policy.specs.declared.conjunct.Conjunct.{Conjunct}
use Rattle.arbac_laws.specs.Needs.{Need}
use Rattle.arbac_laws.specs.PreImages.{add_hit, change_at}
use Rattle.arbac_laws.specs.Views.{need_of, needs_of}
use Rattle.cert_needs.specs.declared.wanted.Wanted.{Wanted}
use Rattle.cert_needs.specs.Wanted.{need_wanted, needs_wanted, IsFree, AreFree, set_admin}

-- a write at a place
pub set_at : (users : List Wanted) (place : ℕ) (user : Wanted) (admin : Option (List ℕ)) → slice_get users place ≡ Some user
    → slice_set users place (record user { admin = admin }) ≡ set_admin place admin users
set_at [] place user admin at = refl
set_at (x ∷ users) zero user admin at = ap (λ (y : Wanted). record y { admin = admin } ∷ users) (sym (same_some x user at))
set_at (x ∷ users) (suc place) user admin at = ap (λ l. x ∷ l) (set_at users place user admin at)

-- another user at the place

pub needs_set : (users : List Wanted) (place : ℕ) (user : Wanted) (need : Need) → need_wanted user ≡ need
    → needs_wanted (slice_set users place user) ≡ slice_set (needs_wanted users) place need
needs_set [] place user need same = refl
needs_set (x ∷ users) zero user need same = ap (λ (n : Need). n ∷ needs_wanted users) same
needs_set (x ∷ users) (suc place) user need same = ap (λ l. need_wanted x ∷ l) (needs_set users place user need same)

pub free_set : (users : List Wanted) (place : ℕ) (user : Wanted) → AreFree users → user.admin ≡ None → AreFree (slice_set users place user)
free_set [] place user free none = free
free_set (x ∷ users) zero user free none = λ other. elim other as (λ k. IsFree k (user ∷ users)) [
  | zero ↦ λ u at. subst (λ (w : Wanted). w.admin ≡ None) (same_some user u at) none
  | suc k ↦ free (suc k)
]
free_set (x ∷ users) (suc place) user free none = λ other. elim other as (λ k. IsFree k (x ∷ slice_set users place user)) [
  | zero ↦ free zero
  | suc k ↦ free_set users place user (λ j. free (suc j)) none k
]

-- the administrator's hit is one more
pub needs_put : (users : List Wanted) (place : ℕ) (hit : List ℕ) → IsFree place users
    → needs_wanted (set_admin place (Some hit) users) ≡ change_at place (add_hit hit) (needs_wanted users)
needs_put [] place hit free = refl
needs_put (x ∷ users) zero hit free =
    ap (λ (admin : Option (List ℕ)). add_hit hit (need_wanted (record x { admin = admin })) ∷ needs_wanted users) (sym (free x refl))
needs_put (x ∷ users) (suc place) hit free = ap (λ l. need_wanted x ∷ l) (needs_put users place hit (λ user at. free user at))

-- the list is as before
pub put_dropped : (users : List Wanted) (place : ℕ) (hit : List ℕ) → IsFree place users
    → set_admin place None (set_admin place (Some hit) users) ≡ users
put_dropped [] place hit free = refl
put_dropped (x ∷ users) zero hit free = ap (λ (admin : Option (List ℕ)). record x { admin = admin } ∷ users) (sym (free x refl))
put_dropped (x ∷ users) (suc place) hit free = ap (λ l. x ∷ l) (put_dropped users place hit (λ user at. free user at))

-- one user more who doesn't administer

pub needs_more : (users : List Conjunct) (list : List Wanted) (i : ℕ) (user : Conjunct) (wanted : Wanted) → slice_get users i ≡ Some user
    → needs_wanted list ≡ take i (needs_of users) → need_wanted wanted ≡ need_of user
    → needs_wanted (list ++ wanted ∷ []) ≡ take (i + 1) (needs_of users)
needs_more users list i user wanted at so_far need =
    map_push need_wanted list wanted
    ∙ ap (λ l. l ++ need_wanted wanted ∷ []) so_far
    ∙ ap (λ (n : Need). take i (needs_of users) ++ n ∷ []) need
    ∙ sym (take_one_more (needs_of users) i (need_of user) (get_map need_of users i user at))

pub free_more : (users : List Wanted) (user : Wanted) → AreFree users → user.admin ≡ None → AreFree (users ++ user ∷ [])
free_more users user free none = λ place other at. elim (get_last_cases users user other place at) [
  | inl earlier ↦ free place other earlier
  | inr last ↦ subst (λ (u : Wanted). u.admin ≡ None) last.1 none
]
