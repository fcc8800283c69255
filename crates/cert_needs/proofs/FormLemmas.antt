-- Users in normal form: sorted one by one, and compared.
use Rattle.std.proofs.Common.{ℕ, ◌≡◌, ◌∙◌, Bool, true, false, cond, List, [], ◌∷◌, map, length, drop, Some}
use Rattle.std.proofs.Common.{zero, suc, refl, ap, sym, arith}
use Rattle.std.specs.Prelude.{◌↔◌, IsTrue, slice_get, nat_lt, min}
use Rattle.std.proofs.lemmas.Bool.Decides.{nat_tests}
use Rattle.list_words.proofs.GetLemmas.{same_some, get_map}
use Rattle.arbac_policy.specs.declared.conjunct.Conjunct.{Conjunct}
use Rattle.arbac_laws.specs.Needs.{Need, IsPossible}
use Rattle.arbac_laws.specs.Orders.{hits_before, need_before}
use Rattle.arbac_laws.specs.NormalForms.{insert_by, normal_form, normal_need, sort_by}
use Rattle.arbac_laws.specs.Views.{need_of, needs_of}
use Rattle.arbac_laws.proofs.NormalLemmas.{none_impossible, possible_not}
use Rattle.cert_needs.specs.declared.wanted.Wanted.{Wanted}
use Rattle.cert_needs.specs.Wanted.{need_wanted, needs_wanted}
use Rattle.cert_needs.specs.Forms.{user_before}
use Rattle.cert_needs.proofs.HitLemmas.{drop_here}

-- which list of hits comes first

lifted : (m n : ℕ) → nat_lt (suc m) (suc n) ≡ nat_lt m n
lifted m n = grind (arith, nat_tests)

-- where the shorter list ends, the shorter one comes first
pub before_end : (at : ℕ) (xs ys : List (List ℕ)) → at ≡ min (length xs) (length ys) → nat_lt (length xs) (length ys) ≡ hits_before (drop at xs)
    (drop at ys)
before_end zero [] [] e = refl
before_end zero [] (y ∷ ys) e = grind (arith, nat_tests)
before_end zero (x ∷ xs) [] e = grind (arith, nat_tests)
before_end zero (x ∷ xs) (y ∷ ys) e = absurd (omega (arith, e))
before_end (suc at) [] ys e = absurd (omega (arith, e))
before_end (suc at) (x ∷ xs) [] e = absurd (omega (arith, e))
before_end (suc at) (x ∷ xs) (y ∷ ys) e = lifted (length xs) (length ys) ∙ before_end at xs ys (omega (arith, e))

-- one user more

-- users are inserted as what is wanted of them is
pub insert_seen : (user : Conjunct) (users : List Conjunct)
    → map need_of (insert_by user_before user users) ≡ insert_by need_before (need_of user) (map need_of users)
insert_seen user [] = refl
insert_seen user (one ∷ users) = by_test (need_before (need_of one) (need_of user)) (insert_seen user users)
  where
    by_test : (t : Bool) → map need_of (insert_by user_before user users) ≡ insert_by need_before (need_of user) (map need_of users)
        → map need_of (cond t (one ∷ insert_by user_before user users) (user ∷ one ∷ users))
        ≡ cond t (need_of one ∷ insert_by need_before (need_of user) (map need_of users)) (need_of user ∷ need_of one ∷ map need_of users)
    by_test true rest = ap (λ (needs : List Need). need_of one ∷ needs) rest
    by_test false rest = refl

-- one user more, from the last one on, is inserted
pub sorted_more : (users : List Wanted) (i j : ℕ) (user : Wanted) (need : Need) (form more : List Need) → j ≡ suc i → slice_get users i ≡ Some user
    → need ≡ normal_need (need_wanted user) → more ≡ insert_by need_before need form
    → form ≡ sort_by need_before (map normal_need (needs_wanted (drop j users)))
    → more ≡ sort_by need_before (map normal_need (needs_wanted (drop i users)))
sorted_more users i j user need form more next at is inserted sorted =
    rw (drop_here users i user at) (inserted ∙ ap (λ (n : Need). insert_by need_before n form) is
    ∙ ap (insert_by need_before (normal_need (need_wanted user))) (rw next at sorted))

-- compared

-- users that have the same hits and lacks
pub same_user : (a b : Conjunct) → a.lacks ≡ b.lacks → a.hits.items ≡ b.hits.items → need_of a ≡ need_of b
same_user a b lacks hits =
    ap (λ (h : List (List ℕ)). let need : Need = record { hits = h; lacks = a.lacks } in need) hits
    ∙ ap (λ (l : List ℕ). let need : Need = record { hits = b.hits.items; lacks = l } in need) lacks

-- in equal lists equal users stand at a place
pub same_there : (users others : List Conjunct) (at : ℕ) (user other : Conjunct) → slice_get users at ≡ Some user → slice_get others at ≡ Some other
    → needs_of users ≡ needs_of others → need_of user ≡ need_of other
same_there users others at user other here there same =
    same_some (need_of user) (need_of other) (sym (get_map need_of users at user here) ∙ ap (λ (needs : List Need). slice_get needs at) same
    ∙ get_map need_of others at other there)

-- the whole

-- what is impossible has no normal form
pub no_form : (users : List Wanted) (form : List Need) (t : Bool) → (IsTrue t ↔ IsPossible (needs_wanted users)) → t ≡ false
    → normal_form (needs_wanted users) ≡ Some form → ⊥
no_form users form t possible fails is =
    let none = (none_impossible (needs_wanted users)).1 (λ p. let passes = possible.1 p in cc) in cc

-- what is possible has the sorted users as its normal form
pub form_is : (users : List Wanted) (t : Bool) → (IsTrue t ↔ IsPossible (needs_wanted users)) → t ≡ true
    → normal_form (needs_wanted users) ≡ Some (sort_by need_before (map normal_need (needs_wanted users)))
form_is users t possible passes = let free = possible_not (needs_wanted users) (possible.0 passes) in rw free refl

-- and no other list
pub form_same : (users : List Wanted) (sorted form : List Need) (s t : Bool) → (IsTrue s ↔ IsPossible (needs_wanted users)) → s ≡ true
    → sorted ≡ sort_by need_before (map normal_need (needs_wanted users)) → (IsTrue t ↔ (sorted ≡ form))
    → IsTrue t ↔ (normal_form (needs_wanted users) ≡ Some form)
form_same users sorted form s t possible passes is same =
    let whole = form_is users s possible passes in (
      λ e. whole ∙ ap Some (sym is ∙ same.0 e),
      λ e. same.1 (is ∙ same_some (sort_by need_before (map normal_need (needs_wanted users))) form (sym whole ∙ e)),
    )
