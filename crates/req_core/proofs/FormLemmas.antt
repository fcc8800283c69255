-- The normal form of a requirement, user by user.
use Rattle.std.proofs.Common.{ℕ, ◌≡◌, ◌<◌, ◌∙◌, Bool, true, false, cond, List, [], ◌∷◌, ◌++◌, length, map, get_or}
use Rattle.std.proofs.Common.{Some, zero, suc, refl, ap, sym, subst, arith, take, drop}
use Rattle.std.specs.Prelude.{slice_get, None}
use Rattle.std.specs.List.{list_any}
use Rattle.std.proofs.lemmas.Bool.Decides.{nat_tests}
use Rattle.list_words.specs.Lists.{Each}
use Rattle.list_words.proofs.EachLemmas.{each_of}
use Rattle.list_words.proofs.GetLemmas.{get_any, get_within, get_below, get_there, some_cond}
use Rattle.arbac_laws.specs.Needs.{Need}
use Rattle.arbac_laws.specs.Orders.{need_before}
use Rattle.arbac_laws.specs.PreImages.{is_empty}
use Rattle.arbac_laws.specs.NormalForms.{AreFormPlaces, IsNormal, IsNormalNeed, bare_hits, insert_by, is_impossible, normal_form, normal_need, sort_by}
use Rattle.list_words.specs.Orders.{AreSorted}
use Rattle.arbac_laws.proofs.FormPlaceLemmas.{are_places, goes, one_form_place, places_of, pushed, spot}
use Rattle.arbac_laws.proofs.OrderLemmas.{need_order}
use Rattle.list_words.proofs.PlaceLemmas.{told}
use Rattle.arbac_laws.proofs.SortLemmas.{insert_by_in, sort_sorted}
use Rattle.arbac_policy.specs.declared.conjunct.Conjunct.{Conjunct}
use Rattle.req_core.specs.Forms.{IsPlaced, IsSpot, moved}
use Rattle.arbac_laws.specs.Views.{need_of, needs_of}
use Rattle.req_core.proofs.HitLemmas.{any_map, drop_here, later}

-- one item put in

-- the place is the law's
pub spot_at : {A : Type 0} (before : A → A → Bool) (x : A) (ys : List A) (at : ℕ) → IsSpot before x ys at → at ≡ spot before x ys
spot_at before x [] zero s = refl
spot_at before x [] (suc at) s = let l = s.within in absurd (omega (arith, l))
spot_at before x (y ∷ ys) zero s = let here = s.here y refl in rw here refl
spot_at before x (y ∷ ys) (suc at) s = let first = s.earlier 0 y (omega arith) refl in rw first (ap suc (spot_at before x ys at (later before x y ys at s)))

-- the other places

-- what a loop that goes over a list and changes each item has not yet changed
pub unchanged : {A : Type 0} (f : A → A) (xs ys : List A) (i : ℕ) (d : A) → i < length ys → ys ≡ map f (take i xs) ++ drop i xs
    → slice_get xs i ≡ Some (get_or ys i d)
unchanged f [] ys zero d l e = absurd (let long = ap length e in omega (arith, long, l))
unchanged f [] ys (suc i) d l e = absurd (let long = ap length e in omega (arith, long, l))
unchanged f (x ∷ xs) ys zero d l e = rw e refl
unchanged f (x ∷ xs) ys (suc i) d l e = rw e (unchanged f xs (map f (take i xs) ++ drop i xs) i d (let long = ap length e in omega (arith, long, l)) refl)

moved_pushed : (at p : ℕ) → moved at p ≡ pushed at p
moved_pushed zero p = grind (arith, nat_tests)
moved_pushed (suc at) zero = grind (arith, nat_tests)
moved_pushed (suc at) (suc p) = let rest = moved_pushed at p in grind (arith, nat_tests, rest)

all_moved : (at : ℕ) (to : ℕ → ℕ) (n : ℕ) → map (moved at) (told to n) ≡ told (λ i. pushed at (to i)) n
all_moved at to zero = refl
all_moved at to (suc n) =
    ap (λ p. p ∷ map (moved at) (told (λ i. to (suc i)) n)) (moved_pushed at (to 0))
    ∙ ap (λ t. pushed at (to 0) ∷ t) (all_moved at (λ i. to (suc i)) n)

-- each user has a place among the others
pub places_below : (needs form : List Need) (places : List ℕ) → AreFormPlaces needs form places → Each (λ place. place < length form) places
places_below needs form places s = each_of (λ place. place < length form) places (λ k place e.
    let within = get_within places k place e in
    let long = s.at.long in
    let need = get_there needs k (omega (arith, within.0, long)) in
    let one = s.at.each k need.0 need.1 in
    let below = get_below form (get_or places k 0) one.0 one.1 in
    let same = within.1 ∙ get_any places k place 0 within.0 in
    omega (arith, below, same))

-- one user more

-- one user more is put in, and the places from there on move
pub one_placed : (needs form : List Need) (places : List ℕ) (need user : Need) (at : ℕ) → normal_need need ≡ user → IsSpot need_before user form at
    → IsPlaced needs form places → IsPlaced (need ∷ needs) (insert_by need_before user form) (at ∷ map (moved at) places)
one_placed needs form places need user at same spot_is p = record { sorted = sorted; stand = placed }
  where
    sorted : insert_by need_before user form ≡ sort_by need_before (map normal_need (need ∷ needs))
    sorted = ap (λ v. insert_by need_before v form) (sym same) ∙ ap (insert_by need_before (normal_need need)) p.sorted

    told_before : places ≡ places_of needs
    told_before = one_form_place needs form places (places_of needs) p.stand
        (subst (λ f. AreFormPlaces needs f (places_of needs)) (sym p.sorted) (are_places needs))

    there : at ≡ spot need_before (normal_need need) (sort_by need_before (map normal_need needs))
    there = spot_at need_before user form at spot_is ∙ ap (λ v. spot need_before v form) (sym same) ∙ ap (spot need_before (normal_need need)) p.sorted

    told_now : at ∷ map (moved at) places ≡ places_of (need ∷ needs)
    told_now =
        ap (λ t. at ∷ map (moved at) t) told_before ∙ ap (λ t. at ∷ t) (all_moved at (goes normal_need need_before needs) (length needs))
        ∙ ap (λ a. a ∷ told (λ i. pushed a (goes normal_need need_before needs i)) (length needs)) there

    placed : AreFormPlaces (need ∷ needs) (insert_by need_before user form) (at ∷ map (moved at) places)
    placed = subst (λ t. AreFormPlaces (need ∷ needs) (insert_by need_before user form) t) (sym told_now)
        (subst (λ f. AreFormPlaces (need ∷ needs) f (places_of (need ∷ needs))) (sym sorted) (are_places (need ∷ needs)))

-- the users from one on

pub record IsForm (needs form : List Need) (places : List ℕ) : Type 0 where
  pub placed : IsPlaced needs form places
  pub possible : is_impossible needs ≡ false
  pub normal : Each IsNormalNeed form

-- one user more, from the last one on
pub one_user : (raw : List Conjunct) (i j : ℕ) (one : Conjunct) (user : Need) (form more : List Need) (places others : List ℕ) → j ≡ suc i
    → slice_get raw i ≡ Some one
    → Some user ≡ cond (list_any is_empty (bare_hits (need_of one))) None (Some (normal_need (need_of one))) → IsNormalNeed user
    → IsForm (needs_of (drop j raw)) form places → more ≡ insert_by need_before user form
    → ((needs : List Need) (need : Need) → normal_need need ≡ user → IsPlaced needs form places → IsPlaced (need ∷ needs) more others)
    → IsForm (needs_of (drop i raw)) more others
one_user raw i j one user form more places others next e made normal f is placed =
    subst (λ (v : List Conjunct). IsForm (needs_of v) more others) (sym (drop_here raw i one e)) (record {
      placed = placed (needs_of (drop (suc i) raw)) (need_of one) both.1 g.placed;
      possible = let here = both.0 in let rest = g.possible in rw (here, rest) refl;
      normal = subst (λ v. Each IsNormalNeed v) (sym is) (insert_by_in need_before IsNormalNeed user form g.normal normal);
    })
  where
    both : (list_any is_empty (bare_hits (need_of one)) ≡ false) × (normal_need (need_of one) ≡ user)
    both = some_cond (list_any is_empty (bare_hits (need_of one))) (normal_need (need_of one)) user (sym made)

    g : IsForm (needs_of (drop (suc i) raw)) form places
    g = subst (λ n. IsForm (needs_of (drop n raw)) form places) next f

-- the end

-- the users are in normal form and sorted
pub form_normal : (needs form : List Need) (places : List ℕ) → IsForm needs form places → IsNormal form
form_normal needs form places f = record {
  each = f.normal;
  sorted = subst (AreSorted need_before) (sym f.placed.sorted) (sort_sorted need_before need_order (map normal_need needs));
}

-- where a user can not be met, there is no normal form
pub form_none : (raw : List Conjunct) (i : ℕ) (one : Conjunct) → slice_get raw i ≡ Some one
    → None ≡ cond (list_any is_empty (bare_hits (need_of one))) None (Some (normal_need (need_of one))) → None ≡ normal_form (needs_of raw)
form_none raw i one e made =
    let bad = stops (list_any is_empty (bare_hits (need_of one))) (normal_need (need_of one)) made in
    let all : is_impossible (needs_of raw) ≡ true = any_map (λ need. list_any is_empty (bare_hits need)) need_of raw i one e bad in
    rw all refl
  where
    stops : {A : Type 0} (t : Bool) (x : A) → None ≡ cond t None (Some x) → t ≡ true
    stops true x e = refl
    stops false x e = cc

-- user requirements with the same hits and the same lacks are the same
pub same_user : (a b : Need) → a.hits ≡ b.hits → a.lacks ≡ b.lacks → a ≡ b
same_user a b hits lacks =
    ap (λ (h : List (List ℕ)). let need : Need = record { hits = h; lacks = a.lacks } in need) hits
    ∙ ap (λ (l : List ℕ). let need : Need = record { hits = b.hits; lacks = l } in need) lacks
