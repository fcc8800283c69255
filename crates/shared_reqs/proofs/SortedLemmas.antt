-- Marked users that are sorted by what is wanted of them.
use Rattle.std.proofs.Common.{ℕ, ◌≡◌, ◌∙◌, Bool, true, false, cond, List, [], ◌∷◌, ◌++◌, map, drop}
use Rattle.std.proofs.Common.{Some, Result, Ok, Err, Bor, Global, suc, zero, refl, ap, sym, subst, arith}
use Rattle.std.specs.Prelude.{IfOk, slice_get, slice_set, insert}
use Rattle.std.specs.declared.sync.Arc.{Arc}
use Rattle.std.proofs.lemmas.List.{length-map, map-set, map_push}
use Rattle.list_words.specs.Lists.{Each}
use Rattle.role_order.specs.Graph.{Graph}
use Rattle.role_order.proofs.ClosureLemmas.{get_mapped}
use Rattle.arbac_laws.specs.Needs.{Need}
use Rattle.arbac_laws.specs.Orders.{need_before}
use Rattle.arbac_laws.specs.NormalForms.{IsNormal, IsNormalNeed, insert_by, sort_by}
use Rattle.arbac_laws.proofs.OrderLemmas.{need_order}
use Rattle.arbac_laws.proofs.SortLemmas.{sort_by_in, sort_sorted}
use Rattle.req_core.proofs.HitLemmas.{drop_here, insert_at}
use Rattle.req_core.specs.Forms.{IsSpot}
use Rattle.shared_reqs.specs.Shared.{MarkedNeed, AreOwnMarks, IsOwnMark, marked_before, marked_by, needs_marked}

-- what is wanted of the user is in normal form
abbrev pub IsNormalUser : MarkedNeed → Type 0
IsNormalUser user = IsNormalNeed user.need

-- the users from a place on, sorted
pub record AreSortedFrom (users : List MarkedNeed) (at : ℕ) (list : List MarkedNeed) : Type 0 where
  pub sorted : list ≡ sort_by marked_before (drop at users)
  pub normal : Each IsNormalUser (drop at users)

-- one user more, before the others
pub sorted_more : (users : List MarkedNeed) (at next : ℕ) (one : MarkedNeed) (list more : List MarkedNeed) → next ≡ suc at
    → slice_get users at ≡ Some one → IsNormalUser one → more ≡ insert_by marked_before one list → AreSortedFrom users next list
    → AreSortedFrom users at more
sorted_more users at next one list more after here normal inserted s =
    let rest : AreSortedFrom users (suc at) list = subst (λ n. AreSortedFrom users n list) after s in
    let all : drop at users ≡ one ∷ drop (suc at) users = drop_here users at one here in
    record {
      sorted = inserted ∙ ap (insert_by marked_before one) rest.sorted ∙ ap (sort_by marked_before) (sym all);
      normal = subst (Each IsNormalUser) (sym all) (normal, rest.normal);
    }

-- sorting users sorts what is wanted of them

needs_inserted : (user : MarkedNeed) (users : List MarkedNeed)
    → needs_marked (insert_by marked_before user users) ≡ insert_by need_before user.need (needs_marked users)
needs_inserted user [] = refl
needs_inserted user (other ∷ users) = by_test (need_before other.need user.need) (needs_inserted user users)
  where
    by_test : (t : Bool) → needs_marked (insert_by marked_before user users) ≡ insert_by need_before user.need (needs_marked users)
        → needs_marked (cond t (other ∷ insert_by marked_before user users) (user ∷ other ∷ users))
        ≡ cond t (other.need ∷ insert_by need_before user.need (needs_marked users)) (user.need ∷ other.need ∷ needs_marked users)
    by_test true rest = ap (λ l. other.need ∷ l) rest
    by_test false rest = refl

pub needs_sorted : (users : List MarkedNeed) → needs_marked (sort_by marked_before users) ≡ sort_by need_before (needs_marked users)
needs_sorted [] = refl
needs_sorted (user ∷ users) =
    needs_inserted user (sort_by marked_before users) ∙ ap (insert_by need_before user.need) (needs_sorted users)

needs_normal : (users : List MarkedNeed) → Each IsNormalUser users → Each IsNormalNeed (needs_marked users)
needs_normal [] normal = tt
needs_normal (user ∷ users) normal = (normal.0, needs_normal users normal.1)

-- all users are sorted, and so they are a requirement in normal form
pub sorted_normal : (users list : List MarkedNeed) → AreSortedFrom users 0 list → IsNormal (needs_marked list)
sorted_normal users list s =
    let is : needs_marked list ≡ sort_by need_before (needs_marked users) = ap (λ l. needs_marked l) s.sorted ∙ needs_sorted users in
    subst IsNormal (sym is) (record {
      each = sort_by_in need_before IsNormalNeed (needs_marked users) (needs_normal users s.normal);
      sorted = sort_sorted need_before need_order (needs_marked users);
    })

-- an item put in by what it is seen as

-- a place in a list is one in what its items are seen as
pub spot_seen : {A B : Type 0} (view : A → B) (before : B → B → Bool) (x : A) (ys : List A) (at : ℕ)
    → IsSpot (λ a b. before (view a) (view b)) x ys at → IsSpot before (view x) (map view ys) at
spot_seen {A} {B} view before x ys at spot = record {
  within = let long = length-map ys view in let less = spot.within in omega (arith, long, less);
  earlier = λ k y less there. let one = get_mapped view ys k y there in
      subst (λ (v : B). before v (view x) ≡ true) (sym one.2) (spot.earlier k one.0 less one.1);
  here = λ y there. let one = get_mapped view ys at y there in
      subst (λ (v : B). before v (view x) ≡ false) (sym one.2) (spot.here one.0 one.1);
}

map_insert : {A B : Type 0} (view : A → B) (x : A) (ys : List A) (at : ℕ) → map view (insert ys at x) ≡ insert (map view ys) at (view x)
map_insert view x [] zero = refl
map_insert view x [] (suc at) = refl
map_insert view x (y ∷ ys) zero = refl
map_insert view x (y ∷ ys) (suc at) = ap (λ t. view y ∷ t) (map_insert view x ys at)

-- a copy that is put in at the place is inserted in order
pub copy_inserted : {A B : Type 0} (view : A → B) (before : B → B → Bool) (x copy : A) (ys : List A) (at : ℕ)
    → IsSpot (λ a b. before (view a) (view b)) x ys at → view copy ≡ view x
    → map view (insert ys at copy) ≡ insert_by before (view x) (map view ys)
copy_inserted view before x copy ys at spot same =
    map_insert view copy ys at
    ∙ ap (λ v. insert (map view ys) at v) same
    ∙ insert_at before (view x) (map view ys) at (spot_seen view before x ys at spot)

-- users that are chosen, and sorted

pub each_set : {A : Type 0} (P : A → Type 0) (xs : List A) (i : ℕ) (x : A) → Each P xs → P x → Each P (slice_set xs i x)
each_set P [] i x each one = each
each_set P (y ∷ ys) zero x each one = (one, each.1)
each_set P (y ∷ ys) (suc i) x each one = (each.0, each_set P ys i x each.1 one)

-- another user at a place of those that are borrowed
pub borrowed_set : (list : List (Bor (Arc MarkedNeed Global))) (i : ℕ) (user : Bor (Arc MarkedNeed Global)) (users : List MarkedNeed)
    → marked_by list ≡ users → marked_by (slice_set list i user) ≡ slice_set users i user.now.value
borrowed_set list i user users are =
    map-set (λ (u : Bor (Arc MarkedNeed Global)). u.now.value) list i user ∙ ap (λ l. slice_set l i user.now.value) are

pub borrowed_push : (list : List (Bor (Arc MarkedNeed Global))) (user : Bor (Arc MarkedNeed Global)) (users : List MarkedNeed)
    → marked_by list ≡ users → marked_by (list ++ user ∷ []) ≡ users ++ user.now.value ∷ []
borrowed_push list user users are =
    map_push (λ (u : Bor (Arc MarkedNeed Global)). u.now.value) list user ∙ ap (λ l. l ++ user.now.value ∷ []) are

pub needs_set : (users : List MarkedNeed) (i : ℕ) (user : MarkedNeed) → needs_marked (slice_set users i user) ≡ slice_set (needs_marked users) i user.need
needs_set users i user = map-set (λ (m : MarkedNeed). m.need) users i user

pub needs_push : (users : List MarkedNeed) (user : MarkedNeed) → needs_marked (users ++ user ∷ []) ≡ needs_marked users ++ user.need ∷ []
needs_push users user = map_push (λ (m : MarkedNeed). m.need) users user

pub ok_weaker : {T E : Type 0} (P Q : T → Type 0) (result : Result T E) → ((x : T) → P x → Q x) → IfOk result P → IfOk result Q
ok_weaker P Q (Ok x) f h = f x h
ok_weaker P Q (Err e) f h = h

-- what is wanted of them
pub chosen_needs : {E : Type 0} (result : Result (List MarkedNeed) E) (list users : List MarkedNeed) (needs : List Need)
    → IfOk result (λ made. made ≡ sort_by marked_before list) → list ≡ users → needs_marked users ≡ needs
    → IfOk result (λ made. needs_marked made ≡ sort_by need_before needs)
chosen_needs result list users needs sorted chosen are =
    ok_weaker (λ made. made ≡ sort_by marked_before list) (λ made. needs_marked made ≡ sort_by need_before needs) result
    (λ made is. ap (λ l. needs_marked l) is ∙ needs_sorted list ∙ ap (λ l. sort_by need_before (needs_marked l)) chosen
    ∙ ap (sort_by need_before) are) sorted

-- they keep their own marks
pub chosen_marks : {E : Type 0} (result : Result (List MarkedNeed) E) (list users : List MarkedNeed)
    → IfOk result (λ made. made ≡ sort_by marked_before list) → list ≡ users
    → IfOk result (λ made. (order : Graph) → AreOwnMarks order users → AreOwnMarks order made)
chosen_marks result list users sorted chosen =
    ok_weaker (λ made. made ≡ sort_by marked_before list) (λ made. (order : Graph) → AreOwnMarks order users → AreOwnMarks order made) result
    (λ made is order own. subst (AreOwnMarks order) (sym (is ∙ ap (sort_by marked_before) chosen))
    (sort_by_in marked_before (IsOwnMark order) users own)) sorted
