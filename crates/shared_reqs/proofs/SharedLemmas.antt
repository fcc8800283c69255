-- Shared user requirements in a list, and lists that are compared item by item.
use Rattle.std.proofs.Common.{ℕ, ◌≡◌, ◌<◌, ◌≤◌, ◌+◌, ◌∙◌, Bool, true, false, List, [], ◌∷◌, ◌++◌, length, get_or}
use Rattle.std.proofs.Common.{map, take, drop, Some, Result, Ok, Err, Global, Bor, zero, suc, refl, ap, sym, subst, arith}
use Rattle.std.specs.Prelude.{◌↔◌, IfOk, MatchResult, slice_get, nat_lt, min}
use Rattle.std.specs.declared.sync.Arc.{Arc}
use Rattle.std.proofs.lemmas.List.{length-map, map_push}
use Rattle.std.proofs.lemmas.Bool.Decides.{nat_tests}
use Rattle.list_words.specs.Orders.{list_before}
use Rattle.list_words.proofs.GetLemmas.{get_at, get_map, same_some, take_all, take_one_more}
use Rattle.role_order.specs.Graph.{Graph}
use Rattle.arbac_laws.specs.Needs.{Need}
use Rattle.need_marks.specs.Marks.{AreUserMarks}
use Rattle.req_core.proofs.HitLemmas.{drop_here}
use Rattle.shared_reqs.specs.Shared.{MarkedNeed, AreOwnMarks, marked_by, marked_of, marks_marked, needs_marked, needs_shared}

-- what is wanted of the user at a place
pub need_there : (users : List (Arc MarkedNeed Global)) (at : ℕ) (one : Arc MarkedNeed Global) → slice_get users at ≡ Some one
    → slice_get (needs_shared users) at ≡ Some one.value.need
need_there users at one here = get_map (λ (m : MarkedNeed). m.need) (marked_of users) at one.value (get_map (λ u. u.value) users at one here)

-- comparing lists item by item

-- one item more is the same
pub same_more : {A : Type 0} (xs ys : List A) (i : ℕ) (x y : A) → slice_get xs i ≡ Some x → slice_get ys i ≡ Some y → x ≡ y
    → take i xs ≡ take i ys → take (i + 1) xs ≡ take (i + 1) ys
same_more xs ys i x y at there same before =
    take_one_more xs i x at
    ∙ ap (λ l. l ++ x ∷ []) before
    ∙ ap (λ v. take i ys ++ v ∷ []) same
    ∙ sym (take_one_more ys i y there)

pub shared_long : (users : List (Arc MarkedNeed Global)) → length (needs_shared users) ≡ length users
shared_long users = length-map (marked_of users) (λ (m : MarkedNeed). m.need) ∙ length-map users (λ (u : Arc MarkedNeed Global). u.value)

-- one item more neither decides
pub before_more : {A : Type 0} (before : A → A → Bool) (xs ys : List A) (i j : ℕ) (x y : A) → j ≡ suc i
    → slice_get xs i ≡ Some x → slice_get ys i ≡ Some y → before x y ≡ false → before y x ≡ false
    → list_before before (drop j xs) (drop j ys) ≡ list_before before (drop i xs) (drop i ys)
before_more before xs ys i j x y next at there first last = rw (next, drop_here xs i x at, drop_here ys i y there, first, last) refl

-- the first that differ decide
pub before_by : {A : Type 0} (before : A → A → Bool) (xs ys : List A) (i : ℕ) (x y : A)
    → slice_get xs i ≡ Some x → slice_get ys i ≡ Some y → before x y ≡ true → true ≡ list_before before (drop i xs) (drop i ys)
before_by before xs ys i x y at there first = rw (drop_here xs i x at, drop_here ys i y there, first) refl

pub before_not : {A : Type 0} (before : A → A → Bool) (xs ys : List A) (i : ℕ) (x y : A)
    → slice_get xs i ≡ Some x → slice_get ys i ≡ Some y → before x y ≡ false → before y x ≡ true
    → false ≡ list_before before (drop i xs) (drop i ys)
before_not before xs ys i x y at there first last = rw (drop_here xs i x at, drop_here ys i y there, first, last) refl

lifted : (m n : ℕ) → nat_lt (suc m) (suc n) ≡ nat_lt m n
lifted m n = grind (arith, nat_tests)

-- where the shorter list ends, the shorter one comes first
pub before_ends : {A : Type 0} (before : A → A → Bool) (i : ℕ) (xs ys : List A) → i ≡ min (length xs) (length ys)
    → nat_lt (length xs) (length ys) ≡ list_before before (drop i xs) (drop i ys)
before_ends before zero [] [] e = refl
before_ends before zero [] (y ∷ ys) e = grind (arith, nat_tests)
before_ends before zero (x ∷ xs) [] e = grind (arith, nat_tests)
before_ends before zero (x ∷ xs) (y ∷ ys) e = absurd (omega (arith, e))
before_ends before (suc i) [] ys e = absurd (omega (arith, e))
before_ends before (suc i) (x ∷ xs) [] e = absurd (omega (arith, e))
before_ends before (suc i) (x ∷ xs) (y ∷ ys) e = lifted (length xs) (length ys) ∙ before_ends before i xs ys (omega (arith, e))

-- requirements with their marks

-- the first user requirements, with their own marks
pub record AreMarkedFirst (order : Graph) (all : List Need) (i : ℕ) (users : List MarkedNeed) : Type 0 where
  pub needs : needs_marked users ≡ take i all
  pub marks : AreOwnMarks order users

-- users with their own marks are marked one by one
pub marked_each : (order : Graph) (users : List MarkedNeed) → AreOwnMarks order users
    → AreUserMarks order (needs_marked users) (marks_marked users)
marked_each order [] own = tt
marked_each order (user ∷ users) own = (own.0, marked_each order users own.1)

-- one user more of a list that is seen as another
pub seen_next : {A : Type 0} (view : MarkedNeed → A) (users : List (Arc MarkedNeed Global)) (i : ℕ) (one : Arc MarkedNeed Global) (items more : List A)
    → slice_get users i ≡ Some one → items ≡ take i (map view (marked_of users)) → more ≡ items ++ view one.value ∷ []
    → more ≡ take (i + 1) (map view (marked_of users))
seen_next view users i one items more at before grown =
    let there : slice_get (map view (marked_of users)) i ≡ Some (view one.value) =
    get_map view (marked_of users) i one.value (get_map (λ (u : Arc MarkedNeed Global). u.value) users i one at) in
    grown ∙ ap (λ l. l ++ view one.value ∷ []) before ∙ sym (take_one_more (map view (marked_of users)) i (view one.value) there)

-- at the end all users are seen
pub seen_all : {A : Type 0} (view : MarkedNeed → A) (users : List (Arc MarkedNeed Global)) (i : ℕ) (items : List A) → length users ≤ i
    → items ≡ take i (map view (marked_of users)) → items ≡ map view (marked_of users)
seen_all view users i items end seen =
    let long = length-map (marked_of users) view in
    let more = length-map users (λ (u : Arc MarkedNeed Global). u.value) in
    seen ∙ take_all (map view (marked_of users)) i (omega (arith, long, more, end))

-- one user more is borrowed
pub borrowed_next : (users : List (Arc MarkedNeed Global)) (i : ℕ) (one : Arc MarkedNeed Global) (list new : List (Bor (Arc MarkedNeed Global)))
    (user : Bor (Arc MarkedNeed Global)) → slice_get users i ≡ Some one → marked_by list ≡ take i (marked_of users) → new ≡ list ++ user ∷ []
    → user.now ≡ one → marked_by new ≡ take (i + 1) (marked_of users)
borrowed_next users i one list new user at before grown same =
    ap (λ l. marked_by l) grown
    ∙ map_push (λ (u : Bor (Arc MarkedNeed Global)). u.now.value) list user
    ∙ ap (λ l. l ++ user.now.value ∷ []) before
    ∙ ap (λ (u : Arc MarkedNeed Global). take i (marked_of users) ++ u.value ∷ []) same
    ∙ sym (take_one_more (marked_of users) i one.value (get_map (λ (u : Arc MarkedNeed Global). u.value) users i one at))

-- finding an item

-- what a slice's item at a place is, from its two tests
pub looked_up : {A : Type 0} (xs : List A) (i : ℕ) (x d : A) → true ≡ nat_lt i (length xs) → x ≡ get_or xs i d → slice_get xs i ≡ Some x
looked_up xs i x d test is =
    let within : i < length xs = grind (arith, nat_tests) in
    get_at xs i d within ∙ ap (λ (y : _). Some y) (sym is)

-- the item there is tested
pub tested_there : {A : Type 0} (T : Type 0) (xs : List A) (i : ℕ) (x y : A) → slice_get xs i ≡ Some x → T ↔ (x ≡ y) → T ↔ (slice_get xs i ≡ Some y)
tested_there T xs i x y at test = (λ t. at ∙ ap (λ (z : _). Some z) (test.0 t), λ there. test.1 (same_some x y (sym at ∙ there)))

-- a copy is as what was copied
pub copied : {E : Type 0} (P : MarkedNeed → Type 0) (Q : E → Type 0) (result : Result (Arc MarkedNeed Global) E) (one : MarkedNeed)
    → MatchResult result (λ copy. copy.value ≡ one) Q → P one → IfOk result (λ copy. P copy.value)
copied P Q (Ok copy) one same p = subst P (sym same) p
copied P Q (Err e) one same p = tt
