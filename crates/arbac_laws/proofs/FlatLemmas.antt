-- What is in the lists that the list of obligations is made of.
use Rattle.std.proofs.Common.{ℕ, ◌≡◌, ◌<◌, ◌+◌, List, [], ◌∷◌, length, map, Some, arith, zero, suc, sym, ◌∙◌, ap, eqb, Bool, true}
use Rattle.std.proofs.Common.{false, not, ◌||◌, ◌&&◌, cond, subst, refl, inl, inr}
use Rattle.std.specs.Prelude.{slice_get, ◌⊎◌, filter}
use Rattle.std.proofs.lemmas.Bool.{eq-eqb, ne_eqb}
use Rattle.std.specs.List.{list_any}
use Rattle.list_words.proofs.TestLemmas.{and_both}
use Rattle.list_words.specs.Lists.{IsOneOf, Some_of}
use Rattle.role_order.specs.Ranges.{IsInRange}
use Rattle.role_order.specs.Reach.{count_up, seniors_of}
use Rattle.role_order.specs.Roles.{IsIn, has_role}
use Rattle.role_order.specs.declared.range.Range.{Range}
use Rattle.arbac_policy.specs.Rules.{Rules}
use Rattle.arbac_laws.specs.Obligations.{flat, flat_places, if_wanted, is_in_range, picks, roles_in}
use Rattle.arbac_laws.specs.PreImages.{IsPick, Pick, itself, other, fresh}
use Rattle.list_words.proofs.EachLemmas.{map_some, some_cases, some_left, some_map, some_right}
use Rattle.arbac_laws.proofs.ConjunctLemmas.{AreSeniors}

-- Some_of over the words that make lists

pub some_flat : {A B : Type 0} (P : B → Type 0) (f : A → List B) (xs : List A) (x : A) → IsOneOf xs x → Some_of P (f x) → Some_of P (flat f xs)
some_flat P f xs x i h = at_place P f xs x i.0 i.1 h
  where
    at_place : {A B : Type 0} (P : B → Type 0) (f : A → List B) (xs : List A) (x : A) (i : ℕ) → slice_get xs i ≡ Some x → Some_of P (f x)
        → Some_of P (flat f xs)
    at_place P f [] x i e h = cc
    at_place P f (y ∷ ys) x zero e h = let same : x ≡ y = cc in some_left P (f y) (flat f ys) (subst (λ z. Some_of P (f z)) same h)
    at_place P f (y ∷ ys) x (suc i) e h = some_right P (f y) (flat f ys) (at_place P f ys x i e h)

pub flat_some : {A B : Type 0} (P : B → Type 0) (f : A → List B) (xs : List A) → Some_of P (flat f xs) → Some_of (λ x. Some_of P (f x)) xs
flat_some P f [] h = h
flat_some P f (x ∷ xs) h = by_side (some_cases P (f x) (flat f xs) h) (flat_some P f xs)
  where
    by_side : Some_of P (f x) ⊎ Some_of P (flat f xs) → (Some_of P (flat f xs) → Some_of (λ x. Some_of P (f x)) xs)
        → Some_of (λ x. Some_of P (f x)) (x ∷ xs)
    by_side (inl k) rest = inl k
    by_side (inr k) rest = inr (rest k)

pub some_places : {A B : Type 0} (P : B → Type 0) (f : ℕ → A → List B) (at : ℕ) (xs : List A) (i : ℕ) (x : A) → slice_get xs i ≡ Some x
    → Some_of P (f (at + i) x) → Some_of P (flat_places f at xs)
some_places P f at [] i x e h = cc
some_places P f at (y ∷ ys) zero x e h =
    let same : x ≡ y = cc in let n : at + 0 ≡ at = omega arith in
    some_left P (f at y) (flat_places f (at + 1) ys) (subst (λ z. Some_of P (f at z)) same (subst (λ k. Some_of P (f k x)) n h))
some_places P f at (y ∷ ys) (suc i) x e h =
    let n : at + suc i ≡ (at + 1) + i = omega arith in
    some_right P (f at y) (flat_places f (at + 1) ys) (some_places P f (at + 1) ys i x e (subst (λ k. Some_of P (f k x)) n h))

pub places_some : {A B : Type 0} (P : B → Type 0) (f : ℕ → A → List B) (at : ℕ) (xs : List A) → Some_of P (flat_places f at xs) → (i : ℕ)
    × (x : A)
    × (slice_get xs i ≡ Some x) × Some_of P (f (at + i) x)
places_some P f at [] h = absurd h
places_some P f at (y ∷ ys) h = by_side (some_cases P (f at y) (flat_places f (at + 1) ys) h) (places_some P f (at + 1) ys)
  where
    by_side : Some_of P (f at y) ⊎ Some_of P (flat_places f (at + 1) ys)
        → (Some_of P (flat_places f (at + 1) ys) → (i : ℕ) × (x : _) × (slice_get ys i ≡ Some x) × Some_of P (f ((at + 1) + i) x))
        → (i : ℕ) × (x : _) × (slice_get (y ∷ ys) i ≡ Some x) × Some_of P (f (at + i) x)
    by_side (inl k) rest = let n : at ≡ at + 0 = omega arith in (0, y, refl, subst (λ m. Some_of P (f m y)) n k)
    by_side (inr k) rest =
        let r = rest k in let n : (at + 1) + r.0 ≡ at + suc r.0 = omega arith in (suc r.0, r.1, r.2, subst (λ m. Some_of P (f m r.1)) n r.3)

-- from place 0 on
pub some_places_0 : {A B : Type 0} (P : B → Type 0) (f : ℕ → A → List B) (xs : List A) (i : ℕ) (x : A) → slice_get xs i ≡ Some x
    → Some_of P (f i x) → Some_of P (flat_places f 0 xs)
some_places_0 P f xs i x e h = let n : i ≡ 0 + i = omega arith in some_places P f 0 xs i x e (subst (λ k. Some_of P (f k x)) n h)

pub places_some_0 : {A B : Type 0} (P : B → Type 0) (f : ℕ → A → List B) (xs : List A) → Some_of P (flat_places f 0 xs) → (i : ℕ) × (x : A)
    × (slice_get xs i ≡ Some x) × Some_of P (f i x)
places_some_0 P f xs h = let r = places_some P f 0 xs h in let n : 0 + r.0 ≡ r.0 = omega arith in (r.0, r.1, r.2, subst (λ k. Some_of P (f k r.1)) n r.3)

pub some_filter : (P : ℕ → Type 0) (test : ℕ → Bool) (xs : List ℕ) (x : ℕ) → Some_of (λ y. y ≡ x) xs → test x ≡ true → P x
    → Some_of P (filter test xs)
some_filter P test [] x h t p = h
some_filter P test (y ∷ ys) x (inl e) t p = let yes' : test y ≡ true = ap test e ∙ t in rw yes' (inl (subst P (sym e) p))
some_filter P test (y ∷ ys) x (inr h) t p = by_test (test y) (some_filter P test ys x h t p)
  where
    by_test : (b : Bool) → Some_of P (filter test ys) → Some_of P (cond b (y ∷ filter test ys) (filter test ys))
    by_test true k = inr k
    by_test false k = k

pub filter_some : (P : ℕ → Type 0) (test : ℕ → Bool) (xs : List ℕ) → Some_of P (filter test xs) → Some_of (λ x. (test x ≡ true) × P x) xs
filter_some P test [] h = h
filter_some P test (y ∷ ys) h = by_test (test y) refl h (filter_some P test ys)
  where
    by_test : (b : Bool) → test y ≡ b → Some_of P (cond b (y ∷ filter test ys) (filter test ys))
        → (Some_of P (filter test ys) → Some_of (λ x. (test x ≡ true) × P x) ys)
        → Some_of (λ x. (test x ≡ true) × P x) (y ∷ ys)
    by_test true e (inl p) rest = inl (e, p)
    by_test true e (inr k) rest = inr (rest k)
    by_test false e k rest = inr (rest k)

pub in_count : (at n k : ℕ) → k < n → Some_of (λ y. y ≡ at + k) (count_up at n)
in_count at zero k l = absurd (omega arith)
in_count at (suc n) zero l = inl (omega arith)
in_count at (suc n) (suc k) l =
    let e : (at + 1) + k ≡ at + suc k = omega arith in
    inr (subst (λ m. Some_of (λ y. y ≡ m) (count_up (at + 1) n)) e (in_count (at + 1) n k (omega arith)))

pub count_in : (P : ℕ → Type 0) (at n : ℕ) → Some_of P (count_up at n) → (k : ℕ) × (k < at + n) × P k
count_in P at zero h = absurd h
count_in P at (suc n) (inl p) = (at, omega arith, p)
count_in P at (suc n) (inr h) = let r = count_in P (at + 1) n h in (r.0, omega (arith, r.1), r.2)

pub in_count_0 : (n k : ℕ) → k < n → Some_of (λ y. y ≡ k) (count_up 0 n)
in_count_0 n k l = let e : 0 + k ≡ k = omega arith in subst (λ m. Some_of (λ y. y ≡ m) (count_up 0 n)) e (in_count 0 n k l)

-- ranges

pub open_end : (open' : Bool) (x y : ℕ) → (open' ≡ true → ¬ (x ≡ y)) → not (open' && eqb x y) ≡ true
open_end true x y h = rw (ne_eqb x y (h refl)) refl
open_end false x y h = refl

pub end_open : (open' : Bool) (x y : ℕ) → not (open' && eqb x y) ≡ true → open' ≡ true → ¬ (x ≡ y)
end_open true x y h o = λ e. let same = eq-eqb x y e in cc
end_open false x y h o = λ e. cc

pub in_range : (rules : Rules) → AreSeniors rules.order → (range : Range) (role : ℕ) → IsInRange rules.order range role
    → is_in_range rules.order range role ≡ true
in_range rules same range role h =
    let low = (same range.low role).1 h.above_low in
    let high = (same role range.high).1 h.below_high in
    rw (low, high, open_end range.low_open role range.low h.low, open_end range.high_open role range.high h.high) refl

pub range_in : (rules : Rules) → AreSeniors rules.order → (range : Range) (role : ℕ) → role < length rules.order.names
    → is_in_range rules.order range role ≡ true → IsInRange rules.order range role
range_in rules same range role l h =
    let a = and_both (has_role (seniors_of rules.order range.low) role)
    (has_role (seniors_of rules.order role) range.high && (not (range.low_open && eqb role range.low) && not (range.high_open && eqb role range.high))) h in
    let b = and_both (has_role (seniors_of rules.order role) range.high)
    (not (range.low_open && eqb role range.low) && not (range.high_open && eqb role range.high)) a.1 in
    let c = and_both (not (range.low_open && eqb role range.low)) (not (range.high_open && eqb role range.high)) b.1 in
    record {
      is_role = l;
      above_low = (same range.low role).0 a.0;
      below_high = (same role range.high).0 b.0;
      low = end_open range.low_open role range.low c.0;
      high = end_open range.high_open role range.high c.1;
    }

pub any_some : (role : ℕ) (hits : List (List ℕ)) → Some_of (λ hit. IsIn hit role) hits → list_any (λ hit. has_role hit role) hits ≡ true
any_some role [] h = absurd h
any_some role (hit ∷ hits) (inl h) = rw h refl
any_some role (hit ∷ hits) (inr h) = by_test (has_role hit role) (any_some role hits h)
  where
    by_test : (t : Bool) → list_any (λ hit. has_role hit role) hits ≡ true → (t || list_any (λ hit. has_role hit role) hits) ≡ true
    by_test true e = refl
    by_test false e = e

pub some_any : (role : ℕ) (hits : List (List ℕ)) → list_any (λ hit. has_role hit role) hits ≡ true → Some_of (λ hit. IsIn hit role) hits
some_any role [] h = cc
some_any role (hit ∷ hits) h = by_test (has_role hit role) refl h (some_any role hits)
  where
    by_test : (t : Bool) → has_role hit role ≡ t → (t || list_any (λ hit. has_role hit role) hits) ≡ true
        → (list_any (λ hit. has_role hit role) hits ≡ true → Some_of (λ hit. IsIn hit role) hits)
        → Some_of (λ hit. IsIn hit role) (hit ∷ hits)
    by_test true e h rest = inl e
    by_test false e h rest = inr (rest h)

pub some_wanted : (P : ℕ → Type 0) (t : Bool) (place : ℕ) → t ≡ true → P place → Some_of P (if_wanted t place)
some_wanted P true place e p = inl p
some_wanted P false place e p = cc

pub wanted_some : (P : ℕ → Type 0) (t : Bool) (place : ℕ) → Some_of P (if_wanted t place) → (t ≡ true) × P place
wanted_some P true place (inl p) = (refl, p)
wanted_some P true place (inr h) = absurd h
wanted_some P false place h = absurd h

-- administrators

pub some_pick : (P : Pick → Type 0) (target count : ℕ) (pick : Pick) → IsPick pick target count → P pick → Some_of P (picks target count)
some_pick P target count itself is p = inl p
some_pick P target count (other place) is p =
    inr (some_left P (map other (filter (λ j. not (eqb j target)) (count_up 0 count))) (fresh ∷ [])
    (some_map other P (filter (λ j. not (eqb j target)) (count_up 0 count))
    (some_filter (λ j. P (other j)) (λ j. not (eqb j target)) (count_up 0 count) place (in_count_0 count place is.0) (rw (ne_eqb place target is.1) refl) p)))
some_pick P target count fresh is p = inr (some_right P (map other (filter (λ j. not (eqb j target)) (count_up 0 count))) (fresh ∷ []) (inl p))

pub pick_some : (P : Pick → Type 0) (target count : ℕ) → Some_of P (picks target count) → (pick : Pick) × IsPick pick target count × P pick
pick_some P target count (inl p) = (itself, tt, p)
pick_some P target count (inr h) = by_side (some_cases P (map other (filter (λ j. not (eqb j target)) (count_up 0 count))) (fresh ∷ []) h)
  where
    differ : (j : ℕ) → not (eqb j target) ≡ true → j ≡ target → ⊥
    differ j t e = let yes' = eq-eqb j target e in let no' : not (eqb j target) ≡ false = rw yes' refl in cc

    by_side : Some_of P (map other (filter (λ j. not (eqb j target)) (count_up 0 count))) ⊎ Some_of P (fresh ∷ []) → (pick : Pick)
        × IsPick pick target count × P pick
    by_side (inr (inl p)) = (fresh, tt, p)
    by_side (inr (inr k)) = absurd k
    by_side (inl k) =
        let r = count_in (λ j. (not (eqb j target) ≡ true) × P (other j)) 0 count
        (filter_some (λ j. P (other j)) (λ j. not (eqb j target)) (count_up 0 count)
        (map_some other P (filter (λ j. not (eqb j target)) (count_up 0 count)) k)) in
        let l : r.0 < count = omega (arith, r.1) in
        (other r.0, (l, differ r.0 r.2.0), r.2.1)

pub some_role : (P : ℕ → Type 0) (rules : Rules) → AreSeniors rules.order → (range : Range) (role : ℕ) → IsInRange rules.order range role
    → Some_of (λ r. r ≡ role) (roles_in rules.order range)
some_role P rules same range role h =
    some_filter (λ r. r ≡ role) (is_in_range rules.order range) (count_up 0 (length rules.order.names)) role
    (in_count_0 (length rules.order.names) role h.is_role) (in_range rules same range role h) refl

pub role_some : (P : ℕ → Type 0) (rules : Rules) → AreSeniors rules.order → (range : Range) → Some_of P (roles_in rules.order range) → (role : ℕ)
    × IsInRange rules.order range role × P role
role_some P rules same range h =
    let r = count_in (λ role. (is_in_range rules.order range role ≡ true) × P role) 0 (length rules.order.names)
    (filter_some P (is_in_range rules.order range) (count_up 0 (length rules.order.names)) h) in
    (r.0, range_in rules same range r.0 (let l = r.1 in omega (arith, l)) r.2.0, r.2.1)
