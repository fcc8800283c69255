-- Where users stand in a normal form: a stable sort gives places, and there are no others.
use Rattle.std.proofs.Common.{ℕ, ◌≡◌, ◌<◌, ◌≤◌, ◌+◌, not, List, [], ◌∷◌, length, map, get_or, Some, arith, zero, suc, sym}
use Rattle.std.proofs.Common.{◌∙◌, ap, Bool, true, false, cond, subst, refl, inl, inr}
use Rattle.std.specs.Prelude.{◌⊎◌, slice_get}
use Rattle.std.proofs.lemmas.List.{ext_get_or}
use Rattle.list_words.specs.Lists.{Each}
use Rattle.list_words.specs.Orders.{IsTotalOrder, AreSorted}
use Rattle.list_words.proofs.TestLemmas.{not_false}
use Rattle.list_words.specs.Embeds.{Embeds}
use Rattle.arbac_laws.specs.Needs.{IsPossible, Need}
use Rattle.arbac_laws.specs.Orders.{need_before}
use Rattle.arbac_laws.specs.NormalForms.{AreFormPlaces, insert_by, is_impossible, normal_form, normal_need, sort_by}
use Rattle.list_words.proofs.CountLemmas.{counted, cut, embeds_long, get_cut, shift, shift_apart, count}
use Rattle.list_words.proofs.NumberLemmas.{compare}
use Rattle.list_words.proofs.EmbedLemmas.{find_place}
use Rattle.list_words.proofs.GetLemmas.{get_below, get_there, same_some, some_cond}
use Rattle.arbac_laws.proofs.NormalLemmas.{possible_not}
use Rattle.arbac_laws.proofs.OrderLemmas.{need_order}
use Rattle.list_words.proofs.OrderLemmas.{is_same, sorted_same}
use Rattle.arbac_laws.proofs.SortLemmas.{sort_sorted}
use Rattle.list_words.proofs.PlaceLemmas.{from_places, get-told, told, told_places}

-- one item put in

-- where the item is put
abbrev pub spot : {A : Type 0} → (A → A → Bool) → A → List A → ℕ
spot before x [] = 0
spot before x (y ∷ ys) = cond (before y x) (suc (spot before x ys)) 0

-- where a place goes once an item is put in at k
abbrev pub pushed : ℕ → ℕ → ℕ
pushed zero p = suc p
pushed (suc k) zero = 0
pushed (suc k) (suc p) = suc (pushed k p)

pub pushed_apart : (k p q : ℕ) → pushed k p ≡ pushed k q → p ≡ q
pushed_apart zero p q e = omega (arith, e)
pushed_apart (suc k) zero zero e = refl
pushed_apart (suc k) zero (suc q) e = absurd (omega (arith, e))
pushed_apart (suc k) (suc p) zero e = absurd (omega (arith, e))
pushed_apart (suc k) (suc p) (suc q) e = ap suc (pushed_apart k p q (omega (arith, e)))

pub pushed_away : (k p : ℕ) → k ≡ pushed k p → ⊥
pushed_away zero p e = omega (arith, e)
pushed_away (suc k) zero e = omega (arith, e)
pushed_away (suc k) (suc p) e = pushed_away k p (omega (arith, e))

pub pushed_rises : (k p q : ℕ) → p < q → pushed k p < pushed k q
pushed_rises zero p q l = omega arith
pushed_rises (suc k) zero zero l = absurd (omega arith)
pushed_rises (suc k) zero (suc q) l = omega arith
pushed_rises (suc k) (suc p) zero l = absurd (omega arith)
pushed_rises (suc k) (suc p) (suc q) l = let r = pushed_rises k p q (omega arith) in omega (arith, r)

pub pushed_behind : (k p : ℕ) → k ≤ p → k < pushed k p
pushed_behind zero p l = omega arith
pushed_behind (suc k) zero l = absurd (omega arith)
pushed_behind (suc k) (suc p) l = let r = pushed_behind k p (omega arith) in omega (arith, r)

pub get_spot : {A : Type 0} (before : A → A → Bool) (x : A) (ys : List A) → slice_get (insert_by before x ys) (spot before x ys) ≡ Some x
get_spot before x [] = refl
get_spot before x (y ∷ ys) = by_test (before y x) (get_spot before x ys)
  where
    by_test : (t : Bool) → slice_get (insert_by before x ys) (spot before x ys) ≡ Some x
        → slice_get (cond t (y ∷ insert_by before x ys) (x ∷ y ∷ ys)) (cond t (suc (spot before x ys)) 0) ≡ Some x
    by_test true rest = rest
    by_test false rest = refl

pub get_pushed : {A : Type 0} (before : A → A → Bool) (x : A) (ys : List A) (p : ℕ)
    → slice_get (insert_by before x ys) (pushed (spot before x ys) p) ≡ slice_get ys p
get_pushed before x [] p = refl
get_pushed before x (y ∷ ys) p = by_test (before y x) p (λ q. get_pushed before x ys q)
  where
    by_test : (t : Bool) (p : ℕ) → ((q : ℕ) → slice_get (insert_by before x ys) (pushed (spot before x ys) q) ≡ slice_get ys q)
        → slice_get (cond t (y ∷ insert_by before x ys) (x ∷ y ∷ ys)) (pushed (cond t (suc (spot before x ys)) 0) p) ≡ slice_get (y ∷ ys) p
    by_test true zero rest = refl
    by_test true (suc p) rest = rest p
    by_test false p rest = refl

-- it is put before those that equal it
pub spot_first : {A : Type 0} (before : A → A → Bool) → IsTotalOrder before → (x : A) (ys : List A) (p : ℕ) → slice_get ys p ≡ Some x
    → spot before x ys ≤ p
spot_first before o x [] p e = cc
spot_first before o x (y ∷ ys) zero e =
    let same : y ≡ x = same_some y x e in
    let no' : before y x ≡ false = not_false (before y x) (λ b. o.never x (subst (λ v. before v x ≡ true) same b)) in
    rw no' (omega arith)
spot_first before o x (y ∷ ys) (suc p) e = by_test (before y x) (spot_first before o x ys p e)
  where
    by_test : (t : Bool) → spot before x ys ≤ p → cond t (suc (spot before x ys)) 0 ≤ suc p
    by_test true l = omega arith
    by_test false l = omega arith

-- a stable sort of what a function makes of each item

-- where the item at a place goes
abbrev pub goes : {A B : Type 0} → (A → B) → (B → B → Bool) → List A → ℕ → ℕ
goes f before [] i = i
goes f before (x ∷ xs) zero = spot before (f x) (sort_by before (map f xs))
goes f before (x ∷ xs) (suc i) = pushed (spot before (f x) (sort_by before (map f xs))) (goes f before xs i)

pub record Stands {A B : Type 0} (f : A → B) (xs : List A) (ys : List B) (to : ℕ → ℕ) : Type 0 where
  pub apart : (i j : ℕ) → i < length xs → j < length xs → to i ≡ to j → i ≡ j
  pub each : (i : ℕ) (a : A) → slice_get xs i ≡ Some a → (b : B) × (slice_get ys (to i) ≡ Some b) × (f a ≡ b)
  pub stable : (i j : ℕ) (a b : A) → i < j → slice_get xs i ≡ Some a → slice_get xs j ≡ Some b → f a ≡ f b → to i < to j

pub one_more_stands : {A B : Type 0} (f : A → B) (before : B → B → Bool) → IsTotalOrder before → (x : A) (xs : List A)
    → Stands f xs (sort_by before (map f xs)) (goes f before xs) → Stands f (x ∷ xs) (sort_by before (map f (x ∷ xs))) (goes f before (x ∷ xs))
one_more_stands {A} {B} f before o x xs s = record { apart = apart; each = each; stable = stable }
  where
    ys : List B
    ys = sort_by before (map f xs)

    here : ℕ
    here = spot before (f x) ys

    to : ℕ → ℕ
    to = goes f before xs

    apart : (i j : ℕ) → i < length (x ∷ xs) → j < length (x ∷ xs) → goes f before (x ∷ xs) i ≡ goes f before (x ∷ xs) j → i ≡ j
    apart zero zero l m e = refl
    apart zero (suc j) l m e = absurd (pushed_away here (to j) e)
    apart (suc i) zero l m e = absurd (pushed_away here (to i) (sym e))
    apart (suc i) (suc j) l m e = ap suc (s.apart i j (omega arith) (omega arith) (pushed_apart here (to i) (to j) e))

    each : (i : ℕ) (a : A) → slice_get (x ∷ xs) i ≡ Some a → (b : B)
        × (slice_get (insert_by before (f x) ys) (goes f before (x ∷ xs) i) ≡ Some b)
        × (f a ≡ b)
    each zero a is = (f x, get_spot before (f x) ys, ap f (sym (same_some x a is)))
    each (suc i) a is = let one = s.each i a is in (one.0, get_pushed before (f x) ys (to i) ∙ one.1, one.2)

    stable : (i j : ℕ) (a b : A) → i < j → slice_get (x ∷ xs) i ≡ Some a → slice_get (x ∷ xs) j ≡ Some b → f a ≡ f b
        → goes f before (x ∷ xs) i < goes f before (x ∷ xs) j
    stable zero zero a b l m n e = absurd (omega arith)
    stable (suc i) zero a b l m n e = absurd (omega arith)
    stable zero (suc j) a b l m n e =
        let one = s.each j b n in
        pushed_behind here (to j) (spot_first before o (f x) ys (to j) (one.1 ∙ ap Some (sym (ap f (same_some x a m) ∙ e ∙ one.2))))
    stable (suc i) (suc j) a b l m n e = pushed_rises here (to i) (to j) (s.stable i j a b (omega arith) m n e)

pub sort_stands : {A B : Type 0} (f : A → B) (before : B → B → Bool) → IsTotalOrder before → (xs : List A)
    → Stands f xs (sort_by before (map f xs)) (goes f before xs)
sort_stands f before o [] = record { apart = λ i j l m e. e; each = λ i a is. cc; stable = λ i j a b l m n e. cc }
sort_stands f before o (x ∷ xs) = one_more_stands f before o x xs (sort_stands f before o xs)

pub insert_long : {A : Type 0} (before : A → A → Bool) (x : A) (ys : List A) → length (insert_by before x ys) ≡ suc (length ys)
insert_long before x [] = refl
insert_long before x (y ∷ ys) = by_test (before y x) (insert_long before x ys)
  where
    by_test : (t : Bool) → length (insert_by before x ys) ≡ suc (length ys) → length (cond t (y ∷ insert_by before x ys) (x ∷ y ∷ ys)) ≡ suc
        (suc (length ys))
    by_test true rest = ap suc rest
    by_test false rest = refl

pub sort_long : {A B : Type 0} (f : A → B) (before : B → B → Bool) (xs : List A) → length (sort_by before (map f xs)) ≡ length xs
sort_long f before [] = refl
sort_long f before (x ∷ xs) = insert_long before (f x) (sort_by before (map f xs)) ∙ ap suc (sort_long f before xs)

-- the places of a normal form

abbrev pub places_of : List Need → List ℕ
places_of needs = told (goes normal_need need_before needs) (length needs)

pub are_places : (needs : List Need) → AreFormPlaces needs (sort_by need_before (map normal_need needs)) (places_of needs)
are_places needs = record {
  at = told_places (λ need one. normal_need need ≡ one) needs (sort_by need_before (map normal_need needs))
      (record { to = to; apart = s.apart; each = s.each });
  all = sort_long normal_need need_before needs;
  stable = λ i j a b l m n e.
      let there = get-told to (length needs) i (get_below needs i a m) in
      let further = get-told to (length needs) j (get_below needs j b n) in
      let less = s.stable i j a b l m n e in
      omega (arith, there, further, less);
}
  where
    to : ℕ → ℕ
    to = goes normal_need need_before needs

    s : Stands normal_need needs (sort_by need_before (map normal_need needs)) to
    s = sort_stands normal_need need_before need_order needs

pub form_places : (needs form : List Need) → normal_form needs ≡ Some form → (places : List ℕ) × AreFormPlaces needs form places
form_places needs form e = (
  places_of needs,
  subst (λ f. AreFormPlaces needs f (places_of needs))
      (some_cond (is_impossible needs) (sort_by need_before (map normal_need needs)) form e).1 (are_places needs),
)

-- each place of the form is one of them
pub is_place : (needs form : List Need) (places : List ℕ) → AreFormPlaces needs form places → (p : ℕ) → p < length form → (k : ℕ)
    × (k < length needs) × (get_or places k 0 ≡ p)
is_place needs form places s p l = by_found (find_place (λ i. get_or places i 0) p (length needs))
  where
    R : Need → Need → Type 0
    R need one = normal_need need ≡ one

    within : (i : ℕ) → i < length needs → i < length places
    within i l = subst (λ n. i < n) (sym s.at.long) l

    cut_long : {A : Type 0} (xs : List A) (p : ℕ) → p < length xs → suc (length (cut p xs)) ≡ length xs
    cut_long [] p l = absurd (omega arith)
    cut_long (x ∷ xs) zero l = refl
    cut_long (x ∷ xs) (suc p) l = ap suc (cut_long xs p (omega arith))

    -- else they would all stand in a shorter list
    shorter : ((i : ℕ) → i < length needs → get_or places i 0 ≡ p → ⊥) → Embeds R needs (cut p form)
    shorter none = record {
      to = λ i. shift p (get_or places i 0);
      apart = λ i j li lj e. s.at.apart i j (within i li) (within j lj) (shift_apart p (get_or places i 0) (get_or places j 0) (none i li) (none j lj) e);
      each = λ i x is. let one = s.at.each i x is in (one.0, get_cut form p (get_or places i 0) (none i (get_below needs i x is)) ∙ one.1, one.2);
    }

    by_found : ((t : ℕ) × (t < length needs) × (get_or places t 0 ≡ p)) ⊎ ((i : ℕ) → i < length needs → get_or places i 0 ≡ p → ⊥)
        → (k : ℕ) × (k < length needs) × (get_or places k 0 ≡ p)
    by_found (inl found) = found
    by_found (inr none) =
        let long = embeds_long R needs (cut p form) (shorter none) in
        let cut = cut_long form p l in
        let all = s.all in
        absurd (omega (arith, long, cut, all))

-- where the places of all former users are the same, this user's place can't be before the other one
pub not_earlier : (needs form : List Need) (a b : List ℕ) → AreFormPlaces needs form a → AreFormPlaces needs form b
    → (i : ℕ) → i < length needs → ((k : ℕ) → k < i → get_or a k 0 ≡ get_or b k 0) → get_or a i 0 < get_or b i 0 → ⊥
not_earlier needs form a b s t i l before less = by_order (compare k.0 i)
  where
    need : (x : Need) × (slice_get needs i ≡ Some x)
    need = get_there needs i l

    one : (y : Need) × (slice_get form (get_or a i 0) ≡ Some y) × (normal_need need.0 ≡ y)
    one = s.at.each i need.0 need.1

    -- the user whom the other list sends there
    k : (k : ℕ) × (k < length needs) × (get_or b k 0 ≡ get_or a i 0)
    k = is_place needs form b t (get_or a i 0) (get_below form (get_or a i 0) one.0 one.1)

    there : (x : Need) × (slice_get needs k.0 ≡ Some x)
    there = get_there needs k.0 k.1

    other : (y : Need) × (slice_get form (get_or b k.0 0) ≡ Some y) × (normal_need there.0 ≡ y)
    other = t.at.each k.0 there.0 there.1

    equal : normal_need need.0 ≡ normal_need there.0
    equal = one.2 ∙ same_some one.0 other.0 (sym one.1 ∙ sym (ap (slice_get form) k.2) ∙ other.1) ∙ sym other.2

    within : (j : ℕ) → j < length needs → j < length a
    within j l = subst (λ n. j < n) (sym s.at.long) l

    by_order : (k.0 < i) ⊎ ((k.0 ≡ i) ⊎ (i < k.0)) → ⊥
    by_order (inl m) = let same = s.at.apart k.0 i (within k.0 k.1) (within i l) (before k.0 m ∙ k.2) in omega (arith, same, m)
    by_order (inr (inl e)) = let there = ap (λ j. get_or b j 0) e in let p = k.2 in omega (arith, there, p, less)
    by_order (inr (inr m)) = let later = t.stable i k.0 need.0 there.0 m need.1 there.1 equal in let p = k.2 in omega (arith, later, p, less)

pub one_form_place : (needs form : List Need) (a b : List ℕ) → AreFormPlaces needs form a → AreFormPlaces needs form b → a ≡ b
one_form_place needs form a b s t = ext_get_or 0 a b (s.at.long ∙ sym t.at.long) (λ i l. same (suc i) i (omega arith) (subst (λ n. i < n) s.at.long l))
  where
    same : (n i : ℕ) → i < n → i < length needs → get_or a i 0 ≡ get_or b i 0
    same zero i l m = absurd (omega arith)
    same (suc n) i l m = by_order (compare (get_or a i 0) (get_or b i 0)) (λ k h. same n k (omega (arith, h, l)) (omega (arith, h, m)))
      where
        by_order : (get_or a i 0 < get_or b i 0) ⊎ ((get_or a i 0 ≡ get_or b i 0) ⊎ (get_or b i 0 < get_or a i 0))
            → ((k : ℕ) → k < i → get_or a k 0 ≡ get_or b k 0) → get_or a i 0 ≡ get_or b i 0
        by_order (inl less) before = absurd (not_earlier needs form a b s t i m before less)
        by_order (inr (inl e)) before = e
        by_order (inr (inr less)) before = absurd (not_earlier needs form b a t s i m (λ k h. sym (before k h)) less)

-- a sorted list with places is the normal form

pub count_parts : {A : Type 0} (q : A → Bool) (xs : List A) → count q xs + count (λ x. not (q x)) xs ≡ length xs
count_parts q [] = refl
count_parts q (x ∷ xs) = by_test (q x) (count_parts q xs)
  where
    by_test : (t : Bool) → count q xs + count (λ x. not (q x)) xs ≡ length xs
        → (cond t 1 0 + count q xs) + (cond (not t) 1 0 + count (λ x. not (q x)) xs) ≡ suc (length xs)
    by_test true rest = omega (arith, rest)
    by_test false rest = omega (arith, rest)

-- the form has as many users of a kind as the requirement does
pub same_count : (needs form : List Need) (places : List ℕ) → AreFormPlaces needs form places → (q : Need → Bool)
    → count (λ need. q (normal_need need)) needs ≡ count q form
same_count needs form places s q =
    let yes' = as_many q in
    let no' = as_many (λ one. not (q one)) in
    let these = count_parts (λ need. q (normal_need need)) needs in
    let those = count_parts q form in
    let all = s.all in
    omega (arith, yes', no', these, those, all)
  where
    as_many : (p : Need → Bool) → count (λ need. p (normal_need need)) needs ≤ count p form
    as_many p = counted (λ need one. normal_need need ≡ one) (λ need. p (normal_need need)) p (λ need one e h. subst (λ v. p v ≡ true) e h) needs form
        (from_places (λ need one. normal_need need ≡ one) needs form places s.at)

pub sorted_is_form : (needs form : List Need) (places : List ℕ) → IsPossible needs → AreSorted need_before form → AreFormPlaces needs form places
    → normal_form needs ≡ Some form
sorted_is_form needs form places possible sorted s = rw (possible_not needs possible) (ap Some same)
  where
    any_each : (xs : List Need) → Each (λ need. Unit {0}) xs
    any_each [] = tt
    any_each (x ∷ xs) = (tt, any_each xs)

    same : sort_by need_before (map normal_need needs) ≡ form
    same = sorted_same (λ need. Unit {0}) need_before need_order (sort_by need_before (map normal_need needs)) form
        (any_each (sort_by need_before (map normal_need needs))) (any_each form)
        (sort_sorted need_before need_order (map normal_need needs)) sorted (λ w u.
        sym (same_count needs (sort_by need_before (map normal_need needs)) (places_of needs) (are_places needs) (is_same need_before w))
        ∙ same_count needs form places s (is_same need_before w))
