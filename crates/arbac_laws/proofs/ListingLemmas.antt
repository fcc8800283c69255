-- The list of obligations rises: none stands twice, and an earlier one at a lesser place.
use Rattle.std.proofs.Common.{ℕ, ◌≡◌, ◌<◌, ◌+◌, Bool, true, false, not, eqb, cond, List, [], ◌∷◌, ◌++◌, map, length, Some, arith}
use Rattle.std.proofs.Common.{zero, suc, sym, ap, subst, refl, inl, inr}
use Rattle.std.specs.Prelude.{◌⊎◌, filter, nat_lt, slice_get}
use Rattle.std.specs.List.{list_any}
use Rattle.std.proofs.lemmas.Bool.Decides.{nat_tests}
use Rattle.list_words.specs.Lists.{AreDifferent, Each}
use Rattle.list_words.specs.Orders.{AreRising, IsTotalOrder}
use Rattle.list_words.proofs.EachLemmas.{each_append, each_at, each_weaker}
use Rattle.list_words.proofs.NumberLemmas.{compare}
use Rattle.list_words.proofs.OrderLemmas.{not_both, number_order, then_first, then_rest}
use Rattle.role_order.proofs.OrderLemmas.{set_order}
use Rattle.role_order.specs.Orders.{set_before}
use Rattle.role_order.specs.Reach.{count_up}
use Rattle.role_order.specs.Roles.{has_role}
use Rattle.role_order.specs.declared.range.Range.{Range}
use Rattle.arbac_policy.specs.Rules.{Rules}
use Rattle.arbac_policy.specs.Truth.{term_of}
use Rattle.arbac_policy.specs.declared.rule.CanAssign.{CanAssign}
use Rattle.arbac_policy.specs.declared.rule.CanRevoke.{CanRevoke}
use Rattle.arbac_laws.specs.Conjuncts.{conjuncts}
use Rattle.arbac_laws.specs.Listings.{obligation_before, obligation_key, pick_key}
use Rattle.arbac_laws.specs.Needs.{Need}
use Rattle.arbac_laws.specs.Obligations.{Obligation, assign_obligations, assigns, barring, flat, flat_places, if_wanted, is_in_range, obligations, picks}
use Rattle.arbac_laws.specs.Obligations.{revokes, roles_in, wanting, weak_obligations}
use Rattle.arbac_laws.specs.PreImages.{Pick, fresh, itself, other}
use Rattle.arbac_laws.proofs.SetsLemmas.{each_passed}

-- rising lists of any kind

-- each of the first list is before each of the second
abbrev pub AllBefore : {A : Type 0} → (A → A → Bool) → List A → List A → Type 0
AllBefore before xs ys = Each (λ x. Each (λ y. before x y ≡ true) ys) xs

rising_append : {A : Type 0} (before : A → A → Bool) (xs ys : List A) → AreRising before xs → AreRising before ys → AllBefore before xs ys
    → AreRising before (xs ++ ys)
rising_append before [] ys r s all = s
rising_append before (x ∷ xs) ys r s all = (each_append (λ y. before x y ≡ true) xs ys r.0 all.0, rising_append before xs ys r.1 s all.1)

each_flat : {A B : Type 0} (P : B → Type 0) (f : A → List B) (xs : List A) → Each (λ x. Each P (f x)) xs → Each P (flat f xs)
each_flat P f [] h = tt
each_flat P f (x ∷ xs) h = each_append P (f x) (flat f xs) h.0 (each_flat P f xs h.1)

each_all : {A : Type 0} (P : A → Type 0) (xs : List A) → ((x : A) → P x) → Each P xs
each_all P [] h = tt
each_all P (x ∷ xs) h = (h x, each_all P xs h)

each_map : {A B : Type 0} (P : B → Type 0) (f : A → B) (xs : List A) → Each (λ x. P (f x)) xs → Each P (map f xs)
each_map P f [] h = tt
each_map P f (x ∷ xs) h = (h.0, each_map P f xs h.1)

-- of places from one on
each_places : {A B : Type 0} (P : B → Type 0) (f : ℕ → A → List B) (at low : ℕ) (xs : List A) → low < at + 1
    → ((i : ℕ) (x : A) → low < i + 1 → Each P (f i x))
    → Each P (flat_places f at xs)
each_places P f at low [] l h = tt
each_places P f at low (x ∷ xs) l h = each_append P (f at x) (flat_places f (at + 1) xs) (h at x l) (each_places P f (at + 1) low xs (omega arith) h)

-- where what is made of each rises, and what is made of an earlier one is before what is made of a later one
rising_flat : {A B : Type 0} (less : A → A → Bool) (before : B → B → Bool) (f : A → List B) (xs : List A) → AreRising less xs
    → ((x : A) → AreRising before (f x))
    → ((x y : A) → less x y ≡ true → AllBefore before (f x) (f y)) → AreRising before (flat f xs)
rising_flat less before f [] r own apart = tt
rising_flat {A} {B} less before f (x ∷ xs) r own apart =
    rising_append before (f x) (flat f xs) (own x) (rising_flat less before f xs r.1 own apart) (first xs r.0)
  where
    turn : (us : List B) (ys : List A) → Each (λ y. AllBefore before us (f y)) ys → AllBefore before us (flat f ys)
    turn [] ys h = tt
    turn (u ∷ us) ys h = (
      each_flat (λ v. before u v ≡ true) f ys (each_weaker (λ y. AllBefore before (u ∷ us) (f y)) (λ y. Each (λ v. before u v ≡ true) (f y))
          (λ y a. a.0) ys h),
      turn us ys (each_weaker (λ y. AllBefore before (u ∷ us) (f y)) (λ y. AllBefore before us (f y)) (λ y a. a.1) ys h),
    )

    first : (ys : List A) → Each (λ y. less x y ≡ true) ys → AllBefore before (f x) (flat f ys)
    first ys h = turn (f x) ys (each_weaker (λ y. less x y ≡ true) (λ y. AllBefore before (f x) (f y)) (λ y l. apart x y l) ys h)

-- the same by places
rising_places : {A B : Type 0} (before : B → B → Bool) (f : ℕ → A → List B) (at : ℕ) (xs : List A)
    → ((i : ℕ) (x : A) → AreRising before (f i x))
    → ((i j : ℕ) (x y : A) → i < j → AllBefore before (f i x) (f j y)) → AreRising before (flat_places f at xs)
rising_places before f at [] own apart = tt
rising_places {A} {B} before f at (x ∷ xs) own apart =
    rising_append before (f at x) (flat_places f (at + 1) xs) (own at x) (rising_places before f (at + 1) xs own apart)
    (turn (f at x) (λ j y l. apart at j x y l))
  where
    turn : (us : List B) → ((j : ℕ) (y : A) → at < j → AllBefore before us (f j y)) → AllBefore before us (flat_places f (at + 1) xs)
    turn [] h = tt
    turn (u ∷ us) h = (
      each_places (λ v. before u v ≡ true) f (at + 1) (at + 1) xs (omega arith) (λ j y l. (h j y (omega (arith, l))).0),
      turn us (λ j y l. (h j y l).1),
    )

rising_map : {A B : Type 0} (less : A → A → Bool) (before : B → B → Bool) (f : A → B)
    → ((x y : A) → less x y ≡ true → before (f x) (f y) ≡ true)
    → (xs : List A) → AreRising less xs → AreRising before (map f xs)
rising_map less before f h [] r = tt
rising_map less before f h (x ∷ xs) r = (
  each_map (λ y. before (f x) y ≡ true) f xs
      (each_weaker (λ y. less x y ≡ true) (λ y. before (f x) (f y) ≡ true) (λ y l. h x y l) xs r.0),
  rising_map less before f h xs r.1,
)

rising_kept : {A : Type 0} (before : A → A → Bool) (test : A → Bool) (xs : List A) → AreRising before xs → AreRising before (filter test xs)
rising_kept before test [] r = tt
rising_kept before test (x ∷ xs) r = by_test (test x) (rising_kept before test xs r.1)
  where
    by_test : (t : Bool) → AreRising before (filter test xs) → AreRising before (cond t (x ∷ filter test xs) (filter test xs))
    by_test true rest = (each_passed (λ y. before x y ≡ true) test xs r.0, rest)
    by_test false rest = rest

less_true : (i j : ℕ) → i < j → nat_lt i j ≡ true
less_true i j l = grind (arith, nat_tests)

true_less : (i j : ℕ) → nat_lt i j ≡ true → i < j
true_less i j h = grind (arith, nat_tests)

counting_up : (at n low : ℕ) → low < at → Each (λ k. nat_lt low k ≡ true) (count_up at n)
counting_up at zero low l = tt
counting_up at (suc n) low l = (less_true low at l, counting_up (at + 1) n low (omega arith))

rising_count : (at n : ℕ) → AreRising nat_lt (count_up at n)
rising_count at zero = tt
rising_count at (suc n) = (counting_up (at + 1) n at (omega arith), rising_count (at + 1) n)

-- in a rising list the item at a lesser place is before the other
pub rising_place : {A : Type 0} (before : A → A → Bool) → IsTotalOrder before → (xs : List A) → AreRising before xs → (i j : ℕ) (x y : A)
    → slice_get xs i ≡ Some x → slice_get xs j ≡ Some y → i < j → before x y ≡ true
rising_place before o [] r i j x y a b l = cc
rising_place before o (z ∷ zs) r i zero x y a b l = absurd (omega arith)
rising_place before o (z ∷ zs) r zero (suc j) x y a b l =
    let same : z ≡ x = cc in subst (λ v. before v y ≡ true) same (each_at (λ v. before z v ≡ true) zs j y r.0 b)
rising_place before o (z ∷ zs) r (suc i) (suc j) x y a b l = rising_place before o zs r.1 i j x y a b (omega arith)

-- nothing stands twice in a rising list
pub rising_different : {A : Type 0} (before : A → A → Bool) → IsTotalOrder before → (xs : List A) → AreRising before xs → AreDifferent xs
rising_different before o xs r i j x a b = by_place (compare i j)
  where
    by_place : (i < j) ⊎ ((i ≡ j) ⊎ (j < i)) → i ≡ j
    by_place (inl l) = absurd (o.never x (rising_place before o xs r i j x x a b l))
    by_place (inr (inl e)) = e
    by_place (inr (inr l)) = absurd (o.never x (rising_place before o xs r j i x x b a l))

-- and what is before another stands at a lesser place
pub before_place : {A : Type 0} (before : A → A → Bool) → IsTotalOrder before → (xs : List A) → AreRising before xs → (i j : ℕ) (x y : A)
    → slice_get xs i ≡ Some x → slice_get xs j ≡ Some y → before x y ≡ true → i < j
before_place before o xs r i j x y a b h = by_place (compare i j)
  where
    by_place : (i < j) ⊎ ((i ≡ j) ⊎ (j < i)) → i < j
    by_place (inl l) = l
    by_place (inr (inl e)) = let same : x ≡ y = cc in absurd (o.never x (subst (λ v. before x v ≡ true) (sym same) h))
    by_place (inr (inr l)) = absurd (not_both before o x y h (rising_place before o xs r j i y x b a l))

-- keys

key_after : (front xs ys : List ℕ) → set_before xs ys ≡ true → set_before (front ++ xs) (front ++ ys) ≡ true
key_after [] xs ys h = h
key_after (k ∷ front) xs ys h = then_rest nat_lt number_order k k (set_before (front ++ xs) (front ++ ys)) refl (key_after front xs ys h)

key_less : (front : List ℕ) (i j : ℕ) (xs ys : List ℕ) → i < j → set_before (front ++ i ∷ xs) (front ++ j ∷ ys) ≡ true
key_less front i j xs ys l = key_after front (i ∷ xs) (j ∷ ys) (then_first nat_lt i j (set_before xs ys) (less_true i j l))

-- the key begins with these numbers and this one
abbrev pub Begins : List ℕ → ℕ → Obligation → Type 0
Begins front i ob = (rest : List ℕ) × (obligation_key ob ≡ front ++ i ∷ rest)

begins_before : (front : List ℕ) (i j : ℕ) → i < j → (xs ys : List Obligation) → Each (Begins front i) xs → Each (Begins front j) ys
    → AllBefore obligation_before xs ys
begins_before front i j l xs ys h k = each_weaker (Begins front i) (λ x. Each (λ y. obligation_before x y ≡ true) ys)
    (λ x b. each_weaker (Begins front j) (λ y. obligation_before x y ≡ true) (λ y c. rw (b.1, c.1) (key_less front i j b.0 c.0 l)) ys k) xs h

-- obligations with one key are one

same_pick : (p q : Pick) → pick_key p ≡ pick_key q → p ≡ q
same_pick itself itself e = refl
same_pick itself (other place) e = cc
same_pick itself fresh e = cc
same_pick (other place) itself e = cc
same_pick (other place) (other place') e = let same : place ≡ place' = cc in ap other same
same_pick (other place) fresh e = cc
same_pick fresh itself e = cc
same_pick fresh (other place) e = cc
same_pick fresh fresh e = refl

same_key : (a b : Obligation) → obligation_key a ≡ obligation_key b → a ≡ b
same_key (assigns rule conjunct role target pick) (assigns rule' conjunct' role' target' pick') e =
    let picked : pick_key pick ≡ pick_key pick' = cc in let same : pick ≡ pick' = same_pick pick pick' picked in cc
same_key (assigns rule conjunct role target pick) (revokes rule' role' target' pick') e = cc
same_key (revokes rule role target pick) (assigns rule' conjunct' role' target' pick') e = cc
same_key (revokes rule role target pick) (revokes rule' role' target' pick') e =
    let picked : pick_key pick ≡ pick_key pick' = cc in let same : pick ≡ pick' = same_pick pick pick' picked in cc

-- the order of keys is one of obligations
pub obligation_order : IsTotalOrder obligation_before
obligation_order = record {
  never = λ a h. set_order.never (obligation_key a) h;
  through = λ a b c h k. set_order.through (obligation_key a) (obligation_key b) (obligation_key c) h k;
  total = λ a b. by_key a b (set_order.total (obligation_key a) (obligation_key b));
}
  where
    by_key : (a b : Obligation)
        → (set_before (obligation_key a) (obligation_key b) ≡ true)
        ⊎ ((obligation_key a ≡ obligation_key b) ⊎ (set_before (obligation_key b) (obligation_key a) ≡ true))
        → (obligation_before a b ≡ true) ⊎ ((a ≡ b) ⊎ (obligation_before b a ≡ true))
    by_key a b (inl h) = inl h
    by_key a b (inr (inl e)) = inr (inl (same_key a b e))
    by_key a b (inr (inr h)) = inr (inr h)

-- level by level

abbrev pub pick_before : Pick → Pick → Bool
pick_before p q = set_before (pick_key p) (pick_key q)

rising_picks : (target count : ℕ) → AreRising pick_before (picks target count)
rising_picks target count = (
  each_append (λ q. set_before (0 ∷ []) (pick_key q) ≡ true) (map other places) (fresh ∷ [])
      (each_map (λ q. set_before (0 ∷ []) (pick_key q) ≡ true) other places
      (each_all (λ k. set_before (0 ∷ []) (1 ∷ k ∷ []) ≡ true) places (λ k. refl)))
      (refl, tt),
  rising_append pick_before (map other places) (fresh ∷ [])
      (rising_map nat_lt pick_before other (λ i j l. key_less (1 ∷ []) i j [] [] (true_less i j l)) places
      (rising_kept nat_lt (λ place. not (eqb place target)) (count_up 0 count) (rising_count 0 count)))
      (tt, tt)
      (each_map (λ p. Each (λ q. set_before (pick_key p) (pick_key q) ≡ true) (fresh ∷ [])) other places
      (each_all (λ k. Each (λ q. set_before (1 ∷ k ∷ []) (pick_key q) ≡ true) (fresh ∷ [])) places (λ k. (refl, tt)))),
)
  where
    places : List ℕ
    places = filter (λ place. not (eqb place target)) (count_up 0 count)

rising_wanted : {A : Type 0} (test : A → Bool) (xs : List A) → AreRising nat_lt (flat_places (λ place x. if_wanted (test x) place) 0 xs)
rising_wanted {A} test xs =
    rising_places nat_lt (λ place x. if_wanted (test x) place) 0 xs (λ i x. own (test x) i) (λ i j x y l. apart (test x) (test y) i j l)
  where
    own : (t : Bool) (i : ℕ) → AreRising nat_lt (if_wanted t i)
    own true i = (tt, tt)
    own false i = tt

    apart : (t s : Bool) (i j : ℕ) → i < j → AllBefore nat_lt (if_wanted t i) (if_wanted s j)
    apart false s i j l = tt
    apart true false i j l = (tt, tt)
    apart true true i j l = ((less_true i j l, tt), tt)

-- to assign, by administrator, target, role, conjunct and rule

abbrev pub to_target : ℕ → ℕ → ℕ → ℕ → ℕ → List Obligation
to_target count i j role target = map (λ pick. assigns i j role target pick) (picks target count)

abbrev pub to_role : List Need → ℕ → ℕ → ℕ → List Obligation
to_role needs i j role = flat (λ target. to_target (length needs) i j role target) (wanting role needs)

abbrev pub by_conjunct : Rules → List Need → CanAssign → ℕ → ℕ → List Obligation
by_conjunct rules needs rule i j = flat (λ role. to_role needs i j role) (roles_in rules.order rule.range)

abbrev pub by_rule : Rules → List Need → ℕ → CanAssign → List Obligation
by_rule rules needs i rule = flat_places (λ j conjunct. by_conjunct rules needs rule i j) 0 (conjuncts rules.order (term_of rule.cond))

each_to_target : (P : Obligation → Type 0) (count i j role target : ℕ) → ((pick : Pick) → P (assigns i j role target pick))
    → Each P (to_target count i j role target)
each_to_target P count i j role target h =
    each_map P (λ pick. assigns i j role target pick) (picks target count) (each_all (λ pick. P (assigns i j role target pick)) (picks target count) h)

each_to_role : (P : Obligation → Type 0) (needs : List Need) (i j role : ℕ) → ((target : ℕ) (pick : Pick) → P (assigns i j role target pick))
    → Each P (to_role needs i j role)
each_to_role P needs i j role h =
    each_flat P (λ target. to_target (length needs) i j role target) (wanting role needs)
    (each_all (λ target. Each P (to_target (length needs) i j role target)) (wanting role needs)
    (λ target. each_to_target P (length needs) i j role target (h target)))

each_by_conjunct : (P : Obligation → Type 0) (rules : Rules) (needs : List Need) (rule : CanAssign) (i j : ℕ)
    → ((role target : ℕ) (pick : Pick) → P (assigns i j role target pick)) → Each P (by_conjunct rules needs rule i j)
each_by_conjunct P rules needs rule i j h =
    each_flat P (λ role. to_role needs i j role) (roles_in rules.order rule.range)
    (each_all (λ role. Each P (to_role needs i j role)) (roles_in rules.order rule.range) (λ role. each_to_role P needs i j role (h role)))

each_by_rule : (P : Obligation → Type 0) (rules : Rules) (needs : List Need) (i : ℕ) (rule : CanAssign)
    → ((j role target : ℕ) (pick : Pick) → P (assigns i j role target pick)) → Each P (by_rule rules needs i rule)
each_by_rule P rules needs i rule h =
    each_places P (λ j conjunct. by_conjunct rules needs rule i j) 0 0 (conjuncts rules.order (term_of rule.cond)) (omega arith)
    (λ j conjunct l. each_by_conjunct P rules needs rule i j (h j))

each_assigned : (P : Obligation → Type 0) (rules : Rules) (needs : List Need) → ((i j role target : ℕ) (pick : Pick) → P (assigns i j role target pick))
    → Each P (assign_obligations rules needs)
each_assigned P rules needs h =
    each_places P (λ i rule. by_rule rules needs i rule) 0 0 rules.assign (omega arith) (λ i rule l. each_by_rule P rules needs i rule (h i))

rise_to_target : (count i j role target : ℕ) → AreRising obligation_before (to_target count i j role target)
rise_to_target count i j role target =
    rising_map pick_before obligation_before (λ pick. assigns i j role target pick)
    (λ p q h. key_after (0 ∷ i ∷ j ∷ role ∷ target ∷ []) (pick_key p) (pick_key q) h) (picks target count) (rising_picks target count)

rise_to_role : (needs : List Need) (i j role : ℕ) → AreRising obligation_before (to_role needs i j role)
rise_to_role needs i j role =
    rising_flat nat_lt obligation_before (λ target. to_target (length needs) i j role target) (wanting role needs)
    (rising_wanted (λ (need : Need). list_any (λ hit. has_role hit role) need.hits) needs) (rise_to_target (length needs) i j role)
    (λ t s l. begins_before (0 ∷ i ∷ j ∷ role ∷ []) t s (true_less t s l) (to_target (length needs) i j role t)
    (to_target (length needs) i j role s) (begins t)
    (begins s))
  where
    begins : (target : ℕ) → Each (Begins (0 ∷ i ∷ j ∷ role ∷ []) target) (to_target (length needs) i j role target)
    begins target = each_to_target (Begins (0 ∷ i ∷ j ∷ role ∷ []) target) (length needs) i j role target (λ pick. (pick_key pick, refl))

rising_roles : (rules : Rules) (range : Range) → AreRising nat_lt (roles_in rules.order range)
rising_roles rules range =
    rising_kept nat_lt (is_in_range rules.order range) (count_up 0 (length rules.order.names)) (rising_count 0 (length rules.order.names))

rise_by_conjunct : (rules : Rules) (needs : List Need) (rule : CanAssign) (i j : ℕ) → AreRising obligation_before (by_conjunct rules needs rule i j)
rise_by_conjunct rules needs rule i j =
    rising_flat nat_lt obligation_before (λ role. to_role needs i j role) (roles_in rules.order rule.range) (rising_roles rules rule.range)
    (rise_to_role needs i j)
    (λ r s l. begins_before (0 ∷ i ∷ j ∷ []) r s (true_less r s l) (to_role needs i j r) (to_role needs i j s) (begins r) (begins s))
  where
    begins : (role : ℕ) → Each (Begins (0 ∷ i ∷ j ∷ []) role) (to_role needs i j role)
    begins role = each_to_role (Begins (0 ∷ i ∷ j ∷ []) role) needs i j role (λ target pick. (target ∷ pick_key pick, refl))

rise_by_rule : (rules : Rules) (needs : List Need) (i : ℕ) (rule : CanAssign) → AreRising obligation_before (by_rule rules needs i rule)
rise_by_rule rules needs i rule =
    rising_places obligation_before (λ j conjunct. by_conjunct rules needs rule i j) 0 (conjuncts rules.order (term_of rule.cond))
    (λ j conjunct. rise_by_conjunct rules needs rule i j)
    (λ j k x y l. begins_before (0 ∷ i ∷ []) j k l (by_conjunct rules needs rule i j) (by_conjunct rules needs rule i k) (begins j) (begins k))
  where
    begins : (j : ℕ) → Each (Begins (0 ∷ i ∷ []) j) (by_conjunct rules needs rule i j)
    begins j = each_by_conjunct (Begins (0 ∷ i ∷ []) j) rules needs rule i j (λ role target pick. (role ∷ target ∷ pick_key pick, refl))

rise_assigned : (rules : Rules) (needs : List Need) → AreRising obligation_before (assign_obligations rules needs)
rise_assigned rules needs =
    rising_places obligation_before (λ i rule. by_rule rules needs i rule) 0 rules.assign (rise_by_rule rules needs)
    (λ i k x y l. begins_before (0 ∷ []) i k l (by_rule rules needs i x) (by_rule rules needs k y) (begins i x) (begins k y))
  where
    begins : (i : ℕ) (rule : CanAssign) → Each (Begins (0 ∷ []) i) (by_rule rules needs i rule)
    begins i rule = each_by_rule (Begins (0 ∷ []) i) rules needs i rule (λ j role target pick. (j ∷ role ∷ target ∷ pick_key pick, refl))

-- to revoke, by administrator, target, role and rule

abbrev pub from_target : ℕ → ℕ → ℕ → ℕ → List Obligation
from_target count i role target = map (λ pick. revokes i role target pick) (picks target count)

abbrev pub from_role : List Need → ℕ → ℕ → List Obligation
from_role needs i role = flat (λ target. from_target (length needs) i role target) (barring role needs)

abbrev pub by_revoke : Rules → List Need → ℕ → CanRevoke → List Obligation
by_revoke rules needs i rule = flat (λ role. from_role needs i role) (roles_in rules.order rule.range)

each_from_target : (P : Obligation → Type 0) (count i role target : ℕ) → ((pick : Pick) → P (revokes i role target pick))
    → Each P (from_target count i role target)
each_from_target P count i role target h =
    each_map P (λ pick. revokes i role target pick) (picks target count) (each_all (λ pick. P (revokes i role target pick)) (picks target count) h)

each_from_role : (P : Obligation → Type 0) (needs : List Need) (i role : ℕ) → ((target : ℕ) (pick : Pick) → P (revokes i role target pick))
    → Each P (from_role needs i role)
each_from_role P needs i role h =
    each_flat P (λ target. from_target (length needs) i role target) (barring role needs)
    (each_all (λ target. Each P (from_target (length needs) i role target)) (barring role needs)
    (λ target. each_from_target P (length needs) i role target (h target)))

each_by_revoke : (P : Obligation → Type 0) (rules : Rules) (needs : List Need) (i : ℕ) (rule : CanRevoke)
    → ((role target : ℕ) (pick : Pick) → P (revokes i role target pick)) → Each P (by_revoke rules needs i rule)
each_by_revoke P rules needs i rule h =
    each_flat P (λ role. from_role needs i role) (roles_in rules.order rule.range)
    (each_all (λ role. Each P (from_role needs i role)) (roles_in rules.order rule.range) (λ role. each_from_role P needs i role (h role)))

each_revoked : (P : Obligation → Type 0) (rules : Rules) (needs : List Need) → ((i role target : ℕ) (pick : Pick) → P (revokes i role target pick))
    → Each P (weak_obligations rules needs)
each_revoked P rules needs h =
    each_places P (λ i rule. by_revoke rules needs i rule) 0 0 rules.revoke (omega arith) (λ i rule l. each_by_revoke P rules needs i rule (h i))

rise_from_target : (count i role target : ℕ) → AreRising obligation_before (from_target count i role target)
rise_from_target count i role target =
    rising_map pick_before obligation_before (λ pick. revokes i role target pick)
    (λ p q h. key_after (1 ∷ i ∷ role ∷ target ∷ []) (pick_key p) (pick_key q) h) (picks target count) (rising_picks target count)

rise_from_role : (needs : List Need) (i role : ℕ) → AreRising obligation_before (from_role needs i role)
rise_from_role needs i role =
    rising_flat nat_lt obligation_before (λ target. from_target (length needs) i role target) (barring role needs)
    (rising_wanted (λ (need : Need). has_role need.lacks role) needs) (rise_from_target (length needs) i role)
    (λ t s l. begins_before (1 ∷ i ∷ role ∷ []) t s (true_less t s l) (from_target (length needs) i role t) (from_target (length needs) i role s)
    (begins t)
    (begins s))
  where
    begins : (target : ℕ) → Each (Begins (1 ∷ i ∷ role ∷ []) target) (from_target (length needs) i role target)
    begins target = each_from_target (Begins (1 ∷ i ∷ role ∷ []) target) (length needs) i role target (λ pick. (pick_key pick, refl))

rise_by_revoke : (rules : Rules) (needs : List Need) (i : ℕ) (rule : CanRevoke) → AreRising obligation_before (by_revoke rules needs i rule)
rise_by_revoke rules needs i rule =
    rising_flat nat_lt obligation_before (λ role. from_role needs i role) (roles_in rules.order rule.range) (rising_roles rules rule.range)
    (rise_from_role needs i)
    (λ r s l. begins_before (1 ∷ i ∷ []) r s (true_less r s l) (from_role needs i r) (from_role needs i s) (begins r) (begins s))
  where
    begins : (role : ℕ) → Each (Begins (1 ∷ i ∷ []) role) (from_role needs i role)
    begins role = each_from_role (Begins (1 ∷ i ∷ []) role) needs i role (λ target pick. (target ∷ pick_key pick, refl))

rise_revoked : (rules : Rules) (needs : List Need) → AreRising obligation_before (weak_obligations rules needs)
rise_revoked rules needs =
    rising_places obligation_before (λ i rule. by_revoke rules needs i rule) 0 rules.revoke (rise_by_revoke rules needs)
    (λ i k x y l. begins_before (1 ∷ []) i k l (by_revoke rules needs i x) (by_revoke rules needs k y) (begins i x) (begins k y))
  where
    begins : (i : ℕ) (rule : CanRevoke) → Each (Begins (1 ∷ []) i) (by_revoke rules needs i rule)
    begins i rule = each_by_revoke (Begins (1 ∷ []) i) rules needs i rule (λ role target pick. (role ∷ target ∷ pick_key pick, refl))

-- those to assign are before those to revoke
pub obligations_rise : (rules : Rules) (needs : List Need) → AreRising obligation_before (obligations rules needs)
obligations_rise rules needs =
    rising_append obligation_before (assign_obligations rules needs) (weak_obligations rules needs) (rise_assigned rules needs) (rise_revoked rules needs)
    (begins_before [] 0 1 (omega arith) (assign_obligations rules needs) (weak_obligations rules needs)
    (each_assigned (Begins [] 0) rules needs (λ i j role target pick. (i ∷ j ∷ role ∷ target ∷ pick_key pick, refl)))
    (each_revoked (Begins [] 1) rules needs (λ i role target pick. (i ∷ role ∷ target ∷ pick_key pick, refl))))
