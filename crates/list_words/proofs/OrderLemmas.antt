-- Strict total orders by a test, of numbers and of lists; ordered lists that have the same items.
use Rattle.std.proofs.Common.{ℕ, ◌≡◌, ◌<◌, ◌+◌, ◌||◌, ◌&&◌, Bool, true, false, not, cond, List, [], ◌∷◌, refl, arith, zero, suc}
use Rattle.std.proofs.Common.{sym, ◌∙◌, ap, subst, inl, inr}
use Rattle.std.specs.Prelude.{◌⊎◌, nat_lt}
use Rattle.std.proofs.lemmas.Bool.Decides.{nat_tests}
use Rattle.list_words.specs.Lists.{Each, Some_of}
use Rattle.list_words.specs.Orders.{list_before, IsStrictOrder, IsTotalOrder, AreRising, AreSorted}
use Rattle.list_words.proofs.TestLemmas.{or_cases, or_right, and_both, not_false, not_true}
use Rattle.list_words.proofs.EachLemmas.{each_weaker, some_each}
use Rattle.list_words.proofs.CountLemmas.{count, none_counted}

pub number_order : IsTotalOrder nat_lt
number_order = record {
  never = λ x h. let l : x < x = grind (arith, nat_tests) in omega arith;
  through = λ x y z h k. let l : x < z = grind (arith, nat_tests) in grind (arith, nat_tests);
  total = by_number;
}
  where
    lifted : (x y : ℕ) → (nat_lt x y ≡ true) ⊎ ((x ≡ y) ⊎ (nat_lt y x ≡ true)) → (nat_lt (suc x) (suc y) ≡ true)
        ⊎ ((suc x ≡ suc y) ⊎ (nat_lt (suc y) (suc x) ≡ true))
    lifted x y (inl h) = inl (let l : x < y = grind (arith, nat_tests) in grind (arith, nat_tests))
    lifted x y (inr (inl e)) = inr (inl (ap suc e))
    lifted x y (inr (inr h)) = inr (inr (let l : y < x = grind (arith, nat_tests) in grind (arith, nat_tests)))

    by_number : (x y : ℕ) → (nat_lt x y ≡ true) ⊎ ((x ≡ y) ⊎ (nat_lt y x ≡ true))
    by_number zero zero = inr (inl refl)
    by_number zero (suc y) = inl (grind (arith, nat_tests))
    by_number (suc x) zero = inr (inr (grind (arith, nat_tests)))
    by_number (suc x) (suc y) = lifted x y (by_number x y)

pub not_both : {A : Type 0} (before : A → A → Bool) → IsTotalOrder before → (x y : A) → before x y ≡ true → before y x ≡ true → ⊥
not_both before o x y h k = o.never x (o.through x y x h k)

-- first by one test, then by another
pub then_view : {A : Type 0} (before : A → A → Bool) → IsTotalOrder before → (x y : A) (rest : Bool)
    → (before x y || (not (before y x) && rest)) ≡ true → (before x y ≡ true) ⊎ ((x ≡ y) × (rest ≡ true))
then_view before o x y rest h = by_case (or_cases (before x y) (not (before y x) && rest) h)
  where
    by_case : (before x y ≡ true) ⊎ ((not (before y x) && rest) ≡ true) → (before x y ≡ true) ⊎ ((x ≡ y) × (rest ≡ true))
    by_case (inl k) = inl k
    by_case (inr k) = let b = and_both (not (before y x)) rest k in by_total b.0 b.1 (o.total x y)
      where
        by_total : not (before y x) ≡ true → rest ≡ true → (before x y ≡ true) ⊎ ((x ≡ y) ⊎ (before y x ≡ true)) → (before x y ≡ true)
            ⊎ ((x ≡ y) × (rest ≡ true))
        by_total n r (inl k) = inl k
        by_total n r (inr (inl e)) = inr (e, r)
        by_total n r (inr (inr k)) = absurd (not_true (before y x) n k)

pub then_first : {A : Type 0} (before : A → A → Bool) → (x y : A) (rest : Bool) → before x y ≡ true
    → (before x y || (not (before y x) && rest)) ≡ true
then_first before x y rest h = rw h refl

pub then_rest : {A : Type 0} (before : A → A → Bool) → IsTotalOrder before → (x y : A) (rest : Bool) → x ≡ y → rest ≡ true
    → (before x y || (not (before y x) && rest)) ≡ true
then_rest before o x y rest e r =
    let n : before y x ≡ false = not_false (before y x) (λ k. o.never x (subst (λ v. before v x ≡ true) (sym e) k)) in
    or_right (before x y) (not (before y x) && rest) (rw (n, r) refl)

pub list_order : {A : Type 0} (before : A → A → Bool) → IsTotalOrder before → IsTotalOrder (list_before before)
list_order {A} before o = record { never = never; through = through; total = total }
  where
    never : (xs : List A) → list_before before xs xs ≡ true → ⊥
    never [] h = cc
    never (x ∷ xs) h = by_view (then_view before o x x (list_before before xs xs) h) (never xs)
      where
        by_view : (before x x ≡ true) ⊎ ((x ≡ x) × (list_before before xs xs ≡ true)) → (list_before before xs xs ≡ true → ⊥) → ⊥
        by_view (inl k) rest = o.never x k
        by_view (inr k) rest = rest k.1

    through : (xs ys zs : List A) → list_before before xs ys ≡ true → list_before before ys zs ≡ true → list_before before xs zs ≡ true
    through [] [] zs h k = cc
    through [] (y ∷ ys) [] h k = cc
    through [] (y ∷ ys) (z ∷ zs) h k = refl
    through (x ∷ xs) [] zs h k = cc
    through (x ∷ xs) (y ∷ ys) [] h k = cc
    through (x ∷ xs) (y ∷ ys) (z ∷ zs) h k =
        by_views (then_view before o x y (list_before before xs ys) h) (then_view before o y z (list_before before ys zs) k) (through xs ys zs)
      where
        by_views : (before x y ≡ true) ⊎ ((x ≡ y) × (list_before before xs ys ≡ true)) → (before y z ≡ true)
            ⊎ ((y ≡ z) × (list_before before ys zs ≡ true))
            → (list_before before xs ys ≡ true → list_before before ys zs ≡ true → list_before before xs zs ≡ true)
            → list_before before (x ∷ xs) (z ∷ zs) ≡ true
        by_views (inl a) (inl b) rest = then_first before x z (list_before before xs zs) (o.through x y z a b)
        by_views (inl a) (inr b) rest = then_first before x z (list_before before xs zs) (subst (λ v. before x v ≡ true) b.0 a)
        by_views (inr a) (inl b) rest = then_first before x z (list_before before xs zs) (subst (λ v. before v z ≡ true) (sym a.0) b)
        by_views (inr a) (inr b) rest = then_rest before o x z (list_before before xs zs) (a.0 ∙ b.0) (rest a.1 b.1)

    total : (xs ys : List A) → (list_before before xs ys ≡ true) ⊎ ((xs ≡ ys) ⊎ (list_before before ys xs ≡ true))
    total [] [] = inr (inl refl)
    total [] (y ∷ ys) = inl refl
    total (x ∷ xs) [] = inr (inr refl)
    total (x ∷ xs) (y ∷ ys) = by_heads (o.total x y) (total xs ys)
      where
        by_heads : (before x y ≡ true) ⊎ ((x ≡ y) ⊎ (before y x ≡ true)) → (list_before before xs ys ≡ true)
            ⊎ ((xs ≡ ys) ⊎ (list_before before ys xs ≡ true))
            → (list_before before (x ∷ xs) (y ∷ ys) ≡ true) ⊎ ((x ∷ xs ≡ y ∷ ys) ⊎ (list_before before (y ∷ ys) (x ∷ xs) ≡ true))
        by_heads (inl a) rest = inl (then_first before x y (list_before before xs ys) a)
        by_heads (inr (inr a)) rest = inr (inr (then_first before y x (list_before before ys xs) a))
        by_heads (inr (inl e)) (inl a) = inl (then_rest before o x y (list_before before xs ys) e a)
        by_heads (inr (inl e)) (inr (inl f)) = inr (inl (ap (λ h. h ∷ xs) e ∙ ap (λ t. y ∷ t) f))
        by_heads (inr (inl e)) (inr (inr a)) = inr (inr (then_rest before o y x (list_before before ys xs) (sym e) a))

abbrev pub AreIn : {A : Type 0} → List A → List A → Type 0
AreIn {A} xs ys = Each (λ x. Some_of (λ (y : A). y ≡ x) ys) xs

-- a total order is strict
pub total_strict : {A : Type 0} (before : A → A → Bool) → IsTotalOrder before → IsStrictOrder before
total_strict before o = record { never = o.never; through = o.through }

-- rising lists with the same items are one
pub rising_same : {A : Type 0} (before : A → A → Bool) → IsStrictOrder before → (xs ys : List A) → AreRising before xs → AreRising before ys
    → AreIn xs ys → AreIn ys xs → xs ≡ ys
rising_same before o [] [] r s h k = refl
rising_same before o [] (y ∷ ys) r s h k = absurd k.0
rising_same before o (x ∷ xs) [] r s h k = absurd h.0
rising_same {A} before o (x ∷ xs) (y ∷ ys) r s h k =
    ap (λ v. v ∷ xs) heads ∙ ap (λ t. y ∷ t) (rising_same before o xs ys r.1 s.1
    (drop xs y ys (λ z later e. o.never x (subst (λ v. before x v ≡ true) (sym e ∙ sym heads) later)) r.0 h.1)
    (drop ys x xs (λ z later e. o.never y (subst (λ v. before y v ≡ true) (sym e ∙ heads) later)) s.0 k.1))
  where
    -- an item that is in a list but differs from its head is in its rest
    other_head : (z y : A) (ys : List A) → (y ≡ z → ⊥) → Some_of (λ (v : A). v ≡ z) (y ∷ ys) → Some_of (λ (v : A). v ≡ z) ys
    other_head z y ys n (inl e) = absurd (n e)
    other_head z y ys n (inr i) = i

    drop : {P : A → Type 0} (xs : List A) (y : A) (ys : List A) → ((z : A) → P z → y ≡ z → ⊥) → Each P xs
        → Each (λ z. Some_of (λ (v : A). v ≡ z) (y ∷ ys)) xs → AreIn xs ys
    drop [] y ys n p i = tt
    drop (z ∷ zs) y ys n p i = (other_head z y ys (n z p.0) i.0, drop zs y ys n p.1 i.1)

    later : (z y : A) (ys : List A) → Each (λ v. before y v ≡ true) ys → Some_of (λ (v : A). v ≡ z) (y ∷ ys) → (y ≡ z) ⊎ (before y z ≡ true)
    later z y ys r (inl e) = inl e
    later z y ys r (inr i) =
        inr (some_each (λ (v : A). v ≡ z) (λ v. before y v ≡ true) (before y z ≡ true) (λ v e b. subst (λ w. before y w ≡ true) e b) ys i r)

    by_heads : (y ≡ x) ⊎ (before y x ≡ true) → (x ≡ y) ⊎ (before x y ≡ true) → x ≡ y
    by_heads (inl e) b = sym e
    by_heads (inr a) (inl e) = e
    by_heads (inr a) (inr b) = absurd (o.never x (o.through x y x b a))

    heads : x ≡ y
    heads = by_heads (later x y ys s.0 h.0) (later y x xs r.0 k.0)

-- neither is before the other
abbrev pub is_same : {A : Type 0} → (A → A → Bool) → A → A → Bool
is_same before x y = not (before x y) && not (before y x)

pub same_itself : {A : Type 0} (before : A → A → Bool) → IsTotalOrder before → (x : A) → is_same before x x ≡ true
same_itself before o x = rw (not_false (before x x) (o.never x)) refl

pub sorted_same : {A : Type 0} (P : A → Type 0) (before : A → A → Bool) → IsTotalOrder before → (xs ys : List A) → Each P xs → Each P ys
    → AreSorted before xs → AreSorted before ys
    → ((w : A) → P w → count (is_same before w) xs ≡ count (is_same before w) ys) → xs ≡ ys
sorted_same P before o [] [] p q r s h = refl
sorted_same P before o [] (y ∷ ys) p q r s h =
    let one : ℕ = 1 in let none : ℕ = 0 in let e : none ≡ one + count (is_same before y) ys = rw (same_itself before o y) at (h y q.0) in
    absurd (omega (arith, e))
sorted_same P before o (x ∷ xs) [] p q r s h =
    let one : ℕ = 1 in let e : one + count (is_same before x) xs ≡ 0 = rw (same_itself before o x) at (h x p.0) in absurd (omega (arith, e))
sorted_same {A} P before o (x ∷ xs) (y ∷ ys) p q r s h = by_heads (o.total x y) (sorted_same P before o xs ys p.1 q.1 r.1 s.1)
  where
    -- what is before the head of a sorted list isn't counted in it
    uncounted : (x y : A) (ys : List A) → Each (λ z. before z y ≡ true → ⊥) ys → before x y ≡ true → count (is_same before x) (y ∷ ys) ≡ 0
    uncounted x y ys s b =
        none_counted (is_same before x) (y ∷ ys) (first, each_weaker (λ z. before z y ≡ true → ⊥) (λ z. is_same before x z ≡ false) differ ys s)
      where
        first : is_same before x y ≡ false
        first = rw b refl

        differ : (z : A) → (before z y ≡ true → ⊥) → is_same before x z ≡ false
        differ z n = by_total (o.total x z)
          where
            by_total : (before x z ≡ true) ⊎ ((x ≡ z) ⊎ (before z x ≡ true)) → is_same before x z ≡ false
            by_total (inl k) = rw k refl
            by_total (inr (inl e)) = absurd (n (subst (λ v. before v y ≡ true) e b))
            by_total (inr (inr k)) = absurd (n (o.through z x y k b))

    by_heads : (before x y ≡ true) ⊎ ((x ≡ y) ⊎ (before y x ≡ true))
        → (((w : A) → P w → count (is_same before w) xs ≡ count (is_same before w) ys) → xs ≡ ys) → x ∷ xs ≡ y ∷ ys
    by_heads (inl b) again =
        let one : ℕ = 1 in let e : one + count (is_same before x) xs ≡ count (is_same before x) (y ∷ ys) = rw (same_itself before o x) at (h x p.0) in
        let z = uncounted x y ys s.0 b in absurd (omega (arith, e, z))
    by_heads (inr (inr b)) again =
        let one : ℕ = 1 in let e : count (is_same before y) (x ∷ xs) ≡ one + count (is_same before y) ys = rw (same_itself before o y) at (h y q.0) in
        let z = uncounted y x xs r.0 b in absurd (omega (arith, e, z))
    by_heads (inr (inl e)) again = ap (λ v. v ∷ xs) e ∙ ap (λ t. y ∷ t) (again tails)
      where
        tails : (w : A) → P w → count (is_same before w) xs ≡ count (is_same before w) ys
        tails w pw =
            let both = h w pw in
            let one_if : A → ℕ = λ v. cond (is_same before w v) 1 0 in let same : one_if x ≡ one_if y = ap one_if e in
            omega (arith, both, same)
