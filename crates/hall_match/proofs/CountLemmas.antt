-- Counting over lists: of one place, of several places, and of items at rising numbers.
use Rattle.std.proofs.Common.{ℕ, ◌≡◌, ◌<◌, ◌≤◌, ◌+◌, ◌-◌, List, [], ◌∷◌, length, get_or, drop, arith, suc, sym, ◌∙◌, ap}
use Rattle.std.proofs.Common.{refl, Bool, true, false, cond, eqb, Option, Some, None, sum_by, count_by, inl, inr}
use Rattle.std.specs.Prelude.{◌||◌, ◌⊎◌}
use Rattle.std.specs.List.{list_any}
use Rattle.std.specs.List.Sorted.{IsStrictlyIncreasing}
use Rattle.std.proofs.lemmas.List.{drop-drop}
use Rattle.std.proofs.lemmas.List.Sums.{sum_by-cons, sum_by-drop_more, sum_by-take-drop}
use Rattle.std.proofs.lemmas.Bool.{eqb-true, or_cases, cond-true}
use Rattle.hall_match.specs.Holding.{is_at}

-- each number is above the one before it, and the first at least at the bound
abbrev pub IsRising : ℕ → List ℕ → Type 0
IsRising low [] = Unit {0}
IsRising low (x ∷ xs) = (low ≤ x) × IsRising (x + 1) xs

pub rising_from : (xs : List ℕ) (low : ℕ) → (0 < length xs → low ≤ get_or xs 0 0)
    → IsStrictlyIncreasing xs → IsRising low xs
rising_from [] low h s = tt
rising_from (x ∷ xs) low h s = (
  h (omega arith),
  rising_from xs (x + 1) (λ l. let r = s 0 (omega arith) in omega (arith, r))
      (λ k l. tail s k l),
)
  where
    tail : IsStrictlyIncreasing (x ∷ xs) → (k : ℕ) → k + 1 < length xs
        → get_or xs k 0 < get_or xs (k + 1) 0
    tail s k l = let e : suc k + 1 ≡ suc (k + 1) = omega arith in rw e at (s (suc k) (omega arith))

pub count-cons : {X : Type 0} (p : X → Bool) (x : X) (xs : List X)
    → count_by p (x ∷ xs) ≡ cond (p x) 1 0 + count_by p xs
count-cons p x xs = sum_by-cons (λ y. cond (p y) 1 0) x xs

-- two tests that never both pass
pub count-or : {X : Type 0} (p q : X → Bool) (xs : List X) → ((x : X) → p x ≡ true → q x ≡ true → ⊥)
    → count_by (λ x. p x || q x) xs ≡ count_by p xs + count_by q xs
count-or p q [] apart = refl
count-or p q (x ∷ xs) apart =
    let r = count-or p q xs apart in
    let a = count-cons (λ y. p y || q y) x xs in
    let b = count-cons p x xs in
    let d = count-cons q x xs in
    let e = one (p x) (q x) (apart x) in
    omega (arith, r, a, b, d, e)
  where
    one : (s t : Bool) → (s ≡ true → t ≡ true → ⊥) → cond (s || t) 1 0 ≡ cond s 1 0 + cond t 1 0
    one true true n = absurd (n refl refl)
    one true false n = refl
    one false true n = refl
    one false false n = refl

-- what is given one of these places is given a place from the bound on
pub any-rising : (low : ℕ) (places : List ℕ) (given : Option ℕ) → IsRising low places
    → list_any (λ p. is_at p given) places ≡ true → (x : ℕ) × (given ≡ Some x) × (low ≤ x)
any-rising low [] given r t = cc
any-rising low (p ∷ ps) None r t = absurd (none_any ps t)
  where
    none_any : (ps : List ℕ) → list_any (λ p. is_at p None) ps ≡ true → ⊥
    none_any [] t = cc
    none_any (p ∷ ps) t = none_any ps t
any-rising low (p ∷ ps) (Some x) r t = (
  x,
  refl,
  either (λ e. any-rising (p + 1) ps (Some x) r.1 e)
      (or_cases (eqb x p) (list_any (λ p. is_at p (Some x)) ps) t),
)
  where
    either : (list_any (λ q. is_at q (Some x)) ps ≡ true → (y : ℕ) × (Some x ≡ Some y) ×
        (p + 1 ≤ y)) → (eqb x p ≡ true) ⊎ (list_any (λ q. is_at q (Some x)) ps ≡ true) → low ≤ x
    either f (inl e) = let s = eqb-true x p e in let b = r.0 in omega (arith, s, b)
    either f (inr e) = let s = f e in let y : x ≡ s.0 = cc in let b = r.0 in let h = s.2 in omega
        (arith, y, b, h)

-- the counts at each of the places make the count at any of them
pub sum-counts : {X : Type 0} (key : X → Option ℕ) (low : ℕ) (places : List ℕ) (xs : List X)
    → IsRising low places
    → sum_by (λ p. count_by (λ x. is_at p (key x)) xs) places ≡ count_by
    (λ x. list_any (λ p. is_at p (key x)) places) xs
sum-counts key low [] xs r = sym (count_none xs)
  where
    count_none : {X : Type 0} (xs : List X) → count_by (λ x. false) xs ≡ 0
    count_none [] = refl
    count_none (x ∷ xs) = let a = count-cons (λ x. false) x xs in let r = count_none xs in omega
        (arith, a, r)
sum-counts {X} key low (p ∷ ps) xs r =
    let a = sum_by-cons (λ p. count_by (λ x. is_at p (key x)) xs) p ps in
    let b = sum-counts key (p + 1) ps xs r.1 in
    let d = count-or (λ x. is_at p (key x)) (λ x. list_any (λ p. is_at p (key x)) ps) xs
    (λ x s t. apart (key x) s t) in
    omega (arith, a, b, d)
  where
    apart : (given : Option ℕ) → is_at p given ≡ true → list_any (λ p. is_at p given) ps ≡ true → ⊥
    apart None s t = cc
    apart (Some x) s t =
        let above = any-rising (p + 1) ps (Some x) r.1 t in
        let y : x ≡ above.0 = cc in
        let here = eqb-true x p s in
        let h = above.2 in omega (arith, y, here, h)

pub count-drop-le : {X : Type 0} (p : X → Bool) (xs : List X) (low high : ℕ) → low ≤ high
    → count_by p (drop high xs) ≤ count_by p (drop low xs)
count-drop-le p xs low high l =
    let a = sum_by-take-drop (λ x. cond (p x) 1 0) (drop low xs) (high - low) in
    let b : drop (high - low) (drop low xs) ≡ drop high xs = drop-drop (high - low) low xs ∙
    (let e : low + (high - low) ≡ high = omega arith in ap (λ n. drop n xs) e) in
    let d = ap (count_by p) b in omega (arith, a, d)

-- rising numbers of elements that pass the test are at most as many as pass it
pub few : {X : Type 0} (p : X → Bool) (d : X) (xs : List X) (items : List ℕ) (low : ℕ)
    → IsRising low items
    → ((k : ℕ) → k < length items → (get_or items k 0 < length xs) ×
    (p (get_or xs (get_or items k 0) d) ≡ true)) → length items ≤ count_by p (drop low xs)
few p d xs [] low r h = omega arith
few p d xs (i ∷ is) low r h =
    let here = h 0 (omega arith) in
    let rest = few p d xs is (i + 1) r.1 (λ k l. h (suc k) (omega arith)) in
    let more = sum_by-drop_more (λ x. cond (p x) 1 0) xs i d here.0 in
    let one = cond-true {A = ℕ} (p (get_or xs i d)) 1 0 here.1 in
    let down = count-drop-le p xs low i r.0 in
    omega (arith, rest, more, one, down)

-- a sum of terms that are larger at each element is larger
pub sum-le : {X : Type 0} (f g : X → ℕ) (xs : List X)
    → ((k : ℕ) (x : X) → k < length xs → get_or xs k x ≡ x → f x ≤ g x) → sum_by f xs ≤ sum_by g xs
sum-le f g [] h = omega arith
sum-le f g (x ∷ xs) h =
    let a = sum_by-cons f x xs in
    let b = sum_by-cons g x xs in
    let one = h 0 x (omega arith) refl in
    let rest = sum-le f g xs (λ k y l e. h (suc k) y (omega arith) e) in
    omega (arith, a, b, one, rest)
