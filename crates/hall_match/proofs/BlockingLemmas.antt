-- The blocked items, collected one after another.
use Rattle.std.proofs.Common.{ℕ, ◌≡◌, ◌<◌, ◌≤◌, ◌+◌, List, [], ◌∷◌, ◌++◌, length, get_or, take, arith, sym, ◌∙◌, ap}
use Rattle.std.proofs.Common.{Bool, true, false, cond, eqb, ltb, Option, None, count_by, inl, inr}
use Rattle.std.specs.Prelude.{◌⊎◌, ◌↔◌, Contains, All}
use Rattle.std.specs.List.Sorted.{IsStrictlyIncreasing}
use Rattle.std.proofs.lemmas.Bool.{cases_eq, cases_lt, or_cases, or_parts, eqb-true, eqb-false, lt-ltb, le-ltb, false≢true}
use Rattle.std.proofs.lemmas.List.{length_push, get_or_append_left, get_or_push}
use Rattle.std.proofs.lemmas.List.Elements.{All-push, All-weaker, Contains-append_left, Contains-push, Contains-push_cases}
use Rattle.std.proofs.lemmas.List.Sums.{count_by_more_yes, count_by_more_no}
use Rattle.hall_match.specs.Holding.{given_at}
use Rattle.hall_match.specs.Blocking.{is_seen_at, is_blocked}

-- the blocked items before a number
pub record BlockedTo (given : List (Option ℕ)) (seen : List Bool) (item i : ℕ)
    (items : List ℕ) : Type 0 where
  pub rising : IsStrictlyIncreasing items
  pub below : All (λ x. x < i) items
  pub exact : (x : ℕ) → Contains items x ↔ ((x < i) × (is_blocked given seen item x ≡ true))
  pub count : length items ≡ count_by (is_seen_at seen) (take i given) + cond (ltb item i) 1 0

-- whether the item was passed, as a number
abbrev pub passed : ℕ → ℕ → ℕ
passed item i = cond (ltb item i) 1 0

pub passed_same : (item i : ℕ) → (i ≡ item → ⊥) → passed item (i + 1) ≡ passed item i
passed_same item i n = either (cases_lt item i)
  where
    either : (item < i) ⊎ (i ≤ item) → passed item (i + 1) ≡ passed item i
    either (inl l) = ap (λ t. cond {A = ℕ} t 1 0) (lt-ltb item (i + 1) (omega (arith, l)) ∙ sym
        (lt-ltb item i l))
    either (inr l) = ap (λ t. cond {A = ℕ} t 1 0) (le-ltb item (i + 1) (omega (arith, l, n)) ∙ sym
        (le-ltb item i l))

pub rising_push : (xs : List ℕ) (y : ℕ) → All (λ x. x < y) xs → IsStrictlyIncreasing xs
    → IsStrictlyIncreasing (xs ++ y ∷ [])
rising_push xs y below up k l = either (cases_lt (k + 1) (length xs))
  where
    long : length (xs ++ y ∷ []) ≡ length xs + 1
    long = length_push xs y

    either : (k + 1 < length xs) ⊎ (length xs ≤ k + 1)
        → get_or (xs ++ y ∷ []) k 0 < get_or (xs ++ y ∷ []) (k + 1) 0
    either (inl m) =
        let a = get_or_append_left xs (y ∷ []) 0 k (omega (arith, m)) in
        let b = get_or_append_left xs (y ∷ []) 0 (k + 1) m in
        let u = up k m in omega (arith, a, b, u)
    either (inr m) =
        let e = long in
        let a = get_or_append_left xs (y ∷ []) 0 k (omega (arith, e, l)) in
        let b = get_or_push xs y 0 (k + 1) (omega (arith, e, l, m)) in
        let u = below k 0 (omega (arith, e, l)) in omega (arith, a, b, u)

module _ (given : List (Option ℕ)) (seen : List Bool) (item i : ℕ) (items : List ℕ)
    (inside : i < length given) (h : BlockedTo given seen item i items) where
  -- how many items that are given a seen place come before the next number
  count_next : (b : Bool) → is_seen_at seen (given_at given i) ≡ b
      → count_by (is_seen_at seen) (take (i + 1) given) ≡ count_by (is_seen_at seen) (take i given)
      + cond b 1 0
  count_next true e = count_by_more_yes (is_seen_at seen) given i None inside e
  count_next false e = let r = count_by_more_no (is_seen_at seen) given i None inside e in omega
      (arith, r)

  pub blocked_push : given_at given item ≡ None → is_blocked given seen item i ≡ true
      → BlockedTo given seen item (i + 1) (items ++ i ∷ [])
  blocked_push free here = record {
    rising = rising_push items i h.below h.rising;
    below = All-push (λ x. x < i + 1) items i (All-weaker (λ x. x < i) (λ x. x < i + 1)
        (λ x l. omega (arith, l)) items h.below) (omega arith);
    exact = λ x. (λ c. there x (Contains-push_cases items i x c), λ b. back x b (cases_eq x i));
    count = count (or_cases (eqb i item) (is_seen_at seen (given_at given i)) here)
        (cases_eq i item);
  }
    where
      there : (x : ℕ) → Contains items x ⊎ (i ≡ x)
          → (x < i + 1) × (is_blocked given seen item x ≡ true)
      there x (inl c) = let b = (h.exact x).0 c in let l = b.0 in (omega (arith, l), b.1)
      there x (inr e) = (omega (arith, e), ap (is_blocked given seen item) (sym e) ∙ here)

      back : (x : ℕ) → (x < i + 1) × (is_blocked given seen item x ≡ true) → (x ≡ i) ⊎ (x ≡ i → ⊥)
          → Contains (items ++ i ∷ []) x
      back x b (inl e) = rw e (Contains-push items i)
      back x b (inr n) = let l = b.0 in Contains-append_left items (i ∷ []) x
          ((h.exact x).1 (omega (arith, n, l), b.1))

      count : (eqb i item ≡ true) ⊎ (is_seen_at seen (given_at given i) ≡ true)
          → (i ≡ item) ⊎ (i ≡ item → ⊥)
          → length (items ++ i ∷ []) ≡ count_by (is_seen_at seen) (take (i + 1) given) + cond
          (ltb item (i + 1)) 1 0
      count o (inl same) =
          let a = length_push items i in
          let b = h.count in
          let off : is_seen_at seen (given_at given i) ≡ false = ap (is_seen_at seen)
          (ap (given_at given) same ∙ free) in
          let n = count_next false off in
          let p = ap (λ t. cond {A = ℕ} t 1 0) (le-ltb item i (omega (arith, same))) in
          let q = ap (λ t. cond {A = ℕ} t 1 0) (lt-ltb item (i + 1) (omega (arith, same))) in omega
          (arith, a, b, n, p, q)
      count (inl e) (inr n) = absurd (n (eqb-true i item e))
      count (inr e) (inr n) =
          let a = length_push items i in
          let b = h.count in
          let m = count_next true e in
          let p = passed_same item i n in omega (arith, a, b, m, p)

  pub blocked_skip : is_blocked given seen item i ≡ false → BlockedTo given seen item (i + 1) items
  blocked_skip here = record {
    rising = h.rising;
    below = All-weaker (λ x. x < i) (λ x. x < i + 1) (λ x l. omega (arith, l)) items h.below;
    exact = λ x. (
      λ c. let b = (h.exact x).0 c in let l = b.0 in (omega (arith, l), b.1),
      λ b. back
          x b (cases_eq x i),
    );
    count = (let b = h.count in let m = count_next false parts.1 in let p = passed_same item i
        (eqb-false i item parts.0) in omega (arith, b, m, p));
  }
    where
      parts : (eqb i item ≡ false) × (is_seen_at seen (given_at given i) ≡ false)
      parts = or_parts (eqb i item) (is_seen_at seen (given_at given i)) here

      back : (x : ℕ) → (x < i + 1) × (is_blocked given seen item x ≡ true) → (x ≡ i) ⊎ (x ≡ i → ⊥)
          → Contains items x
      back x b (inl e) = absurd (false≢true (sym here ∙ ap (is_blocked given seen item) (sym e) ∙
          b.1))
      back x b (inr n) = let l = b.0 in (h.exact x).1 (omega (arith, n, l), b.1)
