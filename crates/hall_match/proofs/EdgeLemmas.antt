-- Edges that two loops list: item by item, and place by place.
use Rattle.std.proofs.Common.{ℕ, ◌≡◌, ◌<◌, ◌+◌, Bool, true, false, eqb, List, [], ◌∷◌, ◌++◌, refl, arith, zero, suc, sym, subst, ap}
use Rattle.std.proofs.Common.{inl, inr}
use Rattle.std.specs.Prelude.{◌⊎◌, ◌↔◌, Contains}
use Rattle.std.proofs.lemmas.Bool.{eqb-true}
use Rattle.std.proofs.lemmas.Bool.Decides.{nat_tests}
use Rattle.std.proofs.lemmas.List.Elements.{Contains-append_left, Contains-append_right, Contains-append_cases}

-- beside the first edges stand those of the item with the places before the number that it goes with
abbrev pub HaveUpTo : List (ℕ × ℕ) → List (ℕ × ℕ) → ℕ → ℕ → (ℕ → Type 0) → Type 0
HaveUpTo init edges item at Goes = (k u : ℕ) → Contains edges (k, u) ↔ (Contains init (k, u) ⊎ ((k ≡ item) × (u < at) × Goes u))

-- the edges are those of the items before the number
abbrev pub HaveItems : List (ℕ × ℕ) → ℕ → (ℕ → ℕ → Type 0) → Type 0
HaveItems edges at Goes = (k u : ℕ) → Contains edges (k, u) ↔ ((k < at) × Goes k u)

of_one : {A : Type 0} (x y : A) → Contains (x ∷ []) y → x ≡ y
of_one x y (zero, l, e) = e
of_one x y (suc k, l, e) = absurd (omega (arith, l))

one_more : (init : List (ℕ × ℕ)) (item at : ℕ) (Goes : ℕ → Type 0) (k u : ℕ) → Contains init (k, u) ⊎ ((k ≡ item) × (u < at) × Goes u)
    → Contains init (k, u) ⊎ ((k ≡ item) × (u < at + 1) × Goes u)
one_more init item at Goes k u (inl c) = inl c
one_more init item at Goes k u (inr h) = inr (h.0, omega (arith, h.1), h.2)

-- the item goes with the next place
pub place_more : (init edges : List (ℕ × ℕ)) (item at : ℕ) (Goes : ℕ → Type 0) → HaveUpTo init edges item at Goes → Goes at
    → HaveUpTo init (edges ++ (item, at) ∷ []) item (at + 1) Goes
place_more init edges item at Goes before goes k u = (λ h. to (Contains-append_cases edges ((item, at) ∷ []) (k, u) h), from)
  where
    to : Contains edges (k, u) ⊎ Contains {X = ℕ × ℕ} ((item, at) ∷ []) (k, u) → Contains init (k, u) ⊎ ((k ≡ item) × (u < at + 1) × Goes u)
    to (inl c) = one_more init item at Goes k u ((before k u).0 c)
    to (inr c) =
        let e : ◌≡◌ {A = ℕ × ℕ} (item, at) (k, u) = of_one {A = ℕ × ℕ} (item, at) (k, u) c in
        let first : item ≡ k = ap (λ (p : ℕ × ℕ). p.0) e in
        let second : at ≡ u = ap (λ (p : ℕ × ℕ). p.1) e in
        inr (sym first, omega arith, subst Goes second goes)

    from : Contains init (k, u) ⊎ ((k ≡ item) × (u < at + 1) × Goes u) → Contains (edges ++ (item, at) ∷ []) (k, u)
    from (inl c) = Contains-append_left edges ((item, at) ∷ []) (k, u) ((before k u).1 (inl c))
    from (inr h) = by_place (eqb u at) refl
      where
        by_place : (t : Bool) → eqb u at ≡ t → Contains (edges ++ (item, at) ∷ []) (k, u)
        by_place true e =
            let same : u ≡ at = eqb-true u at e in
            subst (λ (n : ℕ). Contains (edges ++ (item, at) ∷ []) (n, u)) (sym h.0)
            (subst (λ (n : ℕ). Contains (edges ++ (item, at) ∷ []) (item, n)) (sym same)
            (Contains-append_right edges ((item, at) ∷ []) (item, at) (0, omega arith, refl)))
        by_place false e =
            let less : u < at = grind (arith, nat_tests, h.1) in Contains-append_left edges ((item, at) ∷ []) (k, u) ((before k u).1 (inr (h.0, less, h.2)))

-- it doesn't go with it
pub place_same : (init edges : List (ℕ × ℕ)) (item at : ℕ) (Goes : ℕ → Type 0) → HaveUpTo init edges item at Goes → (Goes at → ⊥)
    → HaveUpTo init edges item (at + 1) Goes
place_same init edges item at Goes before apart k u = (λ h. one_more init item at Goes k u ((before k u).0 h), λ h. (before k u).1 (stronger h))
  where
    stronger : Contains init (k, u) ⊎ ((k ≡ item) × (u < at + 1) × Goes u) → Contains init (k, u) ⊎ ((k ≡ item) × (u < at) × Goes u)
    stronger (inl c) = inl c
    stronger (inr h) = by_place (eqb u at) refl
      where
        by_place : (t : Bool) → eqb u at ≡ t → Contains init (k, u) ⊎ ((k ≡ item) × (u < at) × Goes u)
        by_place true e = absurd (apart (subst Goes (eqb-true u at e) h.2))
        by_place false e = let less : u < at = grind (arith, nat_tests, h.1) in inr (h.0, less, h.2)

-- with the edges of the next item
pub item_more : (old new : List (ℕ × ℕ)) (at : ℕ) (Goes : ℕ → ℕ → Type 0) → HaveItems old at Goes
    → ((k u : ℕ) → Contains new (k, u) ↔ (Contains old (k, u) ⊎ ((k ≡ at) × Goes at u))) → HaveItems new (at + 1) Goes
item_more old new at Goes before step k u = (λ h. to ((step k u).0 h), λ h. (step k u).1 (from h))
  where
    to : Contains old (k, u) ⊎ ((k ≡ at) × Goes at u) → (k < at + 1) × Goes k u
    to (inl c) = let b = (before k u).0 c in (omega (arith, b.0), b.1)
    to (inr h) = (omega (arith, h.0), subst (λ n. Goes n u) (sym h.0) h.1)

    from : (k < at + 1) × Goes k u → Contains old (k, u) ⊎ ((k ≡ at) × Goes at u)
    from h = by_place (eqb k at) refl
      where
        by_place : (t : Bool) → eqb k at ≡ t → Contains old (k, u) ⊎ ((k ≡ at) × Goes at u)
        by_place true e = let same : k ≡ at = eqb-true k at e in inr (same, subst (λ n. Goes n u) same h.1)
        by_place false e = let less : k < at = grind (arith, nat_tests, h.0) in inl ((before k u).1 (less, h.1))
