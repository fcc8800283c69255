-- Steps of weak revocations one after another, and why a denied act has no step.
use Rattle.std.proofs.Common.{ℕ, ◌≡◌, ◌<◌, ◌≤◌, ◌+◌, ◌∙◌, Bool, true, false, eqb, ltb, List, [], ◌∷◌, ◌++◌}
use Rattle.std.proofs.Common.{refl, arith, sym, subst, ap, inl, inr}
use Rattle.std.specs.Prelude.{◌⊎◌, filter, nat_lt}
use Rattle.std.proofs.lemmas.Bool.{eq-eqb, false≢true}
use Rattle.std.proofs.lemmas.Bool.Decides.{nat_tests}
use Rattle.list_words.specs.Lists.{Each}
use Rattle.role_order.specs.Roles.{has_role, IsIn, Rises}
use Rattle.role_order.proofs.SetLemmas.{has_role-above}
use Rattle.list_words.proofs.TestLemmas.{or_right}
use Rattle.list_words.proofs.EachLemmas.{each_weaker}
use Rattle.list_words.proofs.NumberLemmas.{compare}
use Rattle.arbac_policy.specs.Truth.{Holder}
use Rattle.arbac_policy.specs.Rules.{Rules}
use Rattle.arbac_policy.specs.Holders.{admins_of}
use Rattle.arbac_policy.specs.Steps.{WeakStep, WeakSteps}
use Rattle.arbac_policy.specs.Verdicts.{WeakDenied, WeaksDenied}
use Rattle.arbac_policy.specs.declared.verdict.Part.{Part}

none_below : (xs : List ℕ) (n : ℕ) → Each (λ x. n ≤ x) xs → filter (λ x. nat_lt x n) xs ≡ []
none_below [] n h = refl
none_below (x ∷ xs) n h = let ge : ltb x n ≡ false = grind (arith, nat_tests, h.0) in rw ge (none_below xs n h.1)

-- a rising list around one of its roles: those below it, the role and the rest
around : (xs : List ℕ) (at : ℕ) → Rises xs → has_role xs at ≡ true
    → (rest : List ℕ) × (xs ≡ filter (λ x. nat_lt x at) xs ++ at ∷ rest)
    × (filter (λ x. nat_lt x (at + 1)) xs ≡ filter (λ x. nat_lt x at) xs ++ at ∷ [])
around [] at rises h = cc
around (x ∷ xs) at rises h = by_order (compare x at) (λ k. around xs at rises.1 k)
  where
    by_order : (x < at) ⊎ ((x ≡ at) ⊎ (at < x))
        → (has_role xs at ≡ true → (rest : List ℕ) × (xs ≡ filter (λ x. nat_lt x at) xs ++ at ∷ rest)
        × (filter (λ x. nat_lt x (at + 1)) xs ≡ filter (λ x. nat_lt x at) xs ++ at ∷ []))
        → (rest : List ℕ) × (x ∷ xs ≡ filter (λ x. nat_lt x at) (x ∷ xs) ++ at ∷ rest)
        × (filter (λ x. nat_lt x (at + 1)) (x ∷ xs) ≡ filter (λ x. nat_lt x at) (x ∷ xs) ++ at ∷ [])
    by_order (inl l) further =
        let below : ltb x at ≡ true = grind (arith, nat_tests) in
        let next : ltb x (at + 1) ≡ true = grind (arith, nat_tests) in
        let other : eqb x at ≡ false = grind (arith, nat_tests) in
        let r = further (rw other at h) in
        (r.0, rw below (ap (λ t. x ∷ t) r.1), rw (next, below) (ap (λ t. x ∷ t) r.2))
    by_order (inr (inl e)) further =
        let here : ltb x at ≡ false = grind (arith, nat_tests) in
        let next : ltb x (at + 1) ≡ true = grind (arith, nat_tests) in
        let above : Each (λ y. at < y) xs = subst (λ v. Each (λ y. v < y) xs) e rises.0 in
        let none = none_below xs at (each_weaker (λ y. at < y) (λ y. at ≤ y) (λ y l. omega arith) xs above) in
        let still = none_below xs (at + 1) (each_weaker (λ y. at < y) (λ y. at + 1 ≤ y) (λ y l. omega arith) xs above) in
        (xs, rw (here, none) (ap (λ v. v ∷ xs) e), rw (next, here, still, none) (ap (λ v. v ∷ []) e))
    by_order (inr (inr l)) further =
        let other : eqb x at ≡ false = grind (arith, nat_tests) in
        let there : has_role xs at ≡ true = rw other at h in
        let gone = has_role-above at xs (each_weaker (λ y. x < y) (λ y. at < y) (λ y k. omega arith) xs rises.0) in
        absurd (false≢true (sym gone ∙ there))

-- the roles below a number, and the next one where it is there
pub below_next : (xs : List ℕ) (at : ℕ) → Rises xs → has_role xs at ≡ true
    → filter (λ x. nat_lt x (at + 1)) xs ≡ filter (λ x. nat_lt x at) xs ++ at ∷ []
below_next xs at rises h = (around xs at rises h).2

-- a rising list around one of its roles
pub split_at : (xs : List ℕ) (at : ℕ) → Rises xs → has_role xs at ≡ true → (rest : List ℕ)
    × (xs ≡ filter (λ x. nat_lt x at) xs ++ at ∷ rest)
split_at xs at rises h = let r = around xs at rises h in (r.0, r.1)

-- where the next one isn't there
pub below_same : (xs : List ℕ) (at : ℕ) → has_role xs at ≡ false → filter (λ x. nat_lt x (at + 1)) xs ≡ filter (λ x. nat_lt x at) xs
below_same [] at h = refl
below_same (x ∷ xs) at h = by_test (eqb x at) refl (ltb x at) refl (λ k. below_same xs at k)
  where
    by_test : (t : Bool) → eqb x at ≡ t → (s : Bool) → ltb x at ≡ s
        → (has_role xs at ≡ false → filter (λ x. nat_lt x (at + 1)) xs ≡ filter (λ x. nat_lt x at) xs)
        → filter (λ x. nat_lt x (at + 1)) (x ∷ xs) ≡ filter (λ x. nat_lt x at) (x ∷ xs)
    by_test true e s a rest = let no : true ≡ false = rw e at h in cc
    by_test false e true a rest =
        let less : ltb x (at + 1) ≡ true = grind (arith, nat_tests) in
        let gone : has_role xs at ≡ false = rw e at h in
        rw (less, a) (ap (λ t. x ∷ t) (rest gone))
    by_test false e false a rest =
        let more : ltb x (at + 1) ≡ false = grind (arith, nat_tests) in
        let gone : has_role xs at ≡ false = rw e at h in
        rw (more, a) (rest gone)

pub below_all : (xs : List ℕ) (n : ℕ) → ((role : ℕ) → IsIn xs role → role < n) → filter (λ x. nat_lt x n) xs ≡ xs
below_all [] n h = refl
below_all (x ∷ xs) n h =
    let here : x < n = h x (rw (eq-eqb x x refl) refl) in
    let less : ltb x n ≡ true = grind (arith, nat_tests) in
    rw less (ap (λ t. x ∷ t) (below_all xs n (λ role k. h role (or_right (eqb x role) (has_role xs role) k))))

pub below_none : (xs : List ℕ) → filter (λ x. nat_lt x 0) xs ≡ []
below_none [] = refl
below_none (x ∷ xs) = let no : ltb x 0 ≡ false = grind (arith, nat_tests) in rw no (below_none xs)

pub weak_steps_more : (holder : Holder) (rules : Rules) (users old mid new : List (List ℕ)) (admin target : ℕ) (roles : List ℕ) (role : ℕ)
    → WeakSteps holder rules users old admin target roles mid → WeakStep holder rules (admins_of holder users mid) mid admin target role new
    → WeakSteps holder rules users old admin target (roles ++ role ∷ []) new
weak_steps_more holder rules users old mid new admin target [] role steps step =
    let P : List (List ℕ) → Type 0 = λ p. WeakStep holder rules (admins_of holder users p) p admin target role new in
    (new, subst P steps step, refl)
weak_steps_more holder rules users old mid new admin target (first ∷ roles) role steps step =
    (steps.0, steps.1, weak_steps_more holder rules users steps.0 mid new admin target roles role steps.2 step)

pub weaks_denied_at : (holder : Holder) (rules : Rules) (users old mid : List (List ℕ)) (admin target : ℕ) (roles : List ℕ) (role : ℕ) (rest : List ℕ)
    (part : Part)
    → WeakSteps holder rules users old admin target roles mid → WeakDenied holder rules (admins_of holder users mid) mid admin target role part
    → WeaksDenied holder rules users old admin target (roles ++ role ∷ rest) part
weaks_denied_at holder rules users old mid admin target [] role rest part steps denied =
    let P : List (List ℕ) → Type 0 = λ p. WeakDenied holder rules (admins_of holder users p) p admin target role part in
    inl (subst P steps denied)
weaks_denied_at holder rules users old mid admin target (first ∷ roles) role rest part steps denied =
    inr (steps.0, steps.1, weaks_denied_at holder rules users steps.0 mid admin target roles role rest part steps.2 denied)
