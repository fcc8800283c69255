-- Items whose neighbours are fewer have no injective map.
use Rattle.std.proofs.Common.{ℕ, ◌≡◌, ◌<◌, ◌≤◌, ◌+◌, List, [], ◌∷◌, length, refl, arith, sym, ◌∙◌, inl, inr}
use Rattle.list_words.specs.Lists.{Each, Some_of, AreDifferent}
use Rattle.list_words.specs.Embeds.{Embeds}
use Rattle.list_words.specs.Places.{OnlyAmong, AreDeficient}
use Rattle.list_words.proofs.GetLemmas.{get_there}
use Rattle.list_words.proofs.EachLemmas.{each_by, each_some, different_rest}

-- one item taken out of a list, and the others that are still in it
pub taken_out : (x : ℕ) (ys : List ℕ) → Some_of (λ y. y ≡ x) ys → (rest : List ℕ) × (length ys ≡ length rest + 1)
    × ((z : ℕ) → (x ≡ z → ⊥) → Some_of (λ y. y ≡ z) ys → Some_of (λ y. y ≡ z) rest)
taken_out x [] i = absurd i
taken_out x (y ∷ ys) (inl e) = (ys, omega arith, λ z n i. other z n i)
  where
    other : (z : ℕ) → (x ≡ z → ⊥) → Some_of (λ v. v ≡ z) (y ∷ ys) → Some_of (λ v. v ≡ z) ys
    other z n (inl f) = absurd (n (sym e ∙ f))
    other z n (inr i) = i
taken_out x (y ∷ ys) (inr i) = let r = taken_out x ys i in let long = r.1 in (y ∷ r.0, omega (arith, long), λ z n j. other r.0 r.2 z n j)
  where
    other : (rest : List ℕ) → ((z : ℕ) → (x ≡ z → ⊥) → Some_of (λ v. v ≡ z) ys → Some_of (λ v. v ≡ z) rest) → (z : ℕ) → (x ≡ z → ⊥)
        → Some_of (λ v. v ≡ z) (y ∷ ys) → Some_of (λ v. v ≡ z) (y ∷ rest)
    other rest f z n (inl e) = inl e
    other rest f z n (inr j) = inr (f z n j)

-- different places sent to different places among these are no more than these
pub few : (to : ℕ → ℕ) (items among : List ℕ) → AreDifferent items
    → ((i j : ℕ) → Some_of (λ v. v ≡ i) items → Some_of (λ v. v ≡ j) items → to i ≡ to j → i ≡ j)
    → Each (λ i. Some_of (λ v. v ≡ to i) among) items → length items ≤ length among
few to [] among d f h = omega arith
few to (x ∷ xs) among different f h =
    let d = different_rest x xs different in
    let r = taken_out (to x) among h.0 in
    let again = few to xs r.0 d.1 (λ i j a b. f i j (inr a) (inr b))
    (each_by (λ i. Some_of (λ v. v ≡ to i) r.0) xs (λ i a.
    r.2 (to i) (λ e. each_some (λ y. x ≡ y → ⊥) xs i d.0 a (f x i (inl refl) (inr a) e))
    (each_some (λ i. Some_of (λ v. v ≡ to i) among) xs i h.1 a))) in
    let long = r.1 in omega (arith, again, long)

pub deficient : {A B : Type 0} (R : A → B → Type 0) (xs : List A) (ys : List B) (items among : List ℕ) → AreDeficient R xs ys items among
    → Embeds R xs ys → ⊥
deficient R xs ys items among d f =
    let r = few f.to items among d.different (λ i j a b e. f.apart i j (within i a) (within j b) e)
    (each_by (λ i. Some_of (λ v. v ≡ f.to i) among) items (λ i a.
    let x = get_there xs i (within i a) in
    let one = f.each i x.0 x.1 in
    each_some (OnlyAmong R xs ys among) items i d.only a x.0 (f.to i) one.0 x.1 one.1 one.2)) in
    let fewer = d.fewer in omega (arith, r, fewer)
  where
    within : (i : ℕ) → Some_of (λ (v : ℕ). v ≡ i) items → i < length xs
    within i a = each_some (λ i. i < length xs) items i d.within a
