-- Lists that have two items for each place.
use Rattle.std.proofs.Common.{ℕ, zero, suc, ◌≡◌, ◌<◌, ◌≤◌, ◌+◌, ◌-◌, ◌*◌, ◌∙◌, List, [], ◌∷◌, ◌++◌, length, refl, sym, ap, arith}
use Rattle.std.proofs.Common.{append_assoc, append-nil, length-append}
use Rattle.list_words.specs.Lists.{Each}
use Rattle.list_words.proofs.EachLemmas.{each_append}
use Rattle.role_order.specs.Reach.{count_up}
use Rattle.arbac_laws.specs.Obligations.{flat}

-- what is left from a place on, once its two items are made
pub two_more : {A : Type 0} (f : ℕ → List A) (before : List A) (x y : A) (whole : List A) (size at : ℕ) → at < size → f at ≡ x ∷ y ∷ []
    → before ++ flat f (count_up at (size - at)) ≡ whole
    → ((before ++ x ∷ []) ++ y ∷ []) ++ flat f (count_up (at + 1) (size - (at + 1))) ≡ whole
two_more {A} f before x y whole size at l e h =
    append_assoc (before ++ x ∷ []) (y ∷ []) rest
    ∙ append_assoc before (x ∷ []) (y ∷ rest)
    ∙ ap (λ (two : List A). before ++ (two ++ rest)) (sym e)
    ∙ ap (λ (n : ℕ). before ++ flat f (count_up at n)) (sym one_less)
    ∙ h
  where
    rest : List A
    rest = flat f (count_up (at + 1) (size - (at + 1)))

    one_less : size - at ≡ suc (size - (at + 1))
    one_less = omega (arith, l)

-- nothing is left behind the last place
pub all_made : {A : Type 0} (f : ℕ → List A) (before whole : List A) (size at : ℕ) → size ≤ at
    → before ++ flat f (count_up at (size - at)) ≡ whole → before ≡ whole
all_made {A} f before whole size at l h = sym (append-nil before) ∙ ap (λ (n : ℕ). before ++ flat f (count_up at n)) (sym none) ∙ h
  where
    none : size - at ≡ 0
    none = omega (arith, l)

pub two_each : {A : Type 0} (f : ℕ → List A) → ((at : ℕ) → length (f at) ≡ 2) → (at n : ℕ) → length (flat f (count_up at n)) ≡ 2 * n
two_each f two at zero = refl
two_each f two at (suc n) =
    let front = length-append (f at) (flat f (count_up (at + 1) n)) in
    let rest = two_each f two (at + 1) n in
    let here = two at in
    omega (arith, front, rest, here)

-- what holds of the items of each place from `low` on
pub each_flat : {A : Type 0} (P : A → Type 0) (f : ℕ → List A) (low size : ℕ) → ((at : ℕ) → low ≤ at → at < size → Each P (f at)) → (at n : ℕ)
    → low ≤ at → at + n ≤ size → Each P (flat f (count_up at n))
each_flat P f low size h at zero l m = tt
each_flat P f low size h at (suc n) l m =
    each_append P (f at) (flat f (count_up (at + 1) n)) (h at l (omega arith)) (each_flat P f low size h (at + 1) n (omega arith) (omega arith))
