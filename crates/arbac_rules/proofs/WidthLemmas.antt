-- The number of conjuncts is the length of their list, and no more than a power of two.
use Rattle.std.proofs.Common.{ℕ, ◌≡◌, ◌≤◌, ◌<◌, ◌+◌, ◌*◌, ◌^◌, ◌∙◌, List, [], ◌∷◌, length, refl, suc, ap, sym}
use Rattle.std.proofs.Common.{arith, subst}
use Rattle.std.proofs.Math.Nat.{mul-le-mul, mul-le-mul_left, mul-le-mul_right, le_trans, zero-mul, suc-mul}
use Rattle.std.proofs.Math.Pow.{pow_mono}
use Rattle.std.proofs.lemmas.Nat.{pow-add}
use Rattle.std.proofs.lemmas.List.{length-append}
use Rattle.role_order.specs.Graph.{Graph}
use Rattle.arbac_policy.specs.Truth.{Term, any, has, lacks, both, either}
use Rattle.cond_text.specs.Grammar.{term_count}
use Rattle.arbac_laws.specs.Needs.{Need}
use Rattle.arbac_laws.specs.Conjuncts.{conjuncts, join_all, join_with}
use Rattle.arbac_rules.specs.Widths.{width}

pub with_length : (a : Need) (bs : List Need) → length (join_with a bs) ≡ length bs
with_length a [] = refl
with_length a (b ∷ bs) = ap (λ n. suc n) (with_length a bs)

pub all_length : (xs bs : List Need) → length (join_all xs bs) ≡ length xs * length bs
all_length [] bs = no_more (length bs)
  where
    no_more : (n : ℕ) → 0 ≡ 0 * n
    no_more n = sym (zero-mul n)
all_length (a ∷ xs) bs =
    length-append (join_with a bs) (join_all xs bs)
    ∙ ap (λ n. n + length (join_all xs bs)) (with_length a bs)
    ∙ ap (λ n. length bs + n) (all_length xs bs)
    ∙ one_more (length xs) (length bs)
  where
    one_more : (m n : ℕ) → n + m * n ≡ suc m * n
    one_more m n = omega (suc-mul m n, arith)

pub width_law : (order : Graph) (t : Term) → length (conjuncts order t) ≡ width t
width_law order any = refl
width_law order (has role) = refl
width_law order (lacks role) = refl
width_law order (both t u) =
    all_length (conjuncts order t) (conjuncts order u)
    ∙ ap (λ n. n * length (conjuncts order u)) (width_law order t)
    ∙ ap (λ n. width t * n) (width_law order u)
width_law order (either t u) =
    length-append (conjuncts order t) (conjuncts order u)
    ∙ ap (λ n. n + length (conjuncts order u)) (width_law order t)
    ∙ ap (λ n. width t + n) (width_law order u)

pub some_terms : (t : Term) → 1 ≤ term_count t
some_terms any = omega arith
some_terms (has role) = omega arith
some_terms (lacks role) = omega arith
some_terms (both t u) = omega (some_terms t, arith)
some_terms (either t u) = omega (some_terms t, arith)

-- a sum of numbers from 2 on is no more than their product
pub sum_within : (m n : ℕ) → 2 ≤ m → 2 ≤ n → m + n ≤ m * n
sum_within m n p q = omega (mul-le-mul_right n p, mul-le-mul_left m q, arith)

pub width_bound : (t : Term) → width t ≤ 2 ^ term_count t
width_bound any = omega arith
width_bound (has role) = omega arith
width_bound (lacks role) = omega arith
width_bound (both t u) =
    subst (λ n. width t * width u ≤ n) (sym (pow-add 2 (term_count t) (term_count u))) (mul-le-mul (width_bound t) (width_bound u))
width_bound (either t u) =
    subst (λ n. width t + width u ≤ n) (sym (pow-add 2 (term_count t) (term_count u)))
    (sums (width t) (width u) (2 ^ term_count t) (2 ^ term_count u) (width_bound t) (width_bound u)
    (sum_within (2 ^ term_count t) (2 ^ term_count u) (pow_mono (some_terms t)) (pow_mono (some_terms u))))
  where
    sums : (a b m n : ℕ) → a ≤ m → b ≤ n → m + n ≤ m * n → a + b ≤ m * n
    sums a b m n p q r = omega (p, q, r, arith)

-- with at most 64 terms the number is far below 2 ^ 128
pub width_fits : (t : Term) → term_count t ≤ 64 → width t < 2 ^ 128
width_fits t few = omega (within, arith)
  where
    within : width t ≤ 2 ^ 64
    within = le_trans (width_bound t) (pow_mono few)

-- the product that the code computes for `and`
pub product_fits : (term t u : Term) (m n : ℕ) → term ≡ both t u → term_count term ≤ 64 → m ≡ width t → n ≡ width u → m * n < 2 ^ 128
product_fits term t u m n is few h k =
    subst (λ x. x * n < 2 ^ 128) (sym h) (subst (λ y. width t * y < 2 ^ 128) (sym k) (width_fits (both t u) (subst (λ x. term_count x ≤ 64) is few)))

-- the sum that the code computes for `or`
pub sum_fits : (term t u : Term) (m n : ℕ) → term ≡ either t u → term_count term ≤ 64 → m ≡ width t → n ≡ width u → m + n < 2 ^ 128
sum_fits term t u m n is few h k =
    subst (λ x. x + n < 2 ^ 128) (sym h) (subst (λ y. width t + y < 2 ^ 128) (sym k) (width_fits (either t u) (subst (λ x. term_count x ≤ 64) is few)))
