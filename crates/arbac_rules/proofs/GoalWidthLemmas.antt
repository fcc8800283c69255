-- How many combinations of conjuncts a goal has, and where they are too many.
use Rattle.std.proofs.Common.{ℕ, suc, ◌≡◌, ◌<◌, ◌≤◌, ◌+◌, ◌*◌, ◌^◌, ◌∙◌, Bool, true, false, List, [], ◌∷◌, length}
use Rattle.std.proofs.Common.{map, drop, get_or, Some, None, refl, sym, ap, subst, arith, zero}
use Rattle.std.specs.Prelude.{nat_lt}
use Rattle.std.proofs.lemmas.Bool.Decides.{nat_tests}
use Rattle.std.proofs.lemmas.List.{length-append, length-map}
use Rattle.std.proofs.Math.Nat.{mul-le-mul, mul-le-mul_left, le_trans, mul_assoc, zero-mul, suc-mul}
use Rattle.std.proofs.Math.Pow.{pow_mono}
use Rattle.list_words.proofs.GetLemmas.{same_some}
use Rattle.role_order.specs.Graph.{Graph}
use Rattle.arbac_policy.specs.declared.cond.Cond.{Cond}
use Rattle.arbac_policy.specs.Truth.{Term, any, has, lacks, both, either, term_of}
use Rattle.cond_text.specs.Grammar.{term_count}
use Rattle.arbac_laws.specs.Needs.{Need}
use Rattle.arbac_laws.specs.Conjuncts.{conjuncts}
use Rattle.arbac_laws.specs.Goals.{before_each, goal_requirements}
use Rattle.arbac_rules.specs.declared.TheConstants.{MOST_CONJUNCTS}
use Rattle.arbac_rules.specs.Widths.{width, goal_width, too_many_from}
use Rattle.arbac_rules.proofs.WidthLemmas.{width_law, width_bound}

-- the product fits 128 bits
pub combinations_fit : (n w : ℕ) (cond : Term) → n ≤ MOST_CONJUNCTS → w ≡ width cond → term_count cond ≤ 64 → n * w < 2 ^ 128
combinations_fit n w cond few is terms =
    let narrow : width cond ≤ 2 ^ 64 = le_trans (width_bound cond) (pow_mono terms) in
    let wide : n * width cond ≤ MOST_CONJUNCTS * 2 ^ 64 = mul-le-mul few narrow in
    subst (λ (x : ℕ). n * x < 2 ^ 128) (sym is) (omega (wide, arith))

-- with one condition more the combinations are not too many
pub still_few : (n : ℕ) (cond : Term) (conds : List Term) → n * width cond ≤ MOST_CONJUNCTS
    → too_many_from n (cond ∷ conds) ≡ too_many_from (n * width cond) conds
still_few n cond conds few = let test : nat_lt MOST_CONJUNCTS (n * width cond) ≡ false = grind (arith, nat_tests) in rw test refl

-- with one condition more they are too many
pub many_here : (n : ℕ) (cond : Term) (conds : List Term) → MOST_CONJUNCTS < n * width cond → too_many_from n (cond ∷ conds) ≡ Some (n * width cond)
many_here n cond conds many = let test : nat_lt MOST_CONJUNCTS (n * width cond) ≡ true = grind (arith, nat_tests) in rw test refl

-- the terms from a place on begin with that of the condition there
pub terms_from : (conds : List Cond) (i : ℕ) (cond : Cond) → i < length conds → cond ≡ get_or conds i cond
    → drop i (map term_of conds) ≡ term_of cond ∷ drop (i + 1) (map term_of conds)
terms_from [] i cond below is = absurd (omega arith)
terms_from (x ∷ xs) zero cond below is = ap (λ (c : Cond). term_of c ∷ map term_of xs) (sym is)
terms_from (x ∷ xs) (suc i) cond below is = let more : suc i + 1 ≡ suc (i + 1) = omega arith in rw more (terms_from xs i cond (omega arith) is)

-- behind the last condition no term is left
pub no_terms : (conds : List Cond) (i : ℕ) → length conds ≤ i → drop i (map term_of conds) ≡ []
no_terms [] zero long = refl
no_terms [] (suc i) long = refl
no_terms (x ∷ xs) zero long = absurd (omega arith)
no_terms (x ∷ xs) (suc i) long = no_terms xs i (omega arith)

some_width : (t : Term) → 1 ≤ width t
some_width any = omega arith
some_width (has role) = omega arith
some_width (lacks role) = omega arith
some_width (both t u) = let product : 1 * 1 ≤ width t * width u = mul-le-mul (some_width t) (some_width u) in omega (product, arith)
some_width (either t u) = omega (some_width t, arith)

some_combinations : (conds : List Term) → 1 ≤ goal_width conds
some_combinations [] = omega arith
some_combinations (cond ∷ conds) =
    let product : 1 * 1 ≤ width cond * goal_width conds = mul-le-mul (some_width cond) (some_combinations conds) in omega (product, arith)

-- the count so far is no more than that with all conditions
grown : (n : ℕ) (conds : List Term) → n ≤ n * goal_width conds
grown n conds = let more : n * 1 ≤ n * goal_width conds = mul-le-mul_left n (some_combinations conds) in omega (more, arith)

one_on : (n : ℕ) (cond : Term) (conds : List Term) → n * width cond * goal_width conds ≡ n * goal_width (cond ∷ conds)
one_on n cond conds = mul_assoc n (width cond) (goal_width conds)

-- where they are never too many, those of all conditions are few
pub few_combinations : (n : ℕ) (conds : List Term) → n ≤ MOST_CONJUNCTS → too_many_from n conds ≡ None → n * goal_width conds ≤ MOST_CONJUNCTS
few_combinations n [] few none = omega (few, arith)
few_combinations n (cond ∷ conds) few none = by_test (nat_lt MOST_CONJUNCTS (n * width cond)) refl (few_combinations (n * width cond) conds)
  where
    by_test : (t : Bool) → nat_lt MOST_CONJUNCTS (n * width cond) ≡ t
        → (n * width cond ≤ MOST_CONJUNCTS → too_many_from (n * width cond) conds ≡ None → n * width cond * goal_width conds ≤ MOST_CONJUNCTS)
        → n * goal_width (cond ∷ conds) ≤ MOST_CONJUNCTS
    by_test true t again =
        let many : MOST_CONJUNCTS < n * width cond = grind (arith, nat_tests) in
        let told : Some (n * width cond) ≡ None = sym (many_here n cond conds many) ∙ none in
        cc
    by_test false t again =
        let within : n * width cond ≤ MOST_CONJUNCTS = grind (arith, nat_tests) in
        subst (λ (m : ℕ). m ≤ MOST_CONJUNCTS) (one_on n cond conds) (again within (sym (still_few n cond conds within) ∙ none))

-- where those of all conditions are few, they are never too many
pub never_many : (n : ℕ) (conds : List Term) → n * goal_width conds ≤ MOST_CONJUNCTS → too_many_from n conds ≡ None
never_many n [] few = refl
never_many n (cond ∷ conds) few =
    let all : n * width cond * goal_width conds ≤ MOST_CONJUNCTS = subst (λ (m : ℕ). m ≤ MOST_CONJUNCTS) (sym (one_on n cond conds)) few in
    let within : n * width cond ≤ MOST_CONJUNCTS = omega (grown (n * width cond) conds, all, arith) in
    still_few n cond conds within ∙ never_many (n * width cond) conds all

-- a count that is told is too many, and no more than that of all conditions
pub told_count : (n count : ℕ) (conds : List Term) → too_many_from n conds ≡ Some count → (MOST_CONJUNCTS < count) × (count ≤ n * goal_width conds)
told_count n count [] told = absurd (cc)
told_count n count (cond ∷ conds) told = by_test (nat_lt MOST_CONJUNCTS (n * width cond)) refl (told_count (n * width cond) count conds)
  where
    by_test : (t : Bool) → nat_lt MOST_CONJUNCTS (n * width cond) ≡ t
        → (too_many_from (n * width cond) conds ≡ Some count → (MOST_CONJUNCTS < count) × (count ≤ n * width cond * goal_width conds))
        → (MOST_CONJUNCTS < count) × (count ≤ n * goal_width (cond ∷ conds))
    by_test true t again =
        let many : MOST_CONJUNCTS < n * width cond = grind (arith, nat_tests) in
        let same : n * width cond ≡ count = same_some (n * width cond) count (sym (many_here n cond conds many) ∙ told) in
        let all : n * width cond ≤ n * goal_width (cond ∷ conds) = subst (λ (m : ℕ). n * width cond ≤ m) (one_on n cond conds)
        (grown (n * width cond) conds) in
        (subst (λ (m : ℕ). MOST_CONJUNCTS < m) same many, subst (λ (m : ℕ). m ≤ n * goal_width (cond ∷ conds)) same all)
    by_test false t again =
        let within : n * width cond ≤ MOST_CONJUNCTS = grind (arith, nat_tests) in
        let known = again (sym (still_few n cond conds within) ∙ told) in
        (known.0, subst (λ (m : ℕ). count ≤ m) (one_on n cond conds) known.1)

before_length : (xs : List Need) (tails : List (List Need)) → length (before_each xs tails) ≡ length xs * length tails
before_length [] tails = sym (zero-mul (length tails))
before_length (a ∷ xs) tails =
    length-append (map (λ tail. a ∷ tail) tails) (before_each xs tails)
    ∙ ap (λ n. n + length (before_each xs tails)) (length-map tails (λ tail. a ∷ tail))
    ∙ ap (λ n. length tails + n) (before_length xs tails)
    ∙ one_more (length xs) (length tails)
  where
    one_more : (m n : ℕ) → n + m * n ≡ suc m * n
    one_more m n = omega (suc-mul m n, arith)

-- there are as many goal requirements as combinations
pub goal_width_law : (order : Graph) (conds : List Term) → length (goal_requirements order conds) ≡ goal_width conds
goal_width_law order [] = refl
goal_width_law order (cond ∷ conds) =
    before_length (conjuncts order cond) (goal_requirements order conds)
    ∙ ap (λ n. n * length (goal_requirements order conds)) (width_law order cond)
    ∙ ap (λ n. width cond * n) (goal_width_law order conds)
