-- Which list comes first.
use Rattle.std.proofs.Common.{ℕ, ◌≡◌, List, [], ◌∷◌, length, drop, arith, zero, suc, refl, ◌∙◌}
use Rattle.std.specs.Prelude.{nat_lt, min}
use Rattle.std.proofs.lemmas.Bool.Decides.{nat_tests}
use Rattle.arbac_laws.specs.Orders.{hits_before}

lifted : (m n : ℕ) → nat_lt (suc m) (suc n) ≡ nat_lt m n
lifted m n = grind (arith, nat_tests)

-- where the shorter list ends, the shorter one comes first
pub before_end : (at : ℕ) (xs ys : List (List ℕ)) → at ≡ min (length xs) (length ys) → nat_lt (length xs) (length ys) ≡ hits_before (drop at xs)
    (drop at ys)
before_end zero [] [] e = refl
before_end zero [] (y ∷ ys) e = grind (arith, nat_tests)
before_end zero (x ∷ xs) [] e = grind (arith, nat_tests)
before_end zero (x ∷ xs) (y ∷ ys) e = absurd (omega (arith, e))
before_end (suc at) [] ys e = absurd (omega (arith, e))
before_end (suc at) (x ∷ xs) [] e = absurd (omega (arith, e))
before_end (suc at) (x ∷ xs) (y ∷ ys) e = lifted (length xs) (length ys) ∙ before_end at xs ys (omega (arith, e))
