-- Two numbers are one, or one is less.
use Rattle.std.proofs.Common.{ℕ, ◌≡◌, ◌<◌, refl, arith, zero, suc, ap, inl, inr}
use Rattle.std.specs.Prelude.{◌⊎◌}

-- two places are one, or are not
pub cases_eq : (i j : ℕ) → (i ≡ j) ⊎ (i ≡ j → ⊥)
cases_eq zero zero = inl refl
cases_eq zero (suc j) = inr (λ e. omega arith)
cases_eq (suc i) zero = inr (λ e. omega arith)
cases_eq (suc i) (suc j) = by_rest (cases_eq i j)
  where
    by_rest : (i ≡ j) ⊎ (i ≡ j → ⊥) → (suc i ≡ suc j) ⊎ (suc i ≡ suc j → ⊥)
    by_rest (inl e) = inl (ap suc e)
    by_rest (inr n) = inr (λ e. n (omega arith))

-- one place is before the other, or they are one
pub compare : (i j : ℕ) → (i < j) ⊎ ((i ≡ j) ⊎ (j < i))
compare zero zero = inr (inl refl)
compare zero (suc j) = inl (omega arith)
compare (suc i) zero = inr (inr (omega arith))
compare (suc i) (suc j) = lifted (compare i j)
  where
    lifted : (i < j) ⊎ ((i ≡ j) ⊎ (j < i)) → (suc i < suc j) ⊎ ((suc i ≡ suc j) ⊎ (suc j < suc i))
    lifted (inl l) = inl (omega arith)
    lifted (inr (inl e)) = inr (inl (ap suc e))
    lifted (inr (inr l)) = inr (inr (omega arith))
