-- Numbered rows.
use Rattle.std.proofs.Common.{ℕ, ◌≡◌, ◌<◌, ◌+◌, ◌⊎◌, List, [], ◌∷◌, ◌++◌, length, drop, zero, suc, refl, ap, arith, inl, inr, Some}
use Rattle.std.specs.Prelude.{slice_get}
use Rattle.list_words.proofs.GetLemmas.{get_last_cases}
use Rattle.desk_records.specs.declared.tables.JournalRow.{JournalRow}
use Rattle.desk_records.specs.Records.{IsNumbered}

-- one row more
pub numbered_more : (rows : List JournalRow) (row : JournalRow) → IsNumbered rows → row.seq ≡ length rows + 1 → IsNumbered (rows ++ row ∷ [])
numbered_more rows row h next place r e = by_place (get_last_cases rows row r place e)
  where
    by_place : (slice_get rows place ≡ Some r) ⊎ ((place ≡ length rows) × (row ≡ r)) → r.seq ≡ place + 1
    by_place (inl at) = h place r at
    by_place (inr (l, same)) = let seq : row.seq ≡ r.seq = ap (λ (x : JournalRow). x.seq) same in omega (arith, seq, next, l)

pub drop_at : {A : Type 0} (xs : List A) (i : ℕ) (x : A) → slice_get xs i ≡ Some x → drop i xs ≡ x ∷ drop (i + 1) xs
drop_at [] i x e = cc
drop_at (y ∷ ys) zero x e = let same : y ≡ x = cc in ap (λ z. z ∷ ys) same
drop_at (y ∷ ys) (suc i) x e = let n : suc i + 1 ≡ suc (i + 1) = omega arith in rw n (drop_at ys i x e)
