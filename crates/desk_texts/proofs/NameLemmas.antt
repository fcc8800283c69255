-- Names of roles.
use Rattle.std.proofs.Common.{ℕ, ◌≡◌, ◌<◌, List, [], ◌∷◌, length, refl, arith, zero, suc, Some}
use Rattle.std.specs.Prelude.{slice_get}
use Rattle.desk_texts.specs.Parts.{name_of}

-- the name of a role stands at its number
pub name_at : (names : List (List ℕ)) (i : ℕ) → i < length names → slice_get names i ≡ Some (name_of names i)
name_at [] i l = absurd (omega arith)
name_at (n ∷ ns) zero l = refl
name_at (n ∷ ns) (suc i) l = name_at ns i (omega arith)
