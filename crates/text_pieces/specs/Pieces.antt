-- Texts made of pieces.
use Rattle.std.specs.Prelude.{ℕ, ◌+◌, List, [], ◌∷◌, ◌++◌}

-- the pieces of the items, one behind another; a piece may depend on its item's place, which counts from the given one
abbrev pub pieces_from : {A : Type 0} → (ℕ → A → List ℕ) → ℕ → List A → List ℕ
pieces_from piece at [] = []
pieces_from piece at (x ∷ xs) = piece at x ++ pieces_from piece (at + 1) xs
