-- What a shelf holds and tells.
use Rattle.std.specs.Prelude.{ℕ, ◌≡◌, List, [], ◌∷◌, if◌then◌else◌, Option, String, Vec, string_bytes}
use Rattle.std.specs.declared.alloc.Global.{Global}
use Rattle.std.specs.Str.{bytes_eq}
use Rattle.desk_ports.specs.Faults.{Plan}

-- what a caller sees of a shelf: the text of each name, where the shelf tells it; the name that was last fetched in vain, by an
-- answer `Failed`, empty before the first such; and how often the shelf failed, which as a `u64` stays at its last value
pub record ShelfView : Type 0 where
  pub told : List ℕ → Option (List ℕ)
  pub missed : List ℕ
  pub faults : ℕ

-- the name of the last fetch that failed: that of this call where it failed, else the one before
pub record Misses (old new name : List ℕ) (failed : Type 0) : Type 0 where
  pub named : failed → new ≡ name
  pub kept : ¬ failed → new ≡ old

-- a shelf in memory: its names, each with its text; which calls fail; the last name that it missed
pub record ShelfState : Type 0 where
  pub texts : List (List ℕ × List ℕ)
  pub plan : Plan
  pub missed : List ℕ

-- the names and texts of these files
abbrev pub texts_of : List (String Global × Vec ℕ Global) → List (List ℕ × List ℕ)
texts_of [] = []
texts_of (file ∷ files) = (string_bytes file.0, file.1.items) ∷ texts_of files

-- the first text of that name, and the empty one where there is none
abbrev pub text_named : List (List ℕ × List ℕ) → List ℕ → List ℕ
text_named [] name = []
text_named (text ∷ texts) name = if bytes_eq text.0 name then text.1 else text_named texts name
