-- Steps of the search for the text of a name.
use Rattle.std.proofs.Common.{ℕ, ◌≡◌, ◌<◌, ◌≤◌, ◌+◌, cond, List, [], ◌∷◌, length, drop, get_or, refl, arith, zero, suc}
use Rattle.std.specs.Prelude.{String, Vec, string_bytes}
use Rattle.std.specs.Str.{bytes_eq}
use Rattle.std.specs.declared.alloc.Global.{Global}
use Rattle.desk_ports.specs.Shelves.{texts_of, text_named}

-- the next file has the name, or the search goes on behind it
pub text_step : (files : List (String Global × Vec ℕ Global)) (i : ℕ) (file : String Global × Vec ℕ Global) (name : List ℕ)
    → i < length files → file ≡ get_or files i file
    → text_named (texts_of (drop i files)) name
    ≡ cond (bytes_eq (string_bytes file.0) name) file.1.items (text_named (texts_of (drop (i + 1) files)) name)
text_step [] i file name h e = absurd (omega arith)
text_step (f ∷ fs) zero file name h e = let same : file ≡ f = e in rw same
text_step (f ∷ fs) (suc i) file name h e = let n : suc i + 1 ≡ suc (i + 1) = omega arith in rw n (text_step fs i file name (omega arith) e)

-- behind the last file there is no text
pub text_end : (files : List (String Global × Vec ℕ Global)) (i : ℕ) (name : List ℕ) → length files ≤ i
    → text_named (texts_of (drop i files)) name ≡ []
text_end [] zero name h = refl
text_end [] (suc i) name h = refl
text_end (f ∷ fs) zero name h = absurd (omega arith)
text_end (f ∷ fs) (suc i) name h = text_end fs i name (omega arith)
