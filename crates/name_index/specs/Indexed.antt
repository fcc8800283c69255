-- Names that a map finds.
use Rattle.std.specs.HashMap.{HashMap, get_by_text}
use Rattle.std.specs.Prelude.{ℕ, ◌≡◌, ◌<◌, ◌^◌, List, length, String}
use Rattle.std.specs.declared.alloc.Global.{Global}
use Rattle.list_words.specs.Lists.{AreDifferent}
use Rattle.role_order.specs.Names.{place_of}

-- the names differ, and the map has the place of each and nothing else
pub record IsIndexed {S : Type 0} (names : List (List ℕ)) (places : HashMap (String Global) ℕ S) : Type 0 where
  pub different : AreDifferent names
  pub places_are : (text : List ℕ) → get_by_text places text ≡ place_of names text
  pub few : length names < 2 ^ 32
