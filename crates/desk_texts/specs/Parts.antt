-- The text of the part of an act that fails.
use Rattle.std.specs.Prelude.{ℕ, List, [], ◌++◌, codes, slice_index_or}
use Rattle.std.specs.Fmt.{decimal}
use Rattle.arbac_policy.specs.declared.verdict.Part.{Part}
use Rattle.arbac_policy.specs.declared.verdict.Part.TheVariants.{NoUser, NoRole, NoRange, NoAdmin, NoCondition, Exclusive}
use Rattle.arbac_policy.specs.declared.verdict.Side.{Side}
use Rattle.arbac_policy.specs.declared.verdict.Side.TheVariants.{Admin, Target}

-- the name of the role, and nothing for a number that is no role
abbrev pub name_of : List (List ℕ) → ℕ → List ℕ
name_of names role = slice_index_or names role []

-- whose place it is
abbrev pub side_word : Side → List ℕ
side_word Admin = codes "admin "
side_word Target = codes "target "

-- `NoUser admin 5`, `NoRole 120`, `NoAdmin PE1 rule 0` and so on
unfoldable pub part_text : List (List ℕ) → Part → List ℕ
part_text names (NoUser side place) = codes "NoUser " ++ side_word side ++ decimal place
part_text names (NoRole role) = codes "NoRole " ++ decimal role
part_text names (NoRange role) = codes "NoRange " ++ name_of names role
part_text names (NoAdmin role rule) = codes "NoAdmin " ++ name_of names role ++ codes " rule " ++ decimal rule
part_text names (NoCondition role rule) = codes "NoCondition " ++ name_of names role ++ codes " rule " ++ decimal rule
part_text names (Exclusive role pair) = codes "Exclusive " ++ name_of names role ++ codes " pair " ++ decimal pair
