-- What `replay` writes; each line ends in LF.
use Rattle.std.specs.Prelude.{ℕ, List, ◌++◌, codes}
use Rattle.std.specs.Fmt.{decimal}
use Rattle.arbac_policy.specs.declared.verdict.Part.{Part}
use Rattle.desk_texts.specs.Lines.{user_lines, goal_lines}
use Rattle.desk_texts.specs.Parts.{part_text}

-- all acts were accepted and the goal is met by these users
unfoldable pub done_text : List (List ℕ) → List (List ℕ) → List ℕ → List ℕ
done_text names sets users = codes "done\n" ++ user_lines names sets ++ goal_lines users ++ codes "end\n"

-- all acts were accepted and the goal isn't met
unfoldable pub unmet_text : List (List ℕ) → List (List ℕ) → List ℕ
unmet_text names sets = codes "unmet\n" ++ user_lines names sets ++ codes "end\n"

-- the act at the place was refused
unfoldable pub stopped_text : List (List ℕ) → ℕ → Part → List ℕ
stopped_text names place part = codes "stopped act " ++ decimal place ++ codes " " ++ part_text names part ++ codes "\n"
