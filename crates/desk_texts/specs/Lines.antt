-- The lines that commands share; each ends in LF.
use Rattle.std.specs.Prelude.{ℕ, if◌then◌else◌, List, [], ◌++◌, codes}
use Rattle.std.specs.Fmt.{decimal}
use Rattle.role_order.specs.Roles.{has_role}
use Rattle.text_pieces.specs.Pieces.{pieces_from}

-- the words are of no written form
unfoldable pub usage_line : List ℕ
usage_line = codes "usage: ask QUESTION | check QUESTION CERT | replay RUN | load QUESTION | import MEMBERS | report KIND | serve --connections N | make N\n"

-- the file of the name has this fault
unfoldable pub malformed_line : List ℕ → List ℕ → List ℕ
malformed_line name fault = codes "malformed " ++ name ++ codes ": " ++ fault ++ codes "\n"

-- the file of the name couldn't be read
unfoldable pub read_fault_line : List ℕ → List ℕ
read_fault_line name = codes "read fault: " ++ name ++ codes "\n"

-- the name of a role that the set has, after a space
abbrev pub held_name : List ℕ → ℕ → List ℕ → List ℕ
held_name set role name = if has_role set role then codes " " ++ name else []

-- the names of the set's roles, by rising number
abbrev pub held_names : List (List ℕ) → List ℕ → List ℕ
held_names names set = pieces_from (held_name set) 0 names

-- `user PLACE ROLE ..`
unfoldable pub user_line : List (List ℕ) → ℕ → List ℕ → List ℕ
user_line names place set = codes "user " ++ decimal place ++ held_names names set ++ codes "\n"

-- a line for each user, by place
abbrev pub user_lines : List (List ℕ) → List (List ℕ) → List ℕ
user_lines names sets = pieces_from (user_line names) 0 sets

-- `goal PLACE USER`
unfoldable pub goal_line : ℕ → ℕ → List ℕ
goal_line place user = codes "goal " ++ decimal place ++ codes " " ++ decimal user ++ codes "\n"

-- a line for each condition of the goal, with the user who meets it
abbrev pub goal_lines : List ℕ → List ℕ
goal_lines users = pieces_from goal_line 0 users
