-- The form that a line has, computed. The laws say that it is the one form that the line spells.
use Rattle.std.specs.Prelude.{ℕ, ◌==◌, if◌then◌else◌, List, [], ◌∷◌, ◌++◌, Option, Some, None, codes}
use Rattle.std.specs.Str.{bytes_eq, is_utf8}
use Rattle.role_order.specs.Names.{is_name}
use Rattle.policy_text.specs.declared.line.Keyword.{Keyword}
use Rattle.policy_text.specs.declared.line.Keyword.TheVariants as k
use Rattle.cond_text.specs.Cuts.{cut, byte_of, ◌>>=◌, only_if, name_in}
use Rattle.cond_text.specs.Ranges.{range_in}
use Rattle.text_lines.specs.Acts.{act_in}
use Rattle.policy_text.specs.LineForms.{LineForm, a_role, an_edge, an_assign, a_revoke, a_user, an_act, a_goal}

-- the text, where it is UTF-8
unfoldable pub text_in : List ℕ → Option (List ℕ)
text_in text = only_if (is_utf8 text) text

-- what stands behind `role `
unfoldable pub role_in : List ℕ → Option LineForm
role_in rest = do
  name ← name_in rest
  Some (a_role name)

-- what stands behind `edge `
unfoldable pub edge_in : List ℕ → Option LineForm
edge_in rest = do
  words ← cut (byte_of (codes " ")) rest
  senior ← name_in words.0
  junior ← name_in words.1
  Some (an_edge senior junior)

-- what stands behind `assign `
unfoldable pub assign_in : List ℕ → Option LineForm
assign_in rest = do
  first ← cut (byte_of (codes " ")) rest
  admin ← name_in first.0
  second ← cut (byte_of (codes " ")) first.1
  range ← range_in second.0
  condition ← text_in second.1
  Some (an_assign admin range condition)

-- what stands behind `revoke `
unfoldable pub revoke_in : List ℕ → Option LineForm
revoke_in rest = do
  words ← cut (byte_of (codes " ")) rest
  admin ← name_in words.0
  range ← range_in words.1
  Some (a_revoke admin range)

-- the words, the first with one more byte in front
abbrev pub in_first : ℕ → List (List ℕ) → List (List ℕ)
in_first b [] = (b ∷ []) ∷ []
in_first b (word ∷ words) = (b ∷ word) ∷ words

-- what stands between single spaces
unfoldable pub words : List ℕ → List (List ℕ)
words [] = [] ∷ []
words (b ∷ bs) = if b == byte_of (codes " ") then [] ∷ words bs else in_first b (words bs)

-- all words, behind these, where each of them is a name
unfoldable pub names_behind : List (List ℕ) → List (List ℕ) → Option (List (List ℕ))
names_behind before [] = Some before
names_behind before (word ∷ more) = if is_name word then names_behind (before ++ word ∷ []) more else None

-- what stands behind `user `
unfoldable pub user_in : List ℕ → Option LineForm
user_in rest = do
  names ← names_behind [] (words rest)
  Some (a_user names)

-- what stands behind `act `
unfoldable pub act_line_in : List ℕ → Option LineForm
act_line_in rest = do
  act ← act_in rest
  Some (an_act act)

-- what stands behind `goal `
unfoldable pub goal_in : List ℕ → Option LineForm
goal_in rest = do
  condition ← text_in rest
  Some (a_goal condition)

-- the form's first word that this is
unfoldable pub keyword_in : List ℕ → Option Keyword
keyword_in word =
    if bytes_eq word (codes "role") then Some k.Role else if bytes_eq word (codes "edge") then Some k.Edge
    else if bytes_eq word (codes "assign") then Some k.Assign else if bytes_eq word (codes "revoke") then Some k.Revoke
    else if bytes_eq word (codes "user") then Some k.User else if bytes_eq word (codes "act") then Some k.Act
    else if bytes_eq word (codes "goal") then Some k.Goal else None

-- the form of a line with this keyword, and this rest behind the space
abbrev pub form_with : Option Keyword → List ℕ → Option LineForm
form_with (Some k.Role) rest = role_in rest
form_with (Some k.Edge) rest = edge_in rest
form_with (Some k.Assign) rest = assign_in rest
form_with (Some k.Revoke) rest = revoke_in rest
form_with (Some k.User) rest = user_in rest
form_with (Some k.Act) rest = act_line_in rest
form_with (Some k.Goal) rest = goal_in rest
form_with None rest = None

-- the form of a line by its cut at the first space
abbrev pub form_by : List ℕ → Option (List ℕ × List ℕ) → Option LineForm
form_by line None = only_if (bytes_eq line (codes "user")) (a_user [])
form_by line (Some found) = form_with (keyword_in found.0) found.1

-- the form of the line
unfoldable pub form_of : List ℕ → Option LineForm
form_of line = form_by line (cut (byte_of (codes " ")) line)
