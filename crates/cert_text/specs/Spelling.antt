-- The form that a line has, computed. The laws say that it is the one form that the line spells.
use Rattle.std.specs.Prelude.{ℕ, ◌==◌, ◌&&◌, nat_le, if◌then◌else◌, List, [], ◌∷◌, Option, Some, None, codes}
use Rattle.std.specs.Option.{option_map}
use Rattle.std.specs.Str.{bytes_eq}
use Rattle.arbac_laws.specs.PreImages.{Pick, itself, other, fresh}
use Rattle.cond_text.specs.Cuts.{byte_of, ◌>>=◌, only_if, cut, name_in}
use Rattle.text_lines.specs.Numbers.{number_in}
use Rattle.text_lines.specs.Acts.{act_in}
use Rattle.cert_text.specs.declared.TheConstants.{MOST_LIMIT}
use Rattle.cert_text.specs.declared.line.Keyword.{Keyword}
use Rattle.cert_text.specs.declared.line.Keyword.TheVariants as k
use Rattle.cert_text.specs.LineForms.{WrittenOrigin, a_goal, an_assign, a_weak, LineForm}
use Rattle.cert_text.specs.LineForms.{a_reachable, an_unreachable, an_undecided, a_start, an_act, a_need, a_step, a_next, a_user}

-- the number that the first word is, and what stands behind its space
unfoldable pub number_before : List ℕ → Option (ℕ × List ℕ)
number_before text = do
  first ← cut (byte_of (codes " ")) text
  number ← number_in first.0
  Some (number, first.1)

-- the name that the first word is, and what stands behind its space
unfoldable pub name_before : List ℕ → Option (List ℕ × List ℕ)
name_before text = do
  first ← cut (byte_of (codes " ")) text
  name ← name_in first.0
  Some (name, first.1)

-- the administrator that the word tells
unfoldable pub pick_in : List ℕ → Option Pick
pick_in word =
    if bytes_eq word (codes "self") then Some itself else if bytes_eq word (codes "new") then Some fresh else option_map other (number_in word)

-- what stands behind `goal `
unfoldable pub goal_in : List ℕ → Option WrittenOrigin
goal_in rest = do
  place ← number_in rest
  Some (a_goal place)

-- what stands behind `assign `
unfoldable pub assign_in : ℕ → List ℕ → Option WrittenOrigin
assign_in parent rest = do
  rule ← number_before rest
  conjunct ← number_before rule.1
  role ← name_before conjunct.1
  target ← number_before role.1
  admin ← pick_in target.1
  Some (an_assign parent rule.0 conjunct.0 role.0 target.0 admin)

-- what stands behind `weak `
unfoldable pub weak_in : ℕ → List ℕ → Option WrittenOrigin
weak_in parent rest = do
  rule ← number_before rest
  role ← name_before rule.1
  target ← number_before role.1
  admin ← pick_in target.1
  Some (a_weak parent rule.0 role.0 target.0 admin)

-- what stands behind a parent, by the word of the act
abbrev pub act_behind : ℕ → List ℕ × List ℕ → Option WrittenOrigin
act_behind parent found =
    if bytes_eq found.0 (codes "assign") then assign_in parent found.1 else if bytes_eq found.0 (codes "weak") then weak_in parent found.1 else None

-- what stands behind `pre `
unfoldable pub pre_in : List ℕ → Option WrittenOrigin
pre_in rest = do
  parent ← number_before rest
  act ← cut (byte_of (codes " ")) parent.1
  act_behind parent.0 act

-- what stands behind the first word of an origin
abbrev pub origin_behind : List ℕ × List ℕ → Option WrittenOrigin
origin_behind found =
    if bytes_eq found.0 (codes "goal") then goal_in found.1 else if bytes_eq found.0 (codes "pre") then pre_in found.1 else None

-- the origin that the text spells
unfoldable pub origin_in : List ℕ → Option WrittenOrigin
origin_in text = do
  first ← cut (byte_of (codes " ")) text
  origin_behind first

-- the pieces, the first with one more byte in front
abbrev pub in_first : ℕ → List (List ℕ) → List (List ℕ)
in_first b [] = (b ∷ []) ∷ []
in_first b (piece ∷ pieces) = (b ∷ piece) ∷ pieces

-- what stands between the bytes that are this one
unfoldable pub pieces : ℕ → List ℕ → List (List ℕ)
pieces sign [] = [] ∷ []
pieces sign (b ∷ bs) = if b == sign then [] ∷ pieces sign bs else in_first b (pieces sign bs)

-- the pieces, where each of them is a name
unfoldable pub all_names : List (List ℕ) → Option (List (List ℕ))
all_names [] = Some []
all_names (piece ∷ more) = do
  name ← name_in piece
  names ← all_names more
  Some (name ∷ names)

-- the names between commas
unfoldable pub list_in : List ℕ → Option (List (List ℕ))
list_in text = all_names (pieces (byte_of (codes ",")) text)

-- hits and lacks, with one more hit in front
abbrev pub hit_before : Option (List (List ℕ)) → Option (List (List (List ℕ)) × List (List ℕ)) → Option (List (List (List ℕ)) × List (List ℕ))
hit_before list user = do
  names ← list
  rest ← user
  Some (names ∷ rest.0, rest.1)

-- the lacks, where nothing stands behind them
abbrev pub lacks_before : Option (List (List ℕ)) → List (List ℕ) → Option (List (List (List ℕ)) × List (List ℕ))
lacks_before list [] = do
  names ← list
  Some ([], names)
lacks_before list (word ∷ words) = None

-- the hits and lacks that pairs of words tell: `hit LIST` for each hit, and `lack LIST` at the end
unfoldable pub pairs_in : List (List ℕ) → Option (List (List (List ℕ)) × List (List ℕ))
pairs_in [] = Some ([], [])
pairs_in (key ∷ []) = None
pairs_in (key ∷ list ∷ more) =
    if bytes_eq key (codes "hit") then hit_before (list_in list) (pairs_in more)
    else if bytes_eq key (codes "lack") then lacks_before (list_in list) more else None

-- the hits and lacks that stand behind `user `
unfoldable pub user_in : List ℕ → Option (List (List (List ℕ)) × List (List ℕ))
user_in text = pairs_in (pieces (byte_of (codes " ")) text)

-- the limit that the text is, if it may be told
unfoldable pub limit_in : List ℕ → Option ℕ
limit_in text = do
  limit ← number_in text
  only_if (nat_le 1 limit && nat_le limit MOST_LIMIT) limit

-- what stands behind `undecided `
unfoldable pub undecided_in : List ℕ → Option LineForm
undecided_in rest = do
  limit ← limit_in rest
  Some (an_undecided limit)

-- what stands behind `start `
unfoldable pub start_in : List ℕ → Option LineForm
start_in rest = do
  profile ← number_in rest
  Some (a_start profile)

-- what stands behind `act `
unfoldable pub act_line_in : List ℕ → Option LineForm
act_line_in rest = do
  act ← act_in rest
  Some (an_act act)

-- what stands behind `need `
unfoldable pub step_in : List ℕ → Option LineForm
step_in rest = do
  origin ← origin_in rest
  Some (a_step origin)

-- what stands behind `next `
unfoldable pub next_in : List ℕ → Option LineForm
next_in rest = do
  origin ← origin_in rest
  Some (a_next origin)

-- what stands behind `user `
unfoldable pub user_line_in : List ℕ → Option LineForm
user_line_in rest = do
  user ← user_in rest
  Some (a_user user.0 user.1)

-- the line that this word is alone
unfoldable pub word_in : List ℕ → Option LineForm
word_in word =
    if bytes_eq word (codes "need") then Some a_need else if bytes_eq word (codes "user") then Some (a_user [] [])
    else if bytes_eq word (codes "reachable") then Some a_reachable else if bytes_eq word (codes "unreachable") then Some an_unreachable else None

-- the first word, where others follow
unfoldable pub keyword_in : List ℕ → Option Keyword
keyword_in word =
    if bytes_eq word (codes "user") then Some k.User else if bytes_eq word (codes "need") then Some k.Need
    else if bytes_eq word (codes "act") then Some k.Act else if bytes_eq word (codes "start") then Some k.Start
    else if bytes_eq word (codes "next") then Some k.Next else if bytes_eq word (codes "undecided") then Some k.Undecided else None

-- the form of a line with this keyword, and this rest behind its space
abbrev pub form_with : Option Keyword → List ℕ → Option LineForm
form_with (Some k.Undecided) rest = undecided_in rest
form_with (Some k.Start) rest = start_in rest
form_with (Some k.Act) rest = act_line_in rest
form_with (Some k.Need) rest = step_in rest
form_with (Some k.Next) rest = next_in rest
form_with (Some k.User) rest = user_line_in rest
form_with None rest = None

-- the form of a line by its cut at the first space
abbrev pub form_by : List ℕ → Option (List ℕ × List ℕ) → Option LineForm
form_by line None = word_in line
form_by line (Some found) = form_with (keyword_in found.0) found.1

-- the form of the line
unfoldable pub form_of : List ℕ → Option LineForm
form_of line = form_by line (cut (byte_of (codes " ")) line)
