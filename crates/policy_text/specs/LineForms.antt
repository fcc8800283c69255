-- The forms of the lines between the first line and the last, and how they are spelled.
use Rattle.std.specs.Prelude.{ℕ, Bool, true, false, List, [], ◌∷◌, ◌++◌, codes}
use Rattle.std.specs.Str.{IsUtf8}
use Rattle.list_words.specs.Lists.{Each}
use Rattle.cond_text.specs.Cuts.{IsName}
use Rattle.cond_text.specs.Ranges.{NamedRange, IsNamedRange, spell_range}
use Rattle.text_lines.specs.Acts.{WrittenAct, IsWrittenAct, spell_act}

-- a line as it is written: its names by their texts, and its condition by its text
pub data LineForm : Type 0 where
  a_role : List ℕ → LineForm
  an_edge : List ℕ → List ℕ → LineForm
  an_assign : List ℕ → NamedRange → List ℕ → LineForm
  a_revoke : List ℕ → NamedRange → LineForm
  a_user : List (List ℕ) → LineForm
  an_act : WrittenAct → LineForm
  a_goal : List ℕ → LineForm

-- each name is a name, each number has 32 bits, and the condition is text
abbrev pub IsWellFormed : LineForm → Type 0
IsWellFormed (a_role name) = IsName name
IsWellFormed (an_edge senior junior) = IsName senior × IsName junior
IsWellFormed (an_assign admin range condition) = IsName admin × IsNamedRange range × IsUtf8 condition
IsWellFormed (a_revoke admin range) = IsName admin × IsNamedRange range
IsWellFormed (a_user names) = Each IsName names
IsWellFormed (an_act act) = IsWrittenAct act
IsWellFormed (a_goal condition) = IsUtf8 condition

-- the line tells a role or an edge
abbrev pub tells_order : LineForm → Bool
tells_order (a_role name) = true
tells_order (an_edge senior junior) = true
tells_order (an_assign admin range condition) = false
tells_order (a_revoke admin range) = false
tells_order (a_user names) = false
tells_order (an_act act) = false
tells_order (a_goal condition) = false

-- the bytes of the line's condition
abbrev pub condition_of : LineForm → List ℕ
condition_of (an_assign admin range condition) = condition
condition_of (a_goal condition) = condition
condition_of (a_role name) = []
condition_of (an_edge senior junior) = []
condition_of (a_revoke admin range) = []
condition_of (a_user names) = []
condition_of (an_act act) = []

-- a space before each name
abbrev pub spell_names : List (List ℕ) → List ℕ
spell_names [] = []
spell_names (name ∷ names) = codes " " ++ (name ++ spell_names names)

-- the bytes of the line, without its line feed
unfoldable pub spell : LineForm → List ℕ
spell (a_role name) = codes "role " ++ name
spell (an_edge senior junior) = codes "edge " ++ (senior ++ (codes " " ++ junior))
spell (an_assign admin range condition) = codes "assign " ++ (admin ++ (codes " " ++ (spell_range range ++ (codes " " ++ condition))))
spell (a_revoke admin range) = codes "revoke " ++ (admin ++ (codes " " ++ spell_range range))
spell (a_user names) = codes "user" ++ spell_names names
spell (an_act act) = codes "act " ++ spell_act act
spell (a_goal condition) = codes "goal " ++ condition
