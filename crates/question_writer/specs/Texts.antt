-- The text that is written for a question; each line ends in a line feed.
use Rattle.std.specs.Prelude.{ℕ, Bool, if◌then◌else◌, List, [], ◌∷◌, ◌++◌, Option, Some, None, codes, get_or}
use Rattle.std.specs.Fmt.{decimal}
use Rattle.std.specs.List.{flat_map, join_by}
use Rattle.role_order.specs.declared.range.Range.{Range}
use Rattle.arbac_policy.specs.declared.rule.CanRevoke.{CanRevoke}
use Rattle.arbac_policy.specs.declared.profile.Profile.{Profile}
use Rattle.arbac_policy.specs.Truth.{Term}
use Rattle.cond_text.specs.Printing.{text_of}
use Rattle.cond_text.specs.Ranges.{NamedRange, spell_range}
use Rattle.arbac_policy.specs.PlainRules.{AssignRule}
use Rattle.question_text.specs.Values.{QuestionValue}

-- `key = value`
abbrev pub line : List ℕ → List ℕ → List ℕ
line key value = key ++ (codes " = " ++ (value ++ codes "\n"))

-- `[[key]]`
abbrev pub header : List ℕ → List ℕ
header key = codes "[[" ++ (key ++ codes "]]\n")

-- `"text"`
abbrev pub quoted : List ℕ → List ℕ
quoted text = codes "\"" ++ (text ++ codes "\"")

-- `[first, second]`, each item by its text
abbrev pub listed : {A : Type 0} → (A → List ℕ) → List A → List ℕ
listed item items = codes "[" ++ (join_by item (codes ", ") items ++ codes "]")

-- a role's name in quotes
abbrev pub role_text : List (List ℕ) → ℕ → List ℕ
role_text names role = quoted (get_or names role [])

-- `["PL1", "PE1"]`
abbrev pub pair_text : List (List ℕ) → ℕ × ℕ → List ℕ
pair_text names pair = listed (role_text names) (pair.0 ∷ pair.1 ∷ [])

-- a condition's text in quotes
abbrev pub condition_text : List (List ℕ) → Term → List ℕ
condition_text names cond = quoted (text_of names cond)

-- the range with the names of its ends
abbrev pub named : List (List ℕ) → Range → NamedRange
named names range = record { low = get_or names range.low []; high = get_or names range.high []; low_open = range.low_open; high_open = range.high_open }

-- a range's text in quotes
abbrev pub range_text : List (List ℕ) → Range → List ℕ
range_text names range = quoted (spell_range (named names range))

-- the word of a truth value
abbrev pub truth_text : Bool → List ℕ
truth_text value = if value then codes "true" else codes "false"

-- a number of users, or `any`
abbrev pub most_text : Option ℕ → List ℕ
most_text None = quoted (codes "any")
most_text (Some most) = decimal most

-- the second version where there is a pair
abbrev pub version_text : List (ℕ × ℕ) → List ℕ
version_text [] = codes "1"
version_text (pair ∷ pairs) = codes "2"

-- the line of the pairs, where there are any
abbrev pub exclusive_text : List (List ℕ) → List (ℕ × ℕ) → List ℕ
exclusive_text names [] = []
exclusive_text names (pair ∷ pairs) = line (codes "exclusive") (listed (pair_text names) (pair ∷ pairs))

-- the line of the goal, where there is one
abbrev pub goal_text : List (List ℕ) → List Term → List ℕ
goal_text names [] = []
goal_text names (cond ∷ conds) = line (codes "goal") (listed (condition_text names) (cond ∷ conds))

-- the table of a rule that gives roles, behind its header
abbrev pub assign_text : List ℕ → List (List ℕ) → AssignRule → List ℕ
assign_text key names rule =
    header key
    ++ (line (codes "admin") (role_text names rule.admin)
    ++ (line (codes "condition") (condition_text names rule.cond)
    ++ line (codes "range") (range_text names rule.range)))

-- the table of a rule that takes roles, behind its header
abbrev pub revoke_text : List ℕ → List (List ℕ) → CanRevoke → List ℕ
revoke_text key names rule =
    header key
    ++ (line (codes "admin") (role_text names rule.admin)
    ++ line (codes "range") (range_text names rule.range))

-- the table of a profile, behind its header
abbrev pub profile_text : List (List ℕ) → Profile → List ℕ
profile_text names profile =
    header (codes "profile")
    ++ (line (codes "roles") (listed (role_text names) profile.set)
    ++ line (codes "most") (most_text profile.most))

-- the keys one after another
unfoldable pub keys_text : QuestionValue → List ℕ
keys_text q =
    line (codes "version") (version_text q.exclusive)
    ++ (line (codes "separate") (truth_text q.separate)
    ++ (line (codes "roles") (listed quoted q.names)
    ++ (line (codes "admin_roles") (listed (role_text q.names) q.admin_roles)
    ++ (line (codes "edges") (listed (pair_text q.names) q.edges)
    ++ (exclusive_text q.names q.exclusive
    ++ goal_text q.names q.goal)))))

-- the tables one after another
unfoldable pub tables_text : QuestionValue → List ℕ
tables_text q =
    flat_map (assign_text (codes "can_assign") q.names) q.assign
    ++ (flat_map (revoke_text (codes "can_revoke") q.names) q.revoke
    ++ (flat_map (assign_text (codes "can_assignp") q.names) q.assignp
    ++ (flat_map (revoke_text (codes "can_revokep") q.names) q.revokep
    ++ flat_map (profile_text q.names) q.profiles)))

-- the text of the question
abbrev pub question_text : QuestionValue → List ℕ
question_text q = keys_text q ++ tables_text q
