-- The text of a question, as a document of keys and lists of tables.
use Rattle.std.proofs.Common.{◌≡◌, ℕ, suc, ◌<◌, ◌≤◌, ◌^◌, Bool, true, false, cond, List, [], ◌∷◌, ◌++◌, length, get_or}
use Rattle.std.proofs.Common.{Option, Some, None, refl, sym, ap, ◌∙◌, subst, arith, append-nil, pos, rules}
use Rattle.std.specs.Prelude.{codes, map}
use Rattle.std.specs.Char.{is_ascii}
use Rattle.std.specs.Fmt.{decimal}
use Rattle.std.specs.List.{flat_map, list_all}
use Rattle.std.specs.Str.{IsUtf8}
use Rattle.std.proofs.lemmas.List.Folds.{flat_map-map}
use Rattle.std.proofs.lemmas.Str.{IsUtf8-append}
use Rattle.role_order.specs.declared.range.Range.{Range}
use Rattle.list_words.specs.Lists.{Each}
use Rattle.role_order.specs.Refusals.{AreNames}
use Rattle.role_order.specs.Roles.{AreBelow}
use Rattle.list_words.proofs.EachLemmas.{each_weaker, each_append}
use Rattle.role_order.specs.Names.{is_role_name}
use Rattle.std.proofs.lemmas.Fmt.{decimal_digit}
use Rattle.arbac_policy.specs.declared.rule.CanRevoke.{CanRevoke}
use Rattle.arbac_policy.specs.declared.profile.Profile.{Profile}
use Rattle.arbac_policy.specs.Truth.{Term, IsKnown}
use Rattle.arbac_policy.specs.Rules.{IsKnownRange, IsKnownPair}
use Rattle.cond_text.specs.Printing.{text_of}
use Rattle.cond_text.specs.Ranges.{spell_range}
use Rattle.arbac_policy.specs.PlainRules.{AssignRule}
use Rattle.toml_writer.specs.Text.{key_text}
use Rattle.toml.specs.Data.{Data, string, integer, boolean, depth, has_valid_dates}
use Rattle.toml.specs.Tables.{at_key, along_dots}
use Rattle.toml.specs.Text.{IsValueText}
use Rattle.question_text.specs.Values.{QuestionValue}
use Rattle.question_text.specs.Rules.{IsSet, IsPair, IsCondition, IsAssignRule, IsRevokeRule, IsMost, IsProfile, KeepsRules}
use Rattle.question_writer.specs.Texts.{line, header, quoted, listed, role_text, pair_text, condition_text, named, range_text, truth_text, most_text}
use Rattle.question_writer.specs.Texts.{version_text, exclusive_text, goal_text, assign_text, revoke_text, profile_text, keys_text, tables_text}
use Rattle.question_writer.specs.Texts.{question_text}
use Rattle.question_writer.proofs.BlockLemmas.{Entry, IsEntry, Section, IsRow, IsSection, entry_line, row_text, section_text, blocks_text}
use Rattle.question_writer.proofs.NamedLemmas.{is_named, name_plain, text_plain, range_plain, each_below}
use Rattle.question_writer.proofs.ValueLemmas.{IsPlain, plain_string, quoted_utf8, ascii_utf8, decimal_utf8, list_data, list_text, list_depth, list_dated}
use Rattle.question_writer.proofs.ValueLemmas.{listed_utf8}

-- the text writes the value, which nests no deeper
pub record IsItem (most : ℕ) (value : Data) (bytes : List ℕ) : Type 0 where
  pub text : IsValueText false value bytes
  pub flat : depth value ≤ most
  pub dated : has_valid_dates value ≡ true
  pub utf8 : IsUtf8 bytes

string_item : (text : List ℕ) → IsPlain text → IsItem 0 (string text) (quoted text)
string_item text h = record { text = sym (plain_string text h); flat = omega arith; dated = refl; utf8 = quoted_utf8 text h }

number_item : (n : ℕ) → n < 2 ^ 63 → IsItem 0 (integer (pos n)) (decimal n)
number_item n small = record { text = (refl, search rules); flat = omega arith; dated = refl; utf8 = decimal_utf8 n (omega arith) }

truth_item : (b : Bool) → IsItem 0 (boolean b) (truth_text b)
truth_item true = record { text = refl; flat = omega arith; dated = refl; utf8 = ascii_utf8 (codes "true") refl }
truth_item false = record { text = refl; flat = omega arith; dated = refl; utf8 = ascii_utf8 (codes "false") refl }

list_item : {A : Type 0} (most : ℕ) (view : A → Data) (text : A → List ℕ) (xs : List A) → Each (λ x. IsItem most (view x) (text x)) xs
    → IsItem (suc most) (list_data view xs) (listed text xs)
list_item {A} most view text xs h =
    let P : A → Type 0 = λ x. IsItem most (view x) (text x) in
    record {
      text = list_text view text xs (each_weaker P (λ x. IsValueText false (view x) (text x)) (λ x i. i.text) xs h);
      flat = list_depth view most xs (each_weaker P (λ x. depth (view x) ≤ most) (λ x i. i.flat) xs h);
      dated = list_dated view xs (each_weaker P (λ x. has_valid_dates (view x) ≡ true) (λ x i. i.dated) xs h);
      utf8 = listed_utf8 text xs (each_weaker P (λ x. IsUtf8 (text x)) (λ x i. i.utf8) xs h);
    }

abbrev pub entry : List ℕ → Data → List ℕ → Entry
entry key value text = record { key = key; text = text; value = value }

is_entry : (most : ℕ) (key : List ℕ) (value : Data) (text : List ℕ) → most ≤ 80 → key_text key ≡ key → list_all is_ascii key ≡ true
    → IsItem most value text → IsEntry (entry key value text)
is_entry most key value text room bare ascii item = record {
  bare = bare;
  text = item.text;
  flat = let deep = item.flat in omega arith;
  dated = item.dated;
  utf8 = IsUtf8-append key (codes " = " ++ (text ++ (10 ∷ []))) (ascii_utf8 key ascii)
      (IsUtf8-append (codes " = ") (text ++ (10 ∷ [])) (ascii_utf8 (codes " = ") refl)
      (IsUtf8-append text (10 ∷ []) item.utf8 (ascii_utf8 (10 ∷ []) refl)));
}

-- ---- the values

abbrev pub role_data : List (List ℕ) → ℕ → Data
role_data names role = string (get_or names role [])

abbrev pub pair_data : List (List ℕ) → ℕ × ℕ → Data
pair_data names pair = list_data (role_data names) (pair.0 ∷ pair.1 ∷ [])

abbrev pub condition_data : List (List ℕ) → Term → Data
condition_data names cond = string (text_of names cond)

abbrev pub range_data : List (List ℕ) → Range → Data
range_data names range = string (spell_range (named names range))

abbrev pub most_data : Option ℕ → Data
most_data None = string (codes "any")
most_data (Some most) = integer (pos most)

abbrev pub version_number : List (ℕ × ℕ) → ℕ
version_number [] = 1
version_number (pair ∷ pairs) = 2

abbrev pub exclusive_entries : List (List ℕ) → List (ℕ × ℕ) → List Entry
exclusive_entries names [] = []
exclusive_entries names (pair ∷ pairs) =
    entry (codes "exclusive") (list_data (pair_data names) (pair ∷ pairs)) (listed (pair_text names) (pair ∷ pairs)) ∷ []

abbrev pub goal_entries : List (List ℕ) → List Term → List Entry
goal_entries names [] = []
goal_entries names (cond ∷ conds) =
    entry (codes "goal") (list_data (condition_data names) (cond ∷ conds)) (listed (condition_text names) (cond ∷ conds)) ∷ []

-- the keys in their order
abbrev pub top : QuestionValue → List Entry
top q =
    entry (codes "version") (integer (pos (version_number q.exclusive))) (version_text q.exclusive)
    ∷ (entry (codes "separate") (boolean q.separate) (truth_text q.separate)
    ∷ (entry (codes "roles") (list_data string q.names) (listed quoted q.names)
    ∷ (entry (codes "admin_roles") (list_data (role_data q.names) q.admin_roles) (listed (role_text q.names) q.admin_roles)
    ∷ (entry (codes "edges") (list_data (pair_data q.names) q.edges) (listed (pair_text q.names) q.edges)
    ∷ (exclusive_entries q.names q.exclusive ++ goal_entries q.names q.goal)))))

abbrev pub assign_row : List (List ℕ) → AssignRule → List Entry
assign_row names rule =
    entry (codes "admin") (role_data names rule.admin) (role_text names rule.admin)
    ∷ (entry (codes "condition") (condition_data names rule.cond) (condition_text names rule.cond)
    ∷ (entry (codes "range") (range_data names rule.range) (range_text names rule.range) ∷ []))

abbrev pub revoke_row : List (List ℕ) → CanRevoke → List Entry
revoke_row names rule =
    entry (codes "admin") (role_data names rule.admin) (role_text names rule.admin)
    ∷ (entry (codes "range") (range_data names rule.range) (range_text names rule.range) ∷ [])

abbrev pub profile_row : List (List ℕ) → Profile → List Entry
profile_row names profile =
    entry (codes "roles") (list_data (role_data names) profile.set) (listed (role_text names) profile.set)
    ∷ (entry (codes "most") (most_data profile.most) (most_text profile.most) ∷ [])

-- the tables in their order
abbrev pub sections_of : QuestionValue → List Section
sections_of q =
    (codes "can_assign", map (assign_row q.names) q.assign)
    ∷ ((codes "can_revoke", map (revoke_row q.names) q.revoke)
    ∷ ((codes "can_assignp", map (assign_row q.names) q.assignp)
    ∷ ((codes "can_revokep", map (revoke_row q.names) q.revokep)
    ∷ ((codes "profile", map (profile_row q.names) q.profiles) ∷ []))))

-- ---- the text

same_flat : {A : Type 0} (f g : A → List ℕ) (xs : List A) → ((x : A) → f x ≡ g x) → flat_map f xs ≡ flat_map g xs
same_flat f g [] same = refl
same_flat f g (x ∷ xs) same = rw (same x, same_flat f g xs same) refl

rows_text : {A : Type 0} (key : List ℕ) (row : A → List Entry) (text : A → List ℕ) (xs : List A) → ((x : A) → row_text key (row x) ≡ text x)
    → section_text (key, map row xs) ≡ flat_map text xs
rows_text key row text xs same = flat_map-map (row_text key) row xs ∙ same_flat (λ x. row_text key (row x)) text xs same

assign_same : (key : List ℕ) (names : List (List ℕ)) (rule : AssignRule) → row_text key (assign_row names rule) ≡ assign_text key names rule
assign_same key names rule =
    ap (λ t. header key ++ (line (codes "admin") (role_text names rule.admin) ++ (line (codes "condition") (condition_text names rule.cond) ++ t)))
    (append-nil (line (codes "range") (range_text names rule.range)))

revoke_same : (key : List ℕ) (names : List (List ℕ)) (rule : CanRevoke) → row_text key (revoke_row names rule) ≡ revoke_text key names rule
revoke_same key names rule =
    ap (λ t. header key ++ (line (codes "admin") (role_text names rule.admin) ++ t)) (append-nil (line (codes "range") (range_text names rule.range)))

profile_same : (names : List (List ℕ)) (profile : Profile) → row_text (codes "profile") (profile_row names profile) ≡ profile_text names profile
profile_same names profile =
    ap (λ t. header (codes "profile") ++ (line (codes "roles") (listed (role_text names) profile.set) ++ t))
    (append-nil (line (codes "most") (most_text profile.most)))

last_lines : (names : List (List ℕ)) (pairs : List (ℕ × ℕ)) (goal : List Term)
    → flat_map entry_line (exclusive_entries names pairs ++ goal_entries names goal) ≡ exclusive_text names pairs ++ goal_text names goal
last_lines names [] [] = refl
last_lines names [] (cond ∷ conds) = append-nil (goal_text names (cond ∷ conds))
last_lines names (pair ∷ pairs) [] = refl
last_lines names (pair ∷ pairs) (cond ∷ conds) = ap (λ t. exclusive_text names (pair ∷ pairs) ++ t) (append-nil (goal_text names (cond ∷ conds)))

keys_same : (q : QuestionValue) → flat_map entry_line (top q) ≡ keys_text q
unfolding keys_text
keys_same q = rw (last_lines q.names q.exclusive q.goal) refl

tables_same : (q : QuestionValue) → flat_map section_text (sections_of q) ≡ tables_text q
unfolding tables_text
tables_same q =
    rw (
      rows_text (codes "can_assign") (assign_row q.names) (assign_text (codes "can_assign") q.names) q.assign (assign_same (codes "can_assign") q.names),
      rows_text (codes "can_revoke") (revoke_row q.names) (revoke_text (codes "can_revoke") q.names) q.revoke (revoke_same (codes "can_revoke") q.names),
      rows_text (codes "can_assignp") (assign_row q.names) (assign_text (codes "can_assignp") q.names) q.assignp (assign_same (codes "can_assignp") q.names),
      rows_text (codes "can_revokep") (revoke_row q.names) (revoke_text (codes "can_revokep") q.names) q.revokep (revoke_same (codes "can_revokep") q.names),
      rows_text (codes "profile") (profile_row q.names) (profile_text q.names) q.profiles (profile_same q.names),
      append-nil (flat_map (profile_text q.names) q.profiles),
    ) refl

-- the text is that of the keys and of the lists of tables
pub text_blocks : (q : QuestionValue) → question_text q ≡ blocks_text (top q) (sections_of q)
text_blocks q = sym (ap (λ t. t ++ flat_map section_text (sections_of q)) (keys_same q) ∙ ap (λ t. keys_text q ++ t) (tables_same q))

-- ---- each value is written by its text

module _ (names : List (List ℕ)) (ok : AreNames names) where
  role_item : (role : ℕ) → role < length names → IsItem 0 (role_data names role) (role_text names role)
  role_item role h = string_item (get_or names role []) (is_named names ok role h).plain

  pair_item : (pair : ℕ × ℕ) → IsKnownPair (length names) pair → IsItem 1 (pair_data names pair) (pair_text names pair)
  pair_item pair h = list_item 0 (role_data names) (role_text names) (pair.0 ∷ pair.1 ∷ []) (role_item pair.0 h.0, (role_item pair.1 h.1, tt))

  condition_item : (cond : Term) → IsKnown (length names) cond → IsItem 0 (condition_data names cond) (condition_text names cond)
  condition_item cond h = string_item (text_of names cond) (text_plain names ok cond h)

  range_item : (range : Range) → IsKnownRange (length names) range → IsItem 0 (range_data names range) (range_text names range)
  range_item range h = string_item (spell_range (named names range)) (range_plain names ok range h)

  most_item : (most : Option ℕ) → IsMost most → IsItem 0 (most_data most) (most_text most)
  most_item None h = string_item (codes "any") refl
  most_item (Some most) h = number_item most (omega arith)

  set_items : (set : List ℕ) → AreBelow (length names) set → Each (λ role. IsItem 0 (role_data names role) (role_text names role)) set
  set_items set below =
      each_weaker (λ role. role < length names) (λ role. IsItem 0 (role_data names role) (role_text names role)) role_item set
      (each_below (length names) set below)

  set_item : (set : List ℕ) → IsSet (length names) set → IsItem 1 (list_data (role_data names) set) (listed (role_text names) set)
  set_item set h = list_item 0 (role_data names) (role_text names) set (set_items set h.below)

  assign_entries : (rule : AssignRule) → IsAssignRule (length names) rule → Each IsEntry (assign_row names rule)
  unfolding key_text
  assign_entries rule h = (
    is_entry 0 (codes "admin") _ _ (omega arith) refl refl (role_item rule.admin h.admin),
    (
      is_entry 0 (codes "condition") _ _ (omega arith) refl refl (condition_item rule.cond h.cond.known),
      (is_entry 0 (codes "range") _ _ (omega arith) refl refl (range_item rule.range h.range), tt),
    ),
  )

  revoke_entries : (rule : CanRevoke) → IsRevokeRule (length names) rule → Each IsEntry (revoke_row names rule)
  unfolding key_text
  revoke_entries rule h = (
    is_entry 0 (codes "admin") _ _ (omega arith) refl refl (role_item rule.admin h.admin),
    (is_entry 0 (codes "range") _ _ (omega arith) refl refl (range_item rule.range h.range), tt),
  )

  profile_entries : (profile : Profile) → IsProfile (length names) profile → Each IsEntry (profile_row names profile)
  unfolding key_text
  profile_entries profile h = (
    is_entry 1 (codes "roles") _ _ (omega arith) refl refl (set_item profile.set h.set),
    (is_entry 0 (codes "most") _ _ (omega arith) refl refl (most_item profile.most h.most), tt),
  )

  assign_is_row : (rule : AssignRule) → IsAssignRule (length names) rule → IsRow (assign_row names rule)
  unfolding at_key along_dots
  assign_is_row rule h = record { entries = assign_entries rule h; full = refl }

  revoke_is_row : (rule : CanRevoke) → IsRevokeRule (length names) rule → IsRow (revoke_row names rule)
  unfolding at_key along_dots
  revoke_is_row rule h = record { entries = revoke_entries rule h; full = refl }

  profile_is_row : (profile : Profile) → IsProfile (length names) profile → IsRow (profile_row names profile)
  unfolding at_key along_dots
  profile_is_row profile h = record { entries = profile_entries profile h; full = refl }

each_mapped : {A B : Type 0} (P : A → Type 0) (Q : B → Type 0) (f : A → B) (xs : List A) → ((x : A) → P x → Q (f x)) → Each P xs
    → Each Q (map f xs)
each_mapped P Q f [] each h = tt
each_mapped P Q f (x ∷ xs) each h = (each x h.0, each_mapped P Q f xs each h.1)

is_section : (key : List ℕ) (rows : List (List Entry)) → key_text key ≡ key → list_all is_ascii key ≡ true → Each IsRow rows
    → IsSection (key, rows)
is_section key rows bare ascii h = record {
  bare = bare;
  rows = h;
  utf8 = IsUtf8-append (codes "[[") (key ++ codes "]]\n") (ascii_utf8 (codes "[[") refl)
      (IsUtf8-append key (codes "]]\n") (ascii_utf8 key ascii) (ascii_utf8 (codes "]]\n") refl));
}

pub sections_written : (q : QuestionValue) → KeepsRules q → Each IsSection (sections_of q)
unfolding key_text
sections_written q h =
    let ok = h.order.are_names in (
      is_section (codes "can_assign") _ refl refl
          (each_mapped (IsAssignRule (length q.names)) IsRow (assign_row q.names) q.assign (assign_is_row q.names ok) h.assign.1),
      (
        is_section (codes "can_revoke") _ refl refl
            (each_mapped (IsRevokeRule (length q.names)) IsRow (revoke_row q.names) q.revoke (revoke_is_row q.names ok) h.revoke.1),
        (
          is_section (codes "can_assignp") _ refl refl
              (each_mapped (IsAssignRule (length q.names)) IsRow (assign_row q.names) q.assignp (assign_is_row q.names ok) h.assignp.1),
          (
            is_section (codes "can_revokep") _ refl refl
                (each_mapped (IsRevokeRule (length q.names)) IsRow (revoke_row q.names) q.revokep (revoke_is_row q.names ok) h.revokep.1),
            (
              is_section (codes "profile") _ refl refl
                  (each_mapped (IsProfile (length q.names)) IsRow (profile_row q.names) q.profiles (profile_is_row q.names ok) h.profiles.1),
              tt,
            ),
          ),
        ),
      ),
    )

version_item : (pairs : List (ℕ × ℕ)) → IsItem 0 (integer (pos (version_number pairs))) (version_text pairs)
version_item [] = subst (λ (text : List ℕ). IsItem 0 (integer (pos 1)) text) (decimal_digit 1 (omega arith)) (number_item 1 (omega arith))
version_item (pair ∷ pairs) = subst (λ (text : List ℕ). IsItem 0 (integer (pos 2)) text) (decimal_digit 2 (omega arith)) (number_item 2 (omega arith))

module _ (names : List (List ℕ)) (ok : AreNames names) where
  exclusive_written : (pairs : List (ℕ × ℕ)) → Each (IsPair (length names)) pairs → Each IsEntry (exclusive_entries names pairs)
  unfolding key_text
  exclusive_written [] h = tt
  exclusive_written (pair ∷ pairs) h = (
    is_entry 2 (codes "exclusive") _ _ (omega arith) refl refl (list_item 1 (pair_data names) (pair_text names) (pair ∷ pairs)
        (each_weaker (IsPair (length names)) (λ p. IsItem 1 (pair_data names p) (pair_text names p)) (λ p k. pair_item names ok p k.known)
        (pair ∷ pairs) h)),
    tt,
  )

  goal_written : (goal : List Term) → Each (IsCondition (length names)) goal → Each IsEntry (goal_entries names goal)
  unfolding key_text
  goal_written [] h = tt
  goal_written (cond ∷ conds) h = (
    is_entry 1 (codes "goal") _ _ (omega arith) refl refl (list_item 0 (condition_data names) (condition_text names) (cond ∷ conds)
        (each_weaker (IsCondition (length names)) (λ t. IsItem 0 (condition_data names t) (condition_text names t))
        (λ t k. condition_item names ok t k.known) (cond ∷ conds) h)),
    tt,
  )

pub top_written : (q : QuestionValue) → KeepsRules q → Each IsEntry (top q)
unfolding key_text
top_written q h =
    let ok = h.order.are_names in
    let name_items = each_weaker (λ name. is_role_name name ≡ true) (λ name. IsItem 0 (string name) (quoted name))
    (λ name k. string_item name (name_plain name k)) q.names ok.named in
    let edge_items = each_weaker (IsKnownPair (length q.names)) (λ p. IsItem 1 (pair_data q.names p) (pair_text q.names p))
    (λ p k. pair_item q.names ok p k) q.edges h.order.ends in (
      is_entry 0 (codes "version") _ _ (omega arith) refl refl (version_item q.exclusive),
      (
        is_entry 0 (codes "separate") _ _ (omega arith) refl refl (truth_item q.separate),
        (
          is_entry 1 (codes "roles") _ _ (omega arith) refl refl (list_item 0 string quoted q.names name_items),
          (
            is_entry 1 (codes "admin_roles") _ _ (omega arith) refl refl (set_item q.names ok q.admin_roles h.admins),
            (
              is_entry 2 (codes "edges") _ _ (omega arith) refl refl (list_item 1 (pair_data q.names) (pair_text q.names) q.edges edge_items),
              each_append IsEntry (exclusive_entries q.names q.exclusive) (goal_entries q.names q.goal)
                  (exclusive_written q.names ok q.exclusive h.exclusive.1) (goal_written q.names ok q.goal h.goal.1),
            ),
          ),
        ),
      ),
    )
