-- The table that the text of a question reads as: what stands under each key.
use Rattle.std.proofs.Common.{◌≡◌, ℕ, List, [], ◌∷◌, ◌++◌, Option, Some, None, refl, ap, ◌∙◌, pos}
use Rattle.std.specs.Prelude.{codes, map}
use Rattle.arbac_policy.specs.Truth.{Term}
use Rattle.toml.specs.Data.{Data, string, integer, boolean, Members, get_member}
use Rattle.toml.specs.Tables.{Nodes, no_nodes, get_node, close, at_key, along_dots}
use Rattle.toml.specs.Parse.{parse_document}
use Rattle.question_text.specs.Values.{QuestionValue}
use Rattle.question_text.specs.Keys.{first_unknown}
use Rattle.question_text.specs.Documents.{known_keys}
use Rattle.question_text.specs.Rules.{KeepsRules}
use Rattle.question_writer.specs.Texts.{version_text, truth_text, listed, quoted, role_text, pair_text, question_text}
use Rattle.question_writer.proofs.BlockLemmas.{Entry, fill, filled, section_data, IsRead, blocks_read}
use Rattle.question_writer.proofs.EntryLemmas.{entry, role_data, pair_data, condition_data, version_number, exclusive_entries, goal_entries, top}
use Rattle.question_writer.proofs.EntryLemmas.{assign_row, revoke_row, profile_row, sections_of, text_blocks, top_written, sections_written}
use Rattle.question_writer.proofs.ValueLemmas.{list_data}

-- a list as a value; none where it is empty
abbrev pub list_or_none : {A : Type 0} → (A → Data) → List A → Option Data
list_or_none view [] = None
list_or_none view (x ∷ xs) = Some (list_data view (x ∷ xs))

-- what the keys before the tables leave
record IsRoot (v s r a e : Data) (exclusive goal : Option Data) (root : Nodes) (entries : List Entry) : Type 0 where
  full : fill entries no_nodes ≡ Some root
  known : first_unknown known_keys (close root) ≡ None
  has_version : get_member (codes "version") (close root) ≡ Some v
  has_separate : get_member (codes "separate") (close root) ≡ Some s
  has_roles : get_member (codes "roles") (close root) ≡ Some r
  has_admins : get_member (codes "admin_roles") (close root) ≡ Some a
  has_edges : get_member (codes "edges") (close root) ≡ Some e
  has_exclusive : get_member (codes "exclusive") (close root) ≡ exclusive
  has_goal : get_member (codes "goal") (close root) ≡ goal
  no_assign : get_node (codes "can_assign") root ≡ None
  no_revoke : get_node (codes "can_revoke") root ≡ None
  no_assignp : get_node (codes "can_assignp") root ≡ None
  no_revokep : get_node (codes "can_revokep") root ≡ None
  no_profile : get_node (codes "profile") root ≡ None

abbrev keys_before : Data → Data → Data → Data → Data → List ℕ → List ℕ → List ℕ → List ℕ → List ℕ → List Entry → List Entry
keys_before v s r a e vt st rt at et more =
    entry (codes "version") v vt ∷ (entry
    (codes "separate") s st ∷ (entry (codes "roles") r rt ∷ (entry (codes "admin_roles") a at ∷ (entry (codes "edges") e et ∷ more))))

root_is : (v s r a e : Data) (vt st rt at et : List ℕ) (names : List (List ℕ)) (pairs : List (ℕ × ℕ)) (goal : List Term)
    → IsRoot v s r a e (list_or_none (pair_data names) pairs) (list_or_none (condition_data names) goal)
    (filled (keys_before v s r a e vt st rt at et (exclusive_entries names pairs ++ goal_entries names goal)))
    (keys_before v s r a e vt st rt at et (exclusive_entries names pairs ++ goal_entries names goal))
unfolding at_key along_dots
root_is v s r a e vt st rt at et names [] [] = record {
  full = refl;
  known = refl;
  has_version = refl;
  has_separate = refl;
  has_roles = refl;
  has_admins = refl;
  has_edges = refl;
  has_exclusive = refl;
  has_goal = refl;
  no_assign = refl;
  no_revoke = refl;
  no_assignp = refl;
  no_revokep = refl;
  no_profile = refl;
}
root_is v s r a e vt st rt at et names [] (cond ∷ conds) = record {
  full = refl;
  known = refl;
  has_version = refl;
  has_separate = refl;
  has_roles = refl;
  has_admins = refl;
  has_edges = refl;
  has_exclusive = refl;
  has_goal = refl;
  no_assign = refl;
  no_revoke = refl;
  no_assignp = refl;
  no_revokep = refl;
  no_profile = refl;
}
root_is v s r a e vt st rt at et names (pair ∷ pairs) [] = record {
  full = refl;
  known = refl;
  has_version = refl;
  has_separate = refl;
  has_roles = refl;
  has_admins = refl;
  has_edges = refl;
  has_exclusive = refl;
  has_goal = refl;
  no_assign = refl;
  no_revoke = refl;
  no_assignp = refl;
  no_revokep = refl;
  no_profile = refl;
}
root_is v s r a e vt st rt at et names (pair ∷ pairs) (cond ∷ conds) = record {
  full = refl;
  known = refl;
  has_version = refl;
  has_separate = refl;
  has_roles = refl;
  has_admins = refl;
  has_edges = refl;
  has_exclusive = refl;
  has_goal = refl;
  no_assign = refl;
  no_revoke = refl;
  no_assignp = refl;
  no_revokep = refl;
  no_profile = refl;
}

-- what stands under each key of the question's table
pub record IsTableOf (q : QuestionValue) (table : Members) : Type 0 where
  pub known : first_unknown known_keys table ≡ None
  pub has_version : get_member (codes "version") table ≡ Some (integer (pos (version_number q.exclusive)))
  pub has_separate : get_member (codes "separate") table ≡ Some (boolean q.separate)
  pub has_roles : get_member (codes "roles") table ≡ Some (list_data string q.names)
  pub has_admins : get_member (codes "admin_roles") table ≡ Some (list_data (role_data q.names) q.admin_roles)
  pub has_edges : get_member (codes "edges") table ≡ Some (list_data (pair_data q.names) q.edges)
  pub has_exclusive : get_member (codes "exclusive") table ≡ list_or_none (pair_data q.names) q.exclusive
  pub has_goal : get_member (codes "goal") table ≡ list_or_none (condition_data q.names) q.goal
  pub has_assign : get_member (codes "can_assign") table ≡ section_data (map (assign_row q.names) q.assign)
  pub has_revoke : get_member (codes "can_revoke") table ≡ section_data (map (revoke_row q.names) q.revoke)
  pub has_assignp : get_member (codes "can_assignp") table ≡ section_data (map (assign_row q.names) q.assignp)
  pub has_revokep : get_member (codes "can_revokep") table ≡ section_data (map (revoke_row q.names) q.revokep)
  pub has_profiles : get_member (codes "profile") table ≡ section_data (map (profile_row q.names) q.profiles)

-- the text reads as this table
pub table_read : (q : QuestionValue) → KeepsRules q → (table : Members) × (parse_document (question_text q) ≡ Some table) × IsTableOf q table
table_read q h =
    let root : Nodes = filled (top q) in
    let is = root_is (integer (pos (version_number q.exclusive))) (boolean q.separate) (list_data string q.names)
    (list_data (role_data q.names) q.admin_roles) (list_data (pair_data q.names) q.edges)
    (version_text q.exclusive) (truth_text q.separate) (listed quoted q.names) (listed (role_text q.names) q.admin_roles)
    (listed (pair_text q.names) q.edges) q.names q.exclusive q.goal in
    let read : IsRead (top q) (sections_of q) known_keys root =
    blocks_read (top q) (sections_of q) known_keys root (top_written q h) is.full is.known (sections_written q h)
    (refl, (refl, (refl, (refl, (refl, tt)))))
    (is.no_assign, (is.no_revoke, (is.no_assignp, (is.no_revokep, (is.no_profile, tt)))))
    ((refl, (refl, (refl, (refl, tt)))), ((refl, (refl, (refl, tt))), ((refl, (refl, tt)), ((refl, tt), (tt, tt))))) in (
      read.table,
      ap parse_document (text_blocks q) ∙ read.parsed,
      record {
        known = read.known_keys;
        has_version = read.values (codes "version") ∙ is.has_version;
        has_separate = read.values (codes "separate") ∙ is.has_separate;
        has_roles = read.values (codes "roles") ∙ is.has_roles;
        has_admins = read.values (codes "admin_roles") ∙ is.has_admins;
        has_edges = read.values (codes "edges") ∙ is.has_edges;
        has_exclusive = read.values (codes "exclusive") ∙ is.has_exclusive;
        has_goal = read.values (codes "goal") ∙ is.has_goal;
        has_assign = read.values (codes "can_assign");
        has_revoke = read.values (codes "can_revoke");
        has_assignp = read.values (codes "can_assignp");
        has_revokep = read.values (codes "can_revokep");
        has_profiles = read.values (codes "profile");
      },
    )
