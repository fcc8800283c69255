-- The text of a question stands for the question.
use Rattle.std.proofs.Common.{◌≡◌, ℕ, Bool, true, false, ◌&&◌, List, [], ◌∷◌, length, Option, Some, Ok, refl, sym, subst, inl, inr, pos}
use Rattle.std.specs.Prelude.{codes, map, ◌==◌}
use Rattle.std.specs.Str.{IsUtf8}
use Rattle.std.proofs.lemmas.Str.{is_utf8-from_IsUtf8}
use Rattle.role_order.specs.Names.{is_role_name}
use Rattle.list_words.proofs.EachLemmas.{each_weaker}
use Rattle.arbac_policy.specs.Rules.{IsKnownPair}
use Rattle.arbac_policy.specs.Truth.{term_of}
use Rattle.arbac_policy.specs.declared.TheConstants.{MOST_EDGES}
use Rattle.toml.specs.Data.{Data, string, integer, boolean, Members, as_bool}
use Rattle.question_text.specs.declared.TheConstants.{MOST_PAIRS}
use Rattle.question_text.specs.Outcomes.{wrong_kind}
use Rattle.question_text.specs.declared.question.Question.{Question}
use Rattle.question_text.specs.Values.{QuestionValue, plain_of}
use Rattle.question_text.specs.Keys.{toml_of, as_list, as_version}
use Rattle.question_text.specs.Roles.{a_text, an_edge, a_pair, role_names, admin_list, admin_roles, listed_roles, role_edges, exclusive_pairs, is_there}
use Rattle.question_text.specs.Documents.{known_keys, the_head, the_roles, the_rules, question, document}
use Rattle.question_text.specs.Rules.{IsPair, KeepsRules}
use Rattle.question_writer.specs.Texts.{question_text}
use Rattle.question_writer.proofs.BackLemmas.{no_edges, is_version, are_assign_rules, are_revoke_rules, are_profiles, is_the_goal}
use Rattle.question_writer.proofs.BlockLemmas.{blocks_utf8}
use Rattle.question_writer.proofs.EntryLemmas.{top, sections_of, top_written, sections_written, text_blocks, role_data, pair_data, version_number}
use Rattle.question_writer.proofs.BackPartLemmas.{is_known, holds_not, is_required, as_list_data, is_optional, is_listed, are_few, are_read, is_an_edge}
use Rattle.question_writer.proofs.BackPartLemmas.{is_a_pair, is_role_set, are_not_mixed}
use Rattle.question_writer.proofs.BackTableLemmas.{list_or_none, IsTableOf, table_read}
use Rattle.question_writer.proofs.ValueLemmas.{list_data}

fits_version : (names : List (List ℕ)) (pairs : List (ℕ × ℕ)) (found : Option Data) → found ≡ list_or_none (pair_data names) pairs
    → ((version_number pairs == 1) && is_there found) ≡ false
fits_version names [] found e = rw e refl
fits_version names (pair ∷ pairs) found e = refl

module _ (q : QuestionValue) (h : KeepsRules q) (found : Members) (is : IsTableOf q found) where
  are_names : role_names found (Ok q.names)
  are_names =
      let list = is_required as_list found [] (codes "roles") (list_data string q.names) (map string q.names) is.has_roles (as_list_data string q.names) in
      let each = each_weaker (λ name. is_role_name name ≡ true) (λ name. (at : List ℕ) → a_text at (string name) (Ok name))
      (λ name k at. refl) q.names h.order.are_names.named in
      let read = are_read a_text string (codes "roles") q.names each in
      inr (map string q.names, list, inr (q.names, read, inr (tt, inl (no_edges q.names h.order.are_names, refl), refl)))

  are_admins : (separate : Bool) → admin_roles separate q.names found (Ok q.admin_roles)
  are_admins separate =
      inr (map (role_data q.names) q.admin_roles, listed separate, is_role_set q.names h.order.are_names q.admin_roles h.admins (codes "admin_roles"))
    where
      listed : (separate : Bool) → admin_list separate found (Ok (map (role_data q.names) q.admin_roles))
      listed true = is_required as_list found [] (codes "admin_roles") (list_data (role_data q.names) q.admin_roles)
          (map (role_data q.names) q.admin_roles) is.has_admins (as_list_data (role_data q.names) q.admin_roles)
      listed false = is_listed (role_data q.names) q.admin_roles found [] (codes "admin_roles") is.has_admins

  are_listed : listed_roles MOST_EDGES (an_edge q.names) q.separate q.admin_roles (codes "edges") found (Ok q.edges)
  are_listed =
      let view = pair_data q.names in
      let read = are_read (an_edge q.names) view (codes "edges") q.edges
      (each_weaker (IsKnownPair (length q.names)) (λ pair. (at : List ℕ) → an_edge q.names at (pair_data q.names pair) (Ok pair))
      (is_an_edge q.names h.order.are_names) q.edges h.order.ends) in
      let list = is_listed view q.edges found [] (codes "edges") is.has_edges in
      let few = are_few MOST_EDGES (codes "edges") view q.edges h.edges in
      let apart = are_not_mixed q.separate q.admin_roles (codes "edges") q.edges (λ e. (h.apart e).edges) in
      inr (map view q.edges, list, inr (tt, few, inr (q.edges, read, inr (tt, apart, refl))))

  are_edges : role_edges q.separate q.admin_roles q.names found (Ok q.edges)
  are_edges = inr (q.edges, are_listed, inr (tt, inl (h.order, refl), refl))

  are_pairs : exclusive_pairs (version_number q.exclusive) q.separate q.admin_roles q.names found (Ok q.exclusive)
  are_pairs =
      let view = pair_data q.names in
      let fits = holds_not _ (wrong_kind (codes "exclusive")) (fits_version q.names q.exclusive _ is.has_exclusive) in
      let read = are_read (a_pair q.names) view (codes "exclusive") q.exclusive
      (each_weaker (IsPair (length q.names)) (λ pair. (at : List ℕ) → a_pair q.names at (pair_data q.names pair) (Ok pair))
      (is_a_pair q.names h.order.are_names) q.exclusive h.exclusive.1) in
      let list = is_optional view q.exclusive found [] (codes "exclusive") is.has_exclusive in
      let few = are_few MOST_PAIRS (codes "exclusive") view q.exclusive h.exclusive.0 in
      let apart = are_not_mixed q.separate q.admin_roles (codes "exclusive") q.exclusive (λ e. (h.apart e).exclusive) in
      inr (tt, fits, inr (map view q.exclusive, list, inr (tt, few, inr (q.exclusive, read, inr (tt, apart, refl)))))

  is_head : the_head found (Ok (record { version = version_number q.exclusive; separate = q.separate }))
  is_head =
      let has_version = is_required as_version found [] (codes "version") (integer (pos (version_number q.exclusive)))
      (version_number q.exclusive) is.has_version (is_version q.exclusive) in
      let has_separate = is_required as_bool found [] (codes "separate") (boolean q.separate) q.separate is.has_separate refl in
      inr (tt, is_known known_keys found [] is.known, inr (version_number q.exclusive, has_version, inr (q.separate, has_separate, refl)))

  are_roles : the_roles (record { version = version_number q.exclusive; separate = q.separate }) found
      (Ok (record { names = q.names; admins = q.admin_roles; edges = q.edges; exclusive = q.exclusive }))
  are_roles = inr (q.names, are_names, inr (q.admin_roles, are_admins q.separate, inr (q.edges, are_edges, inr (q.exclusive, are_pairs, refl))))

  are_rules : the_rules q.separate q.admin_roles q.names found
      (Ok (record { assign = q.assign; revoke = q.revoke; assignp = q.assignp; revokep = q.revokep }))
  are_rules =
      let ok = h.order.are_names in
      let assign = are_assign_rules q.names ok q.separate q.admin_roles found (codes "can_assign") q.assign is.has_assign h.assign
      (λ e. (h.apart e).assign) in
      let revoke = are_revoke_rules q.names ok q.separate q.admin_roles found (codes "can_revoke") q.revoke is.has_revoke h.revoke
      (λ e. (h.apart e).revoke) in
      let assignp = are_assign_rules q.names ok q.separate q.admin_roles found (codes "can_assignp") q.assignp is.has_assignp h.assignp
      (λ e. (h.apart e).assignp) in
      let revokep = are_revoke_rules q.names ok q.separate q.admin_roles found (codes "can_revokep") q.revokep is.has_revokep h.revokep
      (λ e. (h.apart e).revokep) in
      inr (q.assign, assign, inr (q.revoke, revoke, inr (q.assignp, assignp, inr (q.revokep, revokep, refl))))

  -- the table stands for the question
  pub is_question : (need : Bool) → (need ≡ true → ¬ (q.goal ≡ [])) → question need found (Ok q)
  is_question need some =
      let ok = h.order.are_names in
      let list = are_profiles q.names ok found q.profiles is.has_profiles h.profiles in
      let goal = is_the_goal q.names ok need found q.goal is.has_goal some h.goal h.narrow in
      inr (_, is_head, inr (_, are_roles, inr (_, are_rules, inr (q.profiles, list, inr (q.goal, goal, refl)))))

text_utf8 : (q : QuestionValue) → KeepsRules q → IsUtf8 (question_text q)
text_utf8 q h = subst IsUtf8 (sym (text_blocks q)) (blocks_utf8 (top q) (sections_of q) (top_written q h) (sections_written q h))

-- the text of a question that keeps the rules stands for the question
pub written_back : (q : QuestionValue) → KeepsRules q → (need : Bool) → (need ≡ true → ¬ (q.goal ≡ [])) → document need (question_text q) (Ok q)
written_back q h need some =
    let (found, parsed, is) = table_read q h in
    let toml : toml_of (question_text q) ≡ Some found = rw (is_utf8-from_IsUtf8 (question_text q) (text_utf8 q h)) parsed in
    inr (found, rw toml refl, is_question q h found is need some)

none_mapped : {A B : Type 0} (f : A → B) (xs : List A) → map f xs ≡ [] → xs ≡ []
none_mapped f [] e = refl
none_mapped f (x ∷ xs) e = cc

-- bytes that are the text of the question
pub bytes_back : (q : Question) (bytes : List ℕ) → KeepsRules (plain_of q) → bytes ≡ question_text (plain_of q) → (need : Bool)
    → (need ≡ true → ¬ (q.goal.items ≡ [])) → document need bytes (Ok (plain_of q))
bytes_back q bytes h e need some =
    subst (λ (b : List ℕ). document need b (Ok (plain_of q))) (sym e)
    (written_back (plain_of q) h need (λ t none. some t (none_mapped term_of q.goal.items none)))
