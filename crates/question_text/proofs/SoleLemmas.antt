-- A document comes to one question or to one fault.
use Rattle.std.proofs.Common.{ℕ, ◌≡◌, Bool, true, false, List, [], ◌∷◌, Option, Some, None, Ok, Err, sym, ap, ◌∙◌, inl, inr}
use Rattle.std.specs.Prelude.{codes, position, length}
use Rattle.toml.specs.Data.{Data, Members, get_member, as_str, as_bool, as_table}
use Rattle.role_order.specs.declared.order.OrderError.{OrderError}
use Rattle.role_order.specs.Names.{place_of}
use Rattle.arbac_policy.specs.Truth.{Term}
use Rattle.arbac_rules.specs.Widths.{width, too_many}
use Rattle.cond_text.specs.declared.cond_error.CondError.{CondError}
use Rattle.cond_text.specs.Words.{words, placed_words}
use Rattle.cond_text.proofs.CompleteLemmas.{one_term}
use Rattle.cond_text.proofs.FaultLemmas.{one_fault}
use Rattle.cond_text.proofs.JudgeLemmas.{clash}
use Rattle.cond_text.specs.Ranges.{NamedRange, IsNamedRange, spell_range, range_in}
use Rattle.arbac_policy.specs.PlainRules.{AssignRule}
use Rattle.arbac_policy.specs.declared.TheConstants.{MOST_EDGES, MOST_RULES, MOST_GOALS}
use Rattle.cond_text.proofs.RangeLemmas.{range_found}
use Rattle.cond_text.proofs.OrderLemmas.{order_clash, refusal_one}
use Rattle.question_text.specs.declared.TheConstants.{MOST_PAIRS, MOST_PROFILES}
use Rattle.question_text.specs.Outcomes.{no_order, no_cond, Outcome}
use Rattle.question_text.specs.Keys.{toml_of, as_list, as_two_texts, as_two_different_texts, as_version, as_most, as_filled_list, must_be, required, may_be}
use Rattle.question_text.specs.Keys.{optional, of_kind, unless_unknown, first_unknown, knows_only, at_most, entries, key_of}
use Rattle.question_text.specs.Roles.{a_text, found, role_named, a_role, role_set, is_order, role_names, admin_list, admin_roles, both_roles, an_edge}
use Rattle.question_text.specs.Roles.{a_pair, is_mixed, unless_mixed, not_mixed, listed_roles, role_edges, exclusive_pairs}
use Rattle.question_text.specs.Tables.{a_condition, a_named_range, a_range, the_admin, the_condition, the_range, not_mixed_rule, not_wide, assign_parts}
use Rattle.question_text.specs.Tables.{assign_tests, an_assign_rule, revoke_parts, a_revoke_rule, tables, assign_rules, revoke_rules, a_profile, profiles}
use Rattle.question_text.specs.Tables.{a_goal_condition, unless_wide, not_wide_goal, a_goal, may_be_goal, the_goal}
use Rattle.question_text.specs.Documents.{known_keys, HeadValue, the_head, the_roles, the_rules, question, if_toml, document}
use Rattle.question_text.proofs.OutcomeLemmas.{Sole, sole_gives, sole_fails, sole_fails_if, sole_chain, sole_entries, sole_of_kind}

-- keys

sole_must_be : {A : Type 0} (kind : Data → Option A) (path : List ℕ) (d : Option Data) → Sole (must_be kind path d)
sole_must_be kind path None = sole_fails _
sole_must_be kind path (Some d) = sole_of_kind (kind d) path

sole_required : {A : Type 0} (kind : Data → Option A) (table : Members) (path key : List ℕ) → Sole (required kind table path key)
sole_required kind table path key = sole_must_be kind (key_of path key) (get_member key table)

sole_may_be : {A : Type 0} (kind : Data → Option A) (absent : A) (path : List ℕ) (d : Option Data) → Sole (may_be kind absent path d)
sole_may_be kind absent path None = sole_gives absent
sole_may_be kind absent path (Some d) = sole_of_kind (kind d) path

sole_optional : {A : Type 0} (kind : Data → Option A) (absent : A) (table : Members) (path key : List ℕ) → Sole (optional kind absent table path key)
sole_optional kind absent table path key = sole_may_be kind absent (key_of path key) (get_member key table)

sole_unless_unknown : (path : List ℕ) (key : Option (List ℕ)) → Sole (unless_unknown path key)
sole_unless_unknown path None = sole_gives tt
sole_unless_unknown path (Some key) = sole_fails _

sole_knows_only : (known : List (List ℕ)) (table : Members) (path : List ℕ) → Sole (knows_only known table path)
sole_knows_only known table path = sole_unless_unknown path (first_unknown known table)

sole_at_most : (most : ℕ) (path : List ℕ) (list : List Data) → Sole (at_most most path list)
sole_at_most most path list = sole_fails_if _ _

-- roles

sole_found : (path : List ℕ) (role : Option ℕ) → Sole (found path role)
sole_found path None = sole_fails _
sole_found path (Some role) = sole_gives role

sole_role_named : (names : List (List ℕ)) (path name : List ℕ) → Sole (role_named names path name)
sole_role_named names path name = sole_found path (place_of names name)

sole_a_role : (names : List (List ℕ)) (path : List ℕ) (d : Data) → Sole (a_role names path d)
sole_a_role names path d = sole_chain (of_kind (as_str d) path) (role_named names path) (sole_of_kind (as_str d) path) (sole_role_named names path)

sole_role_set : (names : List (List ℕ)) (path : List ℕ) (list : List Data) → Sole (role_set names path list)
sole_role_set names path list =
    sole_chain (entries (a_role names) path list) _ (sole_entries (a_role names) path list (sole_a_role names)) (λ roles. sole_gives _)

sole_is_order : (names : List (List ℕ)) (edges : List (ℕ × ℕ)) → Sole (is_order names edges)
sole_is_order names edges r s (inl h) (inl k) = h.1 ∙ sym k.1
sole_is_order names edges r s (inl h) (inr k) = absurd (order_clash names edges k.0 h.0 k.1 k.2)
sole_is_order names edges r s (inr h) (inl k) = absurd (order_clash names edges h.0 k.0 h.1 h.2)
sole_is_order names edges r s (inr h) (inr k) =
    h.3 ∙ ap (λ (e : OrderError). Err (no_order e)) (refusal_one names edges h.0 k.0 h.1 k.1 h.2 k.2) ∙ sym k.3

sole_role_names : (table : Members) → Sole (role_names table)
sole_role_names table =
    sole_chain (required as_list table [] (codes "roles")) _ (sole_required as_list table [] (codes "roles"))
    (λ list. sole_chain (entries a_text (codes "roles") list) _ (sole_entries a_text (codes "roles") list (λ path d. sole_of_kind (as_str d) path))
    (λ names. sole_chain (is_order names []) _ (sole_is_order names []) (λ done. sole_gives names)))

sole_admin_list : (separate : Bool) (table : Members) → Sole (admin_list separate table)
sole_admin_list true table = sole_required as_list table [] (codes "admin_roles")
sole_admin_list false table = sole_optional as_list [] table [] (codes "admin_roles")

sole_admin_roles : (separate : Bool) (names : List (List ℕ)) (table : Members) → Sole (admin_roles separate names table)
sole_admin_roles separate names table =
    sole_chain (admin_list separate table) (role_set names (codes "admin_roles")) (sole_admin_list separate table) (sole_role_set names (codes "admin_roles"))

sole_both_roles : (names : List (List ℕ)) (path : List ℕ) (texts : List ℕ × List ℕ) → Sole (both_roles names path texts)
sole_both_roles names path texts =
    sole_chain (role_named names path texts.0) _ (sole_role_named names path texts.0)
    (λ first. sole_chain (role_named names path texts.1) _ (sole_role_named names path texts.1) (λ second. sole_gives (first, second)))

sole_an_edge : (names : List (List ℕ)) (path : List ℕ) (d : Data) → Sole (an_edge names path d)
sole_an_edge names path d =
    sole_chain (of_kind (as_two_texts d) path) (both_roles names path) (sole_of_kind (as_two_texts d) path) (sole_both_roles names path)

sole_a_pair : (names : List (List ℕ)) (path : List ℕ) (d : Data) → Sole (a_pair names path d)
sole_a_pair names path d =
    sole_chain (of_kind (as_two_different_texts d) path) (both_roles names path) (sole_of_kind (as_two_different_texts d) path) (sole_both_roles names path)

sole_unless_mixed : (path : List ℕ) (place : Option ℕ) → Sole (unless_mixed path place)
sole_unless_mixed path None = sole_gives tt
sole_unless_mixed path (Some place) = sole_fails _

sole_not_mixed : (separate : Bool) (admins path : List ℕ) (list : List (ℕ × ℕ)) → Sole (not_mixed separate admins path list)
sole_not_mixed false admins path list = sole_gives tt
sole_not_mixed true admins path list = sole_unless_mixed path (position (is_mixed admins) list)

sole_listed : (most : ℕ) (read : List ℕ → Data → Outcome (ℕ × ℕ)) (separate : Bool) (admins key : List ℕ) (table : Members)
    → ((path : List ℕ) (d : Data) → Sole (read path d)) → Sole (listed_roles most read separate admins key table)
sole_listed most read separate admins key table each =
    sole_chain (optional as_list [] table [] key) _ (sole_optional as_list [] table [] key)
    (λ list. sole_chain (at_most most key list) _ (sole_at_most most key list)
    (λ few. sole_chain (entries read key list) _ (sole_entries read key list each)
    (λ roles. sole_chain (not_mixed separate admins key roles) _ (sole_not_mixed separate admins key roles) (λ apart. sole_gives roles))))

sole_role_edges : (separate : Bool) (admins : List ℕ) (names : List (List ℕ)) (table : Members) → Sole (role_edges separate admins names table)
sole_role_edges separate admins names table =
    sole_chain (listed_roles MOST_EDGES (an_edge names) separate admins (codes "edges") table) _
    (sole_listed MOST_EDGES (an_edge names) separate admins (codes "edges") table (sole_an_edge names))
    (λ edges. sole_chain (is_order names edges) _ (sole_is_order names edges) (λ done. sole_gives edges))

sole_exclusive_pairs : (version : ℕ) (separate : Bool) (admins : List ℕ) (names : List (List ℕ)) (table : Members)
    → Sole (exclusive_pairs version separate admins names table)
sole_exclusive_pairs version separate admins names table =
    sole_chain _ (λ fits. listed_roles MOST_PAIRS (a_pair names) separate admins (codes "exclusive") table) (sole_fails_if _ _)
    (λ fits. sole_listed MOST_PAIRS (a_pair names) separate admins (codes "exclusive") table (sole_a_pair names))

-- tables

sole_a_condition : (names : List (List ℕ)) (path text : List ℕ) → Sole (a_condition names path text)
sole_a_condition names path text r s (inl h) (inl k) = h.2 ∙ ap (λ (t : Term). Ok t) (one_term (words names text) h.0 k.0 h.1.0 k.1.0) ∙ sym k.2
sole_a_condition names path text r s (inl h) (inr k) = absurd (clash (length names) (length text) (placed_words names text) [] k.0 h.0 k.1 h.1.1 h.1.0)
sole_a_condition names path text r s (inr h) (inl k) = absurd (clash (length names) (length text) (placed_words names text) [] h.0 k.0 h.1 k.1.1 k.1.0)
sole_a_condition names path text r s (inr h) (inr k) =
    h.2 ∙ ap (λ (e : CondError). Err (no_cond path e)) (one_fault (length names) (length text) [] (placed_words names text) h.0 k.0 h.1 k.1) ∙ sym k.2

one_range : (a b : NamedRange) → IsNamedRange a → IsNamedRange b → spell_range a ≡ spell_range b → a ≡ b
one_range a b h k same = let e : Some a ≡ Some b = sym (range_found a h) ∙ ap range_in same ∙ range_found b k in cc

sole_a_named_range : (path text : List ℕ) → Sole (a_named_range path text)
sole_a_named_range path text r s (inl h) (inl k) = h.3 ∙ ap (λ (x : NamedRange). Ok x) (one_range h.0 k.0 h.1 k.1 (h.2 ∙ sym k.2)) ∙ sym k.3
sole_a_named_range path text r s (inl h) (inr k) = absurd (k.0 h.0 h.1 h.2)
sole_a_named_range path text r s (inr h) (inl k) = absurd (h.0 k.0 k.1 k.2)
sole_a_named_range path text r s (inr h) (inr k) = h.1 ∙ sym k.1

sole_a_range : (names : List (List ℕ)) (path text : List ℕ) → Sole (a_range names path text)
sole_a_range names path text =
    sole_chain (a_named_range path text) _ (sole_a_named_range path text)
    (λ range. sole_chain (role_named names path range.low) _ (sole_role_named names path range.low)
    (λ low. sole_chain (role_named names path range.high) _ (sole_role_named names path range.high) (λ high. sole_gives _)))

sole_the_admin : (names : List (List ℕ)) (rule : Members) (path : List ℕ) → Sole (the_admin names rule path)
sole_the_admin names rule path =
    sole_chain (required as_str rule path (codes "admin")) (role_named names (key_of path (codes "admin"))) (sole_required as_str rule path (codes "admin"))
    (sole_role_named names (key_of path (codes "admin")))

sole_the_condition : (names : List (List ℕ)) (rule : Members) (path : List ℕ) → Sole (the_condition names rule path)
sole_the_condition names rule path =
    sole_chain (required as_str rule path (codes "condition")) (a_condition names (key_of path (codes "condition")))
    (sole_required as_str rule path (codes "condition"))
    (sole_a_condition names (key_of path (codes "condition")))

sole_the_range : (names : List (List ℕ)) (rule : Members) (path : List ℕ) → Sole (the_range names rule path)
sole_the_range names rule path =
    sole_chain (required as_str rule path (codes "range")) (a_range names (key_of path (codes "range"))) (sole_required as_str rule path (codes "range"))
    (sole_a_range names (key_of path (codes "range")))

sole_assign_parts : (names : List (List ℕ)) (rule : Members) (path : List ℕ) → Sole (assign_parts names rule path)
sole_assign_parts names rule path =
    sole_chain (knows_only (codes "admin" ∷ (codes "condition" ∷ (codes "range" ∷ []))) rule path) _
    (sole_knows_only (codes "admin" ∷ (codes "condition" ∷ (codes "range" ∷ []))) rule path)
    (λ known. sole_chain (the_admin names rule path) _ (sole_the_admin names rule path)
    (λ admin. sole_chain (the_condition names rule path) _ (sole_the_condition names rule path)
    (λ cond. sole_chain (the_range names rule path) _ (sole_the_range names rule path) (λ range. sole_gives _))))

sole_assign_tests : (separate : Bool) (admins : List ℕ) (rule : AssignRule) (path : List ℕ) → Sole (assign_tests separate admins rule path)
sole_assign_tests separate admins rule path =
    sole_chain (not_wide rule.cond path) (λ narrow. not_mixed_rule separate admins rule.admin rule.range (Some rule.cond) path) (sole_fails_if _ _)
    (λ narrow. sole_fails_if _ _)

sole_assign : (separate : Bool) (admins : List ℕ) (names : List (List ℕ)) (path : List ℕ) (d : Data)
    → Sole (an_assign_rule separate admins names path d)
sole_assign separate admins names path d =
    sole_chain (of_kind (as_table d) path) _ (sole_of_kind (as_table d) path)
    (λ table. sole_chain (assign_parts names table path) _ (sole_assign_parts names table path)
    (λ rule. sole_chain (assign_tests separate admins rule path) _ (sole_assign_tests separate admins rule path) (λ passed. sole_gives rule)))

sole_revoke_parts : (names : List (List ℕ)) (rule : Members) (path : List ℕ) → Sole (revoke_parts names rule path)
sole_revoke_parts names rule path =
    sole_chain (knows_only (codes "admin" ∷ (codes "range" ∷ [])) rule path) _ (sole_knows_only (codes "admin" ∷ (codes "range" ∷ [])) rule path)
    (λ known. sole_chain (the_admin names rule path) _ (sole_the_admin names rule path)
    (λ admin. sole_chain (the_range names rule path) _ (sole_the_range names rule path) (λ range. sole_gives _)))

sole_revoke : (separate : Bool) (admins : List ℕ) (names : List (List ℕ)) (path : List ℕ) (d : Data) → Sole (a_revoke_rule separate admins names path d)
sole_revoke separate admins names path d =
    sole_chain (of_kind (as_table d) path) _ (sole_of_kind (as_table d) path)
    (λ table. sole_chain (revoke_parts names table path) _ (sole_revoke_parts names table path)
    (λ rule. sole_chain (not_mixed_rule separate admins rule.admin rule.range None path) _ (sole_fails_if _ _) (λ apart. sole_gives rule)))

sole_tables : {A : Type 0} (most : ℕ) (read : List ℕ → Data → Outcome A) (table : Members) (key : List ℕ)
    → ((path : List ℕ) (d : Data) → Sole (read path d)) → Sole (tables most read table key)
sole_tables most read table key each =
    sole_chain (optional as_list [] table [] key) _ (sole_optional as_list [] table [] key)
    (λ list. sole_chain (at_most most key list) (λ few. entries read key list) (sole_at_most most key list) (λ few. sole_entries read key list each))

sole_profile : (names : List (List ℕ)) (path : List ℕ) (d : Data) → Sole (a_profile names path d)
sole_profile names path d =
    sole_chain (of_kind (as_table d) path) _ (sole_of_kind (as_table d) path)
    (λ profile. sole_chain (knows_only (codes "roles" ∷ (codes "most" ∷ [])) profile path) _
    (sole_knows_only (codes "roles" ∷ (codes "most" ∷ [])) profile path)
    (λ known. sole_chain (required as_list profile path (codes "roles")) _ (sole_required as_list profile path (codes "roles"))
    (λ list. sole_chain (role_set names (key_of path (codes "roles")) list) _ (sole_role_set names (key_of path (codes "roles")) list)
    (λ set. sole_chain (optional as_most None profile path (codes "most")) _ (sole_optional as_most None profile path (codes "most"))
    (λ most. sole_gives _)))))

sole_goal_condition : (names : List (List ℕ)) (path : List ℕ) (d : Data) → Sole (a_goal_condition names path d)
sole_goal_condition names path d = sole_chain (of_kind (as_str d) path) (a_condition names path) (sole_of_kind (as_str d) path) (sole_a_condition names path)

sole_unless_wide : (count : Option ℕ) → Sole (unless_wide count)
sole_unless_wide None = sole_gives tt
sole_unless_wide (Some count) = sole_fails _

sole_a_goal : (names : List (List ℕ)) (d : Data) → Sole (a_goal names d)
sole_a_goal names d =
    sole_chain (of_kind (as_filled_list d) (codes "goal")) _ (sole_of_kind (as_filled_list d) (codes "goal"))
    (λ list. sole_chain (at_most MOST_GOALS (codes "goal") list) _ (sole_at_most MOST_GOALS (codes "goal") list)
    (λ few. sole_chain (entries (a_goal_condition names) (codes "goal") list) _
    (sole_entries (a_goal_condition names) (codes "goal") list (sole_goal_condition names))
    (λ conds. sole_chain (not_wide_goal conds) _ (sole_unless_wide (too_many conds)) (λ narrow. sole_gives conds))))

sole_may_be_goal : (need_goal : Bool) (names : List (List ℕ)) (d : Option Data) → Sole (may_be_goal need_goal names d)
sole_may_be_goal true names None = sole_fails _
sole_may_be_goal false names None = sole_gives []
sole_may_be_goal true names (Some d) = sole_a_goal names d
sole_may_be_goal false names (Some d) = sole_a_goal names d

sole_the_goal : (need_goal : Bool) (names : List (List ℕ)) (table : Members) → Sole (the_goal need_goal names table)
sole_the_goal need_goal names table = sole_may_be_goal need_goal names (get_member (codes "goal") table)

-- documents

sole_head : (table : Members) → Sole (the_head table)
sole_head table =
    sole_chain (knows_only known_keys table []) _ (sole_knows_only known_keys table [])
    (λ known. sole_chain (required as_version table [] (codes "version")) _ (sole_required as_version table [] (codes "version"))
    (λ version. sole_chain (required as_bool table [] (codes "separate")) _ (sole_required as_bool table [] (codes "separate")) (λ separate. sole_gives _)))

sole_roles : (head : HeadValue) (table : Members) → Sole (the_roles head table)
sole_roles head table =
    sole_chain (role_names table) _ (sole_role_names table)
    (λ names. sole_chain (admin_roles head.separate names table) _ (sole_admin_roles head.separate names table)
    (λ admins. sole_chain (role_edges head.separate admins names table) _ (sole_role_edges head.separate admins names table)
    (λ edges. sole_chain (exclusive_pairs head.version head.separate admins names table) _
    (sole_exclusive_pairs head.version head.separate admins names table) (λ exclusive. sole_gives _))))

sole_rules : (separate : Bool) (admins : List ℕ) (names : List (List ℕ)) (table : Members) → Sole (the_rules separate admins names table)
sole_rules separate admins names table =
    sole_chain (assign_rules separate admins names table (codes "can_assign")) _
    (sole_tables MOST_RULES _ table (codes "can_assign") (sole_assign separate admins names))
    (λ assign. sole_chain (revoke_rules separate admins names table (codes "can_revoke")) _
    (sole_tables MOST_RULES _ table (codes "can_revoke") (sole_revoke separate admins names))
    (λ revoke. sole_chain (assign_rules separate admins names table (codes "can_assignp")) _
    (sole_tables MOST_RULES _ table (codes "can_assignp") (sole_assign separate admins names))
    (λ assignp. sole_chain (revoke_rules separate admins names table (codes "can_revokep")) _
    (sole_tables MOST_RULES _ table (codes "can_revokep") (sole_revoke separate admins names)) (λ revokep. sole_gives _))))

sole_question : (need_goal : Bool) (table : Members) → Sole (question need_goal table)
sole_question need_goal table =
    sole_chain (the_head table) _ (sole_head table)
    (λ head. sole_chain (the_roles head table) _ (sole_roles head table)
    (λ roles. sole_chain (the_rules head.separate roles.admins roles.names table) _ (sole_rules head.separate roles.admins roles.names table)
    (λ rules. sole_chain (profiles roles.names table) _ (sole_tables MOST_PROFILES (a_profile roles.names) table (codes "profile") (sole_profile roles.names))
    (λ list. sole_chain (the_goal need_goal roles.names table) _ (sole_the_goal need_goal roles.names table) (λ goal. sole_gives _)))))

sole_if_toml : (table : Option Members) → Sole (if_toml table)
sole_if_toml None = sole_fails _
sole_if_toml (Some table) = sole_gives table

-- bytes are one question, or have one first fault
pub sole_document : (need_goal : Bool) (bytes : List ℕ) → Sole (document need_goal bytes)
sole_document need_goal bytes = sole_chain (if_toml (toml_of bytes)) (question need_goal) (sole_if_toml (toml_of bytes)) (sole_question need_goal)
