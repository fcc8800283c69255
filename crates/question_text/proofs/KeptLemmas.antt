-- A document's question keeps the rules of questions.
use Rattle.std.proofs.Common.{ℕ, suc, ◌≡◌, ◌≤◌, ◌+◌, Bool, true, false, not, cond, List, [], ◌∷◌, length, Option, Some, None, Ok}
use Rattle.std.proofs.Common.{refl, sym, ap, subst, ◌∙◌, arith, inl, inr}
use Rattle.std.specs.Prelude.{codes, nat_lt, position, option_and_then, slice_get}
use Rattle.std.specs.List.{position_or_len}
use Rattle.std.specs.Str.{bytes_eq}
use Rattle.std.proofs.lemmas.Bool.{false≢true}
use Rattle.std.proofs.lemmas.Bool.Decides.{nat_tests}
use Rattle.std.proofs.lemmas.Slice.Eq.{bytes_eq-Decides}
use Rattle.toml.specs.Data.{Data, Members}
use Rattle.list_words.specs.Lists.{Each}
use Rattle.role_order.specs.Names.{place_of}
use Rattle.role_order.specs.Refusals.{IsOrder}
use Rattle.arbac_policy.specs.Rules.{IsKnownPair}
use Rattle.arbac_policy.specs.declared.TheConstants.{MOST_EDGES, MOST_RULES}
use Rattle.cond_text.proofs.OrderLemmas.{place_found}
use Rattle.question_text.specs.declared.TheConstants.{MOST_PAIRS}
use Rattle.question_text.specs.Outcomes.{Outcome}
use Rattle.question_text.specs.Values.{QuestionValue}
use Rattle.question_text.specs.Keys.{if_different, as_two_texts, of_kind}
use Rattle.question_text.specs.Roles.{role_named, is_order, admin_roles, both_roles, an_edge, a_pair, is_mixed, unless_mixed, not_mixed, role_edges}
use Rattle.question_text.specs.Roles.{exclusive_pairs, listed_roles}
use Rattle.question_text.specs.Tables.{is_mixed_rule}
use Rattle.question_text.specs.Documents.{HeadValue, RolesValue, RulesValue, the_roles, the_rules, question_of, question, document}
use Rattle.question_text.specs.Rules.{IsSet, IsPair, IsAssignRule, IsRevokeRule, AreApart, KeepsRules}
use Rattle.question_text.proofs.TableLaws.{IsApart, found_at, passed, within, role_kept, entries_kept, set_kept, assign_rules_kept, revoke_rules_kept}
use Rattle.question_text.proofs.TableLaws.{assign_rules_apart, revoke_rules_apart, profiles_kept, goal_kept}
use Rattle.question_text.proofs.OutcomeLemmas.{same_ok, no_ok_err}

-- where no item passes the test, each fails it
each_fails : {A : Type 0} (test : A → Bool) (xs : List A) → nat_lt (position_or_len test xs) (length xs) ≡ false → Each (λ x. test x ≡ false) xs
each_fails test [] none = tt
each_fails test (x ∷ xs) none = by_test (test x) refl none (λ later. each_fails test xs later)
  where
    by_test : (t : Bool) → test x ≡ t → nat_lt (cond (not t) (1 + position_or_len test xs) 0) (suc (length xs)) ≡ false
        → (nat_lt (position_or_len test xs) (length xs) ≡ false → Each (λ y. test y ≡ false) xs) → (test x ≡ false)
        × Each (λ y. test y ≡ false) xs
    by_test true t none later = absurd (grind (arith, nat_tests))
    by_test false t none later = (t, later (grind (arith, nat_tests)))

none_mixed : (admins path : List ℕ) (list : List (ℕ × ℕ)) → unless_mixed path (position (is_mixed admins) list) (Ok tt)
    → Each (λ roles. is_mixed admins roles ≡ false) list
none_mixed admins path list h = by_test (nat_lt (position_or_len (is_mixed admins) list) (length list)) refl h
  where
    by_test : (t : Bool) → nat_lt (position_or_len (is_mixed admins) list) (length list) ≡ t
        → unless_mixed path (cond t (Some (position_or_len (is_mixed admins) list)) None) (Ok tt) → Each (λ roles. is_mixed admins roles ≡ false) list
    by_test true t h = absurd (no_ok_err tt _ h)
    by_test false t h = each_fails (is_mixed admins) list t

apart_kept : (separate : Bool) (admins path : List ℕ) (list : List (ℕ × ℕ)) → not_mixed separate admins path list (Ok tt) → separate ≡ true
    → Each (λ roles. is_mixed admins roles ≡ false) list
apart_kept true admins path list h s = none_mixed admins path list h
apart_kept false admins path list h s = absurd (cc)

-- a list of pairs of roles that was read
pub record IsListed (most : ℕ) (P : ℕ × ℕ → Type 0) (separate : Bool) (admins : List ℕ) (list : List (ℕ × ℕ)) : Type 0 where
  pub few : length list ≤ most
  pub each : Each P list
  pub apart : separate ≡ true → Each (λ roles. is_mixed admins roles ≡ false) list

listed_kept : (most : ℕ) (read : List ℕ → Data → Outcome (ℕ × ℕ)) (P : ℕ × ℕ → Type 0) (separate : Bool) (admins key : List ℕ) (table : Members)
    (list : List (ℕ × ℕ))
    → ((path : List ℕ) (d : Data) (roles : ℕ × ℕ) → read path d (Ok roles) → P roles) → listed_roles most read separate admins key table (Ok list)
    → IsListed most P separate admins list
listed_kept most read P separate admins key table list each (inl (fault, h, e)) = absurd (no_ok_err list fault e)
listed_kept most read P separate admins key table list each (inr (ds, l, inl (fault, h, e))) = absurd (no_ok_err list fault e)
listed_kept most read P separate admins key table list each (inr (ds, l, inr (done, f, inl (fault, h, e)))) = absurd (no_ok_err list fault e)
listed_kept most read P separate admins key table list each (inr (ds, l, inr (done, f, inr (roles, r, inl (fault, h, e))))) = absurd (no_ok_err list fault e)
listed_kept most read P separate admins key table list each (inr (ds, l, inr (done, f, inr (roles, r, inr (over, a, e))))) =
    let kept = entries_kept P read each key ds roles r in
    let room : length ds ≤ most = within most (length ds) (passed (nat_lt most (length ds)) _ f) in
    let all : IsListed most P separate admins roles = record {
      few = omega
          (arith, kept.1, room);
      each = kept.0;
      apart = apart_kept separate admins key roles a;
    } in
    subst (IsListed most P separate admins) (same_ok roles list (sym e)) all

order_kept : (names : List (List ℕ)) (edges : List (ℕ × ℕ)) → is_order names edges (Ok tt) → IsOrder names edges
order_kept names edges (inl h) = h.0
order_kept names edges (inr h) = absurd (no_ok_err tt _ h.3)

-- edges that were read
pub record AreEdgesKept (separate : Bool) (admins : List ℕ) (names : List (List ℕ)) (edges : List (ℕ × ℕ)) : Type 0 where
  pub order : IsOrder names edges
  pub few : length edges ≤ MOST_EDGES
  pub apart : separate ≡ true → Each (λ edge. is_mixed admins edge ≡ false) edges

edges_kept : (separate : Bool) (admins : List ℕ) (names : List (List ℕ)) (table : Members) (edges : List (ℕ × ℕ))
    → role_edges separate admins names table (Ok edges) → AreEdgesKept separate admins names edges
edges_kept separate admins names table edges (inl (fault, h, e)) = absurd (no_ok_err edges fault e)
edges_kept separate admins names table edges (inr (list, l, inl (fault, h, e))) = absurd (no_ok_err edges fault e)
edges_kept separate admins names table edges (inr (list, l, inr (done, o, e))) =
    let listed = listed_kept MOST_EDGES (an_edge names) (λ edge. Unit {0}) separate admins (codes "edges") table list (λ path d edge h. tt) l in
    let all : AreEdgesKept separate admins names list = record { order = order_kept names list o; few = listed.few; apart = listed.apart } in
    subst (AreEdgesKept separate admins names) (same_ok list edges (sym e)) all

-- the set of administrative roles is one of the order's
admins_kept : (separate : Bool) (names : List (List ℕ)) (table : Members) (admins : List ℕ) → admin_roles separate names table (Ok admins)
    → IsSet (length names) admins
admins_kept separate names table admins (inl (fault, h, e)) = absurd (no_ok_err admins fault e)
admins_kept separate names table admins (inr (list, l, h)) = set_kept names (codes "admin_roles") list admins h

different_kept : (o : Option (List ℕ × List ℕ)) (path : List ℕ) (texts : List ℕ × List ℕ)
    → of_kind (option_and_then if_different o) path (Ok texts) → texts.0 ≡ texts.1 → ⊥
different_kept None path texts h same = no_ok_err texts _ h
different_kept (Some t) path texts h same = by_test (bytes_eq t.0 t.1) refl h
  where
    by_test : (b : Bool) → bytes_eq t.0 t.1 ≡ b → of_kind (cond b None (Some t)) path (Ok texts) → ⊥
    by_test true b h = no_ok_err texts _ h
    by_test false b h =
        let is = same_ok texts t h in
        let one : t.0 ≡ t.1 = subst (λ (u : List ℕ × List ℕ). u.0 ≡ u.1) is same in
        false≢true (sym b ∙ (bytes_eq-Decides t.0 t.1).1 one)

same_name : (names : List (List ℕ)) (path : List ℕ) (first second : List ℕ) (a b : ℕ) → role_named names path first (Ok a)
    → role_named names path second (Ok b) → a ≡ b → first ≡ second
same_name names path first second a b h k same =
    let x = place_found first names a (found_at path (place_of names first) a h) in
    let y = place_found second names b (found_at path (place_of names second) b k) in
    let z : Some first ≡ Some second = sym x ∙ ap (slice_get names) same ∙ y in
    cc

roles_kept : (names : List (List ℕ)) (path : List ℕ) (texts : List ℕ × List ℕ) (pair : ℕ × ℕ) → (texts.0 ≡ texts.1 → ⊥)
    → both_roles names path texts (Ok pair) → IsPair (length names) pair
roles_kept names path texts pair other (inl (fault, h, e)) = absurd (no_ok_err pair fault e)
roles_kept names path texts pair other (inr (first, f, inl (fault, h, e))) = absurd (no_ok_err pair fault e)
roles_kept names path texts pair other (inr (first, f, inr (second, s, e))) =
    let kept : IsPair (length names) (first, second) = record {
      known = (role_kept names path texts.0 first f, role_kept names path texts.1 second s);
      differ = λ same. other (same_name names path texts.0 texts.1 first second f s same);
    } in
    subst (IsPair (length names)) (same_ok (first, second) pair (sym e)) kept

pair_kept : (names : List (List ℕ)) (path : List ℕ) (d : Data) (pair : ℕ × ℕ) → a_pair names path d (Ok pair) → IsPair (length names) pair
pair_kept names path d pair (inl (fault, h, e)) = absurd (no_ok_err pair fault e)
pair_kept names path d pair (inr (texts, t, h)) = roles_kept names path texts pair (different_kept (as_two_texts d) path texts t) h

exclusive_kept : (version : ℕ) (separate : Bool) (admins : List ℕ) (names : List (List ℕ)) (table : Members) (pairs : List (ℕ × ℕ))
    → exclusive_pairs version separate admins names table (Ok pairs)
    → IsListed MOST_PAIRS (IsPair (length names)) separate admins pairs
exclusive_kept version separate admins names table pairs (inl (fault, h, e)) = absurd (no_ok_err pairs fault e)
exclusive_kept version separate admins names table pairs (inr (done, f, h)) =
    listed_kept MOST_PAIRS (a_pair names) (IsPair (length names)) separate admins (codes "exclusive") table pairs
    (λ path d pair k. pair_kept names path d pair k) h

each_known : (count : ℕ) (pairs : List (ℕ × ℕ)) → Each (IsPair count) pairs → Each (IsKnownPair count) pairs
each_known count [] each = tt
each_known count (pair ∷ pairs) each = (each.0.known, each_known count pairs each.1)

-- roles that were read, with their edges and pairs
pub record AreRolesKept (separate : Bool) (roles : RolesValue) : Type 0 where
  pub edges : AreEdgesKept separate roles.admins roles.names roles.edges
  pub admins : IsSet (length roles.names) roles.admins
  pub exclusive : IsListed MOST_PAIRS (IsPair (length roles.names)) separate roles.admins roles.exclusive
  pub known : Each (IsKnownPair (length roles.names)) roles.exclusive

pub the_roles_kept : (head : HeadValue) (table : Members) (roles : RolesValue) → the_roles head table (Ok roles) → AreRolesKept head.separate roles
the_roles_kept head table roles (inl (fault, h, e)) = absurd (no_ok_err roles fault e)
the_roles_kept head table roles (inr (names, n, inl (fault, h, e))) = absurd (no_ok_err roles fault e)
the_roles_kept head table roles (inr (names, n, inr (admins, a, inl (fault, h, e)))) = absurd (no_ok_err roles fault e)
the_roles_kept head table roles (inr (names, n, inr (admins, a, inr (edges, g, inl (fault, h, e))))) = absurd (no_ok_err roles fault e)
the_roles_kept head table roles (inr (names, n, inr (admins, a, inr (edges, g, inr (exclusive, x, e))))) =
    let parts : RolesValue = record { names = names; admins = admins; edges = edges; exclusive = exclusive } in
    let pairs = exclusive_kept head.version head.separate admins names table exclusive x in
    let kept : AreRolesKept head.separate parts = record {
      edges = edges_kept head.separate admins names table edges g;
      admins = admins_kept head.separate names table admins a;
      exclusive = pairs;
      known = each_known (length names) exclusive pairs.each;
    } in
    subst (AreRolesKept head.separate) (same_ok parts roles (sym e)) kept

-- rules that were read
pub record AreRulesKept (separate : Bool) (admins : List ℕ) (count : ℕ) (rules : RulesValue) : Type 0 where
  pub assign : (length rules.assign ≤ MOST_RULES) × Each (IsAssignRule count) rules.assign
  pub revoke : (length rules.revoke ≤ MOST_RULES) × Each (IsRevokeRule count) rules.revoke
  pub assignp : (length rules.assignp ≤ MOST_RULES) × Each (IsAssignRule count) rules.assignp
  pub revokep : (length rules.revokep ≤ MOST_RULES) × Each (IsRevokeRule count) rules.revokep
  pub assign_apart : separate ≡ true → Each (IsApart admins) rules.assign
  pub revoke_apart : separate ≡ true → Each (λ rule. is_mixed_rule admins rule.admin rule.range ≡ false) rules.revoke
  pub assignp_apart : separate ≡ true → Each (IsApart admins) rules.assignp
  pub revokep_apart : separate ≡ true → Each (λ rule. is_mixed_rule admins rule.admin rule.range ≡ false) rules.revokep

pub the_rules_kept : (separate : Bool) (admins : List ℕ) (names : List (List ℕ)) (table : Members) (rules : RulesValue)
    → the_rules separate admins names table (Ok rules) → AreRulesKept separate admins (length names) rules
the_rules_kept separate admins names table rules (inl (fault, h, e)) = absurd (no_ok_err rules fault e)
the_rules_kept separate admins names table rules (inr (assign, a, inl (fault, h, e))) = absurd (no_ok_err rules fault e)
the_rules_kept separate admins names table rules (inr (assign, a, inr (revoke, r, inl (fault, h, e)))) = absurd (no_ok_err rules fault e)
the_rules_kept separate admins names table rules (inr (assign, a, inr (revoke, r, inr (assignp, b, inl (fault, h, e))))) = absurd (no_ok_err rules fault e)
the_rules_kept separate admins names table rules (inr (assign, a, inr (revoke, r, inr (assignp, b, inr (revokep, s, e))))) =
    let parts : RulesValue = record { assign = assign; revoke = revoke; assignp = assignp; revokep = revokep } in
    let kept : AreRulesKept separate admins (length names) parts = record {
      assign = assign_rules_kept separate admins names table (codes "can_assign") assign a;
      revoke = revoke_rules_kept separate admins names table (codes "can_revoke") revoke r;
      assignp = assign_rules_kept separate admins names table (codes "can_assignp") assignp b;
      revokep = revoke_rules_kept separate admins names table (codes "can_revokep") revokep s;
      assign_apart = assign_rules_apart separate admins names table (codes "can_assign") assign a;
      revoke_apart = revoke_rules_apart separate admins names table (codes "can_revoke") revoke r;
      assignp_apart = assign_rules_apart separate admins names table (codes "can_assignp") assignp b;
      revokep_apart = revoke_rules_apart separate admins names table (codes "can_revokep") revokep s;
    } in
    subst (AreRulesKept separate admins (length names)) (same_ok parts rules (sym e)) kept

question_kept : (need_goal : Bool) (table : Members) (q : QuestionValue) → question need_goal table (Ok q) → KeepsRules q
question_kept need table q (inl (fault, h, e)) = absurd (no_ok_err q fault e)
question_kept need table q (inr (head, hd, inl (fault, h, e))) = absurd (no_ok_err q fault e)
question_kept need table q (inr (head, hd, inr (roles, ro, inl (fault, h, e)))) = absurd (no_ok_err q fault e)
question_kept need table q (inr (head, hd, inr (roles, ro, inr (rules, ru, inl (fault, h, e))))) = absurd (no_ok_err q fault e)
question_kept need table q (inr (head, hd, inr (roles, ro, inr (rules, ru, inr (profiles, p, inl (fault, h, e)))))) = absurd (no_ok_err q fault e)
question_kept need table q (inr (head, hd, inr (roles, ro, inr (rules, ru, inr (profiles, p, inr (goal, g, e)))))) =
    let roles_are = the_roles_kept head table roles ro in
    let rules_are = the_rules_kept head.separate roles.admins roles.names table rules ru in
    let goal_is = goal_kept need roles.names table goal g in
    let parts : QuestionValue = question_of head roles rules profiles goal in
    let apart : head.separate ≡ true → AreApart parts = λ is. record {
      edges = roles_are.edges.apart is;
      exclusive = roles_are.exclusive.apart is;
      assign = rules_are.assign_apart is;
      revoke = rules_are.revoke_apart is;
      assignp = rules_are.assignp_apart is;
      revokep = rules_are.revokep_apart is;
    } in
    let all : KeepsRules parts = record {
      order = roles_are.edges.order;
      edges = roles_are.edges.few;
      admins = roles_are.admins;
      exclusive = (roles_are.exclusive.few, roles_are.exclusive.each);
      assign = rules_are.assign;
      revoke = rules_are.revoke;
      assignp = rules_are.assignp;
      revokep = rules_are.revokep;
      profiles = profiles_kept roles.names table profiles p;
      goal = (goal_is.few, goal_is.conditions);
      narrow = goal_is.narrow;
      apart = apart;
    } in
    subst KeepsRules (same_ok parts q (sym e)) all

-- the question that bytes are keeps the rules
pub document_kept : (need_goal : Bool) (bytes : List ℕ) (q : QuestionValue) → document need_goal bytes (Ok q) → KeepsRules q
document_kept need bytes q (inl (fault, h, e)) = absurd (no_ok_err q fault e)
document_kept need bytes q (inr (table, t, h)) = question_kept need table q h
