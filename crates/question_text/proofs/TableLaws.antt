-- What rules, profiles and goals that were read keep.
use Rattle.std.proofs.Common.{ℕ, ◌≡◌, ◌<◌, ◌≤◌, ◌+◌, ◌*◌, ◌⊎◌, Bool, true, false, cond, List, [], ◌∷◌, length, fold}
use Rattle.std.proofs.Common.{Option, Some, None, Result, Ok, Err, map, refl, sym, subst, arith, inl, inr}
use Rattle.std.specs.Prelude.{nat_lt, nat_le, codes, ◌&&◌, ◌||◌, IfOk, Vec}
use Rattle.std.specs.declared.alloc.Global.{Global}
use Rattle.std.specs.Option.{option_and_then}
use Rattle.std.specs.List.{position_or_len}
use Rattle.std.specs.Str.{bytes_eq}
use Rattle.std.proofs.lemmas.Bool.Decides.{nat_tests}
use Rattle.std.proofs.lemmas.List.{length-map}
use Rattle.toml.specs.Data.{Data, Members, as_str, get_member}
use Rattle.role_order.specs.declared.range.Range.{Range}
use Rattle.list_words.specs.Lists.{Each}
use Rattle.role_order.specs.Names.{place_of}
use Rattle.role_order.specs.Roles.{IsIn, with_role}
use Rattle.role_order.proofs.SetLemmas.{rises-with_role}
use Rattle.arbac_laws.proofs.RoleLemmas.{with_cases}
use Rattle.arbac_policy.specs.declared.cond.Cond.{Cond}
use Rattle.arbac_policy.specs.declared.profile.Profile.{Profile}
use Rattle.arbac_policy.specs.Truth.{Term, term_of}
use Rattle.arbac_policy.specs.declared.rule.CanAssign.{CanAssign}
use Rattle.arbac_policy.specs.Rules.{IsKnownRange, IsKnownAssign, IsKnownRevoke}
use Rattle.cond_text.specs.declared.TheConstants.{MOST_TERMS}
use Rattle.cond_text.specs.Grammar.{term_count}
use Rattle.cond_text.specs.Words.{placed_words}
use Rattle.cond_text.proofs.LimitLemmas.{fine_term}
use Rattle.arbac_policy.specs.declared.rule.CanRevoke.{CanRevoke}
use Rattle.arbac_rules.specs.declared.TheConstants.{MOST_CONJUNCTS}
use Rattle.arbac_rules.specs.Widths.{width, goal_width, too_many}
use Rattle.arbac_policy.specs.declared.TheConstants.{MOST_RULES, MOST_GOALS}
use Rattle.arbac_policy.specs.PlainRules.{AssignRule, plain_rule}
use Rattle.cond_text.specs.Named.{set_of}
use Rattle.question_text.specs.declared.question_error.QuestionError.{QuestionError}
use Rattle.question_text.specs.Answers.{Answers}
use Rattle.question_text.specs.Outcomes.{Fault, no_cond, Outcome, fails_if, in_turn}
use Rattle.question_text.specs.declared.TheConstants.{MOST_PROFILES, MOST_OF_PROFILE}
use Rattle.question_text.specs.Keys.{entries, entry_of, of_kind, as_count, as_most, if_any, if_few, or_any, may_be, key_of}
use Rattle.question_text.specs.Roles.{found, role_named, a_role, role_set}
use Rattle.question_text.specs.Rules.{IsSet, IsCondition, IsAssignRule, IsRevokeRule, IsMost, IsProfile}
use Rattle.question_text.specs.Tables.{a_condition, a_range, the_admin, the_condition, the_range, is_mixed_rule, names_admin, assign_parts, assign_tests}
use Rattle.question_text.specs.Tables.{revoke_parts, an_assign_rule, a_revoke_rule, tables, assign_rules, revoke_rules, a_profile, profiles}
use Rattle.question_text.specs.Tables.{a_goal_condition, unless_wide, not_wide_goal, a_goal, may_be_goal, the_goal}
use Rattle.question_text.proofs.OutcomeLemmas.{same_ok, no_ok_err}
use Rattle.arbac_rules.proofs.GoalWidthLemmas.{few_combinations}

-- conditions

pub condition_kept : (names : List (List ℕ)) (path text : List ℕ) (term : Term) → a_condition names path text (Ok term)
    → IsCondition (length names) term
condition_kept names path text term (inl (t, h, e)) =
    let fine = fine_term (length names) (placed_words names text) t h.0 h.1 in
    let kept : IsCondition (length names) t = record { known = fine.0; few = fine.1 } in
    subst (λ (x : Term). IsCondition (length names) x) (same_ok t term (sym e)) kept
condition_kept names path text term (inr (error, h, e)) = absurd (no_ok_err term (no_cond path error) e)

-- ranges

pub found_at : (path : List ℕ) (o : Option ℕ) (role : ℕ) → found path o (Ok role) → o ≡ Some role
found_at path None role h = absurd (cc)
found_at path (Some place) role h = cc

-- the role of a name is one of as many as there are names
pub role_kept : (names : List (List ℕ)) (path name : List ℕ) (role : ℕ) → role_named names path name (Ok role) → role < length names
role_kept names path name role h =
    by_test (position_or_len (λ other. bytes_eq other name) names)
    (nat_lt (position_or_len (λ other. bytes_eq other name) names) (length names)) refl (found_at path (place_of names name) role h)
  where
    by_test : (n : ℕ) (t : Bool) → nat_lt n (length names) ≡ t → cond t (Some n) None ≡ Some role → role < length names
    by_test n true t e =
        let same : n ≡ role = cc in let less : n < length names = grind (arith, nat_tests) in subst (λ (k : ℕ). k < length names) same less
    by_test n false t e = absurd (cc)

pub range_kept : (names : List (List ℕ)) (path text : List ℕ) (range : Range) → a_range names path text (Ok range) → IsKnownRange (length names) range
range_kept names path text range (inl (fault, h, e)) = absurd (no_ok_err range fault e)
range_kept names path text range (inr (named, h, inl (fault, k, e))) = absurd (no_ok_err range fault e)
range_kept names path text range (inr (named, h, inr (low, k, inl (fault, l, e)))) = absurd (no_ok_err range fault e)
range_kept names path text range (inr (named, h, inr (low, k, inr (high, l, e)))) =
    let is : record { low = low; high = high; low_open = named.low_open; high_open = named.high_open } ≡ range = same_ok _ range (sym e) in
    subst (λ (x : Range). IsKnownRange (length names) x) is (role_kept names path named.low low k, role_kept names path named.high high l)

-- what each entry keeps, and that none is left out
turn_kept : {A B : Type 0} (P : B → Type 0) (read : ℕ → A → Outcome B) → ((place : ℕ) (x : A) (y : B) → read place x (Ok y) → P y)
    → (place : ℕ) (xs : List A) (ys : List B) → in_turn read place xs (Ok ys) → Each P ys × (length ys ≡ length xs)
turn_kept P read each place [] ys e = let none : [] ≡ ys = same_ok [] ys (sym e) in subst (λ (zs : List _). Each P zs × (length zs ≡ 0)) none (tt, refl)
turn_kept P read each place (x ∷ xs) ys (inl (fault, h, e)) = absurd (no_ok_err ys fault e)
turn_kept P read each place (x ∷ xs) ys (inr (y, h, inl (fault, k, e))) = absurd (no_ok_err ys fault e)
turn_kept P read each place (x ∷ xs) ys (inr (y, h, inr (more, k, e))) =
    let rest = turn_kept P read each (place + 1) xs more k in
    let is : y ∷ more ≡ ys = same_ok (y ∷ more) ys (sym e) in
    subst (λ (zs : List _). Each P zs × (length zs ≡ length (x ∷ xs))) is ((each place x y h, rest.0), omega (arith, rest.1))

pub entries_kept : {A : Type 0} (P : A → Type 0) (read : List ℕ → Data → Outcome A)
    → ((path : List ℕ) (d : Data) (y : A) → read path d (Ok y) → P y)
    → (path : List ℕ) (list : List Data) (ys : List A) → entries read path list (Ok ys) → Each P ys × (length ys ≡ length list)
entries_kept P read each path list ys h = turn_kept P (λ place d. read (entry_of path place) d) (λ place d y k. each (entry_of path place) d y k) 0 list ys h

pub passed : (test : Bool) (fault : Fault) → fails_if test fault (Ok tt) → test ≡ false
passed true fault h = absurd (no_ok_err tt fault h)
passed false fault h = refl

pub within : (most count : ℕ) → nat_lt most count ≡ false → count ≤ most
within most count h = grind (arith, nat_tests)

pub tables_kept : {A : Type 0} (P : A → Type 0) (most : ℕ) (read : List ℕ → Data → Outcome A)
    → ((path : List ℕ) (d : Data) (y : A) → read path d (Ok y) → P y)
    → (table : Members) (key : List ℕ) (ys : List A) → tables most read table key (Ok ys) → (length ys ≤ most) × Each P ys
tables_kept P most read each table key ys (inl (fault, h, e)) = absurd (no_ok_err ys fault e)
tables_kept P most read each table key ys (inr (list, h, inl (fault, k, e))) = absurd (no_ok_err ys fault e)
tables_kept P most read each table key ys (inr (list, h, inr (done, few, k))) =
    let kept = entries_kept P read each key list ys k in
    let room : length list ≤ most = within most (length list) (passed (nat_lt most (length list)) _ few) in
    (omega (arith, kept.1, room), kept.0)

-- rules

admin_kept : (names : List (List ℕ)) (rule : Members) (path : List ℕ) (admin : ℕ) → the_admin names rule path (Ok admin) → admin < length names
admin_kept names rule path admin (inl (fault, h, e)) = absurd (no_ok_err admin fault e)
admin_kept names rule path admin (inr (name, h, k)) = role_kept names _ name admin k

rule_condition_kept : (names : List (List ℕ)) (rule : Members) (path : List ℕ) (term : Term) → the_condition names rule path (Ok term)
    → IsCondition (length names) term
rule_condition_kept names rule path term (inl (fault, h, e)) = absurd (no_ok_err term fault e)
rule_condition_kept names rule path term (inr (text, h, k)) = condition_kept names _ text term k

rule_range_kept : (names : List (List ℕ)) (rule : Members) (path : List ℕ) (range : Range) → the_range names rule path (Ok range)
    → IsKnownRange (length names) range
rule_range_kept names rule path range (inl (fault, h, e)) = absurd (no_ok_err range fault e)
rule_range_kept names rule path range (inr (text, h, k)) = range_kept names _ text range k

apart_both : (separate mixed other : Bool) → (separate && (mixed || other)) ≡ false → separate ≡ true → (mixed ≡ false) × (other ≡ false)
apart_both true false false e s = (refl, refl)
apart_both true false true e s = absurd (cc)
apart_both true true other e s = absurd (cc)
apart_both false mixed other e s = absurd (cc)

-- a rule of `can_assign` stands apart from administrative roles where these are kept separate
abbrev pub IsApart : List ℕ → AssignRule → Type 0
IsApart admins rule = (is_mixed_rule admins rule.admin rule.range ≡ false) × (names_admin admins (Some rule.cond) ≡ false)

assign_parts_kept : (names : List (List ℕ)) (table : Members) (path : List ℕ) (rule : AssignRule) → assign_parts names table path (Ok rule)
    → (rule.admin < length names) × IsCondition (length names) rule.cond × IsKnownRange (length names) rule.range
assign_parts_kept names table path rule (inl (fault, h, e)) = absurd (no_ok_err rule fault e)
assign_parts_kept names table path rule (inr (known, k, inl (fault, h, e))) = absurd (no_ok_err rule fault e)
assign_parts_kept names table path rule (inr (known, k, inr (admin, a, inl (fault, h, e)))) = absurd (no_ok_err rule fault e)
assign_parts_kept names table path rule (inr (known, k, inr (admin, a, inr (cond, c, inl (fault, h, e))))) = absurd (no_ok_err rule fault e)
assign_parts_kept names table path rule (inr (known, k, inr (admin, a, inr (cond, c, inr (range, r, e))))) =
    let parts : AssignRule = record { admin = admin; cond = cond; range = range } in
    subst (λ (x : AssignRule). (x.admin < length names) × IsCondition (length names) x.cond × IsKnownRange (length names) x.range)
    (same_ok parts rule (sym e))
    (admin_kept names table path admin a, rule_condition_kept names table path cond c, rule_range_kept names table path range r)

assign_tests_kept : (separate : Bool) (admins : List ℕ) (rule : AssignRule) (path : List ℕ) → assign_tests separate admins rule path (Ok tt)
    → (width rule.cond ≤ MOST_CONJUNCTS) × (separate ≡ true → IsApart admins rule)
assign_tests_kept separate admins rule path (inl (fault, h, e)) = absurd (no_ok_err tt fault e)
assign_tests_kept separate admins rule path (inr (done, n, m)) = (
  within MOST_CONJUNCTS (width rule.cond) (passed (nat_lt MOST_CONJUNCTS (width rule.cond)) _ n),
  apart_both separate (is_mixed_rule admins rule.admin rule.range) (names_admin admins (Some rule.cond)) (passed _ _ m),
)

pub assign_rule_kept : (separate : Bool) (admins : List ℕ) (names : List (List ℕ)) (path : List ℕ) (d : Data) (rule : AssignRule)
    → an_assign_rule separate admins names path d (Ok rule)
    → IsAssignRule (length names) rule × (separate ≡ true → IsApart admins rule)
assign_rule_kept separate admins names path d rule (inl (fault, h, e)) = absurd (no_ok_err rule fault e)
assign_rule_kept separate admins names path d rule (inr (table, t, inl (fault, h, e))) = absurd (no_ok_err rule fault e)
assign_rule_kept separate admins names path d rule (inr (table, t, inr (parts, p, inl (fault, h, e)))) = absurd (no_ok_err rule fault e)
assign_rule_kept separate admins names path d rule (inr (table, t, inr (parts, p, inr (done, m, e)))) =
    let read = assign_parts_kept names table path parts p in
    let tested = assign_tests_kept separate admins parts path m in
    let kept : IsAssignRule (length names) parts = record { admin = read.0; cond = read.1; range = read.2; narrow = tested.0 } in
    subst (λ (x : AssignRule). IsAssignRule (length names) x × (separate ≡ true → IsApart admins x)) (same_ok parts rule (sym e)) (kept, tested.1)

revoke_parts_kept : (names : List (List ℕ)) (table : Members) (path : List ℕ) (rule : CanRevoke) → revoke_parts names table path (Ok rule)
    → IsRevokeRule (length names) rule
revoke_parts_kept names table path rule (inl (fault, h, e)) = absurd (no_ok_err rule fault e)
revoke_parts_kept names table path rule (inr (known, k, inl (fault, h, e))) = absurd (no_ok_err rule fault e)
revoke_parts_kept names table path rule (inr (known, k, inr (admin, a, inl (fault, h, e)))) = absurd (no_ok_err rule fault e)
revoke_parts_kept names table path rule (inr (known, k, inr (admin, a, inr (range, r, e)))) =
    let parts : CanRevoke = record { admin = admin; range = range } in
    let kept : IsRevokeRule (length names) parts = record { admin = admin_kept names table path admin a; range = rule_range_kept names table path range r } in
    subst (IsRevokeRule (length names)) (same_ok parts rule (sym e)) kept

pub revoke_rule_kept : (separate : Bool) (admins : List ℕ) (names : List (List ℕ)) (path : List ℕ) (d : Data) (rule : CanRevoke)
    → a_revoke_rule separate admins names path d (Ok rule)
    → IsRevokeRule (length names) rule × (separate ≡ true → is_mixed_rule admins rule.admin rule.range ≡ false)
revoke_rule_kept separate admins names path d rule (inl (fault, h, e)) = absurd (no_ok_err rule fault e)
revoke_rule_kept separate admins names path d rule (inr (table, t, inl (fault, h, e))) = absurd (no_ok_err rule fault e)
revoke_rule_kept separate admins names path d rule (inr (table, t, inr (parts, p, inl (fault, h, e)))) = absurd (no_ok_err rule fault e)
revoke_rule_kept separate admins names path d rule (inr (table, t, inr (parts, p, inr (over, m, e)))) =
    let apart : separate ≡ true
    → is_mixed_rule admins parts.admin parts.range ≡ false = λ s. (apart_both separate (is_mixed_rule admins parts.admin parts.range) false
    (passed _ _ m) s).0 in
    subst (λ (x : CanRevoke). IsRevokeRule (length names) x × (separate ≡ true → is_mixed_rule admins x.admin x.range ≡ false))
    (same_ok parts rule (sym e)) (revoke_parts_kept names table path parts p, apart)

-- the rules of a list keep the rules of a question
pub assign_rules_kept : (separate : Bool) (admins : List ℕ) (names : List (List ℕ)) (table : Members) (key : List ℕ) (rules : List AssignRule)
    → assign_rules separate admins names table key (Ok rules) → (length rules ≤ MOST_RULES) × Each (IsAssignRule (length names)) rules
assign_rules_kept separate admins names table key rules h =
    tables_kept (IsAssignRule (length names)) MOST_RULES (an_assign_rule separate admins names)
    (λ path d rule k. (assign_rule_kept separate admins names path d rule k).0) table key rules h

pub revoke_rules_kept : (separate : Bool) (admins : List ℕ) (names : List (List ℕ)) (table : Members) (key : List ℕ) (rules : List CanRevoke)
    → revoke_rules separate admins names table key (Ok rules) → (length rules ≤ MOST_RULES) × Each (IsRevokeRule (length names)) rules
revoke_rules_kept separate admins names table key rules h =
    tables_kept (IsRevokeRule (length names)) MOST_RULES (a_revoke_rule separate admins names)
    (λ path d rule k. (revoke_rule_kept separate admins names path d rule k).0) table key rules h

-- where administrative roles are kept separate, none of the rules is mixed
pub assign_rules_apart : (separate : Bool) (admins : List ℕ) (names : List (List ℕ)) (table : Members) (key : List ℕ) (rules : List AssignRule)
    → assign_rules separate admins names table key (Ok rules) → separate ≡ true
    → Each (λ rule. (is_mixed_rule admins rule.admin rule.range ≡ false) × (names_admin admins (Some rule.cond) ≡ false)) rules
assign_rules_apart separate admins names table key rules h s =
    (tables_kept (IsApart admins) MOST_RULES (an_assign_rule separate admins names)
    (λ path d rule k. (assign_rule_kept separate admins names path d rule k).1 s) table key rules h).1

pub revoke_rules_apart : (separate : Bool) (admins : List ℕ) (names : List (List ℕ)) (table : Members) (key : List ℕ) (rules : List CanRevoke)
    → revoke_rules separate admins names table key (Ok rules) → separate ≡ true
    → Each (λ rule. is_mixed_rule admins rule.admin rule.range ≡ false) rules
revoke_rules_apart separate admins names table key rules h s =
    (tables_kept (λ rule. is_mixed_rule admins rule.admin rule.range ≡ false) MOST_RULES (a_revoke_rule separate admins names)
    (λ path d rule k. (revoke_rule_kept separate admins names path d rule k).1 s) table key rules h).1

pub each_known : (count : ℕ) (rules : List CanAssign) → Each (IsAssignRule count) (map plain_rule rules) → Each (IsKnownAssign count) rules
each_known count [] each = tt
each_known count (rule ∷ rules) each = (record { admin = each.0.admin; cond = each.0.cond.known; range = each.0.range }, each_known count rules each.1)

pub each_revoke_known : (count : ℕ) (rules : List CanRevoke) → Each (IsRevokeRule count) rules → Each (IsKnownRevoke count) rules
each_revoke_known count [] each = tt
each_revoke_known count (rule ∷ rules) each = (record { admin = each.0.admin; range = each.0.range }, each_revoke_known count rules each.1)

-- rules that were read are known, and few
pub assigns_known : (separate : Bool) (admins : List ℕ) (names : List (List ℕ)) (table : Members) (key : List ℕ)
    (result : Result (Vec CanAssign Global) QuestionError)
    → Answers (λ rules. map plain_rule rules.items) (assign_rules separate admins names table key) result
    → IfOk result (λ rules. Each (IsKnownAssign (length names)) rules.items)
assigns_known separate admins names table key (Ok rules) h =
    each_known (length names) rules.items (assign_rules_kept separate admins names table key (map plain_rule rules.items) h).1
assigns_known separate admins names table key (Err error) h = tt

pub assigns_few : (separate : Bool) (admins : List ℕ) (names : List (List ℕ)) (table : Members) (key : List ℕ)
    (result : Result (Vec CanAssign Global) QuestionError)
    → Answers (λ rules. map plain_rule rules.items) (assign_rules separate admins names table key) result
    → IfOk result (λ rules. length rules.items ≤ MOST_RULES)
assigns_few separate admins names table key (Ok rules) h =
    omega (arith, length-map rules.items plain_rule, (assign_rules_kept separate admins names table key (map plain_rule rules.items) h).0)
assigns_few separate admins names table key (Err error) h = tt

pub revokes_known : (separate : Bool) (admins : List ℕ) (names : List (List ℕ)) (table : Members) (key : List ℕ)
    (result : Result (Vec CanRevoke Global) QuestionError)
    → Answers (λ rules. rules.items) (revoke_rules separate admins names table key) result
    → IfOk result (λ rules. Each (IsKnownRevoke (length names)) rules.items)
revokes_known separate admins names table key (Ok rules) h =
    each_revoke_known (length names) rules.items (revoke_rules_kept separate admins names table key rules.items h).1
revokes_known separate admins names table key (Err error) h = tt

pub revokes_few : (separate : Bool) (admins : List ℕ) (names : List (List ℕ)) (table : Members) (key : List ℕ)
    (result : Result (Vec CanRevoke Global) QuestionError)
    → Answers (λ rules. rules.items) (revoke_rules separate admins names table key) result → IfOk result (λ rules. length rules.items ≤ MOST_RULES)
revokes_few separate admins names table key (Ok rules) h = (revoke_rules_kept separate admins names table key rules.items h).0
revokes_few separate admins names table key (Err error) h = tt

-- profiles

pub kind_at : {A : Type 0} (kind : Option A) (path : List ℕ) (value : A) → of_kind kind path (Ok value) → kind ≡ Some value
kind_at None path value h = absurd (cc)
kind_at (Some x) path value h = cc

most_any : (text : Option (List ℕ)) (most : Option ℕ) → option_and_then if_any text ≡ Some most → IsMost most
most_any None most e = absurd (cc)
most_any (Some text) most e = by_test (bytes_eq text (codes "any")) most e
  where
    by_test : (t : Bool) (most : Option ℕ) → cond t (Some None) None ≡ Some most → IsMost most
    by_test true most e = let is : None ≡ most = cc in subst IsMost is tt
    by_test false most e = absurd (cc)

most_few : (n : ℕ) (most : Option ℕ) → if_few n ≡ Some most → IsMost most
most_few n most e = by_test (nat_le n MOST_OF_PROFILE) refl e
  where
    by_test : (t : Bool) → nat_le n MOST_OF_PROFILE ≡ t → cond t (Some (Some n)) None ≡ Some most → IsMost most
    by_test true t e = let is : Some n ≡ most = cc in let few : n ≤ MOST_OF_PROFILE = grind (arith, nat_tests) in subst IsMost is few
    by_test false t e = absurd (cc)

most_kept : (count : Option ℕ) (d : Data) (most : Option ℕ) → or_any count d ≡ Some most → IsMost most
most_kept None d most e = most_any (as_str d) most e
most_kept (Some n) d most e = most_few n most e

may_be_most : (path : List ℕ) (d : Option Data) (most : Option ℕ) → may_be as_most None path d (Ok most) → IsMost most
may_be_most path None most e = subst IsMost (same_ok None most (sym e)) tt
may_be_most path (Some d) most h = most_kept (as_count d) d most (kind_at (as_most d) path most h)

a_role_kept : (names : List (List ℕ)) (path : List ℕ) (d : Data) (role : ℕ) → a_role names path d (Ok role) → role < length names
a_role_kept names path d role (inl (fault, h, e)) = absurd (no_ok_err role fault e)
a_role_kept names path d role (inr (name, h, k)) = role_kept names path name role k

with_kept : (count : ℕ) (set : List ℕ) (role : ℕ) → IsSet count set → role < count → IsSet count (with_role set role)
with_kept count set role kept l = record {
  rises = rises-with_role set role kept.rises;
  below = λ other h. by_case other (with_cases set role other h);
}
  where
    by_case : (other : ℕ) → (role ≡ other) ⊎ IsIn set other → other < count
    by_case other (inl same) = subst (λ (r : ℕ). r < count) same l
    by_case other (inr there) = kept.below other there

fold_kept : (count : ℕ) (set roles : List ℕ) → IsSet count set → Each (λ role. role < count) roles → IsSet count (fold with_role set roles)
fold_kept count set [] kept each = kept
fold_kept count set (role ∷ roles) kept each = fold_kept count (with_role set role) roles (with_kept count set role kept each.0) each.1

-- the roles of a list are a set of the order's
pub set_kept : (names : List (List ℕ)) (path : List ℕ) (list : List Data) (set : List ℕ) → role_set names path list (Ok set)
    → IsSet (length names) set
set_kept names path list set (inl (fault, h, e)) = absurd (no_ok_err set fault e)
set_kept names path list set (inr (roles, h, e)) =
    let each = (entries_kept (λ role. role < length names) (a_role names) (λ place d role k. a_role_kept names place d role k) path list roles h).0 in
    let none : IsSet (length names) [] = record { rises = tt; below = λ role there. absurd (cc) } in
    subst (λ (x : List ℕ). IsSet (length names) x) (same_ok (set_of roles) set (sym e)) (fold_kept (length names) [] roles none each)

profile_kept : (names : List (List ℕ)) (path : List ℕ) (d : Data) (profile : Profile) → a_profile names path d (Ok profile)
    → IsProfile (length names) profile
profile_kept names path d profile (inl (fault, h, e)) = absurd (no_ok_err profile fault e)
profile_kept names path d profile (inr (table, t, inl (fault, h, e))) = absurd (no_ok_err profile fault e)
profile_kept names path d profile (inr (table, t, inr (known, k, inl (fault, h, e)))) = absurd (no_ok_err profile fault e)
profile_kept names path d profile (inr (table, t, inr (known, k, inr (list, l, inl (fault, h, e))))) = absurd (no_ok_err profile fault e)
profile_kept names path d profile (inr (table, t, inr (known, k, inr (list, l, inr (set, s, inl (fault, h, e)))))) = absurd (no_ok_err profile fault e)
profile_kept names path d profile (inr (table, t, inr (known, k, inr (list, l, inr (set, s, inr (most, m, e)))))) =
    let parts : Profile = record { set = set; most = most } in
    let kept : IsProfile (length names) parts = record {
      set = set_kept names (key_of path (codes "roles")) list set s;
      most = may_be_most (key_of path (codes "most")) (get_member (codes "most") table) most m;
    } in
    subst (λ (x : Profile). IsProfile (length names) x) (same_ok parts profile (sym e)) kept

pub profiles_kept : (names : List (List ℕ)) (table : Members) (list : List Profile) → profiles names table (Ok list)
    → (length list ≤ MOST_PROFILES) × Each (IsProfile (length names)) list
profiles_kept names table list h =
    tables_kept (IsProfile (length names)) MOST_PROFILES (a_profile names) (λ path d profile k. profile_kept names path d profile k) table
    (codes "profile") list h

-- goals

goal_condition_kept : (names : List (List ℕ)) (path : List ℕ) (d : Data) (term : Term) → a_goal_condition names path d (Ok term)
    → IsCondition (length names) term
goal_condition_kept names path d term (inl (fault, h, e)) = absurd (no_ok_err term fault e)
goal_condition_kept names path d term (inr (text, h, k)) = condition_kept names path text term k

few_each : (count : ℕ) (conds : List Cond) → Each (IsCondition count) (map term_of conds) → Each (λ cond. term_count (term_of cond) ≤ MOST_TERMS) conds
few_each count [] each = tt
few_each count (cond ∷ conds) each = (each.0.few, few_each count conds each.1)

pub conditions_few : (names : List (List ℕ)) (list : List Data) (conds : List Cond) → entries (a_goal_condition names) (codes "goal") list
    (Ok (map term_of conds))
    → Each (λ cond. term_count (term_of cond) ≤ MOST_TERMS) conds
conditions_few names list conds h =
    few_each (length names) conds
    (entries_kept (IsCondition (length names)) (a_goal_condition names) (λ path d term k. goal_condition_kept names path d term k)
    (codes "goal") list (map term_of conds) h).0

never_wide : (count : Option ℕ) → unless_wide count (Ok tt) → count ≡ None
never_wide None h = refl
never_wide (Some count) h = absurd (no_ok_err tt _ h)

-- where no count was told, the combinations of all conditions are not too many
narrow_kept : (conds : List Term) → not_wide_goal conds (Ok tt) → goal_width conds ≤ MOST_CONJUNCTS
narrow_kept conds h = let few = few_combinations 1 conds (omega arith) (never_wide (too_many conds) h) in omega (few, arith)

-- a goal that was read has few conditions, each known and of few terms, and few combinations
pub record IsGoal (count : ℕ) (goal : List Term) : Type 0 where
  pub few : length goal ≤ MOST_GOALS
  pub conditions : Each (IsCondition count) goal
  pub narrow : goal_width goal ≤ MOST_CONJUNCTS

there_kept : (names : List (List ℕ)) (d : Data) (goal : List Term) → a_goal names d (Ok goal) → IsGoal (length names) goal
there_kept names d goal (inl (fault, h, e)) = absurd (no_ok_err goal fault e)
there_kept names d goal (inr (list, l, inl (fault, h, e))) = absurd (no_ok_err goal fault e)
there_kept names d goal (inr (list, l, inr (done, f, inl (fault, h, e)))) = absurd (no_ok_err goal fault e)
there_kept names d goal (inr (list, l, inr (done, f, inr (conds, k, inl (fault, h, e))))) = absurd (no_ok_err goal fault e)
there_kept names d goal (inr (list, l, inr (done, f, inr (conds, k, inr (over, n, e))))) =
    let kept = entries_kept (IsCondition (length names)) (a_goal_condition names) (λ path x term c. goal_condition_kept names path x term c)
    (codes "goal") list conds k in
    let room : length list ≤ MOST_GOALS = within MOST_GOALS (length list) (passed (nat_lt MOST_GOALS (length list)) _ f) in
    let narrow = narrow_kept conds n in
    let all : IsGoal (length names) conds = record { few = omega (arith, kept.1, room); conditions = kept.0; narrow = omega (arith, narrow) } in
    subst (IsGoal (length names)) (same_ok conds goal (sym e)) all

no_goal : (count : ℕ) → IsGoal count []
no_goal count = record { few = omega arith; conditions = tt; narrow = omega arith }

may_be_kept : (need : Bool) (names : List (List ℕ)) (d : Option Data) (goal : List Term) → may_be_goal need names d (Ok goal) → IsGoal (length names) goal
may_be_kept true names None goal e = absurd (no_ok_err goal _ e)
may_be_kept false names None goal e = subst (IsGoal (length names)) (same_ok [] goal (sym e)) (no_goal (length names))
may_be_kept true names (Some d) goal h = there_kept names d goal h
may_be_kept false names (Some d) goal h = there_kept names d goal h

pub goal_kept : (need : Bool) (names : List (List ℕ)) (table : Members) (goal : List Term) → the_goal need names table (Ok goal)
    → IsGoal (length names) goal
goal_kept need names table goal h = may_be_kept need names (get_member (codes "goal") table) goal h

pub goal_known : (names : List (List ℕ)) (d : Data) (result : Result (Vec Cond Global) QuestionError)
    → Answers (λ conds. map term_of conds.items) (a_goal names d) result
    → IfOk result (λ conds. Each (IsCondition (length names)) (map term_of conds.items))
goal_known names d (Ok conds) h = (there_kept names d (map term_of conds.items) h).conditions
goal_known names d (Err error) h = tt
