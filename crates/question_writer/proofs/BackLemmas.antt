-- Rules, profiles and the goal are read back from the tables that they are written as.
use Rattle.std.proofs.Common.{◌≡◌, ℕ, ◌≤◌, Bool, true, false, cond, ◌||◌, List, [], ◌∷◌, length, get_or, Option, Some, None, Ok, refl}
use Rattle.std.proofs.Common.{sym, ap, subst, inl, inr, arith, pos}
use Rattle.std.specs.Prelude.{codes, map, nat_le}
use Rattle.std.proofs.lemmas.Bool.Decides.{nat_tests}
use Rattle.std.proofs.lemmas.Option.{none-some}
use Rattle.role_order.specs.declared.range.Range.{Range}
use Rattle.role_order.specs.Graph.{AreAcyclic}
use Rattle.list_words.specs.Lists.{Each}
use Rattle.role_order.specs.Refusals.{AreNames, IsOrder}
use Rattle.list_words.proofs.EachLemmas.{each_weaker}
use Rattle.arbac_policy.specs.declared.rule.CanRevoke.{CanRevoke}
use Rattle.arbac_policy.specs.declared.profile.Profile.{Profile}
use Rattle.arbac_policy.specs.Truth.{Term}
use Rattle.arbac_policy.specs.Rules.{IsKnownRange}
use Rattle.arbac_rules.specs.Widths.{width, goal_width}
use Rattle.arbac_rules.specs.declared.TheConstants.{MOST_CONJUNCTS}
use Rattle.cond_text.specs.Printing.{text_of}
use Rattle.cond_text.proofs.PrintLemmas.{stands_of, back_of}
use Rattle.arbac_policy.specs.declared.TheConstants.{MOST_RULES, MOST_GOALS}
use Rattle.cond_text.specs.Ranges.{spell_range}
use Rattle.arbac_policy.specs.PlainRules.{AssignRule}
use Rattle.cond_text.specs.Named.{ReadsAs}
use Rattle.toml.specs.Data.{Data, integer, Members, get_member}
use Rattle.toml.specs.Tables.{at_key, along_dots}
use Rattle.question_text.specs.declared.TheConstants.{MOST_PROFILES, MOST_OF_PROFILE}
use Rattle.question_text.specs.Outcomes.{mixed_role, too_wide, Outcome}
use Rattle.question_text.specs.Keys.{key_of, optional, as_list, as_version, as_most}
use Rattle.question_text.specs.Tables.{tables, a_condition, a_range, is_mixed_rule, names_admin, an_assign_rule, a_revoke_rule, assign_rules, revoke_rules}
use Rattle.question_text.specs.Tables.{a_profile, profiles, a_goal_condition, a_goal, the_goal}
use Rattle.question_text.specs.Rules.{IsCondition, IsAssignRule, IsRevokeRule, IsMost, IsProfile}
use Rattle.question_writer.specs.Texts.{named}
use Rattle.question_writer.proofs.BlockLemmas.{Entry, row_data, section_data}
use Rattle.question_writer.proofs.EntryLemmas.{role_data, condition_data, most_data, version_number, assign_row, revoke_row, profile_row}
use Rattle.question_writer.proofs.NamedLemmas.{is_named}
use Rattle.question_writer.proofs.BackPartLemmas.{holds_apart, are_rows, are_few, are_read, is_role_named, is_role_set, is_narrow, is_narrow_goal}
use Rattle.question_writer.proofs.BackTableLemmas.{list_or_none}
use Rattle.question_writer.proofs.ValueLemmas.{list_data, list_items}

pub no_edges : (names : List (List ℕ)) → AreNames names → IsOrder names []
no_edges names ok = record { are_names = ok; ends = tt; acyclic = none }
  where
    none : AreAcyclic []
    none place edge e back = none-some edge e

pub is_version : (pairs : List (ℕ × ℕ)) → as_version (integer (pos (version_number pairs))) ≡ Some (version_number pairs)
is_version [] = refl
is_version (pair ∷ pairs) = refl

map_map : {A B C : Type 0} (f : B → C) (g : A → B) (xs : List A) → map f (map g xs) ≡ map (λ x. f (g x)) xs
map_map f g [] = refl
map_map f g (x ∷ xs) = ap (λ l. f (g x) ∷ l) (map_map f g xs)

-- a list of tables, each read alike
are_tables : {A : Type 0} (most : ℕ) (read : List ℕ → Data → Outcome A) (row : A → List Entry) (xs : List A) (found : Members) (key : List ℕ)
    → get_member key found ≡ section_data (map row xs) → length xs ≤ most → Each (λ x. (at : List ℕ) → read at (row_data (row x)) (Ok x)) xs
    → tables most read found key (Ok xs)
are_tables {A} most read row xs found key e few h =
    let view : A → Data = λ x. row_data (row x) in
    let list = subst (λ (ds : List Data). optional as_list [] found [] key (Ok ds)) (map_map row_data row xs) (are_rows (map row xs) found key e) in
    inr (map view xs, list, inr (tt, are_few most key view xs few, are_read read view key xs h))

-- a fact of each item, and another one where the test passes
each_with : {A : Type 0} (test : Bool) (P Q R : A → Type 0) (xs : List A) → ((x : A) → P x → (test ≡ true → Q x) → R x) → Each P xs
    → (test ≡ true → Each Q xs) → Each R xs
each_with test P Q R [] both h k = tt
each_with test P Q R (x ∷ xs) both h k = (both x h.0 (λ e. (k e).0), each_with test P Q R xs both h.1 (λ e. (k e).1))

-- ---- one rule, one profile, one condition

module _ (names : List (List ℕ)) (ok : AreNames names) where
  says : (cond : Term) → IsCondition (length names) cond → ReadsAs names (text_of names cond) cond
  says cond h = (stands_of names cond (text_of names cond) ok h.known refl, back_of names cond (text_of names cond) ok h.known refl h.few)

  is_condition : (cond : Term) → IsCondition (length names) cond → (at : List ℕ) → a_condition names at (text_of names cond) (Ok cond)
  is_condition cond h at = inl (cond, says cond h, refl)

  is_range : (range : Range) → IsKnownRange (length names) range → (at : List ℕ) → a_range names at (spell_range (named names range)) (Ok range)
  is_range range h at =
      let low = is_named names ok range.low h.0 in
      let high = is_named names ok range.high h.1 in
      let is_low = is_role_named names ok at range.low h.0 in
      let is_high = is_role_named names ok at range.high h.1 in
      inr (named names range, inl (named names range, (low.name, high.name), refl, refl), inr (range.low, is_low, inr (range.high, is_high, refl)))

  module _ (separate : Bool) (admins : List ℕ) where
    is_assign_rule : (rule : AssignRule) → IsAssignRule (length names) rule
        → (separate ≡ true → (is_mixed_rule admins rule.admin rule.range ≡ false) × (names_admin admins (Some rule.cond) ≡ false))
        → (at : List ℕ) → an_assign_rule separate admins names at (row_data (assign_row names rule)) (Ok rule)
    unfolding at_key along_dots
    is_assign_rule rule h apart at =
        let admin = is_role_named names ok (key_of at (codes "admin")) rule.admin h.admin in
        let cond = is_condition rule.cond h.cond (key_of at (codes "condition")) in
        let range = is_range rule.range h.range (key_of at (codes "range")) in
        let narrow = is_narrow MOST_CONJUNCTS (width rule.cond) (too_wide at (width rule.cond)) h.narrow in
        let unmixed = holds_apart separate (is_mixed_rule admins rule.admin rule.range || names_admin admins (Some rule.cond)) (mixed_role at)
        (λ e. neither _ _ (apart e)) in
        let name = get_or names rule.admin [] in
        let text = text_of names rule.cond in
        let ends = spell_range (named names rule.range) in
        inr (
          _,
          refl,
          inr (
            rule,
            inr (
              tt,
              refl,
              inr (
                rule.admin,
                inr (name, refl, admin),
                inr (rule.cond, inr (text, refl, cond), inr (rule.range, inr (ends, refl, range), refl)),
              ),
            ),
            inr (tt, inr (tt, narrow, unmixed), refl),
          ),
        )
      where
        neither : (a b : Bool) → (a ≡ false) × (b ≡ false) → (a || b) ≡ false
        neither a b e = rw (e.0, e.1) refl

    is_revoke_rule : (rule : CanRevoke) → IsRevokeRule (length names) rule → (separate ≡ true → is_mixed_rule admins rule.admin rule.range ≡ false)
        → (at : List ℕ) → a_revoke_rule separate admins names at (row_data (revoke_row names rule)) (Ok rule)
    unfolding at_key along_dots
    is_revoke_rule rule h apart at =
        let admin = is_role_named names ok (key_of at (codes "admin")) rule.admin h.admin in
        let range = is_range rule.range h.range (key_of at (codes "range")) in
        let unmixed = holds_apart separate (is_mixed_rule admins rule.admin rule.range || names_admin admins None) (mixed_role at) (λ e. alone _ (apart e)) in
        let name = get_or names rule.admin [] in
        let ends = spell_range (named names rule.range) in
        inr (
          _,
          refl,
          inr (
            rule,
            inr (tt, refl, inr (rule.admin, inr (name, refl, admin), inr (rule.range, inr (ends, refl, range), refl))),
            inr (tt, unmixed, refl),
          ),
        )
      where
        alone : (a : Bool) → a ≡ false → (a || false) ≡ false
        alone a e = rw e refl

    pub are_assign_rules : (found : Members) (key : List ℕ) (rules : List AssignRule) → get_member key found ≡ section_data (map (assign_row names) rules)
        → (length rules ≤ MOST_RULES) × Each (IsAssignRule (length names)) rules
        → (separate ≡ true → Each (λ rule. (is_mixed_rule admins rule.admin rule.range ≡ false)
        × (names_admin admins (Some rule.cond) ≡ false)) rules)
        → assign_rules separate admins names found key (Ok rules)
    are_assign_rules found key rules e h apart =
        are_tables MOST_RULES (an_assign_rule separate admins names) (assign_row names) rules found key e h.0
        (each_with separate (IsAssignRule (length names)) (λ rule. (is_mixed_rule admins rule.admin rule.range ≡ false)
        × (names_admin admins (Some rule.cond) ≡ false))
        (λ rule. (at : List ℕ) → an_assign_rule separate admins names at (row_data (assign_row names rule)) (Ok rule)) rules is_assign_rule h.1 apart)

    pub are_revoke_rules : (found : Members) (key : List ℕ) (rules : List CanRevoke) → get_member key found ≡ section_data (map (revoke_row names) rules)
        → (length rules ≤ MOST_RULES) × Each (IsRevokeRule (length names)) rules
        → (separate ≡ true → Each (λ rule. is_mixed_rule admins rule.admin rule.range ≡ false) rules)
        → revoke_rules separate admins names found key (Ok rules)
    are_revoke_rules found key rules e h apart =
        are_tables MOST_RULES (a_revoke_rule separate admins names) (revoke_row names) rules found key e h.0
        (each_with separate (IsRevokeRule (length names)) (λ rule. is_mixed_rule admins rule.admin rule.range ≡ false)
        (λ rule. (at : List ℕ) → a_revoke_rule separate admins names at (row_data (revoke_row names rule)) (Ok rule)) rules is_revoke_rule h.1 apart)

  is_most : (most : Option ℕ) → IsMost most → as_most (most_data most) ≡ Some most
  is_most None h = refl
  is_most (Some most) h = let test : nat_le most MOST_OF_PROFILE ≡ true = grind (arith, nat_tests) in rw test refl

  is_profile : (profile : Profile) → IsProfile (length names) profile → (at : List ℕ) → a_profile names at (row_data (profile_row names profile))
      (Ok profile)
  unfolding at_key along_dots
  is_profile profile h at =
      let roles : List Data = map (role_data names) profile.set in
      let list = ap Ok (sym (list_items roles)) in
      let set = is_role_set names ok profile.set h.set (key_of at (codes "roles")) in
      inr (_, refl, inr (tt, refl, inr (roles, list, inr (profile.set, set, inr (profile.most, rw (is_most profile.most h.most) refl, refl)))))

  pub are_profiles : (found : Members) (list : List Profile) → get_member (codes "profile") found ≡ section_data (map (profile_row names) list)
      → (length list ≤ MOST_PROFILES) × Each (IsProfile (length names)) list
      → profiles names found (Ok list)
  are_profiles found list e h =
      are_tables MOST_PROFILES (a_profile names) (profile_row names) list found (codes "profile") e h.0
      (each_weaker (IsProfile (length names)) (λ profile. (at : List ℕ) → a_profile names at (row_data (profile_row names profile))
      (Ok profile)) is_profile list h.1)

  -- ---- the goal

  is_goal_condition : (cond : Term) → IsCondition (length names) cond → (at : List ℕ) → a_goal_condition names at (condition_data names cond) (Ok cond)
  is_goal_condition cond h at = inr (text_of names cond, refl, is_condition cond h at)

  is_goal : (cond : Term) (conds : List Term) → (length (cond ∷ conds) ≤ MOST_GOALS) × Each (IsCondition (length names)) (cond ∷ conds)
      → goal_width (cond ∷ conds) ≤ MOST_CONJUNCTS
      → a_goal names (list_data (condition_data names) (cond ∷ conds)) (Ok (cond ∷ conds))
  is_goal cond conds h narrow =
      let goal : List Term = cond ∷ conds in
      let texts : List Data = map (condition_data names) goal in
      let list = ap Ok (sym (list_items texts)) in
      let few = are_few MOST_GOALS (codes "goal") (condition_data names) goal h.0 in
      let read = are_read (a_goal_condition names) (condition_data names) (codes "goal") goal
      (each_weaker (IsCondition (length names))
      (λ t. (at : List ℕ) → a_goal_condition names at (condition_data names t) (Ok t)) is_goal_condition goal h.1) in
      inr (texts, list, inr (tt, few, inr (goal, read, inr (tt, is_narrow_goal goal narrow, refl))))

  pub is_the_goal : (need : Bool) (found : Members) (goal : List Term) → get_member (codes "goal") found ≡ list_or_none (condition_data names) goal
      → (need ≡ true → ¬ (goal ≡ []))
      → (length goal ≤ MOST_GOALS) × Each (IsCondition (length names)) goal → goal_width goal ≤ MOST_CONJUNCTS → the_goal need names found (Ok goal)
  is_the_goal true found [] e some h narrow = absurd (some refl refl)
  is_the_goal false found [] e some h narrow = rw e refl
  is_the_goal true found (cond ∷ conds) e some h narrow = rw e (is_goal cond conds h narrow)
  is_the_goal false found (cond ∷ conds) e some h narrow = rw e (is_goal cond conds h narrow)
