-- Outcomes that a part of the question's table has.
use Rattle.std.proofs.Common.{◌≡◌, ℕ, ◌+◌, ◌*◌, ◌<◌, ◌≤◌, Bool, true, false, cond, ◌&&◌, ◌||◌, List, [], ◌∷◌, length}
use Rattle.std.proofs.Common.{get_or, Option, Some, None, Ok, refl, sym, ap, ◌∙◌, subst, inr, arith, eqb}
use Rattle.std.specs.Prelude.{codes, map, not, position, nat_lt, fold}
use Rattle.std.specs.List.{prefix_len}
use Rattle.std.specs.Str.{bytes_eq}
use Rattle.std.proofs.lemmas.Bool.Decides.{nat_tests}
use Rattle.std.proofs.lemmas.Slice.Eq.{bytes_eq-Decides}
use Rattle.list_words.specs.Lists.{Each}
use Rattle.role_order.specs.Names.{place_of}
use Rattle.role_order.specs.Refusals.{AreNames}
use Rattle.role_order.specs.Roles.{has_role, with_role, Rises}
use Rattle.role_order.proofs.ClosureLemmas.{length_mapped}
use Rattle.role_order.proofs.SetLemmas.{has_role-with_role, rises-with_role, same_set}
use Rattle.list_words.proofs.EachLemmas.{each_weaker}
use Rattle.arbac_policy.specs.Truth.{Term, any, has, lacks, both, either}
use Rattle.arbac_policy.specs.Rules.{IsKnownPair}
use Rattle.arbac_rules.specs.Widths.{width, goal_width}
use Rattle.arbac_rules.specs.declared.TheConstants.{MOST_CONJUNCTS}
use Rattle.cond_text.specs.Named.{set_of}
use Rattle.toml.specs.Data.{Data, item, no_items, Members, get_member}
use Rattle.question_text.specs.Outcomes.{Fault, too_wide, Outcome, fails_if, in_turn}
use Rattle.question_text.specs.Keys.{as_list, required, optional, knows_only, first_unknown, at_most, entries, entry_of}
use Rattle.question_text.specs.Roles.{role_named, a_role, role_set, an_edge, a_pair, both_roles, is_mixed, not_mixed}
use Rattle.question_text.specs.Rules.{IsSet, IsPair}
use Rattle.question_text.specs.Tables.{not_wide_goal}
use Rattle.question_writer.proofs.BlockLemmas.{section_data, Entry, row_data}
use Rattle.question_writer.proofs.EntryLemmas.{role_data, pair_data}
use Rattle.question_writer.proofs.NamedLemmas.{is_named, each_below}
use Rattle.question_writer.proofs.BackTableLemmas.{list_or_none}
use Rattle.question_writer.proofs.ValueLemmas.{list_data, list_items, list_after}
use Rattle.arbac_rules.proofs.GoalWidthLemmas.{never_many}

pub is_known : (known : List (List ℕ)) (table : Members) (path : List ℕ) → first_unknown known table ≡ None → knows_only known table path (Ok tt)
is_known known table path e = rw e refl

-- a test that fails no one
pub holds_not : (t : Bool) (fault : Fault) → t ≡ false → fails_if t fault (Ok tt)
holds_not t fault e = rw e refl

pub is_required : {A : Type 0} (kind : Data → Option A) (table : Members) (path key : List ℕ) (d : Data) (value : A)
    → get_member key table ≡ Some d → kind d ≡ Some value → required kind table path key (Ok value)
is_required kind table path key d value e f = rw (e, f) refl

pub as_list_data : {A : Type 0} (view : A → Data) (xs : List A) → as_list (list_data view xs) ≡ Some (map view xs)
as_list_data view xs = ap Some (list_items (map view xs))

-- a list that may be absent
pub is_optional : {A : Type 0} (view : A → Data) (xs : List A) (table : Members) (path key : List ℕ) → get_member key table ≡ list_or_none view xs
    → optional as_list [] table path key (Ok (map view xs))
is_optional view [] table path key e = rw e refl
is_optional view (x ∷ xs) table path key e = rw e (ap Ok (sym (list_items (map view (x ∷ xs)))))

pub is_listed : {A : Type 0} (view : A → Data) (xs : List A) (table : Members) (path key : List ℕ)
    → get_member key table ≡ Some (list_data view xs) → optional as_list [] table path key (Ok (map view xs))
is_listed view xs table path key e = rw e (ap Ok (sym (list_items (map view xs))))

-- the rows of a list of tables
pub are_rows : (rows : List (List Entry)) (table : Members) (key : List ℕ) → get_member key table ≡ section_data rows
    → optional as_list [] table [] key (Ok (map row_data rows))
are_rows [] table key e = rw e refl
are_rows (row ∷ rows) table key e = rw e (ap Ok (sym (list_after (item (row_data row) no_items) (map row_data rows))))

pub are_few : {A : Type 0} (most : ℕ) (path : List ℕ) (view : A → Data) (xs : List A) → length xs ≤ most → at_most most path (map view xs) (Ok tt)
are_few most path view xs h =
    let same = length_mapped view xs in
    let test : nat_lt most (length (map view xs)) ≡ false = grind (arith, nat_tests) in
    rw test refl

-- entries one by one
pub are_entries : {A B : Type 0} (read : List ℕ → Data → Outcome B) (view : A → Data) (value : A → B) (path : List ℕ) (xs : List A)
    → Each (λ x. (at : List ℕ) → read at (view x) (Ok (value x))) xs → entries read path (map view xs) (Ok (map value xs))
are_entries {A} {B} read view value path xs h = from 0 xs h
  where
    from : (place : ℕ) (ys : List A) → Each (λ x. (at : List ℕ) → read at (view x) (Ok (value x))) ys
        → in_turn (λ at d. read (entry_of path at) d) place (map view ys) (Ok (map value ys))
    from place [] k = refl
    from place (y ∷ ys) k = inr (value y, k.0 (entry_of path place), inr (map value ys, from (place + 1) ys k.1, refl))

map_same : {A : Type 0} (xs : List A) → map (λ (x : A). x) xs ≡ xs
map_same [] = refl
map_same (x ∷ xs) = ap (λ l. x ∷ l) (map_same xs)

-- entries that are read as they are
pub are_read : {A : Type 0} (read : List ℕ → Data → Outcome A) (view : A → Data) (path : List ℕ) (xs : List A)
    → Each (λ x. (at : List ℕ) → read at (view x) (Ok x)) xs → entries read path (map view xs) (Ok xs)
are_read {A} read view path xs h =
    subst (λ (ys : List A). entries read path (map view xs) (Ok ys)) (map_same xs) (are_entries read view (λ x. x) path xs h)

-- ---- roles

module _ (names : List (List ℕ)) (ok : AreNames names) where
  pub is_role_named : (path : List ℕ) (role : ℕ) → role < length names → role_named names path (get_or names role []) (Ok role)
  is_role_named path role h = rw (is_named names ok role h).place refl

  pub is_a_role : (role : ℕ) → role < length names → (at : List ℕ) → a_role names at (role_data names role) (Ok role)
  is_a_role role h at = inr (get_or names role [], refl, is_role_named at role h)

  are_both : (pair : ℕ × ℕ) → IsKnownPair (length names) pair → (at : List ℕ)
      → both_roles names at (get_or names pair.0 [], get_or names pair.1 []) (Ok pair)
  are_both pair h at = inr (pair.0, is_role_named at pair.0 h.0, inr (pair.1, is_role_named at pair.1 h.1, refl))

  pub is_an_edge : (pair : ℕ × ℕ) → IsKnownPair (length names) pair → (at : List ℕ) → an_edge names at (pair_data names pair) (Ok pair)
  is_an_edge pair h at = inr ((get_or names pair.0 [], get_or names pair.1 []), refl, are_both pair h at)

  names_differ : (x y : ℕ) → x < length names → y < length names → ¬ (x ≡ y) → bytes_eq (get_or names x []) (get_or names y []) ≡ false
  names_differ x y hx hy apart = by_test (bytes_eq (get_or names x []) (get_or names y [])) refl
    where
      by_test : (t : Bool) → bytes_eq (get_or names x []) (get_or names y []) ≡ t → bytes_eq (get_or names x []) (get_or names y []) ≡ false
      by_test false e = e
      by_test true e =
          let same = (bytes_eq-Decides (get_or names x []) (get_or names y [])).0 e in
          let places : Some x ≡ Some y = sym (is_named names ok x hx).place ∙ ap (place_of names) same ∙ (is_named names ok y hy).place in
          let numbers : x ≡ y = cc in
          absurd (apart numbers)

  pub is_a_pair : (pair : ℕ × ℕ) → IsPair (length names) pair → (at : List ℕ) → a_pair names at (pair_data names pair) (Ok pair)
  is_a_pair pair h at =
      let apart = names_differ pair.0 pair.1 h.known.0 h.known.1 h.differ in
      inr ((get_or names pair.0 [], get_or names pair.1 []), rw apart refl, are_both pair h.known at)

has_role-fold : (acc xs : List ℕ) (q : ℕ) → has_role (fold with_role acc xs) q ≡ (has_role acc q || has_role xs q)
has_role-fold acc [] q = sym (or_false (has_role acc q))
  where
    or_false : (t : Bool) → (t || false) ≡ t
    or_false true = refl
    or_false false = refl
has_role-fold acc (x ∷ xs) q =
    has_role-fold (with_role acc x) xs q ∙ ap (λ t. t || has_role xs q) (has_role-with_role acc x q) ∙ regrouped (eqb x q) (has_role acc q) (has_role xs q)
  where
    regrouped : (t u v : Bool) → ((t || u) || v) ≡ (u || (t || v))
    regrouped true true v = refl
    regrouped true false v = refl
    regrouped false u v = refl

rises-fold : (acc xs : List ℕ) → Rises acc → Rises (fold with_role acc xs)
rises-fold acc [] h = h
rises-fold acc (x ∷ xs) h = rises-fold (with_role acc x) xs (rises-with_role acc x h)

-- a rising list is the set of its roles
pub set_itself : (set : List ℕ) → Rises set → set_of set ≡ set
set_itself set h = same_set (set_of set) set (rises-fold [] set tt) h (λ q. has_role-fold [] set q)

pub is_role_set : (names : List (List ℕ)) → AreNames names → (set : List ℕ) → IsSet (length names) set → (path : List ℕ)
    → role_set names path (map (role_data names) set) (Ok set)
is_role_set names ok set h path =
    let roles = are_read (a_role names) (role_data names) path set
    (each_weaker (λ role. role < length names) (λ role. (at : List ℕ) → a_role names at (role_data names role) (Ok role))
    (λ role below. is_a_role names ok role below) set (each_below (length names) set h.below)) in
    inr (set, roles, ap Ok (sym (set_itself set h.rises)))

none_mixed : (admins : List ℕ) (pairs : List (ℕ × ℕ)) → Each (λ pair. is_mixed admins pair ≡ false) pairs
    → position (is_mixed admins) pairs ≡ None
none_mixed admins pairs h =
    let whole = all_pass pairs h in
    let test : nat_lt (prefix_len (λ pair. not (is_mixed admins pair)) pairs) (length pairs) ≡ false = grind (arith, nat_tests) in
    rw test refl
  where
    all_pass : (pairs : List (ℕ × ℕ)) → Each (λ pair. is_mixed admins pair ≡ false) pairs
        → prefix_len (λ pair. not (is_mixed admins pair)) pairs ≡ length pairs
    all_pass [] h = refl
    all_pass (pair ∷ pairs) h = let rest = all_pass pairs h.1 in rw h.0 (omega arith)

pub are_not_mixed : (separate : Bool) (admins path : List ℕ) (pairs : List (ℕ × ℕ))
    → (separate ≡ true → Each (λ pair. is_mixed admins pair ≡ false) pairs) → not_mixed separate admins path pairs (Ok tt)
are_not_mixed false admins path pairs h = refl
are_not_mixed true admins path pairs h = rw (none_mixed admins pairs (h refl)) refl

-- a test that counts where administrative roles are kept apart
pub holds_apart : (separate t : Bool) (fault : Fault) → (separate ≡ true → t ≡ false) → fails_if (separate && t) fault (Ok tt)
holds_apart false t fault h = refl
holds_apart true t fault h = rw (h refl) refl

-- ---- widths

pub is_narrow : (most n : ℕ) (fault : Fault) → n ≤ most → fails_if (nat_lt most n) fault (Ok tt)
is_narrow most n fault h = let test : nat_lt most n ≡ false = grind (arith, nat_tests) in holds_not (nat_lt most n) fault test

-- a goal with few combinations passes
pub is_narrow_goal : (conds : List Term) → goal_width conds ≤ MOST_CONJUNCTS → not_wide_goal conds (Ok tt)
is_narrow_goal conds h = let none = never_many 1 conds (omega (h, arith)) in rw none refl
