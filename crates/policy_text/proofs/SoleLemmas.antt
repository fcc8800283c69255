-- A line adds one thing, lines lead to one run, and numbers in it are roles.
use Rattle.std.proofs.Common.{ℕ, ◌≡◌, ◌<◌, Bool, true, false, cond, List, [], ◌∷◌, ◌++◌, length, refl, arith, sym, ◌∙◌, ap, subst}
use Rattle.std.proofs.Common.{Some, None, map}
use Rattle.std.specs.Prelude.{nat_lt}
use Rattle.std.specs.List.{position_or_len}
use Rattle.std.specs.Str.{bytes_eq}
use Rattle.std.proofs.lemmas.Bool.Decides.{nat_tests}
use Rattle.role_order.specs.declared.range.Range.{Range}
use Rattle.list_words.specs.Lists.{Each}
use Rattle.arbac_policy.specs.declared.act.Act.{Act}
use Rattle.arbac_policy.specs.declared.rule.CanAssign.{CanAssign}
use Rattle.arbac_policy.specs.declared.rule.CanRevoke.{CanRevoke}
use Rattle.arbac_policy.specs.Truth.{Term, IsKnown}
use Rattle.arbac_policy.specs.Rules.{IsKnownRange, IsKnownAssign, IsKnownRevoke}
use Rattle.cond_text.specs.Words.{words, placed_words}
use Rattle.cond_text.proofs.CompleteLemmas.{one_term}
use Rattle.cond_text.proofs.LimitLemmas.{fine_term}
use Rattle.cond_text.specs.Ranges.{NamedRange}
use Rattle.policy_text.specs.LineForms.{LineForm, a_role, an_edge, an_assign, a_revoke, a_user, an_act, a_goal}
use Rattle.arbac_policy.specs.PlainRules.{AssignRule, plain_rule}
use Rattle.cond_text.specs.Named.{Names, NameEach, NamesRange, NamesSet, ReadsAs, set_of}
use Rattle.policy_text.specs.Runs.{RunValue, nothing, Extends, Adds, AddAll, AreKnownGoals, StandsFor}
use Rattle.list_words.proofs.GetLemmas.{same_some}
use Rattle.policy_text.proofs.StepLemmas.{zero_both}

role_one : (names : List (List ℕ)) (name : List ℕ) (a b : ℕ) → Names names name a → Names names name b → a ≡ b
role_one names name a b h k = same_some a b (sym h ∙ k)

range_one : (names : List (List ℕ)) (written : NamedRange) (a b : Range) → NamesRange names written a → NamesRange names written b → a ≡ b
range_one names written a b h k =
    ap (λ (low : ℕ). record { low = low; high = a.high; low_open = a.low_open; high_open = a.high_open })
    (role_one names written.low a.low b.low h.low k.low)
    ∙ ap (λ (high : ℕ). record { low = b.low; high = high; low_open = a.low_open; high_open = a.high_open })
    (role_one names written.high a.high b.high h.high k.high)
    ∙ ap (λ (low_open : Bool). record { low = b.low; high = b.high; low_open = low_open; high_open = a.high_open }) (sym h.low_open ∙ k.low_open)
    ∙ ap (λ (high_open : Bool). record { low = b.low; high = b.high; low_open = b.low_open; high_open = high_open }) (sym h.high_open ∙ k.high_open)

cond_one : (names : List (List ℕ)) (text : List ℕ) (a b : Term) → ReadsAs names text a → ReadsAs names text b → a ≡ b
cond_one names text a b h k = one_term (words names text) a b h.0 k.0

roles_one : (names wanted : List (List ℕ)) (a b : List ℕ) → NameEach names wanted a → NameEach names wanted b → a ≡ b
roles_one names [] a b h k = h ∙ sym k
roles_one names (word ∷ wanted) a b h k =
    h.4 ∙ ap (λ (r : ℕ). r ∷ h.1) (role_one names word h.0 k.0 h.2 k.2) ∙ ap (λ (r : List ℕ). k.0 ∷ r) (roles_one names wanted h.1 k.1 h.3 k.3)
    ∙ sym k.4

set_one : (names wanted : List (List ℕ)) (a b : List ℕ) → NamesSet names wanted a → NamesSet names wanted b → a ≡ b
set_one names wanted a b h k = h.set_is ∙ ap set_of (roles_one names wanted h.roles k.roles h.named k.named) ∙ sym k.set_is

-- what a line says is one thing
pub extends_one : (run a b : RunValue) (form : LineForm) → Extends run form a → Extends run form b → a ≡ b
extends_one run a b (a_role name) h k = h ∙ sym k
extends_one run a b (an_edge senior junior) h k =
    let same : h.0 ≡ k.0 =
    ap (λ (s : ℕ). (s, h.0.1)) (role_one run.names senior h.0.0 k.0.0 h.1 k.1)
    ∙ ap (λ (j : ℕ). (k.0.0, j)) (role_one run.names junior h.0.1 k.0.1 h.2 k.2) in
    h.3 ∙ ap (λ (e : ℕ × ℕ). record run { edges = run.edges ++ e ∷ [] }) same ∙ sym k.3
extends_one run a b (an_assign admin range condition) h k =
    let same : h.0 ≡ k.0 =
    ap (λ (n : ℕ). record { admin = n; cond = h.0.cond; range = h.0.range }) (role_one run.names admin h.0.admin k.0.admin h.1 k.1)
    ∙ ap (λ (t : Term). record { admin = k.0.admin; cond = t; range = h.0.range }) (cond_one run.names condition h.0.cond k.0.cond h.3 k.3)
    ∙ ap (λ (r : Range). record { admin = k.0.admin; cond = k.0.cond; range = r }) (range_one run.names range h.0.range k.0.range h.2 k.2) in
    h.4 ∙ ap (λ (e : AssignRule). record run { assign = run.assign ++ e ∷ [] }) same ∙ sym k.4
extends_one run a b (a_revoke admin range) h k =
    let same : h.0 ≡ k.0 =
    ap (λ (n : ℕ). record { admin = n; range = h.0.range }) (role_one run.names admin h.0.admin k.0.admin h.1 k.1)
    ∙ ap (λ (r : Range). record { admin = k.0.admin; range = r }) (range_one run.names range h.0.range k.0.range h.2 k.2) in
    h.3 ∙ ap (λ (e : CanRevoke). record run { revoke = run.revoke ++ e ∷ [] }) same ∙ sym k.3
extends_one run a b (a_user names) h k =
    h.2 ∙ ap (λ (e : List ℕ). record run { start = run.start ++ e ∷ [] }) (set_one run.names names h.0 k.0 h.1 k.1) ∙ sym k.2
extends_one run a b (an_act written) h k =
    let same : h.0 ≡ k.0 =
    ap (λ x. record { kind = x; admin = h.0.admin; target = h.0.target; role = h.0.role }) (h.1 ∙ sym k.1)
    ∙ ap (λ (x : ℕ). record { kind = k.0.kind; admin = x; target = h.0.target; role = h.0.role }) (h.2 ∙ sym k.2)
    ∙ ap (λ (x : ℕ). record { kind = k.0.kind; admin = k.0.admin; target = x; role = h.0.role }) (h.3 ∙ sym k.3)
    ∙ ap (λ (x : ℕ). record { kind = k.0.kind; admin = k.0.admin; target = k.0.target; role = x }) (role_one run.names written.role h.0.role k.0.role h.4 k.4) in
    h.5 ∙ ap (λ (e : Act). record run { acts = run.acts ++ e ∷ [] }) same ∙ sym k.5
extends_one run a b (a_goal condition) h k =
    h.2 ∙ ap (λ (e : Term). record run { goal = run.goal ++ e ∷ [] }) (cond_one run.names condition h.0 k.0 h.1 k.1) ∙ sym k.2

-- a name's role is one of as many as there are names
place_within : (names : List (List ℕ)) (name : List ℕ) (role : ℕ) → Names names name role → role < length names
place_within names name role h =
    by_test (position_or_len (λ other. bytes_eq other name) names) (nat_lt (position_or_len (λ other. bytes_eq other name) names) (length names)) refl h
  where
    by_test : (n : ℕ) (t : Bool) → nat_lt n (length names) ≡ t → cond t (Some n) None ≡ Some role → role < length names
    by_test n true t e =
        let same = same_some n role e in let less : n < length names = grind (arith, nat_tests) in subst (λ (k : ℕ). k < length names) same less
    by_test n false t e = absurd (cc)

-- each number of the rule is one of so many roles
pub record IsKnownRule (count : ℕ) (rule : AssignRule) : Type 0 where
  pub admin : rule.admin < count
  pub cond : IsKnown count rule.cond
  pub range : IsKnownRange count rule.range

pub record AreKnownRules (run : RunValue) : Type 0 where
  pub assign : Each (IsKnownRule (length run.names)) run.assign
  pub revoke : Each (IsKnownRevoke (length run.names)) run.revoke
  pub goal : AreKnownGoals run

each_more : {A : Type 0} (P : A → Type 0) (xs : List A) (x : A) → Each P xs → P x → Each P (xs ++ x ∷ [])
each_more P [] x each p = (p, tt)
each_more P (y ∷ ys) x each p = (each.0, each_more P ys x each.1 p)

each_none : {A : Type 0} (P : A → Type 0) (xs : List A) → length xs ≡ 0 → Each P xs
each_none P [] e = tt
each_none P (x ∷ xs) e = absurd (omega arith)

range_known : (names : List (List ℕ)) (written : NamedRange) (range : Range) → NamesRange names written range → IsKnownRange (length names) range
range_known names written range h = (place_within names written.low range.low h.low, place_within names written.high range.high h.high)

cond_known : (names : List (List ℕ)) (text : List ℕ) (term : Term) → ReadsAs names text term → IsKnown (length names) term
cond_known names text term h = (fine_term (length names) (placed_words names text) term h.0 h.1).0

known_more : (run next : RunValue) (form : LineForm) → AreKnownRules run → Adds run form next → AreKnownRules next
known_more run next (a_role name) known a =
    let assigns = zero_both (length run.assign) _ (zero_both (length run.edges) _ a.place).1 in
    let revokes = zero_both (length run.revoke) _ assigns.1 in
    let acts = zero_both (length run.acts) _ (zero_both (length run.start) _ revokes.1).1 in
    subst AreKnownRules (sym a.extends)
    (record { assign = each_none _ run.assign assigns.0; revoke = each_none _ run.revoke revokes.0; goal = each_none _ run.goal acts.1 })
known_more run next (an_edge senior junior) known a =
    subst AreKnownRules (sym a.extends.3) (record { assign = known.assign; revoke = known.revoke; goal = known.goal })
known_more run next (an_assign admin range condition) known a =
    let rule : IsKnownRule (length run.names) a.extends.0 = record {
      admin = place_within run.names admin a.extends.0.admin a.extends.1;
      cond = cond_known run.names condition a.extends.0.cond a.extends.3;
      range = range_known run.names range a.extends.0.range a.extends.2;
    } in
    subst AreKnownRules (sym a.extends.4)
    (record { assign = each_more (IsKnownRule (length run.names)) run.assign a.extends.0 known.assign rule; revoke = known.revoke; goal = known.goal })
known_more run next (a_revoke admin range) known a =
    let rule : IsKnownRevoke (length run.names) a.extends.0 = record {
      admin = place_within run.names admin a.extends.0.admin a.extends.1;
      range = range_known run.names range a.extends.0.range a.extends.2;
    } in
    subst AreKnownRules (sym a.extends.3)
    (record { assign = known.assign; revoke = each_more (IsKnownRevoke (length run.names)) run.revoke a.extends.0 known.revoke rule; goal = known.goal })
known_more run next (a_user names) known a =
    subst AreKnownRules (sym a.extends.2) (record { assign = known.assign; revoke = known.revoke; goal = known.goal })
known_more run next (an_act act) known a =
    subst AreKnownRules (sym a.extends.5) (record { assign = known.assign; revoke = known.revoke; goal = known.goal })
known_more run next (a_goal condition) known a =
    subst AreKnownRules (sym a.extends.2) (record {
      assign = known.assign;
      revoke = known.revoke;
      goal = each_more (IsKnown (length run.names)) run.goal a.extends.0 known.goal (cond_known run.names condition a.extends.0 a.extends.1);
    })

known_all : (run last : RunValue) (lines : List LineForm) → AreKnownRules run → AddAll run lines last → AreKnownRules last
known_all run last [] known a = subst AreKnownRules (sym a) known
known_all run last (line ∷ lines) known a = known_all a.0 last lines (known_more run a.0 line known a.1) a.2

-- the rules and goals that right lines tell name roles alone
pub known_nothing : (last : RunValue) (lines : List LineForm) → AddAll nothing lines last → AreKnownRules last
known_nothing last lines a = known_all nothing last lines (record { assign = tt; revoke = tt; goal = tt }) a

pub known_of : (bytes : List ℕ) (run : RunValue) → StandsFor bytes run → AreKnownGoals run
known_of bytes run h = (known_nothing run h.read.lines h.read.added).goal

pub each_plain : (count : ℕ) (rules : List CanAssign) → Each (IsKnownRule count) (map plain_rule rules) → Each (IsKnownAssign count) rules
each_plain count [] each = tt
each_plain count (rule ∷ rules) each = (record { admin = each.0.admin; cond = each.0.cond; range = each.0.range }, each_plain count rules each.1)
