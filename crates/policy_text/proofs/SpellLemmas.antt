-- What is read as a form is a line that the form spells.
use Rattle.std.proofs.Common.{ℕ, ◌≡◌, Bool, true, false, List, [], ◌∷◌, ◌++◌, append_assoc, refl, sym, ◌∙◌, ap, subst, Option, Some}
use Rattle.std.proofs.Common.{None, eqb, cond}
use Rattle.std.specs.Prelude.{codes}
use Rattle.std.specs.Str.{IsUtf8, is_utf8, bytes_eq}
use Rattle.std.proofs.lemmas.Bool.{eqb-true}
use Rattle.std.proofs.lemmas.Slice.Eq.{bytes_eq-Decides}
use Rattle.std.proofs.lemmas.Str.{IsUtf8-from_is_utf8}
use Rattle.list_words.specs.Lists.{Each}
use Rattle.role_order.specs.Names.{is_name}
use Rattle.policy_text.specs.declared.line.Keyword.{Keyword}
use Rattle.policy_text.specs.declared.line.Keyword.TheVariants as k
use Rattle.cond_text.specs.Cuts.{cut, IsName, only_if, name_in}
use Rattle.cond_text.specs.Ranges.{spell_range, range_in}
use Rattle.text_lines.specs.Acts.{act_in}
use Rattle.policy_text.specs.LineForms.{LineForm, a_role, an_edge, an_assign, a_revoke, a_user, an_act, a_goal, IsWellFormed, spell, spell_names}
use Rattle.policy_text.specs.Spelling.{text_in, role_in, edge_in, assign_in, revoke_in, user_in, words, in_first, names_behind, act_line_in}
use Rattle.policy_text.specs.Spelling.{goal_in, keyword_in, form_with, form_by, form_of}
use Rattle.cond_text.proofs.CutLemmas.{step_of, only_is, cut_is}
use Rattle.cond_text.proofs.NamedLemmas.{named}
use Rattle.cond_text.proofs.RangeLemmas.{ranged}
use Rattle.text_lines.proofs.WordLemmas.{pick}
use Rattle.text_lines.proofs.ActLemmas.{act_is}
use Rattle.list_words.proofs.EachLemmas.{each_append}
use Rattle.list_words.proofs.GetLemmas.{same_some}

a_text : (text found : List ℕ) → text_in text ≡ Some found → IsUtf8 found × (found ≡ text)
unfolding text_in
a_text text found e = let o = only_is (is_utf8 text) text found e in (subst IsUtf8 o.1 (IsUtf8-from_is_utf8 text o.0), sym o.1)

-- the form is one, and the line is its spelling
abbrev Spells : List ℕ → LineForm → Type 0
Spells line form = IsWellFormed form × (spell form ≡ line)

role_is : (rest : List ℕ) (form : LineForm) → role_in rest ≡ Some form → Spells (codes "role " ++ rest) form
unfolding role_in spell
role_is rest form e =
    let name = step_of (name_in rest) _ form e in
    let n = named rest name.0 name.1 in
    let same : a_role name.0 ≡ form = cc in
    subst (Spells (codes "role " ++ rest)) same (n.0, ap (λ t. codes "role " ++ t) n.1)

edge_is : (rest : List ℕ) (form : LineForm) → edge_in rest ≡ Some form → Spells (codes "edge " ++ rest) form
unfolding edge_in spell
edge_is rest form e =
    let words = step_of (cut 32 rest) _ form e in
    let senior = step_of (name_in words.0.0) _ form words.2 in
    let junior = step_of (name_in words.0.1) _ form senior.2 in
    let s = named words.0.0 senior.0 senior.1 in
    let j = named words.0.1 junior.0 junior.1 in
    let same = same_some (an_edge senior.0 junior.0) form junior.2 in
    subst (Spells (codes "edge " ++ rest)) same (
      (s.0, j.0),
      ap (λ t. codes "edge " ++ (t ++ (32 ∷ junior.0))) s.1 ∙ ap (λ t. codes "edge " ++ (words.0.0 ++ (32 ∷ t))) j.1
          ∙ ap (λ t. codes "edge " ++ t) (cut_is 32 rest words.0 words.1),
    )

assign_is : (rest : List ℕ) (form : LineForm) → assign_in rest ≡ Some form → Spells (codes "assign " ++ rest) form
unfolding assign_in spell
assign_is rest form e =
    let first = step_of (cut 32 rest) _ form e in
    let admin = step_of (name_in first.0.0) _ form first.2 in
    let second = step_of (cut 32 first.0.1) _ form admin.2 in
    let range = step_of (range_in second.0.0) _ form second.2 in
    let condition = step_of (text_in second.0.1) _ form range.2 in
    let a = named first.0.0 admin.0 admin.1 in
    let r = ranged second.0.0 range.0 range.1 in
    let c = a_text second.0.1 condition.0 condition.1 in
    let same = same_some (an_assign admin.0 range.0 condition.0) form condition.2 in
    subst (Spells (codes "assign " ++ rest)) same (
      (a.0, r.0, c.0),
      ap (λ t. codes "assign " ++ (t ++ (32 ∷ (spell_range range.0 ++ (32 ∷ condition.0))))) a.1
          ∙ ap (λ t. codes "assign " ++ (first.0.0 ++ (32 ∷ (t ++ (32 ∷ condition.0))))) r.1
          ∙ ap (λ t. codes "assign " ++ (first.0.0 ++ (32 ∷ (second.0.0 ++ (32 ∷ t))))) c.1
          ∙ ap (λ t. codes "assign " ++ (first.0.0 ++ (32 ∷ t))) (cut_is 32 first.0.1 second.0 second.1)
          ∙ ap (λ t. codes "assign " ++ t) (cut_is 32 rest first.0 first.1),
    )

revoke_is : (rest : List ℕ) (form : LineForm) → revoke_in rest ≡ Some form → Spells (codes "revoke " ++ rest) form
unfolding revoke_in spell
revoke_is rest form e =
    let first = step_of (cut 32 rest) _ form e in
    let admin = step_of (name_in first.0.0) _ form first.2 in
    let range = step_of (range_in first.0.1) _ form admin.2 in
    let a = named first.0.0 admin.0 admin.1 in
    let r = ranged first.0.1 range.0 range.1 in
    let same = same_some (a_revoke admin.0 range.0) form range.2 in
    subst (Spells (codes "revoke " ++ rest)) same (
      (a.0, r.0),
      ap (λ t. codes "revoke " ++ (t ++ (32 ∷ spell_range range.0))) a.1 ∙ ap (λ t. codes "revoke " ++ (first.0.0 ++ (32 ∷ t))) r.1
          ∙ ap (λ t. codes "revoke " ++ t) (cut_is 32 rest first.0 first.1),
    )

-- the words with spaces before them
in_first_spelled : (b : ℕ) (ws : List (List ℕ)) (bs : List ℕ) → spell_names ws ≡ 32 ∷ bs → spell_names (in_first b ws) ≡ 32 ∷ (b ∷ bs)
in_first_spelled b [] bs e = absurd (cc)
in_first_spelled b (w ∷ ws) bs e = let tail : w ++ spell_names ws ≡ bs = cc in ap (λ t. 32 ∷ (b ∷ t)) tail

words_spelled : (rest : List ℕ) → spell_names (words rest) ≡ 32 ∷ rest
unfolding words
words_spelled [] = refl
words_spelled (b ∷ bs) = by_byte (eqb b 32) refl (words_spelled bs)
  where
    by_byte : (t : Bool) → eqb b 32 ≡ t → spell_names (words bs) ≡ 32 ∷ bs
        → spell_names (cond t ([] ∷ words bs) (in_first b (words bs))) ≡ 32 ∷ (b ∷ bs)
    by_byte true t tail = let at : b ≡ 32 = eqb-true b 32 t in ap (λ l. 32 ∷ l) (tail ∙ ap (λ c. c ∷ bs) (sym at))
    by_byte false t tail = in_first_spelled b (words bs) bs tail

names_are : (before more names : List (List ℕ)) → names_behind before more ≡ Some names → Each IsName before → Each IsName names
    × (before ++ more ≡ names)
unfolding names_behind
names_are before [] names e h =
    let same : before ≡ names = cc in
    (subst (Each IsName) same h, append_nil before ∙ same)
  where
    append_nil : (xs : List (List ℕ)) → xs ++ [] ≡ xs
    append_nil [] = refl
    append_nil (x ∷ xs) = ap (λ t. x ∷ t) (append_nil xs)
names_are before (word ∷ more) names e h =
    by_name (is_name word) refl e (λ f t. names_are (before ++ word ∷ []) more names f (each_append IsName before (word ∷ []) h (t, tt)))
  where
    by_name : (t : Bool) → is_name word ≡ t → cond t (names_behind (before ++ word ∷ []) more) None ≡ Some names
        → (names_behind (before ++ word ∷ []) more ≡ Some names → is_name word ≡ true → Each IsName names
        × ((before ++ word ∷ []) ++ more ≡ names)) → Each IsName names × (before ++ (word ∷ more) ≡ names)
    by_name true t e later = let r = later e t in (r.0, sym (append_assoc before (word ∷ []) more) ∙ r.1)
    by_name false t e later = absurd (cc)

user_is : (rest : List ℕ) (form : LineForm) → user_in rest ≡ Some form → Spells (codes "user " ++ rest) form
unfolding user_in spell
user_is rest form e =
    let names = step_of (names_behind [] (words rest)) _ form e in
    let n = names_are [] (words rest) names.0 names.1 tt in
    let same : a_user names.0 ≡ form = cc in
    subst (Spells (codes "user " ++ rest)) same (n.0, ap (λ t. codes "user" ++ spell_names t) (sym n.1) ∙ ap (λ t. codes "user" ++ t) (words_spelled rest))

act_line_is : (rest : List ℕ) (form : LineForm) → act_line_in rest ≡ Some form → Spells (codes "act " ++ rest) form
unfolding act_line_in spell
act_line_is rest form e =
    let act = step_of (act_in rest) _ form e in
    let a = act_is rest act.0 act.1 in
    let same = same_some (an_act act.0) form act.2 in
    subst (Spells (codes "act " ++ rest)) same (a.0, ap (λ t. codes "act " ++ t) a.1)

goal_is : (rest : List ℕ) (form : LineForm) → goal_in rest ≡ Some form → Spells (codes "goal " ++ rest) form
unfolding goal_in spell
goal_is rest form e =
    let condition = step_of (text_in rest) _ form e in
    let c = a_text rest condition.0 condition.1 in
    let same : a_goal condition.0 ≡ form = cc in
    subst (Spells (codes "goal " ++ rest)) same (c.0, ap (λ t. codes "goal " ++ t) c.1)

abbrev keyword_text : Keyword → List ℕ
keyword_text k.Role = codes "role"
keyword_text k.Edge = codes "edge"
keyword_text k.Assign = codes "assign"
keyword_text k.Revoke = codes "revoke"
keyword_text k.User = codes "user"
keyword_text k.Act = codes "act"
keyword_text k.Goal = codes "goal"

keyword_is : (word : List ℕ) (keyword : Keyword) → keyword_in word ≡ Some keyword → word ≡ keyword_text keyword
unfolding keyword_in
keyword_is word keyword e =
    pick word (codes "role") k.Role keyword _ keyword_text refl e
    (λ e. pick word (codes "edge") k.Edge keyword _ keyword_text refl e
    (λ e. pick word (codes "assign") k.Assign keyword _ keyword_text refl e
    (λ e. pick word (codes "revoke") k.Revoke keyword _ keyword_text refl e
    (λ e. pick word (codes "user") k.User keyword _ keyword_text refl e
    (λ e. pick word (codes "act") k.Act keyword _ keyword_text refl e
    (λ e. pick word (codes "goal") k.Goal keyword _ keyword_text refl e (λ e. absurd (cc))))))))

-- a line with a keyword
with_keyword : (keyword : Keyword) (rest : List ℕ) (form : LineForm) → form_with (Some keyword) rest ≡ Some form
    → Spells (keyword_text keyword ++ (32 ∷ rest)) form
with_keyword k.Role rest form e = role_is rest form e
with_keyword k.Edge rest form e = edge_is rest form e
with_keyword k.Assign rest form e = assign_is rest form e
with_keyword k.Revoke rest form e = revoke_is rest form e
with_keyword k.User rest form e = user_is rest form e
with_keyword k.Act rest form e = act_line_is rest form e
with_keyword k.Goal rest form e = goal_is rest form e

nobody_is : (line : List ℕ) (form : LineForm) → only_if (bytes_eq line (codes "user")) (a_user []) ≡ Some form → Spells line form
unfolding spell
nobody_is line form e =
    let o = only_is (bytes_eq line (codes "user")) (a_user []) form e in
    subst (Spells line) o.1 (tt, sym ((bytes_eq-Decides line (codes "user")).0 o.0))

-- what is read as a form is a line that the form spells
pub form_is : (line : List ℕ) (form : LineForm) → form_of line ≡ Some form → IsWellFormed form × (spell form ≡ line)
unfolding form_of
form_is line form e = by_cut (cut 32 line) refl e
  where
    by_keyword : (word rest : List ℕ) (o : Option Keyword) → keyword_in word ≡ o → form_with o rest ≡ Some form
        → Spells (word ++ (32 ∷ rest)) form
    by_keyword word rest None f e = absurd (cc)
    by_keyword word rest (Some keyword) f e =
        let P : List ℕ → Type 0 = λ t. Spells (t ++ (32 ∷ rest)) form in
        subst P (sym (keyword_is word keyword f)) (with_keyword keyword rest form e)

    by_cut : (o : Option (List ℕ × List ℕ)) → cut 32 line ≡ o → form_by line o ≡ Some form → Spells line form
    by_cut None c e = nobody_is line form e
    by_cut (Some p) c e =
        let P : List ℕ → Type 0 = λ t. Spells t form in
        subst P (cut_is 32 line p c) (by_keyword p.0 p.1 (keyword_in p.0) refl e)
