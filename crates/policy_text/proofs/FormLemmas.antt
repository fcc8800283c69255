-- Each line that has a form is read as that form.
use Rattle.std.proofs.Common.{ℕ, ◌≡◌, List, [], ◌∷◌, ◌++◌, append_assoc, append-nil, refl, sym, ◌∙◌, ap, Some}
use Rattle.std.specs.Prelude.{codes}
use Rattle.std.specs.Str.{IsUtf8}
use Rattle.std.proofs.lemmas.Str.{is_utf8-from_IsUtf8}
use Rattle.list_words.specs.Lists.{Each}
use Rattle.cond_text.specs.Cuts.{cut, IsName}
use Rattle.cond_text.specs.Ranges.{NamedRange, IsNamedRange, spell_range}
use Rattle.text_lines.specs.Acts.{WrittenAct, IsWrittenAct, spell_act}
use Rattle.policy_text.specs.LineForms.{LineForm, a_role, an_edge, an_assign, a_revoke, a_user, an_act, a_goal, IsWellFormed, spell, spell_names}
use Rattle.policy_text.specs.Spelling.{text_in, role_in, edge_in, assign_in, revoke_in, user_in, words, names_behind, act_line_in, goal_in, keyword_in}
use Rattle.policy_text.specs.Spelling.{form_of}
use Rattle.cond_text.proofs.CutLemmas.{cut_behind, cut_nowhere, lacks_append}
use Rattle.cond_text.proofs.NamedLemmas.{name_lacks, name_found}
use Rattle.policy_text.proofs.WordLemmas.{words_cut, words_one}
use Rattle.cond_text.proofs.RangeLemmas.{range_found, range_lacks}
use Rattle.text_lines.proofs.ActLemmas.{act_found}

text_found : (text : List ℕ) → IsUtf8 text → text_in text ≡ Some text
unfolding text_in
text_found text h = rw (is_utf8-from_IsUtf8 text h) refl

role_found : (name : List ℕ) → IsName name → role_in name ≡ Some (a_role name)
unfolding role_in
role_found name h = rw (name_found name h) refl

edge_found : (senior junior : List ℕ) → IsName senior → IsName junior → edge_in (senior ++ (32 ∷ junior)) ≡ Some (an_edge senior junior)
unfolding edge_in
edge_found senior junior h k = rw (cut_behind 32 senior junior (name_lacks 32 senior refl h), name_found senior h, name_found junior k) refl

assign_found : (admin : List ℕ) (range : NamedRange) (condition : List ℕ) → IsName admin → IsNamedRange range → IsUtf8 condition
    → assign_in (admin ++ (32 ∷ (spell_range range ++ (32 ∷ condition)))) ≡ Some (an_assign admin range condition)
unfolding assign_in
assign_found admin range condition h k l =
    rw (
      cut_behind 32 admin (spell_range range ++ (32 ∷ condition)) (name_lacks 32 admin refl h),
      name_found admin h,
      cut_behind 32 (spell_range range) condition (range_lacks range k),
      range_found range k,
      text_found condition l,
    ) refl

revoke_found : (admin : List ℕ) (range : NamedRange) → IsName admin → IsNamedRange range → revoke_in (admin ++ (32 ∷ spell_range range)) ≡ Some
    (a_revoke admin range)
unfolding revoke_in
revoke_found admin range h k = rw (cut_behind 32 admin (spell_range range) (name_lacks 32 admin refl h), name_found admin h, range_found range k) refl

words_found : (name : List ℕ) (names : List (List ℕ)) → IsName name → Each IsName names → words (name ++ spell_names names) ≡ name ∷ names
words_found name [] h k =
    words_one (name ++ []) (cut_nowhere 32 (name ++ []) (lacks_append 32 name [] (name_lacks 32 name refl h) tt)) ∙ ap (λ n. n ∷ []) (append-nil name)
words_found name (next ∷ names) h k =
    words_cut (name ++ (32 ∷ (next ++ spell_names names))) name (next ++ spell_names names)
    (cut_behind 32 name (next ++ spell_names names) (name_lacks 32 name refl h))
    ∙ ap (λ t. name ∷ t) (words_found next names k.0 k.1)

all_names : (before names : List (List ℕ)) → Each IsName names → names_behind before names ≡ Some (before ++ names)
unfolding names_behind
all_names before [] h = ap Some (sym (append-nil before))
all_names before (name ∷ names) h = rw h.0 (all_names (before ++ name ∷ []) names h.1 ∙ ap Some (append_assoc before (name ∷ []) names))

user_found : (name : List ℕ) (names : List (List ℕ)) → IsName name → Each IsName names
    → user_in (name ++ spell_names names) ≡ Some (a_user (name ∷ names))
unfolding user_in
user_found name names h k = rw (words_found name names h k, all_names [] (name ∷ names) (h, k)) refl

act_line_found : (act : WrittenAct) → IsWrittenAct act → act_line_in (spell_act act) ≡ Some (an_act act)
unfolding act_line_in
act_line_found act h = rw (act_found act h) refl

goal_found : (condition : List ℕ) → IsUtf8 condition → goal_in condition ≡ Some (a_goal condition)
unfolding goal_in
goal_found condition h = rw (text_found condition h) refl

at_role : (rest : List ℕ) → form_of (codes "role " ++ rest) ≡ role_in rest
unfolding form_of cut keyword_in
at_role rest = refl

at_edge : (rest : List ℕ) → form_of (codes "edge " ++ rest) ≡ edge_in rest
unfolding form_of cut keyword_in
at_edge rest = refl

at_assign : (rest : List ℕ) → form_of (codes "assign " ++ rest) ≡ assign_in rest
unfolding form_of cut keyword_in
at_assign rest = refl

at_revoke : (rest : List ℕ) → form_of (codes "revoke " ++ rest) ≡ revoke_in rest
unfolding form_of cut keyword_in
at_revoke rest = refl

at_user : (rest : List ℕ) → form_of (codes "user " ++ rest) ≡ user_in rest
unfolding form_of cut keyword_in
at_user rest = refl

at_nobody : form_of (codes "user") ≡ Some (a_user [])
unfolding form_of cut
at_nobody = refl

at_act : (rest : List ℕ) → form_of (codes "act " ++ rest) ≡ act_line_in rest
unfolding form_of cut keyword_in
at_act rest = refl

at_goal : (rest : List ℕ) → form_of (codes "goal " ++ rest) ≡ goal_in rest
unfolding form_of cut keyword_in
at_goal rest = refl

-- the form that a line spells is the form that is read
pub form_found : (form : LineForm) → IsWellFormed form → form_of (spell form) ≡ Some form
unfolding spell
form_found (a_role name) h = at_role name ∙ role_found name h
form_found (an_edge senior junior) h = at_edge (senior ++ (32 ∷ junior)) ∙ edge_found senior junior h.0 h.1
form_found (an_assign admin range condition) h =
    at_assign (admin ++ (32 ∷ (spell_range range ++ (32 ∷ condition)))) ∙ assign_found admin range condition h.0 h.1 h.2
form_found (a_revoke admin range) h = at_revoke (admin ++ (32 ∷ spell_range range)) ∙ revoke_found admin range h.0 h.1
form_found (a_user []) h = at_nobody
form_found (a_user (name ∷ names)) h = at_user (name ++ spell_names names) ∙ user_found name names h.0 h.1
form_found (an_act act) h = at_act (spell_act act) ∙ act_line_found act h
form_found (a_goal condition) h = at_goal condition ∙ goal_found condition h
