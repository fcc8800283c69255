-- Each line that has a form is read as that form, and what is read as a form is its spelling.
use Rattle.std.proofs.Common.{ℕ, ◌≡◌, ◌<◌, ◌≤◌, ◌^◌, Bool, true, false, List, [], ◌∷◌, ◌++◌, refl, arith, sym, ◌∙◌, ap, subst}
use Rattle.std.proofs.Common.{Option, Some, None, cond, leb}
use Rattle.std.specs.Prelude.{codes, ◌&&◌}
use Rattle.std.specs.Fmt.{decimal}
use Rattle.std.specs.Str.{bytes_eq}
use Rattle.std.proofs.lemmas.Bool.Decides.{nat_tests}
use Rattle.std.proofs.lemmas.Slice.Eq.{bytes_eq-Decides}
use Rattle.list_words.specs.Lists.{Each}
use Rattle.cond_text.specs.Cuts.{IsName, cut}
use Rattle.text_lines.specs.Numbers.{number_in}
use Rattle.text_lines.specs.Acts.{WrittenAct, spell_act, act_in}
use Rattle.cert_text.specs.declared.TheConstants.{MOST_LIMIT}
use Rattle.cert_text.specs.declared.line.Keyword.{Keyword}
use Rattle.cert_text.specs.declared.line.Keyword.TheVariants as k
use Rattle.cert_text.specs.LineForms.{WrittenOrigin, LineForm, IsWellFormed, IsNameList, spell, spell_origin, spell_hits, spell_lacks}
use Rattle.cert_text.specs.LineForms.{a_reachable, an_unreachable, an_undecided, a_start, an_act, a_need, a_step, a_next, a_user}
use Rattle.cert_text.specs.Spelling.{limit_in, undecided_in, start_in, act_line_in, origin_in, step_in, next_in, user_line_in, word_in, keyword_in}
use Rattle.cert_text.specs.Spelling.{pairs_in, form_with, form_by, form_of}
use Rattle.list_words.proofs.GetLemmas.{same_some}
use Rattle.list_words.proofs.TestLemmas.{and_both}
use Rattle.cond_text.proofs.CutLemmas.{step_of, only_is, Lacks, cut_is}
use Rattle.text_lines.proofs.WordLemmas.{pick}
use Rattle.text_lines.proofs.NumberLemmas.{number_found, number_is}
use Rattle.text_lines.proofs.ActLemmas.{act_found, act_is}
use Rattle.cert_text.proofs.PieceLemmas.{behind}
use Rattle.cert_text.proofs.OriginLemmas.{origin_found, origin_is}
use Rattle.cert_text.proofs.UserLineLemmas.{user_words, words_spelled, words_lack, pairs_found, user_line_found, user_line_is}

limit_found : (limit : ℕ) → 1 ≤ limit → limit ≤ MOST_LIMIT → limit_in (decimal limit) ≡ Some limit
unfolding limit_in
limit_found limit h k =
    let low : leb 1 limit ≡ true = grind (arith, nat_tests) in
    let high : leb limit MOST_LIMIT ≡ true = grind (arith, nat_tests) in
    rw (number_found limit (omega arith), low, high) refl

limit_is : (text : List ℕ) (limit : ℕ) → limit_in text ≡ Some limit → (1 ≤ limit) × (limit ≤ MOST_LIMIT) × (decimal limit ≡ text)
unfolding limit_in
limit_is text limit e =
    let number = step_of (number_in text) _ limit e in
    let o = only_is (leb 1 number.0 && leb number.0 MOST_LIMIT) number.0 limit number.2 in
    let both = and_both (leb 1 number.0) _ o.0 in
    let P : ℕ → Type 0 = λ n. (1 ≤ n) × (n ≤ MOST_LIMIT) × (decimal n ≡ text) in
    subst P o.1 (low number.0 both.0, high number.0 both.1, (number_is text number.0 number.1).1)
  where
    low : (n : ℕ) → leb 1 n ≡ true → 1 ≤ n
    low n h = grind (arith, nat_tests)

    high : (n : ℕ) → leb n MOST_LIMIT ≡ true → n ≤ MOST_LIMIT
    high n h = grind (arith, nat_tests)

undecided_found : (limit : ℕ) → 1 ≤ limit → limit ≤ MOST_LIMIT → undecided_in (decimal limit) ≡ Some (an_undecided limit)
unfolding undecided_in
undecided_found limit h k = rw (limit_found limit h k) refl

start_found : (profile : ℕ) → profile < 2 ^ 32 → start_in (decimal profile) ≡ Some (a_start profile)
unfolding start_in
start_found profile h = rw (number_found profile h) refl

at_reachable : form_of (codes "reachable") ≡ Some a_reachable
unfolding form_of cut word_in
at_reachable = refl

at_unreachable : form_of (codes "unreachable") ≡ Some an_unreachable
unfolding form_of cut word_in
at_unreachable = refl

at_need : form_of (codes "need") ≡ Some a_need
unfolding form_of cut word_in
at_need = refl

at_nobody : form_of (codes "user") ≡ Some (a_user [] [])
unfolding form_of cut word_in
at_nobody = refl

at_undecided : (rest : List ℕ) → form_of (codes "undecided " ++ rest) ≡ undecided_in rest
unfolding form_of cut keyword_in
at_undecided rest = refl

at_start : (rest : List ℕ) → form_of (codes "start " ++ rest) ≡ start_in rest
unfolding form_of cut keyword_in
at_start rest = refl

at_act : (rest : List ℕ) → form_of (codes "act " ++ rest) ≡ act_line_in rest
unfolding form_of cut keyword_in
at_act rest = refl

at_step : (rest : List ℕ) → form_of (codes "need " ++ rest) ≡ step_in rest
unfolding form_of cut keyword_in
at_step rest = refl

at_next : (rest : List ℕ) → form_of (codes "next " ++ rest) ≡ next_in rest
unfolding form_of cut keyword_in
at_next rest = refl

at_user : (rest : List ℕ) → form_of (codes "user " ++ rest) ≡ user_line_in rest
unfolding form_of cut keyword_in
at_user rest = refl

-- words behind spaces are read as the user that they tell
words_found : (words : List (List ℕ)) (hits : List (List (List ℕ))) (lacks : List (List ℕ)) → Each (Lacks 32) words
    → pairs_in words ≡ Some (hits, lacks) → form_of (codes "user" ++ behind 32 words) ≡ Some (a_user hits lacks)
unfolding pairs_in
words_found [] hits lacks l e =
    let same = same_some ([], []) (hits, lacks) e in
    at_nobody ∙ ap (λ (user : List (List (List ℕ)) × List (List ℕ)). Some (a_user user.0 user.1)) same
words_found (word ∷ words) hits lacks l e = at_user (word ++ behind 32 words) ∙ user_line_found word words hits lacks l.0 l.1 e

user_found : (hits : List (List (List ℕ))) (lacks : List (List ℕ)) → Each IsNameList hits → Each IsName lacks
    → form_of (codes "user" ++ (spell_hits hits ++ spell_lacks lacks)) ≡ Some (a_user hits lacks)
user_found hits lacks h k =
    ap (λ t. form_of (codes "user" ++ t)) (sym (words_spelled hits lacks))
    ∙ words_found (user_words hits lacks) hits lacks (words_lack hits lacks h k) (pairs_found hits lacks h k)

act_line_found : (rest : List ℕ) (act : WrittenAct) → act_in rest ≡ Some act → act_line_in rest ≡ Some (an_act act)
unfolding act_line_in
act_line_found rest act e = rw e refl

step_found : (rest : List ℕ) (origin : WrittenOrigin) → origin_in rest ≡ Some origin → step_in rest ≡ Some (a_step origin)
unfolding step_in
step_found rest origin e = rw e refl

next_found : (rest : List ℕ) (origin : WrittenOrigin) → origin_in rest ≡ Some origin → next_in rest ≡ Some (a_next origin)
unfolding next_in
next_found rest origin e = rw e refl

-- the form that a line spells is the form that is read
pub form_found : (form : LineForm) → IsWellFormed form → form_of (spell form) ≡ Some form
unfolding spell
form_found a_reachable h = at_reachable
form_found an_unreachable h = at_unreachable
form_found (an_undecided limit) h = at_undecided (decimal limit) ∙ undecided_found limit h.0 h.1
form_found (a_start profile) h = at_start (decimal profile) ∙ start_found profile h
form_found (an_act act) h = at_act (spell_act act) ∙ act_line_found (spell_act act) act (act_found act h)
form_found a_need h = at_need
form_found (a_step origin) h = at_step (spell_origin origin) ∙ step_found (spell_origin origin) origin (origin_found origin h)
form_found (a_next origin) h = at_next (spell_origin origin) ∙ next_found (spell_origin origin) origin (origin_found origin h)
form_found (a_user hits lacks) h = user_found hits lacks h.0 h.1

-- the form is one, and the line is its spelling
abbrev Spells : List ℕ → LineForm → Type 0
Spells line form = IsWellFormed form × (spell form ≡ line)

undecided_is : (rest : List ℕ) (form : LineForm) → undecided_in rest ≡ Some form → Spells (codes "undecided " ++ rest) form
unfolding undecided_in spell
undecided_is rest form e =
    let limit = step_of (limit_in rest) _ form e in
    let l = limit_is rest limit.0 limit.1 in
    subst (Spells (codes "undecided " ++ rest)) (same_some (an_undecided limit.0) form limit.2)
    ((l.0, l.1), ap (λ t. codes "undecided " ++ t) l.2)

start_is : (rest : List ℕ) (form : LineForm) → start_in rest ≡ Some form → Spells (codes "start " ++ rest) form
unfolding start_in spell
start_is rest form e =
    let profile = step_of (number_in rest) _ form e in
    let n = number_is rest profile.0 profile.1 in
    subst (Spells (codes "start " ++ rest)) (same_some (a_start profile.0) form profile.2) (n.0, ap (λ t. codes "start " ++ t) n.1)

act_line_is : (rest : List ℕ) (form : LineForm) → act_line_in rest ≡ Some form → Spells (codes "act " ++ rest) form
unfolding act_line_in spell
act_line_is rest form e =
    let act = step_of (act_in rest) _ form e in
    let a = act_is rest act.0 act.1 in
    subst (Spells (codes "act " ++ rest)) (same_some (an_act act.0) form act.2) (a.0, ap (λ t. codes "act " ++ t) a.1)

step_is : (rest : List ℕ) (form : LineForm) → step_in rest ≡ Some form → Spells (codes "need " ++ rest) form
unfolding step_in spell
step_is rest form e =
    let origin = step_of (origin_in rest) _ form e in
    let o = origin_is rest origin.0 origin.1 in
    subst (Spells (codes "need " ++ rest)) (same_some (a_step origin.0) form origin.2) (o.0, ap (λ t. codes "need " ++ t) o.1)

next_is : (rest : List ℕ) (form : LineForm) → next_in rest ≡ Some form → Spells (codes "next " ++ rest) form
unfolding next_in spell
next_is rest form e =
    let origin = step_of (origin_in rest) _ form e in
    let o = origin_is rest origin.0 origin.1 in
    subst (Spells (codes "next " ++ rest)) (same_some (a_next origin.0) form origin.2) (o.0, ap (λ t. codes "next " ++ t) o.1)

user_is : (rest : List ℕ) (form : LineForm) → user_line_in rest ≡ Some form → Spells (codes "user " ++ rest) form
unfolding spell
user_is rest form e =
    let u = user_line_is rest form e in
    subst (Spells (codes "user " ++ rest)) u.1 ((u.2, u.3), ap (λ t. codes "user" ++ t) u.4)

-- what holds of the value of the word that is found, and of what is found behind it, holds of what is found
found_as : {K : Type 0} (P : K → Type 0) (word text : List ℕ) (a b : K) (o : Option K) → (word ≡ text → P a)
    → cond (bytes_eq word text) (Some a) o ≡ Some b → (o ≡ Some b → P b) → P b
found_as {K} P word text a b o made e later = by_test (bytes_eq word text) refl e
  where
    by_test : (t : Bool) → bytes_eq word text ≡ t → cond t (Some a) o ≡ Some b → P b
    by_test true t e = subst P (same_some a b e) (made ((bytes_eq-Decides word text).0 t))
    by_test false t e = later e

word_is : (line : List ℕ) (form : LineForm) → word_in line ≡ Some form → Spells line form
unfolding word_in spell
word_is line form e =
    found_as (Spells line) line (codes "need") a_need form _ (λ s. (tt, sym s)) e
    (λ e. found_as (Spells line) line (codes "user") (a_user [] []) form _ (λ s. ((tt, tt), sym s)) e
    (λ e. found_as (Spells line) line (codes "reachable") a_reachable form _ (λ s. (tt, sym s)) e
    (λ e. found_as (Spells line) line (codes "unreachable") an_unreachable form _ (λ s. (tt, sym s)) e (λ e. absurd (cc)))))

abbrev keyword_text : Keyword → List ℕ
keyword_text k.Undecided = codes "undecided"
keyword_text k.Start = codes "start"
keyword_text k.Act = codes "act"
keyword_text k.Need = codes "need"
keyword_text k.Next = codes "next"
keyword_text k.User = codes "user"

keyword_is : (word : List ℕ) (keyword : Keyword) → keyword_in word ≡ Some keyword → word ≡ keyword_text keyword
unfolding keyword_in
keyword_is word keyword e =
    pick word (codes "user") k.User keyword _ keyword_text refl e
    (λ e. pick word (codes "need") k.Need keyword _ keyword_text refl e
    (λ e. pick word (codes "act") k.Act keyword _ keyword_text refl e
    (λ e. pick word (codes "start") k.Start keyword _ keyword_text refl e
    (λ e. pick word (codes "next") k.Next keyword _ keyword_text refl e
    (λ e. pick word (codes "undecided") k.Undecided keyword _ keyword_text refl e (λ e. absurd (cc)))))))

with_keyword : (keyword : Keyword) (rest : List ℕ) (form : LineForm) → form_with (Some keyword) rest ≡ Some form
    → Spells (keyword_text keyword ++ (32 ∷ rest)) form
with_keyword k.Undecided rest form e = undecided_is rest form e
with_keyword k.Start rest form e = start_is rest form e
with_keyword k.Act rest form e = act_line_is rest form e
with_keyword k.Need rest form e = step_is rest form e
with_keyword k.Next rest form e = next_is rest form e
with_keyword k.User rest form e = user_is rest form e

-- what is read as a form is a line that the form spells
pub form_is : (line : List ℕ) (form : LineForm) → form_of line ≡ Some form → IsWellFormed form × (spell form ≡ line)
unfolding form_of
form_is line form e = by_cut (cut 32 line) refl e
  where
    by_keyword : (word rest : List ℕ) (o : Option Keyword) → keyword_in word ≡ o → form_with o rest ≡ Some form
        → Spells (word ++ (32 ∷ rest)) form
    by_keyword word rest None f e = absurd (cc)
    by_keyword word rest (Some keyword) f e =
        let P : List ℕ → Type 0 = λ t. Spells (t ++ (32 ∷ rest)) form in
        subst P (sym (keyword_is word keyword f)) (with_keyword keyword rest form e)

    by_cut : (o : Option (List ℕ × List ℕ)) → cut 32 line ≡ o → form_by line o ≡ Some form → Spells line form
    by_cut None c e = word_is line form e
    by_cut (Some p) c e =
        let P : List ℕ → Type 0 = λ t. Spells t form in
        subst P (cut_is 32 line p c) (by_keyword p.0 p.1 (keyword_in p.0) refl e)
