-- No line that is written has a line feed, so a written text has the lines that were written.
use Rattle.std.proofs.Common.{ℕ, ◌≡◌, ◌<◌, ◌^◌, ◌∙◌, true, List, [], ◌∷◌, ◌++◌, append_assoc, map, refl, ap, arith, eqb}
use Rattle.std.specs.Prelude.{codes, not}
use Rattle.std.specs.List.{list_all}
use Rattle.std.specs.Fmt.{decimal}
use Rattle.list_words.specs.Lists.{Each}
use Rattle.arbac_policy.specs.declared.act.ActKind.{ActKind}
use Rattle.arbac_policy.specs.declared.act.ActKind.TheVariants.{Assign, Weak, Strong}
use Rattle.arbac_laws.specs.PreImages.{Pick, itself, other, fresh}
use Rattle.arbac_laws.specs.Obligations.{flat}
use Rattle.cond_text.specs.Cuts.{IsName}
use Rattle.cond_text.proofs.CutLemmas.{Lacks, lacks_append, cut_behind}
use Rattle.cond_text.proofs.NamedLemmas.{lacks_other, name_lacks}
use Rattle.text_lines.specs.Lines.{split}
use Rattle.text_lines.specs.Acts.{WrittenAct, IsWrittenAct, spell_kind, spell_act}
use Rattle.text_lines.proofs.LineLemmas.{split_first, split_empty}
use Rattle.text_lines.proofs.NumberLemmas.{decimal_lacks}
use Rattle.cert_text.specs.Certificates.{Certificate}
use Rattle.cert_text.specs.LineForms.{WrittenOrigin, a_goal, an_assign, a_weak, IsWrittenPick, IsWrittenOrigin, IsNameList, IsWellFormed}
use Rattle.cert_text.specs.LineForms.{LineForm, a_reachable, an_unreachable, an_undecided, a_start, an_act, a_need, a_step, a_next, a_user}
use Rattle.cert_text.specs.LineForms.{spell_pick, spell_origin, behind_commas, joined, spell_hits, spell_lacks, spell}
use Rattle.cert_text.specs.Texts.{certificate_lines, line_text, certificate_text}

-- ---- the pieces of a line

-- the text stands on one line
abbrev IsOneLine : List ℕ → Type 0
IsOneLine text = Lacks 10 text

-- words that are tested byte by byte
word : (text : List ℕ) → list_all (λ b. not (eqb b 10)) text ≡ true → IsOneLine text
word text h = lacks_other (λ b. not (eqb b 10)) 10 text refl h

both : (xs ys : List ℕ) → IsOneLine xs → IsOneLine ys → IsOneLine (xs ++ ys)
both xs ys h k = lacks_append 10 xs ys h k

number : (n : ℕ) → n < 2 ^ 32 → IsOneLine (decimal n)
number n h = decimal_lacks 10 n refl h

name : (text : List ℕ) → IsName text → IsOneLine text
name text h = name_lacks 10 text refl h

space : (text : List ℕ) → IsOneLine text → IsOneLine (codes " " ++ text)
space text h = both (codes " ") text (word (codes " ") refl) h

spaced_number : (n : ℕ) (rest : List ℕ) → n < 2 ^ 32 → IsOneLine rest → IsOneLine (codes " " ++ (decimal n ++ rest))
spaced_number n rest h k = space (decimal n ++ rest) (both (decimal n) rest (number n h) k)

spaced_name : (text rest : List ℕ) → IsName text → IsOneLine rest → IsOneLine (codes " " ++ (text ++ rest))
spaced_name text rest h k = space (text ++ rest) (both text rest (name text h) k)

kind_line : (kind : ActKind) → IsOneLine (spell_kind kind)
kind_line Assign = word (codes "assign") refl
kind_line Weak = word (codes "weak") refl
kind_line Strong = word (codes "strong") refl

act_line : (act : WrittenAct) → IsWrittenAct act → IsOneLine (spell_act act)
act_line act h =
    both (spell_kind act.kind) (codes " " ++ (decimal act.admin ++ (codes " " ++ (decimal act.target ++ (codes " " ++ act.role))))) (kind_line act.kind)
    (spaced_number act.admin (codes " " ++ (decimal act.target ++ (codes " " ++ act.role))) h.0
    (spaced_number act.target (codes " " ++ act.role) h.1 (space act.role (name act.role h.2))))

pick_line : (pick : Pick) → IsWrittenPick pick → IsOneLine (spell_pick pick)
pick_line itself h = word (codes "self") refl
pick_line (other place) h = number place h
pick_line fresh h = word (codes "new") refl

-- what stands behind the rule, or behind the conjunct
change_line : (role : List ℕ) (target : ℕ) (pick : Pick) → IsName role → target < 2 ^ 32 → IsWrittenPick pick
    → IsOneLine (codes " " ++ (role ++ (codes " " ++ (decimal target ++ (codes " " ++ spell_pick pick)))))
change_line role target pick r t p =
    spaced_name role (codes " " ++ (decimal target ++ (codes " " ++ spell_pick pick))) r
    (spaced_number target (codes " " ++ spell_pick pick) t (space (spell_pick pick) (pick_line pick p)))

worded_number : (text : List ℕ) (n : ℕ) (rest : List ℕ) → list_all (λ b. not (eqb b 10)) text ≡ true → n < 2 ^ 32 → IsOneLine rest
    → IsOneLine (text ++ (decimal n ++ rest))
worded_number text n rest w h k = both text (decimal n ++ rest) (word text w) (both (decimal n) rest (number n h) k)

origin_line : (origin : WrittenOrigin) → IsWrittenOrigin origin → IsOneLine (spell_origin origin)
origin_line (a_goal place) h = both (codes "goal ") (decimal place) (word (codes "goal ") refl) (number place h)
origin_line (an_assign parent rule conjunct role target admin) h =
    let change : List ℕ = codes " " ++ (role ++ (codes " " ++ (decimal target ++ (codes " " ++ spell_pick admin)))) in
    worded_number (codes "pre ") parent (codes " assign " ++ (decimal rule ++ (codes " " ++ (decimal conjunct ++ change)))) refl h.0
    (worded_number (codes " assign ") rule (codes " " ++ (decimal conjunct ++ change)) refl h.1
    (spaced_number conjunct change h.2 (change_line role target admin h.3 h.4 h.5)))
origin_line (a_weak parent rule role target admin) h =
    let change : List ℕ = codes " " ++ (role ++ (codes " " ++ (decimal target ++ (codes " " ++ spell_pick admin)))) in
    worded_number (codes "pre ") parent (codes " weak " ++ (decimal rule ++ change)) refl h.0
    (worded_number (codes " weak ") rule change refl h.1 (change_line role target admin h.2 h.3 h.4))

commas_line : (names : List (List ℕ)) → Each IsName names → IsOneLine (behind_commas names)
commas_line [] h = tt
commas_line (text ∷ names) h =
    both (codes ",") (text ++ behind_commas names) (word (codes ",") refl)
    (both text (behind_commas names) (name text h.0) (commas_line names h.1))

joined_line : (names : List (List ℕ)) → Each IsName names → IsOneLine (joined names)
joined_line [] h = tt
joined_line (text ∷ names) h = both text (behind_commas names) (name text h.0) (commas_line names h.1)

hits_line : (hits : List (List (List ℕ))) → Each IsNameList hits → IsOneLine (spell_hits hits)
hits_line [] h = tt
hits_line (hit ∷ hits) h =
    both (codes " hit ") (joined hit ++ spell_hits hits) (word (codes " hit ") refl)
    (both (joined hit) (spell_hits hits) (joined_line hit h.0.each) (hits_line hits h.1))

lacks_line : (names : List (List ℕ)) → Each IsName names → IsOneLine (spell_lacks names)
lacks_line [] h = tt
lacks_line (text ∷ names) h =
    both (codes " lack ") (joined (text ∷ names)) (word (codes " lack ") refl) (joined_line (text ∷ names) h)

-- a line as it is spelled has no line feed
one_line : (line : LineForm) → IsWellFormed line → IsOneLine (spell line)
unfolding spell
one_line a_reachable h = word (codes "reachable") refl
one_line an_unreachable h = word (codes "unreachable") refl
one_line (an_undecided limit) h =
    both (codes "undecided ") (decimal limit) (word (codes "undecided ") refl) (number limit (omega (arith, h.1)))
one_line (a_start profile) h = both (codes "start ") (decimal profile) (word (codes "start ") refl) (number profile h)
one_line (an_act act) h = both (codes "act ") (spell_act act) (word (codes "act ") refl) (act_line act h)
one_line a_need h = word (codes "need") refl
one_line (a_step origin) h = both (codes "need ") (spell_origin origin) (word (codes "need ") refl) (origin_line origin h)
one_line (a_next origin) h = both (codes "next ") (spell_origin origin) (word (codes "next ") refl) (origin_line origin h)
one_line (a_user hits lacks) h =
    both (codes "user") (spell_hits hits ++ spell_lacks lacks) (word (codes "user") refl)
    (both (spell_hits hits) (spell_lacks lacks) (hits_line hits h.0) (lacks_line lacks h.1))

-- ---- the lines of the text

split_line : (line rest : List ℕ) → IsOneLine line → split ((line ++ codes "\n") ++ rest) ≡ (line ∷ (split rest).0, (split rest).1)
split_line line rest h =
    ap split (append_assoc line (codes "\n") rest) ∙ split_first (line ++ (10 ∷ rest)) line rest (cut_behind 10 line rest h)

split_lines : (lines : List LineForm) (rest : List ℕ) → Each IsWellFormed lines
    → split (flat line_text lines ++ rest) ≡ (map spell lines ++ (split rest).0, (split rest).1)
split_lines [] rest h = refl
split_lines (line ∷ lines) rest h =
    ap split (append_assoc (line_text line) (flat line_text lines) rest)
    ∙ split_line (spell line) (flat line_text lines ++ rest) (one_line line h.0)
    ∙ ap (λ (s : List (List ℕ) × List ℕ). (spell line ∷ s.0, s.1)) (split_lines lines rest h.1)

-- the text of right lines is split into the first line, these, and the last
pub split_text : (names : List (List ℕ)) (cert : Certificate) → Each IsWellFormed (certificate_lines names cert)
    → split (certificate_text names cert) ≡ (codes "arbac certificate 1" ∷ (map spell (certificate_lines names cert) ++ codes "end" ∷ []), [])
unfolding certificate_text
split_text names cert h =
    let lines : List LineForm = certificate_lines names cert in
    split_line (codes "arbac certificate 1") (flat line_text lines ++ codes "end\n") (word (codes "arbac certificate 1") refl)
    ∙ ap (λ (s : List (List ℕ) × List ℕ). (codes "arbac certificate 1" ∷ s.0, s.1)) (split_lines lines (codes "end\n") h
    ∙ ap (λ (s : List (List ℕ) × List ℕ). (map spell lines ++ s.0, s.1)) (split_line (codes "end") [] (word (codes "end") refl)
    ∙ ap (λ (s : List (List ℕ) × List ℕ). (codes "end" ∷ s.0, s.1)) (split_empty [] refl)))
