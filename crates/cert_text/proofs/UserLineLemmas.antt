-- The pairs of words of a user line are read from their spelling, and from that alone.
use Rattle.std.proofs.Common.{ℕ, ◌≡◌, Bool, true, false, List, [], ◌∷◌, ◌++◌, append_assoc, append-nil, refl, arith, sym, ◌∙◌, ap, subst}
use Rattle.std.proofs.Common.{Some, None, cond}
use Rattle.std.specs.Prelude.{codes}
use Rattle.std.specs.Str.{bytes_eq}
use Rattle.std.proofs.lemmas.Slice.Eq.{bytes_eq-Decides}
use Rattle.list_words.specs.Lists.{Each}
use Rattle.cond_text.specs.Cuts.{IsName}
use Rattle.cert_text.specs.LineForms.{IsNameList, joined, spell_hits, spell_lacks, LineForm, a_user}
use Rattle.cert_text.specs.Spelling.{pieces, list_in, hit_before, lacks_before, pairs_in, user_in, user_line_in}
use Rattle.list_words.proofs.GetLemmas.{same_some}
use Rattle.cond_text.proofs.CutLemmas.{step_of, Lacks}
use Rattle.cert_text.proofs.PieceLemmas.{behind, pieces_joined, pieces_of}
use Rattle.cert_text.proofs.ListLemmas.{list_found, joined_lacks, list_is}

-- the words of a user line behind the first
abbrev pub user_words : List (List (List ℕ)) → List (List ℕ) → List (List ℕ)
user_words [] [] = []
user_words [] (name ∷ names) = codes "lack" ∷ joined (name ∷ names) ∷ []
user_words (hit ∷ hits) lacks = codes "hit" ∷ joined hit ∷ user_words hits lacks

-- they stand behind spaces in its spelling
pub words_spelled : (hits : List (List (List ℕ))) (lacks : List (List ℕ)) → behind 32 (user_words hits lacks) ≡ spell_hits hits ++ spell_lacks lacks
words_spelled [] [] = refl
words_spelled [] (name ∷ names) = ap (λ t. codes " lack " ++ t) (append-nil (joined (name ∷ names)))
words_spelled (hit ∷ hits) lacks =
    ap (λ t. codes " hit " ++ (joined hit ++ t)) (words_spelled hits lacks)
    ∙ ap (λ t. codes " hit " ++ t) (sym (append_assoc (joined hit) (spell_hits hits) (spell_lacks lacks)))

hit_lacks : Lacks 32 (codes "hit")
hit_lacks = (refl, (refl, (refl, tt)))

lack_lacks : Lacks 32 (codes "lack")
lack_lacks = (refl, (refl, (refl, (refl, tt))))

-- none of them has a space
pub words_lack : (hits : List (List (List ℕ))) (lacks : List (List ℕ)) → Each IsNameList hits → Each IsName lacks
    → Each (Lacks 32) (user_words hits lacks)
words_lack [] [] h k = tt
words_lack [] (name ∷ names) h k = (lack_lacks, (joined_lacks (name ∷ names) k, tt))
words_lack (hit ∷ hits) lacks h k = (hit_lacks, (joined_lacks hit h.0.each, words_lack hits lacks h.1 k))

-- they are read as the hits and lacks
pub pairs_found : (hits : List (List (List ℕ))) (lacks : List (List ℕ)) → Each IsNameList hits → Each IsName lacks
    → pairs_in (user_words hits lacks) ≡ Some (hits, lacks)
unfolding pairs_in
pairs_found [] [] h k = refl
pairs_found [] (name ∷ names) h k =
    let filled : IsNameList (name ∷ names) = record { some = omega arith; each = k } in
    rw (list_found (name ∷ names) filled) refl
pairs_found (hit ∷ hits) lacks h k = rw (list_found hit h.0, pairs_found hits lacks h.1 k) refl

-- what stands behind the first space is read as the hits and lacks that its words tell
pub user_line_found : (word : List ℕ) (words : List (List ℕ)) (hits : List (List (List ℕ))) (lacks : List (List ℕ)) → Lacks 32 word
    → Each (Lacks 32) words → pairs_in (word ∷ words) ≡ Some (hits, lacks) → user_line_in (word ++ behind 32 words) ≡ Some (a_user hits lacks)
unfolding user_line_in user_in
user_line_found word words hits lacks l m e = rw (pieces_of 32 word words l m, e) refl

-- the hits are lists of names, the lacks are names, and both are spelled by the words
abbrev IsUser : List (List ℕ) → List (List (List ℕ)) × List (List ℕ) → Type 0
IsUser words user = Each IsNameList user.0 × Each IsName user.1 × (spell_hits user.0 ++ spell_lacks user.1 ≡ behind 32 words)

hit_is : (list : List ℕ) (more : List (List ℕ)) (user : List (List (List ℕ)) × List (List ℕ)) → hit_before (list_in list) (pairs_in more) ≡ Some user
    → ((rest : List (List (List ℕ)) × List (List ℕ)) → pairs_in more ≡ Some rest → IsUser more rest) → IsUser (codes "hit" ∷ list ∷ more) user
hit_is list more user e later =
    let names = step_of (list_in list) _ user e in
    let rest = step_of (pairs_in more) _ user names.2 in
    let l = list_is list names.0 names.1 in
    let r = later rest.0 rest.1 in
    let same = same_some (names.0 ∷ rest.0.0, rest.0.1) user rest.2 in
    subst (IsUser (codes "hit" ∷ list ∷ more)) same (
      (l.0, r.0),
      r.1,
      ap (λ t. codes " hit " ++ t) (append_assoc (joined names.0) (spell_hits rest.0.0) (spell_lacks rest.0.1))
          ∙ ap (λ t. codes " hit " ++ (t ++ (spell_hits rest.0.0 ++ spell_lacks rest.0.1))) l.1 ∙ ap (λ t. codes " hit " ++ (list ++ t)) r.2,
    )

lack_is : (list : List ℕ) (more : List (List ℕ)) (user : List (List (List ℕ)) × List (List ℕ)) → lacks_before (list_in list) more ≡ Some user
    → IsUser (codes "lack" ∷ list ∷ more) user
lack_is list (word ∷ words) user e = absurd (cc)
lack_is list [] user e =
    let names = step_of (list_in list) _ user e in
    let l = list_is list names.0 names.1 in
    let same = same_some ([], names.0) user names.2 in
    subst (IsUser (codes "lack" ∷ list ∷ [])) same (tt, l.0.each, spelled names.0 l.0 l.1)
  where
    spelled : (names : List (List ℕ)) → IsNameList names → joined names ≡ list → spell_lacks names ≡ codes " lack " ++ (list ++ [])
    spelled [] h e = let long = h.some in absurd (omega arith)
    spelled (name ∷ names) h e = ap (λ t. codes " lack " ++ t) (e ∙ sym (append-nil list))

pairs_are : (words : List (List ℕ)) (user : List (List (List ℕ)) × List (List ℕ)) → pairs_in words ≡ Some user → IsUser words user
unfolding pairs_in
pairs_are [] user e = subst (IsUser []) (same_some ([], []) user e) (tt, tt, refl)
pairs_are (key ∷ []) user e = absurd (cc)
pairs_are (key ∷ list ∷ more) user e = by_hit (bytes_eq key (codes "hit")) refl e (pairs_are more)
  where
    by_lack : (t : Bool) → bytes_eq key (codes "lack") ≡ t → cond t (lacks_before (list_in list) more) None ≡ Some user
        → IsUser (key ∷ list ∷ more) user
    by_lack true t e =
        let P : List ℕ → Type 0 = λ word. IsUser (word ∷ list ∷ more) user in
        subst P (sym ((bytes_eq-Decides key (codes "lack")).0 t)) (lack_is list more user e)
    by_lack false t e = absurd (cc)

    by_hit : (t : Bool) → bytes_eq key (codes "hit") ≡ t
        → cond t (hit_before (list_in list) (pairs_in more)) (cond (bytes_eq key (codes "lack")) (lacks_before (list_in list) more) None) ≡ Some user
        → ((rest : List (List (List ℕ)) × List (List ℕ)) → pairs_in more ≡ Some rest → IsUser more rest) → IsUser (key ∷ list ∷ more) user
    by_hit true t e later =
        let P : List ℕ → Type 0 = λ word. IsUser (word ∷ list ∷ more) user in
        subst P (sym ((bytes_eq-Decides key (codes "hit")).0 t)) (hit_is list more user e later)
    by_hit false t e later = by_lack (bytes_eq key (codes "lack")) refl e

-- what is read as a user line is its spelling
pub user_line_is : (rest : List ℕ) (form : LineForm) → user_line_in rest ≡ Some form
    → (user : List (List (List ℕ)) × List (List ℕ)) × (a_user user.0 user.1 ≡ form) × Each IsNameList user.0 × Each IsName user.1
    × (spell_hits user.0 ++ spell_lacks user.1 ≡ 32 ∷ rest)
unfolding user_line_in user_in
user_line_is rest form e =
    let user = step_of (pairs_in (pieces 32 rest)) _ form e in
    let u = pairs_are (pieces 32 rest) user.0 user.1 in
    (user.0, same_some (a_user user.0.0 user.0.1) form user.2, u.0, u.1, u.2 ∙ pieces_joined 32 rest)
