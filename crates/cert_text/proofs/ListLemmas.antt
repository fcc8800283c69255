-- A list of names between commas is read from its spelling, and from that alone; and how the code reads it, name by name.
use Rattle.std.proofs.Common.{ℕ, ◌≡◌, List, [], ◌∷◌, ◌++◌, refl, arith, sym, ◌∙◌, ap, subst, Option, Some, None, option_map}
use Rattle.list_words.specs.Lists.{Each}
use Rattle.cond_text.specs.Cuts.{IsName, ◌>>=◌, cut, name_in}
use Rattle.cert_text.specs.LineForms.{IsNameList, behind_commas, joined}
use Rattle.cert_text.specs.Spelling.{pieces, all_names, list_in}
use Rattle.cert_text.specs.Told.{with_named, set_behind}
use Rattle.list_words.proofs.GetLemmas.{same_some}
use Rattle.list_words.proofs.EachLemmas.{each_weaker}
use Rattle.cond_text.proofs.CutLemmas.{step_of, Lacks, lacks_append}
use Rattle.cond_text.proofs.NamedLemmas.{name_lacks, name_found, named}
use Rattle.cert_text.proofs.PieceLemmas.{pieces_cut, pieces_one, behind, pieces_joined, pieces_of}

commas : (names : List (List ℕ)) → behind 44 names ≡ behind_commas names
commas [] = refl
commas (name ∷ names) = ap (λ t. 44 ∷ (name ++ t)) (commas names)

names_found : (names : List (List ℕ)) → Each IsName names → all_names names ≡ Some names
unfolding all_names
names_found [] h = refl
names_found (name ∷ names) h = rw (name_found name h.0, names_found names h.1) refl

names_lack : (sign : ℕ) (names : List (List ℕ)) → ((name : List ℕ) → IsName name → Lacks sign name) → Each IsName names → Each (Lacks sign) names
names_lack sign names lacks h = each_weaker IsName (Lacks sign) lacks names h

-- a list is read from its spelling
pub list_found : (names : List (List ℕ)) → IsNameList names → list_in (joined names) ≡ Some names
unfolding list_in
list_found [] h = let long = h.some in absurd (omega arith)
list_found (name ∷ names) h =
    ap (λ t. all_names (pieces 44 (name ++ t))) (sym (commas names))
    ∙ ap all_names (pieces_of 44 name names (name_lacks 44 name refl h.each.0) (names_lack 44 names (λ n k. name_lacks 44 n refl k) h.each.1))
    ∙ names_found (name ∷ names) h.each

commas_lack : (names : List (List ℕ)) → Each IsName names → Lacks 32 (behind_commas names)
commas_lack [] h = tt
commas_lack (name ∷ names) h = (refl, lacks_append 32 name (behind_commas names) (name_lacks 32 name refl h.0) (commas_lack names h.1))

-- a list's spelling has no space
pub joined_lacks : (names : List (List ℕ)) → Each IsName names → Lacks 32 (joined names)
joined_lacks [] h = tt
joined_lacks (name ∷ names) h = lacks_append 32 name (behind_commas names) (name_lacks 32 name refl h.0) (commas_lack names h.1)

all_are : (pieces names : List (List ℕ)) → all_names pieces ≡ Some names → Each IsName names × (names ≡ pieces)
unfolding all_names
all_are [] names e = let same = same_some [] names e in (subst (Each IsName) same tt, sym same)
all_are (piece ∷ more) names e =
    let name = step_of (name_in piece) _ names e in
    let rest = step_of (all_names more) _ names name.2 in
    let n = named piece name.0 name.1 in
    let r = all_are more rest.0 rest.1 in
    let same = same_some (name.0 ∷ rest.0) names rest.2 in
    let P : List (List ℕ) → Type 0 = λ list. Each IsName list × (list ≡ piece ∷ more) in
    subst P same ((n.0, r.0), ap (λ t. t ∷ rest.0) n.1 ∙ ap (λ t. piece ∷ t) r.1)

-- what is read as a list is its spelling
pub list_is : (text : List ℕ) (names : List (List ℕ)) → list_in text ≡ Some names → IsNameList names × (joined names ≡ text)
unfolding list_in
list_is text names e =
    let a = all_are (pieces 44 text) names e in
    by_names names a.0 (ap (behind 44) a.1 ∙ pieces_joined 44 text)
  where
    by_names : (names : List (List ℕ)) → Each IsName names → behind 44 names ≡ 44 ∷ text → IsNameList names × (joined names ≡ text)
    by_names [] h whole = absurd (cc)
    by_names (name ∷ names) h whole =
        let tail : name ++ behind 44 names ≡ text = cc in
        (record { some = omega arith; each = h }, ap (λ t. name ++ t) (sym (commas names)) ∙ tail)

-- one name more
pub list_more : (names : List (List ℕ)) (set : Option (List ℕ)) (bytes word rest name : List ℕ) → cut 44 bytes ≡ Some (word, rest)
    → Some name ≡ name_in word
    → option_map (set_behind names (with_named names set name)) (list_in rest) ≡ option_map (set_behind names set) (list_in bytes)
unfolding list_in all_names
list_more names set bytes word rest name e n = rw (pieces_cut 44 bytes word rest e, ← n) (by_rest (all_names (pieces 44 rest)))
  where
    by_rest : (o : Option (List (List ℕ))) → option_map (set_behind names (with_named names set name)) o
        ≡ option_map (set_behind names set) (o >>= λ more. Some (name ∷ more))
    by_rest None = refl
    by_rest (Some more) = refl

-- a piece that is no name
pub list_stop : (bytes word rest : List ℕ) → cut 44 bytes ≡ Some (word, rest) → None ≡ name_in word → list_in bytes ≡ None
unfolding list_in all_names
list_stop bytes word rest e n = rw (pieces_cut 44 bytes word rest e, ← n) refl

-- the last piece is a name
pub list_last : (bytes name : List ℕ) → cut 44 bytes ≡ None → Some name ≡ name_in bytes → list_in bytes ≡ Some (name ∷ [])
unfolding list_in all_names
list_last bytes name e n = rw (pieces_one 44 bytes e, ← n) refl

-- the last piece is no name
pub list_no_last : (bytes : List ℕ) → cut 44 bytes ≡ None → None ≡ name_in bytes → list_in bytes ≡ None
unfolding list_in all_names
list_no_last bytes e n = rw (pieces_one 44 bytes e, ← n) refl
