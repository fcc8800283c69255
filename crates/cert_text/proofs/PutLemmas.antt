-- Texts that grow line by line: a loop keeps "what is written, and what is left to write, are the whole".
use Rattle.std.proofs.Common.{ℕ, ◌≡◌, ◌+◌, ◌<◌, ◌≤◌, ◌∙◌, ◌/◌, ◌%◌, ◌^◌, List, [], ◌∷◌, ◌++◌, append_assoc, length, drop, take, map, refl, sym, ap}
use Rattle.std.proofs.Common.{subst, Some, arith, get_or, eqb}
use Rattle.std.specs.Prelude.{slice_get, codes}
use Rattle.std.specs.Fmt.{decimal}
use Rattle.std.proofs.lemmas.Bool.{eq-eqb}
use Rattle.std.proofs.lemmas.Fmt.{decimal_digit, decimal_step}
use Rattle.list_words.specs.Lists.{Each}
use Rattle.list_words.proofs.TestLemmas.{or_right}
use Rattle.role_order.specs.Names.{name_at}
use Rattle.role_order.specs.Roles.{has_role, AreBelow}
use Rattle.cert_text.specs.Certificates.{Certificate}
use Rattle.cert_text.specs.LineForms.{behind_commas}
use Rattle.cert_text.specs.Texts.{set_names, certificate_lines, line_text, certificate_text}
use Rattle.list_words.proofs.GetLemmas.{take_one_more, take_all, get_map, get_at}
use Rattle.list_words.proofs.EachLemmas.{each_append}
use Rattle.arbac_laws.specs.Obligations.{flat}
use Rattle.role_order.proofs.ClosureLemmas.{length_mapped}
use Rattle.text_pieces.proofs.PieceLemmas.{moved, finished, drop_at, drop_all}

-- one turn: what is left begins with the piece of the item at the place
pub next_put : {A : Type 0} (left : List A → List ℕ) (piece : List ℕ) (xs : List A) (i : ℕ) (x : A) (text new whole : List ℕ)
    → slice_get xs i ≡ Some x → left (x ∷ drop (i + 1) xs) ≡ piece ++ left (drop (i + 1) xs) → text ++ left (drop i xs) ≡ whole
    → new ≡ text ++ piece → new ++ left (drop (i + 1) xs) ≡ whole
next_put left piece xs i x text new whole at first h e =
    moved text piece new (left (drop (i + 1) xs)) whole (ap (λ t. text ++ t) (sym (ap left (drop_at xs i x at) ∙ first)) ∙ h) e

-- the end: nothing is left
pub all_put : {A : Type 0} (left : List A → List ℕ) (xs : List A) (i : ℕ) (text whole : List ℕ) → length xs ≤ i → left [] ≡ []
    → text ++ left (drop i xs) ≡ whole → text ≡ whole
all_put left xs i text whole end none h = finished text (left (drop i xs)) whole (ap left (drop_all xs i end) ∙ none) h

-- what holds of the items so far, holds with one more
pub one_more : {A : Type 0} (P : A → Type 0) (xs : List A) (i : ℕ) (x : A) → slice_get xs i ≡ Some x → Each P (take i xs) → P x
    → Each P (take (i + 1) xs)
one_more {A} P xs i x at h p =
    subst (λ (l : List A). Each P l) (sym (take_one_more xs i x at)) (each_append P (take i xs) (x ∷ []) h (p, tt))

-- and in the end of all
pub all_so_far : {A : Type 0} (P : A → Type 0) (xs : List A) (i : ℕ) → length xs ≤ i → Each P (take i xs) → Each P xs
all_so_far {A} P xs i end h = subst (λ (l : List A). Each P l) (take_all xs i end) h

-- the lists of two lists behind one another
pub flat_append : {A B : Type 0} (f : A → List B) (xs ys : List A) → flat f (xs ++ ys) ≡ flat f xs ++ flat f ys
flat_append f [] ys = refl
flat_append f (x ∷ xs) ys = ap (λ t. f x ++ t) (flat_append f xs ys) ∙ sym (append_assoc (f x) (flat f xs) (flat f ys))

-- two pieces, one behind the other
pub two_put : (t0 t1 t2 p q : List ℕ) → t1 ≡ t0 ++ p → t2 ≡ t1 ++ q → t2 ≡ t0 ++ (p ++ q)
two_put t0 t1 t2 p q e f = f ∙ ap (λ t. t ++ q) e ∙ append_assoc t0 p q

-- what a view makes of the item at a place stands at that place
pub viewed_at : {A B : Type 0} (view : A → B) (xs : List A) (i : ℕ) (x : A) → i < length xs → x ≡ get_or xs i x
    → slice_get (map view xs) i ≡ Some (view x)
viewed_at view xs i x l is = get_map view xs i x (get_at xs i x l ∙ ap Some (sym is))

pub viewed_end : {A B : Type 0} (view : A → B) (xs : List A) (i : ℕ) → length xs ≤ i → length (map view xs) ≤ i
viewed_end view xs i l = let same = length_mapped view xs in omega arith

-- ---- numbers

-- one digit
pub digit_put : (t0 t1 : List ℕ) (n : ℕ) → n < 10 → t1 ≡ t0 ++ (48 + n) ∷ [] → t1 ≡ t0 ++ decimal n
digit_put t0 t1 n h e = e ∙ ap (λ t. t0 ++ t) (sym (decimal_digit n h))

-- the last digit behind the others
pub digits_put : (t0 t1 t2 : List ℕ) (n : ℕ) → 10 ≤ n → n < 2 ^ 32 → t1 ≡ t0 ++ decimal (n / 10) → t2 ≡ t1 ++ (48 + n % 10) ∷ []
    → t2 ≡ t0 ++ decimal n
digits_put t0 t1 t2 n h l e f =
    two_put t0 t1 t2 (decimal (n / 10)) ((48 + n % 10) ∷ []) e f ∙ ap (λ t. t0 ++ t) (sym (decimal_step n h (omega arith)))

-- ---- names with commas between them

-- each role of a set of the order is below the count
pub each_below : (count : ℕ) (set : List ℕ) → AreBelow count set → Each (λ role. role < count) set
each_below count [] h = tt
each_below count (x ∷ xs) h = (h x (rw (eq-eqb x x refl) refl), each_below count xs (λ y there. h y (or_right (eqb x y) (has_role xs y) there)))

-- so are the first and the others
pub list_below : (count : ℕ) (set after : List ℕ) (role : ℕ) → AreBelow count set → set ≡ role ∷ after → Each (λ r. r < count) (role ∷ after)
list_below count set after role h is = subst (λ (roles : List ℕ). Each (λ r. r < count) roles) is (each_below count set h)

-- one more name
pub name_put : (names : List (List ℕ)) (before after : List ℕ) (role : ℕ) (t0 t1 t2 whole : List ℕ) → before ≡ role ∷ after
    → t0 ++ behind_commas (set_names names before) ≡ whole → t1 ≡ t0 ++ codes "," → t2 ≡ t1 ++ name_at names role
    → t2 ++ behind_commas (set_names names after) ≡ whole
name_put names before after role t0 t1 t2 whole is h e f =
    moved t0 (codes "," ++ name_at names role) t2 (behind_commas (set_names names after)) whole
    (ap (λ (roles : List ℕ). t0 ++ behind_commas (set_names names roles)) (sym is) ∙ h) (two_put t0 t1 t2 (codes ",") (name_at names role) e f)

-- the last name was put
pub names_put : (names : List (List ℕ)) (before : List ℕ) (text whole : List ℕ) → before ≡ []
    → text ++ behind_commas (set_names names before) ≡ whole → text ≡ whole
names_put names before text whole is h =
    finished text (behind_commas (set_names names before)) whole (ap (λ (roles : List ℕ). behind_commas (set_names names roles)) is) h

-- ---- the whole text

pub whole_put : (names : List (List ℕ)) (cert : Certificate) (t0 t1 t2 t3 : List ℕ) → t0 ≡ [] → t1 ≡ t0 ++ codes "arbac certificate 1\n"
    → t2 ≡ t1 ++ flat line_text (certificate_lines names cert) → t3 ≡ t2 ++ codes "end\n" → t3 ≡ certificate_text names cert
unfolding certificate_text
whole_put names cert t0 t1 t2 t3 none e f g =
    let lines : List ℕ = flat line_text (certificate_lines names cert) in
    two_put t0 t1 t3 (codes "arbac certificate 1\n") (lines ++ codes "end\n") e (two_put t1 t2 t3 lines (codes "end\n") f g)
    ∙ ap (λ (t : List ℕ). t ++ (codes "arbac certificate 1\n" ++ (lines ++ codes "end\n"))) none
