-- The texts of values write these values as TOML.
use Rattle.std.proofs.Common.{◌≡◌, ℕ, zero, suc, ◌<◌, ◌≤◌, ◌^◌, Bool, true, false, ◌&&◌, List, [], ◌∷◌, ◌++◌, refl, sym}
use Rattle.std.proofs.Common.{ap, ◌∙◌, subst, arith, append_assoc, append-nil}
use Rattle.std.specs.Prelude.{codes, map, not, nat_le, ◌==◌}
use Rattle.std.specs.Char.{is_ascii}
use Rattle.std.specs.Fmt.{decimal}
use Rattle.std.specs.List.{flat_map, join_by, list_all, list_any}
use Rattle.std.specs.Str.{IsUtf8, IsAscii}
use Rattle.std.proofs.Math.Nat.{max-le}
use Rattle.std.proofs.lemmas.Bool.Decides.{nat_tests}
use Rattle.std.proofs.lemmas.Fmt.{IsAscii-decimal}
use Rattle.std.proofs.lemmas.Str.{IsUtf8-from_ascii, IsUtf8-append}
use Rattle.list_words.specs.Lists.{Each}
use Rattle.role_order.specs.Names.{is_name_byte}
use Rattle.list_words.proofs.TestLemmas.{and_both}
use Rattle.toml_parser.specs.Lexical.{is_non_eol}
use Rattle.toml_writer.specs.Text.{string_text, encoding_of, escaped, needs_escape, quotes_after, is_control}
use Rattle.toml.specs.Data.{Data, array, Items, no_items, item, push_item, depth, items_depth, has_valid_dates}
use Rattle.toml.specs.Text.{IsValueText, IsItemsText, breaks_lines}
use Rattle.question_text.specs.Keys.{list_of}
use Rattle.question_writer.specs.Texts.{quoted, listed}
use Rattle.question_writer.proofs.BlockLemmas.{items_after}

-- a visible byte or a space, and neither a quotation mark nor a backslash
abbrev pub is_plain : ℕ → Bool
is_plain b = nat_le 32 b && nat_le b 126 && not (b == 34) && not (b == 92)

abbrev pub IsPlain : List ℕ → Type 0
IsPlain text = list_all is_plain text ≡ true

pub plain-append : (s t : List ℕ) → IsPlain s → IsPlain t → IsPlain (s ++ t)
plain-append [] t a b = b
plain-append (c ∷ s) t a b = let p = and_both (is_plain c) (list_all is_plain s) a in rw (p.0, plain-append s t p.1 b) refl

-- bytes of one kind are of another
pub all_of : (p q : ℕ → Bool) → ((b : ℕ) → p b ≡ true → q b ≡ true) → (text : List ℕ) → list_all p text ≡ true
    → list_all q text ≡ true
all_of p q more [] h = refl
all_of p q more (b ∷ bs) h = let t = and_both (p b) (list_all p bs) h in rw (more b t.0, all_of p q more bs t.1) refl

name_byte_plain : (b : ℕ) → is_name_byte b ≡ true → is_plain b ≡ true
name_byte_plain b h = by_test (is_plain b) refl
  where
    by_test : (t : Bool) → is_plain b ≡ t → is_plain b ≡ true
    by_test true e = e
    by_test false e = grind (arith, nat_tests)

pub names_plain : (text : List ℕ) → list_all is_name_byte text ≡ true → IsPlain text
names_plain text h = all_of is_name_byte is_plain name_byte_plain text h

none_of : (p q : ℕ → Bool) → ((b : ℕ) → p b ≡ true → q b ≡ false) → (text : List ℕ) → list_all p text ≡ true
    → list_any q text ≡ false
none_of p q other [] h = refl
none_of p q other (b ∷ bs) h = let t = and_both (p b) (list_all p bs) h in rw (other b t.0, none_of p q other bs t.1) refl

plain_visible : (b : ℕ) → is_plain b ≡ true → (32 ≤ b) × (b ≤ 126)
plain_visible b h = (grind (arith, nat_tests), grind (arith, nat_tests))

plain_no_quote : (b : ℕ) → is_plain b ≡ true → (b == 34) ≡ false
plain_no_quote b h = grind (arith, nat_tests)

plain_no_backslash : (b : ℕ) → is_plain b ≡ true → (b == 92) ≡ false
plain_no_backslash b h = grind (arith, nat_tests)

visible_no_feed : (b : ℕ) → 32 ≤ b → b ≤ 126 → (b == 10) ≡ false
visible_no_feed b low high = grind (arith, nat_tests)

visible_no_tab : (b : ℕ) → 32 ≤ b → b ≤ 126 → (b == 9) ≡ false
visible_no_tab b low high = grind (arith, nat_tests)

visible_in_line : (b : ℕ) → 32 ≤ b → b ≤ 126 → is_non_eol b ≡ true
visible_in_line b low high = grind (arith, nat_tests)

plain_no_control : (b : ℕ) → is_plain b ≡ true → is_control b ≡ false
plain_no_control b h = let v = plain_visible b h in rw (visible_in_line b v.0 v.1) refl

plain_no_escape : (b : ℕ) → is_plain b ≡ true → needs_escape false 0 b ≡ false
unfolding needs_escape
plain_no_escape b h =
    let v = plain_visible b h in
    rw (plain_no_quote b h, visible_no_feed b v.0 v.1, plain_no_backslash b h, visible_in_line b v.0 v.1, visible_no_tab b v.0 v.1) refl

plain_escaped : (text : List ℕ) → IsPlain text → escaped false 0 text ≡ text
unfolding escaped quotes_after
plain_escaped [] h = refl
plain_escaped (b ∷ bs) h =
    let t = and_both (is_plain b) (list_all is_plain bs) h in
    rw (plain_no_escape b t.0, plain_no_quote b t.0) (ap (λ l. b ∷ l) (plain_escaped bs t.1))

-- a plain text is written between quotation marks
pub plain_string : (text : List ℕ) → IsPlain text → string_text text ≡ quoted text
unfolding string_text encoding_of
plain_string text h =
    let control = none_of is_plain is_control plain_no_control text h in
    let backslash = none_of is_plain (λ x. x == 92) plain_no_backslash text h in
    let quote = none_of is_plain (λ x. x == 34) plain_no_quote text h in
    let feed = none_of is_plain (λ x. x == 10) (λ b p. let v = plain_visible b p in visible_no_feed b v.0 v.1) text h in
    rw (control, backslash, quote, feed) (ap (λ t. 34 ∷ (t ++ (34 ∷ []))) (plain_escaped text h))

-- ---- lists

abbrev pub items_of : List Data → Items
items_of [] = no_items
items_of (d ∷ ds) = item d (items_of ds)

pub list_items : (ds : List Data) → list_of (items_of ds) ≡ ds
list_items [] = refl
list_items (d ∷ ds) = ap (λ l. d ∷ l) (list_items ds)

list_push : (before : Items) (d : Data) → list_of (push_item before d) ≡ list_of before ++ d ∷ []
list_push no_items d = refl
list_push (item e es) d = ap (λ l. e ∷ l) (list_push es d)

pub list_after : (before : Items) (ds : List Data) → list_of (items_after before ds) ≡ list_of before ++ ds
list_after before [] = sym (append-nil (list_of before))
list_after before (d ∷ ds) = list_after (push_item before d) ds ∙ ap (λ l. l ++ ds) (list_push before d) ∙ append_assoc (list_of before) (d ∷ []) ds

abbrev pub list_data : {A : Type 0} → (A → Data) → List A → Data
list_data view xs = array (items_of (map view xs))

no_breaks : (ds : Items) → breaks_lines false ds ≡ false
no_breaks no_items = refl
no_breaks (item d no_items) = refl
no_breaks (item d (item e ds)) = refl

more_text : {A : Type 0} (view : A → Data) (text : A → List ℕ) (xs : List A) → Each (λ x. IsValueText false (view x) (text x)) xs
    → IsItemsText false false false (items_of (map view xs)) (flat_map (λ x. codes ", " ++ text x) xs ++ codes "]")
more_text view text [] h = refl
more_text view text (x ∷ xs) h =
    (text x, flat_map (λ y. codes ", " ++ text y) xs ++ codes "]", append_assoc (codes ", " ++ text x) _ (codes "]"), h.0, more_text view text xs h.1)

items_text : {A : Type 0} (view : A → Data) (text : A → List ℕ) (xs : List A) → Each (λ x. IsValueText false (view x) (text x)) xs
    → IsItemsText false false true (items_of (map view xs)) (join_by text (codes ", ") xs ++ codes "]")
items_text view text [] h = refl
items_text view text (x ∷ xs) h =
    (text x, flat_map (λ y. codes ", " ++ text y) xs ++ codes "]", append_assoc (text x) _ (codes "]"), h.0, more_text view text xs h.1)

-- the text of a list writes the list
pub list_text : {A : Type 0} (view : A → Data) (text : A → List ℕ) (xs : List A) → Each (λ x. IsValueText false (view x) (text x)) xs
    → IsValueText false (list_data view xs) (listed text xs)
list_text view text xs h =
    let ds : Items = items_of (map view xs) in
    let rest : List ℕ = join_by text (codes ", ") xs ++ codes "]" in
    (rest, refl, subst (λ (b : Bool). IsItemsText false b true ds rest) (sym (no_breaks ds)) (items_text view text xs h))

pub list_depth : {A : Type 0} (view : A → Data) (most : ℕ) (xs : List A) → Each (λ x. depth (view x) ≤ most) xs
    → depth (list_data view xs) ≤ suc most
list_depth view most xs h = let inner = items_deep view most xs h in omega arith
  where
    items_deep : {A : Type 0} (view : A → Data) (most : ℕ) (xs : List A) → Each (λ x. depth (view x) ≤ most) xs
        → items_depth (items_of (map view xs)) ≤ most
    items_deep view most [] h = omega arith
    items_deep view most (x ∷ xs) h = max-le h.0 (items_deep view most xs h.1)

pub list_dated : {A : Type 0} (view : A → Data) (xs : List A) → Each (λ x. has_valid_dates (view x) ≡ true) xs
    → has_valid_dates (list_data view xs) ≡ true
list_dated view [] h = refl
list_dated view (x ∷ xs) h = rw (h.0, list_dated view xs h.1) refl

-- ---- bytes below 128

small_ascii : (text : List ℕ) → list_all is_ascii text ≡ true → IsAscii text
small_ascii [] h i = omega arith
small_ascii (b ∷ bs) h zero = let t = and_both (is_ascii b) (list_all is_ascii bs) h in grind (arith, nat_tests)
small_ascii (b ∷ bs) h (suc i) = small_ascii bs (and_both (is_ascii b) (list_all is_ascii bs) h).1 i

pub ascii_utf8 : (text : List ℕ) → list_all is_ascii text ≡ true → IsUtf8 text
ascii_utf8 text h = IsUtf8-from_ascii text (small_ascii text h)

pub plain_utf8 : (text : List ℕ) → IsPlain text → IsUtf8 text
plain_utf8 text h = ascii_utf8 text (all_of is_plain is_ascii plain_ascii text h)
  where
    plain_ascii : (b : ℕ) → is_plain b ≡ true → is_ascii b ≡ true
    plain_ascii b p = let v = plain_visible b p in grind (arith, nat_tests)

pub quoted_utf8 : (text : List ℕ) → IsPlain text → IsUtf8 (quoted text)
quoted_utf8 text h =
    let mark : IsUtf8 (34 ∷ []) = ascii_utf8 (34 ∷ []) refl in
    IsUtf8-append (34 ∷ []) (text ++ (34 ∷ [])) mark (IsUtf8-append text (34 ∷ []) (plain_utf8 text h) mark)

pub each_utf8 : {A : Type 0} (text : A → List ℕ) (xs : List A) → Each (λ x. IsUtf8 (text x)) xs → IsUtf8 (flat_map text xs)
each_utf8 text [] h = ascii_utf8 [] refl
each_utf8 text (x ∷ xs) h = IsUtf8-append (text x) (flat_map text xs) h.0 (each_utf8 text xs h.1)

pub listed_utf8 : {A : Type 0} (text : A → List ℕ) (xs : List A) → Each (λ x. IsUtf8 (text x)) xs → IsUtf8 (listed text xs)
listed_utf8 text [] h = ascii_utf8 (codes "[]") refl
listed_utf8 text (x ∷ xs) h =
    IsUtf8-append (codes "[") _ (ascii_utf8 (codes "[") refl)
    (IsUtf8-append (text x ++ flat_map (λ y. codes ", " ++ text y) xs) (codes "]")
    (IsUtf8-append (text x) _ h.0 (each_utf8 (λ y. codes ", " ++ text y) xs (behind_commas text xs h.1)))
    (ascii_utf8 (codes "]") refl))
  where
    behind_commas : {A : Type 0} (text : A → List ℕ) (xs : List A) → Each (λ x. IsUtf8 (text x)) xs → Each (λ x. IsUtf8 (codes ", " ++ text x)) xs
    behind_commas text [] h = tt
    behind_commas text (x ∷ xs) h = (IsUtf8-append (codes ", ") (text x) (ascii_utf8 (codes ", ") refl) h.0, behind_commas text xs h.1)

pub decimal_utf8 : (n : ℕ) → n < 2 ^ 64 → IsUtf8 (decimal n)
decimal_utf8 n small = IsUtf8-from_ascii (decimal n) (IsAscii-decimal n small)
