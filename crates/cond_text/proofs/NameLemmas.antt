-- The names of an order are each a word of their own role.
use Rattle.std.proofs.Common.{ℕ, zero, suc, ◌≡◌, ◌≢◌, ◌<◌, ◌∙◌, ap, sym, refl, arith, Bool, true, false, cond, ◌&&◌, ◌||◌}
use Rattle.std.proofs.Common.{nat_le, List, [], ◌∷◌, length, get_or, Some, None}
use Rattle.std.specs.Prelude.{not, nat_lt, codes}
use Rattle.std.specs.List.{list_all, prefix_len}
use Rattle.std.specs.Option.{unwrap_or}
use Rattle.std.specs.Str.{bytes_eq}
use Rattle.std.proofs.lemmas.Bool.{false≢true}
use Rattle.std.proofs.lemmas.Bool.Decides.{nat_tests}
use Rattle.std.proofs.lemmas.Option.{slice_get-get_or}
use Rattle.std.proofs.lemmas.Slice.Eq.{bytes_eq-Decides}
use Rattle.list_words.proofs.TestLemmas.{not_false, and_both, or_none}
use Rattle.list_words.specs.Lists.{Each, AreDifferent}
use Rattle.role_order.specs.Names.{is_name_byte, is_name, is_reserved, is_role_name, place_of}
use Rattle.role_order.specs.Refusals.{AreNames}
use Rattle.role_order.specs.declared.TheConstants.{MOST_NAME_BYTES}
use Rattle.cond_text.specs.declared.word.Word.TheVariants.{Name}
use Rattle.cond_text.specs.Words.{word_of}

-- the name is a word of name bytes, which stands for its role
pub record IsProper (names : List (List ℕ)) (role : ℕ) : Type 0 where
  pub bytes : list_all is_name_byte (get_or names role []) ≡ true
  pub some : get_or names role [] ≢ []
  pub word : word_of names (get_or names role []) ≡ Name role

abbrev pub AreProper : List (List ℕ) → Type 0
AreProper names = (role : ℕ) → role < length names → IsProper names role

not_true : (b : Bool) → not b ≡ true → b ≡ false
not_true false e = refl
not_true true e = absurd (false≢true e)

each_get : (P : List ℕ → Type 0) (names : List (List ℕ)) (role : ℕ) → Each P names → role < length names → P (get_or names role [])
each_get P [] role all h = absurd (omega arith)
each_get P (n ∷ ns) zero all h = all.0
each_get P (n ∷ ns) (suc role) all h = each_get P ns role all.1 (omega arith)

-- what a role name is not
record IsFree (name : List ℕ) : Type 0 where
  bytes : list_all is_name_byte name ≡ true
  some : name ≢ []
  any : bytes_eq name (codes "any") ≡ false
  not_ : bytes_eq name (codes "not") ≡ false
  and : bytes_eq name (codes "and") ≡ false
  or : bytes_eq name (codes "or") ≡ false

not_empty : (name : List ℕ) → nat_le 1 (length name) ≡ true → name ≢ []
not_empty name h e = false≢true (ap (λ (n : List ℕ). nat_le 1 (length n)) (sym e) ∙ h)

free_name : (name : List ℕ) → is_role_name name ≡ true → IsFree name
unfolding is_role_name is_name is_reserved
free_name name h =
    let parts = and_both (nat_le 1 (length name) && nat_le (length name) MOST_NAME_BYTES && list_all is_name_byte name)
    (not (bytes_eq name (codes "any") || bytes_eq name (codes "not") || bytes_eq name (codes "and") || bytes_eq name (codes "or"))) h in
    let named = and_both (nat_le 1 (length name) && nat_le (length name) MOST_NAME_BYTES) (list_all is_name_byte name) parts.0 in
    let long = and_both (nat_le 1 (length name)) (nat_le (length name) MOST_NAME_BYTES) named.0 in
    let three = or_none (bytes_eq name (codes "any") || bytes_eq name (codes "not") || bytes_eq name (codes "and")) (bytes_eq name (codes "or"))
    (not_true _ parts.1) in
    let two = or_none (bytes_eq name (codes "any") || bytes_eq name (codes "not")) (bytes_eq name (codes "and")) three.0 in
    let one = or_none (bytes_eq name (codes "any")) (bytes_eq name (codes "not")) two.0 in
    record { bytes = named.1; some = not_empty name long.0; any = one.0; not_ = one.1; and = two.1; or = three.1 }

prefix_at : (names : List (List ℕ)) (role : ℕ) (text : List ℕ) → role < length names → bytes_eq (get_or names role []) text ≡ true
    → ((j : ℕ) → j < role → bytes_eq (get_or names j []) text ≡ false) → prefix_len (λ name. not (bytes_eq name text)) names ≡ role
prefix_at [] role text h e before = absurd (omega arith)
prefix_at (n ∷ ns) zero text h e before = rw e refl
prefix_at (n ∷ ns) (suc role) text h e before =
    rw (before 0 (omega arith)) (omega (arith, prefix_at ns role text (omega arith) e (λ j l. before (suc j) (omega arith))))

found_at : (n role count : ℕ) → n ≡ role → role < count → cond (nat_lt n count) (Some n) None ≡ Some role
found_at n role count e h = let less : nat_lt n count ≡ true = grind (arith, nat_tests) in rw less (ap Some e)

-- a name stands at the place of its role alone
place_at : (names : List (List ℕ)) → AreDifferent names → (role : ℕ) → role < length names → place_of names (get_or names role []) ≡ Some role
place_at names different role h =
    let text : List ℕ = get_or names role [] in
    let here : bytes_eq text text ≡ true = (bytes_eq-Decides text text).1 refl in
    found_at (prefix_len (λ name. not (bytes_eq name text)) names) role (length names)
    (prefix_at names role text h here
    (λ j l. not_false (bytes_eq (get_or names j []) text) (λ e. clash j l ((bytes_eq-Decides (get_or names j []) text).0 e)))) h
  where
    clash : (j : ℕ) → j < role → get_or names j [] ≡ get_or names role [] → ⊥
    clash j l e =
        let below : j < length names = omega arith in
        let same : j ≡ role = different j role (get_or names role []) (slice_get-get_or names j [] below ∙ ap Some e) (slice_get-get_or names role [] h) in
        absurd (omega arith)

pub proper : (names : List (List ℕ)) → AreNames names → AreProper names
unfolding word_of
proper names h role k =
    let free = free_name (get_or names role []) (each_get (λ name. is_role_name name ≡ true) names role h.named k) in
    record {
      bytes = free.bytes;
      some = free.some;
      word = rw (free.any, free.not_, free.and, free.or) (ap (λ o. Name (unwrap_or o (length names))) (place_at names h.different role k));
    }
