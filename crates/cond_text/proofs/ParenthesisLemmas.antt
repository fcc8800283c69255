-- The words "(" of a text are its bytes "(".
use Rattle.std.proofs.Common.{ℕ, ◌≡◌, ◌+◌, ◌∙◌, ap, sym, refl, arith, Bool, true, false, cond, ◌==◌, ◌||◌, List, [], ◌∷◌}
use Rattle.std.proofs.Common.{Option, Some, None}
use Rattle.std.specs.Prelude.{codes}
use Rattle.std.specs.List.{take_while}
use Rattle.std.specs.Str.{bytes_eq}
use Rattle.std.proofs.lemmas.Bool.{false≢true, eqb-true}
use Rattle.role_order.specs.Names.{is_name_byte}
use Rattle.cond_text.specs.declared.word.Word.{Word}
use Rattle.cond_text.specs.declared.word.Word.TheVariants.{Any, Name, Not, And, Or, Open, Close, Stray}
use Rattle.cond_text.specs.Words.{role_or_count, word_of, word_at, words}
use Rattle.cond_text.specs.Printing.{parentheses}
use Rattle.cond_text.proofs.FewestLemmas.{open_weight, opens}
use Rattle.cond_text.proofs.TextLemmas.{with_word, bare, same_bare}

abbrev weight_of : Option Word → ℕ
weight_of None = 0
weight_of (Some w) = open_weight w

opens_with : (o : Option Word) (ws : List Word) → opens (with_word o ws) ≡ weight_of o + opens ws
opens_with None ws = omega arith
opens_with (Some w) ws = refl

no_word_opens : (any_ not_ and or : Bool) (role : ℕ) → open_weight (cond any_ Any (cond not_ Not (cond and And (cond or Or (Name role))))) ≡ 0
no_word_opens true not_ and or role = refl
no_word_opens false true and or role = refl
no_word_opens false false true or role = refl
no_word_opens false false false true role = refl
no_word_opens false false false false role = refl

run_opens : (names : List (List ℕ)) (run : List ℕ) → open_weight (word_of names run) ≡ 0
unfolding word_of
run_opens names run =
    no_word_opens (bytes_eq run (codes "any")) (bytes_eq run (codes "not")) (bytes_eq run (codes "and")) (bytes_eq run (codes "or")) (role_or_count names run)

-- where the first tests are of name bytes and blanks, neither of which is a "("
one_weight : (name behind blank open_ close : Bool) (run : Word) → open_weight run ≡ 0 → (name ≡ true → open_ ≡ false)
    → (blank ≡ true → open_ ≡ false)
    → weight_of (cond name (cond behind None (Some run)) (cond blank None (cond open_ (Some Open) (cond close (Some Close) (Some Stray))))) ≡ cond open_ 1 0
one_weight true true blank open_ close run e n m = rw (n refl) refl
one_weight true false blank open_ close run e n m = rw (n refl) e
one_weight false behind true open_ close run e n m = rw (m refl) refl
one_weight false behind false true close run e n m = refl
one_weight false behind false false true run e n m = refl
one_weight false behind false false false run e n m = refl

not_open : (test : ℕ → Bool) (b : ℕ) → test 40 ≡ false → test b ≡ true → (b == 40) ≡ false
not_open test b absent h = by_test (b == 40) refl
  where
    by_test : (t : Bool) → (b == 40) ≡ t → (b == 40) ≡ false
    by_test false e = e
    by_test true e = absurd (false≢true (sym absent ∙ sym (ap test (eqb-true b 40 e)) ∙ h))

byte_weight : (names : List (List ℕ)) (behind_name : Bool) (b : ℕ) (bs : List ℕ) → weight_of (word_at names behind_name (b ∷ bs)) ≡ cond
    (b == 40) 1 0
byte_weight names behind_name b bs =
    one_weight (is_name_byte b) behind_name ((b == 32) || (b == 9)) (b == 40) (b == 41) (word_of names (take_while is_name_byte (b ∷ bs)))
    (run_opens names (take_while is_name_byte (b ∷ bs))) (not_open is_name_byte b refl) (not_open (λ c. (c == 32) || (c == 9)) b refl)

opens_bare : (names : List (List ℕ)) (behind_name : Bool) (bs : List ℕ) → opens (bare names behind_name bs) ≡ parentheses bs
unfolding bare
opens_bare names behind_name [] = refl
opens_bare names behind_name (b ∷ bs) =
    opens_with (word_at names behind_name (b ∷ bs)) (bare names (is_name_byte b) bs)
    ∙ ap (λ n. n + opens (bare names (is_name_byte b) bs)) (byte_weight names behind_name b bs)
    ∙ ap (λ n. cond (b == 40) 1 0 + n) (opens_bare names (is_name_byte b) bs)

-- as many words as bytes
pub opens_words : (names : List (List ℕ)) (text : List ℕ) → opens (words names text) ≡ parentheses text
opens_words names text = ap opens (same_bare names 0 false text) ∙ opens_bare names false text
