-- A step of the loop over a text's bytes.
use Rattle.std.proofs.Common.{ℕ, ◌≡◌, ◌+◌, ◌-◌, ◌<◌, ◌∙◌, ap, sym, Bool, List, [], ◌∷◌, ◌++◌, append_assoc, append-nil}
use Rattle.std.proofs.Common.{length, get_or, take, drop, length-drop}
use Rattle.std.proofs.Math.Seq.{take-length}
use Rattle.std.proofs.lemmas.List.{drop_more}
use Rattle.role_order.specs.Names.{is_name_byte}
use Rattle.cond_text.specs.declared.word.Placed.{Placed}
use Rattle.cond_text.specs.Words.{word_at, placed, words_from}

-- the text from a place on
pub from_place : (text : List ℕ) (at : ℕ) → take (length text - at) (drop at text) ≡ drop at text
from_place text at = ap (λ n. take n (drop at text)) (sym (length-drop at text)) ∙ take-length (drop at text)

word_step : (names : List (List ℕ)) (place : ℕ) (behind_name : Bool) (text rest : List ℕ) (b : ℕ) → text ≡ b ∷ rest
    → words_from names place behind_name text ≡ placed place (word_at names behind_name text) ++ words_from names (place + 1) (is_name_byte b) rest
unfolding words_from
word_step names place behind_name text rest b e =
    ap (words_from names place behind_name) e
    ∙ ap (λ t. placed place (word_at names behind_name t) ++ words_from names (place + 1) (is_name_byte b) rest) (sym e)

pub word_kept : (names : List (List ℕ)) (text : List ℕ) (at : ℕ) (behind_name : Bool) (list new : List Placed) → at < length text
    → new ≡ list ++ placed at (word_at names behind_name (drop at text))
    → new ++ words_from names (at + 1) (is_name_byte (get_or text at 0)) (drop (at + 1) text) ≡ list ++ words_from names at behind_name (drop at text)
word_kept names text at behind_name list new h e =
    ap (λ l. l ++ words_from names (at + 1) (is_name_byte (get_or text at 0)) (drop (at + 1) text)) e
    ∙ append_assoc list (placed at (word_at names behind_name (drop at text)))
    (words_from names (at + 1) (is_name_byte (get_or text at 0)) (drop (at + 1) text))
    ∙ ap (λ l. list ++ l) (sym (word_step names at behind_name (drop at text) (drop (at + 1) text) (get_or text at 0) (drop_more text at 0 h)))

pub words_end : (names : List (List ℕ)) (place : ℕ) (behind_name : Bool) (text : List ℕ) (list : List Placed) → text ≡ []
    → list ++ words_from names place behind_name text ≡ list
unfolding words_from
words_end names place behind_name text list e = ap (λ t. list ++ words_from names place behind_name t) e ∙ append-nil list
