-- What the printed text is.
use Rattle.std.proofs.Common.{ℕ, ◌≡◌, ◌≤◌, ◌∙◌, ap, subst, sym, arith, List, length}
use Rattle.role_order.specs.Refusals.{AreNames}
use Rattle.arbac_policy.specs.Truth.{Term, IsKnown}
use Rattle.cond_text.specs.declared.TheConstants.{MOST_TERMS}
use Rattle.cond_text.specs.Words.{words, placed_words}
use Rattle.cond_text.specs.Grammar.{term_count}
use Rattle.cond_text.specs.Printing.{text_of, parentheses}
use Rattle.cond_text.specs.Reading.{StandsFor, IsFaultless}
use Rattle.cond_text.proofs.FewestLemmas.{opens, fewest_words}
use Rattle.cond_text.proofs.LimitLemmas.{printed_fine}
use Rattle.cond_text.proofs.NameLemmas.{proper}
use Rattle.cond_text.proofs.ParenthesisLemmas.{opens_words}
use Rattle.cond_text.proofs.TextLemmas.{text_words, text_stands}

pub stands_of : (names : List (List ℕ)) (t : Term) (bytes : List ℕ) → AreNames names → IsKnown (length names) t → bytes ≡ text_of names t
    → StandsFor names bytes t
stands_of names t bytes ok known e = let P : List ℕ → Type 0 = λ b. StandsFor names b t in subst P (sym e) (text_stands names t (proper names ok) known)

pub fewest_of : (names : List (List ℕ)) (t : Term) (bytes : List ℕ) → AreNames names → IsKnown (length names) t → bytes ≡ text_of names t
    → (other : List ℕ) → StandsFor names other t → parentheses bytes ≤ parentheses other
fewest_of names t bytes ok known e other st =
    let mine = ap parentheses e ∙ sym (opens_words names (text_of names t)) ∙ ap opens (text_words names t (proper names ok) known) in
    omega (arith, mine, fewest_words (words names other) t st, opens_words names other)

pub back_of : (names : List (List ℕ)) (t : Term) (bytes : List ℕ) → AreNames names → IsKnown (length names) t → bytes ≡ text_of names t
    → term_count t ≤ MOST_TERMS → IsFaultless names bytes
back_of names t bytes ok known e few =
    let P : List ℕ → Type 0 = λ b. IsFaultless names b in
    subst P (sym e) (printed_fine (length names) (placed_words names (text_of names t)) t (text_words names t (proper names ok) known)
    (text_stands names t (proper names ok) known) few known)
