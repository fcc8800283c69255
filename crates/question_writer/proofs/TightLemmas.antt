-- A document whose lines stand one after another, with no empty line before a header, reads as its expressions.
use Rattle.std.proofs.Common.{◌≡◌, ℕ, suc, ◌-◌, ◌<◌, true, false, ◌==◌, List, [], ◌∷◌, ◌++◌, length, Option, Some, None}
use Rattle.std.proofs.Common.{option_and_then, refl, sym, ap, ◌∙◌, arith}
use Rattle.std.proofs.lemmas.Bool.Decides.{nat_tests}
use Rattle.toml_parser.specs.Lexical.{first, skip_blank}
use Rattle.toml_parser.proofs.LexicalLemmas.{skip_from-nil}
use Rattle.toml.specs.Tables.{Document, Expression, define, no_nodes, close}
use Rattle.toml.specs.Parse.{line, lines, parse_document, skip_bom}
use Rattle.toml.specs.Text.{IsLineText}
use Rattle.toml.proofs.Turns.{lines_end, lines_more, lines_refused, document_some}
use Rattle.toml.proofs.Blanks.{skip_newline, skip_within}
use Rattle.toml.proofs.ReadLines.{run, AllPrinted, line_turn}

-- each expression on lines of its own, and nothing else
abbrev pub IsTightText : List Expression → List ℕ → Type 0
IsTightText [] text = text ≡ []
IsTightText (e ∷ es) text = (this : List ℕ) × (rest : List ℕ) × (text ≡ this ++ rest) × IsLineText false false e.0 e.1 this × IsTightText es rest

one_line : (m : ℕ) (doc : Document) (x : List ℕ) (e : Expression) (after : List ℕ) (es : List Expression) (defined : Option Document)
    → defined ≡ define doc e → 0 < m → (length (skip_blank x) == 0) ≡ false
    → line (skip_blank x) ≡ Some (e, after) → ((next : Document) → lines (m - 1) next after ≡ option_and_then (λ n. run n es) (Some next))
    → lines m doc x ≡ option_and_then (λ n. run n es) defined
one_line m doc x e after es None same some other read more = lines_refused m doc x e after some other read (sym same)
one_line m doc x e after es (Some next) same some other read more = lines_more m doc next x e after some other read (sym same) ∙ more next

pub tight_lines : (es : List Expression) (text x : List ℕ) (doc : Document) (m : ℕ) → IsTightText es text → AllPrinted es
    → skip_blank x ≡ skip_blank text → length x < m → lines m doc x ≡ run doc es
tight_lines [] text x doc m h ok skip room =
    lines_end m doc x (omega arith) (rw (skip, h, skip_from-nil true false) refl)
tight_lines (e ∷ es) text x doc m h ok skip room =
    let (this, rest, whole, line_text, more) = h in
    let (s, at_start, read, some, shorter, not_bom) = line_turn false false e.0 e.1 this rest line_text ok.0 in
    let same : skip_blank x ≡ s = skip ∙ rw whole at_start in
    let other : (length (skip_blank x) == 0) ≡ false = rw same (grind (arith, nat_tests)) in
    let within = skip_within x in
    one_line m doc x e (10 ∷ rest) es (define doc e) refl (omega arith) other (rw same read)
    (λ next. tight_lines es rest (10 ∷ rest) next (m - 1) more ok.1 (skip_newline rest) (omega (arith, ap length same)))

not_mark : (es : List Expression) (text : List ℕ) → IsTightText es text → AllPrinted es → (first text == 239) ≡ false
not_mark [] text h ok = rw h refl
not_mark (e ∷ es) text h ok =
    let (this, rest, whole, line_text, more) = h in
    let turn = line_turn false false e.0 e.1 this rest line_text ok.0 in
    rw whole turn.5

no_skip : (text : List ℕ) → (first text == 239) ≡ false → skip_bom text ≡ text
unfolding skip_bom
no_skip text h = rw h refl

-- the text is read as what the expressions define, in turn
pub tight_document : (es : List Expression) (text : List ℕ) (doc : Document) → IsTightText es text → AllPrinted es
    → run (no_nodes, []) es ≡ Some doc → parse_document text ≡ Some (close doc.0)
tight_document es text doc h ok ran =
    document_some text doc
    (rw (no_skip text (not_mark es text h ok)) (tight_lines es text text (no_nodes, []) (suc (length text)) h ok refl (omega arith) ∙ ran))
