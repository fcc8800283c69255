-- What is written, piece by piece.
use Rattle.std.proofs.Common.{ℕ, ◌≡◌, ◌∙◌, ap, refl, Bool, true, false, cond, List, [], ◌++◌, append_assoc, append-nil, get_or}
use Rattle.std.specs.Prelude.{codes}
use Rattle.arbac_policy.specs.Truth.{Term, any, has, lacks, both, either}
use Rattle.cond_text.specs.declared.level.Level.{Level}
use Rattle.cond_text.specs.declared.level.Level.TheVariants.{Operand, Conjunction, Condition}
use Rattle.cond_text.specs.Grammar.{Phrase, an_and, an_or, takes_and, takes_or}
use Rattle.cond_text.specs.Printing.{free_if, phrase_at, written}

-- five pieces behind what was there
abbrev five : List ℕ → List ℕ → List ℕ → List ℕ → List ℕ → List ℕ → List ℕ
five old o a m b c = ((((old ++ o) ++ a) ++ m) ++ b) ++ c

bare_five : (old a m b : List ℕ) → five old [] a m b [] ≡ old ++ (a ++ (m ++ b))
bare_five old a m b =
    append-nil ((((old ++ []) ++ a) ++ m) ++ b) ∙ ap (λ l. ((l ++ a) ++ m) ++ b) (append-nil old) ∙ append_assoc (old ++ a) m b
    ∙ append_assoc old a (m ++ b)

enclosed_five : (old o a m b c : List ℕ) → five old o a m b c ≡ old ++ (o ++ ((a ++ (m ++ b)) ++ c))
enclosed_five old o a m b c =
    ap (λ l. l ++ c) (append_assoc ((old ++ o) ++ a) m b ∙ append_assoc (old ++ o) a (m ++ b))
    ∙ append_assoc (old ++ o) (a ++ (m ++ b)) c ∙ append_assoc old o ((a ++ (m ++ b)) ++ c)

-- a phrase of two parts, in parentheses where it isn't free
free_written : (names : List (List ℕ)) (free : Bool) (r : Phrase) (old a m b : List ℕ) → a ++ (m ++ b) ≡ written names r
    → five old (cond free [] (codes "(")) a m b (cond free [] (codes ")")) ≡ old ++ written names (free_if free r)
unfolding written
free_written names true r old a m b e = bare_five old a m b ∙ ap (λ l. old ++ l) e
free_written names false r old a m b e = enclosed_five old (codes "(") a m b (codes ")") ∙ ap (λ l. old ++ (codes "(" ++ (l ++ codes ")"))) e

pieces_written : (names : List (List ℕ)) (free : Bool) (r : Phrase) (old a m b o1 a1 m1 b1 c1 o c : List ℕ) → a ++ (m ++ b) ≡ written names r
    → o ≡ cond free [] (codes "(") → c ≡ cond free [] (codes ")")
    → o1 ≡ old ++ o → a1 ≡ o1 ++ a → m1 ≡ a1 ++ m → b1 ≡ m1 ++ b → c1 ≡ b1 ++ c
    → c1 ≡ old ++ written names (free_if free r)
pieces_written names free r old a m b o1 a1 m1 b1 c1 o c e eo ec e1 e2 e3 e4 e5 =
    e5 ∙ ap (λ l. l ++ c) (e4 ∙ ap (λ l. l ++ b) (e3 ∙ ap (λ l. l ++ m) (e2 ∙ ap (λ l. l ++ a) (e1 ∙ ap (λ l. old ++ l) eo))))
    ∙ ap (λ l. five old (cond free [] (codes "(")) a m b l) ec
    ∙ free_written names free r old a m b e

and_parts : (names : List (List ℕ)) (p q : Phrase) → written names p ++ (codes " and " ++ written names q) ≡ written names (an_and p q)
unfolding written
and_parts names p q = refl

or_parts : (names : List (List ℕ)) (p q : Phrase) → written names p ++ (codes " or " ++ written names q) ≡ written names (an_or p q)
unfolding written
or_parts names p q = refl

pub and_written : (names : List (List ℕ)) (level : Level) (free : Bool) (t u : Term) (old o1 a1 m1 b1 c1 o c : List ℕ) → free ≡ takes_and level
    → o ≡ cond free [] (codes "(") → c ≡ cond free [] (codes ")")
    → o1 ≡ old ++ o → a1 ≡ o1 ++ written names (phrase_at Conjunction t) → m1 ≡ a1 ++ codes " and "
    → b1 ≡ m1 ++ written names (phrase_at Operand u) → c1 ≡ b1 ++ c
    → c1 ≡ old ++ written names (phrase_at level (both t u))
and_written names level free t u old o1 a1 m1 b1 c1 o c e eo ec e1 e2 e3 e4 e5 =
    pieces_written names free (an_and (phrase_at Conjunction t) (phrase_at Operand u)) old (written names (phrase_at Conjunction t))
    (codes " and ") (written names (phrase_at Operand u))
    o1 a1 m1 b1 c1 o c (and_parts names (phrase_at Conjunction t) (phrase_at Operand u)) eo ec e1 e2 e3 e4 e5
    ∙ ap (λ f. old ++ written names (free_if f (an_and (phrase_at Conjunction t) (phrase_at Operand u)))) e

pub or_written : (names : List (List ℕ)) (level : Level) (free : Bool) (t u : Term) (old o1 a1 m1 b1 c1 o c : List ℕ) → free ≡ takes_or level
    → o ≡ cond free [] (codes "(") → c ≡ cond free [] (codes ")")
    → o1 ≡ old ++ o → a1 ≡ o1 ++ written names (phrase_at Condition t) → m1 ≡ a1 ++ codes " or "
    → b1 ≡ m1 ++ written names (phrase_at Conjunction u) → c1 ≡ b1 ++ c
    → c1 ≡ old ++ written names (phrase_at level (either t u))
or_written names level free t u old o1 a1 m1 b1 c1 o c e eo ec e1 e2 e3 e4 e5 =
    pieces_written names free (an_or (phrase_at Condition t) (phrase_at Conjunction u)) old (written names (phrase_at Condition t)) (codes " or ")
    (written names (phrase_at Conjunction u))
    o1 a1 m1 b1 c1 o c (or_parts names (phrase_at Condition t) (phrase_at Conjunction u)) eo ec e1 e2 e3 e4 e5
    ∙ ap (λ f. old ++ written names (free_if f (an_or (phrase_at Condition t) (phrase_at Conjunction u)))) e

pub any_written : (names : List (List ℕ)) (level : Level) → written names (phrase_at level any) ≡ codes "any"
unfolding written
any_written names level = refl

pub has_written : (names : List (List ℕ)) (level : Level) (role : ℕ) → written names (phrase_at level (has role)) ≡ get_or names role []
unfolding written
has_written names level role = refl

pub lacks_written : (names : List (List ℕ)) (level : Level) (role : ℕ) (old mid new : List ℕ) → mid ≡ old ++ codes "not "
    → new ≡ mid ++ get_or names role []
    → new ≡ old ++ written names (phrase_at level (lacks role))
unfolding written
lacks_written names level role old mid new e f = f ∙ ap (λ l. l ++ get_or names role []) e ∙ append_assoc old (codes "not ") (get_or names role [])
