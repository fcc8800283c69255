-- The printed phrase is of the grammar, stands for its term, and has the fewest parentheses.
use Rattle.std.proofs.Common.{◌≡◌, ℕ, ◌≤◌, ◌+◌, ◌∙◌, ap, refl, arith, Bool, true, false, List, [], ◌∷◌}
use Rattle.std.proofs.lemmas.Bool.{false≢true}
use Rattle.cond_text.specs.declared.level.Level.{Level}
use Rattle.cond_text.specs.declared.level.Level.TheVariants.{Operand, Conjunction, Condition}
use Rattle.cond_text.specs.declared.word.Word.{Word}
use Rattle.cond_text.specs.declared.word.Word.TheVariants.{Any, Name, Not, And, Or, Open, Close, Stray}
use Rattle.arbac_policy.specs.Truth.{Term, any, has, lacks, both, either}
use Rattle.cond_text.specs.Grammar.{Phrase, an_any, a_name, a_not, enclosed, an_and, an_or, takes_and, takes_or, IsAt, spell, value, Stands}
use Rattle.cond_text.specs.Printing.{free_if, phrase_at}

and_at : (level : Level) (p q : Phrase) → IsAt Conjunction p → IsAt Operand q → IsAt level (free_if (takes_and level) (an_and p q))
and_at Operand p q h k = (refl, h, k)
and_at Conjunction p q h k = (refl, h, k)
and_at Condition p q h k = (refl, h, k)

or_at : (level : Level) (p q : Phrase) → IsAt Condition p → IsAt Conjunction q → IsAt level (free_if (takes_or level) (an_or p q))
or_at Operand p q h k = (refl, h, k)
or_at Conjunction p q h k = (refl, h, k)
or_at Condition p q h k = (refl, h, k)

-- the printed phrase is of the level
pub phrase_at_level : (level : Level) (t : Term) → IsAt level (phrase_at level t)
phrase_at_level level any = tt
phrase_at_level level (has role) = tt
phrase_at_level level (lacks role) = tt
phrase_at_level level (both t u) = and_at level (phrase_at Conjunction t) (phrase_at Operand u) (phrase_at_level Conjunction t) (phrase_at_level Operand u)
phrase_at_level level (either t u) =
    or_at level (phrase_at Condition t) (phrase_at Conjunction u) (phrase_at_level Condition t) (phrase_at_level Conjunction u)

free_value : (free : Bool) (p : Phrase) → value (free_if free p) ≡ value p
free_value true p = refl
free_value false p = refl

-- the printed phrase stands for the term
pub phrase_value : (level : Level) (t : Term) → value (phrase_at level t) ≡ t
phrase_value level any = refl
phrase_value level (has role) = refl
phrase_value level (lacks role) = refl
phrase_value level (both t u) =
    free_value (takes_and level) (an_and (phrase_at Conjunction t) (phrase_at Operand u))
    ∙ ap (λ x. both x (value (phrase_at Operand u))) (phrase_value Conjunction t)
    ∙ ap (λ y. both t y) (phrase_value Operand u)
phrase_value level (either t u) =
    free_value (takes_or level) (an_or (phrase_at Condition t) (phrase_at Conjunction u)) ∙ ap (λ x. either x (value (phrase_at Conjunction u)))
    (phrase_value Condition t)
    ∙ ap (λ y. either t y) (phrase_value Conjunction u)

-- how many pairs of parentheses a phrase has
abbrev pub pairs : Phrase → ℕ
pairs an_any = 0
pairs (a_name role) = 0
pairs (a_not role) = 0
pairs (enclosed p) = 1 + pairs p
pairs (an_and p q) = pairs p + pairs q
pairs (an_or p q) = pairs p + pairs q

free_pairs : (free : Bool) (p : Phrase) → pairs (free_if free p) ≤ 1 + pairs p
free_pairs true p = omega arith
free_pairs false p = omega arith

-- at any level at most one pair more than as a whole condition
one_more : (level : Level) (t : Term) → pairs (phrase_at level t) ≤ 1 + pairs (phrase_at Condition t)
one_more level any = omega arith
one_more level (has role) = omega arith
one_more level (lacks role) = omega arith
one_more level (both t u) = free_pairs (takes_and level) (an_and (phrase_at Conjunction t) (phrase_at Operand u))
one_more level (either t u) = free_pairs (takes_or level) (an_or (phrase_at Condition t) (phrase_at Conjunction u))

free_at : (free : Bool) (p : Phrase) → free ≡ true → free_if free p ≡ p
free_at true p h = refl
free_at false p h = absurd (false≢true h)

-- no phrase of the level with the same value has fewer
pub fewest : (level : Level) (p : Phrase) → IsAt level p → pairs (phrase_at level (value p)) ≤ pairs p
fewest level an_any h = omega arith
fewest level (a_name role) h = omega arith
fewest level (a_not role) h = omega arith
fewest level (enclosed p) h = omega (arith, one_more level (value p), fewest Condition p h)
fewest level (an_and p q) h =
    let e = ap pairs (free_at (takes_and level) (an_and (phrase_at Conjunction (value p)) (phrase_at Operand (value q))) h.0) in
    omega (arith, e, fewest Conjunction p h.1, fewest Operand q h.2)
fewest level (an_or p q) h =
    let e = ap pairs (free_at (takes_or level) (an_or (phrase_at Condition (value p)) (phrase_at Conjunction (value q))) h.0) in
    omega (arith, e, fewest Condition p h.1, fewest Conjunction q h.2)

abbrev pub open_weight : Word → ℕ
open_weight Open = 1
open_weight Any = 0
open_weight (Name role) = 0
open_weight Not = 0
open_weight And = 0
open_weight Or = 0
open_weight Close = 0
open_weight Stray = 0

-- how many of the words open a parenthesis
abbrev pub opens : List Word → ℕ
opens [] = 0
opens (w ∷ ws) = open_weight w + opens ws

opens_spell : (p : Phrase) (rest : List Word) → opens (spell p rest) ≡ pairs p + opens rest
opens_spell an_any rest = omega arith
opens_spell (a_name role) rest = omega arith
opens_spell (a_not role) rest = omega arith
opens_spell (enclosed p) rest = omega (arith, opens_spell p (Close ∷ rest))
opens_spell (an_and p q) rest = omega (arith, opens_spell p (And ∷ spell q rest), opens_spell q rest)
opens_spell (an_or p q) rest = omega (arith, opens_spell p (Or ∷ spell q rest), opens_spell q rest)

-- no words that stand for the term open fewer parentheses
pub fewest_words : (ws : List Word) (t : Term) → Stands ws t → opens (spell (phrase_at Condition t) []) ≤ opens ws
fewest_words ws t h =
    let a = fewest Condition h.phrase h.whole in
    let b = ap (λ u. pairs (phrase_at Condition u)) h.valued in
    let d = ap opens h.spelled in
    omega (arith, a, b, d, opens_spell (phrase_at Condition t) [], opens_spell h.phrase [])
