-- Words within the limits have no fault, and a condition of few terms is printed within them.
use Rattle.std.proofs.Common.{ℕ, ◌≡◌, ◌+◌, ◌-◌, ◌<◌, ◌≤◌, ap, subst, sym, arith, max, Bool, true, false, List, [], ◌∷◌}
use Rattle.std.proofs.Common.{◌++◌, append_assoc}
use Rattle.cond_text.specs.declared.word.Placed.{Placed}
use Rattle.cond_text.specs.declared.word.Word.{Word}
use Rattle.cond_text.specs.declared.word.Word.TheVariants.{Any, Name, Not, And, Or, Open, Close, Stray}
use Rattle.arbac_policy.specs.Truth.{Term, any, has, lacks, both, either, IsKnown}
use Rattle.cond_text.specs.Grammar.{Phrase, an_any, a_name, a_not, enclosed, an_and, an_or, takes_and, takes_or, spell, value, term_count, Stands}
use Rattle.cond_text.specs.declared.TheConstants.{MOST_TERMS, MOST_OPEN}
use Rattle.cond_text.specs.declared.level.Level.{Level}
use Rattle.cond_text.specs.declared.level.Level.TheVariants.{Operand, Conjunction, Condition}
use Rattle.cond_text.specs.Words.{plain}
use Rattle.cond_text.specs.Faults.{weight, terms_in, open_behind, open_after, BeginsWithName, IsTooDeep, AreFine, IsShallow, AreKnown}
use Rattle.cond_text.specs.Printing.{free_if, phrase_at}
use Rattle.cond_text.proofs.FewestLemmas.{phrase_value}
use Rattle.cond_text.proofs.JudgeLemmas.{terms_more, open_more}

name_weighs : (rest : List Placed) → BeginsWithName rest → 1 ≤ terms_in (plain rest)
name_weighs [] h = absurd h
name_weighs (x ∷ xs) h = let e = ap weight h.1 in omega (arith, e)

not_deep : (before : List Word) (w : Word) (rest : List Placed) → terms_in before + (weight w + terms_in (plain rest)) ≤ MOST_TERMS
    → open_behind (open_after 0 before) w ≤ MOST_OPEN → IsTooDeep before w rest → ⊥
not_deep before Any rest h k d = absurd (omega arith)
not_deep before (Name role) rest h k d = absurd (omega arith)
not_deep before Not rest h k d = absurd (omega (arith, name_weighs rest d.1, d.0))
not_deep before Open rest h k d = absurd (omega arith)
not_deep before And rest h k d = d
not_deep before Or rest h k d = d
not_deep before Close rest h k d = d
not_deep before Stray rest h k d = d

shallow_along : (m n : ℕ) (ws : List Word) → m ≡ n → IsShallow m ws → IsShallow n ws
shallow_along m n ws e h = let P : ℕ → Type 0 = λ k. IsShallow k ws in subst P e h

-- words within the limits have no fault
pub fine_all : (count : ℕ) (ws : List Placed) (before : List Word) (t : Term) → Stands (before ++ plain ws) t
    → terms_in before + terms_in (plain ws) ≤ MOST_TERMS
    → IsShallow (open_after 0 before) (plain ws) → AreKnown count (plain ws) → AreFine count before ws
fine_all count [] before t st few shallow known = tt
fine_all count (x ∷ xs) before t st few shallow known =
    let e = append_assoc before (x.word ∷ []) (plain xs) in
    let st2 : Stands ((before ++ (x.word ∷ [])) ++ plain xs) t = subst (λ (ws : List Word). Stands ws t) (sym e) st in (
      record { expected = record { more = plain xs; term = t; stands = st2 }; shallow = not_deep before x.word xs few shallow.0; known = known.0 },
      fine_all count xs (before ++ (x.word ∷ [])) t st2 (omega (arith, terms_more before x.word))
          (shallow_along _ _ (plain xs) (sym (open_more 0 before x.word)) shallow.1) known.1,
    )

depth : Phrase → ℕ
depth an_any = 0
depth (a_name role) = 0
depth (a_not role) = 0
depth (enclosed p) = depth p + 1
depth (an_and p q) = max (depth p) (depth q)
depth (an_or p q) = max (depth p) (depth q)

shallow_spell : (p : Phrase) (n : ℕ) (rest : List Word) → n + depth p ≤ MOST_OPEN → IsShallow n rest → IsShallow n (spell p rest)
unfolding depth
shallow_spell an_any n rest h k = (omega arith, k)
shallow_spell (a_name role) n rest h k = (omega arith, k)
shallow_spell (a_not role) n rest h k = (omega arith, (omega arith, k))
shallow_spell (enclosed p) n rest h k =
    (omega arith, shallow_spell p (n + 1) (Close ∷ rest) (omega arith) (omega arith, shallow_along n ((n + 1) - 1) rest (omega arith) k))
shallow_spell (an_and p q) n rest h k = shallow_spell p n (And ∷ spell q rest) (omega arith) (omega arith, shallow_spell q n rest (omega arith) k)
shallow_spell (an_or p q) n rest h k = shallow_spell p n (Or ∷ spell q rest) (omega arith) (omega arith, shallow_spell q n rest (omega arith) k)

known_spell : (count : ℕ) (p : Phrase) (rest : List Word) → IsKnown count (value p) → AreKnown count rest → AreKnown count (spell p rest)
known_spell count an_any rest h k = ((λ e. e), k)
known_spell count (a_name role) rest h k = ((λ e. absurd (omega arith)), k)
known_spell count (a_not role) rest h k = ((λ e. e), ((λ e. absurd (omega arith)), k))
known_spell count (enclosed p) rest h k = ((λ e. e), known_spell count p (Close ∷ rest) h ((λ e. e), k))
known_spell count (an_and p q) rest h k = known_spell count p (And ∷ spell q rest) h.0 ((λ e. e), known_spell count q rest h.1 k)
known_spell count (an_or p q) rest h k = known_spell count p (Or ∷ spell q rest) h.0 ((λ e. e), known_spell count q rest h.1 k)

pub terms_spell : (p : Phrase) (rest : List Word) → terms_in (spell p rest) ≡ term_count (value p) + terms_in rest
terms_spell an_any rest = omega arith
terms_spell (a_name role) rest = omega arith
terms_spell (a_not role) rest = omega arith
terms_spell (enclosed p) rest = omega (arith, terms_spell p (Close ∷ rest))
terms_spell (an_and p q) rest = omega (arith, terms_spell p (And ∷ spell q rest), terms_spell q rest)
terms_spell (an_or p q) rest = omega (arith, terms_spell p (Or ∷ spell q rest), terms_spell q rest)

free_depth : (free : Bool) (p : Phrase) → depth (free_if free p) ≤ depth p + 1
unfolding depth
free_depth true p = omega arith
free_depth false p = omega arith

-- fewer parentheses are open at once than the term has parts
depth_below : (level : Level) (t : Term) → depth (phrase_at level t) < term_count t
unfolding depth
depth_below level any = omega arith
depth_below level (has role) = omega arith
depth_below level (lacks role) = omega arith
depth_below level (both t u) =
    omega (arith, free_depth (takes_and level) (an_and (phrase_at Conjunction t) (phrase_at Operand u)), depth_below Conjunction t, depth_below Operand u)
depth_below level (either t u) =
    omega (arith, free_depth (takes_or level) (an_or (phrase_at Condition t) (phrase_at Conjunction u)), depth_below Condition t, depth_below Conjunction u)

-- the words of the printed phrase have no fault
pub printed_fine : (count : ℕ) (ws : List Placed) (t : Term) → plain ws ≡ spell (phrase_at Condition t) [] → Stands (plain ws) t
    → term_count t ≤ MOST_TERMS → IsKnown count t → AreFine count [] ws
printed_fine count ws t e st few roles =
    let v = phrase_value Condition t in
    let P : Term → Type 0 = λ u. IsKnown count u in
    let Q : List Word → Type 0 = λ w. IsShallow 0 w in
    let R : List Word → Type 0 = λ w. AreKnown count w in
    fine_all count ws [] t st
    (omega (arith, ap terms_in e, terms_spell (phrase_at Condition t) [], ap term_count v))
    (subst Q (sym e) (shallow_spell (phrase_at Condition t) 0 [] (omega (arith, depth_below Condition t)) tt))
    (subst R (sym e) (known_spell count (phrase_at Condition t) [] (subst P (sym v) roles) tt))

-- no more terms than the limit are without a fault
few_words : (count : ℕ) (before : List Word) (ws : List Placed) → terms_in before ≤ MOST_TERMS → AreFine count before ws
    → terms_in before + terms_in (plain ws) ≤ MOST_TERMS
few_words count before [] h fine = omega arith
few_words count before (x ∷ xs) h fine =
    let here : terms_in (before ++ (x.word ∷ [])) ≤ MOST_TERMS = rw (terms_more before x.word) (room before x.word xs h fine.0.shallow) in
    let rest = few_words count (before ++ (x.word ∷ [])) xs here fine.1 in
    omega (arith, rest, terms_more before x.word)
  where
    below : (n : ℕ) → n ≤ MOST_TERMS → (MOST_TERMS ≤ n → ⊥) → n + 1 ≤ MOST_TERMS
    below n l h = grind arith

    room : (before : List Word) (w : Word) (rest : List Placed) → terms_in before ≤ MOST_TERMS → (IsTooDeep before w rest → ⊥)
        → terms_in before + weight w ≤ MOST_TERMS
    room before Any rest l h = below (terms_in before) l h
    room before (Name role) rest l h = below (terms_in before) l h
    room before Not rest l h = omega arith
    room before And rest l h = omega arith
    room before Or rest l h = omega arith
    room before Open rest l h = omega arith
    room before Close rest l h = omega arith
    room before Stray rest l h = omega arith

known_words : (count : ℕ) (before : List Word) (ws : List Placed) → AreFine count before ws → AreKnown count (plain ws)
known_words count before [] fine = tt
known_words count before (x ∷ xs) fine = (fine.0.known, known_words count (before ++ (x.word ∷ [])) xs fine.1)

below_count : (count role : ℕ) → (count ≤ role → ⊥) → role < count
below_count count role h = grind arith

spelled_known : (count : ℕ) (p : Phrase) (rest : List Word) → AreKnown count (spell p rest) → IsKnown count (value p) × AreKnown count rest
spelled_known count an_any rest k = (tt, k.1)
spelled_known count (a_name role) rest k = (below_count count role k.0, k.1)
spelled_known count (a_not role) rest k = (below_count count role k.1.0, k.1.1)
spelled_known count (enclosed p) rest k = let r = spelled_known count p (Close ∷ rest) k.1 in (r.0, r.1.1)
spelled_known count (an_and p q) rest k =
    let l = spelled_known count p (And ∷ spell q rest) k in let r = spelled_known count q rest l.1.1 in ((l.0, r.0), r.1)
spelled_known count (an_or p q) rest k = let l = spelled_known count p (Or ∷ spell q rest) k in let r = spelled_known count q rest l.1.1 in ((l.0, r.0), r.1)

-- what words without a fault stand for has few terms, each of a role
pub fine_term : (count : ℕ) (ws : List Placed) (t : Term) → Stands (plain ws) t → AreFine count [] ws → IsKnown count t × (term_count t ≤ MOST_TERMS)
fine_term count ws t st fine =
    let P : List Word → Type 0 = λ w. AreKnown count w in
    let Q : Term → Type 0 = λ u. IsKnown count u in
    let known = spelled_known count st.phrase [] (subst P (sym st.spelled) (known_words count [] ws fine)) in
    let few = few_words count [] ws (omega arith) fine in
    (subst Q st.valued known.0, omega (arith, few, ap terms_in st.spelled, terms_spell st.phrase [], ap term_count st.valued))
