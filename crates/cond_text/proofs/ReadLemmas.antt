-- What the loop over the words keeps, and what its end says of the text.
use Rattle.std.proofs.Common.{◌≡◌, ℕ, ◌≤◌, ◌+◌, ap, subst, sym, refl, arith, List, [], ◌∷◌, length, Some, Result, Ok, Err, IfOk}
use Rattle.std.proofs.Common.{IfErr, inl, inr}
use Rattle.arbac_policy.specs.declared.cond.Cond.{Cond}
use Rattle.arbac_policy.specs.Truth.{Term, term_of, IsKnown}
use Rattle.cond_text.specs.declared.word.Word.{Word}
use Rattle.cond_text.specs.declared.word.Word.TheVariants.{Any, Name, Not, And, Or, Open, Close, Stray}
use Rattle.cond_text.specs.declared.word.Placed.{Placed}
use Rattle.cond_text.specs.declared.cond_error.CondError.{CondError}
use Rattle.cond_text.specs.declared.cond_error.CondError.TheVariants.{Unexpected, UnknownRole, TooDeep, Memory}
use Rattle.cond_text.specs.declared.TheConstants.{MOST_TERMS}
use Rattle.cond_text.specs.Words.{placed_words}
use Rattle.cond_text.specs.Machine.{State, start}
use Rattle.cond_text.specs.Faults.{weight}
use Rattle.cond_text.specs.Judge.{◌>>=◌, begins_with_name, advance, judge}
use Rattle.cond_text.specs.Views.{uncons, Gives}
use Rattle.cond_text.specs.Grammar.{term_count}
use Rattle.cond_text.specs.Reading.{StandsFor, IsFaultless, IsWithin, Reads, IsRefused, IsFirstOf, Refuses}
use Rattle.cond_text.proofs.JudgeLemmas.{told_ok, told_err, told_only, clash}
use Rattle.cond_text.proofs.FaultLemmas.{one_fault}
use Rattle.cond_text.proofs.LimitLemmas.{fine_all, fine_term}

pub judge_step : (count size : ℕ) (s next : State) (terms : ℕ) (rest : List Placed) (p : Placed × List Placed) → Some p ≡ uncons rest
    → advance count s terms p.0.place (begins_with_name p.1) p.0.word ≡ Ok next
    → judge count size next (terms + weight p.0.word) p.1 ≡ judge count size s terms rest
judge_step count size s next terms [] p e h = absurd (cc)
judge_step count size s next terms (y ∷ ys) p e h =
    let same : p ≡ (y, ys) = cc in
    let family : Placed × List Placed → Type 0 = λ q. advance count s terms q.0.place (begins_with_name q.1) q.0.word ≡ Ok next
    → judge count size next (terms + weight q.0.word) q.1 ≡ judge count size s terms (y ∷ ys) in
    let at : family (y, ys) = λ k. sym (ap (λ r. r >>= λ n. judge count size n (terms + weight y.word) ys) k) in
    (subst family (sym same) at) h

weight_one : (w : Word) → weight w ≤ 1
weight_one Any = omega arith
weight_one (Name role) = omega arith
weight_one Not = omega arith
weight_one And = omega arith
weight_one Or = omega arith
weight_one Open = omega arith
weight_one Close = omega arith
weight_one Stray = omega arith

pub few_step : (terms : ℕ) (rest : List Placed) (p : Placed × List Placed) → Some p ≡ uncons rest
    → (terms + weight p.0.word) + length p.1 ≤ terms + length rest
few_step terms [] p e = absurd (cc)
few_step terms (y ∷ ys) p e =
    let same : p ≡ (y, ys) = cc in
    let a = ap (λ q. weight q.0.word + length q.1) same in
    omega (arith, a, weight_one y.word)

-- reading the text gives the result, unless memory runs out
abbrev pub IsRead : List (List ℕ) → List ℕ → Result Cond CondError → Type 0
IsRead names text result = Gives term_of result (judge (length names) (length text) start 0 (placed_words names text))

pub found_of : (names : List (List ℕ)) (text : List ℕ) (r : Result Cond CondError) → IsRead names text r
    → IfOk r (λ cond. StandsFor names text (term_of cond) × IsFaultless names text)
found_of names text (Ok cond) h = told_ok (length names) (length text) (placed_words names text) (term_of cond) h
found_of names text (Err error) h = tt

reads_of : (r : Result Cond CondError) (t : Term) → Gives term_of r (Ok t) → Reads r t
reads_of (Ok cond) t h = cc
reads_of (Err (Unexpected place)) t h = absurd (cc)
reads_of (Err (UnknownRole place)) t h = absurd (cc)
reads_of (Err (TooDeep place)) t h = absurd (cc)
reads_of (Err Memory) t h = refl

pub only_of : (names : List (List ℕ)) (text : List ℕ) (r : Result Cond CondError) → IsRead names text r
    → (term : Term) → StandsFor names text term → IsFaultless names text → Reads r term
only_of names text r h term st fine =
    let P : Result Term CondError → Type 0 = λ j. Gives term_of r j in
    reads_of r term (subst P (told_only (length names) (length text) (placed_words names text) term st fine) h)

pub within_of : (names : List (List ℕ)) (text : List ℕ) (r : Result Cond CondError) → IsRead names text r
    → (term : Term) → StandsFor names text term → IsWithin names text → Reads r term
within_of names text r h term st within =
    only_of names text r h term st (fine_all (length names) (placed_words names text) [] term st (omega (arith, within.few)) within.shallow within.known)

pub first_of : (names : List (List ℕ)) (text : List ℕ) (r : Result Cond CondError) → IsRead names text r → IfErr r (IsRefused names text)
first_of names text (Ok cond) h = tt
first_of names text (Err (Unexpected place)) h = told_err (length names) (length text) (placed_words names text) (Unexpected place) h
first_of names text (Err (UnknownRole place)) h = told_err (length names) (length text) (placed_words names text) (UnknownRole place) h
first_of names text (Err (TooDeep place)) h = told_err (length names) (length text) (placed_words names text) (TooDeep place) h
first_of names text (Err Memory) h = tt

-- what is read has few terms, each of a role
pub known_of : (names : List (List ℕ)) (text : List ℕ) (r : Result Cond CondError) → IsRead names text r
    → IfOk r (λ cond. IsKnown (length names) (term_of cond))
known_of names text (Ok cond) h =
    let f = told_ok (length names) (length text) (placed_words names text) (term_of cond) h in
    (fine_term (length names) (placed_words names text) (term_of cond) f.0 f.1).0
known_of names text (Err error) h = tt

pub few_of : (names : List (List ℕ)) (text : List ℕ) (r : Result Cond CondError) → IsRead names text r
    → IfOk r (λ cond. term_count (term_of cond) ≤ MOST_TERMS)
few_of names text (Ok cond) h =
    let f = told_ok (length names) (length text) (placed_words names text) (term_of cond) h in
    (fine_term (length names) (placed_words names text) (term_of cond) f.0 f.1).1
few_of names text (Err error) h = tt

pub told_of : (names : List (List ℕ)) (text : List ℕ) (r : Result Cond CondError) → IsRead names text r → (fault : CondError)
    → IsFirstOf names text fault → Refuses r fault
told_of names text (Ok cond) h fault first =
    let f = told_ok (length names) (length text) (placed_words names text) (term_of cond) h in
    clash (length names) (length text) (placed_words names text) [] fault (term_of cond) first f.1 f.0
told_of names text (Err (Unexpected place)) h fault first =
    inl (one_fault (length names) (length text) [] (placed_words names text) (Unexpected place) fault (first_of names text (Err (Unexpected place)) h) first)
told_of names text (Err (UnknownRole place)) h fault first =
    inl (one_fault (length names) (length text) [] (placed_words names text) (UnknownRole place) fault
    (first_of names text (Err (UnknownRole place)) h) first)
told_of names text (Err (TooDeep place)) h fault first =
    inl (one_fault (length names) (length text) [] (placed_words names text) (TooDeep place) fault (first_of names text (Err (TooDeep place)) h) first)
told_of names text (Err Memory) h fault first = inr refl
