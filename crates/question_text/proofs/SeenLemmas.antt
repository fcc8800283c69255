-- Outcomes over values as they are seen.
use Rattle.std.proofs.Common.{ℕ, ◌+◌, List, [], ◌∷◌, map, Option, Result, Ok, Err, ap, inl, inr}
use Rattle.std.specs.Prelude.{Vec}
use Rattle.std.specs.declared.alloc.Global.{Global}
use Rattle.toml.specs.Data.{Data}
use Rattle.question_text.specs.declared.question_error.QuestionError.{QuestionError}
use Rattle.question_text.specs.Outcomes.{Fault, Outcome, seen_as, in_turn}
use Rattle.question_text.specs.Keys.{entries, entry_of}
use Rattle.question_text.specs.Answers.{fault_of, IsToldBy, Answers}
use Rattle.question_text.proofs.OutcomeLemmas.{same_ok, same_err, no_ok_err}
use Rattle.question_text.proofs.TableLemmas.{told_so}

-- what answers by the view answers the outcome over the values themselves
pub seen_answer : {A B : Type 0} (view : A → B) (outcome : Outcome B) (result : Result A QuestionError) → Answers view outcome result
    → Answers (λ value. value) (seen_as view outcome) result
seen_answer view outcome (Ok value) h = h
seen_answer view outcome (Err error) h = told_so outcome (seen_as view outcome) (fault_of error) (λ fault k. k) h

turn_seen : {A B C : Type 0} (view : A → B) (read : ℕ → C → Outcome B) (place : ℕ) (xs : List C) (values : List A)
    → in_turn (λ i x. seen_as view (read i x)) place xs (Ok values) → in_turn read place xs (Ok (map view values))
turn_seen view read place [] values h = ap (λ (vs : List _). Ok (map view vs)) (same_ok values [] h)
turn_seen view read place (x ∷ xs) values (inl h) = absurd (no_ok_err values h.0 h.2)
turn_seen view read place (x ∷ xs) values (inr (value, here, inl more)) = absurd (no_ok_err values more.0 more.2)
turn_seen view read place (x ∷ xs) values (inr (value, here, inr more)) =
    inr (
      view value,
      here,
      inr (
        map view more.0,
        turn_seen view read (place + 1) xs more.0 more.1,
        ap (λ (vs : List _). Ok (map view vs))
            (same_ok values (value ∷ more.0) more.2),
      ),
    )

turn_told : {A B C : Type 0} (view : A → B) (read : ℕ → C → Outcome B) (place : ℕ) (xs : List C) (fault : Fault)
    → in_turn (λ i x. seen_as view (read i x)) place xs (Err fault) → in_turn read place xs (Err fault)
turn_told view read place [] fault h = absurd (cc)
turn_told view read place (x ∷ xs) fault (inl h) = inl (h.0, h.1, ap (λ (f : Fault). Err f) (same_err fault h.0 h.2))
turn_told view read place (x ∷ xs) fault (inr (value, here, inl more)) =
    inr (view value, here, inl (more.0, turn_told view read (place + 1) xs more.0 more.1, ap (λ (f : Fault). Err f) (same_err fault more.0 more.2)))
turn_told view read place (x ∷ xs) fault (inr (value, here, inr more)) = absurd (cc)

-- a list of values is seen by the view
pub entries_seen : {A B : Type 0} (view : A → B) (read : List ℕ → Data → Outcome B) (path : List ℕ) (list : List Data) (values : List A)
    → entries (λ at d. seen_as view (read at d)) path list (Ok values) → entries read path list (Ok (map view values))
entries_seen view read path list values h = turn_seen view (λ place d. read (entry_of path place) d) 0 list values h

pub entries_told : {A B : Type 0} (view : A → B) (read : List ℕ → Data → Outcome B) (path : List ℕ) (list : List Data) (told : Option Fault)
    → IsToldBy (entries (λ at d. seen_as view (read at d)) path list) told → IsToldBy (entries read path list) told
entries_told view read path list told h =
    told_so (entries (λ at d. seen_as view (read at d)) path list) (entries read path list) told
    (λ fault k. turn_told view (λ place d. read (entry_of path place) d) 0 list fault k) h

pub list_seen : {A B : Type 0} (view : A → B) (read : List ℕ → Data → Outcome B) (path : List ℕ) (list : List Data)
    (result : Result (Vec A Global) QuestionError)
    → Answers (λ values. values.items) (entries (λ at d. seen_as view (read at d)) path list) result
    → Answers (λ values. map view values.items) (entries read path list) result
list_seen view read path list (Ok values) h = entries_seen view read path list values.items h
list_seen view read path list (Err error) h = entries_told view read path list (fault_of error) h
