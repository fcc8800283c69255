-- What the entries of tables come to.
use Rattle.std.proofs.Common.{ℕ, ◌≡◌, List, [], Option, Some, None, Result, Ok, Err, refl, subst, inl, inr}
use Rattle.std.specs.Prelude.{IsErrAnd}
use Rattle.toml.specs.Data.{Data, Members, as_str}
use Rattle.toml.specs.View.{view}
use Rattle.question_text.specs.declared.question_error.QuestionError.{QuestionError}
use Rattle.question_text.specs.Outcomes.{Fault, Outcome, ◌>>=◌}
use Rattle.question_text.specs.Keys.{key_of, as_list, required, optional, at_most, entries}
use Rattle.question_text.specs.Tables.{tables}
use Rattle.question_text.specs.Answers.{fault_of, IsToldBy, Answers}
use Rattle.question_text.proofs.OutcomeLemmas.{answers_exit}

-- what tells one outcome tells another that has the same faults
pub told_so : {A B : Type 0} (part : Outcome A) (whole : Outcome B) (told : Option Fault)
    → ((fault : Fault) → part (Err fault) → whole (Err fault)) → IsToldBy part told → IsToldBy whole told
told_so part whole None same h = tt
told_so part whole (Some fault) same h = same fault h

-- an error that is handed on answers the whole, where the part's faults are the whole's
pub stops : {A B C : Type 0} (view : C → B) (part : Outcome A) (whole : Outcome B) (result : Result C QuestionError) (error : QuestionError)
    → IsErrAnd result (λ handed. handed ≡ error) → ((fault : Fault) → part (Err fault) → whole (Err fault)) → IsToldBy part (fault_of error)
    → Answers view whole result
stops view part whole result error handed same h = answers_exit view whole error result handed (told_so part whole (fault_of error) same h)

-- what answers the rest answers the whole, where the rest's results are the whole's
pub rests : {B C : Type 0} (view : C → B) (rest whole : Outcome B) (result : Result C QuestionError)
    → ((r : Result B Fault) → rest r → whole r) → Answers view rest result → Answers view whole result
rests view rest whole (Ok value) same h = same (Ok (view value)) h
rests view rest whole (Err error) same h = told_so rest whole (fault_of error) (λ fault k. same (Err fault) k) h

-- what a text under a key of a table is read as
pub behind_text : {A C : Type 0} (view : C → A) (part : List ℕ → List ℕ → Outcome A) (table : Members) (path key text place : List ℕ)
    (result : Result C QuestionError)
    → required as_str table path key (Ok text) → place ≡ key_of path key → Answers view (part place text) result
    → Answers view (required as_str table path key >>= (λ t. part (key_of path key) t)) result
behind_text view part table path key text place result h at answers =
    rests view (part (key_of path key) text) (required as_str table path key >>= (λ t. part (key_of path key) t)) result (λ r k. inr (text, h, k))
    (subst (λ (p : List ℕ). Answers view (part p text) result) at answers)

-- a list that is too long answers the whole
pub tables_stop : {A C : Type 0} (view_of : C → List A) (most : ℕ) (read : List ℕ → Data → Outcome A) (table : Members) (key : List ℕ)
    (list : List Data) (result : Result C QuestionError) (error : QuestionError)
    → optional as_list [] table [] key (Ok list) → IsErrAnd result (λ handed. handed ≡ error) → IsToldBy (at_most most key list) (fault_of error)
    → Answers view_of (tables most read table key) result
tables_stop view_of most read table key list result error listed handed told =
    stops view_of (at_most most key list) (tables most read table key) result error handed (λ fault h. inr (list, listed, inl (fault, h, refl))) told

-- the entries of one that isn't too long do
pub tables_end : {A C : Type 0} (view_of : C → List A) (most : ℕ) (read : List ℕ → Data → Outcome A) (table : Members) (key : List ℕ)
    (list : List Data) (result : Result C QuestionError)
    → optional as_list [] table [] key (Ok list) → at_most most key list (Ok tt) → Answers view_of (entries read key list) result
    → Answers view_of (tables most read table key) result
tables_end view_of most read table key list result listed few answers =
    rests view_of (entries read key list) (tables most read table key) result (λ r h. inr (list, listed, inr (tt, few, h))) answers
