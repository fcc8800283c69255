-- Callers' rows of the journal are counted up, whatever is answered.
use Rattle.std.proofs.Common.{ℕ, ◌≡◌, ◌+◌, ◌-◌, Bool, true, false, cond, List, [], ◌∷◌, ◌++◌, length, Option, Some, None, refl, arith}
use Rattle.std.proofs.Common.{sym, ◌∙◌, ap, subst, inl, inr}
use Rattle.std.specs.Prelude.{◌⊎◌, slice_get}
use Rattle.std.specs.Str.{bytes_eq}
use Rattle.std.proofs.lemmas.List.{append-nil}
use Rattle.std.proofs.lemmas.List.Elements.{filter-append}
use Rattle.list_words.proofs.GetLemmas.{get_there, get_last, get_last_cases, length_more}
use Rattle.arbac_policy.specs.Rules.{Rules}
use Rattle.desk_records.specs.declared.requests.Request.{Request}
use Rattle.desk_records.specs.declared.decisions.Decision.TheVariants as decisions
use Rattle.desk_records.specs.declared.tables.Entity.{Entity}
use Rattle.desk_records.specs.declared.tables.JournalRow.{JournalRow}
use Rattle.desk_records.specs.declared.tables.Change.TheVariants.{Decide}
use Rattle.desk_records.specs.Records.{Kept}
use Rattle.desk_records.specs.Changes.{last_of_row, changed}
use Rattle.desk_machine.specs.declared.reply.Reply.{Reply}
use Rattle.desk_machine.specs.declared.reply.Reply.TheVariants.{Granted, Denied, Repeat, OutOfTurn, NumberReused, JournalFull}
use Rattle.desk_machine.specs.Machine.{IsAnswer, Answers, last_number, number_in, next_row}
use Rattle.desk_machine.specs.Repeats.{AreCounted, CountUp, rows_of, last_in, as_last}
use Rattle.desk_machine.proofs.LastLemmas.{last_of-with_last, same_name}

-- the last of rows that are counted up has their number
counted_last : (rows : List JournalRow) → CountUp rows → number_in (last_in rows) ≡ length rows
counted_last [] up = refl
counted_last (row ∷ rows) up =
    let last = get_there (row ∷ rows) (length (row ∷ rows) - 1) (omega arith) in
    let is : last_in (row ∷ rows) ≡ Some (last_of_row last.0) = ap as_last last.1 in
    let number = up (length (row ∷ rows) - 1) last.0 last.1 in
    let now : number_in (last_in (row ∷ rows)) ≡ last.0.request.number = ap number_in is in omega (arith, now, number)

count_more : (rows : List JournalRow) (row : JournalRow) → CountUp rows → row.request.number ≡ length rows + 1 → CountUp (rows ++ row ∷ [])
count_more rows row up next place other at = by_place (get_last_cases rows row other place at)
  where
    by_place : (slice_get rows place ≡ Some other) ⊎ ((place ≡ length rows) × (row ≡ other)) → other.request.number ≡ place + 1
    by_place (inl before) = up place other before
    by_place (inr (here, same)) = subst (λ (r : JournalRow). r.request.number ≡ place + 1) same (omega (arith, next, here))

last_in-more : (rows : List JournalRow) (row : JournalRow) → last_in (rows ++ row ∷ []) ≡ Some (last_of_row row)
last_in-more rows row =
    let long : length (rows ++ row ∷ []) - 1 ≡ length rows = omega (arith, length_more rows row) in
    ap (λ n. as_last (slice_get (rows ++ row ∷ []) n)) long ∙ ap as_last (get_last rows row)

-- a caller's rows, with one more where it is the caller's, are still counted up
rows_more : (rows : List JournalRow) (row : JournalRow) (caller : List ℕ) (t : Bool) → bytes_eq row.request.caller caller ≡ t → CountUp rows
    → (bytes_eq row.request.caller caller ≡ true → row.request.number ≡ length rows + 1) → CountUp (rows ++ cond t (row ∷ []) [])
rows_more rows row caller true e up next = count_more rows row up (next e)
rows_more rows row caller false e up next = rw append-nil up

last_more : (rows : List JournalRow) (row : JournalRow) (t : Bool)
    → cond t (Some (last_of_row row)) (last_in rows) ≡ last_in (rows ++ cond t (row ∷ []) [])
last_more rows row true = sym (last_in-more rows row)
last_more rows row false = rw append-nil refl

-- one more row, of its caller's next number
pub counted_more : (kept : Kept) (entity : Option Entity) (row : JournalRow) → AreCounted kept
    → row.request.number ≡ last_number kept row.request.caller + 1 → AreCounted (changed kept (Decide entity row))
counted_more kept entity row counted next = record {
  numbers = λ caller. subst CountUp (sym (more_rows caller))
      (rows_more (rows_of caller kept.journal) row caller (is_his caller) refl (counted.numbers caller) (numbered caller));
  last = λ caller. last_of-with_last kept.last (last_of_row row) caller
      ∙ ap (λ o. cond (is_his caller) (Some (last_of_row row)) o) (counted.last caller)
      ∙ last_more (rows_of caller kept.journal) row (is_his caller)
      ∙ ap last_in (sym (more_rows caller));
}
  where
    is_his : List ℕ → Bool
    is_his caller = bytes_eq row.request.caller caller

    more_rows : (caller : List ℕ) → rows_of caller (kept.journal ++ row ∷ [])
        ≡ rows_of caller kept.journal ++ cond (bytes_eq row.request.caller caller) (row ∷ []) []
    more_rows caller = filter-append (λ (r : JournalRow). bytes_eq r.request.caller caller) kept.journal (row ∷ [])

    numbered : (caller : List ℕ) → bytes_eq row.request.caller caller ≡ true → row.request.number ≡ length (rows_of caller kept.journal) + 1
    numbered caller e =
        let one : last_number kept row.request.caller ≡ last_number kept caller = ap (last_number kept) (same_name row.request.caller caller e) in
        let last : last_number kept caller ≡ number_in (last_in (rows_of caller kept.journal)) = ap number_in (counted.last caller) in
        let count = counted_last (rows_of caller kept.journal) (counted.numbers caller) in
        omega (arith, next, one, last, count)

-- each answer keeps the count
answer_counted : (rules : Rules) (kept : Kept) (request : Request) (reply : Reply) (after : Kept) → AreCounted kept
    → IsAnswer rules kept request reply after → AreCounted after
answer_counted rules kept request Granted after counted (next, room, entity, granted, same) =
    subst AreCounted (sym same) (counted_more kept (Some entity) (next_row kept request decisions.Granted) counted next)
answer_counted rules kept request (Denied told) after counted (next, room, denied, same) =
    subst AreCounted (sym same) (counted_more kept None (next_row kept request (decisions.Denied told)) counted next)
answer_counted rules kept request (Repeat decision) after counted answer = subst AreCounted (sym answer.1) counted
answer_counted rules kept request (OutOfTurn last) after counted answer = subst AreCounted (sym answer.1) counted
answer_counted rules kept request (NumberReused last) after counted answer = subst AreCounted (sym answer.1) counted
answer_counted rules kept request (JournalFull count) after counted answer = subst AreCounted (sym answer.3) counted

pub answers_counted : (rules : Rules) (kept after : Kept) (requests : List Request) (answers : List Reply) → AreCounted kept
    → Answers rules kept requests answers after → AreCounted after
answers_counted rules kept after [] answers counted all = subst AreCounted (sym all.1) counted
answers_counted rules kept after (request ∷ requests) answers counted (reply, later, then, answers_are, answer, rest) =
    answers_counted rules then after requests later (answer_counted rules kept request reply then counted answer) rest
