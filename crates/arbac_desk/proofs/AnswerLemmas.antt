-- What the status of an answer tells of the shelf, of the sink and of what was to be written.
use Rattle.std.proofs.Common.{ℕ, ◌≡◌, ◌∙◌, List, Some, refl, sym, arith, subst, inl, inr}
use Rattle.std.specs.Prelude.{◌⊎◌, Result, Ok, Err, IfOk, slice_get}
use Rattle.std.specs.declared.alloc.AllocError.{AllocError}
use Rattle.desk_ports.specs.Faults.{raised, Rose}
use Rattle.desk_ports.specs.Shelves.{ShelfView}
use Rattle.desk_ports.specs.Sinks.{SinkView, TookFront}
use Rattle.desk_texts.specs.Lines.{usage_line}
use Rattle.arbac_desk.specs.declared.reply.Reply.{Reply}
use Rattle.arbac_desk.specs.Statuses.{DONE, USAGE, MALFORMED, REFUSED, READ_FAULT, WRITE_FAULT, NO_MEMORY, statuses, IsStatus}
use Rattle.arbac_desk.specs.Answers.{TellsFaults, IsFaultless, Says, IsSaid, IsOf, IsUsageAnswer}

-- a reply of this status and this text is as these are
pub replied_as : (P : ℕ → List ℕ → Type 0) (status : ℕ) (text : List ℕ) (reply : Result Reply AllocError) → IfOk reply (λ r. r.status ≡ status)
    → IfOk reply (λ r. r.text.items ≡ text) → P status text → IfOk reply (λ r. P r.status r.text.items)
replied_as P status text (Ok reply) told all h = rw (told, all) h
replied_as P status text (Err error) told all h = tt

-- what was to be written may be told in other words
pub says_as : (P Q : ℕ → List ℕ → Type 0) (sink sink' : SinkView) (status : ℕ)
    → ((told : ℕ) (text : List ℕ) → P told text → Q told text) → Says P sink sink' status → Says Q sink sink' status
says_as P Q sink sink' status to (inl said) =
    inl (record { text = said.text; wanted = to status said.text said.wanted; took = said.took; counted = said.counted })
says_as P Q sink sink' status to (inr (inl unsaid)) = inr (inl (record {
  told = unsaid.told;
  other = unsaid.other;
  text = unsaid.text;
  wanted = to unsaid.other unsaid.text unsaid.wanted;
  took = unsaid.took;
  counted = unsaid.counted;
}))
says_as P Q sink sink' status to (inr (inr out)) = inr (inr (record { told = out.told; took = front out.took; counted = out.counted }))
  where
    front : (sink'.taken ≡ sink.taken) ⊎ ((other : ℕ) × (text : List ℕ) × P other text × TookFront sink.taken sink'.taken text)
        → (sink'.taken ≡ sink.taken) ⊎ ((other : ℕ) × (text : List ℕ) × Q other text × TookFront sink.taken sink'.taken text)
    front (inl none) = inl none
    front (inr (other, text, wanted, took)) = inr (other, text, to other text wanted, took)

-- a fact of the reply is one of what was to be written
pub of_reply : (Q : ℕ → List ℕ → Type 0) (reply : Result Reply AllocError) → IfOk reply (λ r. Q r.status r.text.items)
    → (told : ℕ) (text : List ℕ) → IsOf reply told text → Q told text
of_reply Q (Ok reply) h told text (status, all) = rw (status, all) h
of_reply Q (Err error) h told text none = absurd none

-- a status of no fault is that of what was said
pub all_said : (P : ℕ → List ℕ → Type 0) (sink sink' : SinkView) (status : ℕ) → Says P sink sink' status
    → (status ≡ WRITE_FAULT → ⊥) → (status ≡ NO_MEMORY → ⊥) → IsSaid P sink sink' status
all_said P sink sink' status (inl said) write memory = said
all_said P sink sink' status (inr (inl unsaid)) write memory = absurd (write unsaid.told)
all_said P sink sink' status (inr (inr out)) write memory = absurd (memory out.told)

-- no memory was left, and nothing was written
pub out_of_memory : (P : ℕ → List ℕ → Type 0) (sink : SinkView) → Says P sink sink NO_MEMORY
out_of_memory P sink = inr (inr (record { told = refl; took = inl refl; counted = refl }))

-- ---- statuses

-- a status of the table that tells no fault of the shelf, and none of the sink
pub record IsOfReply (status : ℕ) : Type 0 where
  pub known : IsStatus status
  pub read : status ≡ READ_FAULT → ⊥
  pub write : status ≡ WRITE_FAULT → ⊥

pub of_number : (place number status : ℕ) → slice_get statuses place ≡ Some number → (number ≡ READ_FAULT → ⊥) → (number ≡ WRITE_FAULT → ⊥)
    → status ≡ number → IsOfReply status
of_number place number status at read write e = record {
  known = (place, subst (λ n. slice_get statuses place ≡ Some n) (sym e) at);
  read = λ f. read (sym e ∙ f);
  write = λ f. write (sym e ∙ f);
}

pub done_is : (status : ℕ) → status ≡ DONE → IsOfReply status
done_is status = of_number 0 0 status refl (λ e. omega (arith, e)) (λ e. omega (arith, e))

pub malformed_is : (status : ℕ) → status ≡ MALFORMED → IsOfReply status
malformed_is status = of_number 2 3 status refl (λ e. omega (arith, e)) (λ e. omega (arith, e))

pub refused_is : (status : ℕ) → status ≡ REFUSED → IsOfReply status
refused_is status = of_number 8 21 status refl (λ e. omega (arith, e)) (λ e. omega (arith, e))

-- no fetch failed, and the status is that of a reply to bytes; or one did, and the status tells so
abbrev pub Ends : ShelfView → ShelfView → ℕ → Type 0
Ends shelf shelf' status =
    ((shelf'.faults ≡ shelf.faults) × IsOfReply status) ⊎ ((shelf'.faults ≡ raised shelf.faults) × (status ≡ READ_FAULT))

-- what is to be written ends so, whatever it is
abbrev pub AllEnd : (ℕ → List ℕ → Type 0) → ShelfView → ShelfView → Type 0
AllEnd P shelf shelf' = (told : ℕ) (text : List ℕ) → P told text → Ends shelf shelf' told

-- the answer tells its faults
pub tells_faults : (P : ℕ → List ℕ → Type 0) (shelf shelf' : ShelfView) (sink sink' : SinkView) (status : ℕ) → AllEnd P shelf shelf'
    → Says P sink sink' status → TellsFaults shelf shelf' sink sink' status
tells_faults P shelf shelf' sink sink' status ends says = record {
  read = λ told.
      let e : status ≡ 4 = told in
      let said = all_said P sink sink' status says (λ w. let f : status ≡ 5 = w in omega (arith, e, f))
      (λ m. let f : status ≡ 7 = m in omega (arith, e, f)) in
      rose (ends status said.text said.wanted) told;
  write = written says;
  shelf_kept = λ read write memory.
      let said = all_said P sink sink' status says write memory in
      kept (ends status said.text said.wanted) read;
  sink_kept = stands says;
}
  where
    rose : Ends shelf shelf' status → status ≡ READ_FAULT → shelf'.faults ≡ raised shelf.faults
    rose (inl (counted, is)) told = absurd (is.read told)
    rose (inr (counted, e)) told = counted

    kept : Ends shelf shelf' status → (status ≡ READ_FAULT → ⊥) → shelf'.faults ≡ shelf.faults
    kept (inl (counted, is)) other = counted
    kept (inr (counted, e)) other = absurd (other e)

    no_write : (told : ℕ) → Ends shelf shelf' told → told ≡ WRITE_FAULT → ⊥
    no_write told (inl (counted, is)) e = is.write e
    no_write told (inr (counted, missed)) e = let f : told ≡ 5 = e in let g : told ≡ 4 = missed in omega (arith, f, g)

    written : Says P sink sink' status → status ≡ WRITE_FAULT → sink'.faults ≡ raised sink.faults
    written (inl said) told = absurd (no_write status (ends status said.text said.wanted) told)
    written (inr (inl unsaid)) told = unsaid.counted
    written (inr (inr out)) told = let e : status ≡ 5 = told in let f : status ≡ 7 = out.told in absurd (omega (arith, e, f))

    stands : Says P sink sink' status → (status ≡ WRITE_FAULT → ⊥) → sink'.faults ≡ sink.faults
    stands (inl said) write = said.counted
    stands (inr (inl unsaid)) write = absurd (write unsaid.told)
    stands (inr (inr out)) write = out.counted

-- its status stands in the table, where those that were to be told do
pub is_known : (P : ℕ → List ℕ → Type 0) (sink sink' : SinkView) (status : ℕ) → ((told : ℕ) (text : List ℕ) → P told text → IsStatus told)
    → Says P sink sink' status → IsStatus status
is_known P sink sink' status all (inl said) = all status said.text said.wanted
is_known P sink sink' status all (inr (inl unsaid)) = rw unsaid.told (4, refl)
is_known P sink sink' status all (inr (inr out)) = rw out.told (5, refl)

pub ends_known : (shelf shelf' : ShelfView) (status : ℕ) → Ends shelf shelf' status → IsStatus status
ends_known shelf shelf' status (inl (counted, is)) = is.known
ends_known shelf shelf' status (inr (counted, e)) = rw e (3, refl)

-- where neither count rose and memory was left, what was to be written was, and tells no fault of the shelf
pub faultless : (P : ℕ → List ℕ → Type 0) (shelf shelf' : ShelfView) (sink sink' : SinkView) (status : ℕ) → AllEnd P shelf shelf'
    → Says P sink sink' status → IsFaultless shelf shelf' sink sink'
    → (status ≡ NO_MEMORY) ⊎ ((text : List ℕ) × P status text × (status ≡ READ_FAULT → ⊥))
faultless P shelf shelf' sink sink' status ends says none = by_says says
  where
    rose : (before now : ℕ) → now ≡ raised before → Rose before now
    rose before now e = omega (arith, e)

    no_read : Ends shelf shelf' status → status ≡ READ_FAULT → ⊥
    no_read (inl (counted, is)) e = is.read e
    no_read (inr (counted, missed)) e = none.0 (rose shelf.faults shelf'.faults counted)

    by_says : Says P sink sink' status → (status ≡ NO_MEMORY) ⊎ ((text : List ℕ) × P status text × (status ≡ READ_FAULT → ⊥))
    by_says (inl said) = inr (said.text, said.wanted, no_read (ends status said.text said.wanted))
    by_says (inr (inl unsaid)) = absurd (none.1 (rose sink.faults sink'.faults unsaid.counted))
    by_says (inr (inr out)) = inl out.told

-- ---- words of no form

abbrev IsUsage : ℕ → List ℕ → Type 0
IsUsage told text = (told ≡ USAGE) × (text ≡ usage_line)

-- the status of an answer to words of no written form stands in the table
pub usage_known : (shelf shelf' : ShelfView) (sink sink' : SinkView) (status : ℕ) → IsUsageAnswer shelf shelf' sink sink' status → IsStatus status
usage_known shelf shelf' sink sink' status answer = is_known IsUsage sink sink' status (λ told text h. rw h.0 (1, refl)) answer.says

-- ---- texts, and others

-- the status is a right one of such texts, or it tells another as malformed
abbrev pub Sorts : (ℕ → Type 0) → Type 0 → ℕ → Type 0
Sorts IsRight IsText status = (IsText × IsRight status × (status ≡ MALFORMED → ⊥)) ⊎ ((status ≡ MALFORMED) × (IsText → ⊥))

pub is_right : (IsRight : ℕ → Type 0) (IsText : Type 0) (status : ℕ) → IsText → (status ≡ NO_MEMORY → IsRight status)
    → (status ≡ NO_MEMORY) ⊎ Sorts IsRight IsText status → IsRight status
is_right IsRight IsText status is memory (inl out) = memory out
is_right IsRight IsText status is memory (inr (inl (also, right, other))) = right
is_right IsRight IsText status is memory (inr (inr (told, none))) = absurd (none is)

pub is_malformed : (IsRight : ℕ → Type 0) (IsText : Type 0) (status : ℕ) → (IsText → ⊥)
    → (status ≡ NO_MEMORY) ⊎ Sorts IsRight IsText status → (status ≡ MALFORMED) ⊎ (status ≡ NO_MEMORY)
is_malformed IsRight IsText status none (inl out) = inr out
is_malformed IsRight IsText status none (inr (inl (is, right, other))) = absurd (none is)
is_malformed IsRight IsText status none (inr (inr (told, also))) = inl told

pub is_no_text : (IsRight : ℕ → Type 0) (IsText : Type 0) (status : ℕ) → Sorts IsRight IsText status → status ≡ MALFORMED → IsText → ⊥
is_no_text IsRight IsText status (inl (also, right, other)) told is = other told
is_no_text IsRight IsText status (inr (also, none)) told is = none is
