-- What the answer to `make` tells.
use Rattle.std.proofs.Common.{ℕ, ◌≡◌, ◌++◌, List, append_assoc, refl, sym, subst, inl, inr}
use Rattle.std.specs.Prelude.{◌⊎◌, Result, IfOk, codes}
use Rattle.std.specs.Fmt.{decimal}
use Rattle.std.specs.declared.alloc.AllocError.{AllocError}
use Rattle.back_search.specs.declared.outcome.Outcome.{Outcome}
use Rattle.desk_ports.specs.Shelves.{ShelfView}
use Rattle.desk_ports.specs.Sinks.{SinkView}
use Rattle.arbac_desk.specs.declared.reply.Reply.{Reply}
use Rattle.arbac_desk.specs.Statuses.{READ_FAULT, NO_MEMORY, IsStatus}
use Rattle.arbac_desk.specs.Answers.{TellsFaults, IsFaultless, Says, IsOf}
use Rattle.arbac_desk.specs.MakeAnswers.{end_text, made_line, IsMadeReply, IsMakeAnswer}
use Rattle.arbac_desk.proofs.AnswerLemmas.{says_as, of_reply, done_is, AllEnd, tells_faults, is_known, faultless}

joined : (a b c d e f g : List ℕ) → (a ++ b) ++ (c ++ d) ++ (e ++ f) ++ g ≡ a ++ b ++ c ++ d ++ e ++ f ++ g
joined a b c d e f g = simp append_assoc

-- the pieces of the line, in their order
pub line_pieces : (size roles rules : ℕ) (outcome : Outcome)
    → (codes "make " ++ decimal size) ++ (codes ": roles " ++ decimal roles) ++ (codes ", rules " ++ decimal rules) ++ end_text outcome
    ≡ made_line size roles rules outcome
unfolding made_line
line_pieces size roles rules outcome =
    joined (codes "make ") (decimal size) (codes ": roles ") (decimal roles) (codes ", rules ") (decimal rules) (end_text outcome)

-- the pieces of its end, behind the text so far
pub end_pieces : (text a b c d e : List ℕ) → text ++ (a ++ b) ++ (c ++ d) ++ e ≡ text ++ (a ++ b ++ c ++ d ++ e)
end_pieces text a b c d e = simp append_assoc

-- the reply is written, or what is told says why not
pub made : (size limit : ℕ) (sink sink' : SinkView) (reply : Result Reply AllocError) (status : ℕ)
    → IfOk reply (λ r. IsMadeReply size limit r.status r.text.items) → Says (IsOf reply) sink sink' status → IsMakeAnswer size limit sink sink' status
made size limit sink sink' reply status h says =
    says_as (IsOf reply) (IsMadeReply size limit) sink sink' status (of_reply (IsMadeReply size limit) reply h) says

-- the shelf isn't asked
make_ends : (size limit : ℕ) (shelf : ShelfView) → AllEnd (IsMadeReply size limit) shelf shelf
make_ends size limit shelf told text h = inl (refl, done_is told h.0)

-- the answer tells its faults
pub make_faults : (size limit : ℕ) (shelf : ShelfView) (sink sink' : SinkView) (status : ℕ) → IsMakeAnswer size limit sink sink' status
    → TellsFaults shelf shelf sink sink' status
make_faults size limit shelf sink sink' status answer =
    tells_faults (IsMadeReply size limit) shelf shelf sink sink' status (make_ends size limit shelf) answer

-- its status stands in the table
pub make_known : (size limit : ℕ) (sink sink' : SinkView) (status : ℕ) → IsMakeAnswer size limit sink sink' status → IsStatus status
make_known size limit sink sink' status answer = is_known (IsMadeReply size limit) sink sink' status (λ told text h. rw h.0 (0, refl)) answer

-- a sample is searched, where no count rose and memory was left
pub is_made : (size limit : ℕ) (shelf shelf' : ShelfView) (sink sink' : SinkView) (status : ℕ) → shelf' ≡ shelf
    → IsMakeAnswer size limit sink sink' status → IsFaultless shelf shelf' sink sink' → (status ≡ 0) ⊎ (status ≡ 7)
is_made size limit shelf shelf' sink sink' status same answer none =
    by_reply (faultless (IsMadeReply size limit) shelf shelf' sink sink' status ends answer none)
  where
    ends : AllEnd (IsMadeReply size limit) shelf shelf'
    ends = subst (λ s. AllEnd (IsMadeReply size limit) shelf s) (sym same) (make_ends size limit shelf)

    by_reply : (status ≡ NO_MEMORY) ⊎ ((text : List ℕ) × IsMadeReply size limit status text × (status ≡ READ_FAULT → ⊥))
        → (status ≡ 0) ⊎ (status ≡ 7)
    by_reply (inl out) = inr out
    by_reply (inr (text, h, other)) = inl h.0
