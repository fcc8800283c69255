-- How the numbers of the callers' last requests grow.
use Rattle.std.proofs.Common.{ℕ, ◌≡◌, ◌<◌, ◌≤◌, Bool, true, false, cond, List, [], ◌∷◌, Some, refl, arith, zero, suc, sym, ◌∙◌, ap, subst}
use Rattle.std.specs.Prelude.{slice_get}
use Rattle.std.specs.Str.{bytes_eq}
use Rattle.list_words.specs.Lists.{Each}
use Rattle.list_words.proofs.GetLemmas.{same_some}
use Rattle.list_words.proofs.TestLemmas.{not_false}
use Rattle.arbac_policy.specs.Rules.{Rules}
use Rattle.desk_records.specs.declared.requests.Request.{Request}
use Rattle.desk_records.specs.declared.decisions.Decision.{Decision}
use Rattle.desk_records.specs.declared.decisions.Decision.TheVariants as decisions
use Rattle.desk_records.specs.declared.tables.LastRow.{LastRow}
use Rattle.desk_records.specs.Records.{Kept}
use Rattle.desk_records.specs.Changes.{last_of, last_of_row}
use Rattle.desk_machine.specs.declared.reply.Reply.{Reply}
use Rattle.desk_machine.specs.declared.reply.Reply.TheVariants as replies
use Rattle.desk_machine.specs.declared.reply.Reply.TheVariants.{Granted, Denied, Repeat, OutOfTurn, NumberReused, JournalFull}
use Rattle.desk_machine.specs.Machine.{IsAnswer, Answers, IsNext, last_number, number_in, next_row}
use Rattle.desk_machine.specs.Repeats.{IsDecided, Decides, IsOfOther}
use Rattle.desk_machine.proofs.LastLemmas.{last_of-with_last, same_name, equal_itself}

-- the request and what was decided on it, as the caller's last row
abbrev pub decided_row : Request → Decision → LastRow
decided_row request decision = record { request = request; decision = decision }

-- what a request leaves of the callers' last rows
abbrev pub lasts_after : Kept → Request → Kept → Decision → Type 0
lasts_after kept request after decision =
    (caller : List ℕ)
    → last_of after.last caller ≡ cond (bytes_eq request.caller caller) (Some (decided_row request decision)) (last_of kept.last caller)

-- a decided request had the next number, and is the last one of its caller alone
pub decided_lasts : (rules : Rules) (kept : Kept) (request : Request) (reply : Reply) (after : Kept) (decision : Decision)
    → IsAnswer rules kept request reply after → Decides reply decision → IsNext kept request × lasts_after kept request after decision
decided_lasts rules kept request Granted after decision (next, room, entity, granted, same) is = (
  next,
  λ caller. ap (λ (k : Kept). last_of k.last caller) same
      ∙ last_of-with_last kept.last (last_of_row (next_row kept request decisions.Granted)) caller
      ∙ ap (λ d. cond (bytes_eq request.caller caller) (Some (decided_row request d)) (last_of kept.last caller)) (sym is),
)
decided_lasts rules kept request (Denied told) after decision (next, room, denied, same) is = (
  next,
  λ caller. ap (λ (k : Kept). last_of k.last caller) same
      ∙ last_of-with_last kept.last (last_of_row (next_row kept request (decisions.Denied told))) caller
      ∙ ap (λ d. cond (bytes_eq request.caller caller) (Some (decided_row request d)) (last_of kept.last caller)) (sym is),
)
decided_lasts rules kept request (Repeat d) after decision answer is = absurd is
decided_lasts rules kept request (OutOfTurn last) after decision answer is = absurd is
decided_lasts rules kept request (NumberReused last) after decision answer is = absurd is
decided_lasts rules kept request (JournalFull count) after decision answer is = absurd is

-- the caller's number is that of the decided request
pub number_used : (rules : Rules) (kept : Kept) (request : Request) (reply : Reply) (after : Kept)
    → IsAnswer rules kept request reply after → IsDecided reply → last_number after request.caller ≡ request.number
number_used rules kept request reply after answer (decision, is) =
    let lasts = decided_lasts rules kept request reply after decision answer is in
    ap number_in (rw (equal_itself request.caller) at (lasts.1 request.caller))

-- no caller's number falls
pub number_grows : (rules : Rules) (kept : Kept) (request : Request) (reply : Reply) (after : Kept) (caller : List ℕ)
    → IsAnswer rules kept request reply after → last_number kept caller ≤ last_number after caller
number_grows rules kept request reply after caller answer = by_reply reply answer
  where
    decided : (reply : Reply) (decision : Decision) → IsAnswer rules kept request reply after → Decides reply decision
        → last_number kept caller ≤ last_number after caller
    decided reply decision answer is =
        let lasts = decided_lasts rules kept request reply after decision answer is in
        by_caller (bytes_eq request.caller caller) refl lasts.0 (lasts.1 caller)
      where
        by_caller : (t : Bool) → bytes_eq request.caller caller ≡ t → IsNext kept request
            → last_of after.last caller ≡ cond t (Some (decided_row request decision)) (last_of kept.last caller)
            → last_number kept caller ≤ last_number after caller
        by_caller true e next last =
            let one : last_number kept request.caller ≡ last_number kept caller =
            ap (last_number kept) (same_name request.caller caller e) in
            let now : last_number after caller ≡ request.number = ap number_in last in omega (arith, one, now, next)
        by_caller false e next last =
            let now : last_number after caller ≡ last_number kept caller = ap number_in last in omega (arith, now)

    same : after ≡ kept → last_number kept caller ≤ last_number after caller
    same e = let now : last_number after caller ≡ last_number kept caller = ap (λ k. last_number k caller) e in omega (arith, now)

    by_reply : (reply : Reply) → IsAnswer rules kept request reply after → last_number kept caller ≤ last_number after caller
    by_reply Granted answer = decided Granted decisions.Granted answer refl
    by_reply (Denied told) answer = decided (Denied told) (decisions.Denied told) answer refl
    by_reply (Repeat decision) answer = same answer.1
    by_reply (OutOfTurn last) answer = same answer.1
    by_reply (NumberReused last) answer = same answer.1
    by_reply (JournalFull count) answer = same answer.3

-- what is decided later has a greater number than the caller's last one now
pub decided_later : (rules : Rules) (kept after : Kept) (requests : List Request) (answers : List Reply) (place : ℕ)
    (request : Request) (reply : Reply) → Answers rules kept requests answers after
    → slice_get requests place ≡ Some request → slice_get answers place ≡ Some reply → IsDecided reply
    → last_number kept request.caller < request.number
decided_later rules kept after [] answers place request reply all is reply_is decided = cc
decided_later rules kept after (first ∷ requests) answers zero request reply (one, later, then, answers_are, answer, rest) is reply_is (decision, decides) =
    let same : first ≡ request = same_some first request is in
    let given : one ≡ reply = same_some one reply (ap (λ (rs : List Reply). slice_get rs 0) (sym answers_are) ∙ reply_is) in
    let next : IsNext kept first = (decided_lasts rules kept first one then decision answer (subst (λ r. Decides r decision) (sym given) decides)).0 in
    let here : IsNext kept request = subst (IsNext kept) same next in omega (arith, here)
decided_later rules kept after (first ∷ requests) answers (suc place) request reply (one, later, then, answers_are, answer, rest) is reply_is decided =
    let reply_later : slice_get later place ≡ Some reply = ap (λ (rs : List Reply). slice_get rs (suc place)) (sym answers_are) ∙ reply_is in
    let more = decided_later rules then after requests later place request reply rest is reply_later decided in
    let grows = number_grows rules kept first one then request.caller answer in omega (arith, more, grows)

-- of two decided requests of one caller the later one has another number
pub decided_once : (rules : Rules) (kept after : Kept) (requests : List Request) (answers : List Reply) → Answers rules kept requests answers after
    → (i j : ℕ) (first second : Request) (one other : Reply) → i < j → slice_get requests i ≡ Some first → slice_get requests j ≡ Some second
    → slice_get answers i ≡ Some one → slice_get answers j ≡ Some other → first.caller ≡ second.caller
    → IsDecided one → IsDecided other → first.number < second.number
decided_once rules kept after [] answers all i j first second one other less fi sj oi oj caller da db = cc
decided_once rules kept after (request ∷ requests) answers all i zero first second one other less fi sj oi oj caller da db = absurd (omega arith)
decided_once rules kept after (request ∷ requests) answers (reply, later, then, answers_are, answer, rest) zero (suc j) first second one other less
    fi sj oi oj caller da db =
    let same : request ≡ first = same_some request first fi in
    let given : reply ≡ one = same_some reply one (ap (λ (rs : List Reply). slice_get rs 0) (sym answers_are) ∙ oi) in
    let used = number_used rules kept request reply then answer (subst IsDecided (sym given) da) in
    let used' : last_number then first.caller ≡ first.number = subst (λ (r : Request). last_number then r.caller ≡ r.number) same used in
    let oj' : slice_get later j ≡ Some other = ap (λ (rs : List Reply). slice_get rs (suc j)) (sym answers_are) ∙ oj in
    let more = decided_later rules then after requests later j second other rest sj oj' db in
    let one_caller : last_number then first.caller ≡ last_number then second.caller = ap (last_number then) caller in
    omega (arith, used', more, one_caller)
decided_once rules kept after (request ∷ requests) answers (reply, later, then, answers_are, answer, rest) (suc i) (suc j) first second one other less
    fi sj oi oj caller da db =
    decided_once rules then after requests later rest i j first second one other (omega arith) fi sj
    (ap (λ (rs : List Reply). slice_get rs (suc i)) (sym answers_are) ∙ oi)
    (ap (λ (rs : List Reply). slice_get rs (suc j)) (sym answers_are) ∙ oj) caller da db

-- requests of others leave the caller's last row
pub others_leave : (rules : Rules) (kept after : Kept) (request : Request) (others : List Request) (answers : List Reply)
    → Each (IsOfOther request) others → Answers rules kept others answers after
    → last_of after.last request.caller ≡ last_of kept.last request.caller
others_leave rules kept after request [] answers other all = ap (λ (k : Kept). last_of k.last request.caller) all.1
others_leave rules kept after request (first ∷ others) answers other (reply, later, then, answers_are, answer, rest) =
    others_leave rules then after request others later other.1 rest ∙ by_reply reply answer
  where
    decided : (reply : Reply) (decision : Decision) → IsAnswer rules kept first reply then → Decides reply decision
        → last_of then.last request.caller ≡ last_of kept.last request.caller
    decided reply decision answer is =
        let apart : bytes_eq first.caller request.caller ≡ false = not_false (bytes_eq first.caller request.caller)
        (λ e. other.0 (same_name first.caller request.caller e)) in
        rw apart at ((decided_lasts rules kept first reply then decision answer is).1 request.caller)

    same : then ≡ kept → last_of then.last request.caller ≡ last_of kept.last request.caller
    same e = ap (λ (k : Kept). last_of k.last request.caller) e

    by_reply : (reply : Reply) → IsAnswer rules kept first reply then → last_of then.last request.caller ≡ last_of kept.last request.caller
    by_reply Granted answer = decided Granted decisions.Granted answer refl
    by_reply (Denied told) answer = decided (Denied told) (decisions.Denied told) answer refl
    by_reply (Repeat decision) answer = same answer.1
    by_reply (OutOfTurn last) answer = same answer.1
    by_reply (NumberReused last) answer = same answer.1
    by_reply (JournalFull count) answer = same answer.3

-- the caller's last request is answered with what was decided on it
pub answered_again : (rules : Rules) (kept : Kept) (request : Request) (decision : Decision) (again : Reply) (after : Kept)
    → last_of kept.last request.caller ≡ Some (decided_row request decision) → IsAnswer rules kept request again after
    → (again ≡ replies.Repeat decision) × (after ≡ kept)
answered_again rules kept request decision again after last answer = by_reply again answer
  where
    same_row : (row : LastRow) → last_of kept.last request.caller ≡ Some row → row ≡ decided_row request decision
    same_row row is = same_some row (decided_row request decision) (sym is ∙ last)

    number : last_number kept request.caller ≡ request.number
    number = ap number_in last

    not_next : IsNext kept request → (again ≡ replies.Repeat decision) × (after ≡ kept)
    not_next next = absurd (omega (arith, next, number))

    by_reply : (reply : Reply) → IsAnswer rules kept request reply after → (reply ≡ replies.Repeat decision) × (after ≡ kept)
    by_reply Granted answer = absurd (omega (arith, answer.0, number))
    by_reply (Denied told) answer = absurd (omega (arith, answer.0, number))
    by_reply (Repeat d) (repeat, same) =
        (ap replies.Repeat (repeat.decision_is ∙ ap (λ (r : LastRow). r.decision) (same_row repeat.row repeat.row_is)), same)
    by_reply (OutOfTurn n) (turn, same) = absurd (turn.not_last (sym number ∙ sym turn.last_is))
    by_reply (NumberReused r) (reused, same) =
        absurd (reused.other (ap (λ (r : LastRow). r.request) (same_row reused.row reused.row_is)))
    by_reply (JournalFull count) answer = absurd (omega (arith, answer.0, number))
