-- Tables stay of their form, whatever is answered.
use Rattle.std.proofs.Common.{List, [], ◌∷◌, Option, Some, None, refl, sym, subst}
use Rattle.std.specs.Prelude.{IfSome}
use Rattle.list_words.specs.Lists.{AreDifferent}
use Rattle.arbac_policy.specs.Rules.{Rules}
use Rattle.desk_records.specs.declared.requests.Request.{Request}
use Rattle.desk_records.specs.declared.decisions.Decision.{Decision}
use Rattle.desk_records.specs.declared.decisions.Decision.TheVariants as decisions
use Rattle.desk_records.specs.declared.tables.Entity.{Entity}
use Rattle.desk_records.specs.Records.{Kept, IsKept, of_kind}
use Rattle.desk_records.specs.Changes.{FitsDecision, IsNamed}
use Rattle.desk_machine.specs.declared.reply.Reply.{Reply}
use Rattle.desk_machine.specs.declared.reply.Reply.TheVariants.{Granted, Denied, Repeat, OutOfTurn, NumberReused, JournalFull}
use Rattle.desk_machine.specs.Machine.{IsAnswer, Answers, HasRoom, IsGranted, next_row}
use Rattle.desk_machine.proofs.RoleLemmas.{granted_roles}
use Rattle.desk_machine.proofs.FormLemmas.{kept_decided}

-- the next row fits, beside an entity that is kept
row_fits : (kept : Kept) (entity : Option Entity) (request : Request) (decision : Decision) → HasRoom kept
    → IfSome entity (λ e. IsNamed (of_kind e.on kept) e.name) → FitsDecision kept entity (next_row kept request decision)
row_fits kept entity request decision room known = record { next = refl; room = room; edition = refl; known = known }

-- the target of a granted request is kept
granted_known : (rules : Rules) (kept : Kept) (request : Request) (entity : Entity) → IsGranted rules kept request entity
    → IsNamed (of_kind entity.on kept) entity.name
granted_known rules kept request entity granted =
    subst (λ (e : Entity). IsNamed (of_kind e.on kept) e.name) (sym granted.entity_is) (granted.act.target, granted.act_is.target)

answer_kept : (rules : Rules) (kept : Kept) (request : Request) (reply : Reply) (after : Kept) → AreDifferent rules.order.names → IsKept kept
    → IsAnswer rules kept request reply after → IsKept after
answer_kept rules kept request Granted after different is (next, room, entity, granted, same) =
    subst IsKept (sym same) (kept_decided kept (Some entity) (next_row kept request decisions.Granted) is
    (row_fits kept (Some entity) request decisions.Granted room (granted_known rules kept request entity granted))
    (granted_roles rules kept request entity different granted))
answer_kept rules kept request (Denied told) after different is (next, room, denied, same) =
    subst IsKept (sym same) (kept_decided kept None (next_row kept request (decisions.Denied told)) is
    (row_fits kept None request (decisions.Denied told) room tt) tt)
answer_kept rules kept request (Repeat decision) after different is answer = subst IsKept (sym answer.1) is
answer_kept rules kept request (OutOfTurn last) after different is answer = subst IsKept (sym answer.1) is
answer_kept rules kept request (NumberReused last) after different is answer = subst IsKept (sym answer.1) is
answer_kept rules kept request (JournalFull count) after different is answer = subst IsKept (sym answer.3) is

pub answers_kept : (rules : Rules) (kept after : Kept) (requests : List Request) (answers : List Reply) → AreDifferent rules.order.names → IsKept kept
    → Answers rules kept requests answers after → IsKept after
answers_kept rules kept after [] answers different is all = subst IsKept (sym all.1) is
answers_kept rules kept after (request ∷ requests) answers different is (reply, later, then, answers_are, answer, rest) =
    answers_kept rules then after requests later different (answer_kept rules kept request reply then different is answer) rest
