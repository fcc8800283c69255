-- What a request is answered over the kept tables, and the tables after it.
use Rattle.std.specs.Prelude.{ℕ, ◌≡◌, ◌+◌, ◌<◌, List, [], ◌∷◌, length, slice_set, Option, Some, None}
use Rattle.role_order.specs.Names.{place_of, name_at}
use Rattle.arbac_policy.specs.declared.act.Act.{Act}
use Rattle.arbac_policy.specs.declared.act.ActKind.{ActKind}
use Rattle.arbac_policy.specs.declared.act.ActKind.TheVariants as kinds
use Rattle.arbac_policy.specs.declared.verdict.Part.{Part}
use Rattle.arbac_policy.specs.declared.verdict.Part.TheVariants as parts
use Rattle.arbac_policy.specs.declared.verdict.Side.TheVariants.{Admin, Target}
use Rattle.arbac_policy.specs.Rules.{Rules}
use Rattle.arbac_policy.specs.Steps.{KindStep}
use Rattle.arbac_policy.specs.Verdicts.{KindDenied}
use Rattle.desk_records.specs.declared.requests.Deed.{Deed}
use Rattle.desk_records.specs.declared.requests.Deed.TheVariants.{Assign, Weak, Strong}
use Rattle.desk_records.specs.declared.requests.Request.{Request}
use Rattle.desk_records.specs.declared.decisions.Told.{Told}
use Rattle.desk_records.specs.declared.decisions.Told.TheVariants.{NoUser, NoRole, NoRange, NoAdmin, NoCondition, Exclusive}
use Rattle.desk_records.specs.declared.decisions.Decision.{Decision}
use Rattle.desk_records.specs.declared.decisions.Decision.TheVariants as decisions
use Rattle.desk_records.specs.declared.tables.Entity.{Entity}
use Rattle.desk_records.specs.declared.tables.JournalRow.{JournalRow}
use Rattle.desk_records.specs.declared.tables.LastRow.{LastRow}
use Rattle.desk_records.specs.declared.tables.Change.TheVariants.{Decide}
use Rattle.desk_records.specs.declared.TheConstants.{MOST_ROWS}
use Rattle.desk_records.specs.Records.{Kept, of_kind, names_of}
use Rattle.desk_records.specs.Changes.{IsNamed, last_of, changed}
use Rattle.desk_machine.specs.declared.reply.Reply.{Reply}
use Rattle.desk_machine.specs.declared.reply.Reply.TheVariants.{Granted, Denied, Repeat, OutOfTurn, NumberReused, JournalFull}
use Rattle.desk_machine.specs.Sets.{roles_of, sets_of}

-- the kind of act that a request asks for
abbrev pub kind_of : Deed → ActKind
kind_of Assign = kinds.Assign
kind_of Weak = kinds.Weak
kind_of Strong = kinds.Strong

-- the act that the request asks for: caller and target by place, and the role by number
pub record IsAct (rules : Rules) (kept : Kept) (request : Request) (act : Act) : Type 0 where
  pub kind : act.kind ≡ kind_of request.deed
  pub admin : place_of (names_of kept.users) request.caller ≡ Some act.admin
  pub target : place_of (names_of (of_kind request.on kept)) request.target ≡ Some act.target
  pub role : place_of rules.order.names request.role ≡ Some act.role

-- the act of the request is a step, and this is the target afterwards, its roles by rising number
pub record IsGranted (rules : Rules) (kept : Kept) (request : Request) (entity : Entity) : Type 0 where
  pub act : Act
  pub act_is : IsAct rules kept request act
  pub set : List ℕ
  pub step : KindStep act.kind request.on rules (sets_of rules.order.names kept.users) (sets_of rules.order.names (of_kind request.on kept))
      act.admin act.target act.role (slice_set (sets_of rules.order.names (of_kind request.on kept)) act.target set)
  pub entity_is : entity ≡ record { on = request.on; name = request.target; roles = roles_of rules.order.names set }

-- the act of the request is no step, for this first part
pub record Fails (rules : Rules) (kept : Kept) (request : Request) (part : Part) : Type 0 where
  pub act : Act
  pub act_is : IsAct rules kept request act
  pub denied : KindDenied act.kind request.on rules (sets_of rules.order.names kept.users) (sets_of rules.order.names (of_kind request.on kept))
      act.admin act.target act.role part

-- the role of this number has the name, and the act fails for the part that it makes
abbrev pub FailsAt : Rules → Kept → Request → List ℕ → (ℕ → Part) → Type 0
FailsAt rules kept request name part = (role : ℕ) × (name ≡ name_at rules.order.names role) × Fails rules kept request (part role)

-- the first part of the request that fails, with names: caller, target and role must be known, in this order, and the act be a step
abbrev pub IsDenied : Rules → Kept → Request → Told → Type 0
IsDenied rules kept request (NoUser Admin name) = (name ≡ request.caller) × (place_of (names_of kept.users) request.caller ≡ None)
IsDenied rules kept request (NoUser Target name) =
    (name ≡ request.target) × IsNamed kept.users request.caller × (place_of (names_of (of_kind request.on kept)) request.target ≡ None)
IsDenied rules kept request (NoRole name) =
    (name ≡ request.role) × IsNamed kept.users request.caller × IsNamed (of_kind request.on kept) request.target
    × (place_of rules.order.names request.role ≡ None)
IsDenied rules kept request (NoRange name) = FailsAt rules kept request name parts.NoRange
IsDenied rules kept request (NoAdmin name rule) = FailsAt rules kept request name (λ role. parts.NoAdmin role rule)
IsDenied rules kept request (NoCondition name rule) = FailsAt rules kept request name (λ role. parts.NoCondition role rule)
IsDenied rules kept request (Exclusive name pair) = FailsAt rules kept request name (λ role. parts.Exclusive role pair)

-- the number of a last row, and 0 where there is none
abbrev pub number_in : Option LastRow → ℕ
number_in None = 0
number_in (Some row) = row.request.number

-- the number of the caller's last row
abbrev pub last_number : Kept → List ℕ → ℕ
last_number kept caller = number_in (last_of kept.last caller)

-- the journal's next row: this request with this decision, under the present edition
abbrev pub next_row : Kept → Request → Decision → JournalRow
next_row kept request decision = record {
  seq = length kept.journal + 1;
  request = request;
  decision = decision;
  edition = kept.edition;
}

-- the number is the caller's next
abbrev pub IsNext : Kept → Request → Type 0
IsNext kept request = request.number ≡ last_number kept request.caller + 1

-- the journal takes one more row
abbrev pub HasRoom : Kept → Type 0
HasRoom kept = length kept.journal < MOST_ROWS

-- the request is the caller's last, word for word
pub record IsRepeat (kept : Kept) (request : Request) (decision : Decision) : Type 0 where
  pub row : LastRow
  pub row_is : last_of kept.last request.caller ≡ Some row
  pub same : row.request ≡ request
  pub decision_is : decision ≡ row.decision

-- the number is that of the caller's last request, which is another one
pub record IsReused (kept : Kept) (request last : Request) : Type 0 where
  pub row : LastRow
  pub row_is : last_of kept.last request.caller ≡ Some row
  pub number : row.request.number ≡ request.number
  pub other : ¬ (row.request ≡ request)
  pub last_is : last ≡ row.request

-- the number is neither the caller's last nor the next
pub record IsOutOfTurn (kept : Kept) (request : Request) (last : ℕ) : Type 0 where
  pub last_is : last ≡ last_number kept request.caller
  pub not_last : ¬ (request.number ≡ last)
  pub not_next : ¬ IsNext kept request

-- the request is answered so over the tables, and these are the tables afterwards
abbrev pub IsAnswer : Rules → Kept → Request → Reply → Kept → Type 0
IsAnswer rules kept request (Repeat decision) after = IsRepeat kept request decision × (after ≡ kept)
IsAnswer rules kept request (NumberReused last) after = IsReused kept request last × (after ≡ kept)
IsAnswer rules kept request (OutOfTurn last) after = IsOutOfTurn kept request last × (after ≡ kept)
IsAnswer rules kept request (JournalFull count) after =
    IsNext kept request × (length kept.journal ≡ MOST_ROWS) × (count ≡ MOST_ROWS) × (after ≡ kept)
IsAnswer rules kept request Granted after =
    IsNext kept request × HasRoom kept × (entity : Entity) × IsGranted rules kept request entity
    × (after ≡ changed kept (Decide (Some entity) (next_row kept request decisions.Granted)))
IsAnswer rules kept request (Denied told) after =
    IsNext kept request × HasRoom kept × IsDenied rules kept request told
    × (after ≡ changed kept (Decide None (next_row kept request (decisions.Denied told))))

-- the requests are answered so, one after another
abbrev pub Answers : Rules → Kept → List Request → List Reply → Kept → Type 0
Answers rules kept [] replies after = (replies ≡ []) × (after ≡ kept)
Answers rules kept (request ∷ requests) replies after =
    (reply : Reply) × (later : List Reply) × (then : Kept) × (replies ≡ reply ∷ later) × IsAnswer rules kept request reply then
    × Answers rules then requests later after
