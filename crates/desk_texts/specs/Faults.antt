-- The texts of faults. `Memory` is never told.
use Rattle.std.specs.Prelude.{ℕ, List, ◌++◌, codes}
use Rattle.std.specs.Fmt.{decimal}
use Rattle.std.specs.String.{string_bytes}
use Rattle.role_order.specs.declared.order.OrderError.{OrderError}
use Rattle.role_order.specs.declared.order.OrderError.TheVariants as orders
use Rattle.cond_text.specs.declared.cond_error.CondError.{CondError}
use Rattle.cond_text.specs.declared.cond_error.CondError.TheVariants as conditions
use Rattle.policy_text.specs.declared.run_error.RunError.{RunError}
use Rattle.policy_text.specs.declared.run_error.RunError.TheVariants as runs
use Rattle.question_text.specs.declared.question_error.QuestionError.{QuestionError}
use Rattle.question_text.specs.declared.question_error.QuestionError.TheVariants as questions
use Rattle.profile_set.specs.declared.members_error.MembersError.{MembersError}
use Rattle.profile_set.specs.declared.members_error.MembersError.TheVariants as members
use Rattle.cert_text.specs.declared.cert_error.CertError.{CertError}
use Rattle.cert_text.specs.declared.cert_error.CertError.TheVariants as certificates

-- the fault of names and edges that are no role order
unfoldable pub order_fault : OrderError → List ℕ
order_fault orders.NoRoles = codes "NoRoles"
order_fault (orders.TooManyRoles count) = codes "TooManyRoles " ++ decimal count
order_fault (orders.BadName place) = codes "BadName " ++ decimal place
order_fault (orders.SameName first second) = codes "SameName " ++ decimal first ++ codes " " ++ decimal second
order_fault (orders.EdgeOutOfRange place) = codes "EdgeOutOfRange " ++ decimal place
order_fault (orders.Cycle place) = codes "Cycle " ++ decimal place
order_fault orders.Memory = codes "Memory"

-- the fault of a text that is no condition
unfoldable pub cond_fault : CondError → List ℕ
cond_fault (conditions.Unexpected place) = codes "Unexpected " ++ decimal place
cond_fault (conditions.UnknownRole place) = codes "UnknownRole " ++ decimal place
cond_fault (conditions.TooDeep place) = codes "TooDeep " ++ decimal place
cond_fault conditions.Memory = codes "Memory"

-- the fault of a text that is no run text
unfoldable pub run_fault : RunError → List ℕ
run_fault (runs.BadLine line) = codes "BadLine " ++ decimal line
run_fault (runs.UnknownRole line) = codes "UnknownRole " ++ decimal line
run_fault (runs.Order error) = order_fault error
run_fault (runs.Cond line error) = codes "Cond " ++ decimal line ++ codes " " ++ cond_fault error
run_fault (runs.TooMany line) = codes "TooMany " ++ decimal line
run_fault runs.Unended = codes "Unended"
run_fault runs.Memory = codes "Memory"

-- the fault of a text that is no question
unfoldable pub question_fault : QuestionError → List ℕ
question_fault questions.NotToml = codes "NotToml"
question_fault (questions.Missing key) = codes "Missing " ++ string_bytes key
question_fault (questions.WrongKind key) = codes "WrongKind " ++ string_bytes key
question_fault (questions.UnknownRole key) = codes "UnknownRole " ++ string_bytes key
question_fault (questions.Order error) = order_fault error
question_fault (questions.Cond key error) = codes "Cond " ++ string_bytes key ++ codes " " ++ cond_fault error
question_fault (questions.MixedRole key) = codes "MixedRole " ++ string_bytes key
question_fault (questions.TooMany key count) = codes "TooMany " ++ string_bytes key ++ codes " " ++ decimal count
question_fault (questions.TooWide key count) = codes "TooWide " ++ string_bytes key ++ codes " " ++ decimal count
question_fault (questions.UnknownKey key) = codes "UnknownKey " ++ string_bytes key
question_fault questions.Memory = codes "Memory"

-- the fault of a text that is no list of members
unfoldable pub members_fault : MembersError → List ℕ
members_fault (members.BadRow record_number) = codes "BadRow " ++ decimal record_number
members_fault (members.UnknownRole record_number) = codes "UnknownRole " ++ decimal record_number
members_fault members.Memory = codes "Memory"

-- the fault of a text that is no certificate text
unfoldable pub cert_fault : CertError → List ℕ
cert_fault (certificates.BadLine line) = codes "BadLine " ++ decimal line
cert_fault (certificates.UnknownRole line) = codes "UnknownRole " ++ decimal line
cert_fault certificates.Unended = codes "Unended"
cert_fault certificates.Memory = codes "Memory"

-- the fault of a text of too many bytes
abbrev pub too_long : List ℕ
too_long = codes "TooLong"
