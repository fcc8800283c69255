-- What the code's types are seen as.
use Rattle.std.specs.Prelude.{List, [], Option, Some, None, Vec, map}
use Rattle.std.specs.Borrow.{Bor}
use Rattle.toml.specs.Data.{Data}
use Rattle.toml.specs.View.{array_view}
use Rattle.toml.specs.declared.value.Value.{Value}
use Rattle.std.specs.declared.alloc.Global.{Global}
use Rattle.arbac_policy.specs.PlainRules.{plain_rule}
use Rattle.question_text.specs.declared.reading.Head.{Head}
use Rattle.question_text.specs.declared.reading.Roles.{Roles}
use Rattle.question_text.specs.declared.reading.Rules.{Rules}
use Rattle.question_text.specs.Keys.{list_of}
use Rattle.question_text.specs.Documents.{HeadValue, RolesValue, RulesValue}

-- the entries of a list; of an absent one none
abbrev pub entries_of : Option (Bor (Vec Value Global)) → List Data
entries_of None = []
entries_of (Some list) = list_of (array_view list.now)

-- what the head is seen as
abbrev pub head_view : Head → HeadValue
head_view head = record { version = head.version; separate = head.separate }

-- what roles, edges and pairs are seen as
abbrev pub roles_view : Roles → RolesValue
roles_view roles = record { names = roles.order.names; admins = roles.admins; edges = roles.order.edges; exclusive = roles.exclusive.items }

-- what the tables of rules are seen as
abbrev pub rules_view : Rules → RulesValue
rules_view rules = record {
  assign = map plain_rule rules.assign.items;
  revoke = rules.revoke.items;
  assignp = map plain_rule rules.assignp.items;
  revokep = rules.revokep.items;
}
