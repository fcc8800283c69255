use Rattle.std.proofs.Common.{◌∙◌}
use Rattle.role_order.proofs.NameLemmas.{name_at-texts, name_at-past}
use Rattle.role_order.proofs.name_table.name_at.Goals as goal

-- the string there has the name
pub returns-in-Some : goal.returns-in-Some
returns-in-Some c =
    let found = c.in-Some.ensures.lookup in
    c.as_bytes.ensures.value ∙ name_at-texts c.args.names.now c.args.role c.in-Some.name.now found.3.0 found.1

pub returns-in-None : goal.returns-in-None
returns-in-None c = name_at-past c.args.names.now c.args.role c.in-None.ensures.lookup.3
