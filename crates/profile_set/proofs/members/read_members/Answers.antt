use Rattle.profile_set.proofs.SoleLemmas.{only_of, told_of, one_list}
use Rattle.profile_set.proofs.members.read_members.Goals as goal

-- what is read is the one list of rows that the bytes stand for, and bytes with rows have no fault
pub returns-clause-only : goal.returns-clause-only
returns-clause-only c = only_of c.args.order.now.names c.args.bytes.now c.read.result c.read.ensures.rows c.read.ensures.fault

-- bytes with a fault stand for no rows, and have one first fault
pub returns-clause-told : goal.returns-clause-told
returns-clause-told c = told_of c.args.order.now.names c.args.bytes.now c.read.result c.read.ensures.rows c.read.ensures.fault

pub returns-clause-one : goal.returns-clause-one
returns-clause-one c = one_list c.args.order.now.names c.args.bytes.now

pub returns-then-is_err-clause-one : goal.returns-then-is_err-clause-one
returns-then-is_err-clause-one c = one_list c.args.order.now.names c.args.bytes.now
