-- A caller's number grows with each decided request of his.
use Rattle.std.proofs.Common.{arith}
use Rattle.desk_machine.proofs.NumberLemmas.{decided_once}
use Rattle.desk_machine.proofs.laws.acts_once.Goals as goal

pub returns : goal.returns
returns c = λ rules before after requests answers all i j first second one other less fi sj oi oj caller number da db.
    let grows = decided_once rules before after requests answers all i j first second one other less fi sj oi oj caller da db in
    omega (arith, grows, number)
