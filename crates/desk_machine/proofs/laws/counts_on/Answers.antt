-- One more row of a caller has his next number; imports and loads leave the journal and the last rows.
use Rattle.std.proofs.Common.{refl}
use Rattle.desk_machine.proofs.CountLemmas.{answers_counted}
use Rattle.desk_machine.proofs.laws.counts_on.Goals as goal

pub returns-clause-empty : goal.returns-clause-empty
returns-clause-empty c = record { numbers = λ caller place row at. cc; last = λ caller. refl }

pub returns-clause-requests : goal.returns-clause-requests
returns-clause-requests c = λ rules before after requests answers counted all. answers_counted rules before after requests answers counted all

pub returns-clause-import : goal.returns-clause-import
returns-clause-import c = λ names before rows counted. record { numbers = counted.numbers; last = counted.last }

pub returns-clause-load : goal.returns-clause-load
returns-clause-load c = λ before document counted. record { numbers = counted.numbers; last = counted.last }
