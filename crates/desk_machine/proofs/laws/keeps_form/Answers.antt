-- A granted set rises below the number of roles, whose names differ; a row that is next leaves the tables of their form.
use Rattle.desk_machine.proofs.AnswerLemmas.{answers_kept}
use Rattle.desk_machine.proofs.FormLemmas.{kept_loaded}
use Rattle.desk_machine.proofs.ImportLemmas.{kept_imported}
use Rattle.desk_machine.proofs.laws.keeps_form.Goals as goal

pub returns-clause-requests : goal.returns-clause-requests
returns-clause-requests c = λ rules before after requests answers different is all. answers_kept rules before after requests answers different is all

pub returns-clause-import : goal.returns-clause-import
returns-clause-import c = λ names before rows different is known few. kept_imported names before rows different is known few

pub returns-clause-load : goal.returns-clause-load
returns-clause-load c = λ before document is. kept_loaded before document is
