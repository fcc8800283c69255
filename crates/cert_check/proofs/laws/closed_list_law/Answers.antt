use Rattle.arbac_laws.proofs.ConjunctLemmas.{are_seniors}
use Rattle.arbac_laws.proofs.ObligationLemmas.{list_excludes}
use Rattle.cert_check.proofs.laws.closed_list_law.Goals as goal

pub returns : goal.returns
returns c = λ asked ends. list_excludes asked.rules (are_seniors asked.rules.order ends) asked.profiles asked.goal
