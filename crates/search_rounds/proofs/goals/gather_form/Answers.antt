use Rattle.std.proofs.Common.{sym, ap, subst}
use Rattle.arbac_laws.specs.Recorded.{of_goal}
use Rattle.req_core.specs.Answers.{form_in}
use Rattle.search_laws.specs.Candidates.{as_candidate}
use Rattle.search_rounds.specs.Keeping.{Gathers}
use Rattle.search_rounds.proofs.KeepingLemmas.{gathers_none}
use Rattle.search_rounds.proofs.goals.gather_form.Goals as goal

-- an impossible one is no candidate
pub returns-in_default : goal.returns-in_default
returns-in_default c =
    subst (Gathers c.args.gathering.now c.args.gathering.now) (sym (ap (λ form. as_candidate (of_goal c.args.number) (form_in form)) c.in_default.is))
    (gathers_none c.args.gathering.now)
