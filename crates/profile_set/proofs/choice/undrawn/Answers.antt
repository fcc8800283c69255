use Rattle.profile_set.proofs.DrawLemmas.{spent_refused}
use Rattle.profile_set.proofs.choice.undrawn.Goals as goal

-- a drawn choice leaves something of each number at its place
pub returns-then-end-choice-clause-refused : goal.returns-then-end-choice-clause-refused
returns-then-end-choice-clause-refused c =
    spent_refused c.args.profiles.now c.args.choice.now c.drawn_until-end.result (c.drawn_until-end.ensures.spent c.if-end-choice.true)
