use Rattle.hall_match.proofs.JoinedLemmas.{none_then}
use Rattle.arbac_desk.proofs.CommandLemmas.{only_replay, only_check, only_make}
use Rattle.arbac_desk.proofs.command.command_of.Goals as goal

-- the word is that of one command alone
pub returns-in-replay-clause-none : goal.returns-in-replay-clause-none
returns-in-replay-clause-none c = none_then c.replay.result c.replay.ensures.none (λ none. only_replay c.args.word.now _ c.in-replay.is none)

-- the word is that of one command alone
pub returns-in-check-clause-none : goal.returns-in-check-clause-none
returns-in-check-clause-none c = none_then c.check.result c.check.ensures.none (λ none. only_check c.args.word.now _ c.in-check.is none)

-- the word is that of one command alone
pub returns-in-make-clause-none : goal.returns-in-make-clause-none
returns-in-make-clause-none c = none_then c.make.result c.make.ensures.none (λ none. only_make c.args.word.now _ c.in-make.is none)
