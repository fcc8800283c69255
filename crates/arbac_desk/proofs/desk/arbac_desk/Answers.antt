use Rattle.std.proofs.Common.{inl, inr}
use Rattle.arbac_desk.specs.Commands.{replay, check, ask, make}
use Rattle.arbac_desk.specs.Headline.{TellsPlan, TellsNever, TellsLimit, IsAcceptable}
use Rattle.arbac_desk.proofs.FileLemmas.{is_answered, is_refused}
use Rattle.arbac_desk.proofs.ReplayLemmas.{are_replies}
use Rattle.arbac_desk.proofs.JudgedLemmas.{is_judged, is_unjudged}
use Rattle.arbac_desk.proofs.AskLemmas.{are_replies as are_asked, took_such, tells_plan, tells_never, tells_limit, acceptable}
use Rattle.arbac_desk.proofs.MakeLemmas.{is_made}
use Rattle.arbac_desk.proofs.desk.arbac_desk.Goals as goal

-- the words are of the form `replay RUN`
pub returns-clause-replay : goal.returns-clause-replay
returns-clause-replay g c = λ run words. c.answer.ensures.answer (replay run) words

-- a run text is answered
pub returns-clause-answered : goal.returns-clause-answered
returns-clause-answered g c = λ run words. is_answered _ _ _ (are_replies run) run _ _ _ _ _ (c.answer.ensures.answer (replay run) words)

-- other bytes are refused
pub returns-clause-malformed : goal.returns-clause-malformed
returns-clause-malformed g c = λ run words. is_refused _ _ _ (are_replies run) run _ _ _ _ _ (c.answer.ensures.answer (replay run) words)

-- the words are of the form `check QUESTION CERT`
pub returns-clause-check : goal.returns-clause-check
returns-clause-check g c = λ question cert words. c.answer.ensures.answer (check question cert) words

-- a question and a certificate are judged
pub returns-clause-judged : goal.returns-clause-judged
returns-clause-judged g c = λ question cert words. is_judged question cert _ _ _ _ _ (c.answer.ensures.answer (check question cert) words)

-- other bytes are refused
pub returns-clause-unjudged : goal.returns-clause-unjudged
returns-clause-unjudged g c = λ question cert words. is_unjudged question cert _ _ _ _ _ (c.answer.ensures.answer (check question cert) words)

-- the words are of the form `ask QUESTION`
pub returns-clause-ask : goal.returns-clause-ask
returns-clause-ask g c = λ question limit workers words. c.answer.ensures.answer (ask question limit workers) words

-- a plan was written
pub returns-clause-reachable : goal.returns-clause-reachable
returns-clause-reachable g c = λ question limit workers words status.
    took_such limit question _ _ _ _ _ TellsPlan (c.answer.ensures.answer (ask question limit workers) words) (inl status)
    (λ bytes text h. tells_plan limit bytes _ text status h)

-- a closed list was written
pub returns-clause-unreachable : goal.returns-clause-unreachable
returns-clause-unreachable g c = λ question limit workers words status.
    took_such limit question _ _ _ _ _ TellsNever (c.answer.ensures.answer (ask question limit workers) words) (inr (inl status))
    (λ bytes text h. tells_never limit bytes _ text status h)

-- a recorded list was written
pub returns-clause-undecided : goal.returns-clause-undecided
returns-clause-undecided g c = λ question limit workers words status.
    took_such limit question _ _ _ _ _ (TellsLimit limit) (c.answer.ensures.answer (ask question limit workers) words) (inr (inr status))
    (λ bytes text h. tells_limit limit bytes _ text status h)

-- the checker accepts what was written
pub returns-clause-accepted : goal.returns-clause-accepted
returns-clause-accepted g c = λ question limit workers words status.
    took_such limit question _ _ _ _ _ IsAcceptable (c.answer.ensures.answer (ask question limit workers) words) status
    (λ bytes text h. acceptable limit bytes _ text c.judgement_laws.ensures.none h)

-- a question is answered
pub returns-clause-asked : goal.returns-clause-asked
returns-clause-asked g c = λ question limit workers words.
    is_answered _ _ _ (are_asked limit question) question _ _ _ _ _ (c.answer.ensures.answer (ask question limit workers) words)

-- other bytes are refused
pub returns-clause-unasked : goal.returns-clause-unasked
returns-clause-unasked g c = λ question limit workers words.
    is_refused _ _ _ (are_asked limit question) question _ _ _ _ _ (c.answer.ensures.answer (ask question limit workers) words)

-- the words are of the form `make N`
pub returns-clause-make : goal.returns-clause-make
returns-clause-make g c = λ size limit workers words. c.answer.ensures.answer (make size limit workers) words

-- a sample is searched
pub returns-clause-made : goal.returns-clause-made
returns-clause-made g c = λ size limit workers words none.
    let answer = c.answer.ensures.answer (make size limit workers) words in
    is_made size limit _ _ _ _ _ answer.0 answer.1 none
