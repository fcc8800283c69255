use Rattle.std.proofs.Common.{List, map}
use Rattle.list_words.specs.Lists.{Each}
use Rattle.arbac_laws.specs.Needs.{Need}
use Rattle.cert_text.specs.Certificates.{users_of}
use Rattle.cert_check.specs.Asked.{AreGoalsCovered, HasOpen, HasStart}
use Rattle.cert_check.specs.Firsts.{IsMetAt, IsOpenAt}
use Rattle.cert_check.specs.Judgements.{asked_by}
use Rattle.cert_check.proofs.ClosedLemmas.{closed_of, first_met_of, first_open_of}
use Rattle.cert_check.proofs.closed.judge_by.Goals as goal

-- the goals are covered, and this is the first need with an open obligation
pub returns-in-Some-2-clause-refused : goal.returns-in-Some-2-clause-refused
returns-in-Some-2-clause-refused c =
    let asked = asked_by c.args.question.now in
    let list = map users_of c.args.needs.now in
    let covered : AreGoalsCovered asked list = rw (c.in_default.is, c.requires.members, c.requires.goals) at c.in_ok-goal.ensures.none in
    let first : IsOpenAt asked.rules list list c.in-Some-2.need c.in-Some-2.obligation =
    rw (c.in-Some-2.is, c.requires.members, c.requires.book) at c.in_ok-need.ensures.first in
    first_open_of asked list c.in-Some-2.need c.in-Some-2.obligation covered first

-- no need has an open obligation, and this is the first that drawn users meet
pub returns-in-Some-3-clause-refused : goal.returns-in-Some-3-clause-refused
returns-in-Some-3-clause-refused c =
    let asked = asked_by c.args.question.now in
    let list = map users_of c.args.needs.now in
    let covered : AreGoalsCovered asked list = rw (c.in_default.is, c.requires.members, c.requires.goals) at c.in_ok-goal.ensures.none in
    let none_open : Each (λ (needs : List Need). ¬ HasOpen asked.rules list needs) list =
    rw (c.in_default-2.is, c.requires.members, c.requires.book) at c.in_ok-need.ensures.none in
    let first : IsMetAt asked.profiles list c.in-Some-3.need c.in-Some-3.choice.items =
    rw (c.in-Some-3.is, c.deref.ensures.value) at c.in_ok-need-2.ensures.first in
    first_met_of asked list c.in-Some-3.need c.in-Some-3.choice.items covered none_open first

-- and no need is met: the list is closed
pub returns-in-None-clause-accepted : goal.returns-in-None-clause-accepted
returns-in-None-clause-accepted c =
    let asked = asked_by c.args.question.now in
    let list = map users_of c.args.needs.now in
    let covered : AreGoalsCovered asked list = rw (c.in_default.is, c.requires.members, c.requires.goals) at c.in_ok-goal.ensures.none in
    let none_open : Each (λ (needs : List Need). ¬ HasOpen asked.rules list needs) list =
    rw (c.in_default-2.is, c.requires.members, c.requires.book) at c.in_ok-need.ensures.none in
    let none_met : Each (λ (needs : List Need). ¬ HasStart asked.profiles needs) list =
    rw (c.in-None.is, c.deref.ensures.value) at c.in_ok-need-2.ensures.none in
    closed_of asked list covered none_open none_met
