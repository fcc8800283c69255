use Rattle.std.proofs.Common.{sym, subst}
use Rattle.std.specs.String.{string_bytes}
use Rattle.hall_match.proofs.JoinedLemmas.{none_then}
use Rattle.command_words.specs.Views.{said_by}
use Rattle.arbac_desk.specs.Commands.{AreOfNoForm}
use Rattle.arbac_desk.proofs.CommandLemmas.{no_form_said, nothing_said, first_text}
use Rattle.arbac_desk.proofs.command.read_command.Goals as goal

-- what is said behind the word is of no form
pub returns-in-Some-clause-none : goal.returns-in-Some-clause-none
returns-in-Some-clause-none c =
    let words = c.args.words.now in
    let word = c.word-item.result in
    none_then c.command_of.result (rw c.deref.ensures at c.command_of.ensures.none) (λ none.
    subst AreOfNoForm (sym (first_text words word c.in-len1-up.len_at_least c.word-item.is))
    (no_form_said (string_bytes word) _ (said_by c.in-Some.read) (rw c.in-Some.is at c.in_ok-read.ensures.said) none))

-- nothing is said behind the word
pub returns-in-None-clause-none : goal.returns-in-None-clause-none
returns-in-None-clause-none c =
    let words = c.args.words.now in
    let word = c.word-item.result in
    subst AreOfNoForm (sym (first_text words word c.in-len1-up.len_at_least c.word-item.is))
    (nothing_said (string_bytes word) _ (rw c.in-None.is at c.in_ok-read.ensures.none))
