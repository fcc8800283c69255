use Rattle.std.proofs.Common.{map, sym}
use Rattle.std.specs.Prelude.{◌↔◌, IsTrue}
use Rattle.std.proofs.lemmas.List.{length-map}
use Rattle.cert_text.specs.Certificates.{entry_of}
use Rattle.cert_check.specs.Asked.{IsDerivedEntry}
use Rattle.cert_check.specs.Rulebooks.{lists_of}
use Rattle.cert_check.proofs.StepLemmas.{of_question}
use Rattle.cert_check.proofs.recorded.fault_of.Goals as goal

-- it isn't derived
pub returns-then-not-branch-clause-some : goal.returns-then-not-branch-clause-some
returns-then-not-branch-clause-some c =
    let earlier = c.args.earlier.now in
    let derived = of_question
    (λ asked. IsTrue c.in_ok-is_derived.field-0 ↔ IsDerivedEntry asked (map entry_of earlier) (entry_of c.args.step.now))
    c.args.question.now c.args.book.now (lists_of (λ users. users.items) c.args.goals.now) c.requires.book c.requires.goals c.in_ok-is_derived.ensures in
    (sym (length-map earlier entry_of), λ d. let passes = derived.1 d in let fails = c.if-not-branch.true in cc)

-- it is derived, and an earlier one covers it
pub returns-in-Some-clause-some : goal.returns-in-Some-clause-some
returns-in-Some-clause-some c =
    let earlier = c.args.earlier.now in
    let derived = of_question
    (λ asked. IsTrue c.in_ok-is_derived.field-0 ↔ IsDerivedEntry asked (map entry_of earlier) (entry_of c.args.step.now))
    c.args.question.now c.args.book.now (lists_of (λ users. users.items) c.args.goals.now) c.requires.book c.requires.goals c.in_ok-is_derived.ensures in (
      sym (length-map earlier entry_of),
      derived.0 c.if-not-branch.false,
      rw (c.in-Some.is, c.as_slice-users.ensures.value, c.requires.members) at c.in_ok-earlier.ensures.first,
    )

-- it is derived and new, and drawn users meet it
pub returns-in-Some-2-clause-some : goal.returns-in-Some-2-clause-some
returns-in-Some-2-clause-some c =
    let earlier = c.args.earlier.now in
    let derived = of_question
    (λ asked. IsTrue c.in_ok-is_derived.field-0 ↔ IsDerivedEntry asked (map entry_of earlier) (entry_of c.args.step.now))
    c.args.question.now c.args.book.now (lists_of (λ users. users.items) c.args.goals.now) c.requires.book c.requires.goals c.in_ok-is_derived.ensures in (
      sym (length-map earlier entry_of),
      derived.0 c.if-not-branch.false,
      rw (c.in_default.is, c.as_slice-users.ensures.value, c.requires.members) at c.in_ok-earlier.ensures.none,
      rw (c.in-Some-2.is, c.deref.ensures.value, c.as_slice-users.ensures.value) at c.in_ok-choice.ensures.some,
    )

-- it is derived and new, and no drawn users meet it
pub returns-in-None-clause-none : goal.returns-in-None-clause-none
returns-in-None-clause-none c =
    let earlier = c.args.earlier.now in
    let derived = of_question
    (λ asked. IsTrue c.in_ok-is_derived.field-0 ↔ IsDerivedEntry asked (map entry_of earlier) (entry_of c.args.step.now))
    c.args.question.now c.args.book.now (lists_of (λ users. users.items) c.args.goals.now) c.requires.book c.requires.goals c.in_ok-is_derived.ensures in
    record {
      derived = derived.0 c.if-not-branch.false;
      uncovered = rw (c.in_default.is, c.as_slice-users.ensures.value, c.requires.members) at c.in_ok-earlier.ensures.none;
      unmet = rw (c.in-None.is, c.deref.ensures.value, c.as_slice-users.ensures.value) at c.in_ok-choice.ensures.none;
    }
