use Rattle.std.proofs.Common.{◌≡◌, Option, Some, None, IfNone}
use Rattle.std.proofs.lemmas.Option.{IfSome_then}
use Rattle.role_order.specs.Names.{texts}
use Rattle.command_words.specs.Command.{Kept, taken, taken_of}
use Rattle.command_words.specs.Views.{said_by}
use Rattle.command_words.proofs.SayLemmas.{taken_said, none_said, refused_said}
use Rattle.command_words.proofs.words.read_words.Goals as goal

none_then : {A P Q : Type 0} (o : Option A) → IfNone o P → (P → Q) → IfNone o Q
none_then None h f = f h
none_then (Some x) h f = h

-- what was taken, and judged as this, is said by the words
pub returns-in-Some-clause-said : goal.returns-in-Some-clause-said
returns-in-Some-clause-said c =
    let words = texts c.args.words.now in
    let kept = taken_of c.in-Some.taken in
    let took : Some kept ≡ taken words = rw c.in-Some.is at c.in_ok-taken.ensures in
    IfSome_then c.judged.result c.judged.ensures.found (λ read judged. taken_said words kept (said_by read) took judged)

-- what the words say would be judged so
pub returns-in-Some-clause-none : goal.returns-in-Some-clause-none
returns-in-Some-clause-none c =
    let words = texts c.args.words.now in
    let kept = taken_of c.in-Some.taken in
    let took : Some kept ≡ taken words = rw c.in-Some.is at c.in_ok-taken.ensures in
    none_then c.judged.result c.judged.ensures.none (λ unjudged said is. unjudged said (none_said words kept said took is))

-- words that say anything are taken
pub returns-in-None-clause-none : goal.returns-in-None-clause-none
returns-in-None-clause-none c =
    let refused : ◌≡◌ {A = Option Kept} None (taken (texts c.args.words.now)) = rw c.in-None.is at c.in_ok-taken.ensures in
    λ said is. refused_said (texts c.args.words.now) said refused is
