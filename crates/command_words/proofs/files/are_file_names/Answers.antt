use Rattle.std.proofs.Common.{ℕ, ◌<◌, List, length, get_or, map}
use Rattle.std.specs.Borrow.{Bor}
use Rattle.std.proofs.lemmas.Bool.{false≢true}
use Rattle.list_words.specs.Lists.{Each}
use Rattle.list_words.proofs.EachLemmas.{each_at}
use Rattle.list_words.proofs.GetLemmas.{get_at, get_map}
use Rattle.command_words.specs.Words.{IsFileName}
use Rattle.command_words.specs.Reading.{Text}
use Rattle.command_words.proofs.files.are_file_names.Goals as goal

name_at : (words : List (Bor Text)) (place : ℕ) (default : Bor Text) → place < length words → Each IsFileName (map (λ word. word.now) words)
    → IsFileName (get_or words place default).now
name_at words place default within each =
    let word = get_or words place default in
    each_at IsFileName (map (λ word. word.now) words) place word.now each
    (get_map (λ (word : Bor Text). word.now) words place word (get_at words place default within))

-- each word would be a file name, this one too
pub returns-then-not-is_file_name : goal.returns-then-not-is_file_name
returns-then-not-is_file_name c = (
  λ never. absurd (false≢true never),
  λ each.
      let named = c.is_file_name.ensures.1 (name_at c.args.words.now c.loop-word.word-index _ c.loop-word-test.true each) in
      rw c.if-not-is_file_name.true at named,
)
