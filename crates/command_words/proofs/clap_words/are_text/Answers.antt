use Rattle.std.proofs.Common.{◌≡◌, ◌∙◌, ◌++◌, ◌∷◌, [], ◌+◌, ap, sym, take, string_bytes, subst}
use Rattle.std.proofs.lemmas.List.{take_more}
use Rattle.std.specs.Str.{IsUtf8}
use Rattle.role_order.specs.Names.{texts}
use Rattle.command_words.specs.Reading.{AreText}
use Rattle.command_words.proofs.TextLemmas.{more_text, texts_more}
use Rattle.command_words.proofs.clap_words.are_text.Goals as goal

-- one word more is text
pub loop-word-preserved : goal.loop-word-preserved
loop-word-preserved c =
    let words = c.args.words.now in
    let at = c.loop-word.word-index in
    let word = c.word-item.result in
    let front : take (at + 1) words ≡ take at words ++ word ∷ [] =
    take_more words at word c.loop-word-test.true ∙ ap (λ y. take at words ++ y ∷ []) (sym c.word-item.is) in
    let more = ap texts front ∙ texts_more (take at words) word in
    let text : IsUtf8 (string_bytes word) = subst IsUtf8 c.as_str-text.ensures.value c.as_str-text.utf8 in
    subst AreText (sym more) (more_text (texts (take at words)) (string_bytes word) c.loop-word.invariant text)
