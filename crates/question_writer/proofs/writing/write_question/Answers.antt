use Rattle.std.proofs.Common.{◌≡◌, ◌∙◌, ◌++◌, ap}
use Rattle.question_writer.specs.Texts.{question_text, keys_text, tables_text}
use Rattle.question_text.specs.Values.{plain_of}
use Rattle.question_writer.proofs.WrittenLemmas.{bytes_back}
use Rattle.question_writer.proofs.writing.write_question.Goals as goal

pub returns : goal.returns
returns c =
    let q = c.args.question.now in
    let whole : c.put_tables.new.text.items ≡ question_text (plain_of q) =
    c.in_ok-put_tables.ensures
    ∙ ap (λ t. t ++ tables_text (plain_of q)) (c.in_ok-put_keys.ensures ∙ ap (λ t. t ++ keys_text (plain_of q)) c.new-text.ensures.items) in
    record { text = whole; back = bytes_back q c.put_tables.new.text.items c.requires whole }
