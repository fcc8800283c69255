use Rattle.toml.specs.View.{table_view}
use Rattle.question_text.specs.Keys.{toml_of}
use Rattle.question_text.specs.Values.{plain_of}
use Rattle.question_text.specs.Documents.{if_toml, question}
use Rattle.question_text.proofs.OutcomeLemmas.{answers_on}
use Rattle.question_text.proofs.reading.read.Goals as goal

pub returns : goal.returns
returns c = answers_on plain_of (if_toml (toml_of c.args.bytes.now)) (question c.args.need_goal)
    (table_view c.in_ok-table.table) c.read_table.result c.in_ok-table.ensures c.read_table.ensures
