use Rattle.std.proofs.Common.{◌∙◌}
use Rattle.std.specs.Prelude.{codes}
use Rattle.toml.specs.View.{table_view}
use Rattle.question_text.specs.Tables.{a_range}
use Rattle.question_text.proofs.TableLemmas.{behind_text}
use Rattle.question_text.proofs.rules.the_range.Goals as goal

pub returns : goal.returns
returns c =
    behind_text (λ range. range) (a_range c.args.order.now.names) (table_view c.args.rule.now) c.args.path.now
    (codes "range") c.in_ok-text.text.now c.as_str.result.now c.a_range.result
    c.in_ok-text.ensures (c.as_str.ensures.value ∙ c.in_ok-key.ensures) c.a_range.ensures.answers
