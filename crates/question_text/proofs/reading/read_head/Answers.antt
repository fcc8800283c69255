use Rattle.std.proofs.Common.{[], refl, inl, inr}
use Rattle.std.specs.Prelude.{codes}
use Rattle.toml.specs.Data.{as_bool}
use Rattle.toml.specs.View.{table_view}
use Rattle.question_text.specs.Keys.{required}
use Rattle.question_text.specs.Documents.{the_head}
use Rattle.question_text.specs.Views.{head_view}
use Rattle.question_text.proofs.TableLemmas.{stops}
use Rattle.question_text.proofs.reading.read_head.Goals as goal

pub returns-in_err-separate : goal.returns-in_err-separate
returns-in_err-separate c =
    let table = table_view c.args.table.now in
    stops head_view (required as_bool table [] (codes "separate")) (the_head table) _ _ c.from_residual-in_err-separate.ensures.1
    (λ fault h. inr (tt, c.in_ok-knows_only.ensures, inr (c.in_ok-version.version, c.in_ok-version.ensures, inl (fault, h, refl)))) c.in_err-separate.ensures

pub returns : goal.returns
returns c = inr (
  tt,
  c.in_ok-knows_only.ensures,
  inr (c.in_ok-version.version, c.in_ok-version.ensures, inr (c.in_ok-separate.separate, c.in_ok-separate.ensures, refl)),
)
