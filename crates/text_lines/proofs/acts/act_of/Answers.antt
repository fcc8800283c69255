use Rattle.std.proofs.Common.{ℕ, ◌≡◌, List, IfSome, IfNone, Option, Some, None, option_map, sym, ◌∙◌, ap}
use Rattle.text_lines.specs.declared.acts.ActLine.{ActLine}
use Rattle.text_lines.specs.Acts.{WrittenAct, IsWrittenAct, act_view, spell_act, act_in}
use Rattle.text_lines.proofs.ActLemmas.{act_found, act_is}
use Rattle.text_lines.proofs.acts.act_of.Goals as goal

is_act : (text : List ℕ) (read : Option ActLine) → option_map act_view read ≡ act_in text
    → IfSome read (λ act. IsWrittenAct (act_view act) × (spell_act (act_view act) ≡ text))
is_act text None e = tt
is_act text (Some act) e = act_is text (act_view act) (sym e)

differ : (act : WrittenAct) → None ≡ Some act → ⊥
differ act same = cc

is_none : (text : List ℕ) (read : Option ActLine) → option_map act_view read ≡ act_in text
    → IfNone read ((act : WrittenAct) → IsWrittenAct act → ¬ (spell_act act ≡ text))
is_none text None e = λ act written spelled. differ act (e ∙ ap act_in (sym spelled) ∙ act_found act written)
is_none text (Some act) e = tt

pub returns-clause-found : goal.returns-clause-found
returns-clause-found c = is_act c.args.bytes.now c.read_act.result c.read_act.ensures

pub returns-clause-none : goal.returns-clause-none
returns-clause-none c = is_none c.args.bytes.now c.read_act.result c.read_act.ensures
