use Rattle.std.proofs.Common.{ℕ, ◌≡◌, List, IfSome, IfNone, Option, Some, None, option_map, sym, ◌∙◌, ap}
use Rattle.cond_text.specs.declared.ranges.NamedRange as c
use Rattle.cond_text.specs.Ranges.{NamedRange, IsNamedRange, spell_range, range_view, range_in}
use Rattle.cond_text.proofs.RangeLemmas.{range_found, ranged}
use Rattle.cond_text.proofs.ranges.read_range.Goals as goal

is_range : (text : List ℕ) (read : Option c.NamedRange) → option_map range_view read ≡ range_in text
    → IfSome read (λ range. IsNamedRange (range_view range) × (spell_range (range_view range) ≡ text))
is_range text None e = tt
is_range text (Some range) e = ranged text (range_view range) (sym e)

differ : (range : NamedRange) → None ≡ Some range → ⊥
differ range same = cc

is_none : (text : List ℕ) (read : Option c.NamedRange) → option_map range_view read ≡ range_in text
    → IfNone read ((range : NamedRange) → IsNamedRange range → ¬ (spell_range range ≡ text))
is_none text None e = λ range named spelled. differ range (e ∙ ap range_in (sym spelled) ∙ range_found range named)
is_none text (Some range) e = tt

pub returns-clause-found : goal.returns-clause-found
returns-clause-found c = is_range c.args.text.now c.range_of.result (c.range_of.ensures ∙ ap range_in c.as_bytes.ensures.value)

pub returns-clause-none : goal.returns-clause-none
returns-clause-none c = is_none c.args.text.now c.range_of.result (c.range_of.ensures ∙ ap range_in c.as_bytes.ensures.value)
