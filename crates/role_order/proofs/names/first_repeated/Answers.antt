use Rattle.std.proofs.Common.{◌∙◌, sym, Some, ap, arith, subst}
use Rattle.role_order.specs.Names.{texts, place_of}
use Rattle.list_words.specs.Lists.{AreDifferent}
use Rattle.list_words.proofs.GetLemmas.{take_all}
use Rattle.role_order.proofs.NameLemmas.{slice_get_texts, texts-take, length_texts, different_more}
use Rattle.role_order.proofs.names.first_repeated.Goals as goal

pub returns-in-Some-clause-found : goal.returns-in-Some-clause-found
returns-in-Some-clause-found c = record {
  name = c.as_bytes.result.now;
  at = slice_get_texts c.args.names.now c.loop-at.at c.index-names-at.result c.loop-at-test.true c.index-names-at.is ∙ ap Some (sym c.as_bytes.ensures.value);
  before = ap (λ names. place_of names c.as_bytes.result.now) (sym (texts-take c.args.names.now c.loop-at.at)) ∙ sym c.in-Some.ensures.place;
  none_before = c.loop-at.invariant;
}

pub loop-at-preserved : goal.loop-at-preserved
loop-at-preserved c = different_more (texts c.args.names.now) c.loop-at.at c.as_bytes.result.now
    (slice_get_texts c.args.names.now c.loop-at.at c.index-names-at.result c.loop-at-test.true c.index-names-at.is ∙ ap Some (sym c.as_bytes.ensures.value))
    c.loop-at.invariant
    (ap (λ names. place_of names c.as_bytes.result.now) (sym (texts-take c.args.names.now c.loop-at.at)) ∙ sym c.in_default.ensures.place)

pub returns-clause-none : goal.returns-clause-none
returns-clause-none c = subst AreDifferent (take_all (texts c.args.names.now) c.loop-at.at (omega (arith, length_texts c.args.names.now))) c.loop-at.invariant
