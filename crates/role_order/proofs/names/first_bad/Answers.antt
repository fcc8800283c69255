use Rattle.std.proofs.Common.{◌≡◌, ◌∙◌, sym, true, Some, ap, arith}
use Rattle.std.proofs.lemmas.Bool.{false≢true}
use Rattle.role_order.specs.Names.{texts, is_role_name}
use Rattle.list_words.proofs.EachLemmas.{each_of}
use Rattle.list_words.proofs.GetLemmas.{below_more}
use Rattle.role_order.proofs.NameLemmas.{slice_get_texts, get_texts_of}
use Rattle.role_order.proofs.names.first_bad.Goals as goal

pub returns-then-not-is_role_name-clause-found : goal.returns-then-not-is_role_name-clause-found
returns-then-not-is_role_name-clause-found c = record {
  item = c.as_str.result.now;
  at = slice_get_texts c.args.names.now c.loop-at.at c.index-names-at.result c.loop-at-test.true c.index-names-at.is ∙ ap Some (sym c.as_str.ensures.value);
  holds = sym c.is_role_name.ensures ∙ c.if-not-is_role_name.true;
  none_before = λ k name l e fails. false≢true (sym fails ∙ c.loop-at.invariant k name l e);
}

pub loop-at-preserved : goal.loop-at-preserved
loop-at-preserved c = below_more (λ name. is_role_name name ≡ true) (texts c.args.names.now) c.loop-at.at c.as_str.result.now c.loop-at.invariant
    (slice_get_texts c.args.names.now c.loop-at.at c.index-names-at.result c.loop-at-test.true c.index-names-at.is ∙ ap Some (sym c.as_str.ensures.value))
    (sym c.is_role_name.ensures ∙ c.if-not-is_role_name.false)

pub returns-clause-none : goal.returns-clause-none
returns-clause-none c = each_of (λ name. is_role_name name ≡ true) (texts c.args.names.now)
    (λ k name e. let within = get_texts_of c.args.names.now k name e in c.loop-at.invariant k name (omega (arith, within)) e)
