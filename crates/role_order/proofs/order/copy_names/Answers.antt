use Rattle.std.proofs.Common.{◌∙◌, ◌++◌, ◌∷◌, [], ap, sym, arith, take}
use Rattle.std.specs.String.{string_bytes}
use Rattle.role_order.specs.Names.{texts}
use Rattle.list_words.proofs.GetLemmas.{take_all, take_one_more}
use Rattle.role_order.proofs.NameLemmas.{slice_get_texts, texts-push, length_texts}
use Rattle.role_order.proofs.order.copy_names.Goals as goal

pub loop-name-preserved : goal.loop-name-preserved
loop-name-preserved c =
    ap texts c.in_ok-push.ensures.items
    ∙ texts-push c.loop-name.copy.items c.in_ok-from_str.field-0
    ∙ ap (λ names. names ++ string_bytes c.in_ok-from_str.field-0 ∷ []) c.loop-name.invariant
    ∙ ap (λ name. take c.loop-name.name-index (texts c.args.names.now) ++ name ∷ []) (c.in_ok-from_str.ensures.ok ∙ c.as_str.ensures.value)
    ∙ sym (take_one_more (texts c.args.names.now) c.loop-name.name-index (string_bytes c.name-item.result)
    (slice_get_texts c.args.names.now c.loop-name.name-index c.name-item.result c.loop-name-test.true c.name-item.is))

pub returns : goal.returns
returns c = c.loop-name.invariant ∙ take_all (texts c.args.names.now) c.loop-name.name-index (omega (arith, length_texts c.args.names.now))
