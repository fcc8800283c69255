use Rattle.std.proofs.Common.{ℕ, List, ◌∙◌, ◌++◌, ◌∷◌, [], ap, sym, take}
use Rattle.std.specs.String.{string_bytes}
use Rattle.role_order.specs.Names.{texts}
use Rattle.list_words.proofs.GetLemmas.{take_one_more}
use Rattle.role_order.proofs.NameLemmas.{texts-push}
use Rattle.question_text.proofs.roles.copied_names.Goals as goal

pub loop-role-preserved : goal.loop-role-preserved
loop-role-preserved c =
    ap texts c.in_ok-push.ensures.items
    ∙ texts-push c.loop-role.names.items c.in_ok-from_str.field-0
    ∙ ap (λ (names : List (List ℕ)). names ++ string_bytes c.in_ok-from_str.field-0 ∷ []) c.loop-role.invariant
    ∙ ap (λ (name : List ℕ). take c.loop-role.role c.args.order.now.names ++ name ∷ []) c.in_ok-from_str.ensures.ok
    ∙ sym (take_one_more c.args.order.now.names c.loop-role.role c.name.result.now (sym c.name.ensures))
