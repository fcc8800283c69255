use Rattle.std.proofs.Common.{◌∙◌, sym, subst, length, ℕ, List, ◌<◌}
use Rattle.list_words.specs.Lists.{Each}
use Rattle.question_writer.proofs.NamedLemmas.{each_below}
use Rattle.question_writer.proofs.writing.put_set_line.Goals as goal

pub put_roles-requires : goal.put_roles-requires
put_roles-requires c =
    subst (λ (roles : List ℕ). Each (λ role. role < length c.args.order.now.names) roles) (sym (c.deref.ensures.value ∙ c.in_ok-roles.ensures))
    (each_below (length c.args.order.now.names) c.args.set.now c.requires.below)
