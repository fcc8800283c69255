use Rattle.std.proofs.Common.{◌∙◌, length, sym}
use Rattle.cert_text.proofs.PutLemmas.{list_below}
use Rattle.cert_text.proofs.pieces.put_names.Goals as goal

pub put_name-requires : goal.put_name-requires
put_name-requires c =
    (list_below (length c.args.order.now.names) c.args.set.now c.next.new.self c.in-Some.first c.requires
    (sym c.roles-roles.ensures ∙ c.in-Some.ensures.steps)).0

pub put_more_names-requires : goal.put_more_names-requires
put_more_names-requires c =
    (list_below (length c.args.order.now.names) c.args.set.now c.next.new.self c.in-Some.first c.requires
    (sym c.roles-roles.ensures ∙ c.in-Some.ensures.steps)).1
