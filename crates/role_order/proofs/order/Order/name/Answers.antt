use Rattle.std.proofs.Common.{◌∙◌, ◌<◌, ap, arith, sym, length, Some}
use Rattle.std.specs.Prelude.{slice_get}
use Rattle.role_order.specs.Graph.{Graph}
use Rattle.role_order.proofs.NameLemmas.{length_texts, slice_get_texts}
use Rattle.role_order.proofs.order.Order.name.Goals as goal

pub index-requires : goal.index-requires
index-requires c = omega (arith, length_texts c.self.inside.names.items, ap (λ (order : Graph). length order.names) c.self.view_is, c.self.inside.names.ok.0)

pub returns : goal.returns
returns c =
    let few : c.args.role < length c.self.inside.names.items = omega
    (arith, length_texts c.self.inside.names.items, ap (λ (order : Graph). length order.names) c.self.view_is) in
    ap Some c.as_str.ensures.value ∙ sym (slice_get_texts c.self.inside.names.items c.args.role c.index.result.now few c.index.ensures)
    ∙ ap (λ (order : Graph). slice_get order.names c.args.role) c.self.view_is
