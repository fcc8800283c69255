use Rattle.std.proofs.Common.{rules}
use Rattle.std.proofs.lemmas.Fn.{always_returns_same}
use Rattle.role_order.specs.Names.{texts}
use Rattle.role_order.proofs.NameLemmas.{sorted_table, name_less, name_order, length_texts}
use Rattle.role_order.proofs.name_table.sorted_by_name.Goals as goal

-- the closure compares the names of two numbers
pub returns : goal.returns
returns c =
    let names = texts c.args.names.now in
    let facts = c.sort_unstable_by.ensures in
    sorted_table names c.in_ok-table.table.items c.sort_unstable_by.new.self.items
    (rw (length_texts c.args.names.now) c.in_ok-table.ensures.within)
    (rw (length_texts c.args.names.now) c.in_ok-table.ensures.complete)
    facts.permutation
    (facts.sorted (name_less names) (name_order names) (always_returns_same _ _ _ (λ a r f called. search rules)))
