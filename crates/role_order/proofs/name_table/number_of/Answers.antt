use Rattle.std.proofs.Common.{sym, get_or, rules}
use Rattle.std.specs.Ordering.{nat_cmp}
use Rattle.std.specs.Cmp.Lexicographic.{slice_cmp}
use Rattle.std.proofs.lemmas.Fn.{always_returns_same}
use Rattle.role_order.specs.Names.{texts, name_at}
use Rattle.role_order.proofs.NameLemmas.{place_of-searched, place_of-unsearched}
use Rattle.role_order.proofs.name_table.number_of.Goals as goal

-- the search found a number whose name is the text
pub returns-in-Ok-clause-place : goal.returns-in-Ok-clause-place
returns-in-Ok-clause-place c =
    let names = texts c.args.names.now in
    let found = c.in-Ok.ensures.position (λ role. slice_cmp nat_cmp (name_at names role) c.args.bytes.now)
    (always_returns_same _ _ _ (λ a r f called. search rules)) in
    sym (place_of-searched names c.args.table.now c.args.bytes.now (get_or c.args.table.now c.in-Ok.at 0) c.requires.different
    (c.requires.table.within c.in-Ok.at 0 c.in-Ok.ensures.bound) (found 0))

-- the search found none
pub returns-in-Err-clause-place : goal.returns-in-Err-clause-place
returns-in-Err-clause-place c =
    let names = texts c.args.names.now in
    sym (place_of-unsearched names c.args.table.now c.args.bytes.now c.in-Err.field-0 c.requires.table
    (c.in-Err.ensures.position (λ role. slice_cmp nat_cmp (name_at names role) c.args.bytes.now) (always_returns_same _ _ _ (λ a r f called. search rules))))
