use Rattle.std.proofs.Common.{rules, ◌≡◌}
use Rattle.role_order.specs.Names.{place_of}
use Rattle.name_index.proofs.IndexedLemmas.{told_place}
use Rattle.name_index.proofs.index.NameIndex.place_of.Goals as goal

pub returns-clause-within : goal.returns-clause-within
returns-clause-within c =
    let told : c.copied.result ≡ place_of c.args.self.now c.args.name.now = search rules in
    (told_place c.args.self.now c.args.name.now c.copied.result told).0

pub returns-clause-there : goal.returns-clause-there
returns-clause-there c =
    let told : c.copied.result ≡ place_of c.args.self.now c.args.name.now = search rules in
    (told_place c.args.self.now c.args.name.now c.copied.result told).1
