use Rattle.std.proofs.Common.{◌≡◌, ◌≤◌, map, length, arith, List, Bor, Some}
use Rattle.std.specs.Prelude.{slice_get}
use Rattle.std.proofs.lemmas.List.{length-map}
use Rattle.std.proofs.lemmas.Bool.Decides.{nat_tests}
use Rattle.list_words.proofs.GetLemmas.{get_map}
use Rattle.arbac_policy.specs.declared.conjunct.Conjunct.{Conjunct}
use Rattle.arbac_laws.specs.Views.{needs_of}
use Rattle.cert_needs.specs.Wanted.{need_wanted, needs_wanted}
use Rattle.cert_check.proofs.BookLemmas.{looked_up}
use Rattle.cert_check.proofs.IndexLemmas.{accepts_there, accepts_nowhere}
use Rattle.cert_check.proofs.index.CoveringAccepts.accepts.Goals as goal

-- the member that stands there is tested
pub returns-in-Some : goal.returns-in-Some
returns-in-Some c =
    let view = λ (users : Bor (List Conjunct)). needs_of users.now in
    let members = c.args.self.now.members.now in
    let raw = c.args.self.now.raw.now in
    let at : slice_get members c.args.item ≡ Some c.in-Some.users.now = looked_up _ _ _ _ c.in-Some.ensures.lookup.0 c.in-Some.ensures.lookup.1 in
    accepts_there (map view members) (needs_wanted raw) c.args.item (length raw) (needs_of c.in-Some.users.now.now) c.covers_few.result
    (get_map view members c.args.item c.in-Some.users.now at) (length-map raw need_wanted) c.covers_few.ensures

pub returns-in-None : goal.returns-in-None
returns-in-None c =
    let view = λ (users : Bor (List Conjunct)). needs_of users.now in
    let members = c.args.self.now.members.now in
    let past : length members ≤ c.args.item = grind (arith, nat_tests, c.in-None.ensures.lookup) in
    let all = length-map members view in
    accepts_nowhere (map view members) (needs_wanted c.args.self.now.raw.now) c.args.item (omega (arith, all, past))
