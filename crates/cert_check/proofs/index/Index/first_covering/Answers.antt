use Rattle.std.proofs.Common.{◌≡◌, ◌<◌, ◌∙◌, ap, sym, map, length, arith, List, Bor, Some, false, true}
use Rattle.std.specs.Prelude.{slice_get}
use Rattle.std.proofs.lemmas.List.{length-map}
use Rattle.list_words.proofs.GetLemmas.{get_at, get_map, below_more}
use Rattle.arbac_policy.specs.declared.conjunct.Conjunct.{Conjunct}
use Rattle.arbac_laws.specs.Needs.{Covers}
use Rattle.arbac_laws.specs.Views.{needs_of}
use Rattle.cert_needs.specs.Wanted.{needs_wanted}
use Rattle.cert_check.specs.Indexes.{Indexed}
use Rattle.cert_check.proofs.IndexLemmas.{none_of_all}
use Rattle.cert_check.proofs.index.Index.first_covering.Goals as goal

-- one member more doesn't cover
pub loop-place-preserved : goal.loop-place-preserved
loop-place-preserved c =
    let view = λ (users : Bor (List Conjunct)). needs_of users.now in
    let raw = needs_wanted c.args.raw.now in
    let members = c.self.inside.members.items in
    let place = c.loop-place.place in
    let seen : map view members ≡ c.args.self.now.members = ap (λ (i : Indexed). i.members) c.self.view_is in
    let less : place < length members = omega (arith, c.loop-place-test.true, c.len-place-end.ensures, c.self.invariant.long, length-map members view) in
    let at : slice_get members place ≡ Some c.index.result.now = get_at members place _ less ∙ ap Some (sym c.index.ensures) in
    let there : slice_get c.args.self.now.members place ≡ Some (needs_of c.index.result.now.now) =
    rw seen at (get_map view members place c.index.result.now at) in
    below_more (λ one. ¬ Covers one raw) c.args.self.now.members place (needs_of c.index.result.now.now) c.loop-place.invariant there
    (λ covers. let never : false ≡ true = sym c.if-branch.false ∙ c.in_ok-covers.ensures.1 covers in cc)

pub returns-clause-none : goal.returns-clause-none
returns-clause-none c =
    let view = λ (users : Bor (List Conjunct)). needs_of users.now in
    let members = c.self.inside.members.items in
    let seen : map view members ≡ c.args.self.now.members = ap (λ (i : Indexed). i.members) c.self.view_is in
    let long = ap length seen in
    none_of_all c.args.self.now.members (needs_wanted c.args.raw.now) c.loop-place.place
    (omega (arith, c.loop-place-test.false, c.len-place-end.ensures, c.self.invariant.long, long)) c.loop-place.invariant
