use Rattle.std.proofs.Common.{◌≡◌, false, arith, eqb}
use Rattle.std.proofs.lemmas.Bool.Decides.{nat_tests}
use Rattle.cert_needs.specs.Wanted.{needs_wanted}
use Rattle.cert_check.proofs.PickLemmas.{other_counts}
use Rattle.cert_check.proofs.picks.pass_other.Goals as goal

-- the one act is open, or is passed
pub returns-clause-counts : goal.returns-clause-counts
returns-clause-counts c =
    let apart : eqb c.args.admin c.args.target ≡ false = grind (arith, nat_tests) in
    other_counts c.args.index.now.members c.args.hit.now (needs_wanted c.args.users.now) c.args.target c.args.admin c.in_ok-is_open.is_open
    c.in_ok-found.found c.args.place.now c.pass_closed.new.place apart c.in_ok-is_open.ensures.missed c.in_ok-found.ensures.same
    c.in_ok-found.ensures.open c.in_ok-found.ensures.passed
