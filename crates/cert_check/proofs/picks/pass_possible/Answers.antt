use Rattle.std.proofs.Common.{arith}
use Rattle.arbac_laws.specs.Needs.{IsPossible}
use Rattle.cert_needs.specs.Wanted.{need_wanted, needs_wanted}
use Rattle.cert_check.proofs.PickLemmas.{impossible_picks, length_mapped}
use Rattle.cert_check.proofs.picks.pass_possible.Goals as goal

-- none of the acts is open
pub returns-then-not-is_possible : goal.returns-then-not-is_possible
returns-then-not-is_possible c =
    let users = c.args.users.now.items in
    let same = length_mapped need_wanted users in
    let none : ¬ IsPossible (needs_wanted users) = λ h.
    let told = (rw c.deref.ensures.value at c.is_possible.ensures).1 h in let not = c.if-not-is_possible.true in cc in
    impossible_picks c.args.index.now.members c.args.hit.now (needs_wanted users) c.args.target c.args.place.now c.pass.new.place
    (let l = c.requires.target in omega (arith, same, l)) none (let on = c.in_ok-pass.ensures in omega (arith, same, on))
