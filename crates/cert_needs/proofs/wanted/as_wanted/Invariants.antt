use Rattle.std.proofs.Common.{◌≡◌, take}
use Rattle.arbac_laws.specs.Views.{needs_of}
use Rattle.cert_needs.specs.Wanted.{needs_wanted, AreFree}
use Rattle.cert_needs.proofs.wanted.as_wanted.Given as goal

abbrev pub invariant-loop-user : goal.invariant-loop-user
invariant-loop-user l = record {
  needs : needs_wanted l.list.items ≡ take l.user-index (needs_of l.users);
  free : AreFree l.list.items;
}
