use Rattle.std.proofs.Common.{◌≡◌, ◌-◌, length}
use Rattle.role_order.specs.Reach.{count_up}
use Rattle.arbac_laws.specs.Obligations.{flat}
use Rattle.cert_needs.specs.Wanted.{needs_wanted}
use Rattle.cert_check.specs.Passing.{GoesOn, IsMissed, by_other}
use Rattle.cert_check.proofs.picks.pass_others.Given as goal

abbrev pub invariant-loop-admin : goal.invariant-loop-admin
invariant-loop-admin l = record {
  users : l.users ≡ l.fn.users;
  marks : l.marks ≡ l.fn.marks;
  on : GoesOn (IsMissed l.index.members) (flat (by_other l.hit (needs_wanted l.fn.users) l.target) (count_up 0 (length l.fn.users)))
      l.fn.place (flat (by_other l.hit (needs_wanted l.fn.users) l.target) (count_up l.admin (length l.fn.users - l.admin))) l.place;
}
