use Rattle.std.proofs.Common.{◌≡◌, map, take}
use Rattle.cert_text.specs.Certificates.{users_of}
use Rattle.cert_check.proofs.closed.index_of.Given as goal

abbrev pub invariant-loop-need : goal.invariant-loop-need
invariant-loop-need l = record {
  order : l.index.order ≡ l.order;
  members : l.index.members ≡ map users_of (take l.need-index l.needs);
}
