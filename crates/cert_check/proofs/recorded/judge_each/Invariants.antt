use Rattle.std.proofs.Common.{◌≡◌, map, take}
use Rattle.arbac_policy.specs.Truth.{term_of}
use Rattle.arbac_laws.specs.Recorded.{IsRecordedList}
use Rattle.cert_text.specs.Certificates.{entry_of}
use Rattle.cert_check.specs.Asked.{needs_in}
use Rattle.cert_check.proofs.recorded.judge_each.Given as goal

-- the steps so far are right, and the index has them
abbrev pub invariant-loop-at : goal.invariant-loop-at
invariant-loop-at l = record {
  order : l.index.order ≡ l.question.policy.order;
  members : l.index.members ≡ needs_in (map entry_of (take l.at l.recorded));
  right : IsRecordedList l.question.policy l.question.profiles.items (map term_of l.question.goal.items) (map entry_of (take l.at l.recorded));
}
