use Rattle.std.proofs.Common.{◌≡◌, ◌++◌, map}
use Rattle.cert_text.specs.Certificates.{users_of}
use Rattle.question_answer.proofs.certificates.needs.Given as goal

-- those made so far, and behind them those that are left
abbrev pub invariant-loop-req : goal.invariant-loop-req
invariant-loop-req l = map users_of l.made.items ++ l.req-iterator.rest.items ≡ l.fn.list.items
