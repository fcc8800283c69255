-- The decided request is its caller's last, and other callers leave it so.
use Rattle.std.proofs.Common.{◌∙◌}
use Rattle.desk_machine.proofs.LastLemmas.{equal_itself}
use Rattle.desk_machine.proofs.NumberLemmas.{decided_lasts, others_leave, answered_again}
use Rattle.desk_machine.proofs.laws.sent_again.Goals as goal

pub returns : goal.returns
returns c = λ rules before then after last request others answers first again decision answer decides other all at_last.
    let lasts = decided_lasts rules before request first then decision answer decides in
    answered_again rules after request decision again last
    (others_leave rules then after request others answers other all ∙ (rw (equal_itself request.caller) at (lasts.1 request.caller))) at_last
