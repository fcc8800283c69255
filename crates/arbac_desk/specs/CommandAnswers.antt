-- What each command answers.
use Rattle.std.specs.Prelude.{ℕ, ◌≡◌}
use Rattle.desk_ports.specs.Shelves.{ShelfView}
use Rattle.desk_ports.specs.Sinks.{SinkView}
use Rattle.arbac_desk.specs.Commands.{Form, replay, check, ask, make}
use Rattle.arbac_desk.specs.ReplayAnswers.{IsReplayAnswer}
use Rattle.arbac_desk.specs.CheckAnswers.{IsCheckAnswer}
use Rattle.arbac_desk.specs.AskAnswers.{IsAskAnswer}
use Rattle.arbac_desk.specs.MakeAnswers.{IsMakeAnswer}

-- the answer to words of this form, by what was seen of the shelf and of the sink before the call and after it
abbrev pub IsAnswerTo : Form → ShelfView → ShelfView → SinkView → SinkView → ℕ → Type 0
IsAnswerTo (replay run) shelf shelf' sink sink' status = IsReplayAnswer run shelf shelf' sink sink' status
IsAnswerTo (check question cert) shelf shelf' sink sink' status = IsCheckAnswer question cert shelf shelf' sink sink' status
IsAnswerTo (ask question limit workers) shelf shelf' sink sink' status = IsAskAnswer question limit shelf shelf' sink sink' status
IsAnswerTo (make size limit workers) shelf shelf' sink sink' status = (shelf' ≡ shelf) × IsMakeAnswer size limit sink sink' status
