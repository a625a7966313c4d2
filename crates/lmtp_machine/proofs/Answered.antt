-- Lines between commands are answered.
use Rattle.std.proofs.Common.{◌≡◌, ℕ, List, length}
use Rattle.envelope.specs.Names.{Directory}
use Rattle.lmtp_machine.specs.Dialogue.{Phase, Start, Ready, Transaction, Data, Waiting, Ended, Setting, Opened, Line, Starved, Answered, Shut, on_line}
use Rattle.lmtp_machine.specs.Conversation.{IsInData, IsListening}
use Rattle.lmtp_machine.specs.Laws.{AnswersLines}
use Rattle.lmtp_machine.proofs.Turns.{line_spoken}

line_answered : (setting : Setting) (directory : Directory) (phase : Phase) (n : ℕ) (l : List ℕ) → IsListening phase → (IsInData phase → ⊥)
    → length (on_line setting directory phase n l).replies ≡ 1
line_answered setting directory Start n l h not_data = (line_spoken directory Start n l tt).said
line_answered setting directory Ready n l h not_data = (line_spoken directory Ready n l tt).said
line_answered setting directory (Transaction sender recipients) n l h not_data = (line_spoken directory (Transaction sender recipients) n l tt).said
line_answered setting directory (Data sender recipients lines) n l h not_data = absurd (not_data tt)
line_answered setting directory (Waiting count) n l h not_data = absurd h
line_answered setting directory Ended n l h not_data = absurd h

pub answers_lines : AnswersLines
answers_lines setting directory s Opened h not_data = absurd h
answers_lines setting directory s (Line l) h not_data = line_answered setting directory s.phase s.submitted l h not_data
answers_lines setting directory s Starved h not_data = absurd (not_data h)
answers_lines setting directory s (Answered verdicts) h not_data = absurd h
answers_lines setting directory s Shut h not_data = absurd h
