-- What bodies and proofs say besides: what the calls of a connection answer.
use Rattle.std.specs.Prelude.{◌≡◌, ℕ, List, ◌++◌}
use Rattle.envelope.specs.Names.{Directory}
use Rattle.lmtp_machine.specs.declared.connection.What.{What}
use Rattle.lmtp_machine.specs.Dialogue.{wire, Setting, Submission, Turn}
use Rattle.lmtp_machine.specs.Conversation.{Conversation, Leads}
use Rattle.lmtp_machine.specs.Calls.{Tells}

-- several calls: all bytes so far lead from the conversation before to one for which the connection stands
pub record Taken (Stands : Conversation → Type 0) (setting : Setting) (host : List ℕ) (directory : Directory) (before : Conversation)
    (bytes old new : List ℕ) (what : What) (pending : List Submission) : Type 0 where
  pub turn : Turn
  pub after : Conversation
  pub leads : Leads setting directory before bytes turn after
  pub stands : Stands after
  pub said : new ≡ old ++ wire host turn.replies
  pub tells : Tells what turn
  pub submits : pending ≡ turn.submissions
