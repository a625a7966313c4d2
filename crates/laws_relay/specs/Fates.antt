-- What became of the messages that a relay handed over, by the dialogue that the server had with it.
use Rattle.std.specs.Prelude.{◌≡◌, ℕ, Bool, true, false, codes, List, [], ◌∷◌, ◌++◌, length, map, not, if◌then◌else◌, slice_index_or}
use Rattle.std.specs.List.{list_all}
use Rattle.delivery_token.specs.Text.{undated}
use Rattle.delivery_token.specs.declared.Verdict.{Verdict}
use Rattle.envelope.specs.Names.{Directory}
use Rattle.lmtp_machine.specs.Conversation.{IsInData, IsListening}
use Rattle.lmtp_machine.specs.Dialogue.{Phase, Data, Waiting, Standing, Setting, Submission, Event, Opened, Line, Starved, Answered, Shut, Turn, is_dot, on_event, verdict_reply}
use Rattle.lmtp_machine.specs.Message.{stored_text}
use Rattle.laws_relay.specs.ReplyLaws.{is_stored, last_line}
use Rattle.laws_relay.specs.Concludes.{IsSender, Names}
use Rattle.laws_relay.specs.Handed.{Handed, is_code}

-- ---- what happens on a connection

-- Lines are heard while the dialogue listens, and memory is refused only to a message's text;
-- verdicts come where so many are awaited; and a server shuts down only while it listens.
abbrev pub MayHappen : Phase → Event → Type 0
MayHappen phase Opened = ⊥
MayHappen phase (Line line) = IsListening phase
MayHappen phase Starved = IsInData phase
MayHappen phase (Answered verdicts) = phase ≡ Waiting (length verdicts)
MayHappen phase Shut = IsListening phase

-- each of these events may happen where those before it lead
abbrev pub EachMayHappen : Setting → Directory → Standing → List Event → Type 0
EachMayHappen setting directory s [] = Unit {0}
EachMayHappen setting directory s (event ∷ events) =
    MayHappen s.phase event × EachMayHappen setting directory (on_event setting directory s event).standing events

-- the lines that an event is. For want of memory only the line that ends the data is heard otherwise
abbrev pub lines_in : Event → List (List ℕ)
lines_in Opened = []
lines_in (Line line) = line ∷ []
lines_in Starved = codes "." ∷ []
lines_in (Answered verdicts) = []
lines_in Shut = []

abbrev pub lines_of : List Event → List (List ℕ)
lines_of [] = []
lines_of (event ∷ events) = lines_in event ++ lines_of events

-- the verdicts that are told at an event
abbrev pub answers_in : Event → List (List Verdict)
answers_in Opened = []
answers_in (Line line) = []
answers_in Starved = []
answers_in (Answered verdicts) = verdicts ∷ []
answers_in Shut = []

abbrev pub answers_of : List Event → List (List Verdict)
answers_of [] = []
answers_of (event ∷ events) = answers_in event ++ answers_of events

-- Where the data of a message ends, what is submitted of it: one submission, or none where it is refused as a whole. Elsewhere no message ends.
abbrev pub ends_in : Phase → Event → Turn → List (List Submission)
ends_in (Data sender mailboxes lines) (Line line) turn = if is_dot line then turn.submissions ∷ [] else []
ends_in (Data sender mailboxes lines) Starved turn = turn.submissions ∷ []
ends_in _ _ turn = []

-- of each message whose end was heard, in their order
abbrev pub ends_of : Setting → Directory → Standing → List Event → List (List Submission)
ends_of setting directory s [] = []
ends_of setting directory s (event ∷ events) =
    let first = on_event setting directory s event in
    ends_in s.phase event first ++ ends_of setting directory first.standing events

-- ---- what was handed over and what was submitted

-- the i-th line names the i-th mailbox, and there are as many of both
abbrev pub AreNamed : Directory → List (List ℕ) → List ℕ → Type 0
AreNamed directory [] [] = Unit {0}
AreNamed directory [] (mailbox ∷ mailboxes) = ⊥
AreNamed directory (line ∷ lines) [] = ⊥
AreNamed directory (line ∷ lines) (mailbox ∷ mailboxes) = Names directory line mailbox × AreNamed directory lines mailboxes

-- The submission is of this message: its mailboxes are those that the accepted RCPT lines name, in
-- their order, and its text is the return path of the MAIL line and then the lines of the data,
-- without the dots that were put before them.
pub record IsSubmitted (directory : Directory) (message : Handed) (submission : Submission) : Type 0 where
  pub names : AreNamed directory message.recipients submission.mailboxes
  pub sender : List ℕ
  pub from : IsSender message.mail sender
  pub text : submission.text ≡ undated (stored_text sender message.lines)

-- ---- fates

pub data Fate : Type 0 where
  -- it was submitted, and these verdicts on it were told
  Judged : Submission → List Verdict → Fate
  -- it was submitted, and no verdict was told yet
  Awaited : Submission → Fate
  -- it was refused as a whole, and not submitted
  TurnedAway : Fate
  -- it wasn't heard to its end, and not submitted: no reply to it was told, but perhaps that the server shuts down
  Unheard : Fate

-- none of these replies has the code 250
abbrev pub AreRefusals : List (List ℕ) → Type 0
AreRefusals replies = list_all (λ reply. not (is_code (codes "250") reply)) replies ≡ true

-- each of these replies says that the server shuts down (RFC 5321, 3.8)
abbrev pub AreFarewells : List (List ℕ) → Type 0
AreFarewells replies = list_all (is_code (codes "421")) replies ≡ true

-- Each message has its fate, in their order, and its replies tell it: one reply for each verdict, and
-- for each recipient where it was refused as a whole. Only the last may be without an answer.
pub data HaveFates (host : List ℕ) (directory : Directory) : List Handed → List Fate → Type 0 where
  none : HaveFates host directory [] []
  judged : {messages : List Handed} {fates : List Fate} (message : Handed) (submission : Submission) (verdicts : List Verdict)
      → IsSubmitted directory message submission
      → length verdicts ≡ length message.recipients
      → message.replies ≡ map (last_line host) (map verdict_reply verdicts)
      → HaveFates host directory messages fates
      → HaveFates host directory (message ∷ messages) (Judged submission verdicts ∷ fates)
  turned_away : {messages : List Handed} {fates : List Fate} (message : Handed)
      → length message.replies ≡ length message.recipients
      → AreRefusals message.replies
      → HaveFates host directory messages fates
      → HaveFates host directory (message ∷ messages) (TurnedAway ∷ fates)
  awaited : (message : Handed) (submission : Submission)
      → IsSubmitted directory message submission
      → message.replies ≡ []
      → HaveFates host directory (message ∷ []) (Awaited submission ∷ [])
  unheard : (message : Handed)
      → AreFarewells message.replies
      → HaveFates host directory (message ∷ []) (Unheard ∷ [])

-- what was submitted of a message, and the verdicts that were told
abbrev pub submitted_of : Fate → List Submission
submitted_of (Judged submission verdicts) = submission ∷ []
submitted_of (Awaited submission) = submission ∷ []
submitted_of TurnedAway = []
submitted_of Unheard = []

-- the same as a list for each message whose end was heard
abbrev pub end_of : Fate → List (List Submission)
end_of (Judged submission verdicts) = (submission ∷ []) ∷ []
end_of (Awaited submission) = (submission ∷ []) ∷ []
end_of TurnedAway = [] ∷ []
end_of Unheard = []

abbrev pub told_of : Fate → List (List Verdict)
told_of (Judged submission verdicts) = verdicts ∷ []
told_of (Awaited submission) = []
told_of TurnedAway = []
told_of Unheard = []

abbrev pub all_submitted : List Fate → List Submission
all_submitted [] = []
all_submitted (fate ∷ fates) = submitted_of fate ++ all_submitted fates

abbrev pub all_ends : List Fate → List (List Submission)
all_ends [] = []
all_ends (fate ∷ fates) = end_of fate ++ all_ends fates

abbrev pub all_told : List Fate → List (List Verdict)
all_told [] = []
all_told (fate ∷ fates) = told_of fate ++ all_told fates

-- The messages that a relay knows are the ones whose end was heard, what was submitted of them, and the verdicts on that,
-- one after the other, with none left over on either side; and at most one more, which wasn't heard to its end.
pub record AreKnown (host : List ℕ) (directory : Directory) (messages : List Handed) (ends : List (List Submission))
    (submissions : List Submission) (answers : List (List Verdict)) : Type 0 where
  pub fates : List Fate
  pub each : HaveFates host directory messages fates
  pub ends_are : all_ends fates ≡ ends
  pub submissions_are : all_submitted fates ≡ submissions
  pub answers_are : all_told fates ≡ answers

-- the copy for the i-th recipient is stored
abbrev pub was_stored : Fate → (i : ℕ) → Bool
was_stored (Judged submission verdicts) i = slice_index_or (map is_stored verdicts) i false
was_stored (Awaited submission) i = false
was_stored TurnedAway i = false
was_stored Unheard i = false

-- ---- what is read of a front

-- What a relay knows by a front of the replies, and by all of them: the first messages are the same, the last of
-- them may have fewer replies, the first of those that it has by all; and the others aren't known.
pub data AreCut : List Handed → List Handed → Type 0 where
  none : {whole : List Handed} → AreCut [] whole
  same : {front whole : List Handed} (message : Handed) → AreCut front whole → AreCut (message ∷ front) (message ∷ whole)
  cut : {whole : List Handed} (mail : List ℕ) (recipients lines told untold : List (List ℕ))
      → AreCut (record { mail = mail; recipients = recipients; lines = lines; replies = told } ∷ [])
      (record { mail = mail; recipients = recipients; lines = lines; replies = told ++ untold } ∷ whole)
