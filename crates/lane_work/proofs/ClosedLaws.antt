-- No message is submitted for a mailbox of a shard that is shut: each recipient was accepted by the same directory.
use Rattle.std.proofs.Common.{◌≡◌, ℕ, ◌∙◌, Bool, true, false, List, [], ◌∷◌, ◌++◌, length, refl, ap, sym, subst, All, slice_index_or, if◌then◌else◌, ◌==◌, Result, Ok, Err}
use Rattle.std.specs.Prelude.{nat_lt}
use Rattle.std.proofs.lemmas.List.Elements.{All-push, All-nil, All-cons, All-append, All-head, All-tail}
use Rattle.delivery_token.specs.declared.Verdict.{Verdict}
use Rattle.envelope.specs.Names.{Directory, is_shut, lookup, marked, shard_of}
use Rattle.envelope.specs.Reading.{read}
use Rattle.envelope.specs.Values.{Path, Command}
use Rattle.envelope.specs.Values as say
use Rattle.envelope.specs.declared.command.CommandFault.{CommandFault}
use Rattle.envelope.specs.declared.directory.NoSuch.{NoSuch}
use Rattle.envelope.specs.declared.directory.NoSuch.TheVariants.{System, User}
use Rattle.dot_stuffing.specs.declared.Outcome.{Outcome}
use Rattle.dot_stuffing.specs.declared.Outcome.TheVariants as outcomes
use Rattle.lmtp_machine.specs.declared.reply.Reply.{Reply}
use Rattle.lmtp_machine.specs.declared.reply.Reply.TheVariants.{LineTooLong, ShardClosed, TooManyRecipients, RecipientOk, ShuttingDown, SenderOk}
use Rattle.lmtp_machine.specs.Message.{outcome, plain, sender_text}
use Rattle.lmtp_machine.specs.Dialogue.{Phase, Start, Ready, Transaction, Data, Waiting, Ended, Standing, Setting, Submission, Event, Opened, Line, Starved, Answered, Shut, Turn, turn, dialogue, last_number, cleared, is_dot, on_event, on_mail, on_recipient, on_rcpt, on_data, on_command, on_reading, on_command_line, on_outcome, at_end, on_data_line, on_line, on_starved, on_verdicts, fault_reply}
use Rattle.lmtp_machine.specs.Conversation.{Conversation, Leads}
use Rattle.delivery_token.specs.declared.Job.{Job}
use Rattle.lane_work.specs.declared.desk.LanePermit.{LanePermit}
use Rattle.lane_work.specs.Permits.{AreShutWhereOver, overs}
use Rattle.lane_work.specs.inner.Permits.{AreOpenTo}
use Rattle.lane_work.specs.Talk.{HasTaken, Judged, greeted, goes_on, submits}

abbrev pub IsOpen : Directory → ℕ → Type 0
IsOpen d mailbox = is_shut d (shard_of d mailbox) ≡ false

-- the message is for shards that are open
abbrev pub AreOpen : Directory → Submission → Type 0
AreOpen d message = All (IsOpen d) message.mailboxes

-- those that were accepted so far are mailboxes of open shards
abbrev OpenAt : Directory → Phase → Type 0
OpenAt d Start = Unit {0}
OpenAt d Ready = Unit {0}
OpenAt d (Transaction sender recipients) = All (IsOpen d) recipients
OpenAt d (Data sender recipients lines) = All (IsOpen d) recipients
OpenAt d (Waiting count) = Unit {0}
OpenAt d Ended = Unit {0}

record Open (d : Directory) (t : Turn) : Type 0 where
  here : OpenAt d t.standing.phase
  messages : All (AreOpen d) t.submissions

quiet : (d : Directory) (phase : Phase) (n : ℕ) (replies : List Reply) → OpenAt d phase → Open d (turn phase n replies)
quiet d phase n replies h = record { here = h; messages = All-nil (AreOpen d) }

mail_open : (d : Directory) (phase : Phase) (n : ℕ) (path : Path) → OpenAt d phase → Open d (on_mail phase n path)
mail_open d Start n path h = quiet d Start n _ h
mail_open d (Transaction sender recipients) n path h = quiet d (Transaction sender recipients) n _ h
mail_open d (Data sender recipients lines) n path h = quiet d (Data sender recipients lines) n _ h
mail_open d (Waiting count) n path h = quiet d (Waiting count) n _ h
mail_open d Ended n path h = quiet d Ended n _ h
mail_open d Ready n path h = at_last (n == last_number)
  where
    at_last : (b : Bool) → Open d (if b then turn Ended n (ShuttingDown ∷ []) else turn (Transaction (sender_text path) []) n (SenderOk ∷ []))
    at_last true = quiet d Ended n _ tt
    at_last false = quiet d (Transaction (sender_text path) []) n _ (All-nil (IsOpen d))

recipient_open : (d : Directory) (sender recipients : List ℕ) (n : ℕ) (r : Result ℕ NoSuch) → All (IsOpen d) recipients → Open d (on_recipient d sender recipients n r)
recipient_open d sender recipients n (Err System) h = quiet d (Transaction sender recipients) n _ h
recipient_open d sender recipients n (Err User) h = quiet d (Transaction sender recipients) n _ h
recipient_open d sender recipients n (Ok mailbox) h = unless_shut (is_shut d (shard_of d mailbox)) refl
  where
    at_most : is_shut d (shard_of d mailbox) ≡ false → (b : Bool)
        → Open d (if b then turn (Transaction sender recipients) n (TooManyRecipients ∷ []) else turn (Transaction sender (recipients ++ mailbox ∷ [])) n (RecipientOk ∷ []))
    at_most is true = quiet d (Transaction sender recipients) n _ h
    at_most is false = quiet d (Transaction sender (recipients ++ mailbox ∷ [])) n _ (All-push (IsOpen d) recipients mailbox h is)

    unless_shut : (b : Bool) → is_shut d (shard_of d mailbox) ≡ b → Open d (if b then turn (Transaction sender recipients) n (ShardClosed ∷ [])
        else if length recipients == 100 then turn (Transaction sender recipients) n (TooManyRecipients ∷ []) else turn (Transaction sender (recipients ++ mailbox ∷ [])) n (RecipientOk ∷ []))
    unless_shut true is = quiet d (Transaction sender recipients) n _ h
    unless_shut false is = at_most is (length recipients == 100)

rcpt_open : (d : Directory) (phase : Phase) (n : ℕ) (path : Path) → OpenAt d phase → Open d (on_rcpt d phase n path)
rcpt_open d Start n path h = quiet d Start n _ h
rcpt_open d Ready n path h = quiet d Ready n _ h
rcpt_open d (Transaction sender recipients) n path h = recipient_open d sender recipients n (lookup d path) h
rcpt_open d (Data sender recipients lines) n path h = quiet d (Data sender recipients lines) n _ h
rcpt_open d (Waiting count) n path h = quiet d (Waiting count) n _ h
rcpt_open d Ended n path h = quiet d Ended n _ h

data_open : (d : Directory) (phase : Phase) (n : ℕ) → OpenAt d phase → Open d (on_data phase n)
data_open d Start n h = quiet d Start n _ h
data_open d Ready n h = quiet d Ready n _ h
data_open d (Transaction sender []) n h = quiet d (Transaction sender []) n _ h
data_open d (Transaction sender (mailbox ∷ more)) n h = quiet d (Data sender (mailbox ∷ more) []) n _ h
data_open d (Data sender recipients lines) n h = quiet d (Data sender recipients lines) n _ h
data_open d (Waiting count) n h = quiet d (Waiting count) n _ h
data_open d Ended n h = quiet d Ended n _ h

cleared_open : (d : Directory) (phase : Phase) → OpenAt d (cleared phase)
cleared_open d Start = tt
cleared_open d Ready = tt
cleared_open d (Transaction sender recipients) = tt
cleared_open d (Data sender recipients lines) = tt
cleared_open d (Waiting count) = tt
cleared_open d Ended = tt

command_open : (d : Directory) (phase : Phase) (n : ℕ) (command : Command) → OpenAt d phase → Open d (on_command d (record { phase = phase; submitted = n }) command)
command_open d phase n say.Lhlo h = quiet d Ready n _ tt
command_open d phase n (say.Mail path) h = mail_open d phase n path h
command_open d phase n (say.Rcpt path) h = rcpt_open d phase n path h
command_open d phase n say.Data h = data_open d phase n h
command_open d phase n say.Rset h = quiet d (cleared phase) n _ (cleared_open d phase)
command_open d phase n say.Noop h = quiet d phase n _ h
command_open d phase n say.Vrfy h = quiet d phase n _ h
command_open d phase n say.Quit h = quiet d Ended n _ tt
command_open d phase n say.Expn h = quiet d phase n _ h
command_open d phase n say.Help h = quiet d phase n _ h

reading_open : (d : Directory) (phase : Phase) (n : ℕ) (r : Result Command CommandFault) → OpenAt d phase → Open d (on_reading d (record { phase = phase; submitted = n }) r)
reading_open d phase n (Ok command) h = command_open d phase n command h
reading_open d phase n (Err fault) h = quiet d phase n (fault_reply fault ∷ []) h

command_line_open : (d : Directory) (phase : Phase) (n : ℕ) (line : List ℕ) → OpenAt d phase → Open d (on_command_line d (record { phase = phase; submitted = n }) line)
command_line_open d phase n line h =
    let t : Bool → Turn = λ b. (if b then turn phase n (LineTooLong ∷ []) else on_reading d (record { phase = phase; submitted = n }) (read line)) in
    elim (nat_lt 510 (length line)) as (λ b. Open d (t b)) [
      | true ↦ quiet d phase n (LineTooLong ∷ []) h
      | false ↦ reading_open d phase n (read line) h
    ]

outcome_open : (setting : Setting) (d : Directory) (n : ℕ) (sender recipients : List ℕ) (lines : List (List ℕ)) (o : Outcome) → All (IsOpen d) recipients → Open d (on_outcome setting n sender recipients lines o)
outcome_open setting d n sender recipients lines outcomes.TooBig h = quiet d Ready n _ tt
outcome_open setting d n sender recipients lines outcomes.Nul h = quiet d Ready n _ tt
outcome_open setting d n sender recipients lines outcomes.NoMemory h = quiet d Ready n _ tt
outcome_open setting d n sender recipients lines outcomes.Ok h = record { here = tt; messages = All-cons (AreOpen d) _ [] h (All-nil (AreOpen d)) }

data_line_open : (setting : Setting) (d : Directory) (n : ℕ) (sender recipients : List ℕ) (lines : List (List ℕ)) (line : List ℕ) → All (IsOpen d) recipients → Open d (on_data_line setting n sender recipients lines line)
data_line_open setting d n sender recipients lines line h =
    let t : Bool → Turn = λ b. (if b then at_end setting false n sender recipients lines else turn (Data sender recipients (lines ++ line ∷ [])) n []) in
    elim (is_dot line) as (λ b. Open d (t b)) [
      | true ↦ outcome_open setting d n sender recipients lines (outcome setting.max_message false (plain lines)) h
      | false ↦ quiet d (Data sender recipients (lines ++ line ∷ [])) n [] h
    ]

line_open : (setting : Setting) (d : Directory) (phase : Phase) (n : ℕ) (line : List ℕ) → OpenAt d phase → Open d (on_line setting d phase n line)
line_open setting d Start n line h = command_line_open d Start n line h
line_open setting d Ready n line h = command_line_open d Ready n line h
line_open setting d (Transaction sender recipients) n line h = command_line_open d (Transaction sender recipients) n line h
line_open setting d (Data sender recipients lines) n line h = data_line_open setting d n sender recipients lines line h
line_open setting d (Waiting count) n line h = quiet d (Waiting count) n [] h
line_open setting d Ended n line h = quiet d Ended n [] h

starved_open : (setting : Setting) (d : Directory) (phase : Phase) (n : ℕ) → OpenAt d phase → Open d (on_starved setting phase n)
starved_open setting d Start n h = quiet d Start n [] h
starved_open setting d Ready n h = quiet d Ready n [] h
starved_open setting d (Transaction sender recipients) n h = quiet d (Transaction sender recipients) n [] h
starved_open setting d (Data sender recipients lines) n h = outcome_open setting d n sender recipients lines (outcome setting.max_message true (plain lines)) h
starved_open setting d (Waiting count) n h = quiet d (Waiting count) n [] h
starved_open setting d Ended n h = quiet d Ended n [] h

verdicts_open : (d : Directory) (phase : Phase) (n : ℕ) (verdicts : List Verdict) → OpenAt d phase → Open d (on_verdicts phase n verdicts)
verdicts_open d Start n verdicts h = quiet d Start n [] h
verdicts_open d Ready n verdicts h = quiet d Ready n [] h
verdicts_open d (Transaction sender recipients) n verdicts h = quiet d (Transaction sender recipients) n [] h
verdicts_open d (Data sender recipients lines) n verdicts h = quiet d (Data sender recipients lines) n [] h
verdicts_open d (Waiting count) n verdicts h = quiet d Ready n _ tt
verdicts_open d Ended n verdicts h = quiet d Ended n [] h

event_open : (setting : Setting) (d : Directory) (s : Standing) (e : Event) → OpenAt d s.phase → Open d (on_event setting d s e)
event_open setting d s Opened h = quiet d s.phase s.submitted _ h
event_open setting d s (Line line) h = line_open setting d s.phase s.submitted line h
event_open setting d s Starved h = starved_open setting d s.phase s.submitted h
event_open setting d s (Answered verdicts) h = verdicts_open d s.phase s.submitted verdicts h
event_open setting d s Shut h = quiet d Ended s.submitted _ tt

dialogue_open : (setting : Setting) (d : Directory) (s : Standing) (events : List Event) → OpenAt d s.phase → Open d (dialogue setting d s events)
dialogue_open setting d s [] h = quiet d s.phase s.submitted [] h
dialogue_open setting d s (e ∷ es) h =
    let f : Open d (on_event setting d s e) = event_open setting d s e h in
    let k : Open d (dialogue setting d (on_event setting d s e).standing es) = dialogue_open setting d (on_event setting d s e).standing es f.here in
    record { here = k.here; messages = All-append (AreOpen d) (on_event setting d s e).submissions (dialogue setting d (on_event setting d s e).standing es).submissions f.messages k.messages }

leads_open : (setting : Setting) (d : Directory) (before : Conversation) (bytes : List ℕ) (t : Turn) (after : Conversation) → Leads setting d before bytes t after → OpenAt d before.standing.phase
    → OpenAt d after.standing.phase × All (AreOpen d) t.submissions
leads_open setting d before bytes t after l h =
    let k = subst (Open d) (sym l.turns) (dialogue_open setting d before.standing l.events h) in
    (subst (λ (s : Standing). OpenAt d s.phase) (sym l.stands) k.here, k.messages)

taken_open : (setting : Setting) (d : Directory) {bytes : List ℕ} {said : List Reply} {judged : List Judged} {c : Conversation} → HasTaken setting d bytes said judged c → OpenAt d c.standing.phase
taken_open setting d greeted = tt
taken_open setting d (goes_on {c = c} taken t after talk leads none) = (leads_open setting d c taken t after leads (taken_open setting d talk)).0
taken_open setting d (submits {c = c} taken t after message verdicts talk leads only one as_many) =
    let k = (leads_open setting d c taken t after leads (taken_open setting d talk)).0 in (event_open setting d after.standing (Answered verdicts) k).here

-- a conversation from its greeting on, and the message that it submits now
pub message_open : (setting : Setting) (d : Directory) (bytes : List ℕ) (said : List Reply) (judged : List Judged) (c : Conversation) (taken : List ℕ) (t : Turn) (after : Conversation) (message : Submission)
    → HasTaken setting d bytes said judged c → Leads setting d c taken t after → t.submissions ≡ message ∷ [] → AreOpen d message
message_open setting d bytes said judged c taken t after message talk leads only =
    All-head (AreOpen d) message [] (subst (All (AreOpen d)) only (leads_open setting d c taken t after leads (taken_open setting d talk)).1)

-- nor is any that it submitted before
pub judged_open : (setting : Setting) (d : Directory) {bytes : List ℕ} {said : List Reply} {judged : List Judged} {c : Conversation} → HasTaken setting d bytes said judged c → All (λ (j : Judged). AreOpen d j.message) judged
judged_open setting d greeted = All-nil (λ (j : Judged). AreOpen d j.message)
judged_open setting d (goes_on taken t after talk leads none) = judged_open setting d talk
judged_open setting d (submits {bytes = bytes} {said = said} {judged = judged} {c = c} taken t after message verdicts talk leads only one as_many) =
    All-push (λ (j : Judged). AreOpen d j.message) judged (record { message = message; verdicts = verdicts }) (judged_open setting d talk)
    (message_open setting d bytes said judged c taken t after message talk leads only)

-- so no permit is over that its copies are for
pub open_to : (house own : Directory) (ss : List (LanePermit Job)) (mailboxes : List ℕ) → own ≡ marked own.shut house → AreShutWhereOver own ss → All (IsOpen own) mailboxes → AreOpenTo house mailboxes ss
open_to house own ss [] same over h = All-nil (λ mailbox. slice_index_or (overs ss) (shard_of house mailbox) false ≡ false)
open_to house own ss (m ∷ ms) same over h =
    All-cons (λ mailbox. slice_index_or (overs ss) (shard_of house mailbox) false ≡ false) m ms
    (at_lane (slice_index_or (overs ss) (shard_of house m) false) refl)
    (open_to house own ss ms same over (All-tail (IsOpen own) m ms h))
  where
    lanes : shard_of own m ≡ shard_of house m
    lanes = ap (λ (d : Directory). shard_of d m) same

    at_lane : (b : Bool) → slice_index_or (overs ss) (shard_of house m) false ≡ b → b ≡ false
    at_lane false e = refl
    at_lane true e =
        let there : is_shut own (shard_of house m) ≡ false = subst (λ lane. is_shut own lane ≡ false) lanes (All-head (IsOpen own) m ms h) in
        absurd (let x : true ≡ false = sym (over (shard_of house m) e) ∙ there in cc)
