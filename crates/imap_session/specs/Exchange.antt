-- What a session asks of its store, in which order, and what it writes.
use Rattle.std.specs.Prelude.{ℕ, zero, suc, ◌+◌, Bool, true, false, codes, length, nat_lt, List, [], ◌∷◌, ◌++◌, Option, Some, None, is_some, ◌&&◌, not, if◌then◌else◌}
use Rattle.std.specs.Option.{option_map}
use Rattle.change_ring.specs.declared.change.Flags.{Flags}
use Rattle.mail_date.specs.declared.stamp.Stamp.{Stamp}
use Rattle.delivery_token.specs.Text.{Text}
use Rattle.change_ring.specs.declared.change.Change.{Change}
use Rattle.mailbox.specs.declared.clients.MailFault.{MailFault}
use Rattle.mailbox.specs.declared.clients.MailFault.TheVariants.{Stranger, Lapped, Spent, NoMemory}
use Rattle.mailbox.specs.declared.clients.Opening.{Opening}
use Rattle.mailbox.specs.declared.mailbox.Status.{Status}
use Rattle.mailbox.specs.declared.clients.Row.{Row}
use Rattle.change_ring.specs.declared.flag_op.FlagOp.{FlagOp}
use Rattle.cursor_set.specs.Lines.{lines}
use Rattle.imap_grammar.specs.declared.set.SeqRange.{SeqRange}
use Rattle.imap_session.specs.declared.standing.After.{After}
use Rattle.imap_session.specs.declared.standing.After.TheVariants.{Go, Bye}
use Rattle.imap_session.specs.declared.standing.After.TheVariants as afters
use Rattle.imap_session.specs.declared.standing.Profile.{Profile}
use Rattle.imap_session.specs.declared.standing.Selected.{Selected}
use Rattle.imap_session.specs.declared.standing.Append.{Append}
use Rattle.imap_session.specs.Texts.{response_text}
use Rattle.imap_session.specs.declared.texts.ResponseText.TheVariants as texts

-- ---- the store

-- what a session asks of the store. All but Look are events of a mailbox
pub data Call : Type 0 where
  Enter : (mailbox : ℕ) → Call
  -- which messages of the view a set names, by UID or by position
  Look : (by_uid : Bool) (set : List SeqRange) → Call
  Read : (uid : ℕ) (mark_seen : Bool) → Call
  Count : (mailbox : ℕ) → Call
  Alter : (uid : ℕ) → FlagOp → Call
  -- of these UIDs, or of all
  Expunge : Option (List ℕ) → Call
  -- at most so many changes
  Feed : ℕ → Call
  Leave : (remove : Bool) → Call
  -- these of a mailbox, whatever their flags, whether the session entered it or not
  Discard : (mailbox : ℕ) (uids : List ℕ) → Call

-- what the store answers
pub data Answer : Type 0 where
  Entered : Opening → Answer
  Looked : (view : List ℕ) → Answer
  Found : Option Row → Answer
  Counted : Status → Answer
  Altered : Option Flags → Answer
  -- to an Expunge: the view that it met, the changes that it showed, and how many messages went
  Expunged : (view : List ℕ) → List Change → ℕ → Answer
  -- to a Feed: the view that it met, and the changes that it showed
  Fed : (view : List ℕ) → List Change → Answer
  Left : ℕ → Answer
  Discarded : Answer
  Refused : MailFault → Answer
  -- no call was made: the session wrote so many more pieces, and then memory was refused to it
  Starved : ℕ → Answer

pub record Event : Type 0 where
  pub call : Call
  pub answer : Answer

-- ---- the session

pub record Folder : Type 0 where
  pub name : List ℕ
  pub mailbox : ℕ

-- what a client sends behind a line, and for what
pub data Purpose : Type 0 where
  -- a message that is appended: the mailbox that was named, where there is one, and the flags and the date that it is to have
  Message : (mailbox : Option ℕ) → Flags → (date : Option Stamp) → Purpose
  -- an argument of the line that began so
  Argument : (line : List ℕ) → Purpose
  -- the response that AUTHENTICATE of this line asks for: it has no bytes, but the rest of the line behind them
  Response : (line : List ℕ) → Purpose

-- a literal while its bytes come: the tag of its command, what it is for, and how many bytes were announced
pub record PendingLiteral : Type 0 where
  pub tag : List ℕ
  pub purpose : Purpose
  pub size : ℕ
  -- so many bytes are still to come; and those that came, unless memory was refused to them
  pub due : ℕ
  pub text : Option (List ℕ)

-- Messages of the selected mailbox that one command copies, one after another (RFC 9051, 6.4.7 to 6.4.9; RFC 6851): their UIDs; those that are still
-- to be submitted, each as it was read before the first was; and the UIDs of the copies that are stored, which are those of the first messages, in
-- their order. Where it moves them they are removed once all copies are stored.
pub record Batch : Type 0 where
  pub by_uid : Bool
  pub moves : Bool
  pub uids : List ℕ
  pub left : List Row
  pub copies : List ℕ

-- where a message comes from that a session submits: its client appended it, or it is the next of these that is copied
pub data Origin : Type 0 where
  Client : Origin
  Copied : Batch → Origin

-- a message that was submitted, and waits for the verdict on its copy: the tag of its command, the message, and where it comes from
pub record Sent : Type 0 where
  pub tag : List ℕ
  pub append : Append
  pub origin : Origin

-- What a session knows of messages that its client appends: the most bytes of one, or that none is taken; the number of the next that is submitted,
-- the literal whose bytes come, which may be a message's, and the message that waits for its verdict.
pub record Mailing : Type 0 where
  pub most : Option ℕ
  pub number : ℕ
  pub begun : Option PendingLiteral
  pub sent : Option Sent

pub record Standing : Type 0 where
  pub folders : List Folder
  -- which commands and answers it has
  pub profile : Profile
  -- the user as whom the client is to log in before all else
  pub login : Option (List ℕ)
  pub selected : Option Selected
  -- the tag of the IDLE that isn't done yet
  pub idling : Option (List ℕ)
  pub ended : Bool
  pub mailing : Mailing

-- before anything was appended
abbrev pub nothing_sent : Option ℕ → Mailing
nothing_sent most = record { most = most; number = 0; begun = None; sent = None }

-- what a session begins with, beside its mailboxes: the most bytes of a message, or that none is taken; the profile; and as whom the client is to log
-- in
pub record Admission : Type 0 where
  pub most : Option ℕ
  pub profile : Profile
  pub login : Option (List ℕ)

-- one that has just begun
abbrev pub begun_with : Admission → List Folder → Standing
begun_with admission folders = record {
  folders = folders;
  profile = admission.profile;
  login = admission.login;
  selected = None;
  idling = None;
  ended = false;
  mailing = nothing_sent admission.most;
}

-- a session that idles, with this tag or none, waits for DONE, and any other for a command
abbrev pub waits_idling : Option (List ℕ) → After
waits_idling None = Go
waits_idling (Some tag) = afters.Idle

-- one to which bytes of a literal are due waits for those, and for the rest of the line behind them
abbrev pub waits_begun : Option PendingLiteral → After → After
waits_begun None other = other
waits_begun (Some a) other = afters.Literal a.due

-- one that submitted a message waits for the verdict
abbrev pub waits_sent : Option Sent → After → After
waits_sent None other = other
waits_sent (Some sent) other = afters.Submit

-- what a session waits for that has not ended
abbrev pub waits_for : Standing → After
waits_for now = waits_sent now.mailing.sent (waits_begun now.mailing.begun (waits_idling now.idling))

-- what the client may send now
abbrev pub may_send : Standing → After
may_send now = if now.ended then Bye else waits_for now

-- it waits for DONE, and may have a turn while it does
abbrev pub is_idling : Standing → Bool
is_idling now = is_some now.idling && not now.ended

-- how the bytes of a literal come
pub data Coming : Type 0 where
  -- the client waits till it is asked for them
  Asked : Coming
  -- it sends them without that
  Unasked : Coming
  -- the same, and they are counted and dropped, since memory was refused
  Dropped : Coming

-- what a session waits for while its last line isn't due
pub data Waiting : Type 0 where
  ForDone : Waiting
  -- so many bytes of a literal, and the rest of the line behind them
  ForLiteral : Coming → Purpose → (size : ℕ) → Waiting
  -- the verdict on a message, which is submitted under the next number
  ForVerdict : Origin → (mailbox : ℕ) → Flags → Text → Waiting
  -- nothing more: it has ended
  ForNothing : Waiting

abbrev pub after_waiting : Waiting → After
after_waiting ForDone = afters.Idle
after_waiting (ForLiteral coming purpose size) = afters.Literal size
after_waiting (ForVerdict origin mailbox flags text) = afters.Submit
after_waiting ForNothing = Bye

-- what is kept of a literal before its bytes come, unless they are dropped
abbrev pub text_before : Coming → Option (List ℕ)
text_before Asked = Some []
text_before Unasked = Some []
text_before Dropped = None

-- the standing of a session that waits so, with this tag
abbrev pub waiting : List ℕ → Waiting → Standing → Standing
waiting tag ForDone now = record now { idling = Some tag }
waiting tag (ForLiteral coming purpose size) now =
    record now {
      mailing = record now.mailing {
        begun = Some (record {
          tag = tag;
          purpose = purpose;
          size = size;
          due = size;
          text = text_before coming;
        });
      };
    }
waiting tag (ForVerdict origin mailbox flags text) now =
    record now {
      mailing = record now.mailing {
        number = now.mailing.number + 1;
        sent = Some (record {
          tag = tag;
          append = record { message = now.mailing.number; mailbox = mailbox; text = text; flags = flags };
          origin = origin;
        });
      };
    }
waiting tag ForNothing now = record now { ended = true }

-- What a session does about one command. What it does after a call depends on the answer; what it does where the store refuses is the
-- same everywhere, and stands in `refused`.
pub data Exchange : Type 0 where
  -- the last line: the tag, and these words. Room for it is reserved before anything is done, so memory can't be refused to it
  Done : (words : List ℕ) → After → Exchange
  -- No last line: this is said, and the session waits. What it does where memory is refused for that stands in `unkept`
  Wait : (bytes : List ℕ) → Waiting → Exchange
  -- room for these may be wanting, and then the exchange ends here
  Write : List ℕ → Exchange → Exchange
  -- room for these was reserved before anything was done, as for the last line, so memory can't be refused to them
  Put : List ℕ → Exchange → Exchange
  Enter : Selected → (Opening → Exchange) → Exchange
  Look : (by_uid : Bool) (set : List SeqRange) → (List ℕ → Exchange) → Exchange
  Read : ℕ → Bool → (Option Row → Exchange) → Exchange
  Count : ℕ → (Status → Exchange) → Exchange
  Alter : ℕ → FlagOp → (Option Flags → Exchange) → Exchange
  -- these show changes
  Expunge : Option (List ℕ) → Exchange → Exchange
  Feed : ℕ → Exchange → Exchange
  Leave : Bool → Exchange → Exchange
  Discard : (mailbox : ℕ) (uids : List ℕ) → Exchange → Exchange

-- what one line leads to
pub record Turn : Type 0 where
  pub events : List Event
  pub bytes : List ℕ
  pub after : After
  pub standing : Standing

abbrev pub nothing_more : After → Standing → Turn
nothing_more after standing = record { events = []; bytes = []; after = after; standing = standing }

abbrev pub saying : List ℕ → Turn → Turn
saying bytes turn = record turn { bytes = bytes ++ turn.bytes }

abbrev pub having : Call → Answer → Turn → Turn
having call answer turn = record turn { events = record { call = call; answer = answer } ∷ turn.events }

abbrev pub closed : Standing → After → Turn
closed now Go = nothing_more Go now
closed now Bye = nothing_more Bye (record now { ended = true })
closed now how = nothing_more how now

abbrev pub untagged : List ℕ → List ℕ
untagged words = codes "* " ++ words ++ codes "\r\n"

-- the client may go on
abbrev pub continuing : List ℕ → List ℕ
continuing words = codes "+ " ++ words ++ codes "\r\n"

abbrev pub bye : List ℕ → List ℕ
bye words = codes "* BYE " ++ words ++ codes "\r\n"

abbrev pub tagged : List ℕ → List ℕ → List ℕ
tagged tag words = tag ++ codes " " ++ words ++ codes "\r\n"

-- what is said where the store refuses, or memory is refused
abbrev pub refusal_text : List ℕ → MailFault → List ℕ
refusal_text tag Stranger = bye (response_text texts.InternalFault)
refusal_text tag Lapped = bye (response_text texts.ChangesMissed)
refusal_text tag Spent = tagged tag (response_text texts.MailboxSpent)
refusal_text tag NoMemory = tagged tag (response_text texts.OutOfMemory)

abbrev pub refusal_after : MailFault → After
refusal_after Stranger = Bye
refusal_after Lapped = Bye
refusal_after Spent = Go
refusal_after NoMemory = Go

abbrev pub refused : List ℕ → Standing → MailFault → Turn
refused tag now fault = saying (refusal_text tag fault) (closed now (refusal_after fault))

-- a tag of at most so many bytes is kept without memory for it
abbrev pub most_in_place : ℕ
most_in_place = 32

-- what is known of the purpose of a literal whose bytes are dropped
abbrev pub nameless : Purpose → Purpose
nameless (Message mailbox flags date) = Message None flags date
nameless (Argument line) = Argument []
nameless (Response line) = Response []

-- this is said, and the session waits
abbrev pub waits_so : List ℕ → List ℕ → Waiting → Standing → Turn
waits_so tag bytes waits now = saying bytes (nothing_more (after_waiting waits) (waiting tag waits now))

-- it comes to this where the tag is too long to be kept in place
abbrev pub where_long : List ℕ → Turn → Option Turn
where_long tag turn = if nat_lt most_in_place (length tag) then Some turn else None

-- What a session does in place of waiting where memory is refused to it. Who waits for more of an IDLE or of a line with a literal keeps its tag till
-- then; behind a literal it is kept already. Where a client waits to be asked for a literal, it is told so at once. But the bytes of a literal that
-- isn't asked for come whatever was refused, and they are no commands: they are counted and dropped, and it is told behind them. Only where the tag
-- can't be kept, with which that is to be told, the session ends.
abbrev pub unkept : List ℕ → Waiting → Standing → ℕ → Option Turn
unkept tag ForDone now zero = where_long tag (refused tag now NoMemory)
unkept tag (ForLiteral Asked purpose size) now zero = where_long tag (refused tag now NoMemory)
unkept tag (ForLiteral Unasked purpose size) now zero = Some (waits_so tag [] (ForLiteral Dropped (nameless purpose) size) now)
unkept tag (ForLiteral Unasked purpose size) now (suc zero) = where_long tag (waits_so tag (bye (response_text texts.ByeOutOfMemory)) ForNothing now)
unkept tag waits now n = None

-- Where an exchange leads with these answers; nowhere where they are none to its calls. Memory is refused to the session itself only where it
-- may want some: at a Write, and where it is to wait. Nobody is told so who asks to leave a mailbox, or for lines whose room was reserved:
-- so no mailbox is left or entered by SELECT or EXAMINE without a word.
abbrev pub played : List ℕ → Standing → Exchange → List Answer → Option Turn
played tag now (Done words how) [] = Some (saying (tagged tag words) (closed now how))
played tag now (Done words how) (answer ∷ more) = None
played tag now (Wait bytes waits) [] = Some (waits_so tag bytes waits now)
played tag now (Wait bytes waits) (Starved n ∷ []) = unkept tag waits now n
played tag now (Wait bytes waits) (answer ∷ more) = None
played tag now (Write bytes x) (Starved zero ∷ []) = Some (refused tag now NoMemory)
played tag now (Write bytes x) (Starved (suc n) ∷ []) = option_map (saying bytes) (played tag now x (Starved n ∷ []))
played tag now (Write bytes x) answers = option_map (saying bytes) (played tag now x answers)
played tag now (Put bytes x) answers = option_map (saying bytes) (played tag now x answers)
played tag now (Enter selected next) (Entered opening ∷ more) =
    option_map (having (Enter selected.mailbox) (Entered opening)) (played tag (record now { selected = Some selected }) (next opening) more)
played tag now (Enter selected next) (Refused fault ∷ []) = Some (having (Enter selected.mailbox) (Refused fault) (refused tag now fault))
played tag now (Look by_uid set next) (Looked view ∷ more) = option_map (having (Look by_uid set) (Looked view)) (played tag now (next view) more)
played tag now (Look by_uid set next) (Refused fault ∷ []) = Some (having (Look by_uid set) (Refused fault) (refused tag now fault))
played tag now (Read uid mark next) (Found row ∷ more) =
    option_map (having (Read uid mark) (Found row)) (played tag now (next row) more)
played tag now (Read uid mark next) (Refused fault ∷ []) = Some (having (Read uid mark) (Refused fault) (refused tag now fault))
played tag now (Count mailbox next) (Counted status ∷ more) =
    option_map (having (Count mailbox) (Counted status)) (played tag now (next status) more)
played tag now (Count mailbox next) (Refused fault ∷ []) = Some (having (Count mailbox) (Refused fault) (refused tag now fault))
played tag now (Alter uid change next) (Altered flags ∷ more) =
    option_map (having (Alter uid change) (Altered flags)) (played tag now (next flags) more)
played tag now (Alter uid change next) (Refused fault ∷ []) = Some (having (Alter uid change) (Refused fault) (refused tag now fault))
played tag now (Expunge uids x) (Expunged view changes gone ∷ more) =
    option_map (λ turn. having (Expunge uids) (Expunged view changes gone) (saying (lines view changes) turn)) (played tag now x more)
played tag now (Expunge uids x) (Refused fault ∷ []) = Some (having (Expunge uids) (Refused fault) (refused tag now fault))
played tag now (Feed limit x) (Fed view changes ∷ more) =
    option_map (λ turn. having (Feed limit) (Fed view changes) (saying (lines view changes) turn)) (played tag now x more)
played tag now (Feed limit x) (Refused fault ∷ []) = Some (having (Feed limit) (Refused fault) (refused tag now fault))
played tag now (Leave remove x) (Left gone ∷ more) =
    option_map (having (Leave remove) (Left gone)) (played tag (record now { selected = None }) x more)
played tag now (Leave remove x) (Refused fault ∷ []) = Some (having (Leave remove) (Refused fault) (refused tag now fault))
played tag now (Discard mailbox uids x) (Discarded ∷ more) = option_map (having (Discard mailbox uids) Discarded) (played tag now x more)
played tag now (Discard mailbox uids x) (Refused fault ∷ []) = Some (having (Discard mailbox uids) (Refused fault) (refused tag now fault))
played tag now x answers = None
