-- What bodies and proofs say besides: what happens between a session and its store.
use Rattle.imap_session.specs.declared.standing.After.TheVariants.{Go, Bye}
use Rattle.imap_grammar.specs.declared.command.Command.{Command}
use Rattle.imap_grammar.specs.declared.command.Command.TheVariants as commands
use Rattle.std.specs.Prelude.{◌≡◌, ℕ, Bool, true, false, List, [], ◌++◌, Option, Some, Result, Ok, Err, None}
use Rattle.mailbox.specs.declared.clients.MailFault.{MailFault}
use Rattle.imap_session.specs.declared.standing.After.{After}
use Rattle.imap_session.specs.declared.standing.Profile.{Profile}
use Rattle.imap_session.specs.declared.standing.Profile.TheVariants.{Standard, Compatible}
use Rattle.imap_session.specs.declared.standing.Selected.{Selected}
use Rattle.imap_session.specs.Exchange.{Call, Answer, Event, Exchange, Done, Standing, Turn, played, refused, refusal_text, refusal_after, bye, closed, tagged, untagged}
use Rattle.imap_session.specs.Commands.{completed, notice, on_command}
use Rattle.imap_session.specs.Store.{Met}
use Rattle.imap_session.specs.Response.{Response}
use Rattle.imap_session.specs.inner.Response.{Adds}
use Rattle.imap_session.specs.declared.texts.ResponseText.TheVariants as texts
use Rattle.imap_session.specs.Texts.{response_text}
use Rattle.imap_session.specs.declared.texts.ResponseText.{ResponseText}
use Rattle.imap_grammar.specs.declared.command.Verb.TheVariants as verbs

-- ---- part of a turn

abbrev pub onward : List Event → List ℕ → Turn → Turn
onward events bytes turn = record { events = events ++ turn.events; bytes = bytes ++ turn.bytes; after = turn.after; standing = turn.standing }

-- wherever y leads from the standing `next`, x leads from `now`, by these events and with these bytes first
abbrev pub LeadsOn : List ℕ → Standing → Standing → Exchange → Exchange → List Event → List ℕ → Type 0
LeadsOn tag now next x y events bytes = (more : List Answer) (turn : Turn) → played tag next y more ≡ Some turn
    → (whole : List Answer) × (played tag now x whole ≡ Some (onward events bytes turn))

-- an exchange has come so far that y is what is left of x
pub record Reaches {S : Type 0} (step : S → Call → Answer → S → Type 0) (tag : List ℕ) (now next : Standing) (x y : Exchange) (old new : S)
    (before after : Response) : Type 0 where
  pub events : List Event
  pub bytes : List ℕ
  pub leads : LeadsOn tag now next x y events bytes
  pub met : Met step old events new
  pub wrote : Adds bytes before after

-- an exchange was stopped by a fault, of which nothing was written yet
pub record Stops {S : Type 0} (step : S → Call → Answer → S → Type 0) (tag : List ℕ) (now next : Standing) (x : Exchange) (fault : MailFault)
    (old new : S) (before after : Response) : Type 0 where
  pub events : List Event
  pub bytes : List ℕ
  pub leads : (whole : List Answer) × (played tag now x whole ≡ Some (onward events bytes (refused tag next fault)))
  pub met : Met step old events new
  pub wrote : Adds bytes before after

-- Part of an exchange was done, with this result: y is left, or a fault stopped it.
abbrev pub Does : {S V : Type 0} → (S → Call → Answer → S → Type 0) → Exchange → (V → Exchange) → S → S → Response → Response → Result V MailFault
    → Type 0
Does step x y old new before after (Ok v) = (tag : List ℕ) (now : Standing) → Reaches step tag now now x (y v) old new before after
Does step x y old new before after (Err fault) = (tag : List ℕ) (now : Standing) → Stops step tag now now x fault old new before after

-- The same where the selected mailbox may change: it was `from` before, and is `to` after the part that was done.
abbrev pub Moves : {S V : Type 0} → (S → Call → Answer → S → Type 0) → Option Selected → Option Selected → Exchange → (V → Exchange) → S → S
    → Response → Response → Result V MailFault → Type 0
Moves step from to x y old new before after (Ok v) =
    (tag : List ℕ) (now : Standing) → now.selected ≡ from → Reaches step tag now (record now { selected = to }) x (y v) old new before after
Moves step from to x y old new before after (Err fault) =
    (tag : List ℕ) (now : Standing) → now.selected ≡ from → Stops step tag now (record now { selected = to }) x fault old new before after

-- ---- a whole exchange

-- what a command leaves to the outermost call: the text of the last line
abbrev pub last : ResponseText → Exchange
last text = Done (response_text text) Go

-- the last line, or what is said of a fault
abbrev pub last_words : List ℕ → Result ResponseText MailFault → List ℕ
last_words tag (Ok text) = tagged tag (response_text text)
last_words tag (Err fault) = refusal_text tag fault

abbrev pub after_result : {V : Type 0} → After → Result V MailFault → After
after_result after (Ok v) = after
after_result after (Err fault) = refusal_after fault

-- an exchange was played over the store to its end
pub record Plays {S : Type 0} (step : S → Call → Answer → S → Type 0) (tag : List ℕ) (now next : Standing) (x : Exchange) (old new : S)
    (before after : List ℕ) (how : After) : Type 0 where
  pub answers : List Answer
  pub events : List Event
  pub bytes : List ℕ
  pub leads : played tag now x answers ≡ Some (record { events = events; bytes = bytes; after = how; standing = (closed next how).standing })
  pub met : Met step old events new
  pub wrote : after ≡ before ++ bytes

-- what is told of recent messages
abbrev pub recent_line : Profile → List ℕ
recent_line Standard = []
recent_line Compatible = untagged (response_text texts.NoneRecent)

-- a notice as a line; nothing where there is none
abbrev pub notice_line : Option (List ℕ) → List ℕ
notice_line None = []
notice_line (Some words) = untagged words

-- what a command says of the server before all else, in room that was reserved
abbrev pub first_line : Profile → Command → List ℕ
first_line profile commands.Logout = bye (response_text texts.LoggingOut)
first_line profile command = notice_line (notice profile command)

-- what is done then: behind a notice nothing more
abbrev pub behind_notice : Option (List ℕ) → Command → Exchange → Exchange
behind_notice None command x = x
behind_notice (Some words) command x = completed command

abbrev pub behind_first_line : (tag : List ℕ) → Standing → Command → Exchange
behind_first_line tag now commands.Logout = Done (response_text (texts.Completed verbs.Logout)) Bye
behind_first_line tag now command = behind_notice (notice now.profile command) command (on_command tag now command)

-- what a client may send after a command that was done
abbrev pub after_command : Command → After
after_command commands.Logout = Bye
after_command _ = Go

abbrev pub is_idle : Command → Bool
is_idle commands.Idle = true
is_idle _ = false

abbrev pub is_copy : Command → Bool
is_copy (commands.Copy copy) = true
is_copy _ = false

-- IDLE and APPEND, which have no last line yet where they are taken, and COPY and MOVE, which may have none yet
abbrev pub is_open : Command → Bool
is_open commands.Idle = true
is_open (commands.Append append) = true
is_open (commands.Copy copy) = true
is_open _ = false

-- the last line of a command, after which a client may send this
abbrev pub ending : After → ResponseText → Exchange
ending after text = Done (response_text text) after
