-- What happens to a session one turn at a time, what its client has sent for that, and what the client is told. Nothing of a mailbox stands here.
use Rattle.std.specs.Prelude.{◌≡◌, ℕ, ◌+◌, ◌<◌, ◌≤◌, ◌^◌, Bool, false, codes, length, nat_lt, List, [], ◌∷◌, ◌++◌, Option, Some, None, if◌then◌else◌}
use Rattle.std.specs.Option.{option_map}
use Rattle.delivery_token.specs.declared.Verdict.{Verdict}
use Rattle.delivery_token.specs.declared.Verdict.TheVariants as verdicts
use Rattle.imap_grammar.specs.Literals.{quoted}
use Rattle.line_io.specs.Wire.{IsUncut, crlf}
use Rattle.imap_session.specs.Exchange.{Answer as StoreAnswer, Argument, Call, Message, PendingLiteral, Purpose, Response, Standing, Turn, may_send, nothing_more}
use Rattle.imap_session.specs.Commands.{due_of, idle_turn, most_line, response_in, turn_of, turn_of_long_line, turn_of_verdict, with_bytes}
use Rattle.imap_session.specs.Dialogue.{most_bytes}
use Rattle.imap_session.specs.Store.{IsBeyondRoom, Met}

-- ---- what was sent as a command

-- where no memory was refused to it, and it isn't too long to be one
abbrev pub if_kept : Option (List ℕ) → Option (List ℕ)
if_kept None = None
if_kept (Some line) = if nat_lt most_line (length line) then None else Some line

-- the rest of a line behind what came last
abbrev pub whole_behind : Purpose → (text : Option (List ℕ)) → (rest : List ℕ) → Option (List ℕ)
whole_behind (Message mailbox flags date) text rest = None
whole_behind (Argument before) text rest = if_kept (option_map (λ text. before ++ quoted text ++ rest) text)
whole_behind (Response before) text rest = if_kept (option_map (λ text. before ++ codes " " ++ response_in rest) text)

abbrev pub whole_in : Option PendingLiteral → (idling : Option (List ℕ)) → List ℕ → Option (List ℕ)
whole_in (Some a) idling line = whole_behind a.purpose a.text line
whole_in None (Some tag) line = None
whole_in None None line = Some line

-- What a client sent as a command when this line came to a session that stands so: the line, or where it goes on behind a literal the whole of it,
-- with that as a quoted string in its place (RFC 9051, 4.3), and behind AUTHENTICATE that with its response (6.2.2). Nothing where the line ends an
-- IDLE or stands behind a message, and where it is given up, since it is too long or memory was refused to it.
abbrev pub whole_line : Standing → List ℕ → Option (List ℕ)
whole_line now line = whole_in now.mailing.begun now.idling line

-- ---- what happens

-- A line came, or one that was too long, or the session had a turn while it idles; or bytes of a literal came, to which memory was refused or not, or
-- the verdict on a message. With the store's answers.
pub data Happening : Type 0 where
  Line : (line : List ℕ) → List StoreAnswer → Happening
  LongLine : Happening
  Turned : List StoreAnswer → Happening
  Literal : (kept : Bool) → (bytes : List ℕ) → Happening
  Heard : Verdict → List StoreAnswer → Happening

abbrev pub leads_to : Standing → Happening → Option Turn
leads_to now (Line line answers) = turn_of now line answers
leads_to now LongLine = Some (turn_of_long_line now)
leads_to now (Turned answers) = idle_turn now answers
leads_to now (Literal kept bytes) = Some (nothing_more (may_send (with_bytes kept bytes now)) (with_bytes kept bytes now))
leads_to now (Heard verdict answers) = turn_of_verdict now verdict answers

-- the bytes of the client that are answered so
abbrev pub IsSentFor : Happening → List ℕ → Type 0
IsSentFor (Line line answers) bytes = bytes ≡ line ++ crlf
IsSentFor LongLine bytes = (line : List ℕ) × (most_bytes < length line + 2) × IsUncut line × (bytes ≡ line ++ crlf)
IsSentFor (Literal kept literal) bytes = bytes ≡ literal
IsSentFor (Turned answers) bytes = bytes ≡ []
IsSentFor (Heard verdict answers) bytes = bytes ≡ []

-- It may happen to a session that stands so. What its client sends comes to one that goes on: one line, with no CRLF within, where no literal is
-- due, or of a literal no more than is due, to which memory is refused only where it is beyond the room that there is.
abbrev pub IsTimely : Standing → Happening → Type 0
IsTimely now (Line line answers) = (now.ended ≡ false) × (due_of now.mailing.begun ≡ 0) × (length line + 2 ≤ most_bytes) × IsUncut line
IsTimely now LongLine = (now.ended ≡ false) × (due_of now.mailing.begun ≡ 0)
IsTimely now (Literal kept bytes) = (now.ended ≡ false) × (0 < length bytes) × (length bytes ≤ due_of now.mailing.begun)
    × (kept ≡ false → IsBeyondRoom now.mailing.begun bytes)
IsTimely now happening = Unit {0}

-- the UID of a message that was stored can be printed
abbrev pub IsPrinted : Verdict → Type 0
IsPrinted (verdicts.Stored uid) = uid < 2 ^ 64
IsPrinted (verdicts.Refused why) = Unit {0}

-- the UID in a verdict can be printed
abbrev pub VerdictsArePrinted : Happening → Type 0
VerdictsArePrinted (Heard verdict answers) = IsPrinted verdict
VerdictsArePrinted happening = Unit {0}

-- ---- what the client is told

-- the answer to a line that it sent as a command, with its literals in it, or words that come without one, as in an IDLE or behind a message
pub data Told : Type 0 where
  Answer : (line : List ℕ) → (bytes : List ℕ) → Told
  Words : (bytes : List ℕ) → Told

abbrev pub bytes_in : Told → List ℕ
bytes_in (Answer line bytes) = bytes
bytes_in (Words bytes) = bytes

-- the answer to what was sent as a command, or words
abbrev pub told_line : (whole : Option (List ℕ)) → (bytes : List ℕ) → Told
told_line None bytes = Words bytes
told_line (Some whole) bytes = Answer whole bytes

abbrev pub told_of : Standing → Happening → List ℕ → Told
told_of now (Line line answers) bytes = told_line (whole_line now line) bytes
told_of now happening bytes = Words bytes

-- ---- one turn after another

-- Over any store, which took each step when the session asked for it: a session stood so when it came. Since then these bytes of its client were
-- answered, and it was told all this, piece by piece; and now it stands so, and its store is that. What others do to the store between
-- two steps needs no case of its own where each step may find it done.
pub data Lived {S : Type 0} (step : S → Call → StoreAnswer → S → Type 0) (first : Standing) (began : S)
    : List ℕ → List Told → Standing → S → Type 0 where
  comes : Lived step first began [] [] first began
  turns : {sent : List ℕ} {told : List Told} {now : Standing} {s : S} → Lived step first began sent told now s
      → (happening : Happening) (bytes : List ℕ) (turn : Turn) (next : S) → IsTimely now happening → IsSentFor happening bytes
      → VerdictsArePrinted happening → leads_to now happening ≡ Some turn → Met step s turn.events next
      → Lived step first began (sent ++ bytes) (told ++ told_of now happening turn.bytes ∷ []) turn.standing next

-- the room that an answer reserves before anything is done: for a line that is said again and 165 bytes, beside the tag of a command that isn't done
-- yet
abbrev pub answer_room : ℕ
answer_room = 8357

-- how long the tag is of a command that isn't done yet
abbrev pub tag_len : Option (List ℕ) → ℕ
tag_len None = 0
tag_len (Some tag) = length tag

-- the tag of a command that isn't done yet: of an IDLE, or of one that goes on behind a literal
abbrev pub kept_behind : Option PendingLiteral → Option (List ℕ) → Option (List ℕ)
kept_behind None idling = idling
kept_behind (Some a) idling = Some a.tag

abbrev pub kept_tag : Standing → Option (List ℕ)
kept_tag now = kept_behind now.mailing.begun now.idling
