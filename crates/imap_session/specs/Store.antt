-- What happens between a session and its store.
use Rattle.std.specs.Global.{Global}
use Rattle.imap_grammar.specs.Sets.{messages_in}
use Rattle.imap_grammar.specs.declared.set.SeqRange.{SeqRange}
use Rattle.imap_grammar.specs.declared.view.Named.{Named}
use Rattle.std.specs.Prelude.{◌≡◌, ◌<◌, ◌≤◌, ◌⊎◌, ◌+◌, ◌*◌, length, min, IfSome, ℕ, Vec, Bool, false, List, [], ◌∷◌, ◌++◌, Option, Some, None, option_map, Result, Ok, Err}
use Rattle.change_ring.specs.declared.change.Change.{Change}
use Rattle.mailbox.specs.declared.clients.MailFault.{MailFault}
use Rattle.mailbox.specs.declared.clients.MailFault.TheVariants.{NoMemory}
use Rattle.delivery_token.specs.declared.Verdict.{Verdict}
use Rattle.change_ring.specs.Log.{replay}
use Rattle.cursor_set.specs.Lines.{lines}
use Rattle.imap_session.specs.declared.standing.After.{After}
use Rattle.imap_session.specs.Exchange.{Message, PendingLiteral, Purpose, Call, Answer, Entered, Looked, Expunged, Fed, Left, Discarded, Refused, Event, Feed, Origin, Client, Copied, Sent, Standing}
use Rattle.imap_session.specs.Commands.{count_shown, idle_turn, most_changes, most_line, turn_of, turn_of_verdict, with_bytes}

-- ---- answers of the code

abbrev pub answer : {A : Type 0} → (A → Answer) → Result A MailFault → Answer
answer make (Ok x) = make x
answer make (Err fault) = Refused fault

-- The view after an answer. A store whose mailbox nobody else can touch knows this between two calls; one that takes a lock for each call doesn't.
abbrev pub ViewAfter : List ℕ → Answer → List ℕ → Type 0
ViewAfter view (Fed met changes) new = (met ≡ view) × (new ≡ replay view changes)
ViewAfter view (Expunged met changes gone) new = (met ≡ view) × (new ≡ replay view changes)
ViewAfter view (Looked copied) new = (copied ≡ view) × (new ≡ view)
ViewAfter view (Entered opening) new = Unit {0}
ViewAfter view (Left gone) new = Unit {0}
ViewAfter view answer new = new ≡ view

-- What a Feed did: it met a view, showed changes, as many as it answers, within the limit, and wrote their lines. `step` is the store's own
-- before and after it.
abbrev pub Feeds : (Answer → Type 0) → ℕ → List ℕ → List ℕ → Result ℕ MailFault → Type 0
Feeds step limit before after (Ok n) =
    (view : List ℕ) × (changes : List Change) × step (Fed view changes) × (length changes ≡ n) × (n ≤ limit) × (after ≡ before ++ lines view changes)
Feeds step limit before after (Err fault) = step (Refused fault) × (after ≡ before)

-- What a choice did: it looked at a view, and answered which of its messages the set names, or that it says a position that isn't there.
abbrev pub Chooses : (Answer → Type 0) → Bool → List SeqRange → Result (Option (Vec Named Global)) MailFault → Type 0
Chooses step by_uid set (Ok chosen) = (view : List ℕ) × step (Looked view) × (option_map (λ named. named.items) chosen ≡ messages_in by_uid set view)
Chooses step by_uid set (Err fault) = step (Refused fault)

-- What an Expunge did: it met a view, showed changes, and removed as many messages as it answers.
abbrev pub Expunges : (Answer → Type 0) → List ℕ → List ℕ → Result ℕ MailFault → Type 0
Expunges step before after (Ok n) =
    (view : List ℕ) × (changes : List Change) × step (Expunged view changes n) × (after ≡ before ++ lines view changes)
Expunges step before after (Err fault) = step (Refused fault) × (after ≡ before)

-- what a Discard did
abbrev pub Discards : (Answer → Type 0) → Result (Unit {0}) MailFault → Type 0
Discards step (Ok done) = step Discarded
Discards step (Err fault) = step (Refused fault)

-- ---- runs of the store

-- these events, one after the other, and nothing else between them
abbrev pub Met : {S : Type 0} → (S → Call → Answer → S → Type 0) → S → List Event → S → Type 0
Met step old [] new = new ≡ old
Met {S} step old (event ∷ events) new = (mid : S) × step old event.call event.answer mid × Met step mid events new

-- ---- a whole turn

-- Over any store, which is led from `old` to `new`.
module _ {S : Type 0} (step : S → Call → Answer → S → Type 0) (now : Standing) (line : List ℕ) (old new : S) where
  -- from the standing `now`, a line was answered over any store
  pub record Answers (before after : List ℕ) (how : After) (next : Standing) : Type 0 where
    pub answers : List Answer
    pub events : List Event
    pub bytes : List ℕ
    pub played : turn_of now line answers ≡ Some (record { events = events; bytes = bytes; after = how; standing = next })
    pub met : Met step old events new
    pub wrote : after ≡ before ++ bytes

module _ {S : Type 0} (step : S → Call → Answer → S → Type 0) (now : Standing) (verdict : Verdict) (old new : S) where
  -- from the standing `now`, the verdict that it waits for was answered over any store
  pub record AnswersVerdict (before after : List ℕ) (how : After) (next : Standing) : Type 0 where
    pub answers : List Answer
    pub events : List Event
    pub bytes : List ℕ
    pub played : turn_of_verdict now verdict answers ≡ Some (record { events = events; bytes = bytes; after = how; standing = next })
    pub met : Met step old events new
    pub wrote : after ≡ before ++ bytes

-- Where bytes of a literal are taken its room is there for all of them, up to so many. Where memory for that was refused, it is told so at once or
-- its bytes are dropped from the first.
abbrev pub most_first_room : ℕ
most_first_room = 4096

-- With these bytes the text of the literal, where one is kept, is longer than the room that was made for it before its bytes came.
abbrev pub IsBeyondRoom : Option PendingLiteral → List ℕ → Type 0
IsBeyondRoom begun bytes = IfSome begun (λ (a : PendingLiteral). IfSome a.text (λ text. min a.size most_first_room < length text + length bytes))

-- These bytes of the literal were taken. They are dropped, with those before them, only where they want more room than was made before its bytes
-- came.
abbrev pub TakesBytes : Standing → List ℕ → Standing → Type 0
TakesBytes now bytes next = (kept : Bool) × (next ≡ with_bytes kept bytes now) × (kept ≡ false → IsBeyondRoom now.mailing.begun bytes)

module _ {S : Type 0} (step : S → Call → Answer → S → Type 0) (now : Standing) (old new : S) where
  -- The session `now` had a turn while it idles, over any store, and showed so many changes.
  pub record IdleTurns (before after : List ℕ) (count : ℕ) (next : Standing) : Type 0 where
    pub answers : List Answer
    pub events : List Event
    pub bytes : List ℕ
    pub how : After
    pub played : idle_turn now answers ≡ Some (record { events = events; bytes = bytes; after = how; standing = next })
    pub met : Met step old events new
    pub wrote : after ≡ before ++ bytes
    pub shown : count ≡ count_shown answers

-- Memory was refused for such a turn: there was no call, or the store refused it.
abbrev pub Starves : {S : Type 0} → (S → Call → Answer → S → Type 0) → S → S → Type 0
Starves step old new = (new ≡ old) ⊎ step old (Feed most_changes) (Refused NoMemory) new

-- The room that is reserved before a line is answered: for its own tag or that of the command that it ends or goes on with, for the lines that end
-- the answer, and for the line before the last of CAPABILITY, NAMESPACE, ID, ENABLE and LOGOUT, or the one by which SELECT and EXAMINE tell that a
-- mailbox was left.
abbrev pub room_while : Option (List ℕ) → List ℕ → ℕ
room_while None line = length line + 165
room_while (Some tag) line = length tag + 48

-- behind a literal that is an argument the line may be as long as any
abbrev pub room_rest : Purpose → ℕ
room_rest (Message mailbox flags date) = 48
room_rest purpose = most_line + 165

abbrev pub room_behind : Option PendingLiteral → Option (List ℕ) → List ℕ → ℕ
room_behind None idling line = room_while idling line
room_behind (Some a) idling line = length a.tag + room_rest a.purpose

abbrev pub room_for : Standing → List ℕ → ℕ
room_for now line = room_behind now.mailing.begun now.idling line

-- The room that is reserved before a verdict is answered: for the tag, for the line that tells where a message was stored, and for the last one,
-- where that is another. The sets of a COPY or MOVE want 11 bytes a number: ten digits, and a comma or colon.
abbrev pub room_of_sets : Origin → ℕ
room_of_sets Client = 0
room_of_sets (Copied batch) = 22 * length batch.uids

abbrev pub room_sent : Option Sent → ℕ
room_sent None = 0
room_sent (Some sent) = length sent.tag + (104 + room_of_sets sent.origin)

abbrev pub room_for_verdict : Standing → ℕ
room_for_verdict now = room_sent now.mailing.sent

-- ---- messages that follow

-- so many more of its batch are submitted behind a message
abbrev pub to_follow_from : Origin → ℕ
to_follow_from Client = 0
to_follow_from (Copied batch) = length batch.left

abbrev pub to_follow : Option Sent → ℕ
to_follow None = 0
to_follow (Some sent) = to_follow_from sent.origin

-- Behind the verdict on a message none is awaited, or the one on the next message of its batch, of which one less is left.
abbrev pub Follows : (old new : Option Sent) → Type 0
Follows old new = (new ≡ None) ⊎ (to_follow new + 1 ≡ to_follow old)
