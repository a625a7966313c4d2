-- When a client's list is the mailbox as it is now.
use Rattle.std.specs.Prelude.{◌≡◌, ℕ, Bool, true, false, List, [], ◌∷◌, ◌++◌, Some, None, Ok}
use Rattle.change_ring.specs.declared.change.Change.{Change}
use Rattle.world.specs.World.{Config, Event, IsWorld, Session, World}
use Rattle.imap_grammar.specs.Reading.{is_done, read}
use Rattle.imap_grammar.specs.declared.command.Command.TheVariants.{Noop}
use Rattle.imap_grammar.specs.declared.command.Command.TheVariants as commands
use Rattle.imap_grammar.specs.declared.command.Command.{Command}
use Rattle.imap_grammar.specs.Verbs.{verb_of}
use Rattle.imap_session.specs.declared.standing.Selected.{Selected}
use Rattle.imap_session.specs.Exchange.{Call, Answer, Event as Happened, Fed, Feed, Standing, Turn, tagged}
use Rattle.imap_session.specs.Commands.{turn_of, unlimited}
use Rattle.imap_session.specs.Store.{Met}
use Rattle.house.specs.Meets.{Meets}
use Rattle.laws_client.specs.Clients.{IsRight}
use Rattle.laws_client.specs.Client.{Client, Known, knowing}
use Rattle.laws_client.specs.Clients.{has_ok, hears_all}
use Rattle.imap_session.specs.Happenings.{Answer as Answer_to, Told, whole_line}
use Rattle.laws_client.specs.HouseClients.{Lives}
use Rattle.laws_client.specs.Sizes.{HasShortTexts}
use Rattle.laws_client.specs.HouseClients.{HasSmallNumbers}
use Rattle.laws_client.specs.RecordTurns.{Stands}
use Rattle.laws_client.specs.Views.{messages_of, view_of}
use Rattle.imap_session.specs.declared.texts.ResponseText.TheVariants as texts
use Rattle.imap_session.specs.Texts.{response_text}

-- what session n counts is all that is in its mailbox, where it has selected one
abbrev pub IsCurrent : World → ℕ → Type 0
IsCurrent w n = (s : Session) → w.session n ≡ Some s → view_of w n ≡ messages_of (w.box s.mailbox)

module _ (k : Config) (n : ℕ) (now : Standing) (line : List ℕ) where
  -- a line of session n, which had selected a mailbox and stood so, was answered by this turn in the world
  pub record IsAnswered (w : World) (turn : Turn) (v : World) : Type 0 where
    pub selected : Selected
    pub there : now.selected ≡ Some selected
    pub stands : Stands now
    pub answers : List Answer
    pub answered : turn_of now line answers ≡ Some turn
    pub met : Met (λ (w : World) (call : Call) (answer : Answer) (v : World). Meets k n w call answer v) w turn.events v

-- a NOOP that is answered OK (RFC 9051, 6.1.2)
abbrev pub NoopMakesCurrent : Type 0
NoopMakesCurrent = (k : Config) (events : List Event) (n : ℕ) (now : Standing) (line whole tag : List ℕ) (w : World) (turn : Turn)
    (v : World) → IsWorld k events w → IsAnswered k n now line w turn v
    → whole_line now line ≡ Some whole → read whole ≡ Ok (tag, Noop) → has_ok true tag turn.bytes ≡ true → IsCurrent v n

-- DONE, where the IDLE that it ends is answered OK (RFC 2177)
abbrev pub DoneMakesCurrent : Type 0
DoneMakesCurrent = (k : Config) (events : List Event) (n : ℕ) (now : Standing) (line tag : List ℕ) (w : World) (turn : Turn) (v : World)
    → IsWorld k events w → IsAnswered k n now line w turn v
    → now.mailing.begun ≡ None → now.idling ≡ Some tag → is_done line ≡ true → has_ok true tag turn.bytes ≡ true → IsCurrent v n

-- Whatever the command: where the last call of a turn was for all that is pending, and was answered. So it is at
-- the end of NOOP, CHECK, LIST, LSUB, STATUS, EXPUNGE, UID EXPUNGE, UID FETCH, UID STORE and UID SEARCH.
abbrev pub FeedsMakeCurrent : Type 0
FeedsMakeCurrent = (k : Config) (events : List Event) (n : ℕ) (w : World) (calls : List Happened) (met : List ℕ) (changes : List Change)
    (v : World) → IsWorld k events w
    → Met (λ (w : World) (call : Call) (answer : Answer) (v : World). Meets k n w call answer v) w
    (calls ++ record { call = Feed unlimited; answer = Fed met changes } ∷ []) v → IsCurrent v n

-- These commands show all that is pending, last of all (RFC 9051, 5.2 and 7.4.1): of FETCH, STORE and SEARCH only the forms by UID.
abbrev pub shows_all : Command → Bool
shows_all Noop = true
shows_all commands.Check = true
shows_all (commands.List reference pattern) = true
shows_all (commands.Lsub reference pattern) = true
shows_all (commands.Status name items) = true
shows_all commands.Expunge = true
shows_all (commands.UidExpunge set) = true
shows_all (commands.Fetch fetch) = fetch.by_uid
shows_all (commands.Store store) = store.by_uid
shows_all (commands.Search search) = search.by_uid
shows_all command = false

-- Such a command whose answer's last line says that it is done
abbrev pub DoneCommandsMakeCurrent : Type 0
DoneCommandsMakeCurrent =
    (k : Config) (events : List Event) (n : ℕ) (now : Standing) (line whole tag : List ℕ) (command : Command) (w : World) (turn : Turn)
    (v : World) (front : List ℕ) → IsWorld k events w → IsAnswered k n now line w turn v
    → whole_line now line ≡ Some whole → read whole ≡ Ok (tag, command) → shows_all command ≡ true
    → turn.bytes ≡ front ++ tagged tag (response_text (texts.Completed (verb_of command))) → IsCurrent v n

-- In a session's life: a client that knows where it is sends such a line. When it has read
-- the answer to its end it still knows, and its list is the mailbox as it is.
abbrev pub ListsAreCurrent : Type 0
ListsAreCurrent = (k : Config) (events : List Event) (n : ℕ) (first : Standing) (began : World) (sent : List ℕ) (told : List Told)
    (now : Standing) (w : World) (client : Client)
    (line whole tag : List ℕ) (command : Command) (answers : List Answer) (turn : Turn) (v : World) (front : List ℕ) (s : Session)
    → HasSmallNumbers k → IsWorld k events began → HasShortTexts v → Stands first → Lives k n first began sent told now w
    → hears_all None told ≡ Some client
    → turn_of now line answers ≡ Some turn
    → Met (λ (w : World) (call : Call) (answer : Answer) (v : World). Meets k n w call answer v) w turn.events v
    → whole_line now line ≡ Some whole → read whole ≡ Ok (tag, command) → shows_all command ≡ true
    → turn.bytes ≡ front ++ tagged tag (response_text (texts.Completed (verb_of command)))
    → v.session n ≡ Some s → (list : List Known) × (hears_all None (told ++ Answer_to whole turn.bytes ∷ []) ≡ Some (knowing (Some list)))
    × IsRight (messages_of (v.box s.mailbox)) list
