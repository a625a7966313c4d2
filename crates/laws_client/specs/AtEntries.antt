-- When a client's list is the mailbox as it is, by the entry of a record at which it was told so.
use Rattle.std.specs.Prelude.{◌≡◌, ℕ, false, true, codes, List, [], ◌∷◌, ◌++◌, flat_map, Some, None, Ok}
use Rattle.std.specs.Borrow.{Bor}
use Rattle.world.specs.World.{Session}
use Rattle.imap_grammar.specs.Reading.{read}
use Rattle.imap_grammar.specs.Verbs.{verb_of}
use Rattle.imap_grammar.specs.declared.command.Command.{Command}
use Rattle.imap_session.specs.Exchange.{tagged}
use Rattle.house_peers.specs.Visitor.{SeatedVisitor}
use Rattle.house.specs.Scene.{Scene, empty_scene, place_of, seat_of}
use Rattle.house.specs.Setup.{Setup, session_seat}
use Rattle.house.specs.declared.event.Event as house
use Rattle.house.specs.declared.event.Event.TheVariants.{Hear, Put, Say}
use Rattle.exactly_once.specs.Promise.{Entry, IsEntry, IsRecord, Piece}
use Rattle.laws_client.specs.Clients.{EndsWith, IsRight}
use Rattle.laws_client.specs.Client.{Client, Known, knowing}
use Rattle.laws_client.specs.Clients.{hears_all}
use Rattle.imap_session.specs.Happenings.{Answer, Told, Words, bytes_in}
use Rattle.laws_client.specs.Current.{shows_all}
use Rattle.laws_client.specs.ClientRecords.{KeepsUp, first_words, shown_by_then, user_by_then}
use Rattle.laws_client.specs.HouseClients.{IsPrintable}
use Rattle.laws_client.specs.Views.{messages_of}
use Rattle.imap_session.specs.declared.texts.ResponseText.TheVariants as texts
use Rattle.imap_session.specs.Texts.{response_text}

module _ (k : Setup) (entries : List Entry) (entry : Entry) where
  -- A session goes on at an entry, and is there behind it. It keeps up then; it was told this before, and that much more at the entry.
  pub record AnswersAt (place : ℕ) (before v : SeatedVisitor) : Type 0 where
    pub keeps : KeepsUp k (entries ++ entry ∷ []) place v entry.after
    pub earlier : List Told
    pub more : List Told
    pub told : keeps.told ≡ earlier ++ more
    -- what it was told before is what was printed before, and what was still to be printed
    pub printed : first_words k (user_by_then place [] entries) ++ flat_map bytes_in earlier ≡ shown_by_then place [] entries ++ before.session.unsaid
    -- where it knows where it is, and the last of that is the OK of a command that shows all, its list is the mailbox as it is behind the entry
    pub current : (front : List Told) (line tag bytes ending : List ℕ) (command : Command) (client : Client) (s : Session)
        → more ≡ front ++ Answer line bytes ∷ [] → read line ≡ Ok (tag, command) → shows_all command ≡ true
        → bytes ≡ ending ++ tagged tag (response_text (texts.Completed (verb_of command))) → hears_all None (earlier ++ front) ≡ Some client
        → entry.after.world.session place ≡ Some s
        → (list : List Known) × (hears_all None keeps.told ≡ Some (knowing (Some list)))
        × IsRight (messages_of (entry.after.world.box s.mailbox)) list
    -- So it is where the last of that came to no command, and its last line is an OK: that of a DONE, or of a message that was stored
    pub done : (front : List Told) (tag words bytes : List ℕ) (client : Client) (s : Session) → more ≡ front ++ Words bytes ∷ []
        → EndsWith tag (codes "OK " ++ words) bytes
        → hears_all None (earlier ++ front) ≡ Some client → entry.after.world.session place ≡ Some s
        → (list : List Known) × (hears_all None keeps.told ≡ Some (knowing (Some list)))
        × IsRight (messages_of (entry.after.world.box s.mailbox)) list

-- over whatever record of a house that was new, at an entry with which bytes of a client came
abbrev pub AnswersMakeCurrent : Type 0
AnswersMakeCurrent =
    (k : Setup) (entries : List Entry) (s t : Scene) (session : ℕ) (bytes : Bor (List ℕ)) (piece : Piece) (before v : SeatedVisitor)
    → IsPrintable k → IsRecord k entries (empty_scene k) s
    → IsEntry k s (record { event = Say session bytes; after = t; piece = piece }) → s.visitor (place_of session) ≡ Some before
    → t.visitor (place_of session) ≡ Some v
    → AnswersAt k entries (record { event = Say session bytes; after = t; piece = piece }) (place_of session) before v

-- the session at a place puts the copy of a message that its client appended, or its seat hears a verdict
abbrev pub IsOnCopy : Setup → (place : ℕ) → house.Event → Type 0
IsOnCopy k place (Put number) = seat_of number ≡ session_seat k place
IsOnCopy k place (Hear number) = seat_of number ≡ session_seat k place
IsOnCopy k place event = ⊥

-- and at such an entry, where its client is there
abbrev pub VerdictsMakeCurrent : Type 0
VerdictsMakeCurrent =
    (k : Setup) (entries : List Entry) (s t : Scene) (place : ℕ) (event : house.Event) (piece : Piece) (before v : SeatedVisitor)
    → IsPrintable k → IsRecord k entries (empty_scene k) s
    → IsEntry k s (record { event = event; after = t; piece = piece }) → IsOnCopy k place event → s.visitor place ≡ Some before
    → before.gone ≡ false → t.visitor place ≡ Some v
    → AnswersAt k entries (record { event = event; after = t; piece = piece }) place before v
