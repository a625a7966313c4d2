-- What a house promises whatever is spoken in it, and whatever happened: of all that was printed so far, and of the mailboxes.
use Rattle.std.specs.Prelude.{◌≡◌, ◌≢◌, ℕ, ◌+◌, ◌<◌, ◌==◌, if◌then◌else◌, false, List, [], ◌∷◌, ◌++◌, flat_map, filter_map, map, All, AllPairs, Contains, Option, Some, None}
use Rattle.delivery_token.specs.Keys.{Below}
use Rattle.delivery_token.specs.declared.Verdict.TheVariants.{Stored}
use Rattle.delivery_token.specs.declared.log.Noted.{Noted}
use Rattle.line_io.specs.Wire.{IsCut, joined, marked}
use Rattle.world.specs.World.{World, Event, IsWorld}
use Rattle.world.specs.Law.{Headline, StandsOnce, pairs}
use Rattle.house_peers.specs.Speech.{wire}
use Rattle.house_peers.specs.AnyCaller.{Caller}
use Rattle.house.specs.Setup.{Peers, Setup, session_seat}
use Rattle.house.specs.AnyScene.{of_connection, of_session, EnterPlay, IdlePlay, Plays, SayPlay, Scene, SessionHears, SessionPuts, SessionTalks, comes_in, empty_scene, place_of, seat_of}
use Rattle.house.specs.declared.event.Event as house
use Rattle.house.specs.declared.event.Event.TheVariants.{Bytes, Put, Hear, Enter, Say, Idle}

module _ (peers : Peers) where
  -- ---- the record of a house

  -- what a connection says: the verdict on a copy, or another reply, which doesn't say that it was delivered
  pub data Said : Type 0 where
    Verdict : Noted → Said
    Other : (reply : peers.speech.Reply) → reply ≢ peers.speech.delivered → Said

  abbrev pub reply_of : Said → peers.speech.Reply
  reply_of (Verdict noted) = peers.speech.telling noted.verdict
  reply_of (Other reply other) = reply

  abbrev pub verdict_in : Said → Option Noted
  verdict_in (Verdict noted) = Some noted
  verdict_in (Other reply other) = None

  -- what an event prints: what the connection at a seat says, the lines of a session, or nothing
  pub data Piece : Type 0 where
    Replies : (seat : ℕ) → List Said → Piece
    Lines : (session : ℕ) → List (List ℕ) → Piece
    Silence : Piece

  abbrev pub text_of : Setup → Piece → List ℕ
  text_of k (Replies seat said) = marked of_connection (seat + 1) (wire peers.speech k.host (map reply_of said))
  text_of k (Lines session lines) = marked of_session session (joined lines)
  text_of k Silence = []

  -- the serial of the connection that stands at a seat, or of the one that is opened there next
  abbrev pub serial_of : (next : ℕ) → Option (Caller peers.speech) → ℕ
  serial_of next None = next
  serial_of next (Some caller) = caller.serial

  -- the connection at this seat is told its own verdicts alone, on copies that it sent itself
  abbrev pub HearsItsOwn : Scene peers → ℕ → List Said → Type 0
  HearsItsOwn s seat said = All (λ noted. noted.key.serial ≡ serial_of (s.next seat) (s.caller seat)) (filter_map verdict_in said)

  -- In a house with these settings, from this scene on.
  module _ (k : Setup) (s : Scene peers) where
    -- Session n put the copy of a message that its client appended, or heard a verdict, and these are its whole lines: what was still to be printed
    -- of it and what it said since. So what it says to a verdict is of one that its own seat has heard.
    pub record PutsLines (number n : ℕ) (lines : List (List ℕ)) (t : Scene peers) : Type 0 where
      pub place : ℕ
      pub own : n ≡ place + 1
      pub seat : seat_of number ≡ session_seat k place
      pub puts : SessionPuts peers k false s place t (text_of k (Lines n lines))
      pub talks : SessionTalks peers k false place (puts.moved.heard (session_seat k place)) puts.moved (record puts.visitor { to_put = puts.others })
          puts.later puts.left (text_of k (Lines n lines))
      pub cut : IsCut (puts.visitor.session.unsaid ++ talks.speaks.said) lines []

    pub record HearsLines (number n : ℕ) (lines : List (List ℕ)) (t : Scene peers) : Type 0 where
      pub place : ℕ
      pub own : n ≡ place + 1
      pub seat : seat_of number ≡ session_seat k place
      pub hears : SessionHears peers k false s place t (text_of k (Lines n lines))
      pub talks : SessionTalks peers k false place (hears.moved.heard (session_seat k place)) hears.moved hears.visitor hears.later hears.left
          (text_of k (Lines n lines))
      pub cut : IsCut (hears.visitor.session.unsaid ++ talks.speaks.said) lines []

    -- The piece is the event's own: its connection says it, or its session, and then the whole lines are what was still to be printed of it and what
    -- it said since.
    abbrev pub IsOwn : house.Event → Scene peers → Piece → Type 0
    IsOwn event t Silence = Unit {0}
    IsOwn (Bytes connection bytes) t (Replies seat said) = (seat ≡ seat_of connection) × HearsItsOwn s seat said
    IsOwn (Put number) t (Replies seat said) = (seat ≡ seat_of number) × (seat < k.connections) × HearsItsOwn s seat said
    IsOwn (Hear number) t (Replies seat said) = (seat ≡ seat_of number) × (seat < k.connections) × HearsItsOwn s seat said
    IsOwn (Put number) t (Lines session lines) = PutsLines number session lines t
    IsOwn (Hear number) t (Lines session lines) = HearsLines number session lines t
    IsOwn (Enter session user) t (Lines number lines) =
        (number ≡ place_of session + 1) × (p : EnterPlay peers k false s (place_of session) user.now t (text_of k (Lines number lines)))
        × IsCut (peers.guest.greeting (comes_in peers k user.now) ++ p.goes.speaks.said) lines []
    IsOwn (Say session bytes) t (Lines number lines) =
        (number ≡ place_of session + 1) × (p : SayPlay peers k false s (place_of session) bytes.now t (text_of k (Lines number lines)))
        × IsCut (p.visitor.session.unsaid ++ p.goes.speaks.said) lines []
    IsOwn (Idle session) t (Lines number lines) =
        (number ≡ place_of session + 1) × (p : IdlePlay peers k false s (place_of session) t (text_of k (Lines number lines)))
        × IsCut (p.visitor.session.unsaid ++ p.goes.idles.said) lines []
    IsOwn event t piece = ⊥

  -- an entry of the record: what happened, what it led to, and what was printed
  pub record Entry : Type 0 where
    pub event : house.Event
    pub after : Scene peers
    pub piece : Piece

  -- From this scene the event may lead there and print just that. Memory may have been wanting.
  pub record IsEntry (k : Setup) (before : Scene peers) (entry : Entry) : Type 0 where
    pub plays : Plays peers k false before entry.event entry.after (text_of k entry.piece)
    pub own : IsOwn k before entry.event entry.after entry.piece

  -- The entries lead from the one scene to the other, one after another.
  abbrev pub IsRecord : Setup → List Entry → Scene peers → Scene peers → Type 0
  IsRecord k [] s t = t ≡ s
  IsRecord k (entry ∷ entries) s t = IsEntry k s entry × IsRecord k entries entry.after t

  -- ---- exactly once

  -- the verdicts in a piece that are told at seat p
  abbrev pub told_in : ℕ → Piece → List Noted
  told_in p (Replies seat said) = if p == seat then filter_map verdict_in said else []
  told_in p piece = []

  -- all verdicts that were told at seat p, in the order in which they were printed
  abbrev pub verdicts_of : ℕ → List Entry → List Noted
  verdicts_of p entries = flat_map (λ entry. told_in p entry.piece) entries

  -- the entries tell of each copy at most once, and as delivered only what is kept
  pub record TellsOnce (w : World) (entries : List Entry) : Type 0 where
    -- at its own seat alone, and as that seat has heard it
    pub at_own_seat : (p : ℕ) → All (λ noted. noted.key.seat ≡ p) (verdicts_of p entries)
    pub as_heard : (p : ℕ) → All (Contains (w.heard p)) (verdicts_of p entries)
    -- the copies of each seat in the order in which they were sent, none twice
    pub in_order : (p : ℕ) → AllPairs (λ a b. Below a.key b.key) (verdicts_of p entries)
    -- and each that was told as stored stands in its mailbox's history exactly once, under one UID
    pub delivered : (p uid : ℕ) (noted : Noted) → Contains (verdicts_of p entries) noted → noted.verdict ≡ Stored uid
        → StandsOnce (pairs (w.box noted.mailbox).accepted) noted.key uid

  -- no two of the verdicts that were told are about one copy
  pub record NoneTwice (entries : List Entry) : Type 0 where
    pub at_a_seat : (p : ℕ) → AllPairs (λ a b. a.key ≢ b.key) (verdicts_of p entries)
    pub at_two : (p q : ℕ) (a b : Noted) → p ≢ q → Contains (verdicts_of p entries) a → Contains (verdicts_of q entries) b → a.key ≢ b.key

  -- Exactly-once delivery, of the events of a new house, of what they led to, and of all that they printed.
  pub record ExactlyOnce (k : Setup) (events : List house.Event) (after : Scene peers) (printed : List ℕ) : Type 0 where
    -- what was printed, event by event
    pub entries : List Entry
    pub happened : map (λ entry. entry.event) entries ≡ events
    pub leads : IsRecord k entries (empty_scene peers k) after
    pub whole : printed ≡ flat_map (λ entry. text_of k entry.piece) entries
    -- the world came from the empty one by these steps, so each promise of every world holds of it
    pub steps : List Event
    pub came : IsWorld k.config steps after.world
    pub world : Headline k.config after.world
    pub told : TellsOnce after.world entries
