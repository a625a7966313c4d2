-- The house and those who talk to it, whatever they speak, and what each event of the house does to them and prints.
use Rattle.std.specs.Prelude.{◌≡◌, ℕ, ◌+◌, ◌-◌, ◌^◌, ◌<◌, ◌⊎◌, Bool, true, false, List, [], ◌∷◌, ◌++◌, slice_index_or, slice_set, Option, Some, None}
use Rattle.delivery_token.specs.declared.Job.{Job}
use Rattle.delivery_token.specs.declared.log.Noted.{Noted}
use Rattle.shard_queue.specs.Lane.{set_at}
use Rattle.world.specs.World.{World, Step}
use Rattle.house_peers.specs.AnyCaller.{Caller, greeted, more_waits, unread, Proceeds, Terms, with_unsaid}
use Rattle.house_peers.specs.AnyVisitor.{Visitor, Awaits, IsSettled, SeatedVisitor, seated_greeted, unread as unread_session, GoesOn}
use Rattle.house.specs.Setup.{Peers, Setup, session_seat, terms_of}
use Rattle.imap_session.specs.Folders.{has_user}
use Rattle.house.specs.declared.event.Event.{Event}
use Rattle.house.specs.declared.event.Event.TheVariants.{Bytes, Vanish, Put, Take, Deliver, Answer, Hear, End, Close, Enter, Say, Idle, Leave}
use Rattle.line_io.specs.Wire.{marked}
use Rattle.lmtp_machine.specs.declared.connection.What.{What}
use Rattle.lmtp_machine.specs.declared.connection.What.TheVariants.{Quit}
use Rattle.house_peers.specs.Speech.{Speech, Guest}
use Rattle.world.specs.World as world

-- ---- what is said, as the house prints it

-- an L marks what connections say, an I what sessions say
abbrev pub of_connection : ℕ
of_connection = 76

abbrev pub of_session : ℕ
of_session = 73

module _ (mark n : ℕ) where
  -- What was to be printed is printed, all of it or nothing; what is still to be printed then is nothing, or all of it.
  pub data Prints (unsaid still printed : List ℕ) : Type 0 where
    prints_all : still ≡ [] → printed ≡ marked mark n unsaid → Prints unsaid still printed
    -- a growth was refused, or nothing was tried
    prints_none : still ≡ unsaid → printed ≡ [] → Prints unsaid still printed

module _ (speech : Speech) where
  -- Who stands at the seat after a turn: one whose dialogue ended and who has said all is gone, and what waited is dropped. One whose peer is gone
  -- stays for its verdicts alone, and another that has ended stays only where memory was wanting.
  pub data Leaves (whole : Bool) (what : What) (after : Caller speech) (o : Option (Caller speech)) : Type 0 where
    goes : what ≡ Quit → after.talk.unsaid ≡ [] → o ≡ None → Leaves whole what after o
    stays : (what ≡ Quit → whole ≡ true → ⊥) → (what ≡ Quit → after.gone ≡ true → ⊥) → o ≡ Some after → Leaves whole what after o

  module _ (k : Terms) (whole : Bool) (seat : ℕ) (heard : List Noted) where
    -- The connection at a seat does what it can now, and what it says is printed. `whole` says that memory wasn't wanting.
    pub record ConnectionGoes (b : Caller speech) (o : Option (Caller speech)) (printed : List ℕ) : Type 0 where
      pub what : What
      pub after : Caller speech
      pub proceeds : Proceeds speech k whole seat heard b what after
      pub still : List ℕ
      pub prints : Prints of_connection (seat + 1) after.talk.unsaid still printed
      pub all : whole ≡ true → still ≡ []
      pub leaves : Leaves whole what (with_unsaid speech still after) o

module _ (guest : Guest) where
  -- its session stands so
  abbrev pub with_session : Visitor guest → SeatedVisitor guest → SeatedVisitor guest
  with_session session v = record v { session = session }

  module _ {S : Type 0} (step : S → guest.Call → guest.Answer → S → Type 0) (whole : Bool) (seat n : ℕ) (heard : List Noted)
      (before : SeatedVisitor guest) where
    -- The session at a seat, whose client is there, went on over a store as far as it could, by what its seat has heard, and this was printed.
    pub record Speaks (old new : S) (after : SeatedVisitor guest) (printed : List ℕ) : Type 0 where
      pub spoken : SeatedVisitor guest
      pub said : List ℕ
      pub goes : GoesOn guest step whole seat heard before old new spoken said
      pub still : List ℕ
      pub prints : Prints of_session n (before.session.unsaid ++ said) still printed
      pub is : after ≡ with_session (record spoken.session { unsaid = still }) spoken

  module _ {S : Type 0} (step : S → guest.Call → guest.Answer → S → Type 0) (n : ℕ) (before : Visitor guest) (old : S) where
    -- its session had a turn while it idles, which showed so many changes, and this was printed
    pub record Idles (new : S) (after : Visitor guest) (count : ℕ) (printed : List ℕ) : Type 0 where
      pub said : List ℕ
      pub turned : guest.Idles step before.standing old new count said after.standing
      pub waits : after.waits ≡ before.waits
      pub prints : Prints of_session n (before.unsaid ++ said) after.unsaid printed

  -- all that was said is printed, and nothing waits that may be answered
  pub record IsWhole (v : Visitor guest) : Type 0 where
    pub said : v.unsaid ≡ []
    pub answered : guest.HasAnswered v.standing v.waits

-- ---- the house

-- connections, and behind them sessions, are numbered from 1, seats from 0
abbrev pub seat_of : ℕ → ℕ
seat_of number = number - 1

-- sessions by themselves are numbered from 1, their places from 0
abbrev pub place_of : ℕ → ℕ
place_of session = session - 1

-- the serials of a seat's connections or sessions are below this
abbrev pub most_serials : ℕ
most_serials = 2 ^ 64 - 1

module _ (peers : Peers) where
  -- The world; which connection stands at each seat of connections, and the serial of the next one there; which session is at each place, and the
  -- serial of the next one there; and of each shard whether it is shut: no new mail is taken for its mailboxes.
  pub record Scene : Type 0 where
    pub world : World
    pub caller : ℕ → Option (Caller peers.speech)
    pub next : ℕ → ℕ
    pub visitor : ℕ → Option (SeatedVisitor peers.guest)
    pub entered : ℕ → ℕ
    pub shut : List Bool

  abbrev pub empty_scene : Setup → Scene
  empty_scene k = record {
    world = world.empty_world;
    caller = λ _. None;
    next = λ _. 0;
    visitor = λ _. None;
    entered = λ _. 0;
    shut = k.directory.shut;
  }

  -- at this seat now stands this caller, or nobody
  abbrev pub with_caller : Scene → ℕ → Option (Caller peers.speech) → Scene
  with_caller s seat o = record s { caller = set_at s.caller seat o }

  abbrev pub with_world : Scene → World → Scene
  with_world s w = record s { world = w }

  -- at this place now stands this session, or nobody
  abbrev pub with_visitor : Scene → ℕ → Option (SeatedVisitor peers.guest) → Scene
  with_visitor s place o = record s { visitor = set_at s.visitor place o }

  -- whether a shard is shut; one that isn't there is not
  abbrev pub is_shut_in : Scene → ℕ → Bool
  is_shut_in s shard = slice_index_or s.shut shard false

  -- ---- connections

  -- In a house with these settings, from this scene on. `whole` says that memory wasn't wanting.
  module _ (k : Setup) (whole : Bool) (s : Scene) where
    -- bytes came from the peer of a connection
    pub data BytesPlay (seat : ℕ) (piece : List ℕ) (t : Scene) (printed : List ℕ) : Type 0 where
      -- nobody stands there: a connection is opened first, with the seat's next serial
      opens : seat < k.connections → s.caller seat ≡ None → s.next seat < most_serials → (o : Option (Caller peers.speech))
          → ConnectionGoes peers.speech (terms_of k s.shut) whole seat (s.world.heard seat)
          (more_waits peers.speech (greeted peers.speech (terms_of k s.shut) seat (s.next seat)) piece) o printed
          → t ≡ record s { caller = set_at s.caller seat o; next = set_at s.next seat (s.next seat + 1) } → BytesPlay seat piece t printed
      goes_on : (b : Caller peers.speech) → s.caller seat ≡ Some b → b.gone ≡ false → (o : Option (Caller peers.speech))
          → ConnectionGoes peers.speech (terms_of k s.shut) whole seat (s.world.heard seat) (more_waits peers.speech b piece) o printed
          → t ≡ with_caller s seat o → BytesPlay seat piece t printed

    -- the next copy of the message at hand is put
    pub record ConnectionPuts (seat : ℕ) (t : Scene) (printed : List ℕ) : Type 0 where
      pub caller : Caller peers.speech
      pub there : s.caller seat ≡ Some caller
      pub copy : Job
      pub others : List Job
      pub front : caller.to_put ≡ copy ∷ others
      pub moved : World
      pub step : Step k.config s.world (world.Put seat (world.shard_of k.config copy.mailbox) copy) moved
      pub left : Option (Caller peers.speech)
      pub goes : ConnectionGoes peers.speech (terms_of k s.shut) whole seat (moved.heard seat) (record caller { to_put = others }) left printed
      pub after : t ≡ with_caller (with_world s moved) seat left

    -- its seat hears a verdict
    pub record ConnectionHears (seat : ℕ) (t : Scene) (printed : List ℕ) : Type 0 where
      pub caller : Caller peers.speech
      pub there : s.caller seat ≡ Some caller
      pub moved : World
      pub step : Step k.config s.world (world.Hear seat) moved
      pub left : Option (Caller peers.speech)
      pub goes : ConnectionGoes peers.speech (terms_of k s.shut) whole seat (moved.heard seat) caller left printed
      pub after : t ≡ with_caller (with_world s moved) seat left

    -- the peer of a connection is gone
    pub record VanishPlay (seat : ℕ) (t : Scene) (printed : List ℕ) : Type 0 where
      pub caller : Caller peers.speech
      pub there : s.caller seat ≡ Some caller
      pub was_read : caller.gone ≡ false
      pub left : Option (Caller peers.speech)
      pub goes : ConnectionGoes peers.speech (terms_of k s.shut) whole seat (s.world.heard seat) (unread peers.speech caller) left printed
      pub after : t ≡ with_caller s seat left

  -- ---- sessions

  -- a session leaves the mailbox that it had entered, if it had one, and removes nothing
  abbrev pub LeavesMailbox : Setup → (place : ℕ) → World → World → Type 0
  LeavesMailbox k place w v = (answer : peers.guest.Answer) × peers.Meets k.config place w peers.guest.leave answer v

  -- The session at this place.
  module _ (k : Setup) (whole : Bool) (place : ℕ) where
    -- who is at the place after a turn: one whose session has ended and who has said all is gone, and what waited is dropped
    pub data Parts (after : SeatedVisitor peers.guest) (w v : World) (o : Option (SeatedVisitor peers.guest)) : Type 0 where
      parts : peers.guest.ended after.session.standing ≡ true → after.session.unsaid ≡ [] → LeavesMailbox k place w v → o ≡ None → Parts after w v o
      remains : (whole ≡ true → peers.guest.ended after.session.standing ≡ true → ⊥) → v ≡ w → o ≡ Some after → Parts after w v o

  -- One whose client is gone says nothing: it stays for the verdict that it awaits, and is gone as soon as its seat has heard that.
  pub data Lingers (seat : ℕ) (heard : List Noted) (v : SeatedVisitor peers.guest) (o : Option (SeatedVisitor peers.guest)) : Type 0 where
    waits : Awaits peers.guest seat heard v → o ≡ Some v → Lingers seat heard v o
    fades : IsSettled peers.guest seat heard v → o ≡ None → Lingers seat heard v o

  -- The session at this place, which was so, in this world, by what its seat has heard.
  module _ (k : Setup) (whole : Bool) (place : ℕ) (heard : List Noted) (w : World) (before : SeatedVisitor peers.guest) where
    -- It, whose client is there, does what it can now, by the mailboxes of the world, and this is printed.
    pub record SessionTalks (v : World) (o : Option (SeatedVisitor peers.guest)) (printed : List ℕ) : Type 0 where
      pub after : SeatedVisitor peers.guest
      pub mid : World
      pub speaks : Speaks peers.guest (peers.Meets k.config place) whole (session_seat k place) (place + 1) heard before w mid after printed
      pub all : whole ≡ true → IsWhole peers.guest after.session
      pub left : Parts k whole place after mid v o

    -- it does what it can now, whether its client is there or not
    pub data SessionGoes (v : World) (o : Option (SeatedVisitor peers.guest)) (printed : List ℕ) : Type 0 where
      talks : before.gone ≡ false → SessionTalks v o printed → SessionGoes v o printed
      lingers : before.gone ≡ true → Lingers (session_seat k place) heard before o → v ≡ w → printed ≡ [] → SessionGoes v o printed

  module _ (k : Setup) (whole : Bool) (place : ℕ) (w : World) (before : SeatedVisitor peers.guest) where
    -- The session at a place idles and has a turn, by the mailboxes of the world: it is shown one change at least, or it ends. This is printed.
    pub record SessionIdles (v : World) (o : Option (SeatedVisitor peers.guest)) (printed : List ℕ) : Type 0 where
      pub is_read : before.gone ≡ false
      pub idling : peers.guest.idling before.session.standing ≡ true
      pub after : Visitor peers.guest
      pub mid : World
      pub shown : ℕ
      pub idles : Idles peers.guest (peers.Meets k.config place) (place + 1) before.session w mid after shown printed
      pub something : (0 < shown) ⊎ (peers.guest.ended after.standing ≡ true)
      pub all : whole ≡ true → after.unsaid ≡ []
      pub left : Parts k whole place (with_session peers.guest after before) mid v o

  -- how a user's session comes in
  abbrev pub comes_in : Setup → (user : List ℕ) → peers.guest.Coming
  comes_in k user = peers.guest.comes k.directory k.compatible k.max_message user

  module _ (k : Setup) (whole : Bool) (s : Scene) where
    -- A user opens a session, which is greeted. Its copies have the serial that is next there.
    pub record EnterPlay (place : ℕ) (user : List ℕ) (t : Scene) (printed : List ℕ) : Type 0 where
      pub there : place < k.config.sessions
      pub free : s.visitor place ≡ None
      pub known : has_user k.directory user ≡ true
      pub more : s.entered place < most_serials
      pub moved : World
      pub left : Option (SeatedVisitor peers.guest)
      pub goes : SessionTalks k whole place (s.world.heard (session_seat k place)) s.world
          (seated_greeted peers.guest (s.entered place) (comes_in k user)) moved left printed
      pub after : t ≡ record s { world = moved; visitor = set_at s.visitor place left; entered = set_at s.entered place (s.entered place + 1) }

    -- bytes came from a session's client: where it awaits a verdict they only wait
    pub record SayPlay (place : ℕ) (piece : List ℕ) (t : Scene) (printed : List ℕ) : Type 0 where
      pub visitor : SeatedVisitor peers.guest
      pub there : s.visitor place ≡ Some visitor
      pub is_read : visitor.gone ≡ false
      pub moved : World
      pub left : Option (SeatedVisitor peers.guest)
      pub goes : SessionTalks k whole place (s.world.heard (session_seat k place)) s.world
          (with_session peers.guest (record visitor.session { waits = visitor.session.waits ++ piece }) visitor) moved left printed
      pub after : t ≡ with_visitor (with_world s moved) place left

    -- A session that idles is shown what is pending. Where nothing is, there is no such play.
    pub record IdlePlay (place : ℕ) (t : Scene) (printed : List ℕ) : Type 0 where
      pub visitor : SeatedVisitor peers.guest
      pub there : s.visitor place ≡ Some visitor
      pub moved : World
      pub left : Option (SeatedVisitor peers.guest)
      pub goes : SessionIdles k whole place s.world visitor moved left printed
      pub after : t ≡ with_visitor (with_world s moved) place left

    -- the copy of the message that it submitted is put
    pub record SessionPuts (place : ℕ) (t : Scene) (printed : List ℕ) : Type 0 where
      pub visitor : SeatedVisitor peers.guest
      pub there : s.visitor place ≡ Some visitor
      pub copy : Job
      pub others : List Job
      pub front : visitor.to_put ≡ copy ∷ others
      pub moved : World
      pub step : Step k.config s.world (world.Put (session_seat k place) (world.shard_of k.config copy.mailbox) copy) moved
      pub later : World
      pub left : Option (SeatedVisitor peers.guest)
      pub goes : SessionGoes k whole place (moved.heard (session_seat k place)) moved (record visitor { to_put = others }) later left printed
      pub after : t ≡ with_visitor (with_world s later) place left

    -- its seat hears a verdict
    pub record SessionHears (place : ℕ) (t : Scene) (printed : List ℕ) : Type 0 where
      pub visitor : SeatedVisitor peers.guest
      pub there : s.visitor place ≡ Some visitor
      pub moved : World
      pub step : Step k.config s.world (world.Hear (session_seat k place)) moved
      pub later : World
      pub left : Option (SeatedVisitor peers.guest)
      pub goes : SessionGoes k whole place (moved.heard (session_seat k place)) moved visitor later left printed
      pub after : t ≡ with_visitor (with_world s later) place left

    -- ---- who puts and hears

    -- at a seat the next copy of a message is put, by its connection or by its session
    pub data PutPlay (seat : ℕ) (t : Scene) (printed : List ℕ) : Type 0 where
      connection_puts : seat < k.connections → ConnectionPuts k whole s seat t printed → PutPlay seat t printed
      session_puts : (place : ℕ) → seat ≡ session_seat k place → SessionPuts place t printed → PutPlay seat t printed

    -- at a seat a verdict is heard
    pub data HearPlay (seat : ℕ) (t : Scene) (printed : List ℕ) : Type 0 where
      connection_hears : seat < k.connections → ConnectionHears k whole s seat t printed → HearPlay seat t printed
      session_hears : (place : ℕ) → seat ≡ session_seat k place → SessionHears place t printed → HearPlay seat t printed

  -- ---- events

  module _ (k : Setup) (s : Scene) where
    -- A session's client is gone: what waited and what was still to be printed is dropped, and the session leaves its mailbox at once. Where it
    -- awaits a verdict, its seat stays taken till that is heard.
    pub record LeavePlay (place : ℕ) (t : Scene) (printed : List ℕ) : Type 0 where
      pub visitor : SeatedVisitor peers.guest
      pub there : s.visitor place ≡ Some visitor
      pub was_read : visitor.gone ≡ false
      pub moved : World
      pub leaves : LeavesMailbox k place s.world moved
      pub left : Option (SeatedVisitor peers.guest)
      pub stays : Lingers (session_seat k place) (s.world.heard (session_seat k place)) (unread_session peers.guest visitor) left
      pub after : t ≡ with_visitor (with_world s moved) place left
      pub silent : printed ≡ []

    -- the world moves, and nobody says a word
    pub record Moves (event : world.Event) (t : Scene) (printed : List ℕ) : Type 0 where
      pub moved : World
      pub step : Step k.config s.world event moved
      pub after : t ≡ with_world s moved
      pub silent : printed ≡ []

    -- A shard that was not is shut now. What waits in its lane is still delivered, and its seats end one by one.
    pub record ClosePlay (shard : ℕ) (t : Scene) (printed : List ℕ) : Type 0 where
      pub there : shard < k.config.shards
      pub was_open : slice_index_or s.shut shard false ≡ false
      pub after : t ≡ record s { shut = slice_set s.shut shard true }
      pub silent : printed ≡ []

  module _ (k : Setup) (whole : Bool) (s : Scene) where
    -- One event of the house may lead from one scene to the other, and print this. Where memory is wanting (not `whole`) it may stop
    -- early: then bytes still wait, or words aren't printed yet.
    abbrev pub Plays : Event → Scene → List ℕ → Type 0
    Plays (Bytes connection piece) t printed = BytesPlay k whole s (seat_of connection) piece.now t printed
    Plays (Vanish connection) t printed = VanishPlay k whole s (seat_of connection) t printed
    Plays (Put number) t printed = PutPlay k whole s (seat_of number) t printed
    Plays (Take shard) t printed = Moves k s (world.Take shard) t printed
    Plays (Deliver shard) t printed = Moves k s (world.Deliver shard) t printed
    Plays (Answer shard) t printed = Moves k s (world.Answer shard) t printed
    Plays (Hear number) t printed = HearPlay k whole s (seat_of number) t printed
    Plays (Enter session user) t printed = EnterPlay k whole s (place_of session) user.now t printed
    Plays (Say session piece) t printed = SayPlay k whole s (place_of session) piece.now t printed
    Plays (Idle session) t printed = IdlePlay k whole s (place_of session) t printed
    Plays (Leave session) t printed = LeavePlay k s (place_of session) t printed
    Plays (End number shard) t printed = Moves k s (world.PutEnd (seat_of number) shard) t printed
    Plays (Close shard) t printed = ClosePlay k s shard t printed

  -- In no way does the event change anything, or print a word.
  abbrev pub HasNothing : Setup → Scene → Event → Type 0
  HasNothing k s event = (t : Scene) (printed : List ℕ) → Plays k true s event t printed → (t ≡ s) × (printed ≡ [])

  module _ (k : Setup) where
    -- Some events happened, one after another, and each may have been cut short for want of memory.
    abbrev pub Happened : List Event → Scene → Scene → List ℕ → Type 0
    Happened [] s t printed = (t ≡ s) × (printed ≡ [])
    Happened (event ∷ events) s t printed = (m : Scene) × (one : List ℕ) × (two : List ℕ) × Plays k false s event m one × Happened events m t two
        × (printed ≡ one ++ two)
