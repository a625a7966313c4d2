-- What a client slot does with its client, from the first byte to the end: which calls of the visit it makes, with which bytes, and how that ends.
use Rattle.std.specs.Prelude.{◌≡◌, ◌⊎◌, ℕ, true, false, List, [], ◌++◌, Option}
use Rattle.std.specs.Io.KnownBytes.{Appends, Consumes}
use Rattle.workers_sync.specs.Carried.{Carried}
use Rattle.workers_sync.specs.declared.courier.Lost.{Lost}
use Rattle.session_thread.specs.Life.{Departs, IsForgotten}
use Rattle.imap_stream.specs.declared.client_slot.Parting.{Parting}
use Rattle.imap_stream.specs.declared.client_slot.Parting.TheVariants.{Broken, Gone, Over, Stopped}
use Rattle.imap_stream.specs.Visits.{Hears, HearsInPart, SendsAll, SendsFirst, ShowsAll, ShowsInPart, Tells, Visit, farewell, is_over, takes_bytes}

-- What a call does of a visit that isn't over: it hears this piece, as `hear`, or has a look, as `look`. It may stop within, and its output may fail;
-- then the visit is over, but for want of memory in a look.
pub data HasCalled (piece : List ℕ) (old new : Visit) : Type 0 where
  heard : (carried : List Carried) → Tells (Hears piece carried) SendsAll old new → new.closed ≡ old.closed → HasCalled piece old new
  heard_in_part : (why : Lost) → Tells (HearsInPart new.room piece why) SendsAll old new → new.closed ≡ true → HasCalled piece old new
  heard_and_cut : (carried : List Carried) → Tells (Hears piece carried) SendsFirst old new → HasCalled piece old new
  heard_in_part_and_cut : (why : Lost) → Tells (HearsInPart new.room piece why) SendsFirst old new → HasCalled piece old new
  looked : piece ≡ [] → Tells ShowsAll SendsAll old new → new.closed ≡ old.closed → HasCalled piece old new
  looked_in_part : piece ≡ [] → Tells (ShowsInPart new.room) SendsAll old new → new.closed ≡ old.closed → HasCalled piece old new
  looked_and_cut : piece ≡ [] → Tells ShowsAll SendsFirst old new → HasCalled piece old new
  looked_in_part_and_cut : piece ≡ [] → Tells (ShowsInPart new.room) SendsFirst old new → HasCalled piece old new

-- Calls of a visit, one after another, each while it isn't over. These are all the bytes that they heard, in order.
pub data Calls (first : Visit) : List ℕ → Visit → Type 0 where
  no_call : Calls first [] first
  one_more : (heard piece : List ℕ) (now next : Visit) → Calls first heard now → is_over now ≡ false → HasCalled piece now next
      → Calls first (heard ++ piece) next

-- The client was dismissed, unless its visit was over: it was told so, or the first bytes of that where its output failed. The visit is over.
pub record IsDismissed (old new : Visit) : Type 0 where
  pub over : is_over old ≡ true → new ≡ old
  pub told : is_over old ≡ false → (Appends old.taken new.taken farewell × (new.failed ≡ false)) ⊎ SendsFirst old farewell new
  pub ends : is_over new ≡ true
  pub link : new.link ≡ old.link
  pub selection : new.selection ≡ old.selection

-- How it ended behind the calls: what was read and not heard is nothing, unless the house stopped.
abbrev pub Ends : Parting → List ℕ → Visit → Visit → Type 0
Ends Gone dropped last next = (next ≡ last) × (dropped ≡ [])
Ends Broken dropped last next = (next ≡ last) × (dropped ≡ [])
Ends Over dropped last next = (next ≡ last) × (dropped ≡ []) × (takes_bytes last ≡ false)
Ends Stopped dropped last next = IsDismissed last next

-- The session left its mailbox, if it was in one, or that didn't know it. The visit is over, and nothing else of it has changed.
pub record HasParted (old new : Visit) : Type 0 where
  pub departs : Departs old.selection new.selection ⊎ IsForgotten old.selection new.selection
  pub rest : new ≡ record old { selection = new.selection; closed = true }

module _ (before after : Option (List ℕ)) where
  -- A client was attended: what its input brought was heard, all of it and in order, but for what was read as the house stopped.
  pub record Attended (how : Parting) (old new : Visit) : Type 0 where
    pub heard : List ℕ
    pub dropped : List ℕ
    pub came : Consumes before after (heard ++ dropped)
    pub last : Visit
    pub calls : Calls old heard last
    pub next : Visit
    pub ends : Ends how dropped last next
    pub left : HasParted next new
