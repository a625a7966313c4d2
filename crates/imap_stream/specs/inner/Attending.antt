-- What bodies and proofs say besides of a client slot and its client: how far it has come.
use Rattle.std.specs.Prelude.{ℕ, List, ◌++◌, Option}
use Rattle.std.specs.Io.KnownBytes.{Consumes}
use Rattle.imap_stream.specs.Attending.{Calls, Ends}
use Rattle.imap_stream.specs.declared.client_slot.Parting.{Parting}
use Rattle.imap_stream.specs.Visits.{Visit}

-- Calls were made by which all that the input brought was heard.
pub record HearsOn (before after : Option (List ℕ)) (old new : Visit) : Type 0 where
  pub heard : List ℕ
  pub came : Consumes before after heard
  pub calls : Calls old heard new

-- It ended so, behind such calls.
pub record HearsOut (before after : Option (List ℕ)) (how : Parting) (old new : Visit) : Type 0 where
  pub heard : List ℕ
  pub dropped : List ℕ
  pub came : Consumes before after (heard ++ dropped)
  pub last : Visit
  pub calls : Calls old heard last
  pub ends : Ends how dropped last new
