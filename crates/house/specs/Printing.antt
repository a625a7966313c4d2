-- What connections that speak LMTP and sessions that speak IMAP say, as the house prints it.
use Rattle.std.specs.Prelude.{ℕ, Bool, List, Option}
use Rattle.delivery_token.specs.declared.log.Noted.{Noted}
use Rattle.lmtp_machine.specs.declared.connection.What.{What}
use Rattle.imap_session.specs.Exchange.{Call, Answer}
use Rattle.house_peers.specs.Caller.{Caller, Terms}
use Rattle.house_peers.specs.Visitor.{Visitor, SeatedVisitor}
use Rattle.house.specs.AnyScene as any
use Rattle.house_peers.specs.Lmtp.{lmtp}
use Rattle.house_peers.specs.Imap.{imap}
pub use Rattle.house.specs.AnyScene.{of_connection, of_session, Prints, prints_all, prints_none, goes, stays}

abbrev pub Leaves : (whole : Bool) (what : What) (after : Caller) (o : Option Caller) → Type 0
Leaves = any.Leaves lmtp

abbrev pub ConnectionGoes : (k : Terms) (whole : Bool) (seat : ℕ) (heard : List Noted) (b : Caller) (o : Option Caller) (printed : List ℕ) → Type 0
ConnectionGoes = any.ConnectionGoes lmtp

abbrev pub Speaks : {S : Type 0} (step : S → Call → Answer → S → Type 0) (whole : Bool) (seat n : ℕ) (heard : List Noted) (before : SeatedVisitor)
    (old new : S) (after : SeatedVisitor) (printed : List ℕ) → Type 0
Speaks step whole seat n heard before old new after printed = any.Speaks imap step whole seat n heard before old new after printed

abbrev pub Idles : {S : Type 0} (step : S → Call → Answer → S → Type 0) (n : ℕ) (before : Visitor) (old new : S) (after : Visitor) (count : ℕ)
    (printed : List ℕ) → Type 0
Idles step n before old new after count printed = any.Idles imap step n before old new after count printed

abbrev pub IsWhole : (v : Visitor) → Type 0
IsWhole = any.IsWhole imap

abbrev pub with_session : Visitor → SeatedVisitor → SeatedVisitor
with_session = any.with_session imap
