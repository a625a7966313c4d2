-- A connection of the house at its seat that speaks LMTP.
use Rattle.std.specs.Prelude.{ℕ, Bool, List}
use Rattle.delivery_token.specs.declared.Verdict.{Verdict}
use Rattle.delivery_token.specs.declared.log.Noted.{Noted}
use Rattle.lmtp_machine.specs.declared.connection.What.{What}
use Rattle.house_peers.specs.AnyCaller as any
use Rattle.house_peers.specs.Lmtp.{lmtp}
pub use Rattle.house_peers.specs.AnyCaller.{Terms, setting_of, copies_of, keys_of, works, waits, answers, stalls, talks, lingers, fades}

abbrev pub Caller : Type 0
Caller = any.Caller lmtp

abbrev pub IsAnswered : List Noted → Caller → List Verdict → Type 0
IsAnswered = any.IsAnswered lmtp

abbrev pub Works : (k : Terms) (whole : Bool) (seat : ℕ) (b : Caller) (what : What) (after : Caller) → Type 0
Works = any.Works lmtp

abbrev pub more_waits : Caller → List ℕ → Caller
more_waits = any.more_waits lmtp

abbrev pub greeted : Terms → ℕ → ℕ → Caller
greeted = any.greeted lmtp

abbrev pub with_unsaid : List ℕ → Caller → Caller
with_unsaid = any.with_unsaid lmtp

abbrev pub GoesOn : (k : Terms) (whole : Bool) (seat : ℕ) (heard : List Noted) (b : Caller) (what : What) (after : Caller) → Type 0
GoesOn = any.GoesOn lmtp

abbrev pub Proceeds : (k : Terms) (whole : Bool) (seat : ℕ) (heard : List Noted) (b : Caller) (what : What) (after : Caller) → Type 0
Proceeds = any.Proceeds lmtp

abbrev pub unread : Caller → Caller
unread = any.unread lmtp
