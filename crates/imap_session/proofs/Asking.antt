-- What the store was asked, one call after another.
use Rattle.std.proofs.Common.{◌≡◌, List, [], ◌∷◌, ◌++◌, subst}
use Rattle.imap_session.specs.Exchange.{Call, Answer, Event}
use Rattle.imap_session.specs.Store.{Met}
use Rattle.imap_session.specs.Dialogue.{Asks}

-- some calls, and then some more
met_then : {S : Type 0} (step : S → Call → Answer → S → Type 0) (old mid new : S) (first second : List Event) → Met step old first mid → Met step mid second new → Met step old (first ++ second) new
met_then step old mid new [] second one two = subst (λ s. Met step s second new) one two
met_then step old mid new (e ∷ first) second one two = (one.0, one.1, met_then step one.0 mid new first second one.2 two)

-- nothing was asked
pub asks_none : {S : Type 0} (step : S → Call → Answer → S → Type 0) (old new : S) → new ≡ old → Asks step old new
asks_none step old new same = ([], same)

pub asks_then : {S : Type 0} (step : S → Call → Answer → S → Type 0) (old mid new : S) → Asks step old mid → Asks step mid new → Asks step old new
asks_then step old mid new one two = (one.0 ++ two.0, met_then step old mid new one.0 two.0 one.1 two.1)
