-- What the answers of a session's store come to for what the session counts, one after another. A client that reads the session's lines needs no more of the store: so what is
-- proved of a turn by this holds in a house of one thread, and over mailboxes behind locks.
use Rattle.std.proofs.Common.{◌≡◌, ℕ, ◌<◌, ◌^◌, List, [], ◌∷◌, length}
use Rattle.mailbox.specs.declared.clients.Opening.{Opening}
use Rattle.imap_session.specs.Exchange.{Answer, Entered, Event}
use Rattle.laws_client.specs.ListTurns.{Sees, SeesAll}

-- SELECT tells how many messages the session counts then, and its numbers can be printed
pub record IsTold (opening : Opening) (view : List ℕ) : Type 0 where
  pub count : opening.count ≡ length view
  pub few : opening.count < 2 ^ 64
  pub uidvalidity : opening.uidvalidity < 2 ^ 64
  pub uidnext : opening.uidnext < 2 ^ 64

abbrev pub OpensSo : Answer → List ℕ → Type 0
OpensSo (Entered opening) view = IsTold opening view
OpensSo answer view = Unit {0}

-- from the one view these calls and their answers lead to the other, and what is told of a mailbox that is entered is so
abbrev pub HearsAll : List ℕ → List Event → List ℕ → Type 0
HearsAll view [] new = new ≡ view
HearsAll view (event ∷ events) new = (mid : List ℕ) × Sees view event mid × OpensSo event.answer mid × HearsAll mid events new

pub sees_of : (view : List ℕ) (events : List Event) (new : List ℕ) → HearsAll view events new → SeesAll view events new
sees_of view [] new h = h
sees_of view (event ∷ events) new (mid, sees, opens, more) = (mid, sees, sees_of mid events new more)
