-- What a session counts in a world.
use Rattle.std.specs.Prelude.{◌≡◌, ℕ, ◌<◌, ◌^◌, List, [], length, map, Contains, Option, Some, None}
use Rattle.mailbox.specs.declared.clients.Opening.{Opening}
use Rattle.delivery_token.specs.declared.Job.{Job}
use Rattle.change_ring.specs.Log.{Row, rows_of, view_at}
use Rattle.delivery_core.specs.Clients.{text_with}
use Rattle.world.specs.World.{Config, World, Box, Session}

-- the UIDs that the log of its mailbox leaves, up to the session's cursor; none where it has selected no mailbox
abbrev pub view_in : World → Option Session → List ℕ
view_in w None = []
view_in w (Some s) = view_at (w.box s.mailbox).log s.cursor

abbrev pub view_of : World → ℕ → List ℕ
view_of w n = view_in w (w.session n)

-- the UIDs of a mailbox's messages, in their order
abbrev pub messages_of : Box → List ℕ
messages_of b = map (λ (row : Row). row.uid) (rows_of b.log)

-- What a session is told of the mailbox that it enters: it counts all messages that are there,
-- they are as many as is told, each number can be printed, and the UIDVALIDITY is
-- always the same (RFC 9051, 2.3.1.1).
pub record IsOpened (k : Config) (opening : Opening) (b : Box) (view : List ℕ) : Type 0 where
  pub all : view ≡ messages_of b
  pub count : opening.count ≡ length view
  pub few : opening.count < 2 ^ 64
  pub validity : opening.uidvalidity ≡ k.uidvalidity
  pub uidvalidity : opening.uidvalidity < 2 ^ 64
  pub uidnext : opening.uidnext < 2 ^ 64

-- ---- a client that comes again

-- Under this UID stood one copy in the mailbox's history as it was, and the same
-- stands there now, and no other. So a FETCH tells the same text of it.
pub record NamesTheSame (uid : ℕ) (before now : Box) : Type 0 where
  pub copy : Job
  pub was : Contains before.accepted (copy, uid)
  pub still : Contains now.accepted (copy, uid)
  pub alone : (other : Job) → Contains now.accepted (other, uid) → other ≡ copy
  pub text : text_with uid now.accepted ≡ copy.text
