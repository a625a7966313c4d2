-- When a connection stands for a caller of the scene.
use Rattle.std.specs.Prelude.{◌≡◌, ℕ, Bool, List, [], ◌∷◌, drop, length}
use Rattle.delivery_token.specs.declared.CopyKey.{CopyKey}
use Rattle.delivery_token.specs.declared.log.Noted.{Noted}
use Rattle.delivery_token.specs.Keys.{AtLeast}
use Rattle.delivery_token.specs.Copies.{SlotsFor}
use Rattle.lmtp_machine.specs.declared.connection.What.{What}
use Rattle.lmtp_machine.specs.Dialogue.{Phase, Waiting, Submission}
use Rattle.lmtp_machine.specs.Kept.{Kept, AreMessages}
use Rattle.lmtp_machine.specs.LmtpMachine as machine
use Rattle.house_peers.specs.HouseConnection.{HouseConnection}
use Rattle.house_peers.specs.Caller.{Caller, Proceeds, Terms, copies_of, keys_of, setting_of}

-- verdicts are awaited exactly where a message was submitted
abbrev pub IsAwaited : List Submission → Phase → Type 0
IsAwaited [] phase = (n : ℕ) → phase ≡ Waiting n → ⊥
IsAwaited (s ∷ ss) phase = (ss ≡ []) × (phase ≡ Waiting (length s.keys))

module _ (k : Terms) (seat : ℕ) (next : CopyKey) (heard : List Noted) where
  -- The connection stands for this caller, whose seat has heard these verdicts and may use keys from `next` on. Which shards of the directory are
  -- shut doesn't matter to that.
  pub record StandsForConnection (h : HouseConnection) (b : Caller) : Type 0 where
    pub serial : h.serial ≡ b.serial
    pub gone : h.gone ≡ b.gone
    pub setting : h.machine.setting ≡ setting_of k seat b.serial
    pub host : h.machine.host ≡ k.host
    pub machine : machine.StandsFor h.machine b.talk.at
    pub waits : h.waits ≡ b.talk.waits
    pub unsaid : h.unsaid ≡ b.talk.unsaid
    pub pending : h.machine.pending ≡ b.talk.pending
    pub to_put : b.to_put ≡ drop (length h.verdicts) (copies_of b.talk.pending)
    pub verdicts : SlotsFor heard (keys_of b.talk.pending) h.verdicts
    pub awaited : IsAwaited b.talk.pending b.talk.at.standing.phase
    pub kept : Kept (length k.directory.homes) b.talk.at.standing
    -- the number of the message at hand, or of the next one
    pub message : ℕ
    pub numbered : AreMessages (setting_of k seat b.serial) (length k.directory.homes) message b.talk.pending b.talk.at.standing.submitted
    pub ahead : AtLeast next (record { seat = seat; serial = b.serial; message = message; recipient = length h.verdicts })

-- After a caller proceeded: the connection stands for what it is then.
pub record Proceeded (k : Terms) (whole : Bool) (seat : ℕ) (next : CopyKey) (heard : List Noted) (b : Caller) (what : What)
    (h : HouseConnection) : Type 0 where
  pub after : Caller
  pub proceeds : Proceeds k whole seat heard b what after
  pub stands : StandsForConnection k seat next heard h after
