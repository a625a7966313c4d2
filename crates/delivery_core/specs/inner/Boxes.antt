-- What delivering a copy does to a mailbox and to the box of the world that it stands for.
use Rattle.std.specs.Prelude.{◌≡◌, ◌<◌, [], ◌∷◌, length}
use Rattle.delivery_token.specs.declared.Job.{Job}
use Rattle.delivery_token.specs.declared.Verdict.{Verdict}
use Rattle.delivery_token.specs.declared.Verdict.TheVariants.{Stored, Refused}
use Rattle.delivery_token.specs.declared.Refusal.TheVariants.{MailboxFull, NoMemory, UidSpent}
use Rattle.change_ring.specs.Log.{rows_of, arrival}
use Rattle.mailbox.specs.Mailbox.{Mailbox}
use Rattle.world.specs.World.{Config, Box, HasUid, IsSpent, is_full, Logs, next_uid}
use Rattle.delivery_core.specs.Stands.{StandsForBox}

-- From this box a mailbox took the copy, or refused it, and stands for the box that the world allows.
pub data BoxDelivers (k : Config) (w : Box) (c : Job) (verdict : Verdict) (new : Mailbox) : Type 0 where
  stores : (u : Box) → HasUid k c.flags w → length (rows_of w.log) < k.messages
      → Logs k w (arrival (next_uid k w) c.flags) ((c, next_uid k w) ∷ []) u → verdict ≡ Stored (next_uid k w) → StandsForBox k new u
      → BoxDelivers k w c verdict new
  has_no_uid : IsSpent k c.flags w → verdict ≡ Refused UidSpent → StandsForBox k new w → BoxDelivers k w c verdict new
  has_no_space : HasUid k c.flags w → is_full k w → verdict ≡ Refused MailboxFull → StandsForBox k new w → BoxDelivers k w c verdict new
  -- a growth was refused
  has_no_memory : HasUid k c.flags w → length (rows_of w.log) < k.messages → verdict ≡ Refused NoMemory → StandsForBox k new w
      → BoxDelivers k w c verdict new
