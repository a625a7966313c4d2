-- One run: a session selects an empty mailbox, one copy goes from its seat to that mailbox and is heard, and the session is shown it.
use Rattle.std.specs.Prelude.{List, [], ◌∷◌}
use Rattle.change_ring.specs.Log.{no_flags}
use Rattle.delivery_token.specs.declared.CopyKey.{CopyKey}
use Rattle.delivery_token.specs.declared.Job.{Job}
use Rattle.delivery_token.specs.Text.{undated}
use Rattle.delivery_token.specs.declared.log.Noted.{Noted}
use Rattle.delivery_token.specs.declared.Verdict.TheVariants.{Stored}
use Rattle.world.specs.World.{Config, Event, Put, Take, Deliver, Answer, Hear, Enter, Feed}

-- the house with one of each
abbrev pub one_house : Config
one_house = record {
  seats = 1;
  shards = 1;
  mailboxes = 1;
  sessions = 1;
  depth = 2;
  messages = 8;
  ring = 16;
  ring_max = 16;
  first_uid = 1;
  uidvalidity = 1;
}

-- its key
abbrev pub one_key : CopyKey
one_key = record { seat = 0; serial = 0; message = 0; recipient = 0 }

-- the copy
abbrev pub one_copy : Job
one_copy = record { key = one_key; mailbox = 0; text = undated (104 ∷ 105 ∷ []); flags = no_flags }

-- the reply to it
abbrev pub one_reply : Noted
one_reply = record { key = one_key; mailbox = 0; verdict = Stored 1 }

-- what happens
abbrev pub one_run : List Event
one_run = Enter 0 0 ∷ Put 0 0 one_copy ∷ Take 0 ∷ Deliver 0 ∷ Answer 0 ∷ Hear 0 ∷ Feed 0 64 ∷ []
