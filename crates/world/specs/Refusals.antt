-- A put that is refused, in two worlds of a lane with room for one entry: a seat that has put its end there hears that it is shut, though the
-- lane is full too, and one that has not hears that it is full.
use Rattle.std.specs.Prelude.{◌≡◌, [], ◌∷◌}
use Rattle.change_ring.specs.Log.{no_flags}
use Rattle.delivery_token.specs.Text.{undated}
use Rattle.delivery_token.specs.declared.Job.{Job}
use Rattle.delivery_token.specs.declared.Refusal.{Refusal}
use Rattle.delivery_token.specs.declared.Refusal.TheVariants.{Full, Shut}
use Rattle.delivery_token.specs.declared.Verdict.TheVariants.{Refused}
use Rattle.shard_queue.specs.declared.lane.Entry.TheVariants.{Item, End}
use Rattle.world.specs.World.{Config, World, Put, PutEnd, IsWorld, Step, empty_world, hears, puts, reply_to}
use Rattle.world.specs.First.{one_copy}

-- the house with one of each, and room for one entry
abbrev pub narrow_house : Config
narrow_house = record {
  seats = 1;
  shards = 1;
  mailboxes = 1;
  sessions = 1;
  depth = 1;
  messages = 8;
  ring = 16;
  ring_max = 16;
  first_uid = 1;
  uidvalidity = 1;
}

-- its seat has put its end
abbrev pub ended : World
ended = puts empty_world 0 (End 0)

-- its seat has put a copy
abbrev pub filled : World
filled = puts empty_world 0 (Item 0 one_copy)

-- the copy for the next recipient
abbrev pub next_copy : Job
next_copy = record {
  key = record { seat = 0; serial = 0; message = 0; recipient = 1 };
  mailbox = 0;
  text = undated (104 ∷ 105 ∷ []);
  flags = no_flags;
}

-- the seat has heard that it was refused
abbrev pub told : World → Refusal → World
told w why = hears w 0 (reply_to next_copy (Refused why))

-- A put of it may come to this refusal, and to nothing else.
pub record IsRefused (w : World) (why : Refusal) : Type 0 where
  pub may : Step narrow_house w (Put 0 0 next_copy) (told w why)
  pub only : (v : World) → Step narrow_house w (Put 0 0 next_copy) v → v ≡ told w why

-- the seat has ended, and the lane is full
pub record ShutComesFirst : Type 0 where
  pub world : IsWorld narrow_house (PutEnd 0 0 ∷ []) ended
  pub refused : IsRefused ended Shut

-- the lane is full, and the seat has not ended
pub record FullIsNotShut : Type 0 where
  pub world : IsWorld narrow_house (Put 0 0 one_copy ∷ []) filled
  pub refused : IsRefused filled Full
