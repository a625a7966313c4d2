-- What bodies and proofs say besides of what the delivery side holds: how its groups are read as lists, and what it keeps of its mailboxes.
use Rattle.std.specs.Prelude.{◌≡◌, All, List, Option, map}
use Rattle.mailbox.specs.declared.history.History.TheVariants.{Kept}
use Rattle.mailbox.specs.Mailbox.{Mailbox}
use Rattle.delivery_core.specs.DeliveryCore.{DeliveryCore}
use Rattle.delivery_core.specs.declared.client.Client.{Client}
use Rattle.delivery_core.specs.declared.group.Seat.{Seat}
use Rattle.delivery_core.specs.declared.group.Shard.{Shard}

-- what shards and seats have, list by list
abbrev pub in_groups : List Shard → List Seat → List Mailbox → List (Option Client) → DeliveryCore
in_groups shards seats boxes clients = record {
  lanes = map (λ (s : Shard). s.lane) shards;
  hands = map (λ (s : Shard). s.hand) shards;
  replies = map (λ (s : Seat). s.replies) seats;
  heard = map (λ (s : Seat). s.heard) seats;
  boxes = boxes;
  next = map (λ (s : Seat). s.next) seats;
  clients = clients;
}

-- each mailbox keeps which copies it took
abbrev pub AreKept : List Mailbox → Type 0
AreKept boxes = All (λ (b : Mailbox). b.history ≡ Kept) boxes
