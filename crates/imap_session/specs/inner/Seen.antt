-- A message that is appended, as contracts see it.
use Rattle.std.specs.Prelude.{◌≡◌, ◌≤◌, ◌+◌, length, reverse, min, IfSome}
use Rattle.std.specs.Option.{option_map}
use Rattle.std.specs.Vec.{vec_capacity}
use Rattle.imap_session.specs.declared.mailing.PendingLiteral as begun
use Rattle.imap_session.specs.declared.mailing.Sent as sent
use Rattle.imap_session.specs.declared.mailing.Purpose as purposes
use Rattle.imap_session.specs.declared.batch.Batch as batch
use Rattle.imap_session.specs.declared.batch.Origin as origins
use Rattle.imap_session.specs.declared.batch.Origin.TheVariants as from
use Rattle.imap_session.specs.declared.mailing.Purpose.TheVariants as said
use Rattle.imap_session.specs.Commands.{most_in_batch, most_line}
use Rattle.imap_session.specs.Exchange.{Argument, Batch, Client, Copied, Message, Origin, PendingLiteral, Purpose, Response, Sent}
use Rattle.imap_session.specs.Store.{most_first_room}

abbrev pub purpose_of : purposes.Purpose → Purpose
purpose_of (said.Message mailbox flags date) = Message mailbox flags date
purpose_of (said.Argument line) = Argument line.items
purpose_of (said.Response line) = Response line.items

abbrev pub pending_of : begun.PendingLiteral → PendingLiteral
pending_of a = record { tag = a.tag; purpose = purpose_of a.purpose; size = a.size; due = a.due; text = option_map (λ t. t.items) a.text }

abbrev pub batch_of : batch.Batch → Batch
batch_of b = record { by_uid = b.by_uid; moves = b.moves; uids = b.uids.items; left = reverse b.left.items; copies = b.copies.items }

abbrev pub origin_of : origins.Origin → Origin
origin_of from.Client = Client
origin_of (from.Copied b) = Copied (batch_of b)

abbrev pub sent_of : sent.Sent → Sent
sent_of s = record { tag = s.tag; append = s.append; origin = origin_of s.origin }

-- Each message has its UID and is stored, left, or on its way; there is room for the UIDs of all copies; and there are no more than one command may
-- copy.
pub record IsUnderWay (b : batch.Batch) : Type 0 where
  pub all : length b.copies.items + (1 + length b.left.items) ≡ length b.uids.items
  pub room : length b.uids.items ≤ vec_capacity b.copies
  pub few : length b.uids.items ≤ most_in_batch

abbrev pub IsRoomy : origins.Origin → Type 0
IsRoomy from.Client = Unit {0}
IsRoomy (from.Copied b) = IsUnderWay b

-- a line that goes on has room for as much as a line may have
abbrev pub HasLineRoom : purposes.Purpose → Type 0
HasLineRoom (said.Message mailbox flags date) = Unit {0}
HasLineRoom (said.Argument line) = most_line ≤ vec_capacity line
HasLineRoom (said.Response line) = most_line ≤ vec_capacity line

-- for the first bytes of the text, where one is kept, room was made before they came, and for the line that goes on behind it
abbrev pub HasFirstRoom : begun.PendingLiteral → Type 0
HasFirstRoom a = IfSome a.text (λ text. (min a.size most_first_room ≤ vec_capacity text) × HasLineRoom a.purpose)
