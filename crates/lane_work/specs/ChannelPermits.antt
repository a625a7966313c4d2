-- The reply channels of a house's producers with their permits: what is known of several lanes, said of these.
use Rattle.std.specs.Prelude.{ℕ, List}
use Rattle.delivery_token.specs.declared.log.Noted.{Noted}
use Rattle.shard_queue.specs.Reply.{ReplyChannel, SenderPermit, SenderEnded, ReceiverPermit, ReplyClosed, view, is_of, room_of}
use Rattle.lane_work.specs.SharedLanes as lanes

-- the permits of each channel's senders from p to the last, none of which has sent anything
abbrev pub SenderRows : List (ReplyChannel Noted) → ℕ → List (List (SenderPermit Noted)) → Type 0
SenderRows = lanes.Rows view is_of

-- each hand has the permits of one sender on all channels, from sender p on, which have sent nothing
abbrev pub AreSenderHands : List (ReplyChannel Noted) → ℕ → List (List (SenderPermit Noted)) → Type 0
AreSenderHands = lanes.AreHands view is_of (λ permit. permit)

-- the i-th permit is the receiver's of the i-th channel
abbrev pub AreReceivers : List (ReplyChannel Noted) → List (ReceiverPermit Noted) → Type 0
AreReceivers = lanes.AreConsumers view is_of

-- the i-th is what is left of sender s's permit on the i-th channel
abbrev pub AreSendersEnded : List (ReplyChannel Noted) → ℕ → List (SenderEnded Noted) → Type 0
AreSendersEnded = lanes.AreEnded view is_of

-- the i-th list has ended permits of the i-th channel
abbrev pub SenderEndedRows : List (ReplyChannel Noted) → List (List (SenderEnded Noted)) → Type 0
SenderEndedRows = lanes.EndedRows view is_of

-- each hand has one sender's ended permits on all channels, from sender p on
abbrev pub AreSenderEndedHands : List (ReplyChannel Noted) → ℕ → List (List (SenderEnded Noted)) → Type 0
AreSenderEndedHands = lanes.AreEndedHands view is_of

-- each of the channels was closed
abbrev pub AreChannelsClosed : List (ReplyChannel Noted) → List (List (SenderEnded Noted)) → List (ReceiverPermit Noted)
    → List (ReplyClosed Noted) → Type 0
AreChannelsClosed = lanes.AreClosed view room_of

-- of some channel an ended permit is missing, or an end wasn't received
abbrev pub AreChannelsTorn : List (ReplyChannel Noted) → List (List (SenderEnded Noted)) → List (ReceiverPermit Noted) → Type 0
AreChannelsTorn = lanes.IsTorn view
