-- What a relay may conclude of the messages that it handed over on a connection: which copies of them stand, and where. It is said of whatever keeps
-- copies: the mailboxes of a house on one thread, and the one history that all threads of a server share.
use Rattle.std.specs.Prelude.{◌≡◌, ◌<◌, ◌≤◌, ◌⊎◌, ℕ, true, false, List, [], length, AllPairs, Contains, Option, Some, slice_index_or, Ok}
use Rattle.change_ring.specs.Log.{no_flags}
use Rattle.delivery_token.specs.Keys.{Below}
use Rattle.delivery_token.specs.Text.{Text, undated}
use Rattle.delivery_token.specs.declared.CopyKey.{CopyKey}
use Rattle.delivery_token.specs.declared.Job.{Job}
use Rattle.envelope.specs.Names.{Directory, lookup}
use Rattle.envelope.specs.Reading.{read}
use Rattle.envelope.specs.Values.{Mail, Path, Rcpt}
use Rattle.house_history.specs.Events.{accepted_in, keys_of_seat}
use Rattle.house_history.specs.Legal as legal
use Rattle.house_history.specs.declared.event.Event.{Event}
use Rattle.lmtp_machine.specs.Message.{stored_text, sender_text}
use Rattle.world.specs.Law.{StandsOnce, pairs}
use Rattle.world.specs.World.{World}
use Rattle.laws_relay.specs.Handed.{Handed, is_taken, no_message}

-- ---- where copies stand

-- Which copies stand in which mailbox, each under its UID; and in a mailbox their keys and UIDs, in order.
pub record Copies : Type 1 where
  pub Stands : (mailbox : ℕ) → Job → (uid : ℕ) → Type 0
  pub accepted : (mailbox : ℕ) → List (CopyKey × ℕ)

abbrev pub of_world : World → Copies
of_world w = record {
  Stands = λ mailbox copy uid. Contains (w.box mailbox).accepted (copy, uid);
  accepted = λ mailbox. pairs (w.box mailbox).accepted;
}

abbrev pub of_history : List Event → Copies
of_history history = record {
  Stands = λ mailbox copy uid. (copy.mailbox ≡ mailbox) × legal.Stands history copy uid;
  accepted = λ mailbox. accepted_in mailbox history;
}

-- ---- a message that was handed over

-- the k-th, counted from 0. Where there is none it is an empty one
abbrev pub message_at : List Handed → ℕ → Handed
message_at messages k = slice_index_or messages k no_message

-- this line names this mailbox: it reads as RCPT with a path whose mailbox it is
abbrev pub Names : Directory → List ℕ → ℕ → Type 0
Names directory line mailbox = (path : Path) × (read line ≡ Ok (Rcpt path)) × (lookup directory path ≡ Ok mailbox)

-- this line names this sender: it reads as MAIL with a path that says so
abbrev pub IsSender : List ℕ → List ℕ → Type 0
IsSender line sender = (path : Path) × (read line ≡ Ok (Mail path)) × (sender ≡ sender_text path)

-- the text that is stored of it: that of the MAIL line's path and of the lines of the data, without the dots that were put before them, and no date
pub record IsTextOf (message : Handed) (text : Text) : Type 0 where
  pub sender : List ℕ
  pub from : IsSender message.mail sender
  pub is : text ≡ undated (stored_text sender message.lines)

abbrev pub key_at : (seat serial number recipient : ℕ) → CopyKey
key_at seat serial number recipient = record { seat = seat; serial = serial; message = number; recipient = recipient }

module _ (directory : Directory) (number : ℕ → Option ℕ) where
  -- This copy in this mailbox is the one for a recipient of a message that was handed over: the RCPT line names the mailbox, and the copy has the
  -- text that was sent. And of its reply the relay knows that it is 250, or it hasn't read it.
  pub record WasHandedOver (known whole : List Handed) (mailbox : ℕ) (copy : Job) : Type 0 where
    pub k : ℕ
    pub numbered : number k ≡ Some copy.key.message
    pub names : Names directory (slice_index_or (message_at whole k).recipients copy.key.recipient []) mailbox
    pub text : IsTextOf (message_at whole k) copy.text
    pub read : (is_taken (message_at known k) copy.key.recipient ≡ true) ⊎ (length (message_at known k).replies ≤ copy.key.recipient)

module _ (directory : Directory) (copies : Copies) where
  -- The copy for the i-th recipient of this message, which has this key, stands in the mailbox that its RCPT line names, with the text that was sent
  -- and no flags, at one position, under one UID, and in no other mailbox.
  pub record StandsAsSent (key : CopyKey) (message : Handed) (i : ℕ) : Type 0 where
    pub mailbox : ℕ
    pub names : Names directory (slice_index_or message.recipients i []) mailbox
    pub copy : Job
    pub keyed : copy.key ≡ key
    pub text : IsTextOf message copy.text
    pub plain : copy.flags ≡ no_flags
    pub uid : ℕ
    pub stands : copies.Stands mailbox copy uid
    pub once : StandsOnce (copies.accepted mailbox) key uid
    pub nowhere_else : (other w : ℕ) → Contains (copies.accepted other) (key, w) → (other ≡ mailbox) × (w ≡ uid)

  module _ (seat serial : ℕ) where
    -- Of the messages that it handed over on this connection: `known`, by what it was told so far; `whole`, by all that was said there.
    pub record Concludes (known whole : List Handed) : Type 0 where
      -- The house numbered the messages that were submitted, in their order: this is the number of the k-th, if it was not refused as a whole. It is
      -- part of the keys of its copies, so different recipients have different copies.
      pub number : ℕ → Option ℕ
      pub rises : (k m a b : ℕ) → k < m → number k ≡ Some a → number m ≡ Some b → a < b
      -- a recipient whose reply it has read as 250: the copy stands, so the relay may forget its own
      pub taken : (k i : ℕ) → is_taken (message_at known k) i ≡ true
          → (n : ℕ) × (number k ≡ Some n) × StandsAsSent (key_at seat serial n i) (message_at known k) i
      -- one whose reply it has read as another: no copy stands, so it may send it again
      pub refused : (k i n : ℕ) → i < length (message_at known k).replies → is_taken (message_at known k) i ≡ false → number k ≡ Some n
          → (mailbox : ℕ) (copy : Job) (uid : ℕ) → copies.Stands mailbox copy uid → copy.key ≡ key_at seat serial n i → ⊥
      -- nothing else stands of this connection
      pub nothing_else : (mailbox : ℕ) (copy : Job) (uid : ℕ) → copies.Stands mailbox copy uid → copy.key.seat ≡ seat → copy.key.serial ≡ serial
          → WasHandedOver directory number known whole mailbox copy
      -- and in each mailbox the copies of this seat stand in the order in which they were sent: by connection, by message, by recipient
      pub in_order : (mailbox : ℕ) → AllPairs Below (keys_of_seat seat (copies.accepted mailbox))
