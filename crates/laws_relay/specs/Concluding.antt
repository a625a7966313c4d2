-- What a relay may conclude of a house that ran, by the bytes that it sent and was told on a connection.
use Rattle.std.specs.Prelude.{◌≡◌, ◌<◌, ℕ, true, false, List, [], ◌∷◌, ◌++◌, length, Contains, Option, Some, slice_get, slice_index_or}
use Rattle.delivery_token.specs.Text.{Text}
use Rattle.delivery_token.specs.declared.CopyKey.{CopyKey}
use Rattle.delivery_token.specs.Keys.{Below}
use Rattle.envelope.specs.Names.{Directory}
use Rattle.laws_relay.specs.Handed.{Handed, handed_over, is_taken}
use Rattle.laws_relay.specs.Concludes.{IsTextOf, Names, key_at, message_at}
use Rattle.laws_relay.specs.Entries.{StandsNowhere, StandsOnce, with_uid}

-- ---- a message that it handed over

-- The i-th recipient's copy stands in the mailbox that the i-th accepted RCPT line names, once,
-- and nowhere else. `texts`: the messages that are there still, each with its UID.
pub record IsStored (directory : Directory) (accepted : List (List (CopyKey × ℕ))) (texts : List (List (ℕ × Text))) (key : CopyKey)
    (message : Handed) (i : ℕ) : Type 0 where
  pub mailbox : ℕ
  pub there : mailbox < length directory.homes
  pub names : Names directory (slice_index_or message.recipients i []) mailbox
  pub uid : ℕ
  pub once : StandsOnce accepted key mailbox uid
  -- no other copy was accepted there under its UID
  pub alone : with_uid uid (slice_index_or accepted mailbox []) ≡ (key, uid) ∷ []
  -- a message with this UID has its text
  pub text : (text : Text) → Contains (slice_index_or texts mailbox []) (uid, text) → IsTextOf message text

-- ---- a connection

-- The connection with this serial number of the worker with this seat: these bytes were
-- sent, and these replied in all. The relay was told any front of the replies.
pub record ConnectionConcludes (directory : Directory) (seat serial : ℕ) (sent replied : List ℕ) (accepted : List (List (CopyKey × ℕ)))
    (texts : List (List (ℕ × Text))) : Type 0 where
  -- The house numbered the messages that were submitted, in their order: this is the number of the k-th
  -- that was handed over, if it was not refused as a whole. It is part of the keys of its copies.
  pub number : ℕ → Option ℕ
  pub rises : (k m a b : ℕ) → k < m → number k ≡ Some a → number m ≡ Some b → a < b
  -- a recipient whose reply is 250 has its copy in its mailbox, once
  pub taken : (told untold : List ℕ) → told ++ untold ≡ replied → (k i : ℕ) → is_taken (message_at (handed_over sent told) k) i ≡ true
      → (n : ℕ) × (number k ≡ Some n) × IsStored directory accepted texts (key_at seat serial n i) (message_at (handed_over sent told) k) i
  -- and one whose reply is another has none of this message
  pub refused : (told untold : List ℕ) → told ++ untold ≡ replied → (k i : ℕ) → i < length (message_at (handed_over sent told) k).replies
      → is_taken (message_at (handed_over sent told) k) i ≡ false
      → (n : ℕ) → number k ≡ Some n → StandsNowhere accepted (key_at seat serial n i)
  -- in the end each message that was submitted is answered, for each recipient
  pub answered : (k n : ℕ) → number k ≡ Some n
      → length (message_at (handed_over sent replied) k).replies ≡ length (message_at (handed_over sent replied) k).recipients
  -- different recipients, also of one message, have different copies
  pub different : (k m a b i j : ℕ) → number k ≡ Some a → number m ≡ Some b → key_at seat serial a i ≡ key_at seat serial b j → (k ≡ m) × (i ≡ j)
  -- whatever was accepted with a key of this connection is the copy of a recipient to whose message it was replied by 250
  pub nothing_else : (mailbox uid : ℕ) (key : CopyKey) → Contains (slice_index_or accepted mailbox []) (key, uid) → key.seat ≡ seat
      → key.serial ≡ serial
      → (k : ℕ) × (number k ≡ Some key.message) × (is_taken (message_at (handed_over sent replied) k) key.recipient ≡ true)
  -- and a message that is there has the text of such a recipient's message, or was accepted as another's
  pub texts_are : (mailbox uid : ℕ) (text : Text) → Contains (slice_index_or texts mailbox []) (uid, text)
      → (key : CopyKey) × Contains (slice_index_or accepted mailbox []) (key, uid)
      × (key.seat ≡ seat → key.serial ≡ serial → (k : ℕ) × (number k ≡ Some key.message) × IsTextOf (message_at (handed_over sent replied) k) text)

-- ---- a worker

-- All connections of a worker, by the bytes that were sent on each, and perhaps more behind them, and by what was replied.
pub record RelaysConclude (directory : Directory) (seat : ℕ) (connections replies : List (List ℕ)) (accepted : List (List (CopyKey × ℕ)))
    (texts : List (List (ℕ × Text))) : Type 0 where
  pub replied : length replies ≡ length connections
  pub each : (serial : ℕ) → serial < length connections → (more : List ℕ)
      → ConnectionConcludes directory seat serial (slice_index_or connections serial [] ++ more) (slice_index_or replies serial []) accepted texts
  -- whatever was accepted of this worker is of one of these connections
  pub nothing_else : (mailbox uid : ℕ) (key : CopyKey) → Contains (slice_index_or accepted mailbox []) (key, uid) → key.seat ≡ seat
      → key.serial < length connections
  -- Of two copies of this worker in a mailbox that which was sent earlier stands first: by connection, by message, by recipient.
  pub in_order : (mailbox i j uid other : ℕ) (earlier later : CopyKey)
      → slice_get (slice_index_or accepted mailbox []) i ≡ Some (earlier, uid)
      → slice_get (slice_index_or accepted mailbox []) j ≡ Some (later, other)
      → earlier.seat ≡ seat → later.seat ≡ seat → Below earlier later → i < j
