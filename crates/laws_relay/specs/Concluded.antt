-- What a relay may conclude of a whole house: which copies of the messages that it handed over on one connection stand, and where.
use Rattle.std.specs.Prelude.{◌≡◌, ℕ, ◌<◌, ◌≤◌, ◌⊎◌, true, false, List, ◌∷◌, [], ◌++◌, length, slice_index_or, AllPairs, Contains}
use Rattle.delivery_token.specs.Text.{undated}
use Rattle.change_ring.specs.Log.{no_flags}
use Rattle.delivery_token.specs.Keys.{Below}
use Rattle.delivery_token.specs.declared.CopyKey.{CopyKey}
use Rattle.delivery_token.specs.declared.Job.{Job}
use Rattle.envelope.specs.Names.{Directory}
use Rattle.lmtp_machine.specs.declared.reply.Reply.{Reply}
use Rattle.lmtp_machine.specs.declared.reply.Reply.TheVariants.{Greeting}
use Rattle.lmtp_machine.specs.Message.{stored_text}
use Rattle.lmtp_machine.specs.Dialogue.{wire}
use Rattle.laws_relay.specs.Fates.{Fate, Unheard, HaveFates}
use Rattle.laws_relay.specs.Concludes.{IsSender, Names}
use Rattle.laws_relay.specs.Handed.{Handed, handed_over, is_taken, no_message}
use Rattle.laws_relay.specs.Numbers.{number_of, was_submitted}
use Rattle.world.specs.Law.{StandsOnce, accepted_of, keys, pairs}
use Rattle.world.specs.World.{World}

-- The i-th of the messages, and its fate. Where there is none it is an empty message, of which nothing was heard.
abbrev pub message_at : List Handed → (i : ℕ) → Handed
message_at messages i = slice_index_or messages i no_message

abbrev pub fate_at : List Fate → (i : ℕ) → Fate
fate_at fates i = slice_index_or fates i Unheard

module _ (seat serial : ℕ) where
  -- the key of the copy for the j-th recipient of the i-th message of a connection: messages are numbered without those that were turned away
  abbrev pub key_at : List Fate → (i j : ℕ) → CopyKey
  key_at fates i j = record { seat = seat; serial = serial; message = number_of fates i; recipient = j }

  -- This is the key of that copy. A message that wasn't submitted has none.
  abbrev pub IsKeyOf : List Fate → (i j : ℕ) → CopyKey → Type 0
  IsKeyOf fates i j key = (was_submitted (fate_at fates i) ≡ true) × (key ≡ key_at fates i j)

-- no copy of this key stands anywhere
abbrev pub StandsNowhere : World → CopyKey → Type 0
StandsNowhere w key = (mailbox : ℕ) (entry : Job × ℕ) → Contains (w.box mailbox).accepted entry → entry.0.key ≡ key → ⊥

module _ (directory : Directory) (w : World) where
  -- The copy of the message for its j-th recipient stands in the mailbox that this RCPT
  -- line names, at one position and under one UID, and it has the text that was
  -- sent: the return path of the MAIL line, and the lines of the data without the dots that
  -- were put before them. No other copy has its key, in that mailbox or elsewhere.
  pub record StandsAsSent (message : Handed) (j : ℕ) (key : CopyKey) : Type 0 where
    pub mailbox : ℕ
    pub named : Names directory (slice_index_or message.recipients j []) mailbox
    pub sender : List ℕ
    pub from : IsSender message.mail sender
    pub uid : ℕ
    pub once : StandsOnce (pairs (w.box mailbox).accepted) key uid
    pub copy : Job
    pub is : copy ≡ record { key = key; mailbox = mailbox; text = undated (stored_text sender message.lines); flags = no_flags }
    pub here : Contains (w.box mailbox).accepted (copy, uid)
    pub alone : (other : ℕ) (entry : Job × ℕ) → Contains (w.box other).accepted entry → entry.0.key ≡ key → (other ≡ mailbox) × (entry.0 ≡ copy)

module _ (directory : Directory) (seat serial : ℕ) (fates : List Fate) where
  -- A copy that stands is for the j-th recipient of the i-th message that was handed over: in the
  -- mailbox which that RCPT line names, with the text that was sent. And of its reply
  -- the relay knows that it is 250, or it hasn't read it.
  pub record IsHandedOver (known whole : List Handed) (mailbox : ℕ) (copy : Job) : Type 0 where
    pub i : ℕ
    pub j : ℕ
    pub key : IsKeyOf seat serial fates i j copy.key
    pub within : j < length (message_at whole i).recipients
    pub named : Names directory (slice_index_or (message_at whole i).recipients j []) mailbox
    pub sender : List ℕ
    pub from : IsSender (message_at whole i).mail sender
    pub text : copy.text ≡ undated (stored_text sender (message_at whole i).lines)
    pub read : (is_taken (message_at known i) j ≡ true) ⊎ (length (message_at known i).replies ≤ j)

-- Of the connection with this serial at this seat, in a house with this name and directory, in this world.
module _ (host : List ℕ) (directory : Directory) (w : World) (seat serial : ℕ) where
  -- Of a relay that sent these bytes on the connection of this serial at this seat, and was
  -- told those; these others were printed for it too, and haven't reached it:
  pub record MayConclude (sent told unread : List ℕ) : Type 0 where
    -- what else was said: what hasn't reached it, and then what wasn't printed, since it is still to be, or was dropped when the peer was gone
    pub replies : List Reply
    pub unprinted : List ℕ
    pub untold : List ℕ
    pub begins : untold ≡ unread ++ unprinted
    pub said : told ++ untold ≡ wire host (Greeting ∷ replies)
    -- what became of each message that it handed over, by all that was said
    pub fates : List Fate
    pub each : HaveFates host directory (handed_over sent (told ++ untold)) fates
    -- a recipient whose reply it has read as 250: the copy stands, so it may forget its own
    pub taken : (i j : ℕ) → is_taken (message_at (handed_over sent told) i) j ≡ true
        → IsKeyOf seat serial fates i j (key_at seat serial fates i j)
        × StandsAsSent directory w (message_at (handed_over sent told) i) j (key_at seat serial fates i j)
    -- one whose reply it has read as another: no copy stands, so it may send it again
    pub refused : (i j : ℕ) (key : CopyKey) → j < length (message_at (handed_over sent told) i).replies
        → is_taken (message_at (handed_over sent told) i) j ≡ false
        → IsKeyOf seat serial fates i j key → StandsNowhere w key
    -- copies for different recipients have different keys, in the order in which they were handed over
    pub in_order : (i j m n : ℕ) (a b : CopyKey) → IsKeyOf seat serial fates i j a → IsKeyOf seat serial fates m n b → (i < m)
        ⊎ ((i ≡ m) × (j < n)) → Below a b
    -- and so they stand in each mailbox's history: its copies of this seat have rising keys
    pub stand_in_order : (mailbox : ℕ) → AllPairs Below (keys (accepted_of w seat mailbox))
    -- And nothing else stands of this connection: by the messages that it handed over, as all that was said tells of them.
    pub nothing_else : (mailbox : ℕ) (entry : Job × ℕ) → Contains (w.box mailbox).accepted entry → entry.0.key.seat ≡ seat
        → entry.0.key.serial ≡ serial
        → IsHandedOver directory seat serial fates (handed_over sent told) (handed_over sent (told ++ untold)) mailbox entry.0

  -- Of a relay that was told all that was said on a connection on which nothing more is to be said: it has read of each copy that stands that it
  -- does.
  pub record KnowsAll (sent told : List ℕ) : Type 0 where
    pub may : MayConclude sent told []
    pub none_untold : may.untold ≡ []
    pub read : (mailbox : ℕ) (entry : Job × ℕ) → Contains (w.box mailbox).accepted entry → entry.0.key.seat ≡ seat → entry.0.key.serial ≡ serial
        → (i : ℕ) × (j : ℕ) × IsKeyOf seat serial may.fates i j entry.0.key × (is_taken (message_at (handed_over sent told) i) j ≡ true)
