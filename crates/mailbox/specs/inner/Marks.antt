-- The messages with \Deleted, by their UIDs.
use Rattle.std.specs.Prelude.{◌≡◌, ◌≤◌, ℕ, Bool, true, false, List, [], ◌∷◌, length, map, filter, if◌then◌else◌, vec_capacity, nat_lt}
use Rattle.change_ring.specs.declared.change.Change.{Change}
use Rattle.change_ring.specs.declared.change.Change.TheVariants.{Gone}
use Rattle.change_ring.specs.declared.flag_op.FlagOp.{FlagOp}
use Rattle.change_ring.specs.declared.flag_op.FlagOp.TheVariants.{Insert}
use Rattle.change_ring.specs.Log.{no_flags, without}
use Rattle.mailbox.specs.inner.Letters.{without_message}
use Rattle.mailbox.specs.Mailbox.{Message, flagged, uids_of}
use Rattle.mailbox.specs.declared.messages.Messages.TheInside.{Inside}

-- the UIDs of those with \Deleted
abbrev pub marked_of : List Message → List ℕ
marked_of messages = uids_of (filter (λ (m : Message). m.flags.deleted) messages)

-- a UID among others that rise, at its position
abbrev pub put_in : ℕ → List ℕ → List ℕ
put_in uid [] = uid ∷ []
put_in uid (u ∷ us) = if nat_lt u uid then u ∷ put_in uid us else uid ∷ u ∷ us

-- the UIDs after a message's \Deleted was the first, and is the second
abbrev pub remarked : ℕ → Bool → Bool → List ℕ → List ℕ
remarked uid false true us = put_in uid us
remarked uid true false us = without uid us
remarked uid true true us = us
remarked uid false false us = us

-- without the messages of those UIDs that pass
abbrev pub without_each : (ℕ → Bool) → List ℕ → List Message → List Message
without_each test [] messages = messages
without_each test (u ∷ us) messages = without_each test us (if test u then without_message u messages else messages)

-- setting \Deleted
abbrev pub doom : FlagOp
doom = Insert (record no_flags { deleted = true })

-- the messages of these UIDs have \Deleted
abbrev pub doomed : List ℕ → List Message → List Message
doomed [] messages = messages
doomed (u ∷ us) messages = doomed us (flagged u doom messages)

-- what is logged where those UIDs go that pass
abbrev pub gone_of : (ℕ → Bool) → List ℕ → List Change
gone_of test uids = map Gone (filter test uids)

-- they are kept, and there is room for each message's
pub record AreMarked (b : Inside) : Type 0 where
  pub marked : b.marked.items ≡ marked_of b.letters
  pub room : length b.letters ≤ vec_capacity b.marked
