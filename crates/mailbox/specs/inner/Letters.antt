-- The messages by their UIDs, as a mailbox keeps them.
use Rattle.std.specs.Prelude.{◌≡◌, ℕ, ◌==◌, ◌≤◌, Bool, List, [], ◌∷◌, length, map, filter, All, Option, Some, None, if◌then◌else◌}
use Rattle.std.specs.List.Sorted.{IsStrictlyIncreasing}
use Rattle.change_ring.specs.declared.change.Flags.{Flags}
use Rattle.delivery_token.specs.Text.{Text}
use Rattle.mailbox.specs.Counts.{unseen_count, bytes_in_all}
use Rattle.mailbox.specs.Mailbox.{Message, uids_of}
use Rattle.mailbox.specs.declared.letters.Letter.{Letter}
use Rattle.mailbox.specs.declared.letters.Letters.TheInside.{Inside}

-- the message of this UID that has these flags and this text
abbrev pub message_of : ℕ → Flags → Text → Message
message_of uid flags text = record { uid = uid; flags = flags; text = text }

-- a letter in front of messages: where its text is there it is one
abbrev pub in_front : ℕ → Flags → Option Text → List Message → List Message
in_front uid flags None messages = messages
in_front uid flags (Some text) messages = message_of uid flags text ∷ messages

-- a letter with its UID
pub record Filed : Type 0 where
  pub uid : ℕ
  pub flags : Flags
  pub text : Option Text

-- this letter, under this UID
abbrev pub under : ℕ → Letter → Filed
under uid l = record { uid = uid; flags = l.flags; text = l.text }

-- letters, each under the UID at its position
abbrev pub filed : List ℕ → List Letter → List Filed
filed [] letters = []
filed (uid ∷ uids) [] = []
filed (uid ∷ uids) (l ∷ ls) = under uid l ∷ filed uids ls

-- the letters whose text is there, as messages
abbrev pub messages_of : List Filed → List Message
messages_of [] = []
messages_of (l ∷ ls) = in_front l.uid l.flags l.text (messages_of ls)

-- the letters' UIDs, also of those whose text was taken
abbrev pub letter_uids : List Filed → List ℕ
letter_uids letters = map (λ (l : Filed). l.uid) letters

-- without the message of a UID
abbrev pub without_message : ℕ → List Message → List Message
without_message uid [] = []
without_message uid (m ∷ ms) = if m.uid == uid then ms else m ∷ without_message uid ms

-- the message of a UID has these flags
abbrev pub reflagged : ℕ → Flags → List Message → List Message
reflagged uid flags [] = []
reflagged uid flags (m ∷ ms) = if m.uid == uid then record m { flags = flags } ∷ ms else m ∷ reflagged uid flags ms

-- how many messages have a UID that passes
abbrev pub count_of : (ℕ → Bool) → List Message → ℕ
count_of test messages = length (filter test (uids_of messages))

-- the UIDs rise, a letter is at each position, and the counts are the messages'
pub record AreCounted (b : Inside) : Type 0 where
  pub rising : IsStrictlyIncreasing b.uids.items
  pub beside : length b.letters.items ≡ length b.uids.items
  pub count : b.count ≡ length (messages_of (filed b.uids.items b.letters.items))
  pub unseen : b.unseen ≡ unseen_count (messages_of (filed b.uids.items b.letters.items))
  pub bytes : b.bytes ≡ bytes_in_all (messages_of (filed b.uids.items b.letters.items))
  pub small : All (λ (m : Message). length m.text.bytes ≤ 0xffff_ffff_ffff_ffff) (messages_of (filed b.uids.items b.letters.items))
