-- What is spoken in a house, as far as exactly-once delivery looks at it: the dialogue of its connections, as LMTP is one, and that of its sessions,
-- as IMAP is one.
use Rattle.std.specs.Prelude.{◌≡◌, ◌≢◌, ◌⊎◌, ℕ, ◌+◌, List, [], ◌∷◌, length, map, flat_map, Bool, Option}
use Rattle.delivery_token.specs.declared.Verdict.{Verdict}
use Rattle.envelope.specs.Names.{Directory}
use Rattle.lmtp_machine.specs.declared.connection.What.{What}
use Rattle.lmtp_machine.specs.Dialogue.{Setting, Submission, keys_from}
use Rattle.change_ring.specs.declared.change.Flags.{Flags}
use Rattle.delivery_token.specs.Text.{Text}

-- what happens to a dialogue, but for bytes: it is opened, or each verdict on the message at hand is known
pub data Occasion : Type 0 where
  Opened : Occasion
  Answered : List Verdict → Occasion

pub record Speech : Type 1 where
  -- where a dialogue stands, and what a turn leads to: it says replies, and submits messages
  pub At : Type 0
  pub Turn : Type 0
  pub Reply : Type 0
  pub replies : Turn → List Reply
  pub submissions : Turn → List Submission
  -- a reply of a host of this name, as it stands on the wire; the reply that tells a verdict, and what that is where the copy was delivered
  pub text : (host : List ℕ) → Reply → List ℕ
  pub telling : Verdict → Reply
  pub delivered : Reply
  -- taking these bytes leads from the one standing to the other, by this turn; and what is told of a turn
  pub Leads : Setting → Directory → At → (taken : List ℕ) → Turn → At → Type 0
  pub Tells : What → Turn → Type 0
  -- where it stands at first, and what an occasion leads to and says
  pub opened : At
  pub moved : Setting → Directory → At → Occasion → At
  pub said : Setting → Directory → At → Occasion → List Reply
  -- how many messages were submitted, and what every dialogue keeps, where there are so many mailboxes
  pub count : At → ℕ
  pub Kept : (mailboxes : ℕ) → At → Type 0

-- the messages are numbered from the first on, up to the next, which is that of none of them; their keys say so
abbrev pub AreNumbered : Setting → (first : ℕ) → List Submission → (next : ℕ) → Type 0
AreNumbered setting first [] next = first ≡ next
AreNumbered setting first (s ∷ ss) next = (s.keys ≡ keys_from setting first 0 s.mailboxes) × AreNumbered setting (first + 1) ss next

module _ (speech : Speech) where
  -- replies as they stand on the wire
  abbrev pub wire : (host : List ℕ) → List speech.Reply → List ℕ
  wire host replies = flat_map (λ reply. speech.text host reply) replies

  -- no reply of these says that a copy was delivered
  abbrev pub AreQuiet : List speech.Reply → Type 0
  AreQuiet [] = Unit {0}
  AreQuiet (reply ∷ replies) = (reply ≢ speech.delivered) × AreQuiet replies

  -- All that is asked of a dialogue: only to verdicts it says that a copy was delivered; it says none of them, or each in its order; and it numbers
  -- its messages.
  pub record IsSpeech : Type 0 where
    pub greets : (setting : Setting) (directory : Directory) → AreQuiet (speech.said setting directory speech.opened Opened)
        × speech.Kept (length directory.homes) (speech.moved setting directory speech.opened Opened)
        × (speech.count (speech.moved setting directory speech.opened Opened) ≡ 0)
    pub talks : (setting : Setting) (directory : Directory) (before : speech.At) (taken : List ℕ) (turn : speech.Turn) (after : speech.At)
        → speech.Leads setting directory before taken turn after → speech.Kept (length directory.homes) before
        → AreQuiet (speech.replies turn) × speech.Kept (length directory.homes) after
        × AreNumbered setting (speech.count before) (speech.submissions turn) (speech.count after)
    pub answers : (setting : Setting) (directory : Directory) (at : speech.At) (verdicts : List Verdict) → speech.Kept (length directory.homes) at
        → ((speech.said setting directory at (Answered verdicts) ≡ [])
        ⊎ (speech.said setting directory at (Answered verdicts) ≡ map speech.telling verdicts))
        × speech.Kept (length directory.homes) (speech.moved setting directory at (Answered verdicts))
        × (speech.count (speech.moved setting directory at (Answered verdicts)) ≡ speech.count at)

-- ---- a dialogue of sessions

pub record Guest : Type 1 where
  -- where a session stands; whether it has ended, or idles
  pub At : Type 0
  pub ended : At → Bool
  pub idling : At → Bool
  -- how a user's session comes in, where it stands then, and what greets it
  pub Coming : Type 0
  pub comes : Directory → (compatible : Bool) → (max_message : ℕ) → (user : List ℕ) → Coming
  pub opened : Coming → At
  pub greeting : Coming → List ℕ
  -- the message that it submitted, whose verdict it awaits
  pub Sent : Type 0
  pub sent : At → Option Sent
  pub message : Sent → ℕ
  pub mailbox : Sent → ℕ
  pub text : Sent → Text
  pub flags : Sent → Flags
  -- what it asks of a store, and what that answers; by the last call it leaves the mailbox that it had entered
  pub Call : Type 0
  pub Answer : Type 0
  pub leave : Call
  -- Over any store this was said: some of the bytes that waited were answered, and these wait still; the verdict was, behind which it may await
  -- another; and it had a turn while it idles, which showed so many changes.
  pub After : Type 0
  pub Answers : {S : Type 0} → (S → Call → Answer → S → Type 0) → At → (waits : List ℕ) → S → S → At → (still said : List ℕ) → Type 0
  pub Hears : {S : Type 0} → (S → Call → Answer → S → Type 0) → At → Verdict → S → S → (said : List ℕ) → After → At → Type 0
  pub Idles : {S : Type 0} → (S → Call → Answer → S → Type 0) → At → S → S → (shown : ℕ) → (said : List ℕ) → At → Type 0
  -- nothing of what waits may be answered
  pub HasAnswered : At → (waits : List ℕ) → Type 0
