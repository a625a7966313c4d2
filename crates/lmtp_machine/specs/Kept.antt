-- What every dialogue keeps: how many recipients there may be, which mailboxes they are, and how messages are numbered. Of the directory
-- only counts how many mailboxes it has: which of its shards are shut may change while a dialogue lasts.
use Rattle.std.specs.Prelude.{◌≡◌, ℕ, List, [], ◌∷◌, ◌+◌, ◌<◌, ◌≤◌, length, All}
use Rattle.lmtp_machine.specs.Dialogue.{Phase, Start, Ready, Transaction, Data, Waiting, Ended, Standing, Setting, Submission, last_number, keys_from}

-- the accepted recipients of a transaction: at most 100, each one of so many mailboxes
pub record AreAccepted (mailboxes : ℕ) (recipients : List ℕ) : Type 0 where
  pub most : length recipients ≤ 100
  pub each : All (λ mailbox. mailbox < mailboxes) recipients

-- In a transaction and in data another message may be submitted, and data has a recipient.
abbrev pub IsKeptAt : ℕ → Phase → ℕ → Type 0
IsKeptAt mailboxes Start n = n ≤ last_number
IsKeptAt mailboxes Ready n = n ≤ last_number
IsKeptAt mailboxes (Transaction sender recipients) n = AreAccepted mailboxes recipients × (n < last_number)
IsKeptAt mailboxes (Data sender recipients lines) n = AreAccepted mailboxes recipients × (0 < length recipients) × (n < last_number)
IsKeptAt mailboxes (Waiting count) n = (0 < count) × (count ≤ 100) × (n ≤ last_number)
IsKeptAt mailboxes Ended n = n ≤ last_number

-- a standing to which a dialogue may come
pub record Kept (mailboxes : ℕ) (standing : Standing) : Type 0 where
  pub here : IsKeptAt mailboxes standing.phase standing.submitted

-- the submission of the connection's message of this number
pub record IsMessage (setting : Setting) (mailboxes : ℕ) (number : ℕ) (submission : Submission) : Type 0 where
  pub keys : submission.keys ≡ keys_from setting number 0 submission.mailboxes
  pub some : 0 < length submission.keys
  pub most : length submission.keys ≤ 100
  pub as_many : length submission.mailboxes ≡ length submission.keys
  pub each : All (λ mailbox. mailbox < mailboxes) submission.mailboxes
  pub number_fits : number < last_number

module _ (setting : Setting) (mailboxes : ℕ) where
  -- the submissions are the messages from the first number on, up to the next number, which is that of none of them
  abbrev pub AreMessages : ℕ → List Submission → ℕ → Type 0
  AreMessages first [] next = first ≡ next
  AreMessages first (submission ∷ submissions) next =
      IsMessage setting mailboxes first submission × AreMessages (first + 1) submissions next

-- the same as a record, for those who have the submissions as one of their values
pub record Numbered (setting : Setting) (mailboxes : ℕ) (before : Standing) (submissions : List Submission) (after : Standing) : Type 0 where
  pub are : AreMessages setting mailboxes before.submitted submissions after.submitted
  pub never_falls : before.submitted ≤ after.submitted

-- a turn from one standing keeps to all this
pub record KeptAfter (setting : Setting) (mailboxes : ℕ) (before : Standing) (submissions : List Submission) (after : Standing) : Type 0 where
  pub kept : Kept mailboxes after
  pub numbered : Numbered setting mailboxes before submissions after
