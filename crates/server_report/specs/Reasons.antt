-- Why copies were refused: the words, and how often.
use Rattle.std.specs.Prelude.{ℕ, List, [], ◌∷◌, codes}
use Rattle.delivery_token.specs.declared.Refusal.{Refusal}
use Rattle.delivery_token.specs.declared.Refusal.TheVariants.{Full, MailboxFull, NoMemory, UidSpent, Shut}
use Rattle.server_report.specs.declared.counts.Refused.{Refused}

-- the order in which they are told
abbrev pub reasons : List Refusal
reasons = MailboxFull ∷ Full ∷ Shut ∷ UidSpent ∷ NoMemory ∷ []

abbrev pub reason_words : Refusal → List ℕ
reason_words MailboxFull = codes "mailbox full"
reason_words Full = codes "shard full"
reason_words Shut = codes "shard closed"
reason_words UidSpent = codes "UIDs spent"
reason_words NoMemory = codes "no memory"

abbrev pub count_for : Refused → Refusal → ℕ
count_for refused MailboxFull = refused.mailbox_full
count_for refused Full = refused.shard_full
count_for refused Shut = refused.shard_closed
count_for refused UidSpent = refused.uids_spent
count_for refused NoMemory = refused.no_memory
