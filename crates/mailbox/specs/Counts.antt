-- What STATUS counts (RFC 9051, 6.3.11).
use Rattle.std.specs.Prelude.{ℕ, not, List, length, count_by, sum_by}
use Rattle.mailbox.specs.Mailbox.{Message}

-- the messages without \Seen
abbrev pub unseen_count : List Message → ℕ
unseen_count messages = count_by (λ m. not m.flags.seen) messages

-- the messages with \Deleted
abbrev pub deleted_count : List Message → ℕ
deleted_count messages = count_by (λ m. m.flags.deleted) messages

-- the bytes of all texts
abbrev pub bytes_in_all : List Message → ℕ
bytes_in_all messages = sum_by (λ m. length m.text.bytes) messages
