-- What a relay reads of the replies of worked cases.
use Rattle.std.specs.Prelude.{◌≡◌, ℕ, true, false, List, [], ◌∷◌, ◌++◌, codes}
use Rattle.std.proofs.Common.{refl}
use Rattle.lmtp_machine.specs.declared.reply.Reply.TheVariants.{Greeting, Extensions, SenderOk}
use Rattle.lmtp_machine.specs.Dialogue.{wire}
use Rattle.laws_relay.specs.Handed.{is_code, replies_of, IsInLine}

-- up to the reply to MAIL: that to LHLO has four lines, and is one reply
abbrev pub begun : List ℕ
begun = codes "220 mx.example.org LMTP ready\r\n250-mx.example.org\r\n250-PIPELINING\r\n250-ENHANCEDSTATUSCODES\r\n250 8BITMIME\r\n250 2.1.0 Sender OK\r\n"

abbrev pub begun_read : List (List ℕ)
begun_read = codes "220 mx.example.org LMTP ready" ∷ codes "250 8BITMIME" ∷ codes "250 2.1.0 Sender OK" ∷ []

-- two recipients, of whom one is unknown
one_unknown : replies_of (begun ++ codes "250 2.1.5 Recipient OK\r\n550 5.1.1 Mailbox unknown\r\n354 Start mail input\r\n250 2.1.5 Delivered\r\n")
    ≡ begun_read ++ codes "250 2.1.5 Recipient OK" ∷ codes "550 5.1.1 Mailbox unknown" ∷ codes "354 Start mail input" ∷ codes "250 2.1.5 Delivered" ∷ []
one_unknown = refl

-- the same mailbox twice: each recipient has a reply of its own
twice : replies_of (codes "354 Start mail input\r\n250 2.1.5 Delivered\r\n250 2.1.5 Delivered\r\n")
    ≡ codes "354 Start mail input" ∷ codes "250 2.1.5 Delivered" ∷ codes "250 2.1.5 Delivered" ∷ []
twice = refl

-- the last reply didn't come whole, so it is none: not by its digits, and not by its last CR
cut_short : replies_of (begun ++ codes "250 2.1.5 Deliv") ≡ begun_read
cut_short = refl

without_its_lf : replies_of (begun ++ codes "250 2.1.5 Delivered\r") ≡ begun_read
without_its_lf = refl

-- and a reply of which only the first lines came is none either
within_the_extensions : replies_of (codes "220 mx.example.org LMTP ready\r\n250-mx.example.org\r\n250-PIPELINING\r\n") ≡ codes "220 mx.example.org LMTP ready" ∷ []
within_the_extensions = refl

-- by the code alone
stored : is_code (codes "250") (codes "250 2.1.5 Delivered") ≡ true
stored = refl

mailbox_full : is_code (codes "250") (codes "452 4.2.2 Mailbox full") ≡ false
mailbox_full = refl

no_digits : is_code (codes "250") (codes "25") ≡ false
no_digits = refl

-- a name that servers have
a_name : IsInLine (codes "mx.example.org")
a_name = refl

-- these are the bytes that a server of this name writes
written : wire (codes "mx.example.org") (Greeting ∷ Extensions ∷ SenderOk ∷ []) ≡ begun
written = refl
