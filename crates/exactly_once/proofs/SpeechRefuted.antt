-- Dialogues that are refused: what exactly-once delivery asks of those who talk to a house isn't so of them. Each is LMTP or IMAP but for one thing. Above each
-- stands what somebody would have seen.
use Rattle.std.proofs.Common.{◌≡◌, ◌⊎◌, ◌<◌, ◌≤◌, ℕ, suc, inl, inr, List, [], ◌∷◌, ◌++◌, length, map, take, reverse, refl, ap, arith}
use Rattle.std.proofs.lemmas.List.{length-append}
use Rattle.line_io.specs.Wire.{crlf}
use Rattle.delivery_token.specs.declared.Verdict.{Verdict}
use Rattle.delivery_token.specs.declared.Verdict.TheVariants.{Stored, Refused}
use Rattle.delivery_token.specs.declared.Refusal.TheVariants as refusals
use Rattle.envelope.specs.Names.{Directory}
use Rattle.lmtp_machine.specs.declared.reply.Reply.{Reply}
use Rattle.lmtp_machine.specs.declared.reply.Reply.TheVariants.{Delivered, OutOfMemory}
use Rattle.lmtp_machine.specs.Conversation.{Conversation}
use Rattle.lmtp_machine.specs.Dialogue.{Setting, Waiting}
use Rattle.lmtp_machine.specs.Kept.{Kept}
use Rattle.house_peers.specs.Speech.{IsSpeech, Speech}
use Rattle.house_peers.specs.Lmtp.{lmtp}
use Rattle.house.specs.LmtpAndImap.{lmtp_and_imap}
use Rattle.house.specs.Setup.{AreGuests, AreLines, Peers}

-- a connection that has submitted one message, whose verdicts it awaits
abbrev awaiting : (count : ℕ) → Conversation
awaiting count = record { standing = record { phase = Waiting count; submitted = 1 }; unfinished = [] }

awaits : (mailboxes count : ℕ) → 0 < count → count ≤ 100 → Kept mailboxes (awaiting count).standing
awaits mailboxes count some most = record { here = (some, most, omega arith) }

abbrev unheld : Verdict
unheld = Refused refusals.NoMemory

-- what is said to verdicts is neither nothing nor all of them
said_neither : (said told : List Reply) → (said ≡ []) ⊎ (said ≡ told) → 0 < length said → (length said ≡ length told → ⊥) → ⊥
said_neither said told (inl none) some other = let e : length said ≡ 0 = ap length none in omega (arith, e, some)
said_neither said told (inr all) some other = other (ap length all)

-- ---- connections

-- Each time that it says anything a connection says `250 2.1.5 Delivered` first: also as it is opened, where nothing was sent.
abbrev delivers_as_it_greets : Speech
delivers_as_it_greets = record lmtp { said = λ setting directory at occasion. Delivered ∷ lmtp.said setting directory at occasion }

no_delivery_is_a_greeting : (setting : Setting) (directory : Directory) → IsSpeech delivers_as_it_greets → ⊥
no_delivery_is_a_greeting setting directory asked = (asked.greets setting directory).0.0 refl

-- The first message that a connection submits is its second: two connections' copies may then have one key.
abbrev counts_ahead : Speech
counts_ahead = record lmtp { count = λ at. suc at.standing.submitted }

no_count_is_ahead : (setting : Setting) (directory : Directory) → IsSpeech counts_ahead → ⊥
no_count_is_ahead setting directory asked = let e : 1 ≡ 0 = (asked.greets setting directory).2 in omega (arith, e)

-- Each verdict is told twice: a reply too many, which a relay takes for the next recipient's.
abbrev tells_twice : Speech
tells_twice = record lmtp { said = λ setting directory at occasion. lmtp.said setting directory at occasion ++ lmtp.said setting directory at occasion }

no_verdict_is_told_twice : (setting : Setting) (directory : Directory) → IsSpeech tells_twice → ⊥
no_verdict_is_told_twice setting directory asked =
    let a = asked.answers setting directory (awaiting 1) (unheld ∷ []) (awaits (length directory.homes) 1 (omega arith) (omega arith)) in
    said_neither (OutOfMemory ∷ OutOfMemory ∷ []) (OutOfMemory ∷ []) a.0 (omega arith) (λ e. let x : 2 ≡ 1 = e in omega (arith, x))

-- Only the first verdict is told: a reply too few, and a relay waits.
abbrev tells_the_first : Speech
tells_the_first = record lmtp { said = λ setting directory at occasion. take 1 (lmtp.said setting directory at occasion) }

each_verdict_is_told : (setting : Setting) (directory : Directory) → IsSpeech tells_the_first → ⊥
each_verdict_is_told setting directory asked =
    let a = asked.answers setting directory (awaiting 2) (unheld ∷ unheld ∷ []) (awaits (length directory.homes) 2 (omega arith) (omega arith)) in
    said_neither (OutOfMemory ∷ []) (OutOfMemory ∷ OutOfMemory ∷ []) a.0 (omega arith) (λ e. let x : 1 ≡ 2 = e in omega (arith, x))

-- A copy that was refused is told as delivered: the relay lets go of it.
abbrev tells_all_as_delivered : Speech
tells_all_as_delivered = record lmtp { said = λ setting directory at occasion. map (λ reply. Delivered) (lmtp.said setting directory at occasion) }

delivered_or_not : (Delivered ∷ [] ≡ []) ⊎ (Delivered ∷ [] ≡ OutOfMemory ∷ []) → ⊥
delivered_or_not (inl none) = let e : 1 ≡ 0 = ap length none in omega (arith, e)
delivered_or_not (inr same) = let e : Delivered ∷ [] ≡ OutOfMemory ∷ [] = same in absurd cc

no_refusal_is_told_as_delivered : (setting : Setting) (directory : Directory) → IsSpeech tells_all_as_delivered → ⊥
no_refusal_is_told_as_delivered setting directory asked =
    delivered_or_not (asked.answers setting directory (awaiting 1) (unheld ∷ []) (awaits (length directory.homes) 1 (omega arith) (omega arith))).0

-- The last recipient's verdict is told first: the relay keeps the wrong copy.
abbrev tells_backwards : Speech
tells_backwards = record lmtp { said = λ setting directory at occasion. reverse (lmtp.said setting directory at occasion) }

backwards_or_not : (OutOfMemory ∷ Delivered ∷ [] ≡ []) ⊎ (OutOfMemory ∷ Delivered ∷ [] ≡ Delivered ∷ OutOfMemory ∷ []) → ⊥
backwards_or_not (inl none) = let e : 2 ≡ 0 = ap length none in omega (arith, e)
backwards_or_not (inr same) = let e : OutOfMemory ∷ Delivered ∷ [] ≡ Delivered ∷ OutOfMemory ∷ [] = same in absurd cc

no_verdicts_are_told_backwards : (setting : Setting) (directory : Directory) → IsSpeech tells_backwards → ⊥
no_verdicts_are_told_backwards setting directory asked =
    backwards_or_not (asked.answers setting directory (awaiting 2) (Stored 7 ∷ unheld ∷ []) (awaits (length directory.homes) 2 (omega arith) (omega arith))).0

-- ---- sessions

-- A session's greeting is one byte, and no line: what comes next is read as the rest of it.
abbrev greets_with_a_byte : Peers
greets_with_a_byte = record lmtp_and_imap { guest = record lmtp_and_imap.guest { greeting = λ coming. 42 ∷ [] } }

no_line : AreLines (42 ∷ []) → ⊥
no_line (inl none) = let e : 1 ≡ 0 = ap length none in omega (arith, e)
no_line (inr (front, is)) = let e : 1 ≡ length (front ++ crlf) = ap length is in let l = length-append front crlf in omega (arith, e, l)

no_greeting_is_half_a_line : (coming : lmtp_and_imap.guest.Coming) → AreGuests greets_with_a_byte → ⊥
no_greeting_is_half_a_line coming asked = no_line (asked.greets coming)
