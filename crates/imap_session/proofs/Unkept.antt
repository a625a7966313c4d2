-- What a session does in place of waiting where memory is refused to it: it tells that, it drops the bytes of its literal, or it ends.
use Rattle.std.proofs.Common.{ℕ, zero, suc, Bool, true, false, length, List, [], Option, Some, None}
use Rattle.std.specs.Prelude.{nat_lt, if◌then◌else◌}
use Rattle.mailbox.specs.declared.clients.MailFault.TheVariants.{NoMemory}
use Rattle.imap_session.specs.Exchange.{Asked, Dropped, ForDone, ForLiteral, ForNothing, ForVerdict, Purpose, Standing, Turn, Unasked, Waiting, bye, most_in_place, nameless, refused, unkept, waits_so}
use Rattle.imap_session.specs.declared.texts.ResponseText.TheVariants as texts
use Rattle.imap_session.specs.Texts.{response_text}

if_long : (P : Option Turn → Type 0) → P None → (long : Bool) (turn : Turn) → P (Some turn) → P (if long then Some turn else None)
if_long P none true turn p = p
if_long P none false turn p = none

-- what holds of each of these, and of nothing, holds of what it does
pub unkept_by : (P : Option Turn → Type 0) → P None → (tag : List ℕ) (now : Standing) → P (Some (refused tag now NoMemory))
    → ((purpose : Purpose) (size : ℕ) → P (Some (waits_so tag [] (ForLiteral Dropped purpose size) now)))
    → P (Some (waits_so tag (bye (response_text texts.ByeOutOfMemory)) ForNothing now)) → (waits : Waiting) (n : ℕ) → P (unkept tag waits now n)
unkept_by P none tag now told dropped ended ForDone zero = if_long P none (nat_lt most_in_place (length tag)) (refused tag now NoMemory) told
unkept_by P none tag now told dropped ended ForDone (suc n) = none
unkept_by P none tag now told dropped ended (ForLiteral Asked purpose size) zero = if_long P none (nat_lt most_in_place (length tag)) (refused tag now NoMemory) told
unkept_by P none tag now told dropped ended (ForLiteral Asked purpose size) (suc n) = none
unkept_by P none tag now told dropped ended (ForLiteral Unasked purpose size) zero = dropped (nameless purpose) size
unkept_by P none tag now told dropped ended (ForLiteral Unasked purpose size) (suc zero) =
    if_long P none (nat_lt most_in_place (length tag)) (waits_so tag (bye (response_text texts.ByeOutOfMemory)) ForNothing now) ended
unkept_by P none tag now told dropped ended (ForLiteral Unasked purpose size) (suc (suc n)) = none
unkept_by P none tag now told dropped ended (ForLiteral Dropped purpose size) zero = none
unkept_by P none tag now told dropped ended (ForLiteral Dropped purpose size) (suc n) = none
unkept_by P none tag now told dropped ended (ForVerdict origin mailbox flags text) zero = none
unkept_by P none tag now told dropped ended (ForVerdict origin mailbox flags text) (suc n) = none
unkept_by P none tag now told dropped ended ForNothing zero = none
unkept_by P none tag now told dropped ended ForNothing (suc n) = none
