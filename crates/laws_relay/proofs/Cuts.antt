-- How replies are cut.
use Rattle.std.proofs.Common.{◌≡◌, ℕ, Bool, true, false, ◌&&◌, ◌==◌, List, [], ◌∷◌, ◌++◌, refl, ap, sym, ◌∙◌, append_assoc}
use Rattle.std.specs.Prelude.{All, codes, map, not, flat_map}
use Rattle.std.specs.List.{list_all}
use Rattle.std.proofs.lemmas.Bool.{false≢true}
use Rattle.std.proofs.lemmas.List.{append-nil}
use Rattle.std.proofs.lemmas.List.Elements.{All-append, All-cons, All-nil}
use Rattle.std.proofs.lemmas.List.Folds.{list_all-append}
use Rattle.line_io.specs.Wire.{IsUncut, crlf, joined}
use Rattle.line_io.specs.inner.WireLaws.{wire_joined}
use Rattle.lmtp_machine.specs.declared.reply.Reply.{Reply}
use Rattle.lmtp_machine.specs.declared.reply.Reply.TheVariants.{Greeting, LineTooLong, CommandUnknown, NotImplemented, BadClientName, InvalidArguments, PathTooLong, ParameterUnknown, BadSequence, Extensions, SenderOk, DomainUnknown, MailboxUnknown, TooManyRecipients, RecipientOk, StartInput, Okay, CannotVerify, Bye, ShuttingDown, Delivered, ShardFull, ShardClosed, MailboxFull, OutOfMemory, NoUidLeft, MessageTooBig, NulByte}
use Rattle.lmtp_machine.specs.Dialogue.{reply_text, wire}
use Rattle.laws_relay.specs.Handed.{last_lines, replies_of, IsInLine}
use Rattle.laws_relay.specs.ReplyLaws.{last_line}

abbrev pub is_inner : ℕ → Bool
is_inner b = not (b == 10)

no_end : (b : Bool) → (b && false) ≡ true → ⊥
no_end true e = false≢true e
no_end false e = false≢true e

-- text with no LF is within a line
pub is_uncut : (text : List ℕ) → list_all is_inner text ≡ true → IsUncut text
is_uncut text inner (front, back, e) = no_end (list_all is_inner front) (sym (list_all-append is_inner front (13 ∷ 10 ∷ back)) ∙ sym (ap (list_all is_inner) e) ∙ inner)

-- ---- the lines of a reply

abbrev pub lines_of : List ℕ → Reply → List (List ℕ)
lines_of host Extensions = (codes "250-" ++ host) ∷ codes "250-PIPELINING" ∷ codes "250-ENHANCEDSTATUSCODES" ∷ codes "250 8BITMIME" ∷ []
lines_of host reply = reply_text host reply ∷ []

pub around : (front host back : List ℕ) → list_all is_inner front ≡ true → list_all is_inner host ≡ true → list_all is_inner back ≡ true → list_all is_inner (front ++ (host ++ back)) ≡ true
around front host back f h b = list_all-append is_inner front (host ++ back) ∙ rw (list_all-append is_inner host back, f, h, b) refl

one_uncut : (line : List ℕ) → list_all is_inner line ≡ true → All IsUncut (line ∷ [])
one_uncut line inner = All-cons IsUncut line [] (is_uncut line inner) (All-nil IsUncut)

all_behind : (h a b c d e f : List ℕ) → h ++ (a ++ (b ++ (c ++ (d ++ (e ++ f))))) ≡ h ++ a ++ b ++ c ++ d ++ e ++ f
all_behind h a b c d e f = simp append_assoc refl

lines_uncut : (host : List ℕ) (reply : Reply) → IsInLine host → All IsUncut (lines_of host reply)
lines_uncut host Greeting h = one_uncut (reply_text host Greeting) (around (codes "220 ") host (codes " LMTP ready") refl h refl)
lines_uncut host LineTooLong h = one_uncut (reply_text host LineTooLong) refl
lines_uncut host CommandUnknown h = one_uncut (reply_text host CommandUnknown) refl
lines_uncut host NotImplemented h = one_uncut (reply_text host NotImplemented) refl
lines_uncut host BadClientName h = one_uncut (reply_text host BadClientName) refl
lines_uncut host InvalidArguments h = one_uncut (reply_text host InvalidArguments) refl
lines_uncut host PathTooLong h = one_uncut (reply_text host PathTooLong) refl
lines_uncut host ParameterUnknown h = one_uncut (reply_text host ParameterUnknown) refl
lines_uncut host BadSequence h = one_uncut (reply_text host BadSequence) refl
lines_uncut host Extensions h =
    All-append IsUncut ((codes "250-" ++ host) ∷ []) (codes "250-PIPELINING" ∷ codes "250-ENHANCEDSTATUSCODES" ∷ codes "250 8BITMIME" ∷ []) (one_uncut (codes "250-" ++ host) (list_all-append is_inner (codes "250-") host ∙ h))
    (All-append IsUncut (codes "250-PIPELINING" ∷ []) (codes "250-ENHANCEDSTATUSCODES" ∷ codes "250 8BITMIME" ∷ []) (one_uncut (codes "250-PIPELINING") refl)
    (All-append IsUncut (codes "250-ENHANCEDSTATUSCODES" ∷ []) (codes "250 8BITMIME" ∷ []) (one_uncut (codes "250-ENHANCEDSTATUSCODES") refl) (one_uncut (codes "250 8BITMIME") refl)))
lines_uncut host SenderOk h = one_uncut (reply_text host SenderOk) refl
lines_uncut host DomainUnknown h = one_uncut (reply_text host DomainUnknown) refl
lines_uncut host MailboxUnknown h = one_uncut (reply_text host MailboxUnknown) refl
lines_uncut host TooManyRecipients h = one_uncut (reply_text host TooManyRecipients) refl
lines_uncut host RecipientOk h = one_uncut (reply_text host RecipientOk) refl
lines_uncut host StartInput h = one_uncut (reply_text host StartInput) refl
lines_uncut host Okay h = one_uncut (reply_text host Okay) refl
lines_uncut host CannotVerify h = one_uncut (reply_text host CannotVerify) refl
lines_uncut host Bye h = one_uncut (reply_text host Bye) refl
lines_uncut host ShuttingDown h = one_uncut (reply_text host ShuttingDown) refl
lines_uncut host Delivered h = one_uncut (reply_text host Delivered) refl
lines_uncut host ShardFull h = one_uncut (reply_text host ShardFull) refl
lines_uncut host ShardClosed h = one_uncut (reply_text host ShardClosed) refl
lines_uncut host MailboxFull h = one_uncut (reply_text host MailboxFull) refl
lines_uncut host OutOfMemory h = one_uncut (reply_text host OutOfMemory) refl
lines_uncut host NoUidLeft h = one_uncut (reply_text host NoUidLeft) refl
lines_uncut host MessageTooBig h = one_uncut (reply_text host MessageTooBig) refl
lines_uncut host NulByte h = one_uncut (reply_text host NulByte) refl

-- they are its text
lines_joined : (host : List ℕ) (reply : Reply) → joined (lines_of host reply) ≡ reply_text host reply ++ crlf
lines_joined host Greeting = append-nil (reply_text host Greeting ++ crlf)
lines_joined host Extensions = all_behind (codes "250-" ++ host ++ crlf) (codes "250-PIPELINING") crlf (codes "250-ENHANCEDSTATUSCODES") crlf (codes "250 8BITMIME") crlf
lines_joined host _ = refl

-- and its last line is what is read of it
last_read : (host : List ℕ) (reply : Reply) (rest : List (List ℕ)) → last_lines (lines_of host reply ++ rest) ≡ last_line host reply ∷ last_lines rest
last_read host Greeting rest = refl
last_read host _ rest = refl

-- ---- all replies

abbrev pub all_lines : List ℕ → List Reply → List (List ℕ)
all_lines host replies = flat_map (lines_of host) replies

pub all_uncut : (host : List ℕ) (replies : List Reply) → IsInLine host → All IsUncut (all_lines host replies)
all_uncut host [] h = All-nil IsUncut
all_uncut host (reply ∷ replies) h = All-append IsUncut (lines_of host reply) (all_lines host replies) (lines_uncut host reply h) (all_uncut host replies h)

joined-append : (xs ys : List (List ℕ)) → joined (xs ++ ys) ≡ joined xs ++ joined ys
joined-append [] ys = refl
joined-append (x ∷ xs) ys = ap (λ (l : List ℕ). (x ++ crlf) ++ l) (joined-append xs ys) ∙ sym (append_assoc (x ++ crlf) (joined xs) (joined ys))

pub all_joined : (host : List ℕ) (replies : List Reply) → joined (all_lines host replies) ≡ wire host replies
all_joined host [] = refl
all_joined host (reply ∷ replies) = joined-append (lines_of host reply) (all_lines host replies) ∙ ap (λ (l : List ℕ). l ++ joined (all_lines host replies)) (lines_joined host reply)
    ∙ ap (λ (l : List ℕ). (reply_text host reply ++ crlf) ++ l) (all_joined host replies)

all_read : (host : List ℕ) (replies : List Reply) → last_lines (all_lines host replies) ≡ map (last_line host) replies
all_read host [] = refl
all_read host (reply ∷ replies) = last_read host reply (all_lines host replies) ∙ ap (λ (l : List (List ℕ)). last_line host reply ∷ l) (all_read host replies)

pub replies_are_read : (host : List ℕ) (replies : List Reply) → IsInLine host → replies_of (wire host replies) ≡ map (last_line host) replies
replies_are_read host replies h =
    ap replies_of (sym (all_joined host replies))
    ∙ ap last_lines (wire_joined (all_lines host replies) (all_uncut host replies h)).0
    ∙ all_read host replies
