-- How an answer ends that is said behind a literal, or to a line that is too long, or where a message is refused.
use Rattle.std.proofs.Common.{◌≡◌, inl, ℕ, Bool, true, false, List, [], refl, Option, Some, None, sym, subst, codes, inr, ◌∷◌}
use Rattle.std.specs.Prelude.{IfSome, nat_le, ◌==◌, if◌then◌else◌}
use Rattle.std.specs.List.{list_any}
use Rattle.delivery_token.specs.declared.Refusal.{Refusal}
use Rattle.delivery_token.specs.declared.Refusal.TheVariants as refusals
use Rattle.imap_session.specs.Exchange as ex
use Rattle.imap_session.specs.Exchange.{Asked, ForLiteral, bye, Answer, PendingLiteral, Exchange, ForVerdict, Mailing, Standing, played, Argument, Response, continuing, ForNothing, Unasked, Looked, Found, Refused, Call, Turn, having, Client}
use Rattle.imap_session.specs.Commands.{is_over, last_number, long_rest_text, long_text, nowhere, on_found, on_rest, on_text, over, refused_text, says, turn_of_long_line, wanting, flags_for, date_for, mailbox_for}
use Rattle.laws_client.proofs.IdleTags.{AreTagsOf}
use Rattle.laws_client.proofs.LastLines.{bye_apart, plus_apart, untagged_apart, Apart, IsWord, SaysApart, Spares, TurnFine, fine, fine_wait, fine_wanting, played_apart, star_apart, tagged_apart, refused_apart}
use Rattle.imap_session.specs.declared.texts.ResponseText.{ResponseText}
use Rattle.imap_session.specs.declared.texts.ResponseText.TheVariants as texts
use Rattle.imap_session.specs.Texts.{response_text}
use Rattle.laws_client.proofs.TextRows.{behind}
use Rattle.std.proofs.lemmas.Bool.{false≢true}
use Rattle.imap_session.proofs.Parts.{IsPart, tells_part, ends_part, asks_part, comes_part, challenge_part, is_told}
use Rattle.std.specs.Option.{option_map}
use Rattle.mailbox.specs.declared.clients.Row.{Row}
use Rattle.imap_grammar.specs.declared.set.SeqRange.{SeqRange}

-- an exchange that ends so, whatever its tag
abbrev pub EndsFine : (List ℕ → Bool) → Exchange → Type 0
EndsFine tells x = (tag : List ℕ) → IsWord tag → (now : Standing) (answers : List Answer) → TurnFine tells (played tag now x answers)

pub says_fine : (tells : List ℕ → Bool) → Spares tells → (x : Exchange) → SaysApart tells x → EndsFine tells x
says_fine tells spares x p tag t now answers = fine tells (played tag now x answers) (played_apart tells spares tag t now x answers p)

pub either_fine : (tells : List ℕ → Bool) (b : Bool) (x y : Exchange) → EndsFine tells x → EndsFine tells y → EndsFine tells (if b then x else y)
either_fine tells true x y p q = p
either_fine tells false x y p q = q

found_fine : {A : Type 0} (tells : List ℕ → Bool) (next : A → Exchange) (gone : Exchange) → ((a : A) → EndsFine tells (next a)) → EndsFine tells gone → (found : Option A) → EndsFine tells (on_found next gone found)
found_fine tells next gone p q None = q
found_fine tells next gone p q (Some a) = p a

-- a call that was answered
having_fine : (tells : List ℕ → Bool) (call : Call) (answer : Answer) (o : Option Turn) → TurnFine tells o
    → TurnFine tells (option_map (having call answer) o)
having_fine tells call answer None p = tt
having_fine tells call answer (Some turn) p = p

-- a set is looked up, and a message is read
pub look_fine : (tells : List ℕ → Bool) → Spares tells → (by_uid : Bool) (set : List SeqRange) (next : List ℕ → Exchange)
    → ((view : List ℕ) → EndsFine tells (next view))
    → EndsFine tells (ex.Look by_uid set next)
look_fine tells spares by_uid set next p tag t now [] = tt
look_fine tells spares by_uid set next p tag t now (Looked view ∷ more) =
    having_fine tells (ex.Look by_uid set) (Looked view) (played tag now (next view) more) (p view tag t now more)
look_fine tells spares by_uid set next p tag t now (Refused fault ∷ []) = inr (refused_apart tells spares tag t now fault)
look_fine tells spares by_uid set next p tag t now (_ ∷ more) = tt

pub row_fine : (tells : List ℕ → Bool) → Spares tells → (uid : ℕ) (mark : Bool) (next : Option Row → Exchange)
    → ((row : Option Row) → EndsFine tells (next row))
    → EndsFine tells (ex.Read uid mark next)
row_fine tells spares uid mark next p tag t now [] = tt
row_fine tells spares uid mark next p tag t now (Found row ∷ more) =
    having_fine tells (ex.Read uid mark) (Found row) (played tag now (next row) more) (p row tag t now more)
row_fine tells spares uid mark next p tag t now (Refused fault ∷ []) = inr (refused_apart tells spares tag t now fault)
row_fine tells spares uid mark next p tag t now (_ ∷ more) = tt

over_apart : (tells : List ℕ → Bool) → Spares tells → (most : Option ℕ) → SaysApart tells (over most)
over_apart tells spares None = (refl, spares.no (behind 3 texts.NotOffered))
over_apart tells spares (Some most) = (refl, spares.no (behind 3 texts.MessageTooBig))

-- ---- behind a literal

text_fine : (tells : List ℕ → Bool) → Spares tells → (mailing : Mailing) (a : PendingLiteral) (text : List ℕ) (mailbox : ℕ) → EndsFine tells (on_text mailing a text mailbox)
text_fine tells spares mailing a text mailbox =
    either_fine tells (is_over mailing.most a.size) (over mailing.most) _ (says_fine tells spares (over mailing.most) (over_apart tells spares mailing.most))
    (either_fine tells (list_any (λ b. b == 0) text) (says (response_text texts.NulByte)) _ (says_fine tells spares (says (response_text texts.NulByte)) (refl, spares.no (behind 3 texts.NulByte)))
    (either_fine tells (nat_le last_number mailing.number) (says (response_text texts.MailboxSpent)) (wanting (ex.Wait [] (ForVerdict Client mailbox (flags_for a.purpose) (record { bytes = text; date = date_for a.purpose }))))
    (says_fine tells spares (says (response_text texts.MailboxSpent)) (refl, spares.no (behind 3 texts.MailboxSpent)))
    (λ tag t now answers. fine_wanting tells spares tag t now (ex.Wait [] (ForVerdict Client mailbox (flags_for a.purpose) (record { bytes = text; date = date_for a.purpose }))) (fine_wait tells spares tag t now (ForVerdict Client mailbox (flags_for a.purpose) (record { bytes = text; date = date_for a.purpose }))) answers)))

pub rest_fine : (tells : List ℕ → Bool) → Spares tells → (mailing : Mailing) (a : PendingLiteral) (empty : Bool) → EndsFine tells (on_rest mailing a empty)
rest_fine tells spares mailing a empty =
    found_fine tells (λ text. if empty then on_found (on_text mailing a text) nowhere (mailbox_for a.purpose) else says (response_text texts.InvalidArguments)) (says (response_text texts.OutOfMemory))
    (λ (text : List ℕ). either_fine tells empty (on_found (on_text mailing a text) nowhere (mailbox_for a.purpose)) (says (response_text texts.InvalidArguments))
    (found_fine tells (on_text mailing a text) nowhere (text_fine tells spares mailing a text) (says_fine tells spares nowhere (refl, spares.no (behind 3 texts.TryCreate))) (mailbox_for a.purpose))
    (says_fine tells spares (says (response_text texts.InvalidArguments)) (refl, spares.bad (behind 4 texts.InvalidArguments))))
    (says_fine tells spares (says (response_text texts.OutOfMemory)) (refl, spares.no (behind 3 texts.OutOfMemory))) a.text

-- ---- a line that isn't whole yet, or is given up

told_words : (tells : List ℕ → Bool) → Spares tells → (text : ResponseText) → is_told text ≡ true → SaysApart tells (says (response_text text))
told_words tells spares texts.LineTooLong h = (refl, spares.bad (behind 4 texts.LineTooLong))
told_words tells spares texts.OutOfMemory h = (refl, spares.no (behind 3 texts.OutOfMemory))
told_words tells spares _ h = absurd (false≢true h)

challenge_apart : (tells : List ℕ → Bool) → Apart tells (continuing [])
challenge_apart tells = untagged_apart tells 43 (codes " ") refl refl

pub part_fine : (tells : List ℕ → Bool) → Spares tells → (x : Exchange) → IsPart x → EndsFine tells x
part_fine tells spares x (tells_part text h e) = subst (EndsFine tells) (sym e) (says_fine tells spares (says (response_text text)) (told_words tells spares text h))
part_fine tells spares x (ends_part text h e) = subst (EndsFine tells) (sym e) (says_fine tells spares (ex.Wait (bye (response_text text)) ForNothing) (bye_apart tells text, tt))
part_fine tells spares x (asks_part line size e) =
    subst (EndsFine tells) (sym e) (says_fine tells spares (wanting (ex.Wait (continuing (response_text texts.Ready)) (ForLiteral Asked (Argument line) size))) (inl refl, (plus_apart tells texts.Ready, tt)))
part_fine tells spares x (comes_part line size e) = subst (EndsFine tells) (sym e) (λ tag t now answers. fine_wait tells spares tag t now (ForLiteral Unasked (Argument line) size) answers)
part_fine tells spares x (challenge_part line e) =
    subst (EndsFine tells) (sym e) (says_fine tells spares (wanting (ex.Wait (continuing []) (ForLiteral Asked (Response line) 0))) (inl refl, (challenge_apart tells, tt)))

-- ---- a line that is too long

rest_words : (tells : List ℕ → Bool) → Spares tells → (text : Option (List ℕ)) → SaysApart tells (says (response_text (long_rest_text text)))
rest_words tells spares None = (refl, spares.no (behind 3 texts.OutOfMemory))
rest_words tells spares (Some text) = (refl, spares.bad (behind 4 texts.InvalidArguments))

long_apart : (tells : List ℕ → Bool) → Spares tells → (begun : Option PendingLiteral) (idling : Option (List ℕ)) → IfSome begun (λ (a : PendingLiteral). IsWord a.tag) → IfSome idling IsWord → Apart tells (long_text begun idling)
long_apart tells spares None None t s = star_apart tells texts.LineTooLong
long_apart tells spares None (Some tag) t s = tagged_apart tells tag (response_text texts.ExpectedDone) s refl (spares.bad (behind 4 texts.ExpectedDone))
long_apart tells spares (Some a) idling t s = let w = rest_words tells spares a.text in tagged_apart tells a.tag (response_text (long_rest_text a.text)) t w.0 w.1

pub long_line_apart : (tells : List ℕ → Bool) → Spares tells → (now : Standing) → AreTagsOf IsWord now → Apart tells (turn_of_long_line now).bytes
long_line_apart tells spares now k = long_apart tells spares now.mailing.begun now.idling k.1 k.0

-- ---- a message that was refused

reason_apart : (tells : List ℕ → Bool) → Spares tells → (why : Refusal) → SaysApart tells (says (response_text (refused_text why)))
reason_apart tells spares refusals.Full = (refl, spares.no (behind 3 texts.ShardFull))
reason_apart tells spares why = (refl, spares.no (behind 3 (refused_text why)))

pub no_apart : (tells : List ℕ → Bool) → Spares tells → (tag : List ℕ) → IsWord tag → (why : Refusal) → Apart tells (ex.tagged tag (response_text (refused_text why)))
no_apart tells spares tag t why = let w = reason_apart tells spares why in tagged_apart tells tag (response_text (refused_text why)) t w.0 w.1
