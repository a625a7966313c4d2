-- What one event comes to: where the relay stands behind it, and what it knows then.
use Rattle.std.proofs.Common.{◌≡◌, ℕ, suc, Bool, true, false, List, [], ◌∷◌, ◌++◌, length, take, drop, refl, ap, sym, subst, ◌∙◌}
use Rattle.std.specs.Prelude.{nat_lt, Result, Ok, Err, ◌==◌, if◌then◌else◌}
use Rattle.envelope.specs.Names.{Directory, is_shut, lookup, shard_of}
use Rattle.envelope.specs.Reading.{read}
use Rattle.envelope.specs.Values.{Path, Command}
use Rattle.envelope.specs.Values as say
use Rattle.envelope.specs.declared.command.CommandFault.{CommandFault}
use Rattle.envelope.specs.declared.command.CommandFault.TheVariants as faults
use Rattle.envelope.specs.declared.directory.NoSuch.{NoSuch}
use Rattle.envelope.specs.declared.directory.NoSuch.TheVariants.{System, User}
use Rattle.lmtp_machine.specs.declared.reply.Reply.{Reply}
use Rattle.lmtp_machine.specs.declared.reply.Reply.TheVariants.{BadSequence, Bye, CannotVerify, DomainUnknown, Extensions, LineTooLong, MailboxUnknown, NotImplemented, Okay, RecipientOk, SenderOk, ShardClosed, ShuttingDown, StartInput, TooManyRecipients}
use Rattle.lmtp_machine.specs.Message.{sender_text}
use Rattle.lmtp_machine.specs.Conversation.{IsInData, IsListening}
use Rattle.lmtp_machine.specs.Dialogue.{Phase, Start, Ready, Transaction, Data, Waiting, Ended, Standing, Submission, Turn, turn, refuse, fault_reply, last_number, on_command, on_command_line, on_mail, on_reading, on_recipient}
use Rattle.laws_relay.specs.ReplyLaws.{last_line}
use Rattle.laws_relay.specs.Handed.{Ask, Handed, Relay, Between, Begun, Sends, after_reply, ask_of, handed}
use Rattle.laws_relay.specs.Fates.{AreNamed, IsSubmitted}
use Rattle.laws_relay.specs.Concludes.{IsSender, Names}
use Rattle.laws_relay.proofs.Asks.{IsNo, asks, line_asks, unchanged}

-- ---- where a relay stands beside a dialogue

-- It stands somewhere, or it has sent a message that was submitted, and the next replies are to that.
pub data Stand : Type 0 where
  At : Relay → Stand
  Pends : (mail : List ℕ) → (recipients lines : List (List ℕ)) → Submission → Stand

abbrev pub handed_at : Stand → (sent replies : List (List ℕ)) → List Handed
handed_at (At relay) sent replies = handed relay sent replies
handed_at (Pends mail recipients lines submission) sent replies =
    record { mail = mail; recipients = recipients; lines = lines; replies = take (length recipients) replies } ∷ handed Between sent (drop (length recipients) replies)

-- what was submitted and isn't answered
abbrev pub owed : Stand → List Submission
owed (At relay) = []
owed (Pends mail recipients lines submission) = submission ∷ []

abbrev pub owed_ends : Stand → List (List Submission)
owed_ends (At relay) = []
owed_ends (Pends mail recipients lines submission) = (submission ∷ []) ∷ []

abbrev pub sent_message : List ℕ → List (List ℕ) → List (List ℕ) → Handed
sent_message mail recipients lines = record { mail = mail; recipients = recipients; lines = lines; replies = [] }

pub data Goes (directory : Directory) : Phase → Stand → Type 0 where
  start : Goes directory Start (At Between)
  ready : Goes directory Ready (At Between)
  begun : {sender mailboxes mail : List ℕ} {recipients : List (List ℕ)} → IsSender mail sender → AreNamed directory recipients mailboxes
      → Goes directory (Transaction sender mailboxes) (At (Begun mail recipients))
  sends : {sender mailboxes mail : List ℕ} {recipients lines : List (List ℕ)} → IsSender mail sender → AreNamed directory recipients mailboxes
      → Goes directory (Data sender mailboxes lines) (At (Sends mail recipients lines))
  waits : {count : ℕ} {mail : List ℕ} {recipients lines : List (List ℕ)} {submission : Submission} → IsSubmitted directory (sent_message mail recipients lines) submission
      → length recipients ≡ count → Goes directory (Waiting count) (Pends mail recipients lines submission)
  ended : {relay : Relay} → Goes directory Ended (At relay)

-- ---- recipients

pub named_length : (directory : Directory) (lines : List (List ℕ)) (mailboxes : List ℕ) → AreNamed directory lines mailboxes → length lines ≡ length mailboxes
named_length directory [] [] h = refl
named_length directory [] (mailbox ∷ mailboxes) h = absurd h
named_length directory (line ∷ lines) [] h = absurd h
named_length directory (line ∷ lines) (mailbox ∷ mailboxes) h = ap suc (named_length directory lines mailboxes h.1)

named_push : (directory : Directory) (lines : List (List ℕ)) (mailboxes line : List ℕ) (mailbox : ℕ) → AreNamed directory lines mailboxes → Names directory line mailbox
    → AreNamed directory (lines ++ line ∷ []) (mailboxes ++ mailbox ∷ [])
named_push directory [] [] line mailbox h k = (k, tt)
named_push directory [] (m ∷ ms) line mailbox h k = absurd h
named_push directory (l ∷ ls) [] line mailbox h k = absurd h
named_push directory (l ∷ ls) (m ∷ ms) line mailbox h k = (h.0, named_push directory ls ms line mailbox h.1 k)

-- ---- commands

-- the one reply to a command, and where the relay stands when it has read that
pub record Spoken (host : List ℕ) (directory : Directory) (relay : Relay) (line : List ℕ) (t : Turn) : Type 0 where
  pub reply : Reply
  pub says : t.replies ≡ reply ∷ []
  pub quiet : t.submissions ≡ []
  pub goes : Goes directory t.standing.phase (At (after_reply (ask_of line) relay line (last_line host reply)))

-- the same where it is known what the line asks for
record Obeyed (host : List ℕ) (directory : Directory) (relay : Relay) (line : List ℕ) (command : Command) (t : Turn) : Type 0 where
  reply : Reply
  says : t.replies ≡ reply ∷ []
  quiet : t.submissions ≡ []
  goes : Goes directory t.standing.phase (At (after_reply (asks command) relay line (last_line host reply)))

-- the directory as it is now: which of its shards are shut may have changed
abbrev pub LooksSame : Directory → Directory → Type 0
LooksSame directory now = (path : Path) → lookup now path ≡ lookup directory path

either : (P : Turn → Type 0) (b : Bool) (x y : Turn) → P x → P y → P (if b then x else y)
either P true x y p q = p
either P false x y p q = q

mail_obeyed : (host : List ℕ) (directory : Directory) (n : ℕ) (line : List ℕ) (path : Path) → read line ≡ Ok (say.Mail path)
    → Obeyed host directory Between line (say.Mail path) (on_mail Ready n path)
mail_obeyed host directory n line path e =
    either (Obeyed host directory Between line (say.Mail path)) (n == last_number) (turn Ended n (ShuttingDown ∷ [])) (turn (Transaction (sender_text path) []) n (SenderOk ∷ []))
    (record { reply = ShuttingDown; says = refl; quiet = refl; goes = ended })
    (record { reply = SenderOk; says = refl; quiet = refl; goes = begun (path, e, refl) tt })

recipient_obeyed : (host : List ℕ) (directory now : Directory) → LooksSame directory now → (n : ℕ) (mail : List ℕ) (recipients : List (List ℕ)) (sender mailboxes line : List ℕ) (path : Path) (found : Result ℕ NoSuch)
    → IsSender mail sender → AreNamed directory recipients mailboxes → read line ≡ Ok (say.Rcpt path) → lookup now path ≡ found
    → Obeyed host directory (Begun mail recipients) line (say.Rcpt path) (on_recipient now sender mailboxes n found)
recipient_obeyed host directory now same n mail recipients sender mailboxes line path (Err System) s a e f = record { reply = DomainUnknown; says = refl; quiet = refl; goes = begun s a }
recipient_obeyed host directory now same n mail recipients sender mailboxes line path (Err User) s a e f = record { reply = MailboxUnknown; says = refl; quiet = refl; goes = begun s a }
recipient_obeyed host directory now same n mail recipients sender mailboxes line path (Ok mailbox) s a e f =
    let P : Turn → Type 0 = Obeyed host directory (Begun mail recipients) line (say.Rcpt path) in
    let taken : Turn = turn (Transaction sender (mailboxes ++ mailbox ∷ [])) n (RecipientOk ∷ []) in
    let many : Turn = turn (Transaction sender mailboxes) n (TooManyRecipients ∷ []) in
    either P (is_shut now (shard_of now mailbox)) (turn (Transaction sender mailboxes) n (ShardClosed ∷ [])) (if length mailboxes == 100 then many else taken)
    (record { reply = ShardClosed; says = refl; quiet = refl; goes = begun s a })
    (either P (length mailboxes == 100) many taken
    (record { reply = TooManyRecipients; says = refl; quiet = refl; goes = begun s a })
    (record { reply = RecipientOk; says = refl; quiet = refl; goes = begun s (named_push directory recipients mailboxes line mailbox a (path, e, sym (same path) ∙ f)) }))

command_obeyed : (host : List ℕ) (directory now : Directory) → LooksSame directory now → (phase : Phase) (n : ℕ) (relay : Relay) (line : List ℕ) (command : Command) → Goes directory phase (At relay) → IsListening phase
    → (IsInData phase → ⊥) → read line ≡ Ok command → Obeyed host directory relay line command (on_command now (record { phase = phase; submitted = n }) command)
command_obeyed host directory now same _ n _ line say.Lhlo start l d e = record { reply = Extensions; says = refl; quiet = refl; goes = ready }
command_obeyed host directory now same _ n _ line say.Lhlo ready l d e = record { reply = Extensions; says = refl; quiet = refl; goes = ready }
command_obeyed host directory now same _ n _ line say.Lhlo (begun s a) l d e = record { reply = Extensions; says = refl; quiet = refl; goes = ready }
command_obeyed host directory now same _ n _ line (say.Mail path) start l d e = record { reply = BadSequence; says = refl; quiet = refl; goes = start }
command_obeyed host directory now same _ n _ line (say.Mail path) ready l d e = mail_obeyed host directory n line path e
command_obeyed host directory now same _ n _ line (say.Mail path) (begun s a) l d e = record { reply = BadSequence; says = refl; quiet = refl; goes = begun s a }
command_obeyed host directory now same _ n _ line (say.Rcpt path) start l d e = record { reply = BadSequence; says = refl; quiet = refl; goes = start }
command_obeyed host directory now same _ n _ line (say.Rcpt path) ready l d e = record { reply = BadSequence; says = refl; quiet = refl; goes = ready }
command_obeyed host directory now same _ n _ line (say.Rcpt path) (begun {sender = sender} {mailboxes = mailboxes} {mail = mail} {recipients = recipients} s a) l d e =
    recipient_obeyed host directory now same n mail recipients sender mailboxes line path (lookup now path) s a e refl
command_obeyed host directory now same _ n _ line say.Data start l d e = record { reply = BadSequence; says = refl; quiet = refl; goes = start }
command_obeyed host directory now same _ n _ line say.Data ready l d e = record { reply = BadSequence; says = refl; quiet = refl; goes = ready }
command_obeyed host directory now same _ n _ line say.Data (begun {mailboxes = []} s a) l d e = record { reply = BadSequence; says = refl; quiet = refl; goes = begun s a }
command_obeyed host directory now same _ n _ line say.Data (begun {mailboxes = mailbox ∷ more} s a) l d e = record { reply = StartInput; says = refl; quiet = refl; goes = sends s a }
command_obeyed host directory now same _ n _ line say.Rset start l d e = record { reply = Okay; says = refl; quiet = refl; goes = start }
command_obeyed host directory now same _ n _ line say.Rset ready l d e = record { reply = Okay; says = refl; quiet = refl; goes = ready }
command_obeyed host directory now same _ n _ line say.Rset (begun s a) l d e = record { reply = Okay; says = refl; quiet = refl; goes = ready }
command_obeyed host directory now same _ n _ line say.Quit start l d e = record { reply = Bye; says = refl; quiet = refl; goes = ended }
command_obeyed host directory now same _ n _ line say.Quit ready l d e = record { reply = Bye; says = refl; quiet = refl; goes = ended }
command_obeyed host directory now same _ n _ line say.Quit (begun s a) l d e = record { reply = Bye; says = refl; quiet = refl; goes = ended }
command_obeyed host directory now same _ n _ line say.Noop start l d e = record { reply = Okay; says = refl; quiet = refl; goes = start }
command_obeyed host directory now same _ n _ line say.Noop ready l d e = record { reply = Okay; says = refl; quiet = refl; goes = ready }
command_obeyed host directory now same _ n _ line say.Noop (begun s a) l d e = record { reply = Okay; says = refl; quiet = refl; goes = begun s a }
command_obeyed host directory now same _ n _ line say.Vrfy start l d e = record { reply = CannotVerify; says = refl; quiet = refl; goes = start }
command_obeyed host directory now same _ n _ line say.Vrfy ready l d e = record { reply = CannotVerify; says = refl; quiet = refl; goes = ready }
command_obeyed host directory now same _ n _ line say.Vrfy (begun s a) l d e = record { reply = CannotVerify; says = refl; quiet = refl; goes = begun s a }
command_obeyed host directory now same _ n _ line say.Expn start l d e = record { reply = NotImplemented; says = refl; quiet = refl; goes = start }
command_obeyed host directory now same _ n _ line say.Expn ready l d e = record { reply = NotImplemented; says = refl; quiet = refl; goes = ready }
command_obeyed host directory now same _ n _ line say.Expn (begun s a) l d e = record { reply = NotImplemented; says = refl; quiet = refl; goes = begun s a }
command_obeyed host directory now same _ n _ line say.Help start l d e = record { reply = NotImplemented; says = refl; quiet = refl; goes = start }
command_obeyed host directory now same _ n _ line say.Help ready l d e = record { reply = NotImplemented; says = refl; quiet = refl; goes = ready }
command_obeyed host directory now same _ n _ line say.Help (begun s a) l d e = record { reply = NotImplemented; says = refl; quiet = refl; goes = begun s a }
command_obeyed host directory now same _ n _ line command (sends s a) l d e = absurd (d tt)
command_obeyed host directory now same _ n _ line command ended l d e = absurd l

fault_no : (host : List ℕ) (fault : CommandFault) → IsNo (last_line host (fault_reply fault))
fault_no host faults.Unknown = (refl, refl)
fault_no host (faults.Syntax true) = (refl, refl)
fault_no host (faults.Syntax false) = (refl, refl)
fault_no host faults.PathTooLong = (refl, refl)
fault_no host faults.Parameter = (refl, refl)

-- a reply that changes nothing, where nothing changed
no_spoken : (host : List ℕ) (directory : Directory) (phase : Phase) (n : ℕ) (relay : Relay) (line : List ℕ) (reply : Reply) → Goes directory phase (At relay) → IsNo (last_line host reply)
    → Spoken host directory relay line (turn phase n (reply ∷ []))
no_spoken host directory phase n relay line reply g h = record {
  reply = reply;
  says = refl;
  quiet = refl;
  goes = subst (λ (r : Relay). Goes directory phase (At r)) (sym (unchanged (ask_of line) relay line (last_line host reply) h)) g;
}

reading_spoken : (host : List ℕ) (directory now : Directory) → LooksSame directory now → (phase : Phase) (n : ℕ) (relay : Relay) (line : List ℕ) (r : Result Command CommandFault) → Goes directory phase (At relay)
    → IsListening phase → (IsInData phase → ⊥) → read line ≡ r → Spoken host directory relay line (on_reading now (record { phase = phase; submitted = n }) r)
reading_spoken host directory now same phase n relay line (Ok command) g l d e =
    let o = command_obeyed host directory now same phase n relay line command g l d e in
    let t : Turn = on_command now (record { phase = phase; submitted = n }) command in
    record {
      reply = o.reply;
      says = o.says;
      quiet = o.quiet;
      goes = subst (λ (a : Ask). Goes directory t.standing.phase (At (after_reply a relay line (last_line host o.reply)))) (sym (line_asks line command e)) o.goes;
    }
reading_spoken host directory now same phase n relay line (Err fault) g l d e = no_spoken host directory phase n relay line (fault_reply fault) g (fault_no host fault)

pub line_spoken : (host : List ℕ) (directory now : Directory) → LooksSame directory now → (phase : Phase) (n : ℕ) (relay : Relay) (line : List ℕ) → Goes directory phase (At relay) → IsListening phase → (IsInData phase → ⊥)
    → Spoken host directory relay line (on_command_line now (record { phase = phase; submitted = n }) line)
line_spoken host directory now same phase n relay line g l d =
    let s : Standing = record { phase = phase; submitted = n } in
    either (Spoken host directory relay line) (nat_lt 510 (length line)) (refuse s LineTooLong) (on_reading now s (read line))
    (no_spoken host directory phase n relay line LineTooLong g (refl, refl)) (reading_spoken host directory now same phase n relay line (read line) g l d refl)
