-- What stays so of a session while it answers; and so the tags that it keeps are tags.
use Rattle.std.proofs.Common.{◌≡◌, ℕ, Bool, true, List, ◌∷◌, length, ap, subst, []}
use Rattle.std.specs.Prelude.{Option, Some, None, IfSome, Result, Ok, Err, ◌==◌}
use Rattle.std.specs.Option.{option_map}
use Rattle.std.proofs.lemmas.Option.{none-some}
use Rattle.mailbox.specs.declared.clients.MailFault.TheVariants.{NoMemory}
use Rattle.imap_grammar.specs.Bytes.{is_tag}
use Rattle.imap_grammar.specs.Items.{is_word_of}
use Rattle.imap_grammar.specs.Reading.{read}
use Rattle.imap_grammar.specs.declared.command.Command.{Command}
use Rattle.imap_grammar.specs.declared.command.ImapFault.{ImapFault}
use Rattle.imap_session.specs.declared.standing.After.{After}
use Rattle.imap_session.specs.declared.standing.Selected.{Selected}
use Rattle.imap_session.specs.Exchange.{Answer, Exchange, ForDone, ForLiteral, ForVerdict, ForNothing, Standing, Turn, PendingLiteral, Sent, Waiting, closed, played, refusal_after, waiting, Dropped, nameless}
use Rattle.imap_session.specs.Commands.{fault_text, on_command, on_idle_line, on_read, on_rest, on_verdict, only_says, taking, turn_of, turn_of_verdict, turn_with, with_bytes, without_begun, without_sent, logged_in, completed, on_text_line, says}
use Rattle.delivery_token.specs.declared.Verdict.{Verdict}
use Rattle.laws_client.specs.ListTurns.{IsTag}
use Rattle.laws_client.specs.ListLaws.{KeptTagsAreTags}
use Rattle.laws_client.proofs.Tags.{TaggedOf, read_tagged_so, word_is_tag}
use Rattle.exactly_once.proofs.EachExchange.{Plays, closed_so, turn_so}
use Rattle.laws_client.proofs.Turns.{the_turn}
use Rattle.imap_session.specs.Texts.{response_text}
use Rattle.laws_client.proofs.Barred.{line_case}
use Rattle.laws_client.proofs.WholeLines.{text_has, turn_has}

-- what a session stands for stays so while it answers under a tag: where it ends, where it enters or leaves a mailbox, and where it waits
pub record Keeps (Q : Standing → Type 0) (tag : List ℕ) : Type 0 where
  pub ends : (now : Standing) → Q now → Q (record now { ended = true })
  pub enters : (now : Standing) (selected : Option Selected) → Q now → Q (record now { selected = selected })
  pub waits : (now : Standing) (w : Waiting) → Q now → Q (waiting tag w now)

abbrev pub Kept : (Standing → Type 0) → Turn → Type 0
Kept Q turn = Q turn.standing

closed_keeps : (Q : Standing → Type 0) (tag : List ℕ) → Keeps Q tag → (now : Standing) (how : After) → Q now → Kept Q (closed now how)
closed_keeps Q tag K now how k = closed_so (Kept Q) now how k (K.ends now k)

keeping : (Q : Standing → Type 0) (tag : List ℕ) → Keeps Q tag → Plays tag (λ now x turn. Q now → Kept Q turn)
keeping Q tag K = record {
  done = λ now words how. closed_keeps Q tag K now how;
  waits = λ now bytes w. K.waits now w;
  drops = λ now bytes purpose size. K.waits now (ForLiteral Dropped (nameless purpose) size);
  parts = λ now bytes purpose size. K.waits now ForNothing;
  starves = λ now x. closed_keeps Q tag K now (refusal_after NoMemory);
  fails = λ now x call fault. closed_keeps Q tag K now (refusal_after fault);
  writes = λ now bytes x s so. so;
  puts = λ now bytes x s so. so;
  enters = λ now selected next a s so k. so (K.enters now (Some selected) k);
  looks = λ now by_uid set next a s so. so;
  reads = λ now uid mark next a s so. so;
  counts = λ now mailbox next a s so. so;
  alters = λ now uid op next a s so. so;
  expunges = λ now uids x met changes gone s so. so;
  feeds = λ now limit x met changes s so. so;
  leaves = λ now remove x gone s so k. so (K.enters now None k);
  discards = λ now mailbox uids x s so. so;
}

pub played_keeps : (Q : Standing → Type 0) (tag : List ℕ) → Keeps Q tag → (now : Standing) (x : Exchange) (answers : List Answer) (turn : Turn) → Q now → played tag now x answers ≡ Some turn → Kept Q turn
played_keeps Q tag K now x answers turn k e = turn_so tag (λ now x turn. Q now → Kept Q turn) (keeping Q tag K) now x answers turn e k

-- ---- tags

-- each tag that a session keeps is so
abbrev pub AreTagsOf : (List ℕ → Type 0) → Standing → Type 0
AreTagsOf P now = IfSome now.idling P × IfSome now.mailing.begun (λ begun. P begun.tag) × IfSome now.mailing.sent (λ sent. P sent.tag)

waiting_keeps : (P : List ℕ → Type 0) → (tag : List ℕ) → P tag → (now : Standing) (w : Waiting) → AreTagsOf P now → AreTagsOf P (waiting tag w now)
waiting_keeps P tag t now ForDone k = (t, k.1, k.2)
waiting_keeps P tag t now (ForLiteral coming purpose size) k = (k.0, t, k.2)
waiting_keeps P tag t now (ForVerdict origin mailbox flags text) k = (k.0, k.1, t)
waiting_keeps P tag t now ForNothing k = k

tags_keep : (P : List ℕ → Type 0) (tag : List ℕ) → P tag → Keeps (AreTagsOf P) tag
tags_keep P tag t = record { ends = λ now k. k; enters = λ now selected k. k; waits = waiting_keeps P tag t }

fault_keeps : (P : List ℕ → Type 0) → (now : Standing) (text : List ℕ) (answers : List Answer) (turn : Turn) → AreTagsOf P now → only_says text now answers ≡ Some turn → Kept (AreTagsOf P) turn
fault_keeps P now text [] turn k e = subst (λ (s : Turn). Kept (AreTagsOf P) s) (ap (the_turn turn) e) k
fault_keeps P now text (answer ∷ more) turn k e = absurd (none-some turn e)

read_keeps : (P : List ℕ → Type 0) → (now : Standing) (r : Result (List ℕ × Command) ImapFault) (answers : List Answer) (turn : Turn) → TaggedOf P r → AreTagsOf P now → on_read now r answers ≡ Some turn → Kept (AreTagsOf P) turn
read_keeps P now (Ok line) answers turn t k e =
    line_case (Kept (AreTagsOf P) turn) now line.0 line.1 answers turn (λ logs d. played_keeps (AreTagsOf P) line.0 (tags_keep P line.0 t) (logged_in now) (completed line.1) answers turn k d)
    (λ text is d. played_keeps (AreTagsOf P) line.0 (tags_keep P line.0 t) now (says (response_text text)) answers turn k d)
    (λ d. played_keeps (AreTagsOf P) line.0 (tags_keep P line.0 t) now (on_command line.0 now line.1) answers turn k d) e
read_keeps P now (Err fault) answers turn t k e = fault_keeps P now (fault_text now.profile fault) answers turn k e

text_keeps : (P : List ℕ → Type 0) → ((tag : List ℕ) → is_word_of is_tag tag ≡ true → P tag) → (now : Standing) (line : List ℕ) (answers : List Answer) (turn : Turn) → AreTagsOf P now → on_text_line now line answers ≡ Some turn → Kept (AreTagsOf P) turn
text_keeps P make now line answers turn k e =
    let tagged : TaggedOf P (read line) = read_tagged_so P make line in
    text_has P (λ o. o ≡ Some turn → Kept (AreTagsOf P) turn) now line answers tagged (λ tag x t part lacks d. played_keeps (AreTagsOf P) tag (tags_keep P tag t) now x answers turn k d)
    (λ d. read_keeps P now (read line) answers turn tagged k d) e

-- whatever holds of all words of tags: it holds of the tags that a session keeps, if it did before
pub line_keeps : (P : List ℕ → Type 0) → ((tag : List ℕ) → is_word_of is_tag tag ≡ true → P tag) → (now : Standing) (line : List ℕ) (answers : List Answer) (turn : Turn) → AreTagsOf P now → turn_of now line answers ≡ Some turn → Kept (AreTagsOf P) turn
line_keeps P make now line answers turn k e =
    turn_has (λ whole o. o ≡ Some turn → Kept (AreTagsOf P) turn) now line answers
    (λ tag b i d. played_keeps (AreTagsOf P) tag (tags_keep P tag (subst (λ (o : Option (List ℕ)). IfSome o P) i k.0)) (record now { idling = None }) (on_idle_line now.selected line) answers turn (tt, k.1, k.2) d)
    (λ a mailbox flags date b p d. played_keeps (AreTagsOf P) a.tag (tags_keep P a.tag (begun_tag a b)) (without_begun now) (on_rest now.mailing a (length line == 0)) answers turn (tt, tt, k.2) d)
    (λ a x b part d. played_keeps (AreTagsOf P) a.tag (tags_keep P a.tag (begun_tag a b)) (without_begun now) x answers turn (tt, tt, k.2) d)
    (λ whole w d. text_keeps P make (without_begun now) whole answers turn (tt, tt, k.2) d) e
  where
    begun_tag : (a : PendingLiteral) → now.mailing.begun ≡ Some a → P a.tag
    begun_tag a b = subst (λ (o : Option PendingLiteral). IfSome o (λ x. P x.tag)) b k.1

pub kept_tags_are_tags : KeptTagsAreTags
kept_tags_are_tags = line_keeps IsTag word_is_tag

-- ---- bytes of a literal, and verdicts

taken_keeps : (P : List ℕ → Type 0) → (kept : Bool) (bytes : List ℕ) (begun : Option PendingLiteral) → IfSome begun (λ a. P a.tag) → IfSome (option_map (taking kept bytes) begun) (λ a. P a.tag)
taken_keeps P kept bytes None t = tt
taken_keeps P kept bytes (Some a) t = t

pub bytes_keep : (P : List ℕ → Type 0) → (now : Standing) (kept : Bool) (bytes : List ℕ) → AreTagsOf P now → AreTagsOf P (with_bytes kept bytes now)
bytes_keep P now kept bytes k = (k.0, taken_keeps P kept bytes now.mailing.begun k.1, k.2)

heard_keeps : (P : List ℕ → Type 0) → (sent : Option Sent) (now : Standing) (verdict : Verdict) (answers : List Answer) (turn : Turn) → IfSome sent (λ s. P s.tag) → turn_with sent now verdict answers ≡ Some turn → Kept (AreTagsOf P) turn
heard_keeps P None now verdict answers turn t e = absurd (none-some turn e)
heard_keeps P (Some sent) now verdict answers turn t e = played_keeps (AreTagsOf P) sent.tag (tags_keep P sent.tag t) (without_sent now) (on_verdict now.mailing now.selected sent.origin sent.append.mailbox verdict) answers turn (tt, tt, tt) e

pub verdict_keeps : (P : List ℕ → Type 0) → (now : Standing) (verdict : Verdict) (answers : List Answer) (turn : Turn) → AreTagsOf P now → turn_of_verdict now verdict answers ≡ Some turn → Kept (AreTagsOf P) turn
verdict_keeps P now verdict answers turn k e = heard_keeps P now.mailing.sent now verdict answers turn k.2 e
