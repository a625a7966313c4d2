-- A connection that brought a message, and what its peer may conclude: a message for alice, whose copy is stored, for carol, who is unknown, and for bob, whose mailbox is full.
use Rattle.std.proofs.Common.{◌≡◌, ◌==◌, ◌&&◌, inl, inr, ℕ, zero, suc, ◌<◌, Bool, true, false, List, [], ◌∷◌, ◌++◌, length, length-append, map, refl, Some, None, ap, subst, AllPairs, Contains, get_or, if◌then◌else◌, arith}
use Rattle.std.specs.Prelude.{codes}
use Rattle.std.specs.List.{cons_option}
use Rattle.std.proofs.lemmas.Bool.{eqb-true}
use Rattle.change_ring.specs.Log.{IsLegalLog}
use Rattle.change_ring.specs.declared.change.Change.TheVariants.{Add}
use Rattle.delivery_token.specs.Text.{undated}
use Rattle.delivery_token.specs.declared.Job.{Job}
use Rattle.delivery_token.specs.declared.Verdict.{Verdict}
use Rattle.delivery_token.specs.declared.Verdict.TheVariants.{Stored, Refused}
use Rattle.envelope.specs.Reading.{read, forward_at}
use Rattle.house_history.specs.declared.event.Event.{Event}
use Rattle.house_history.specs.declared.event.Event.TheVariants.{Sent, Judged as JudgedCopy}
use Rattle.house_history.specs.Legal.{GivesUid, IsBefore, IsLife, Legal, WasJudged, judged as judged_once, unused}
use Rattle.lane_work.specs.Account.{told}
use Rattle.lane_work.specs.Talk.{HasTaken, goes_on, greeted, submits}
use Rattle.line_io.specs.inner.WireLaws.{reading_cut}
use Rattle.lmtp_machine.specs.Conversation.{IsQuiet, Conversation, Leads, led_by, line, none, opened}
use Rattle.lmtp_machine.specs.Dialogue.{Answered, Data, Event as Spoken, Line, Ready, Submission, Turn, Waiting, dialogue, verdict_reply}
use Rattle.lmtp_machine.specs.declared.reply.Reply.{Reply}
use Rattle.lmtp_machine.specs.declared.reply.Reply.TheVariants as say
use Rattle.serving_workers.specs.Leaving.{all_written}
use Rattle.laws_relay.specs.Served.{ConnectionConcludes, ConnectionStands, ServedRelaysConclude, replied as said_to}
use Rattle.laws_relay.specs.rows.HandedRows.{alice, bob, home, no_room, three}
use Rattle.laws_relay.specs.rows.AccountRows.{for_alice, for_bob, replied}
use Rattle.laws_relay.proofs.ConcludesHolds.{bobs, hers, right}
use Rattle.laws_relay.proofs.ConnectionRefuted.{house, setting}
use Rattle.laws_relay.proofs.ServedHolds.{as_told, job_in}

-- ---- what was said

abbrev message : Submission
message = record { keys = for_alice ∷ for_bob ∷ []; mailboxes = 0 ∷ 1 ∷ []; text = undated right }

abbrev verdicts : List Verdict
verdicts = Stored 7 ∷ Refused no_room ∷ []

-- what it brought up to the message's last line, and that
abbrev brought : List ℕ
brought = codes "LHLO c.example\r\nMAIL FROM:<s@a.example>\r\nRCPT TO:<alice@example.org>\r\nRCPT TO:<carol@example.org>\r\nRCPT TO:<bob@example.org>\r\nDATA\r\nhi\r\n"

abbrev last_line : List ℕ
last_line = codes ".\r\n"

abbrev events : List Spoken
events = Line (codes "LHLO c.example") ∷ Line (codes "MAIL FROM:<s@a.example>") ∷ Line alice ∷ Line (codes "RCPT TO:<carol@example.org>") ∷ Line bob ∷ Line (codes "DATA") ∷ Line (codes "hi") ∷ []

abbrev in_data : Conversation
in_data = record { standing = record { phase = Data (codes "s@a.example") (0 ∷ 1 ∷ []) (codes "hi" ∷ []); submitted = 0 }; unfinished = [] }

abbrev begun : Turn
begun = record { standing = in_data.standing; replies = say.Extensions ∷ say.SenderOk ∷ say.RecipientOk ∷ say.MailboxUnknown ∷ say.RecipientOk ∷ say.StartInput ∷ []; submissions = [] }

abbrev waits : Conversation
waits = record { standing = record { phase = Waiting 2; submitted = 1 }; unfinished = [] }

abbrev ended : Turn
ended = record { standing = waits.standing; replies = []; submissions = message ∷ [] }

abbrev is_ready : Conversation
is_ready = led_by setting home waits (Answered verdicts)

abbrev said : List Reply
said = ((say.Greeting ∷ []) ++ begun.replies ++ ended.replies) ++ map verdict_reply verdicts

begins : Leads setting home opened brought begun in_data
unfolding read forward_at
begins = record {
  lines = codes "LHLO c.example" ∷ codes "MAIL FROM:<s@a.example>" ∷ alice ∷ codes "RCPT TO:<carol@example.org>" ∷ bob ∷ codes "DATA" ∷ codes "hi" ∷ [];
  events = events;
  cut = reading_cut brought;
  heard = line _ (line _ (line _ (line _ (line _ (line _ (line _ none))))));
  may = (tt, (tt, (tt, (tt, (tt, (tt, (tt, tt)))))));
  turns = refl;
  stands = refl;
  behind = inl tt;
}

ends : Leads setting home in_data last_line ended waits
ends = record {
  lines = codes "." ∷ [];
  events = Line (codes ".") ∷ [];
  cut = reading_cut last_line;
  heard = line (codes ".") none;
  may = (tt, tt);
  turns = refl;
  stands = refl;
  behind = inr (inr refl);
}

-- nothing is said or submitted before the last line
alone : (before : List Spoken) (last : Spoken) → Line (codes ".") ∷ [] ≡ before ++ last ∷ [] → IsQuiet (dialogue setting home in_data.standing before)
alone [] last e = (refl, refl)
alone (one ∷ more) last e = absurd (omega (arith, ap length e, length-append more (last ∷ [])))

was_taken : HasTaken setting home three said (record { message = message; verdicts = verdicts } ∷ []) is_ready
unfolding ends
was_taken = submits last_line ended waits message verdicts (goes_on brought begun in_data greeted begins refl) ends refl alone refl

-- ---- what the history has of it

abbrev history : List Event
history = as_told no_room

one_seat : (b : Bool) → AllPairs (λ (a c : Job × ℕ). IsBefore a.0 c.0) (cons_option (if b then Some (hers, 5) else None) (cons_option (if b then Some (bobs, 6) else None) []))
one_seat true zero (suc zero) d before within = inr (refl, inr (refl, omega arith))
one_seat true zero (suc (suc j)) d before within = absurd (omega (arith, within))
one_seat true zero zero d before within = absurd (omega (arith, before))
one_seat true (suc i) j d before within = absurd (omega (arith, before, within))
one_seat false i j d before within = absurd (omega (arith, within))

one_life : (t : ℕ) (a b : Bool) → (5 == t) ≡ a → (6 == t) ≡ b
    → IsLife t (cons_option (if a then Some (Sent hers 5) else None) (cons_option (if b then Some (Sent bobs 6) else None)
    (cons_option (if b then Some (JudgedCopy bobs (Refused no_room) 6) else None) (cons_option (if a then Some (JudgedCopy hers (Stored 7) 5) else None) []))))
one_life t true true e f = absurd (omega (arith, eqb-true 5 t e, eqb-true 6 t f))
one_life t true false e f = subst (λ (n : ℕ). IsLife n (Sent hers 5 ∷ JudgedCopy hers (Stored 7) 5 ∷ [])) (eqb-true 5 t e) (judged_once hers (Stored 7))
one_life t false true e f = subst (λ (n : ℕ). IsLife n (Sent bobs 6 ∷ JudgedCopy bobs (Refused no_room) 6 ∷ [])) (eqb-true 6 t f) (judged_once bobs (Refused no_room))
one_life t false false e f = unused

one_mailbox_each : (m : ℕ) (a b p : Bool) → (1 == m) ≡ a → (0 == m) ≡ b → AllPairs IsBefore (cons_option (if a && p then Some bobs else None) (cons_option (if b && p then Some hers else None) []))
one_mailbox_each m true true p e f i j d before within = absurd (omega (arith, eqb-true 1 m e, eqb-true 0 m f))
one_mailbox_each m true false true e f i j d before within = absurd (omega (arith, before, within))
one_mailbox_each m false true true e f i j d before within = absurd (omega (arith, before, within))
one_mailbox_each m _ _ _ e f i j d before within = absurd (omega (arith, within))

one_change : (a b : Bool) → IsLegalLog ((if a then [] else []) ++ (if b then Add 7 ∷ [] else []))
one_change true true = record { rising = λ i less. absurd (omega (arith, less)); there = (tt, tt) }
one_change true false = record { rising = λ i less. absurd (omega (arith, less)); there = tt }
one_change false true = record { rising = λ i less. absurd (omega (arith, less)); there = (tt, tt) }
one_change false false = record { rising = λ i less. absurd (omega (arith, less)); there = tt }

one_uid : (i : ℕ) (d : Event) → i < 4 → GivesUid (get_or history i d)
one_uid zero d within = tt
one_uid (suc zero) d within = tt
one_uid (suc (suc zero)) d within = tt
one_uid (suc (suc (suc zero))) d within = omega arith
one_uid (suc (suc (suc (suc i)))) d within = absurd (omega (arith, within))

is_legal : Legal history
is_legal = record {
  sent_rise = λ p. one_seat (2 == p);
  lives = λ t. one_life t (5 == t) (6 == t) refl refl;
  judged_rise = λ m p. one_mailbox_each m (1 == m) (0 == m) (2 == p) refl refl;
  logs = λ m. one_change (1 == m) (0 == m);
  uids = one_uid;
}

abbrev verdict_in : Event → Verdict
verdict_in (JudgedCopy job verdict ticket) = verdict
verdict_in event = Stored 0

-- just what was told is judged
all_told : (copy : Job) (verdict : Verdict) → WasJudged history copy verdict → Contains (told (record { message = message; verdicts = verdicts } ∷ [])) (copy, verdict)
all_told copy verdict (ticket, (zero, l, e)) = absurd cc
all_told copy verdict (ticket, (suc zero, l, e)) = absurd cc
all_told copy verdict (ticket, (suc (suc zero), l, e)) = (1, omega arith, ap (λ (event : Event). let one : Job × Verdict = (job_in event, verdict_in event) in one) e)
all_told copy verdict (ticket, (suc (suc (suc zero)), l, e)) = (0, omega arith, ap (λ (event : Event). let one : Job × Verdict = (job_in event, verdict_in event) in one) e)
all_told copy verdict (ticket, (suc (suc (suc (suc k))), l, e)) = absurd (omega (arith, l))

it_stands : ConnectionStands 2 4 history (told (record { message = message; verdicts = verdicts } ∷ []))
it_stands = record {
  stood = stood;
  all = λ copy verdict seat serial judged. all_told copy verdict judged;
}
  where
    stood : (i : ℕ) (d : Job × Verdict) → i < 2 → (uid : ℕ) → (get_or (told (record { message = message; verdicts = verdicts } ∷ [])) i d).1 ≡ Stored uid
        → WasJudged history (get_or (told (record { message = message; verdicts = verdicts } ∷ [])) i d).0 (Stored uid)
    stood zero d within uid e = (5, (3, omega arith, ap (λ (v : Verdict). JudgedCopy hers v 5) e))
    stood (suc zero) d within uid e = absurd cc
    stood (suc (suc i)) d within uid e = absurd (omega (arith, within))

-- ---- and what its peer may conclude

module _ (law : ServedRelaysConclude) where
  it_has_delivered : ConnectionConcludes house 2 4 history three replied false
  it_has_delivered = record {
    taken = three;
    replies = said;
    phase = Ready;
    read = ([], refl);
    are = said_to _ is_ready was_taken;
    written = all_written;
    silent = λ unsaid. absurd cc;
    concludes = λ front untold e. law house 2 4 three said _ is_ready history refl refl was_taken is_legal it_stands [] front untold e;
  }
