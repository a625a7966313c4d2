-- Every dialogue keeps to its recipients and its numbers.
use Rattle.std.proofs.Common.{◌≡◌, ℕ, suc, ◌+◌, ◌≤◌, ◌<◌, Bool, true, false, List, [], ◌∷◌, ◌++◌, length, refl, ap, sym, subst, arith, Option, Some, None, Result, Ok, Err, length-append}
use Rattle.std.specs.Prelude.{codes, ◌==◌, nat_lt, if◌then◌else◌, position}
use Rattle.std.specs.List.{list_any}
use Rattle.std.specs.Option.{ok_or}
use Rattle.std.specs.Str.{str_eq_ignore_ascii_case as is_same}
use Rattle.std.proofs.lemmas.Bool.Decides.{nat_tests}
use Rattle.std.proofs.lemmas.List.Elements.{All-push, All-nil}
use Rattle.std.proofs.lemmas.List.Quantifiers.{position-Some}
use Rattle.delivery_token.specs.declared.Verdict.{Verdict}
use Rattle.envelope.specs.Names.{Directory, Home, is_shut, shard_of, lookup, numbered, wanted, value_of, is_home}
use Rattle.envelope.specs.Reading.{read}
use Rattle.envelope.specs.Values.{Path, Null, Postmaster, To, Command}
use Rattle.envelope.specs.Values as say
use Rattle.envelope.specs.declared.command.CommandFault.{CommandFault}
use Rattle.envelope.specs.declared.directory.NoSuch.{NoSuch}
use Rattle.envelope.specs.declared.directory.NoSuch.TheVariants.{System, User}
use Rattle.dot_stuffing.specs.declared.Outcome.{Outcome}
use Rattle.dot_stuffing.specs.declared.Outcome.TheVariants as outcomes
use Rattle.lmtp_machine.specs.declared.reply.Reply.{Reply}
use Rattle.lmtp_machine.specs.declared.reply.Reply.TheVariants.{LineTooLong, ShardClosed, TooManyRecipients, RecipientOk, ShuttingDown, SenderOk}
use Rattle.lmtp_machine.specs.declared.connection.What.{What}
use Rattle.lmtp_machine.specs.Message.{outcome, plain, sender_text}
use Rattle.lmtp_machine.specs.Dialogue.{Phase, Start, Ready, Transaction, Data, Waiting, Ended, Standing, Setting, Submission, Event, Opened, Line, Starved, Answered, Shut, Turn, turn, dialogue, fresh, last_number, keys_from, cleared, is_dot, on_event, on_mail, on_recipient, on_rcpt, on_data, on_command, on_reading, on_command_line, on_outcome, at_end, on_data_line, on_line, on_starved, on_verdicts, fault_reply}
use Rattle.lmtp_machine.specs.Conversation.{Conversation, Leads}
use Rattle.lmtp_machine.specs.inner.Calls.{Taken}
use Rattle.lmtp_machine.specs.Kept.{IsKeptAt, Kept, AreMessages, KeptAfter}

-- ---- a look-up finds a mailbox of the directory

some_of : (o : Option ℕ) (m : ℕ) → ok_or o User ≡ Ok m → o ≡ Some m
some_of None m e = absurd (let n : ◌≡◌ {A = Result ℕ NoSuch} (Err User) (Ok m) = e in cc)
some_of (Some x) m e = let n : ◌≡◌ {A = Result ℕ NoSuch} (Ok x) (Ok m) = e in cc

numbered_below : (directory : Directory) (home : Home) (m : ℕ) → numbered directory home ≡ Ok m → m < length directory.homes
numbered_below directory home m e = (position-Some (is_home home) directory.homes m home (some_of (position (is_home home) directory.homes) m e)).0

pub lookup_below : (directory : Directory) (path : Path) (m : ℕ) → lookup directory path ≡ Ok m → m < length directory.homes
lookup_below directory Null m e = absurd (let n : ◌≡◌ {A = Result ℕ NoSuch} (Err User) (Ok m) = e in cc)
lookup_below directory Postmaster m e = numbered_below directory (wanted (codes "postmaster")) m e
lookup_below directory (To address) m e = known (list_any (is_same address.domain) directory.domains) e
  where
    known : (b : Bool) → (if b then numbered directory (wanted (value_of address.local)) else Err System) ≡ Ok m → m < length directory.homes
    known true e = numbered_below directory (wanted (value_of address.local)) m e
    known false e = absurd (let n : ◌≡◌ {A = Result ℕ NoSuch} (Err System) (Ok m) = e in cc)

-- ---- one event

record Fine (setting : Setting) (directory : Directory) (n : ℕ) (t : Turn) : Type 0 where
  kept : IsKeptAt (length directory.homes) t.standing.phase t.standing.submitted
  are : AreMessages setting (length directory.homes) n t.submissions t.standing.submitted
  never_falls : n ≤ t.standing.submitted

quiet : (setting : Setting) (directory : Directory) (phase : Phase) (n : ℕ) (replies : List Reply) → IsKeptAt (length directory.homes) phase n → Fine setting directory n (turn phase n replies)
quiet setting directory phase n replies h = record { kept = h; are = refl; never_falls = omega arith }

number_kept : (directory : Directory) (phase : Phase) (n : ℕ) → IsKeptAt (length directory.homes) phase n → n ≤ last_number
number_kept directory Start n h = h
number_kept directory Ready n h = h
number_kept directory (Transaction sender recipients) n h = omega (arith, h.1)
number_kept directory (Data sender recipients lines) n h = omega (arith, h.2)
number_kept directory (Waiting count) n h = h.2
number_kept directory Ended n h = h

mail_fine : (setting : Setting) (directory : Directory) (phase : Phase) (n : ℕ) (path : Path) → IsKeptAt (length directory.homes) phase n → Fine setting directory n (on_mail phase n path)
mail_fine setting directory Start n path h = quiet setting directory Start n _ h
mail_fine setting directory (Transaction sender recipients) n path h = quiet setting directory (Transaction sender recipients) n _ h
mail_fine setting directory (Data sender recipients lines) n path h = quiet setting directory (Data sender recipients lines) n _ h
mail_fine setting directory (Waiting count) n path h = quiet setting directory (Waiting count) n _ h
mail_fine setting directory Ended n path h = quiet setting directory Ended n _ h
mail_fine setting directory Ready n path h = at_last (n == last_number) refl
  where
    below : (n == last_number) ≡ false → n < last_number
    below e = grind (arith, nat_tests)

    at_last : (b : Bool) → (n == last_number) ≡ b → Fine setting directory n (if b then turn Ended n (ShuttingDown ∷ []) else turn (Transaction (sender_text path) []) n (SenderOk ∷ []))
    at_last true e = quiet setting directory Ended n _ h
    at_last false e = quiet setting directory (Transaction (sender_text path) []) n _ (record { most = omega arith; each = All-nil (λ mailbox. mailbox < length directory.homes) }, below e)

recipient_fine : (setting : Setting) (directory : Directory) (sender recipients : List ℕ) (n : ℕ) (r : Result ℕ NoSuch) → ((m : ℕ) → r ≡ Ok m → m < length directory.homes)
    → IsKeptAt (length directory.homes) (Transaction sender recipients) n → Fine setting directory n (on_recipient directory sender recipients n r)
recipient_fine setting directory sender recipients n (Err System) found h = quiet setting directory (Transaction sender recipients) n _ h
recipient_fine setting directory sender recipients n (Err User) found h = quiet setting directory (Transaction sender recipients) n _ h
recipient_fine setting directory sender recipients n (Ok mailbox) found h = unless_shut (is_shut directory (shard_of directory mailbox))
  where
    below : (length recipients == 100) ≡ false → length recipients ≤ 100 → length recipients + 1 ≤ 100
    below e l = grind (arith, nat_tests)

    more : length recipients + 1 ≤ 100 → length (recipients ++ mailbox ∷ []) ≤ 100
    more l = omega (arith, length-append recipients (mailbox ∷ []))

    at_most : (b : Bool) → (length recipients == 100) ≡ b
        → Fine setting directory n (if b then turn (Transaction sender recipients) n (TooManyRecipients ∷ []) else turn (Transaction sender (recipients ++ mailbox ∷ [])) n (RecipientOk ∷ []))
    at_most true e = quiet setting directory (Transaction sender recipients) n _ h
    at_most false e = quiet setting directory (Transaction sender (recipients ++ mailbox ∷ [])) n _
        (record { most = more (below e h.0.most); each = All-push (λ m. m < length directory.homes) recipients mailbox h.0.each (found mailbox refl) }, h.1)

    unless_shut : (b : Bool) → Fine setting directory n (if b then turn (Transaction sender recipients) n (ShardClosed ∷ [])
        else if length recipients == 100 then turn (Transaction sender recipients) n (TooManyRecipients ∷ []) else turn (Transaction sender (recipients ++ mailbox ∷ [])) n (RecipientOk ∷ []))
    unless_shut true = quiet setting directory (Transaction sender recipients) n _ h
    unless_shut false = at_most (length recipients == 100) refl

rcpt_fine : (setting : Setting) (directory : Directory) (phase : Phase) (n : ℕ) (path : Path) → IsKeptAt (length directory.homes) phase n → Fine setting directory n (on_rcpt directory phase n path)
rcpt_fine setting directory Start n path h = quiet setting directory Start n _ h
rcpt_fine setting directory Ready n path h = quiet setting directory Ready n _ h
rcpt_fine setting directory (Transaction sender recipients) n path h = recipient_fine setting directory sender recipients n (lookup directory path) (lookup_below directory path) h
rcpt_fine setting directory (Data sender recipients lines) n path h = quiet setting directory (Data sender recipients lines) n _ h
rcpt_fine setting directory (Waiting count) n path h = quiet setting directory (Waiting count) n _ h
rcpt_fine setting directory Ended n path h = quiet setting directory Ended n _ h

data_fine : (setting : Setting) (directory : Directory) (phase : Phase) (n : ℕ) → IsKeptAt (length directory.homes) phase n → Fine setting directory n (on_data phase n)
data_fine setting directory Start n h = quiet setting directory Start n _ h
data_fine setting directory Ready n h = quiet setting directory Ready n _ h
data_fine setting directory (Transaction sender []) n h = quiet setting directory (Transaction sender []) n _ h
data_fine setting directory (Transaction sender (mailbox ∷ more)) n h = quiet setting directory (Data sender (mailbox ∷ more) []) n _ (h.0, omega arith, h.1)
data_fine setting directory (Data sender recipients lines) n h = quiet setting directory (Data sender recipients lines) n _ h
data_fine setting directory (Waiting count) n h = quiet setting directory (Waiting count) n _ h
data_fine setting directory Ended n h = quiet setting directory Ended n _ h

cleared_kept : (directory : Directory) (phase : Phase) (n : ℕ) → n ≤ last_number → IsKeptAt (length directory.homes) (cleared phase) n
cleared_kept directory Start n l = l
cleared_kept directory Ready n l = l
cleared_kept directory (Transaction sender recipients) n l = l
cleared_kept directory (Data sender recipients lines) n l = l
cleared_kept directory (Waiting count) n l = l
cleared_kept directory Ended n l = l

command_fine : (setting : Setting) (directory : Directory) (phase : Phase) (n : ℕ) (command : Command) → IsKeptAt (length directory.homes) phase n
    → Fine setting directory n (on_command directory (record { phase = phase; submitted = n }) command)
command_fine setting directory phase n say.Lhlo h = quiet setting directory Ready n _ (number_kept directory phase n h)
command_fine setting directory phase n (say.Mail path) h = mail_fine setting directory phase n path h
command_fine setting directory phase n (say.Rcpt path) h = rcpt_fine setting directory phase n path h
command_fine setting directory phase n say.Data h = data_fine setting directory phase n h
command_fine setting directory phase n say.Rset h = quiet setting directory (cleared phase) n _ (cleared_kept directory phase n (number_kept directory phase n h))
command_fine setting directory phase n say.Noop h = quiet setting directory phase n _ h
command_fine setting directory phase n say.Vrfy h = quiet setting directory phase n _ h
command_fine setting directory phase n say.Quit h = quiet setting directory Ended n _ (number_kept directory phase n h)
command_fine setting directory phase n say.Expn h = quiet setting directory phase n _ h
command_fine setting directory phase n say.Help h = quiet setting directory phase n _ h

reading_fine : (setting : Setting) (directory : Directory) (phase : Phase) (n : ℕ) (r : Result Command CommandFault) → IsKeptAt (length directory.homes) phase n
    → Fine setting directory n (on_reading directory (record { phase = phase; submitted = n }) r)
reading_fine setting directory phase n (Ok command) h = command_fine setting directory phase n command h
reading_fine setting directory phase n (Err fault) h = quiet setting directory phase n (fault_reply fault ∷ []) h

command_line_fine : (setting : Setting) (directory : Directory) (phase : Phase) (n : ℕ) (line : List ℕ) → IsKeptAt (length directory.homes) phase n
    → Fine setting directory n (on_command_line directory (record { phase = phase; submitted = n }) line)
command_line_fine setting directory phase n line h =
    let t : Bool → Turn = λ b. (if b then turn phase n (LineTooLong ∷ []) else on_reading directory (record { phase = phase; submitted = n }) (read line)) in
    elim (nat_lt 510 (length line)) as (λ b. Fine setting directory n (t b)) [
      | true ↦ quiet setting directory phase n (LineTooLong ∷ []) h
      | false ↦ reading_fine setting directory phase n (read line) h
    ]

-- ---- the end of data

pub keys_length : (setting : Setting) (number i : ℕ) (mailboxes : List ℕ) → length (keys_from setting number i mailboxes) ≡ length mailboxes
keys_length setting number i [] = refl
keys_length setting number i (m ∷ ms) = let e : length (keys_from setting number (i + 1) ms) ≡ length ms = keys_length setting number (i + 1) ms in ap (λ k. suc k) e

outcome_fine : (setting : Setting) (directory : Directory) (n : ℕ) (sender recipients : List ℕ) (lines : List (List ℕ)) (o : Outcome)
    → IsKeptAt (length directory.homes) (Data sender recipients lines) n → Fine setting directory n (on_outcome setting n sender recipients lines o)
outcome_fine setting directory n sender recipients lines outcomes.TooBig h = quiet setting directory Ready n _ (omega (arith, h.2))
outcome_fine setting directory n sender recipients lines outcomes.Nul h = quiet setting directory Ready n _ (omega (arith, h.2))
outcome_fine setting directory n sender recipients lines outcomes.NoMemory h = quiet setting directory Ready n _ (omega (arith, h.2))
outcome_fine setting directory n sender recipients lines outcomes.Ok h =
    let most : length recipients ≤ 100 = h.0.most in
    let e : length (keys_from setting n 0 recipients) ≡ length recipients = keys_length setting n 0 recipients in
    record {
      kept = (h.1, most, omega (arith, h.2));
      are = (
        record {
          keys = refl;
          some = omega (arith, e, h.1);
          most = omega (arith, e, most);
          as_many = sym e;
          each = h.0.each;
          number_fits = h.2;
        },
        refl,
      );
      never_falls = omega arith;
    }

data_line_fine : (setting : Setting) (directory : Directory) (n : ℕ) (sender recipients : List ℕ) (lines : List (List ℕ)) (line : List ℕ)
    → IsKeptAt (length directory.homes) (Data sender recipients lines) n → Fine setting directory n (on_data_line setting n sender recipients lines line)
data_line_fine setting directory n sender recipients lines line h =
    let t : Bool → Turn = λ b. (if b then at_end setting false n sender recipients lines else turn (Data sender recipients (lines ++ line ∷ [])) n []) in
    elim (is_dot line) as (λ b. Fine setting directory n (t b)) [
      | true ↦ outcome_fine setting directory n sender recipients lines (outcome setting.max_message false (plain lines)) h
      | false ↦ quiet setting directory (Data sender recipients (lines ++ line ∷ [])) n [] h
    ]

-- ---- events

line_fine : (setting : Setting) (directory : Directory) (phase : Phase) (n : ℕ) (line : List ℕ) → IsKeptAt (length directory.homes) phase n → Fine setting directory n (on_line setting directory phase n line)
line_fine setting directory Start n line h = command_line_fine setting directory Start n line h
line_fine setting directory Ready n line h = command_line_fine setting directory Ready n line h
line_fine setting directory (Transaction sender recipients) n line h = command_line_fine setting directory (Transaction sender recipients) n line h
line_fine setting directory (Data sender recipients lines) n line h = data_line_fine setting directory n sender recipients lines line h
line_fine setting directory (Waiting count) n line h = quiet setting directory (Waiting count) n [] h
line_fine setting directory Ended n line h = quiet setting directory Ended n [] h

starved_fine : (setting : Setting) (directory : Directory) (phase : Phase) (n : ℕ) → IsKeptAt (length directory.homes) phase n → Fine setting directory n (on_starved setting phase n)
starved_fine setting directory Start n h = quiet setting directory Start n [] h
starved_fine setting directory Ready n h = quiet setting directory Ready n [] h
starved_fine setting directory (Transaction sender recipients) n h = quiet setting directory (Transaction sender recipients) n [] h
starved_fine setting directory (Data sender recipients lines) n h = outcome_fine setting directory n sender recipients lines (outcome setting.max_message true (plain lines)) h
starved_fine setting directory (Waiting count) n h = quiet setting directory (Waiting count) n [] h
starved_fine setting directory Ended n h = quiet setting directory Ended n [] h

verdicts_fine : (setting : Setting) (directory : Directory) (phase : Phase) (n : ℕ) (verdicts : List Verdict) → IsKeptAt (length directory.homes) phase n → Fine setting directory n (on_verdicts phase n verdicts)
verdicts_fine setting directory Start n verdicts h = quiet setting directory Start n [] h
verdicts_fine setting directory Ready n verdicts h = quiet setting directory Ready n [] h
verdicts_fine setting directory (Transaction sender recipients) n verdicts h = quiet setting directory (Transaction sender recipients) n [] h
verdicts_fine setting directory (Data sender recipients lines) n verdicts h = quiet setting directory (Data sender recipients lines) n [] h
verdicts_fine setting directory (Waiting count) n verdicts h = quiet setting directory Ready n _ h.2
verdicts_fine setting directory Ended n verdicts h = quiet setting directory Ended n [] h

event_fine : (setting : Setting) (directory : Directory) (s : Standing) (e : Event) → Kept (length directory.homes) s → Fine setting directory s.submitted (on_event setting directory s e)
event_fine setting directory s Opened h = quiet setting directory s.phase s.submitted _ h.here
event_fine setting directory s (Line line) h = line_fine setting directory s.phase s.submitted line h.here
event_fine setting directory s Starved h = starved_fine setting directory s.phase s.submitted h.here
event_fine setting directory s (Answered verdicts) h = verdicts_fine setting directory s.phase s.submitted verdicts h.here
event_fine setting directory s Shut h = quiet setting directory Ended s.submitted _ (number_kept directory s.phase s.submitted h.here)

-- ---- dialogues

messages-append : (setting : Setting) (directory : Directory) (a : ℕ) (xs : List Submission) (b : ℕ) (ys : List Submission) (c : ℕ)
    → AreMessages setting (length directory.homes) a xs b → AreMessages setting (length directory.homes) b ys c → AreMessages setting (length directory.homes) a (xs ++ ys) c
messages-append setting directory a [] b ys c h k = subst (λ n. AreMessages setting (length directory.homes) n ys c) (sym h) k
messages-append setting directory a (x ∷ xs) b ys c h k = (h.0, messages-append setting directory (a + 1) xs b ys c h.1 k)

dialogue_fine : (setting : Setting) (directory : Directory) (s : Standing) (events : List Event) → Kept (length directory.homes) s → Fine setting directory s.submitted (dialogue setting directory s events)
dialogue_fine setting directory s [] h = quiet setting directory s.phase s.submitted [] h.here
dialogue_fine setting directory s (e ∷ es) h =
    let first : Turn = on_event setting directory s e in
    let f : Fine setting directory s.submitted first = event_fine setting directory s e h in
    let k : Fine setting directory first.standing.submitted (dialogue setting directory first.standing es) = dialogue_fine setting directory first.standing es (record { here = f.kept }) in
    let others : Turn = dialogue setting directory first.standing es in
    record {
      kept = k.kept;
      are = messages-append setting directory s.submitted first.submissions first.standing.submitted others.submissions others.standing.submitted f.are k.are;
      never_falls = omega (arith, f.never_falls, k.never_falls);
    }

kept_after : (setting : Setting) (directory : Directory) (s : Standing) (t : Turn) → Fine setting directory s.submitted t → KeptAfter setting (length directory.homes) s t.submissions t.standing
kept_after setting directory s t f = record { kept = record { here = f.kept }; numbered = record { are = f.are; never_falls = f.never_falls } }

-- a new connection's standing
pub fresh_kept : (directory : Directory) → Kept (length directory.homes) fresh
fresh_kept directory = record { here = omega arith }

-- an event of any kind
pub event_keeps : (setting : Setting) (directory : Directory) (s : Standing) (e : Event) → Kept (length directory.homes) s
    → KeptAfter setting (length directory.homes) s (on_event setting directory s e).submissions (on_event setting directory s e).standing
event_keeps setting directory s e h = kept_after setting directory s (on_event setting directory s e) (event_fine setting directory s e h)

-- events in a row
pub dialogue_keeps : (setting : Setting) (directory : Directory) (s : Standing) (events : List Event) → Kept (length directory.homes) s
    → KeptAfter setting (length directory.homes) s (dialogue setting directory s events).submissions (dialogue setting directory s events).standing
dialogue_keeps setting directory s events h = kept_after setting directory s (dialogue setting directory s events) (dialogue_fine setting directory s events h)

-- bytes that lead from one conversation to another
pub leads_keeps : (setting : Setting) (directory : Directory) (before : Conversation) (bytes : List ℕ) (t : Turn) (after : Conversation)
    → Leads setting directory before bytes t after → Kept (length directory.homes) before.standing → KeptAfter setting (length directory.homes) before.standing t.submissions after.standing
leads_keeps setting directory before bytes t after l h =
    let k : KeptAfter setting (length directory.homes) before.standing (dialogue setting directory before.standing l.events).submissions (dialogue setting directory before.standing l.events).standing = dialogue_keeps setting directory before.standing l.events h in
    let here : KeptAfter setting (length directory.homes) before.standing t.submissions t.standing = subst (λ (u : Turn). KeptAfter setting (length directory.homes) before.standing u.submissions u.standing) (sym l.turns) k in
    subst (λ (s : Standing). KeptAfter setting (length directory.homes) before.standing t.submissions s) (sym l.stands) here

-- several calls of `feed`
pub taken_keeps : (S : Conversation → Type 0) (setting : Setting) (host : List ℕ) (directory : Directory) (before : Conversation) (bytes old new : List ℕ) (what : What) (pending : List Submission)
    → Kept (length directory.homes) before.standing → (t : Taken S setting host directory before bytes old new what pending) → KeptAfter setting (length directory.homes) before.standing pending t.after.standing
taken_keeps S setting host directory before bytes old new what pending h t =
    subst (λ (ss : List Submission). KeptAfter setting (length directory.homes) before.standing ss t.after.standing) (sym t.submits) (leads_keeps setting directory before bytes t.turn t.after t.leads h)
