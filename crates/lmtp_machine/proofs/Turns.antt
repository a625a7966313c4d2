-- What an answer to a command line is, and what becomes of data.
use Rattle.std.proofs.Common.{◌≡◌, ℕ, ◌+◌, ◌≤◌, ◌<◌, Bool, true, false, List, [], ◌∷◌, ◌++◌, length, refl, ap, sym, subst, ◌∙◌, arith, Result, Ok, Err}
use Rattle.std.specs.Prelude.{◌==◌, nat_lt, if◌then◌else◌, Contains, slice_index_or}
use Rattle.std.specs.List.{list_any}
use Rattle.std.proofs.lemmas.Bool.{eqb-true, eq-eqb}
use Rattle.std.proofs.lemmas.Bool.Decides.{nat_tests}
use Rattle.std.proofs.lemmas.List.Folds.{list_any_at, Any-from_list_any}
use Rattle.envelope.specs.Names.{Directory, is_shut, lookup, shard_of}
use Rattle.envelope.specs.Reading.{read}
use Rattle.envelope.specs.Values.{Path, Command}
use Rattle.envelope.specs.Values as say
use Rattle.envelope.specs.declared.command.CommandFault.{CommandFault}
use Rattle.envelope.specs.declared.directory.NoSuch.{NoSuch}
use Rattle.envelope.specs.declared.directory.NoSuch.TheVariants.{System, User}
use Rattle.dot_stuffing.specs.declared.Outcome.{Outcome}
use Rattle.dot_stuffing.specs.declared.Outcome.TheVariants as outcomes
use Rattle.dot_stuffing.specs.Unstuffing.{IsOutcome}
use Rattle.lmtp_machine.specs.declared.reply.Reply.{Reply}
use Rattle.lmtp_machine.specs.declared.reply.Reply.TheVariants.{LineTooLong, ShardClosed, TooManyRecipients, RecipientOk, ShuttingDown, SenderOk}
use Rattle.lmtp_machine.specs.Message.{outcome, sender_text}
use Rattle.lmtp_machine.specs.Dialogue.{Phase, Start, Ready, Transaction, Data, Waiting, Ended, Turn, turn, last_number, cleared, on_mail, on_recipient, on_rcpt, on_data, on_command, on_reading, on_command_line, fault_reply}
use Rattle.lmtp_machine.specs.inner.Ending.{Becomes, so, starved}

-- no verdicts are awaited, and data has a recipient
abbrev pub IsGoing : Phase → Type 0
IsGoing Start = Unit {0}
IsGoing Ready = Unit {0}
IsGoing (Transaction sender recipients) = Unit {0}
IsGoing (Data sender recipients lines) = 0 < length recipients
IsGoing (Waiting count) = ⊥
IsGoing Ended = Unit {0}

-- one thing was said, nothing submitted
pub record Spoken (t : Turn) : Type 0 where
  pub submissions : t.submissions ≡ []
  pub said : length t.replies ≡ 1
  pub going : IsGoing t.standing.phase

one : (phase : Phase) (n : ℕ) (reply : Reply) → IsGoing phase → Spoken (turn phase n (reply ∷ []))
one phase n reply h = record { submissions = refl; said = omega arith; going = h }

mail_spoken : (phase : Phase) (n : ℕ) (path : Path) → IsGoing phase → Spoken (on_mail phase n path)
mail_spoken Start n path h = one Start n _ h
mail_spoken (Transaction sender recipients) n path h = one (Transaction sender recipients) n _ h
mail_spoken (Data sender recipients lines) n path h = one (Data sender recipients lines) n _ h
mail_spoken (Waiting count) n path h = absurd h
mail_spoken Ended n path h = one Ended n _ h
mail_spoken Ready n path h =
    elim (n == last_number) as (λ b. Spoken (if b then turn Ended n (ShuttingDown ∷ []) else turn (Transaction (sender_text path) []) n (SenderOk ∷ []))) [
      | true ↦ one Ended n ShuttingDown tt
      | false ↦ one (Transaction (sender_text path) []) n SenderOk tt
    ]

recipient_spoken : (directory : Directory) (sender recipients : List ℕ) (n : ℕ) (r : Result ℕ NoSuch) → Spoken (on_recipient directory sender recipients n r)
recipient_spoken directory sender recipients n (Err System) = one (Transaction sender recipients) n _ tt
recipient_spoken directory sender recipients n (Err User) = one (Transaction sender recipients) n _ tt
recipient_spoken directory sender recipients n (Ok mailbox) = unless_shut (is_shut directory (shard_of directory mailbox))
  where
    at_most : (b : Bool) → Spoken (if b then turn (Transaction sender recipients) n (TooManyRecipients ∷ []) else turn (Transaction sender (recipients ++ mailbox ∷ [])) n (RecipientOk ∷ []))
    at_most true = one (Transaction sender recipients) n TooManyRecipients tt
    at_most false = one (Transaction sender (recipients ++ mailbox ∷ [])) n RecipientOk tt

    unless_shut : (b : Bool) → Spoken (if b then turn (Transaction sender recipients) n (ShardClosed ∷ [])
        else if length recipients == 100 then turn (Transaction sender recipients) n (TooManyRecipients ∷ []) else turn (Transaction sender (recipients ++ mailbox ∷ [])) n (RecipientOk ∷ []))
    unless_shut true = one (Transaction sender recipients) n ShardClosed tt
    unless_shut false = at_most (length recipients == 100)

rcpt_spoken : (directory : Directory) (phase : Phase) (n : ℕ) (path : Path) → IsGoing phase → Spoken (on_rcpt directory phase n path)
rcpt_spoken directory Start n path h = one Start n _ h
rcpt_spoken directory Ready n path h = one Ready n _ h
rcpt_spoken directory (Transaction sender recipients) n path h = recipient_spoken directory sender recipients n (lookup directory path)
rcpt_spoken directory (Data sender recipients lines) n path h = one (Data sender recipients lines) n _ h
rcpt_spoken directory (Waiting count) n path h = absurd h
rcpt_spoken directory Ended n path h = one Ended n _ h

data_spoken : (phase : Phase) (n : ℕ) → IsGoing phase → Spoken (on_data phase n)
data_spoken Start n h = one Start n _ h
data_spoken Ready n h = one Ready n _ h
data_spoken (Transaction sender []) n h = one (Transaction sender []) n _ h
data_spoken (Transaction sender (mailbox ∷ more)) n h = one (Data sender (mailbox ∷ more) []) n _ (omega arith)
data_spoken (Data sender recipients lines) n h = one (Data sender recipients lines) n _ h
data_spoken (Waiting count) n h = absurd h
data_spoken Ended n h = one Ended n _ h

cleared_going : (phase : Phase) → IsGoing (cleared phase)
cleared_going Start = tt
cleared_going Ready = tt
cleared_going (Transaction sender recipients) = tt
cleared_going (Data sender recipients lines) = tt
cleared_going (Waiting count) = tt
cleared_going Ended = tt

command_spoken : (directory : Directory) (phase : Phase) (n : ℕ) (command : Command) → IsGoing phase → Spoken (on_command directory (record { phase = phase; submitted = n }) command)
command_spoken directory phase n say.Lhlo h = one Ready n _ tt
command_spoken directory phase n (say.Mail path) h = mail_spoken phase n path h
command_spoken directory phase n (say.Rcpt path) h = rcpt_spoken directory phase n path h
command_spoken directory phase n say.Data h = data_spoken phase n h
command_spoken directory phase n say.Rset h = one (cleared phase) n _ (cleared_going phase)
command_spoken directory phase n say.Noop h = one phase n _ h
command_spoken directory phase n say.Vrfy h = one phase n _ h
command_spoken directory phase n say.Quit h = one Ended n _ tt
command_spoken directory phase n say.Expn h = one phase n _ h
command_spoken directory phase n say.Help h = one phase n _ h

reading_spoken : (directory : Directory) (phase : Phase) (n : ℕ) (r : Result Command CommandFault) → IsGoing phase → Spoken (on_reading directory (record { phase = phase; submitted = n }) r)
reading_spoken directory phase n (Ok command) h = command_spoken directory phase n command h
reading_spoken directory phase n (Err fault) h = one phase n (fault_reply fault) h

pub line_spoken : (directory : Directory) (phase : Phase) (n : ℕ) (line : List ℕ) → IsGoing phase → Spoken (on_command_line directory (record { phase = phase; submitted = n }) line)
line_spoken directory phase n line h =
    elim (nat_lt 510 (length line)) as (λ b. Spoken (if b then turn phase n (LineTooLong ∷ []) else on_reading directory (record { phase = phase; submitted = n }) (read line))) [
      | true ↦ one phase n LineTooLong h
      | false ↦ reading_spoken directory phase n (read line) h
    ]

-- a line that is too long is answered so, whatever it says
pub too_long : (directory : Directory) (phase : Phase) (n : ℕ) (line : List ℕ) → 512 < length line + 2
    → on_command_line directory (record { phase = phase; submitted = n }) line ≡ turn phase n (LineTooLong ∷ [])
too_long directory phase n line h =
    let e : nat_lt 510 (length line) ≡ true = grind (arith, nat_tests) in
    ap (λ (b : Bool). if b then turn phase n (LineTooLong ∷ []) else on_reading directory (record { phase = phase; submitted = n }) (read line)) e

-- ---- what becomes of a text

has_nul : (text : List ℕ) → Contains text 0 → list_any (λ b. b == 0) text ≡ true
has_nul text (k, h, e) = list_any_at (λ b. b == 0) text k 0 h (eq-eqb (slice_index_or text k 0) 0 e)

no_nul : (text : List ℕ) → (Contains text 0 → ⊥) → list_any (λ b. b == 0) text ≡ false
no_nul text h = decide (list_any (λ b. b == 0) text) refl
  where
    found : list_any (λ b. b == 0) text ≡ true → ⊥
    found e =
        let a = Any-from_list_any (λ b. b == 0) text e in
        let z : a.1 ≡ 0 = eqb-true a.1 0 a.4 in
        h (a.0, a.2, subst (λ (y : ℕ). slice_index_or text a.0 y ≡ y) z a.3)

    decide : (b : Bool) → list_any (λ b. b == 0) text ≡ b → list_any (λ b. b == 0) text ≡ false
    decide true e = absurd (found e)
    decide false e = e

abbrev judge : Bool → Bool → Bool → Outcome
judge nul big refused = if nul then outcomes.Nul else if big then outcomes.TooBig else if refused then outcomes.NoMemory else outcomes.Ok

-- whether memory was refused, as the outcome has it
abbrev pub is_refused : Outcome → Bool
is_refused outcomes.NoMemory = true
is_refused _ = false

pub outcome_is : (o final : Outcome) (max : ℕ) (text : List ℕ) → IsOutcome o max text → Becomes o final → outcome max (is_refused final) text ≡ final
outcome_is o final max text h b = becomes b
  where
    big : max < length text → nat_lt max (length text) ≡ true
    big l = grind (arith, nat_tests)

    fits : length text ≤ max → nat_lt max (length text) ≡ false
    fits l = grind (arith, nat_tests)

    nul_case : Contains text 0 → (refused : Bool) → outcome max refused text ≡ outcomes.Nul
    nul_case c refused = ap (λ (b : Bool). judge b (nat_lt max (length text)) refused) (has_nul text c)

    big_case : (Contains text 0 → ⊥) → max < length text → (refused : Bool) → outcome max refused text ≡ outcomes.TooBig
    big_case c l refused = ap (λ (b : Bool). judge b (nat_lt max (length text)) refused) (no_nul text c) ∙ ap (λ (b : Bool). judge false b refused) (big l)

    fit_case : (Contains text 0 → ⊥) → length text ≤ max → (refused : Bool) → outcome max refused text ≡ judge false false refused
    fit_case c l refused = ap (λ (b : Bool). judge b (nat_lt max (length text)) refused) (no_nul text c) ∙ ap (λ (b : Bool). judge false b refused) (fits l)

    by_outcome : (o : Outcome) → IsOutcome o max text → outcome max (is_refused o) text ≡ o
    by_outcome outcomes.Nul h = nul_case h false
    by_outcome outcomes.TooBig h = big_case h.0 h.1 false
    by_outcome outcomes.NoMemory h = fit_case h.0 h.1 true
    by_outcome outcomes.Ok h = fit_case h.0 h.1 false

    becomes : Becomes o final → outcome max (is_refused final) text ≡ final
    becomes (so e) = subst (λ (x : Outcome). outcome max (is_refused x) text ≡ x) (sym e) (by_outcome o h)
    becomes (starved e f) =
        let k : IsOutcome outcomes.Ok max text = subst (λ (x : Outcome). IsOutcome x max text) e h in
        subst (λ (x : Outcome). outcome max (is_refused x) text ≡ x) (sym f) (fit_case k.0 k.1 true)
