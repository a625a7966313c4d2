-- One event of a dialogue: what the relay makes of its line and its replies, and where both stand then.
use Rattle.std.proofs.Common.{◌≡◌, ℕ, zero, suc, Bool, true, false, List, [], ◌∷◌, ◌++◌, length, map, take, drop, refl, ap, sym, ◌∙◌}
use Rattle.std.specs.Prelude.{codes, not, replicate, ◌&&◌, ◌==◌, if◌then◌else◌}
use Rattle.std.specs.List.{list_all}
use Rattle.std.proofs.lemmas.List.{drop_at, length-map, length-replicate, take_at}
use Rattle.delivery_token.specs.Text.{undated}
use Rattle.delivery_token.specs.declared.Verdict.{Verdict}
use Rattle.dot_stuffing.specs.declared.Outcome.{Outcome}
use Rattle.dot_stuffing.specs.declared.Outcome.TheVariants as outcomes
use Rattle.envelope.specs.Names.{Directory}
use Rattle.lmtp_machine.specs.declared.reply.Reply.{Reply}
use Rattle.lmtp_machine.specs.declared.reply.Reply.TheVariants.{MessageTooBig, NulByte, OutOfMemory}
use Rattle.lmtp_machine.specs.Message.{outcome, plain, stored_text}
use Rattle.lmtp_machine.specs.Conversation.{IsInData, IsListening}
use Rattle.lmtp_machine.specs.Dialogue.{Line, Starved, Answered, Phase, Start, Ready, Transaction, Data, Waiting, Setting, Submission, Turn, turn, at_end, failed, is_dot, keys_from, on_line, on_outcome, on_starved, on_verdicts, verdict_reply}
use Rattle.laws_relay.specs.Handed.{is_code, Handed, Between, Begun, Sends, after_reply, ask_of, handed, is_end}
use Rattle.laws_relay.specs.ReplyLaws.{last_line}
use Rattle.laws_relay.specs.Fates.{Fate, Judged, TurnedAway, AreNamed, AreRefusals, HaveFates, all_ends, ends_in, all_submitted, all_told, judged, turned_away}
use Rattle.laws_relay.specs.Concludes.{IsSender}
use Rattle.laws_relay.proofs.Turned.{Stand, At, Pends, Goes, LooksSame, Spoken, begun, ended, handed_at, line_spoken, named_length, owed, owed_ends, ready, sends, start, waits}

-- Behind an event of these lines and verdicts the relay stands somewhere else, and knows at most one message more.
pub record Step (host : List ℕ) (directory : Directory) (before : Stand) (heard : List (List ℕ)) (answers : List (List Verdict)) (ends : List (List Submission)) (t : Turn) : Type 0 where
  pub next : Stand
  pub messages : List Handed
  pub fates : List Fate
  pub goes : Goes directory t.standing.phase next
  pub each : (more : List Handed) (others : List Fate) → HaveFates host directory more others → HaveFates host directory (messages ++ more) (fates ++ others)
  pub reads : (sent replies : List (List ℕ)) → handed_at before (heard ++ sent) (map (last_line host) t.replies ++ replies) ≡ messages ++ handed_at next sent replies
  pub submits : owed before ++ t.submissions ≡ all_submitted fates ++ owed next
  pub tells : answers ≡ all_told fates
  pub closes : owed_ends before ++ ends ≡ all_ends fates ++ owed_ends next

-- ---- commands

between_step : (host : List ℕ) (directory : Directory) (line : List ℕ) (t : Turn) → Spoken host directory Between line t → Step host directory (At Between) (line ∷ []) [] [] t
between_step host directory line t s = record {
  next = At (after_reply (ask_of line) Between line (last_line host s.reply));
  messages = [];
  fates = [];
  goes = s.goes;
  each = λ more others h. h;
  reads = λ sent replies. ap (λ (rs : List Reply). handed Between (line ∷ sent) (map (last_line host) rs ++ replies)) s.says;
  submits = s.quiet;
  tells = refl;
  closes = refl;
}

begun_step : (host : List ℕ) (directory : Directory) (mail : List ℕ) (recipients : List (List ℕ)) (line : List ℕ) (t : Turn) → Spoken host directory (Begun mail recipients) line t
    → Step host directory (At (Begun mail recipients)) (line ∷ []) [] [] t
begun_step host directory mail recipients line t s = record {
  next = At (after_reply (ask_of line) (Begun mail recipients) line (last_line host s.reply));
  messages = [];
  fates = [];
  goes = s.goes;
  each = λ more others h. h;
  reads = λ sent replies. ap (λ (rs : List Reply). handed (Begun mail recipients) (line ∷ sent) (map (last_line host) rs ++ replies)) s.says;
  submits = s.quiet;
  tells = refl;
  closes = refl;
}

-- ---- the end of the data

pub same_end : (line : List ℕ) → is_end line ≡ is_dot line
same_end [] = refl
same_end (b ∷ []) = one (b == 46)
  where
    one : (t : Bool) → (t && true) ≡ t
    one true = refl
    one false = refl
same_end (b ∷ c ∷ bs) = none (b == 46)
  where
    none : (t : Bool) → (t && false) ≡ false
    none true = refl
    none false = refl

more_read : (mail : List ℕ) (recipients lines : List (List ℕ)) (line : List ℕ) (sent replies : List (List ℕ)) → is_end line ≡ false
    → handed (Sends mail recipients lines) (line ∷ sent) replies ≡ handed (Sends mail recipients (lines ++ line ∷ [])) sent replies
more_read mail recipients lines line sent replies e = rw e refl

end_read : (mail : List ℕ) (recipients lines : List (List ℕ)) (line : List ℕ) (sent replies : List (List ℕ)) → is_end line ≡ true
    → handed (Sends mail recipients lines) (line ∷ sent) replies
    ≡ record { mail = mail; recipients = recipients; lines = lines; replies = take (length recipients) replies } ∷ handed Between sent (drop (length recipients) replies)
end_read mail recipients lines line sent replies e = rw e refl

-- as many replies as recipients are those to this message
own_replies : (mail : List ℕ) (recipients lines own sent replies : List (List ℕ)) → length own ≡ length recipients
    → ◌≡◌ {A = List Handed} (record { mail = mail; recipients = recipients; lines = lines; replies = take (length recipients) (own ++ replies) } ∷ handed Between sent (drop (length recipients) (own ++ replies)))
    (record { mail = mail; recipients = recipients; lines = lines; replies = own } ∷ handed Between sent replies)
own_replies mail recipients lines own sent replies e =
    ap (λ (rs : List (List ℕ)). record { mail = mail; recipients = recipients; lines = lines; replies = rs } ∷ handed Between sent (drop (length recipients) (own ++ replies)))
    (take_at own replies (length recipients) e)
    ∙ ap (λ (rs : List (List ℕ)). record { mail = mail; recipients = recipients; lines = lines; replies = own } ∷ handed Between sent rs)
    (drop_at own replies (length recipients) e)

all_refuse : (host : List ℕ) (count : ℕ) (reply : Reply) → is_code (codes "250") (last_line host reply) ≡ false → AreRefusals (map (last_line host) (replicate count reply))
all_refuse host zero reply e = refl
all_refuse host (suc count) reply e =
    ap (λ (b : Bool). not b && list_all (λ r. not (is_code (codes "250") r)) (map (last_line host) (replicate count reply))) e ∙ all_refuse host count reply e

-- each of its recipients is refused
failed_step : (host : List ℕ) (directory : Directory) (n : ℕ) (mail : List ℕ) (recipients lines : List (List ℕ)) (mailboxes line : List ℕ) (reply : Reply) → AreNamed directory recipients mailboxes
    → is_end line ≡ true → is_code (codes "250") (last_line host reply) ≡ false
    → Step host directory (At (Sends mail recipients lines)) (line ∷ []) [] ([] ∷ []) (failed n mailboxes reply)
failed_step host directory n mail recipients lines mailboxes line reply a e c =
    let own : List (List ℕ) = map (last_line host) (replicate (length mailboxes) reply) in
    let size : length own ≡ length recipients =
    length-map (replicate (length mailboxes) reply) (last_line host) ∙ length-replicate (length mailboxes) reply ∙ sym (named_length directory recipients mailboxes a) in
    let message : Handed = record { mail = mail; recipients = recipients; lines = lines; replies = own } in
    record {
      next = At Between;
      messages = message ∷ [];
      fates = TurnedAway ∷ [];
      goes = ready;
      each = λ more others h. turned_away message size (all_refuse host (length mailboxes) reply c) h;
      reads = λ sent replies. end_read mail recipients lines line sent (own ++ replies) e ∙ own_replies mail recipients lines own sent replies size;
      submits = refl;
      tells = refl;
      closes = refl;
    }

outcome_step : (host : List ℕ) (directory : Directory) (setting : Setting) (n : ℕ) (mail : List ℕ) (recipients lines : List (List ℕ)) (sender mailboxes line : List ℕ) (o : Outcome)
    → IsSender mail sender → AreNamed directory recipients mailboxes → is_end line ≡ true
    → Step host directory (At (Sends mail recipients lines)) (line ∷ []) [] ((on_outcome setting n sender mailboxes lines o).submissions ∷ []) (on_outcome setting n sender mailboxes lines o)
outcome_step host directory setting n mail recipients lines sender mailboxes line outcomes.TooBig s a e = failed_step host directory n mail recipients lines mailboxes line MessageTooBig a e refl
outcome_step host directory setting n mail recipients lines sender mailboxes line outcomes.Nul s a e = failed_step host directory n mail recipients lines mailboxes line NulByte a e refl
outcome_step host directory setting n mail recipients lines sender mailboxes line outcomes.NoMemory s a e = failed_step host directory n mail recipients lines mailboxes line OutOfMemory a e refl
outcome_step host directory setting n mail recipients lines sender mailboxes line outcomes.Ok s a e =
    let submission : Submission = record { keys = keys_from setting n 0 mailboxes; mailboxes = mailboxes; text = undated (stored_text sender lines) } in
    record {
      next = Pends mail recipients lines submission;
      messages = [];
      fates = [];
      goes = waits (record { names = a; sender = sender; from = s; text = refl }) (named_length directory recipients mailboxes a);
      each = λ more others h. h;
      reads = λ sent replies. end_read mail recipients lines line sent replies e;
      submits = refl;
      tells = refl;
      closes = refl;
    }

data_step : (host : List ℕ) (directory : Directory) (setting : Setting) (n : ℕ) (mail : List ℕ) (recipients lines : List (List ℕ)) (sender mailboxes line : List ℕ) (is : Bool)
    → IsSender mail sender → AreNamed directory recipients mailboxes → is_end line ≡ is
    → Step host directory (At (Sends mail recipients lines)) (line ∷ []) []
    (if is then (if is then at_end setting false n sender mailboxes lines else turn (Data sender mailboxes (lines ++ line ∷ [])) n []).submissions ∷ [] else [])
    (if is then at_end setting false n sender mailboxes lines else turn (Data sender mailboxes (lines ++ line ∷ [])) n [])
data_step host directory setting n mail recipients lines sender mailboxes line true s a e =
    outcome_step host directory setting n mail recipients lines sender mailboxes line (outcome setting.max_message false (plain lines)) s a e
data_step host directory setting n mail recipients lines sender mailboxes line false s a e = record {
  next = At (Sends mail recipients (lines ++ line ∷ []));
  messages = [];
  fates = [];
  goes = sends s a;
  each = λ more others h. h;
  reads = λ sent replies. more_read mail recipients lines line sent replies e;
  submits = refl;
  tells = refl;
  closes = refl;
}

-- ---- events

pub line_step : (host : List ℕ) (directory now : Directory) → LooksSame directory now → (setting : Setting) (phase : Phase) (n : ℕ) (before : Stand) (line : List ℕ) → Goes directory phase before
    → IsListening phase → Step host directory before (line ∷ []) [] (ends_in phase (Line line) (on_line setting now phase n line)) (on_line setting now phase n line)
line_step host directory now same setting _ n _ line start l = between_step host directory line _ (line_spoken host directory now same Start n Between line start tt (λ d. d))
line_step host directory now same setting _ n _ line ready l = between_step host directory line _ (line_spoken host directory now same Ready n Between line ready tt (λ d. d))
line_step host directory now same setting _ n _ line (begun {sender = sender} {mailboxes = mailboxes} {mail = mail} {recipients = recipients} s a) l =
    begun_step host directory mail recipients line _ (line_spoken host directory now same (Transaction sender mailboxes) n (Begun mail recipients) line (begun s a) tt (λ d. d))
line_step host directory now same setting _ n _ line (sends {sender = sender} {mailboxes = mailboxes} {mail = mail} {recipients = recipients} {lines = lines} s a) l =
    data_step host directory setting n mail recipients lines sender mailboxes line (is_dot line) s a (same_end line)
line_step host directory now same setting _ n _ line (waits i m) l = absurd l
line_step host directory now same setting _ n _ line ended l = absurd l

pub starved_step : (host : List ℕ) (directory : Directory) (setting : Setting) (phase : Phase) (n : ℕ) (before : Stand) → Goes directory phase before
    → IsInData phase → Step host directory before (codes "." ∷ []) [] (ends_in phase Starved (on_starved setting phase n)) (on_starved setting phase n)
starved_step host directory setting _ n _ start d = absurd d
starved_step host directory setting _ n _ ready d = absurd d
starved_step host directory setting _ n _ (begun s a) d = absurd d
starved_step host directory setting _ n _ (sends {sender = sender} {mailboxes = mailboxes} {mail = mail} {recipients = recipients} {lines = lines} s a) d =
    outcome_step host directory setting n mail recipients lines sender mailboxes (codes ".") (outcome setting.max_message true (plain lines)) s a refl
starved_step host directory setting _ n _ (waits i m) d = absurd d
starved_step host directory setting _ n _ ended d = absurd d

same_count : (a b : ℕ) → Waiting a ≡ Waiting b → a ≡ b
same_count a b e = cc

pub verdicts_step : (host : List ℕ) (directory : Directory) (phase : Phase) (n : ℕ) (before : Stand) (verdicts : List Verdict) → Goes directory phase before
    → phase ≡ Waiting (length verdicts) → Step host directory before [] (verdicts ∷ []) (ends_in phase (Answered verdicts) (on_verdicts phase n verdicts)) (on_verdicts phase n verdicts)
verdicts_step host directory _ n _ verdicts start e = absurd cc
verdicts_step host directory _ n _ verdicts ready e = absurd cc
verdicts_step host directory _ n _ verdicts (begun s a) e = absurd cc
verdicts_step host directory _ n _ verdicts (sends s a) e = absurd cc
verdicts_step host directory _ n _ verdicts (waits {count = count} {mail = mail} {recipients = recipients} {lines = lines} {submission = submission} i m) e =
    let own : List (List ℕ) = map (last_line host) (map verdict_reply verdicts) in
    let many : length verdicts ≡ length recipients = sym (same_count count (length verdicts) e) ∙ sym m in
    let size : length own ≡ length recipients = length-map (map verdict_reply verdicts) (last_line host) ∙ length-map verdicts verdict_reply ∙ many in
    let message : Handed = record { mail = mail; recipients = recipients; lines = lines; replies = own } in
    record {
      next = At Between;
      messages = message ∷ [];
      fates = Judged submission verdicts ∷ [];
      goes = ready;
      each = λ more others h. judged message submission verdicts (record { names = i.names; sender = i.sender; from = i.from; text = i.text }) many refl h;
      reads = λ sent replies. own_replies mail recipients lines own sent replies size;
      submits = refl;
      tells = refl;
      closes = refl;
    }
verdicts_step host directory _ n _ verdicts ended e = absurd cc
