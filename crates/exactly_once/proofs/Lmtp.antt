-- LMTP is a dialogue that says of copies only what verdicts say.
use Rattle.std.proofs.Common.{◌≡◌, ℕ, ◌⊎◌, ◌+◌, inl, inr, List, [], ◌∷◌, length, map, refl, sym, subst}
use Rattle.delivery_token.specs.declared.Verdict.{Verdict}
use Rattle.lmtp_machine.specs.declared.reply.Reply.{Reply}
use Rattle.lmtp_machine.specs.declared.reply.Reply.TheVariants.{Greeting}
use Rattle.lmtp_machine.specs.Dialogue.{Phase, Start, Ready, Transaction, Data, Waiting, Ended, Setting, Submission, Turn, fresh, on_verdicts, verdict_reply}
use Rattle.lmtp_machine.specs.Dialogue as dialogue
use Rattle.lmtp_machine.specs.Kept.{AreMessages}
use Rattle.lmtp_machine.proofs.Kept.{event_keeps, fresh_kept, leads_keeps}
use Rattle.house_peers.specs.Speech.{AreNumbered, AreQuiet, IsSpeech}
use Rattle.house_peers.specs.Lmtp.{lmtp}
use Rattle.exactly_once.proofs.Quiet.{Quiet, quiet_not, lines_quiet}

quiet : (rs : List Reply) → Quiet rs → AreQuiet lmtp rs
quiet [] q = tt
quiet (r ∷ rs) q = (quiet_not r q.0, quiet rs q.1)

numbered : (setting : Setting) (mailboxes first : ℕ) (ss : List Submission) (next : ℕ) → AreMessages setting mailboxes first ss next → AreNumbered setting first ss next
numbered setting mailboxes first [] next m = m
numbered setting mailboxes first (s ∷ ss) next m = (m.0.keys, numbered setting mailboxes (first + 1) ss next m.1)

known : (phase : Phase) (n : ℕ) (vs : List Verdict) → ((on_verdicts phase n vs).replies ≡ []) ⊎ ((on_verdicts phase n vs).replies ≡ map verdict_reply vs)
known (Waiting count) n vs = inr refl
known Start n vs = inl refl
known Ready n vs = inl refl
known (Transaction sender recipients) n vs = inl refl
known (Data sender recipients lines) n vs = inl refl
known Ended n vs = inl refl

same_number : (phase : Phase) (n : ℕ) (vs : List Verdict) → (on_verdicts phase n vs).standing.submitted ≡ n
same_number (Waiting count) n vs = refl
same_number Start n vs = refl
same_number Ready n vs = refl
same_number (Transaction sender recipients) n vs = refl
same_number (Data sender recipients lines) n vs = refl
same_number Ended n vs = refl

pub lmtp_is : IsSpeech lmtp
lmtp_is = record {
  greets = λ setting directory. (quiet (Greeting ∷ []) (tt, tt), (event_keeps setting directory fresh dialogue.Opened (fresh_kept directory)).kept, refl);
  talks = λ setting directory before taken turn after l k. (
    subst (λ (x : Turn). AreQuiet lmtp x.replies) (sym l.turns) (quiet (dialogue.dialogue setting directory before.standing l.events).replies (lines_quiet setting directory before.standing l.heard)),
    (leads_keeps setting directory before taken turn after l k).kept,
    numbered setting (length directory.homes) before.standing.submitted turn.submissions after.standing.submitted (leads_keeps setting directory before taken turn after l k).numbered.are,
  );
  answers = λ setting directory at vs k. (
    known at.standing.phase at.standing.submitted vs,
    (event_keeps setting directory at.standing (dialogue.Answered vs) k).kept,
    same_number at.standing.phase at.standing.submitted vs,
  );
}
