-- Where a message was submitted its verdicts are awaited.
use Rattle.std.proofs.Common.{◌≡◌, ◌⊎◌, inl, inr, ℕ, true, false, List, [], ◌∷◌, ◌++◌, length, refl, ap, sym, ◌∙◌, if◌then◌else◌}
use Rattle.delivery_token.specs.declared.Verdict.{Verdict}
use Rattle.dot_stuffing.specs.declared.Outcome.{Outcome}
use Rattle.dot_stuffing.specs.declared.Outcome.TheVariants as outcomes
use Rattle.envelope.specs.Names.{Directory}
use Rattle.lmtp_machine.specs.Message.{outcome, plain}
use Rattle.lmtp_machine.specs.Dialogue.{Phase, Start, Ready, Transaction, Data, Waiting, Ended, Standing, Setting, Submission, Event, Opened, Line, Starved, Answered, Shut, Turn, turn, at_end, is_dot, on_event, on_line, on_outcome, on_starved, on_verdicts}
use Rattle.lmtp_machine.proofs.Kept.{keys_length}
use Rattle.lmtp_machine.proofs.Turns.{line_spoken}

-- nothing was submitted, or a message was, and a verdict for each of its keys is awaited
abbrev pub Waits : Turn → Type 0
Waits t = (t.submissions ≡ []) ⊎ ((message : Submission) × (t.submissions ≡ message ∷ []) × (t.standing.phase ≡ Waiting (length message.keys)))

outcome_waits : (setting : Setting) (n : ℕ) (sender recipients : List ℕ) (lines : List (List ℕ)) (o : Outcome) → Waits (on_outcome setting n sender recipients lines o)
outcome_waits setting n sender recipients lines outcomes.TooBig = inl refl
outcome_waits setting n sender recipients lines outcomes.Nul = inl refl
outcome_waits setting n sender recipients lines outcomes.NoMemory = inl refl
outcome_waits setting n sender recipients lines outcomes.Ok = inr (_, refl, ap Waiting (sym (keys_length setting n 0 recipients)))

line_waits : (setting : Setting) (directory : Directory) (phase : Phase) (n : ℕ) (l : List ℕ) → Waits (on_line setting directory phase n l)
line_waits setting directory Start n l = inl (line_spoken directory Start n l tt).submissions
line_waits setting directory Ready n l = inl (line_spoken directory Ready n l tt).submissions
line_waits setting directory (Transaction sender recipients) n l = inl (line_spoken directory (Transaction sender recipients) n l tt).submissions
line_waits setting directory (Data sender recipients lines) n l =
    elim (is_dot l) as (λ b. Waits (if b then at_end setting false n sender recipients lines else turn (Data sender recipients (lines ++ l ∷ [])) n [])) [
      | true ↦ outcome_waits setting n sender recipients lines (outcome setting.max_message false (plain lines))
      | false ↦ inl refl
    ]
line_waits setting directory (Waiting count) n l = inl refl
line_waits setting directory Ended n l = inl refl

starved_waits : (setting : Setting) (phase : Phase) (n : ℕ) → Waits (on_starved setting phase n)
starved_waits setting Start n = inl refl
starved_waits setting Ready n = inl refl
starved_waits setting (Transaction sender recipients) n = inl refl
starved_waits setting (Data sender recipients lines) n = outcome_waits setting n sender recipients lines (outcome setting.max_message true (plain lines))
starved_waits setting (Waiting count) n = inl refl
starved_waits setting Ended n = inl refl

-- verdicts submit nothing
pub verdicts_quiet : (phase : Phase) (n : ℕ) (verdicts : List Verdict) → (on_verdicts phase n verdicts).submissions ≡ []
verdicts_quiet Start n verdicts = refl
verdicts_quiet Ready n verdicts = refl
verdicts_quiet (Transaction sender recipients) n verdicts = refl
verdicts_quiet (Data sender recipients lines) n verdicts = refl
verdicts_quiet (Waiting count) n verdicts = refl
verdicts_quiet Ended n verdicts = refl

event_waits : (setting : Setting) (directory : Directory) (s : Standing) (event : Event) → Waits (on_event setting directory s event)
event_waits setting directory s Opened = inl refl
event_waits setting directory s (Line l) = line_waits setting directory s.phase s.submitted l
event_waits setting directory s Starved = starved_waits setting s.phase s.submitted
event_waits setting directory s (Answered verdicts) = inl (verdicts_quiet s.phase s.submitted verdicts)
event_waits setting directory s Shut = inl refl

-- where this message was submitted
pub message_waits : (setting : Setting) (directory : Directory) (s : Standing) (event : Event) (message : Submission) → (on_event setting directory s event).submissions ≡ message ∷ []
    → (on_event setting directory s event).standing.phase ≡ Waiting (length message.keys)
message_waits setting directory s event message one = elim (event_waits setting directory s event) [
  | inl e ↦ absurd (let k : message ∷ [] ≡ [] = sym one ∙ e in cc)
  | inr w ↦ (let same : w.0 ∷ [] ≡ message ∷ [] = sym w.1 ∙ one in let is : w.0 ≡ message = cc in w.2 ∙ ap (λ (m : Submission). Waiting (length m.keys)) is)
]
