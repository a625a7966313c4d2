-- Where a dialogue stands by its machine's stage, and what is said last there.
use Rattle.std.proofs.Common.{◌≡◌, ◌≢◌, ◌∙◌, ◌++◌, ap, refl, sym, subst, List, ℕ, [], ◌∷◌, true, false}
use Rattle.envelope.specs.Names.{Directory}
use Rattle.lmtp_machine.specs.declared.commands.Stage.{Stage}
use Rattle.lmtp_machine.specs.declared.commands.Stage.TheVariants as stages
use Rattle.lmtp_machine.specs.declared.reply.Reply.TheVariants.{ShuttingDown}
use Rattle.lmtp_machine.specs.Calls.{Happens}
use Rattle.lmtp_machine.specs.Conversation.{Conversation}
use Rattle.lmtp_machine.specs.Dialogue.{Phase, Start, Ready, Transaction, Data, Waiting, Ended, wire}
use Rattle.lmtp_machine.specs.Dialogue as on
use Rattle.lmtp_machine.specs.LmtpMachine.{LmtpMachine, StandsFor, IsHere, is_data}
use Rattle.lmtp_machine.specs.Standing.{phase_of}
use Rattle.lane_work.specs.Talk.{last_words}

-- a machine that has ended stands for a dialogue that has ended
pub has_ended : (m : LmtpMachine) (c : Conversation) → m.commands.stage ≡ stages.Ended → StandsFor m c → c.standing.phase ≡ Ended
has_ended m c e s =
    let here : IsHere stages.Ended m c = subst (λ x. IsHere x m c) e s.here in
    ap (λ x. x.phase) here ∙ ap (λ x. phase_of x m.commands.sender m.commands.recipients) e

-- and no other does
pub goes_on : (m : LmtpMachine) (c : Conversation) → (m.commands.stage ≡ stages.Ended → ⊥) → StandsFor m c → c.standing.phase ≢ Ended
goes_on m c not s over = go m.commands.stage refl s.here where
  phase_at : (stage : Stage) → m.commands.stage ≡ stage → c.standing.phase ≡ phase_of m.commands.stage m.commands.sender m.commands.recipients → phase_of stage m.commands.sender m.commands.recipients ≡ Ended
  phase_at stage e p = ap (λ x. phase_of x m.commands.sender m.commands.recipients) (sym e) ∙ sym p ∙ over

  go : (stage : Stage) → m.commands.stage ≡ stage → IsHere stage m c → ⊥
  go stages.Start e h = let x : Start ≡ Ended = phase_at stages.Start e (ap (λ x. x.phase) h.standing) in cc
  go stages.Ready e h = let x : Ready ≡ Ended = phase_at stages.Ready e (ap (λ x. x.phase) h.standing) in cc
  go stages.Transaction e h = let x : Transaction m.commands.sender m.commands.recipients ≡ Ended = phase_at stages.Transaction e (ap (λ x. x.phase) h.standing) in cc
  go stages.Waiting e h = let x : phase_of stages.Waiting m.commands.sender m.commands.recipients ≡ Ended = phase_at stages.Waiting e (ap (λ x. x.phase) h.standing) in cc
  go stages.Data e h = let x : Data m.commands.sender m.commands.recipients h.lines ≡ Ended = sym h.phase ∙ over in cc
  go stages.Ended e h = not e

pub others_say_it : (phase : Phase) → is_data phase ≡ false → phase ≢ Ended → last_words phase ≡ ShuttingDown ∷ []
others_say_it Start d e = refl
others_say_it Ready d e = refl
others_say_it (Transaction sender recipients) d e = refl
others_say_it (Data sender recipients lines) d e = absurd (let x : true ≡ false = d in cc)
others_say_it (Waiting count) d e = refl
others_say_it Ended d e = absurd (e refl)

nowhere : Directory
nowhere = record { domains = []; homes = []; shards = 0; shut = [] }

-- that it shuts down is said
pub shut_said : (m after : LmtpMachine) (c : Conversation) (old new : List ℕ) → is_data c.standing.phase ≡ false → (m.commands.stage ≡ stages.Ended → ⊥)
    → ((d : Directory) (k : Conversation) → StandsFor m k → Happens (StandsFor after) m.setting m.host d k on.Shut old new)
    → StandsFor m c → new ≡ old ++ wire m.host (last_words c.standing.phase)
shut_said m after c old new outside not shuts s =
    (shuts nowhere c s).said ∙ ap (λ l. old ++ wire m.host l) (sym (others_say_it c.standing.phase outside (goes_on m c not s)))
