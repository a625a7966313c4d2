-- What a line of a script comes to that asks for an event of the house, by how the house answered it.
use Rattle.std.proofs.Common.{◌≡◌, ℕ, ◌++◌, List, refl, sym, ap, ◌∙◌, arith}
use Rattle.std.specs.Prelude.{codes, false, true}
use Rattle.envelope.specs.Names.{Directory, is_shut}
use Rattle.house.specs.declared.event.Event.{Event}
use Rattle.house.specs.declared.event.Event.TheVariants.{Bytes, Vanish, Put, Take, Deliver, Answer, Hear, End, Close, Enter, Say, Idle, Leave}
use Rattle.house.specs.House.{House}
use Rattle.house.specs.Setup.{Setup}
use Rattle.house.specs.Scene.{Plays, Scene}
use Rattle.house.specs.Stands.{StandsFor}
use Rattle.house.specs.Steps.{IsBusy, IsNobody, Led, MayFindNothing}
use Rattle.script.specs.Leaving.{LineBegins}
use Rattle.script.specs.Script.{asks, asks_lingering, asks_nobody, closes, closes_again, closes_nobody, enters, enters_nowhere, enters_taken, leaves, leaves_again, leaves_nobody, sends, sends_to_nobody, sends_to_owing, vanishes, vanishes_again, vanishes_away, LineDoes}
use Rattle.script.specs.Promise.{refusal}
use Rattle.script.specs.inner.Running.{LineDone, line_for}
use Rattle.script.proofs.RunLaws.{away, nobody_there, owing}
use Rattle.script.proofs.SessionLaws.{known, lingering, nowhere, unvisited, visited}

-- it happened
does : (k : Setup) (number : ℕ) (s t : Scene) (e : Event) (printed : List ℕ) → (MayFindNothing e → ⊥) → Plays k true s e t printed → LineDoes k number s t printed (line_for e)
does k number s t (Bytes connection piece) printed is plays = sends connection piece.now plays
does k number s t (Vanish connection) printed is plays = vanishes connection plays
does k number s t (Enter session user) printed is plays = enters session user.now plays
does k number s t (Say session piece) printed is plays = asks session piece.now plays
does k number s t (Leave session) printed is plays = leaves session plays
does k number s t (Close shard) printed is plays = closes shard plays
does k number s t (Put seat) printed is plays = absurd (is tt)
does k number s t (Take shard) printed is plays = absurd (is tt)
does k number s t (Deliver shard) printed is plays = absurd (is tt)
does k number s t (Answer shard) printed is plays = absurd (is tt)
does k number s t (Hear seat) printed is plays = absurd (is tt)
does k number s t (End seat shard) printed is plays = absurd (is tt)
does k number s t (Idle session) printed is plays = absurd (is tt)

pub event_done : (k : Setup) (number : ℕ) (s : Scene) (e : Event) (h : House) (old new : List ℕ) → (MayFindNothing e → ⊥) → Led k true s e h old new → LineDone k number (line_for e) s h old new
event_done k number s e h old new is led = record {
  after = led.after;
  printed = led.printed;
  does = does k number s led.after e led.printed is led.plays;
  stands = led.stands;
  out = led.out;
}

-- nobody is there
refuses : (k : Setup) (number : ℕ) (s : Scene) (e : Event) (h : House) → (MayFindNothing e → ⊥) → StandsFor k h s → IsNobody h e → LineDoes k number s s (refusal number (codes "Nobody")) (line_for e)
refuses k number s (Bytes connection piece) h is st nobody = sends_to_nobody connection piece.now (nobody_there k h s connection st nobody) refl refl
refuses k number s (Vanish connection) h is st nobody = vanishes_away connection (away k h s connection st nobody) refl refl
refuses k number s (Enter session user) h is st nobody = enters_nowhere session user.now (nowhere k h s session user.now st nobody) refl refl
refuses k number s (Say session piece) h is st nobody = asks_nobody session piece.now (unvisited k h s session st nobody) refl refl
refuses k number s (Leave session) h is st nobody = leaves_nobody session (unvisited k h s session st nobody) refl refl
refuses k number s (Close shard) h is st nobody = let n = ap (λ (d : Directory). d.shards) st.directory ∙ st.shards in closes_nobody shard (omega (arith, nobody, n)) refl refl
refuses k number s (Put seat) h is st nobody = absurd (is tt)
refuses k number s (Take shard) h is st nobody = absurd (is tt)
refuses k number s (Deliver shard) h is st nobody = absurd (is tt)
refuses k number s (Answer shard) h is st nobody = absurd (is tt)
refuses k number s (Hear seat) h is st nobody = absurd (is tt)
refuses k number s (End seat shard) h is st nobody = absurd (is tt)
refuses k number s (Idle session) h is st nobody = absurd (is tt)

pub event_nobody : (k : Setup) (number : ℕ) (s : Scene) (e : Event) (h : House) (old new : List ℕ) → (MayFindNothing e → ⊥) → StandsFor k h s → IsNobody h e
    → new ≡ old ++ refusal number (codes "Nobody") → LineDone k number (line_for e) s h old new
event_nobody k number s e h old new is st nobody told = record { after = s; printed = _; does = refuses k number s e h is st nobody; stands = st; out = told }

-- whoever is there can't
defers : (k : Setup) (number : ℕ) (s : Scene) (e : Event) (h : House) → (MayFindNothing e → ⊥) → StandsFor k h s → IsBusy h e → LineDoes k number s s (refusal number (codes "Busy")) (line_for e)
defers k number s (Bytes connection piece) h is st busy = sends_to_owing connection piece.now (owing k h s connection st busy) refl refl
defers k number s (Vanish connection) h is st busy = vanishes_again connection (owing k h s connection st busy) refl refl
defers k number s (Enter session user) h is st busy = enters_taken session user.now (known k h s user.now st busy.0) (visited k h s session st busy.1) refl refl
defers k number s (Say session piece) h is st busy = asks_lingering session piece.now (lingering k h s session st busy) refl refl
defers k number s (Leave session) h is st busy = leaves_again session (lingering k h s session st busy) refl refl
defers k number s (Close shard) h is st busy = closes_again shard (sym (ap (λ (d : Directory). is_shut d shard) st.directory) ∙ busy.1) refl refl
defers k number s (Put seat) h is st busy = absurd busy
defers k number s (Take shard) h is st busy = absurd busy
defers k number s (Deliver shard) h is st busy = absurd busy
defers k number s (Answer shard) h is st busy = absurd busy
defers k number s (Hear seat) h is st busy = absurd busy
defers k number s (End seat shard) h is st busy = absurd busy
defers k number s (Idle session) h is st busy = absurd (is tt)

pub event_busy : (k : Setup) (number : ℕ) (s : Scene) (e : Event) (h : House) (old new : List ℕ) → (MayFindNothing e → ⊥) → StandsFor k h s → IsBusy h e
    → new ≡ old ++ refusal number (codes "Busy") → LineDone k number (line_for e) s h old new
event_busy k number s e h old new is st busy told = record { after = s; printed = _; does = defers k number s e h is st busy; stands = st; out = told }

-- it happened in part
pub event_begun : (k : Setup) (s t : Scene) (e : Event) (printed : List ℕ) → (MayFindNothing e → ⊥) → Plays k false s e t printed → LineBegins k s t printed (line_for e)
event_begun k s t (Bytes connection piece) printed is plays = plays
event_begun k s t (Vanish connection) printed is plays = plays
event_begun k s t (Enter session user) printed is plays = plays
event_begun k s t (Say session piece) printed is plays = plays
event_begun k s t (Leave session) printed is plays = plays
event_begun k s t (Close shard) printed is plays = plays
event_begun k s t (Put seat) printed is plays = absurd (is tt)
event_begun k s t (Take shard) printed is plays = absurd (is tt)
event_begun k s t (Deliver shard) printed is plays = absurd (is tt)
event_begun k s t (Answer shard) printed is plays = absurd (is tt)
event_begun k s t (Hear seat) printed is plays = absurd (is tt)
event_begun k s t (End seat shard) printed is plays = absurd (is tt)
event_begun k s t (Idle session) printed is plays = absurd (is tt)
