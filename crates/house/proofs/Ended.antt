-- Ends of seats, and who stands at a seat.
use Rattle.std.proofs.Common.{◌≡◌, ℕ, if◌then◌else◌, ◌+◌, ◌-◌, ◌<◌, ◌++◌, Option, None, Some, Bool, true, false, List, [], ◌∷◌, length, refl, ap, sym, ◌∙◌, subst, arith, get_or}
use Rattle.std.specs.Prelude.{nat_lt}
use Rattle.std.specs.Option.{is_some}
use Rattle.std.proofs.lemmas.Bool.Decides.{nat_tests}
use Rattle.world.specs.World.{Config}
use Rattle.delivery_core.specs.DeliveryCore.{DeliveryCore}
use Rattle.delivery_core.specs.Stands as core
use Rattle.std.proofs.lemmas.List.{append-nil}
use Rattle.delivery_token.specs.declared.CopyKey.{CopyKey}
use Rattle.world.specs.World as world
use Rattle.house_peers.specs.HouseConnection.{HouseConnection}
use Rattle.house.specs.House.{House}
use Rattle.house_peers.specs.Caller.{Caller}
use Rattle.house.specs.Setup.{Setup, session_seat, terms_of}
use Rattle.house_peers.specs.Visitor.{SeatedVisitor}
use Rattle.house_peers.specs.SeatedSession.{SeatedSession}
use Rattle.house.specs.Scene.{Moves, Scene, with_world}
use Rattle.house.specs.Stands.{StandsFor, StandsForOne, StandsForVisit}
use Rattle.house_peers.specs.Taking.{due}
use Rattle.house.specs.Steps.{due_at, due_by, due_of, is_taken}
use Rattle.house.proofs.Worldly.{moves}

-- nobody stands at this seat, neither a connection nor a session
pub record IsFree (k : Setup) (s : Scene) (seat : ℕ) : Type 0 where
  pub connection : seat < k.connections → s.caller seat ≡ None
  pub session : (place : ℕ) → seat ≡ session_seat k place → s.visitor place ≡ None

-- an end joins, whoever stands at the seat
pub end_led : (k : Setup) (h : House) (s : Scene) (c : DeliveryCore) (seat shard : ℕ) (old : List ℕ) → StandsFor k h s → ((x : Config) → core.Follows x h.core (world.PutEnd seat shard ∷ []) c) → c.heard ≡ h.core.heard → c.next ≡ h.core.next
    → (t : Scene) × (printed : List ℕ) × Moves k s (world.PutEnd seat shard) t printed
    × StandsFor k (record { core = c; callers = h.callers; serials = h.serials; visitors = h.visitors; entered = h.entered; directory = h.directory; host = h.host; max_message = h.max_message; compatible = h.compatible }) t × (old ≡ old ++ printed)
end_led k h s c seat shard old st follows eh en =
    let m = moves k h c s (world.PutEnd seat shard) st follows eh en in
    (with_world s m.0, [], m.1, m.2, sym (append-nil old))

-- nobody is in the scene where no line stands
pub nobody_at : (k : Setup) (h : House) (s : Scene) (seat : ℕ) → StandsFor k h s → seat < length h.callers → get_or h.callers seat None ≡ None → s.caller seat ≡ None
nobody_at k h s seat st lt none = go (s.caller seat) refl (subst (λ (x : Option HouseConnection). StandsForOne (terms_of k s.shut) seat (get_or h.core.next seat y) (s.world.heard seat) (s.next seat) x (s.caller seat)) none (st.each seat y 0 None lt).who)
  where
    y : CopyKey
    y = record { seat = 0; serial = 0; message = 0; recipient = 0 }

    go : (o : Option Caller) → s.caller seat ≡ o → StandsForOne (terms_of k s.shut) seat (get_or h.core.next seat y) (s.world.heard seat) (s.next seat) None o → s.caller seat ≡ None
    go None e w = e
    go (Some b) e w = absurd w

-- nor is a session where no seat stands
pub nobody_at_place : (k : Setup) (h : House) (s : Scene) (place : ℕ) → StandsFor k h s → place < length h.visitors → get_or h.visitors place None ≡ None → s.visitor place ≡ None
nobody_at_place k h s place st lt none =
    go (s.visitor place) refl (subst (λ (x : Option SeatedSession). StandsForVisit (session_seat k place) (get_or h.core.next (session_seat k place) y) (s.world.heard (session_seat k place)) (s.entered place) x (s.visitor place)) none (st.visitors place y 0 None lt).who)
  where
    y : CopyKey
    y = record { seat = 0; serial = 0; message = 0; recipient = 0 }

    go : (o : Option SeatedVisitor) → s.visitor place ≡ o → StandsForVisit (session_seat k place) (get_or h.core.next (session_seat k place) y) (s.world.heard (session_seat k place)) (s.entered place) None o → s.visitor place ≡ None
    go None e w = e
    go (Some b) e w = absurd w

-- ---- seats of both kinds

-- a number is that of a connection, or of a session behind them
pub data Whose (h : House) (seat : ℕ) : Type 0 where
  of_connection : seat < length h.callers → Whose h seat
  of_session : (place : ℕ) → place < length h.visitors → seat ≡ length h.callers + place → Whose h seat

not_some : {A : Type 0} (o : Option A) → is_some o ≡ false → o ≡ None
not_some None e = refl
not_some (Some x) e = absurd (let f : true ≡ false = e in cc)

taken_first : (h : House) (seat : ℕ) → seat < length h.callers → is_taken h seat ≡ is_some (get_or h.callers seat None)
taken_first h seat l = ap (λ (b : Bool). if b then is_some (get_or h.callers seat None) else is_some (get_or h.visitors (seat - length h.callers) None)) (let e : nat_lt seat (length h.callers) ≡ true = grind (arith, nat_tests, l) in e)

taken_behind : (h : House) (seat place : ℕ) → seat ≡ length h.callers + place → is_taken h seat ≡ is_some (get_or h.visitors place None)
taken_behind h seat place e =
    ap (λ (b : Bool). if b then is_some (get_or h.callers seat None) else is_some (get_or h.visitors (seat - length h.callers) None)) (let f : nat_lt seat (length h.callers) ≡ false = grind (arith, nat_tests, e) in f)
    ∙ ap (λ (n : ℕ). is_some (get_or h.visitors n None)) (let x : seat - length h.callers ≡ place = omega (arith, e) in x)

-- what is due at a seat
pub due_first : (h : House) (seat : ℕ) (g : HouseConnection) → seat < length h.callers → get_or h.callers seat None ≡ Some g → due_at h seat ≡ due g
due_first h seat g l e =
    ap (λ (b : Bool). if b then due_by (get_or h.callers seat None) else due_of (get_or h.visitors (seat - length h.callers) None)) (let f : nat_lt seat (length h.callers) ≡ true = grind (arith, nat_tests, l) in f) ∙ ap due_by e

pub due_behind : (h : House) (seat place : ℕ) (g : SeatedSession) → seat ≡ length h.callers + place → get_or h.visitors place None ≡ Some g → due_at h seat ≡ due_of (Some g)
due_behind h seat place g at e =
    ap (λ (b : Bool). if b then due_by (get_or h.callers seat None) else due_of (get_or h.visitors (seat - length h.callers) None)) (let f : nat_lt seat (length h.callers) ≡ false = grind (arith, nat_tests, at) in f)
    ∙ ap (λ (n : ℕ). due_of (get_or h.visitors n None)) (let x : seat - length h.callers ≡ place = omega (arith, at) in x) ∙ ap due_of e

-- where nobody is taken down for a seat, it is free
pub vacant_free : (k : Setup) (h : House) (s : Scene) (seat : ℕ) → StandsFor k h s → seat < length h.callers + length h.visitors → is_taken h seat ≡ false → IsFree k s seat
vacant_free k h s seat st l none = record {
  connection = λ a. let b : seat < length h.callers = let e = st.connections in omega (arith, a, e) in nobody_at k h s seat st b (not_some (get_or h.callers seat None) (sym (taken_first h seat b) ∙ none));
  session = λ place e.
      let f : seat ≡ length h.callers + place = let c = st.connections in omega (arith, e, c) in
      nobody_at_place k h s place st (omega (arith, f, l)) (not_some (get_or h.visitors place None) (sym (taken_behind h seat place f) ∙ none));
}
