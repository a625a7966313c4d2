-- What a client's list has to do with the messages that its session counts.
use Rattle.std.specs.Prelude.{◌≡◌, ℕ, zero, suc, ◌<◌, ◌^◌, ◌+◌, Bool, true, List, [], ◌∷◌, length, Some}
use Rattle.change_ring.specs.declared.change.Change.{Change}
use Rattle.change_ring.specs.declared.change.Change.TheVariants.{Add, Gone, Flags as SetFlags}
use Rattle.change_ring.specs.Log.{FitsView}
use Rattle.change_ring.specs.View.{position}
use Rattle.laws_client.specs.Client.{Known, Messages, knowing, reads}
use Rattle.laws_client.specs.Clients.{Each, IsOf, IsRight}

-- A client that was between two lines read these bytes and is between two lines again. It was
-- told no number that it can't have, its list is as long as the view, and what it
-- knows of each message of the view is so.
pub record Follows (P : ℕ → Known → Type 0) (before : List Known) (bytes : List ℕ) (view : List ℕ) : Type 0 where
  pub after : List Known
  pub reads : reads (knowing (Some before)) bytes ≡ knowing (Some after)
  pub each : Each P view after

-- each client that is right about the one view reads these bytes, and is right about the other
abbrev pub Leads : List ℕ → List ℕ → List ℕ → Type 0
Leads view bytes new = (list : List Known) → IsRight view list → Follows IsOf list bytes new

-- a text after which a client is as right as before
abbrev pub Leaves : List ℕ → List ℕ → Type 0
Leaves view text = Leads view text view

-- a text that tells a client nothing of messages: it knows what it knew, or knows nothing, as before
abbrev pub TellsNothing : List ℕ → Type 0
TellsNothing text = (messages : Messages) → reads (knowing messages) text ≡ knowing messages

-- ---- what is learned

-- this holds of the message with this sequence number; the first has the number 1 (RFC 9051, 2.3.1.2)
abbrev pub HoldsOf : (Known → Type 0) → ℕ → List Known → Type 0
HoldsOf P zero list = ⊥
HoldsOf P (suc k) [] = ⊥
HoldsOf P (suc zero) (message ∷ list) = P message
HoldsOf P (suc (suc k)) (message ∷ list) = HoldsOf P (suc k) list

-- A client that had this list read these bytes, and knows the UID of the message at its position in the view. Its list is as long as the view.
pub record Learns (view : List ℕ) (uid : ℕ) (before : List Known) (bytes : List ℕ) : Type 0 where
  pub after : List Known
  pub reads : reads (knowing (Some before)) bytes ≡ knowing (Some after)
  pub long : length after ≡ length view
  pub learned : HoldsOf (λ message. message.uid ≡ Some uid) (position uid view) after

-- whatever it knew before, if its list was as long
abbrev pub HearsUid : List ℕ → ℕ → List ℕ → Type 0
HearsUid view uid bytes = (list : List Known) → length list ≡ length view → Learns view uid list bytes

-- each of these messages is known by its UID
abbrev pub IsKnownTo : (ℕ → Bool) → ℕ → Known → Type 0
IsKnownTo known uid message = known uid ≡ true → message.uid ≡ Some uid

-- Whichever messages of the view a client knows by their UIDs, it reads these bytes, and knows them by their UIDs still.
abbrev pub KeepsUids : List ℕ → List ℕ → Type 0
KeepsUids view bytes = (known : ℕ → Bool) (list : List Known) → Each (IsKnownTo known) view list → Follows (IsKnownTo known) list bytes view

-- ---- changes whose lines can be read

-- the UIDs of flag changes are numbers that a line has
abbrev pub ArePrinted : List Change → Type 0
ArePrinted [] = Unit {0}
ArePrinted (Add uid ∷ changes) = ArePrinted changes
ArePrinted (Gone uid ∷ changes) = ArePrinted changes
ArePrinted (SetFlags uid flags ∷ changes) = (uid < 2 ^ 64) × ArePrinted changes

-- These changes may be shown to a client that counts this view: none speaks of a message that isn't there, and all numbers can be printed.
pub record MayShow (view : List ℕ) (changes : List Change) : Type 0 where
  pub fits : FitsView view changes
  pub printed : ArePrinted changes
  pub few : length view + length changes < 2 ^ 64
