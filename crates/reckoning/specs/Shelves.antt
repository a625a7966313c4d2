-- What the mailboxes of a run hold: how they number it, and that it is what the history says.
use Rattle.std.specs.Prelude.{◌≡◌, ℕ, List, Vec, length, map}
use Rattle.std.specs.List.{range_with_len}
use Rattle.std.specs.List.Sorted.{IsStrictlyIncreasing}
use Rattle.std.specs.Global.{Global}
use Rattle.delivery_token.specs.Text.{Text}
use Rattle.delivery_token.specs.declared.CopyKey.{CopyKey}
use Rattle.house_history.specs.declared.event.Event.{Event}
use mathlib.Core.List.{IsPrefix}
use Rattle.shared_history.specs.Pages.{part}
use Rattle.house_history.specs.Events.{accepted_in, concerns}
use Rattle.locked_mailbox.specs.Locking.{Keeps, LockedMailbox}

-- The copies that a mailbox accepted have the UIDs from some first one on, with no gap.
abbrev pub AreNumbered : List (CopyKey × ℕ) → Type 0
AreNumbered accepted = (first : ℕ) × (map (λ pair. pair.1) accepted ≡ range_with_len first (length accepted))

-- The UIDs of the messages that are there rise: none is told twice.
abbrev pub AreToldOnce : List (ℕ × Text) → Type 0
AreToldOnce texts = IsStrictlyIncreasing (map (λ text. text.0) texts)

-- these are the copies that mailbox m accepted, by the history
abbrev pub HasAccepted : List Event → ℕ → Vec (CopyKey × ℕ) Global → Type 0
HasAccepted history m accepted = accepted.items ≡ accepted_in m history

-- All that has happened in the mailbox is known to it, and all that it knows is known here.
pub record IsTaught (history : List Event) (locked : LockedMailbox) : Type 0 where
  pub own : part concerns locked.mailbox.number locked.history ≡ locked.events
  pub known : IsPrefix locked.history history

-- This is the mailbox of that number: the history has of it just what happened there, and it is as that leaves it.
pub record IsRecorded (history : List Event) (number : ℕ) (locked : LockedMailbox) : Type 0 where
  pub here : locked.mailbox.number ≡ number
  pub own : part concerns number history ≡ locked.events
  pub kept : Keeps locked.mailbox number locked.events locked.last
