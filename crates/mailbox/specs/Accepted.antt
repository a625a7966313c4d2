-- The copies that a mailbox took: all of them, whether or not they can be read.
use Rattle.std.specs.Prelude.{ℕ, List, []}
use Rattle.delivery_token.specs.declared.CopyKey.{CopyKey}
use Rattle.mailbox.specs.declared.history.History.{History}
use Rattle.mailbox.specs.declared.history.History.TheVariants.{Kept, Unkept}

-- whether they are kept, each with its UID, in the order of the deliveries, and for how many more there is room
pub record Accepted : Type 0 where
  pub history : History
  pub items : List (CopyKey × ℕ)
  pub spare : ℕ

-- what can be read of them: all where they are kept, and else none
abbrev pub kept_of : History → List (CopyKey × ℕ) → List (CopyKey × ℕ)
kept_of Kept copies = copies
kept_of Unkept copies = []
