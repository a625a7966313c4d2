-- What bodies and proofs say besides: the copies that a mailbox took: all of them, whether or not they can be read.
use Rattle.std.specs.Prelude.{◌≡◌, ◌≤◌}
use Rattle.mailbox.specs.declared.history.History.TheVariants.{Kept}
use Rattle.mailbox.specs.Accepted.{Accepted}

-- one more can be taken without memory
abbrev pub HasRoom : Accepted → Type 0
HasRoom c = c.history ≡ Kept → 1 ≤ c.spare
