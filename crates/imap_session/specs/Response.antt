-- A response, as it is written.
use Rattle.std.specs.Prelude.{ℕ, List}
use Rattle.line_io.specs.Outlet.{Lot}

-- The tag of the command that is answered, how many bytes of room are held for the last line, what was written so far, the responses before this one
-- too, and what writing doesn't change of the outlet.
pub record Response : Type 0 where
  pub tag : List ℕ
  pub held : ℕ
  pub text : List ℕ
  pub lot : Lot
