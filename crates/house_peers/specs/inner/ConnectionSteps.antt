-- What a step of a connection comes to.
use Rattle.std.specs.Prelude.{ℕ, List}
use Rattle.delivery_token.specs.declared.CopyKey.{CopyKey}
use Rattle.delivery_token.specs.declared.Verdict.{Verdict}
use Rattle.delivery_token.specs.declared.log.Noted.{Noted}
use Rattle.lmtp_machine.specs.Dialogue as dialogue
use Rattle.house_peers.specs.HouseConnection.{HouseConnection}
use Rattle.house_peers.specs.Caller.{Caller, IsAnswered, Terms}
use Rattle.house_peers.specs.inner.Meeting.{meets}
use Rattle.house_peers.specs.ConnectionStands.{StandsForConnection}

-- the verdicts were said, and nothing is awaited any more
pub record SaidVerdicts (k : Terms) (seat : ℕ) (next : CopyKey) (heard : List Noted) (b : Caller) (verdicts : List Verdict)
    (h : HouseConnection) : Type 0 where
  pub answered : IsAnswered heard b verdicts
  pub stands : StandsForConnection k seat next heard h (meets k seat b (dialogue.Answered verdicts))
