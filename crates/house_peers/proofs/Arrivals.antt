-- Bytes that come for a caller.
use Rattle.std.proofs.Common.{ℕ, ◌++◌, List, ap}
use Rattle.delivery_token.specs.declared.CopyKey.{CopyKey}
use Rattle.delivery_token.specs.declared.log.Noted.{Noted}
use Rattle.house_peers.specs.HouseConnection.{HouseConnection}
use Rattle.house_peers.specs.Caller.{Caller, Terms, more_waits}
use Rattle.house_peers.specs.Taking.{with_more}
use Rattle.house_peers.specs.ConnectionStands.{StandsForConnection}

pub more_stands : (k : Terms) (seat : ℕ) (next : CopyKey) (heard : List Noted) (h : HouseConnection) (b : Caller) (piece : List ℕ) → StandsForConnection k seat next heard h b
    → StandsForConnection k seat next heard (with_more piece h) (more_waits b piece)
more_stands k seat next heard h b piece s = record {
  serial = s.serial;
  gone = s.gone;
  setting = s.setting;
  host = s.host;
  machine = s.machine;
  waits = ap (λ (l : List ℕ). l ++ piece) s.waits;
  unsaid = s.unsaid;
  pending = s.pending;
  to_put = s.to_put;
  verdicts = s.verdicts;
  awaited = s.awaited;
  kept = s.kept;
  message = s.message;
  numbered = s.numbered;
  ahead = s.ahead;
}
