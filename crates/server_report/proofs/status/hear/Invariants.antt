use Rattle.std.proofs.Common.{◌≡◌, ◌<◌, ◌≤◌, length, take}
use Rattle.std.specs.Io.KnownBytes.{Consumes}
use Rattle.httparse.specs.Grammar.{HasNoRequest}
use Rattle.server_report.proofs.status.hear.Given as goal

abbrev pub invariant-loop : goal.invariant-loop
invariant-loop g l = record {
  len : length l.buffer ≡ length l.fn.buffer;
  room : l.came < length l.buffer;
  grew : l.counter ≤ l.came;
  none : 0 < l.counter → HasNoRequest (take l.came l.buffer);
  consumed : Consumes (g.I.Read.remaining l.fn.input) (g.I.Read.remaining l.input) (take l.came l.buffer);
}
