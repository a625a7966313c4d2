use Rattle.std.proofs.Common.{◌≡◌, ℕ, ◌*◌, ◌^◌, ◌≤◌, length, List, Some, false}
use Rattle.script.specs.inner.Running.{HasRun}
use Rattle.house.specs.Setup.{Setup}
use Rattle.house.specs.Scene.{empty_scene}
use Rattle.house.specs.Stands.{StandsFor}
use Rattle.script.proofs.run.drive_as.Given as goal

abbrev pub invariant-loop-done : goal.invariant-loop-done
invariant-loop-done g l = record {
  run : (k : Setup) (input : List ℕ) → StandsFor k l.fn.house (empty_scene k) → g.R.Read.remaining l.fn.reader ≡ Some input
      → HasRun l.fn.form k input l.done l.house l.room.held.items (g.R.Read.remaining l.reader) (g.W.Sink.taken l.fn.writer) (g.W.Sink.taken l.writer) l.sent (empty_scene k);
  live : g.W.Sink.failed l.writer ≡ false;
  few : length l.room.held.items ≤ 256;
  small : l.sent ≤ l.done * 2 ^ 64;
}
