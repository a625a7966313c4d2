use Rattle.std.proofs.Common.{◌≡◌, ◌≤◌, ◌+◌, ◌++◌, map, zip, take, length}
use Rattle.lane_work.specs.Account.{copies, note_of}
use Rattle.lane_work.proofs.verdict_log.log_all.Given as goal

abbrev pub invariant-loop-i : goal.invariant-loop-i
invariant-loop-i l =
    (l.log.seat ≡ l.fn.log.seat) × (length l.verdicts ≤ l.log.spare + l.i)
    × (l.log.notes ≡ l.fn.log.notes ++ map note_of (zip (copies (take l.i l.message.keys.items) (take l.i l.message.mailboxes.items) l.message.text) (take l.i l.verdicts)))
