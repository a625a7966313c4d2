use Rattle.std.proofs.Common.{◌≡◌, ◌++◌, zip, take}
use Rattle.lane_work.specs.Account.{copies}
use Rattle.server_report.specs.Lines.{mail_lines}
use Rattle.server_report.proofs.line.append_message.Given as goal

abbrev pub invariant-loop-i : goal.invariant-loop-i
invariant-loop-i l =
    l.out.items ≡ l.fn.out.items ++ mail_lines l.directory.homes l.workers
    (zip (copies (take l.i l.message.keys.items) (take l.i l.message.mailboxes.items) l.message.text) (take l.i l.verdicts))
