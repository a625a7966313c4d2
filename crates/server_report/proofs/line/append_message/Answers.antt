use Rattle.std.proofs.Common.{rules, ap, length}
use Rattle.std.proofs.lemmas.List.{get_or_default}
use Rattle.server_report.proofs.LineLaws.{lines_next}
use Rattle.server_report.proofs.line.append_message.Goals as goal

pub loop-i-preserved : goal.loop-i-preserved
loop-i-preserved c =
    let message = c.args.message.now in
    lines_next c.args.directory.now.homes c.args.workers message.keys.items message.mailboxes.items message.text c.args.verdicts.now c.loop-i.i c.index.result.now
    c.index-in-loop-i.result.now _ (length c.as_slice-size.result.now) c.args.out.now.items c.loop-i.out.items c.append_mail_copy.new.out.items (ap length c.as_slice-size.ensures)
    (search rules) (search rules) (search rules) c.index.ensures c.index-in-loop-i.ensures (get_or_default c.args.verdicts.now c.loop-i.i _ _ (search rules))
    c.in_ok-append_mail_copy.ensures c.loop-i.invariant
