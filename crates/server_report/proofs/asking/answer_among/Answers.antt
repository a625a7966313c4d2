use Rattle.server_report.proofs.AskLaws.{among}
use Rattle.server_report.proofs.asking.answer_among.Goals as goal

pub returns : goal.returns
returns c = among c.args.came.now c.args.minor _ _ c.args.fields.now c.args.answer _ c.answer_for.ensures c.count_hosts-hosts.ensures c.has_foreign.ensures
