use Rattle.delivery_core.proofs.Boxes.{box_delivers, same_mailbox}
use Rattle.delivery_core.proofs.steps.deliver_to.Goals as goal

pub returns-clause-delivers : goal.returns-clause-delivers
returns-clause-delivers c k w S =
    let e = c.deliver.ensures in
    rw c.verdict_of.ensures (box_delivers k c.args.mailbox.now c.deliver.new.self w c.args.job.now c.deliver.result S e.spent e.full e.not_queued e.not_shut e.err e.logged e.accepted e.message e.window e.same e.receipt)

pub returns-clause-same : goal.returns-clause-same
returns-clause-same c = same_mailbox c.deliver.result c.args.mailbox.now c.deliver.new.self c.deliver.ensures.same c.deliver.ensures.err
