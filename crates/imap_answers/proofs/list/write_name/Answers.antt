use Rattle.imap_answers.proofs.list.write_name.Goals as goal

pub returns-in-All-clause-ok : goal.returns-in-All-clause-ok
returns-in-All-clause-ok c = rw c.in-All.is c.write_one.ensures.ok

pub returns-in-Subscribed-clause-ok : goal.returns-in-Subscribed-clause-ok
returns-in-Subscribed-clause-ok c = rw c.in-Subscribed.is c.write_subscribed.ensures.ok
