use Rattle.imap_session.proofs.copied.tell_batch.Goals as goal

pub returns-then-batch-clause-plays : goal.returns-then-batch-clause-plays
returns-then-batch-clause-plays g c now = c.tell_moved.ensures.plays now

pub returns-else-batch-clause-plays : goal.returns-else-batch-clause-plays
returns-else-batch-clause-plays g c now = rw c.if-batch.false (c.tell_copied.ensures.plays now)
