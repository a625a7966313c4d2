use Rattle.std.proofs.Common.{inr}
use Rattle.house.specs.inner.Steps.{job_of}
use Rattle.house.proofs.peer.put_next.Goals as goal

pub returns-clause-nothing : goal.returns-clause-nothing
returns-clause-nothing g c e =
    let n = c.in-Some-next_copy in
    (c.in-Some.peer, c.in-Some.is, inr (job_of n.copy, n.ensures.some.0, n.ensures.some.1, c.put_copy.ensures.nothing e))

pub returns-clause-memory : goal.returns-clause-memory
returns-clause-memory g c e =
    let n = c.in-Some-next_copy in
    (c.in-Some.peer, c.in-Some.is, record { copy = job_of n.copy; others = n.ensures.some.0; front = n.ensures.some.1; room = c.put_copy.ensures.memory e })
