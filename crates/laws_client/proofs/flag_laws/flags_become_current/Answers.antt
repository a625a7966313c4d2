use Rattle.laws_client.proofs.FlagCurrent.{done_tells_flags, noop_tells_flags, nothing_pending_tells_flags}
use Rattle.laws_client.proofs.flag_laws.flags_become_current.Goals as goal

pub returns-clause-noop : goal.returns-clause-noop
returns-clause-noop c = noop_tells_flags

pub returns-clause-done : goal.returns-clause-done
returns-clause-done c = done_tells_flags

pub returns-clause-pending : goal.returns-clause-pending
returns-clause-pending c = nothing_pending_tells_flags
