use Rattle.laws_client.proofs.FlagWorlds.{calls_tell_flags, others_leave_flags}
use Rattle.laws_client.proofs.flag_laws.houses_tell_flags.Goals as goal

pub returns-clause-calls : goal.returns-clause-calls
returns-clause-calls c = calls_tell_flags

pub returns-clause-others : goal.returns-clause-others
returns-clause-others c = others_leave_flags
