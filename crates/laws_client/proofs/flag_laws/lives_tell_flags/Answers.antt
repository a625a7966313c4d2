use Rattle.laws_client.proofs.FlagKnown.{lives_tell_flags, turns_tell_flags}
use Rattle.laws_client.proofs.flag_laws.lives_tell_flags.Goals as goal

pub returns-clause-turn : goal.returns-clause-turn
returns-clause-turn c = turns_tell_flags

pub returns-clause-life : goal.returns-clause-life
returns-clause-life c = lives_tell_flags
