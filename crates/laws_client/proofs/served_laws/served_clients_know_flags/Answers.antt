use Rattle.laws_client.proofs.ServedFlags.{served_flags_are_current, served_flags_are_found, served_flags_have_moments, served_lives_tell_flags, served_turn_tells_flags}
use Rattle.laws_client.proofs.served_laws.served_clients_know_flags.Goals as goal

pub returns-clause-found : goal.returns-clause-found
returns-clause-found c = served_flags_are_found

pub returns-clause-moments : goal.returns-clause-moments
returns-clause-moments c = served_flags_have_moments

pub returns-clause-current : goal.returns-clause-current
returns-clause-current c = served_flags_are_current

pub returns-clause-turn : goal.returns-clause-turn
returns-clause-turn c = served_turn_tells_flags

pub returns-clause-life : goal.returns-clause-life
returns-clause-life c = served_lives_tell_flags
