use Rattle.laws_client.proofs.Served.{cursors_stay_small, served_lives_are_known, served_turn_is_known}
use Rattle.laws_client.proofs.served_laws.served_clients_keep_up.Goals as goal

pub returns-clause-turn : goal.returns-clause-turn
returns-clause-turn c = served_turn_is_known

pub returns-clause-cursor : goal.returns-clause-cursor
returns-clause-cursor c = cursors_stay_small

pub returns-clause-life : goal.returns-clause-life
returns-clause-life c = served_lives_are_known
