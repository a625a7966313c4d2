use Rattle.laws_client.proofs.RecordKnown.{stands_still, turn_is_known}
use Rattle.laws_client.proofs.Unselected.{refused_selects_none}
use Rattle.laws_client.proofs.record_laws.turns_are_known.Goals as goal

pub returns-clause-turn : goal.returns-clause-turn
returns-clause-turn c = turn_is_known

pub returns-clause-stands : goal.returns-clause-stands
returns-clause-stands c = stands_still

pub returns-clause-unselected : goal.returns-clause-unselected
returns-clause-unselected c = refused_selects_none
