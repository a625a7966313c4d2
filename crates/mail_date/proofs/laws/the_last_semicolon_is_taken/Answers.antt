use Rattle.mail_date.proofs.Semicolons.{part_sound, part_again}
use Rattle.mail_date.proofs.laws.the_last_semicolon_is_taken.Goals as goal

pub returns-clause-sound : goal.returns-clause-sound
returns-clause-sound c = part_sound

pub returns-clause-complete : goal.returns-clause-complete
returns-clause-complete c = part_again
