use Rattle.mail_date.proofs.HeaderSound.{header_sound, header_again}
use Rattle.mail_date.proofs.laws.the_first_received_is_taken.Goals as goal

pub returns-clause-sound : goal.returns-clause-sound
returns-clause-sound c = header_sound

pub returns-clause-complete : goal.returns-clause-complete
returns-clause-complete c = λ text body h. header_again h
