use Rattle.mail_date.proofs.GivenSound.{given_sound}
use Rattle.mail_date.proofs.GivenAgain.{given_again}
use Rattle.mail_date.proofs.laws.a_given_date_is_read.Goals as goal

pub returns-clause-sound : goal.returns-clause-sound
returns-clause-sound c = given_sound

pub returns-clause-complete : goal.returns-clause-complete
returns-clause-complete c = given_again
