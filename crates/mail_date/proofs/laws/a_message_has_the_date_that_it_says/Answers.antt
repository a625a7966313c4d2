use Rattle.mail_date.proofs.Message.{message_says, message_silent}
use Rattle.mail_date.proofs.laws.a_message_has_the_date_that_it_says.Goals as goal

pub returns-clause-says : goal.returns-clause-says
returns-clause-says c = message_says

pub returns-clause-silent : goal.returns-clause-silent
returns-clause-silent c = message_silent
