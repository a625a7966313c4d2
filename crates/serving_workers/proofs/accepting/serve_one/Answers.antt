use Rattle.serving_workers.proofs.Mail.{played_by}
use Rattle.serving_workers.proofs.accepting.serve_one.Goals as goal

pub returns-clause-mail : goal.returns-clause-mail
returns-clause-mail g c is before since after took fresh closed was =
    played_by before since after _ _ _ took closed was fresh (c.converse-ending.ensures.played was.judged was.books) (c.is_torn.ensures is)
