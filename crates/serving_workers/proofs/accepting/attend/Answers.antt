use Rattle.serving_workers.proofs.Mail.{passed_by}
use Rattle.serving_workers.proofs.accepting.attend.Goals as goal

pub returns-then-not-hold-clause-mail : goal.returns-then-not-hold-clause-mail
returns-then-not-hold-clause-mail g c is before since after took fresh closed was = passed_by before since after _ _ _ took closed was fresh c.requires.live

pub returns-then-is_shut-clause-mail : goal.returns-then-is_shut-clause-mail
returns-then-is_shut-clause-mail g c is before since after took fresh closed was = passed_by before since after _ _ _ took closed was fresh c.requires.live
