use Rattle.std.proofs.Common.{length, subst, sym}
use Rattle.serving.specs.inner.Ending.{FirstTakeMail}
use Rattle.serving.proofs.run.stop_and_join.Goals as goal

pub returns-clause-mail : goal.returns-clause-mail
returns-clause-mail g c = subst (FirstTakeMail (length c.args.site.now.shutdown_handles.mail.items)) (sym c.join_producers.ensures.mail) c.requires.mail
