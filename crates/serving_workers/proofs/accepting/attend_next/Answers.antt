use Rattle.std.proofs.Common.{rules}
use Rattle.serving_workers.proofs.accepting.attend_next.Goals as goal

pub returns-clause-mail : goal.returns-clause-mail
returns-clause-mail g c is was = c.attend-torn.ensures.mail (search rules) _ _ _ c.in_ok-call.ensures.took c.in_ok-call.ensures.fresh.1 c.close.ensures was
