use Rattle.std.proofs.Common.{rules, ◌≡◌, length, map, subst, vec_len}
use Rattle.serving_workers.specs.Leaving.{serves_mail}
use Rattle.serving.specs.inner.Ending.{FirstTakeMail}
use Rattle.serving.proofs.run.start_all.Goals as goal

pub returns-clause-mail : goal.returns-clause-mail
returns-clause-mail g c =
    let e : vec_len c.start_workers-spawned.result.spawned ≡ length c.args.site.now.shutdown_handles.mail.items = search rules in
    subst (λ n. FirstTakeMail n (map serves_mail c.start_client_slots.result.0.items)) e c.start_client_slots.ensures.mail
