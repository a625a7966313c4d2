use Rattle.std.proofs.Common.{rules}
use Rattle.house_shared.specs.Left.{most_of}
use Rattle.house_shared.proofs.Finding.{user_named}
use Rattle.serving.proofs.Visits.{greeted_as}
use Rattle.serving.proofs.sessions.open_visit.Goals as goal

pub returns : goal.returns
returns g c =
    let shared = c.args.gateway.now.shared.now in
    let homes = shared.intake.directory.homes in
    let name = c.user_of-user.result.now in
    record {
      name = name;
      named = user_named homes c.in_ok-inbox.inbox c.args.gateway.now.user name (search rules) (search rules) (search rules);
      greeted = greeted_as c.args.gateway.now.compatible name c.in-Ok-admission_of.admission c.most_of-limit.result (most_of shared.intake.max_message) _ _ _ _ _ _
          c.in-Ok-admission_of.ensures.is c.most_of-limit.ensures (search rules) (search rules) c.in-Ok-open.ensures.ok;
    }
