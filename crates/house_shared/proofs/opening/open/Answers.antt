use Rattle.std.proofs.Common.{◌≡◌, ◌≢◌, ◌≤◌, All, None, length, ap, sym, subst, arith}
use Rattle.envelope.specs.Names.{Directory}
use Rattle.house_shared.specs.Users.{user_numbered}
use Rattle.house_shared.proofs.opening.open.Goals as goal

pub returns-clause-guests : goal.returns-clause-guests
returns-clause-guests g c =
    let shared = c.put_together.result.shared in
    let is = c.put_together.ensures.shared.is in
    let homes : length shared.intake.directory.homes ≡ length c.args.directory.homes = ap (λ (d : Directory). length d.homes) is in
    let sessions = c.put_together.ensures.sessions in
    record {
      few = c.requires.few;
      named = subst (λ (d : Directory). All (λ v. user_numbered v.user d.homes ≢ None) c.args.guests.now) (sym is) c.requires.guests;
      bells = omega (arith, homes, sessions);
    }
