use Rattle.std.proofs.Common.{◌≡◌, ap, length, arith}
use Rattle.house_shared.proofs.Leaving.{posts_left, stands_left}
use Rattle.running_house.proofs.threads.none_started.Goals as goal

pub returns-clause-left : goal.returns-clause-left
returns-clause-left g c shared producers same is =
    let crew = c.args.crew in
    let no_work : length crew.worked.items ≡ 0 = ap length is.worked.0 in
    let no_service : length crew.consumed.items ≡ 0 = ap length is.consumed.0 in
    record {
      each_producer = omega (arith, is.each_post, no_work, crew.worked.ok.0);
      each_lane = omega (arith, is.each_lane, no_service, crew.consumed.ok.0);
      posts = posts_left shared 0 crew.posts.items is.posts;
      stands = stands_left shared producers same 0 crew.stands.items is.stands;
    }
