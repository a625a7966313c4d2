use Rattle.std.proofs.Common.{◌≡◌, ◌≤◌, ◌+◌, ◌*◌, length, subst, sym, vec_len, arith}
use Rattle.house_shared.specs.Opening.{AreSpares}
use Rattle.house_shared.specs.declared.shared.Post.{Post}
use Rattle.house_shared.specs.declared.shared.Stand.{Stand}
use Rattle.lane_work.specs.declared.consumer.Consumed.{Consumed}
use Rattle.lane_work.specs.declared.worker.Worked.{Worked}
use Rattle.reckoning.proofs.Spent.{fits, fits_behind, no_more, permits_of_posts, senders_of_stands}
use Rattle.reckoning.proofs.abandoning.abandon.Goals as goal

pub clear_posts-requires-clause-permits : goal.clear_posts-requires-clause-permits
clear_posts-requires-clause-permits g c =
    let lanes = length c.args.shared.intake.lanes.items in
    let channels = length c.args.shared.delivery.channels.items in
    let spares = c.ends_of-consumers.result.spares in
    let room : AreSpares (channels * lanes) spares = subst (AreSpares (channels * lanes)) (sym c.ends_of-consumers.ensures.spares) c.requires.baskets.spares in
    let few : length c.args.ran.posts.items ≤ channels = omega (arith, c.requires.left.each_producer, c.args.ran.posts.ok.0) in
    fits (λ (p : Post _). vec_len p.desk.permits) lanes channels c.args.ran.posts.items spares.permits room.empty.0 room.permits (permits_of_posts lanes c.args.ran.posts.items c.requires.left.posts) few

pub clear_posts-requires-clause-ended : goal.clear_posts-requires-clause-ended
clear_posts-requires-clause-ended g c =
    let lanes = length c.args.shared.intake.lanes.items in
    let channels = length c.args.shared.delivery.channels.items in
    let spares = c.ends_of-consumers.result.spares in
    let room : AreSpares (channels * lanes) spares = subst (AreSpares (channels * lanes)) (sym c.ends_of-consumers.ensures.spares) c.requires.baskets.spares in
    let few : length c.args.ran.posts.items ≤ channels = omega (arith, c.requires.left.each_producer, c.args.ran.posts.ok.0) in
    fits (λ (p : Post _). vec_len p.desk.permits + vec_len p.room) lanes channels c.args.ran.posts.items spares.ended room.empty.1 room.ended c.requires.left.posts few

pub clear_workers-requires-clause-ended : goal.clear_workers-requires-clause-ended
clear_workers-requires-clause-ended g c =
    let lanes = length c.args.shared.intake.lanes.items in
    let channels = length c.args.shared.delivery.channels.items in
    let spares = c.ends_of-consumers.result.spares in
    let posts = c.args.ran.posts in
    let worked = c.args.ran.worked in
    let room : AreSpares (channels * lanes) spares = subst (AreSpares (channels * lanes)) (sym c.ends_of-consumers.ensures.spares) c.requires.baskets.spares in
    let all : length posts.items + length worked.items ≡ channels = omega (arith, c.requires.left.each_producer, posts.ok.0, worked.ok.0) in
    fits_behind (λ (p : Post _). vec_len p.desk.permits + vec_len p.room) (λ (w : Worked _). vec_len w.ended) lanes channels posts.items worked.items spares.ended c.clear_posts.new.ended room.empty.1 room.ended
    c.clear_posts.ensures.ended c.requires.left.posts (no_more (λ (w : Worked _). vec_len w.ended) lanes worked.items c.requires.worked) all

pub clear_stands-requires-clause-senders : goal.clear_stands-requires-clause-senders
clear_stands-requires-clause-senders g c =
    let lanes = length c.args.shared.intake.lanes.items in
    let channels = length c.args.shared.delivery.channels.items in
    let spares = c.ends_of-consumers.result.spares in
    let room : AreSpares (channels * lanes) spares = subst (AreSpares (channels * lanes)) (sym c.ends_of-consumers.ensures.spares) c.requires.baskets.spares in
    let few : length c.args.ran.stands.items ≤ lanes = omega (arith, c.requires.left.each_lane, c.args.ran.stands.ok.0) in
    fits (λ (s : Stand _). vec_len s.stall.senders) channels lanes c.args.ran.stands.items spares.senders room.empty.2 (omega (arith, room.senders)) (senders_of_stands channels c.args.ran.stands.items c.requires.left.stands) few

pub clear_consumers-requires-clause-ended : goal.clear_consumers-requires-clause-ended
clear_consumers-requires-clause-ended g c =
    let lanes = length c.args.shared.intake.lanes.items in
    let channels = length c.args.shared.delivery.channels.items in
    let spares = c.ends_of-consumers.result.spares in
    let room : AreSpares (channels * lanes) spares = subst (AreSpares (channels * lanes)) (sym c.ends_of-consumers.ensures.spares) c.requires.baskets.spares in
    let few : length c.args.ran.consumed.items ≤ lanes = omega (arith, c.requires.left.each_lane, c.args.ran.consumed.ok.0) in
    fits (λ (w : Consumed _). vec_len w.senders) channels lanes c.args.ran.consumed.items spares.senders_ended room.empty.3 (omega (arith, room.senders_ended))
    (no_more (λ (w : Consumed _). vec_len w.senders) channels c.args.ran.consumed.items c.requires.consumed) few
