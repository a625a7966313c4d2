use Rattle.std.proofs.Common.{rules, arith, length, refl, subst, List, ℕ}
use Rattle.std.specs.Io.KnownBytes.{Appends}
use Rattle.std.proofs.lemmas.Result.{on_ok_weaker}
use Rattle.house_shared.proofs.Leaving.{posts_left, stands_left}
use Rattle.serving.proofs.run.run_house_in.Goals as goal

pub give_up-requires-clause-stands : goal.give_up-requires-clause-stands
give_up-requires-clause-stands g c =
    let crew = c.requires.crew in
    (crew.each_lane, stands_left c.args.opened.shared (length c.args.opened.shared.delivery.channels.items) refl 0 c.args.opened.crew.stands.items crew.stands)

pub give_up-requires-clause-posts : goal.give_up-requires-clause-posts
give_up-requires-clause-posts g c = (c.requires.crew.each_post, posts_left c.args.opened.shared 0 c.args.opened.crew.posts.items c.requires.crew.posts)

pub serve_in_threads-over-requires-clause-dealt : goal.serve_in_threads-over-requires-clause-dealt
serve_in_threads-over-requires-clause-dealt g c κs within =
    let rooms = c.in-Ok.rooms in
    let outfits = c.in-Ok.ensures.outfits in
    let shutdown_handles = c.in-Ok.ensures.shutdown_handles.0 in
    let bells = c.requires.guests in record {
      supplies = record {
        posts = c.requires.crew.posts;
        each_post = c.requires.crew.each_post;
        outfits = outfits.0;
        each_worker = (let many = outfits.1 in omega (arith, many, shutdown_handles, rooms.shutdown_handles.mail.ok.0));
        ears = (let many = c.in-Ok.ensures.ears in omega (arith, many, bells, c.args.manning.guests.ok.0));
        client_buffers = (let many = c.in-Ok.ensures.clients in omega (arith, many, bells, c.args.manning.guests.ok.0));
      };
      served = search rules;
    }

pub returns-clause-all : goal.returns-clause-all
returns-clause-all g c =
    on_ok_weaker c.close_or_spend.result
    (λ told. subst (λ (bytes : List ℕ). Appends (g.W.Sink.taken c.args.output.now) (g.W.Sink.taken c.serve_in_threads-over.new.output) bytes) c.deref.ensures.value (c.serve_in_threads-over.ensures.all told))
    c.close_or_spend.ensures.told
