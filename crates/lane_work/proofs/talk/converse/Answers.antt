use Rattle.std.proofs.Common.{map, subst}
use Rattle.lane_work.specs.Permits.{put_by}
use Rattle.shard_queue.specs.Reply.{received}
use Rattle.lane_work.specs.Account.{setting_at}
use Rattle.lane_work.specs.Speaking.{premises_of}
use Rattle.lane_work.specs.Streaming.{IsPlayed}
use Rattle.lane_work.proofs.Going.{begun, ends_unopened}
use Rattle.lane_work.proofs.talk.converse.Goals as goal

pub returns-in_default-clause-played : goal.returns-in_default-clause-played
returns-in_default-clause-played g c done books =
    let house = premises_of c.args.context.now.intake.now in
    ends_unopened house c.args.producer.now.desk.number done (g.I.Read.remaining c.args.input.now) (g.O.Sink.taken c.args.output.now) (setting_at house c.args.producer.now.desk.number c.args.serial) (g.O.Sink.failed c.args.output.now)
    (g.N.VerdictLog.tells c.args.producer.now.book) (received c.args.producer.now.desk.receiver) (map put_by c.args.producer.now.desk.permits.items) c.requires.live books

pub returns-clause-played : goal.returns-clause-played
returns-clause-played g c done books =
    let house = premises_of c.args.context.now.intake.now in
    let p = c.args.producer.now.desk.number in
    let keeps = g.N.VerdictLog.tells c.args.producer.now.book in
    let heard = received c.args.producer.now.desk.receiver in
    let put = map put_by c.args.producer.now.desk.permits.items in
    let start = begun house p done (g.I.Read.remaining c.args.input.now) (g.O.Sink.taken c.args.output.now) c.in-Ok.machine c.open.new.out.items keeps heard put c.in-Ok.ensures.stands c.in-Ok.ensures.greeted books in
    subst (λ x. IsPlayed house x p done (g.I.Read.remaining c.args.input.now) (g.I.Read.remaining c.go_on.new.input) (g.O.Sink.taken c.args.output.now) (g.O.Sink.taken c.go_on.new.output) (g.O.Sink.failed c.go_on.new.output)
    (g.N.VerdictLog.tells c.go_on.new.producer.book) (received c.go_on.new.producer.desk.receiver) (map put_by c.go_on.new.producer.desk.permits.items) c.go_on.result) c.in-Ok.ensures.setting (c.go_on.ensures.played done start)
