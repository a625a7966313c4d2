use Rattle.std.proofs.Common.{rules, ◌≡◌, ◌-◌, ap, arith, length, slice_index_or, subst, sym}
use Rattle.delivery_token.specs.declared.log.Noted.{Noted}
use Rattle.shard_queue.specs.Reply.{ReplyChannel}
use Rattle.shard_queue.specs.Reply.{IsReceiver}
use Rattle.house_shared.proofs.Finding.{here_at}
use Rattle.running_house.specs.inner.Crew.{IsAttended}
use Rattle.running_house.proofs.Lives.{attended_of}
use Rattle.running_house.proofs.producers.attend_at.Goals as goal

pub attend-requires-clause-channel : goal.attend-requires-clause-channel
attend-requires-clause-channel g c =
    let channels = c.args.common.shared.now.delivery.channels.items in
    let same : c.from-2.result ≡ c.args.number = search rules in
    subst (λ (x : ReplyChannel Noted). IsReceiver x c.args.post.desk.receiver) (sym c.index-channel.ensures)
    (c.requires.post.receiver _ (here_at channels c.from-2.result c.args.number c.index-channel.result.now same (omega (arith, c.requires.house.channels, c.requires.number))))

pub returns : goal.returns
returns g c =
    let shared = c.args.common.shared.now in
    let session = c.from.result - length c.args.common.plans.now in
    let guest = slice_index_or c.args.common.guests.now session c.index-common-session.result in
    let one : c.from.result ≡ c.args.number = search rules in
    let same : c.from-2.result ≡ c.args.number = search rules in
    attended_of shared c.args.common.plans.now c.args.common.guests.now c.from-2.result c.args.number session c.args.post.desk.number c.index-channel.result.now guest c.attend.result
    same c.requires.behind (omega (arith, one, c.requires.behind)) c.requires.post.number (ap (slice_index_or c.args.common.guests.now session) c.index-common-session.is)
    (subst (λ (x : ReplyChannel Noted). IsAttended shared x c.args.post.desk.number guest c.attend.result) c.index-channel.ensures c.attend.ensures)
