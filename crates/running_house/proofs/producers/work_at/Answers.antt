use Rattle.std.proofs.Common.{rules, ◌≡◌, ◌∙◌, ℕ, sym, ap, subst, map, arith}
use Rattle.delivery_token.specs.declared.log.Noted.{Noted}
use Rattle.shard_queue.specs.Reply.{ReplyChannel}
use Rattle.shard_queue.specs.Permits.{said}
use Rattle.shard_queue.specs.Reply.{IsReceiver, received}
use Rattle.lane_work.specs.Backing.{IsBackedBy}
use Rattle.lane_work.specs.Awaiting.{verdicts_in}
use Rattle.lane_work.specs.Working.{IsWorked}
use Rattle.house_shared.proofs.Finding.{here_at}
use Rattle.running_house.proofs.Lives.{work_of}
use Rattle.running_house.proofs.producers.work_at.Goals as goal

pub work-requires-clause-receiver : goal.work-requires-clause-receiver
work-requires-clause-receiver g c =
    let shared = c.args.common.shared.now in
    let same : c.from-position.result ≡ c.args.number = search rules in
    subst (λ (x : ReplyChannel Noted). IsReceiver x c.args.post.desk.receiver) (sym c.index.ensures)
    (c.requires.post.receiver _ (here_at shared.delivery.channels.items c.from-position.result c.args.number c.index.result.now same (omega (arith, c.requires.house.channels, c.requires.number))))

pub returns : goal.returns
returns g c =
    let shared = c.args.common.shared.now in
    let same : c.from-position.result ≡ c.args.number = search rules in
    work_of shared c.args.common.plans.now c.args.common.guests.now c.from-position.result c.args.number c.args.post.desk.number c.index.result.now c.index-common-position.result
    c.as_slice-plan.result.now c.work.result same c.requires.number c.requires.post.number c.as_slice-plan.ensures.value
    (subst (λ (x : ReplyChannel Noted). IsWorked shared.intake x c.args.post.desk.number (map (λ b. b.items) c.as_slice-plan.result.now) c.work.result) c.index.ensures c.work.ensures.worked)
    (λ whole. let only = c.work.ensures.only whole in let none = ap verdicts_in c.requires.post.unheard.0 in omega (arith, only, none))
    (λ whole.
    subst (λ (x : ℕ). IsBackedBy x c.work.result.dispatch (received c.work.result.receiver) (map said c.work.result.ended.items)) (c.requires.post.dispatch.0 ∙ sym c.requires.post.number)
    (c.work.ensures.backed whole c.requires.post.unheard.0 c.requires.post.dispatch.1))
