use Rattle.std.proofs.Common.{rules, ℕ, map, slice_set, ◌<◌, ◌∙◌, ◌++◌, ◌∷◌, [], ap, sym, subst, inr, refl, length, arith}
use Rattle.shard_queue.specs.Reply.{IsSender, sender_number, sent_on}
use Rattle.shard_queue.specs.declared.lane.Entry.TheVariants.{Item}
use Rattle.lane_work.specs.Answering.{Serves}
use Rattle.lane_work.proofs.AnswerLaws.{noted_of, serves_at}
use Rattle.lane_work.proofs.PermitLaws.{sender_here, senders_length, senders_set}
use Rattle.lane_work.proofs.answering.serve_copy.Goals as goal

pub returns-then-position-len-clause-served : goal.returns-then-position-len-clause-served
returns-then-position-len-clause-served g c = inr (search rules, refl)

pub index_mut-requires : goal.index_mut-requires
index_mut-requires g c =
    let n = senders_length c.args.delivery.now.channels.items c.args.shard c.args.senders.now.items c.requires.senders in
    omega (arith, n, c.if-position-len.false, c.len.ensures, c.args.senders.now.ok.0)

pub tell-requires : goal.tell-requires
tell-requires g c =
    subst (λ q. IsSender q c.index_mut.result.now) (sym c.index.ensures)
    (sender_here c.args.delivery.now.channels.items c.args.shard c.args.senders.now.items c.requires.senders c.from-position.result (search rules) c.index.result.now c.index_mut.result.now c.index_mut.ensures.value).0

pub returns-clause-senders : goal.returns-clause-senders
returns-clause-senders g c =
    let was = sender_here c.args.delivery.now.channels.items c.args.shard c.args.senders.now.items c.requires.senders c.from-position.result (search rules) c.index.result.now c.index_mut.result.now c.index_mut.ensures.value in
    senders_set c.args.delivery.now.channels.items c.args.shard c.args.senders.now.items c.requires.senders c.from-position.result c.index.result.now c.tell.new.permit
    (subst (λ q. IsSender q c.tell.new.permit) c.index.ensures c.tell.ensures.permit.0) (c.tell.ensures.permit.1 ∙ was.1)

pub returns-clause-served : goal.returns-clause-served
returns-clause-served g c =
    let channels = c.args.delivery.now.channels.items in
    let senders = c.args.senders.now.items in
    let was = sender_here channels c.args.shard senders c.requires.senders c.from-position.result (search rules) c.index.result.now c.index_mut.result.now c.index_mut.ensures.value in
    let n = senders_length channels c.args.shard senders c.requires.senders in
    let at : c.from-position.result < length senders = omega (arith, n, c.if-position-len.false, c.len.ensures) in
    let told = c.judge-answer in
    let says = c.tell.ensures.sent ∙ ap (λ noted. sent_on c.index_mut.result.now ++ Item (sender_number c.index_mut.result.now) noted ∷ []) (noted_of told.result c.args.letter told.ensures.copy.0 told.ensures.copy.1) in
    let done = serves_at (length c.args.delivery.now.mailboxes.items) (length channels) c.args.shard c.from-position.result senders c.index_mut.result.now c.tell.new.permit c.args.letter told.result.verdict
    (search rules) at c.index_mut.ensures.value was.1 says told.ensures.verdict in
    subst (λ (p : ℕ). Serves (length c.args.delivery.now.mailboxes.items) (length channels) c.args.shard p c.args.letter (map sent_on senders) (map sent_on (slice_set senders c.from-position.result c.tell.new.permit))) c.from-position.ensures done
