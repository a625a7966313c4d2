use Rattle.std.proofs.Common.{rules, ◌≡◌, ◌∙◌, [], length, map, subst}
use Rattle.std.proofs.lemmas.List.{length-map}
use Rattle.shard_queue.specs.Reply.{sent_on}
use Rattle.shard_queue.specs.Permits.{got}
use Rattle.lane_work.specs.inner.Answering.{HaveAnswered}
use Rattle.lane_work.proofs.AnswerLaws.{answers_end, answers_item}
use Rattle.lane_work.proofs.PermitLaws.{senders_length}
use Rattle.shared_consumers.proofs.turn.take_turn.Goals as goal

pub returns-in-Item-clause-answered : goal.returns-in-Item-clause-answered
returns-in-Item-clause-answered g c =
    let s = c.args.stall.now in
    let qs = c.args.delivery.now.channels.items in
    answers_item (length c.args.delivery.now.mailboxes.items) (length qs) s.shard c.in-Item.producer c.in-Item.letter (got s.permit) (got c.take_as.new.permit) [] (map sent_on s.senders.items)
    (map sent_on c.serve_copy.new.senders.items) (search rules) (length-map s.senders.items sent_on ∙ senders_length qs s.shard s.senders.items c.requires.senders)
    c.serve_copy.ensures.served c.requires.answered

pub returns-in-End-clause-answered : goal.returns-in-End-clause-answered
returns-in-End-clause-answered g c =
    let s = c.args.stall.now in
    answers_end (length c.args.delivery.now.mailboxes.items) (length c.args.delivery.now.channels.items) s.shard c.in-End.field-0 (got s.permit) (got c.take_as.new.permit) [] (map sent_on s.senders.items)
    (search rules) c.requires.answered

pub returns-in-Empty-clause-answered : goal.returns-in-Empty-clause-answered
returns-in-Empty-clause-answered g c =
    let s = c.args.stall.now in
    let same : got s.permit ≡ got c.take_as.new.permit = search rules in
    subst (λ l. HaveAnswered (length c.args.delivery.now.mailboxes.items) (length c.args.delivery.now.channels.items) s.shard l [] (map sent_on s.senders.items)) same c.requires.answered
