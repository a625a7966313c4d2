use Rattle.std.proofs.Common.{◌∙◌, refl, subst, map}
use Rattle.shard_queue.specs.Reply.{received}
use Rattle.shard_queue.specs.Permits.{said}
use Rattle.lane_work.specs.Permits.{put_by}
use Rattle.lane_work.specs.Speaking.{premises_of}
use Rattle.lane_work.proofs.BackingLaws.{backed_begin, backed_end}
use Rattle.serving_workers.proofs.Mail.{mail_begins, mail_ends}
use Rattle.serving_workers.proofs.accepting.serve_until_stopped.Goals as goal

pub returns-clause-served : goal.returns-clause-served
returns-clause-served g c fresh is =
    let intake = c.args.context.now.intake.now in
    let number = c.args.desk.number in
    let now = c.serve_all-torn.new.producer.desk in
    let line = c.serve_all-torn.new.line in
    let told = g.L.Line.told in
    let served = c.serve_all-torn.ensures.mail is (mail_begins intake number (told c.args.outfit.line) c.args.desk.receiver c.args.desk.permits.items fresh c.requires.fresh) in
    (line, refl, mail_ends (premises_of intake) number now.number served.0 (told line) (received now.receiver) (map put_by now.permits.items) (map said c.end_all-ended.result.items) c.serve_all-torn.ensures.number served.1 c.end_all-ended.ensures.said)

-- the history has what it put and heard
pub returns-clause-backed : goal.returns-clause-backed
returns-clause-backed g c fresh unheard unsent =
    let desk = c.args.desk in
    let now = c.serve_all-torn.new.producer.desk in
    let seat = desk.dispatch.number in
    let begun = backed_begin seat desk.dispatch.history (received desk.receiver) desk.permits.items c.is_kept.ensures.legal (c.is_kept.ensures.own ∙ unsent) unheard fresh in
    let done = c.serve_all-torn.ensures.backed seat (refl, begun) in
    (done.0, backed_end seat now.number now.dispatch.history (received now.receiver) (map put_by now.permits.items) (map said c.end_all-ended.result.items) c.end_all-ended.ensures.said done.1)
