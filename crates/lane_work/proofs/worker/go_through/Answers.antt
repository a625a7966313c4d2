use Rattle.std.proofs.Common.{rules, ◌≡◌, ◌∙◌, ap, sym, subst, refl, map, List, take, arith}
use Rattle.shard_queue.specs.Reply.{received, ReceiverPermit}
use Rattle.lane_work.specs.Account.{rooms_of, notes_tell, AreBooks, setting_at}
use Rattle.delivery_token.specs.declared.Job.{Job}
use Rattle.delivery_token.specs.declared.log.Noted.{Noted}
use Rattle.envelope.specs.Names.{Directory}
use Rattle.shard_queue.specs.declared.lane.Entry.{Entry}
use Rattle.lane_work.specs.Awaiting.{copies_in, verdicts_in}
use Rattle.lane_work.specs.Ends.{ends_in}
use Rattle.lane_work.specs.Permits.{AreInForce, put_by}
use Rattle.lane_work.specs.inner.Account.{HasServed}
use Rattle.lane_work.specs.inner.Closing.{Marks, closings_at}
use Rattle.lane_work.proofs.BackingLaws.{desk_kept}
use Rattle.lane_work.proofs.ClosingLaws.{marked_at, marked_first, marked_next}
use Rattle.lane_work.proofs.PermitLaws.{new_live, not_over}
use Rattle.lane_work.specs.Speaking.{premises_of}
use Rattle.lane_work.specs.inner.Speaking.{Spoke}
use Rattle.lane_work.specs.Talk.{Judged}
use Rattle.lane_work.proofs.ServedLaws.{served_begin, served_step}
use Rattle.lane_work.proofs.worker.go_through.Goals as goal

pub loop-i-init : goal.loop-i-init
loop-i-init g c = (
  (c.requires.permits.0, not_over c.in-Ok.directory c.args.producer.now.desk.permits.items (new_live c.args.producer.now.desk.permits.items c.requires.permits.1)),
  c.requires.receiver,
  refl,
  omega arith,
  refl,
  served_begin (premises_of c.args.context.now.intake.now) c.args.producer.now.desk.number c.args.replies.now.items (notes_tell c.args.producer.now.book.notes) (received c.args.producer.now.desk.receiver) (map put_by c.args.producer.now.desk.permits.items) c.requires.begun.0 c.requires.begun.1,
  marked_first (closings_at c.args.context.now.intake.now c.args.producer.now.desk.number) c.args.context.now.intake.now.directory c.in-Ok.directory c.in-Ok.ensures.same c.in-Ok.ensures.marks,
  refl,
  λ seat was. was,
)

pub close_due-requires-clause-permits : goal.close_due-requires-clause-permits
close_due-requires-clause-permits g c =
    subst (λ n. AreInForce c.loop-i.directory c.args.context.now.intake.now.lanes.items n c.loop-i.producer.desk.permits.items) (sym c.loop-i.invariant.2) c.loop-i.invariant.0

pub close_due-requires-clause-lanes : goal.close_due-requires-clause-lanes
close_due-requires-clause-lanes g c = ap (λ (d : Directory). d.shards) c.loop-i.invariant.6.same ∙ c.requires.lanes

pub converse-requires-clause-permits : goal.converse-requires-clause-permits
converse-requires-clause-permits g c =
    subst (λ n. AreInForce c.close_due.new.directory c.args.context.now.intake.now.lanes.items n c.close_due.new.desk.permits.items) (sym c.close_due.ensures.kept.0) c.close_due.ensures.permits

pub converse-requires-clause-marks : goal.converse-requires-clause-marks
converse-requires-clause-marks g c =
    let closings = closings_at c.args.context.now.intake.now c.args.producer.now.desk.number in
    let marks = subst (λ n. Marks c.loop-i.i (closings_at c.args.context.now.intake.now n) c.loop-i.directory c.close_due.new.directory) c.loop-i.invariant.2 c.close_due.ensures.marks in
    (marked_at closings c.loop-i.i c.args.context.now.intake.now.directory c.loop-i.directory c.close_due.new.directory c.loop-i.invariant.6 marks).same

pub loop-i-preserved : goal.loop-i-preserved
loop-i-preserved g c =
    let v = c.loop-i.invariant in
    let d = c.args.context.now.intake.now.directory in
    let lanes = c.args.context.now.intake.now.lanes.items in
    let p = c.args.producer.now.desk.number in
    let house = premises_of c.args.context.now.intake.now in
    let own = c.close_due.new.directory in
    let closed = c.close_due.new.desk in
    let kept = c.close_due.ensures.kept in
    let number : closed.number ≡ p = kept.0 ∙ v.2 in
    let before = map put_by closed.permits.items in
    let after = map put_by c.converse.new.producer.desk.permits.items in
    let closings = closings_at c.args.context.now.intake.now p in
    let marks = subst (λ n. Marks c.loop-i.i (closings_at c.args.context.now.intake.now n) c.loop-i.directory own) v.2 c.close_due.ensures.marks in
    let served = subst (λ (r : ReceiverPermit Noted). HasServed house p (map (λ b. b.items) (take c.loop-i.i c.args.connections.now)) (map (λ b. b.items) c.loop-i.replies.items) (notes_tell c.loop-i.producer.book.notes) (received r) before) (sym kept.1)
    (subst (λ (l : List (List (Entry Job))). HasServed house p (map (λ b. b.items) (take c.loop-i.i c.args.connections.now)) (map (λ b. b.items) c.loop-i.replies.items) (notes_tell c.loop-i.producer.book.notes) (received c.loop-i.producer.desk.receiver) l) (sym kept.3) v.5) in (
      subst (λ n. AreInForce own lanes n c.converse.new.producer.desk.permits.items) number c.in-Ok-converse.ensures.permits,
      c.in-Ok-converse.ensures.receiver,
      c.in-Ok-converse.ensures.number ∙ number,
      (let e = c.in-Ok-converse.ensures.ends in let r = ap (λ (x : ReceiverPermit Noted). ends_in (received x)) kept.1 in omega (arith, e, r, v.3, kept.2)),
      c.in-Ok-converse.ensures.seat ∙ v.4,
      served_step house p c.args.connections.now c.loop-i.i c.index-connections-i.result c.as_slice.result.now c.loop-i.replies.items c.push.new.self.items c.in-Ok-converse.reply
          (notes_tell c.loop-i.producer.book.notes) (notes_tell c.converse.new.producer.book.notes) (received closed.receiver) (received c.converse.new.producer.desk.receiver) before after c.loop-i-test.true c.index-connections-i.is (search rules) c.in-Ok-push.ensures.items served
          own (marked_at closings c.loop-i.i d c.loop-i.directory own v.6 marks)
          (subst (λ n. (done : List Judged) → AreBooks d (rooms_of c.args.context.now.intake.now.lanes.items) n done (notes_tell c.loop-i.producer.book.notes) (received closed.receiver) before
          → Spoke own d (rooms_of c.args.context.now.intake.now.lanes.items) n done c.as_slice.result.now (setting_at house n c.loop-i.i) c.args.context.now.intake.now.host.items c.in-Ok-converse.reply.items (notes_tell c.converse.new.producer.book.notes) (received c.converse.new.producer.desk.receiver) after)
          number c.in-Ok-converse.ensures.spoke),
      marked_next closings c.loop-i.i d c.loop-i.directory own v.6 marks,
      (let one = c.in-Ok-converse.ensures.only in
          let r = ap (λ (x : ReceiverPermit Noted). verdicts_in (received x)) kept.1 in
          let q = ap copies_in kept.3 in omega (arith, one, r, q, v.7)),
      λ seat was. c.in-Ok-converse.ensures.backed seat (desk_kept c.loop-i.producer.desk closed kept.1 kept.3 kept.4 seat (v.8 seat was)),
    )

pub returns-clause-only : goal.returns-clause-only
returns-clause-only g c whole = c.loop-i.invariant.7

pub returns-in-Err-NoMemory-clause-backed : goal.returns-in-Err-NoMemory-clause-backed
returns-in-Err-NoMemory-clause-backed g c seat was =
    let kept = c.close_due.ensures.kept in
    c.converse.ensures.backed seat (desk_kept c.loop-i.producer.desk c.close_due.new.desk kept.1 kept.3 kept.4 seat (c.loop-i.invariant.8 seat was))

pub returns-in-Err-Torn-clause-backed : goal.returns-in-Err-Torn-clause-backed
returns-in-Err-Torn-clause-backed g c seat was =
    let kept = c.close_due.ensures.kept in
    c.converse.ensures.backed seat (desk_kept c.loop-i.producer.desk c.close_due.new.desk kept.1 kept.3 kept.4 seat (c.loop-i.invariant.8 seat was))

pub returns-in_default-push-clause-backed : goal.returns-in_default-push-clause-backed
returns-in_default-push-clause-backed g c seat was =
    let kept = c.close_due.ensures.kept in
    c.converse.ensures.backed seat (desk_kept c.loop-i.producer.desk c.close_due.new.desk kept.1 kept.3 kept.4 seat (c.loop-i.invariant.8 seat was))
