use Rattle.std.proofs.Common.{◌≡◌, false, true, ◌++◌, ◌∷◌, ◌∙◌, [], arith, refl, map, List}
use Rattle.workers_sync.specs.Carried.{Carried, copy_of}
use Rattle.delivery_token.specs.declared.Job.{Job}
use Rattle.delivery_token.specs.declared.Verdict.{Verdict}
use Rattle.shard_queue.specs.Reply.{received}
use Rattle.lane_work.specs.Permits.{put_by}
use Rattle.lane_work.specs.Account.{rooms_of}
use Rattle.lane_work.proofs.CarryLaws.{carries_more}
use Rattle.lane_work.proofs.CopyLaws.{carried_more}
use Rattle.lane_work.proofs.carrying.LaneCourierCourier.carry.Goals as goal

pub returns-clause-carried : goal.returns-clause-carried
returns-clause-carried g c done books =
    let self = c.args.self.now in
    let d = self.context.intake.now.directory in
    let rooms = rooms_of self.context.intake.now.lanes.items in
    let p = self.desk.number in
    let verdict = c.in-Ok.verdict in
    let one : Carried = record { message = c.args.message; mailbox = c.args.mailbox; text = c.args.text.now; flags = c.args.flags; verdict = verdict } in
    let notes : (copies : List (Job × Verdict)) → g.N.VerdictLog.tells self.book copies → g.N.VerdictLog.tells c.note_one.new.self (copies ++ (copy_of p self.serial one, verdict) ∷ []) =
    λ copies told. c.note_one.ensures.tells (copy_of p self.serial one) copies refl refl (c.reserve.ensures.tells copies told) in
    carried_more d rooms p c.judge.new.desk.number self.serial done one (g.N.VerdictLog.tells self.book) (g.N.VerdictLog.tells c.note_one.new.self) (received self.desk.receiver) (received c.judge.new.desk.receiver)
    (map put_by self.desk.permits.items) (map put_by c.judge.new.desk.permits.items) c.judge.ensures.number c.in-Ok.ensures.judged notes c.judge.ensures.grew books

pub returns-clause-kept : goal.returns-clause-kept
returns-clause-kept g c first k =
    let self = c.args.self.now in
    let one : Carried = record { message = c.args.message; mailbox = c.args.mailbox; text = c.args.text.now; flags = c.args.flags; verdict = c.in-Ok.verdict } in
    let same = k.0 in (
      (same.0, same.1, c.judge.ensures.number ∙ same.2, (let a = same.3 in let b = c.judge.ensures.ends in omega (arith, a, b)), λ seat was. c.judge.ensures.backed seat (same.4 seat was)),
      k.1,
      c.note_one.ensures.owner ∙ c.reserve.ensures.owner ∙ k.2,
      λ whole.
          let before = k.3 c.if-self.false in
          let own = before.1 in
          let more = before.2 in
          let heard = c.in-Ok.ensures.only in (
            before.0,
            (omega (arith, own, heard)),
            (
              more.0 ++ one ∷ [],
              carries_more first.context.intake.now self.context.intake.now first.serial self.serial first.desk self.desk c.judge.new.desk more.0 one same.0 k.1 same.2 more.1 c.in-Ok.ensures.judged c.judge.ensures.grew,
            ),
          ),
    )

-- a courier that is torn carries no more
pub returns-in_default-clause-kept : goal.returns-in_default-clause-kept
returns-in_default-clause-kept g c first k =
    let same = k.0 in (
      (same.0, same.1, c.judge.ensures.number ∙ same.2, (let a = same.3 in let b = c.judge.ensures.ends in omega (arith, a, b)), λ seat was. c.judge.ensures.backed seat (same.4 seat was)),
      k.1,
      c.reserve.ensures.owner ∙ k.2,
      λ whole. absurd (let e : true ≡ false = whole in cc),
    )
