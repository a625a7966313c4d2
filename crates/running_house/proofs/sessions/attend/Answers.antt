use Rattle.std.proofs.Common.{rules, ◌≡◌, ◌≤◌, ◌∙◌, ℕ, [], Vec, ap, arith, length, subst, sym, map, vec_capacity}
use Rattle.std.specs.Global.{Global}
use Rattle.delivery_token.specs.WorkerLog.{WorkerLog}
use Rattle.delivery_token.specs.declared.log.Noted.{Noted}
use Rattle.shard_queue.specs.Reply.{ReplyChannel, IsReceiver, received}
use Rattle.lane_work.specs.declared.desk.Intake.{Intake}
use Rattle.lane_work.specs.Account.{rooms_of}
use Rattle.lane_work.specs.Awaiting.{verdicts_in}
use Rattle.lane_work.specs.Permits.{AreEnded, put_by}
use Rattle.lane_work.proofs.AwaitedLaws.{ended_counts, new_counts, quiet_counts}
use Rattle.house_history.specs.Events.{sent_by}
use Rattle.lane_work.proofs.BackingLaws.{backed_begin}
use Rattle.lane_work.proofs.ServedLaws.{books_begin}
use Rattle.shard_queue.specs.Permits.{said}
use Rattle.running_house.proofs.Attending.{session_account}
use Rattle.house_shared.proofs.Finding.{user_named}
use Rattle.running_house.proofs.sessions.attend.Goals as goal

pub finish-requires-clause-room : goal.finish-requires-clause-room
finish-requires-clause-room g c =
    (c.requires.post.empty, subst (λ (o : Intake _). length o.lanes.items ≤ vec_capacity c.args.post.room) (sym c.live_through-fate.ensures.same.0) c.requires.post.room)

pub returns : goal.returns
returns g c =
    let shared = c.args.shared.now in
    let intake = shared.intake in
    let directory = intake.directory in
    let seat = c.args.post.desk.number in
    let life = c.live_through-fate.ensures in
    let now = c.live_through-fate.new.courier in
    let end = c.finish.ensures in
    let left = c.finish.result in
    let own : now.desk.number ≡ seat = life.same.2 in
    let begun = books_begin directory (rooms_of intake.lanes.items) seat c.new.result.notes (received c.args.post.desk.receiver) c.args.post.desk.permits.items c.new.ensures.notes c.requires.post.fresh in (
      subst (λ (n : ℕ). AreEnded intake.lanes.items n left.ended.items) own (subst (λ (o : Intake _). AreEnded o.lanes.items now.desk.number left.ended.items) life.same.0 end.ended),
      subst (λ (x : ReplyChannel Noted). IsReceiver x left.receiver) life.same.1 end.receiver,
      ap (λ (b : WorkerLog). b.seat) end.kept.0 ∙ life.book ∙ c.new.ensures.seat,
      (λ whole.
          let alone = life.only (c.unless_torn-fate.ensures.whole (end.whole whole)).1 in
          let heard = alone.1 in
          let quiet = quiet_counts (received now.desk.receiver) (received left.receiver) (end.quiet whole) in
          let over = ended_counts now.desk.number (map put_by now.desk.permits.items) (map said left.ended.items) end.said in
          let new = new_counts c.args.post.desk.permits.items c.requires.post.fresh in
          let none = ap verdicts_in c.requires.post.unheard.0 in omega (arith, heard, quiet, over, new, none)),
      λ whole.
          let lived = life.whole (c.unless_torn-fate.ensures.whole (end.whole whole)).0 in
          let named = user_named directory.homes c.in-Some.inbox c.args.guest.now.user c.user_of-user.result.now (search rules) c.in-Some.ensures.inbox.1 c.user_of-user.ensures in
          let said_alone = ap (λ (v : Vec (Vec ℕ Global) Global). map (λ b. b.items) v.items) end.kept.1 ∙ lived.2.2 in
          session_account shared now.context.intake.now now.desk seat now.serial c.args.guest.now c.user_of-user.result.now c.new-locked.result c.args.shared.now.delivery.front lived.0 lived.2.0 (map (λ b. b.items) left.replies.items) now.book.notes left.log.notes
          (received left.receiver) (map said left.ended.items) life.same.0 own life.serial (ap (λ (b : WorkerLog). b.notes) end.kept.0) named (search rules) lived.2.1 said_alone
          (lived.1 [] begun) end.grew end.said,
      λ whole.
          let desk = c.args.post.desk in
          let unsent = subst (λ (p : ℕ). sent_by p desk.dispatch.history ≡ []) c.requires.post.dispatch.0 (c.is_kept.ensures.own ∙ c.requires.post.dispatch.1) in
          let began = backed_begin seat desk.dispatch.history (received desk.receiver) desk.permits.items c.is_kept.ensures.legal unsent c.requires.post.unheard.0 c.requires.post.fresh in
          end.backed whole seat (life.same.4 seat (c.requires.post.dispatch.0, began)),
    )
