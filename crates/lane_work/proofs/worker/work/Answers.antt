use Rattle.std.proofs.Common.{arith, ◌∙◌, ap, refl, sym, subst, map, ℕ, Vec}
use Rattle.std.specs.Global.{Global}
use Rattle.delivery_token.specs.WorkerLog.{WorkerLog}
use Rattle.shard_queue.specs.Reply.{received}
use Rattle.shard_queue.specs.Permits.{said}
use Rattle.lane_work.specs.Permits.{put_by, AreEnded}
use Rattle.lane_work.specs.Account.{rooms_of, Account, HaveEnded}
use Rattle.lane_work.specs.Speaking.{premises_of}
use Rattle.lane_work.proofs.BackingLaws.{backed_begin}
use Rattle.lane_work.proofs.AwaitedLaws.{ended_counts, new_counts, quiet_counts}
use Rattle.lane_work.proofs.ServedLaws.{account_of, books_begin}
use Rattle.lane_work.proofs.worker.work.Goals as goal

pub go_through-fate-requires-clause-begun : goal.go_through-fate-requires-clause-begun
go_through-fate-requires-clause-begun g c = (
  c.new-replies.ensures.items,
  books_begin c.args.context.now.intake.now.directory (rooms_of c.args.context.now.intake.now.lanes.items) c.args.desk.number c.new-log.result.notes (received c.args.desk.receiver) c.args.desk.permits.items c.new-log.ensures.notes c.requires.permits.1,
)

pub returns-clause-worked : goal.returns-clause-worked
returns-clause-worked g c =
    let number = c.go_through-fate.ensures.number in
    let f = c.finish.ensures in
    let before = map put_by c.go_through-fate.new.producer.desk.permits.items in
    let after = map said c.finish.result.ended.items in (
      subst (λ n. AreEnded c.args.context.now.intake.now.lanes.items n c.finish.result.ended.items) number f.ended,
      f.receiver,
      ap (λ (l : WorkerLog). l.seat) f.kept.0 ∙ c.go_through-fate.ensures.seat ∙ c.new-log.ensures.seat,
      λ whole.
          let account = account_of (premises_of c.args.context.now.intake.now) c.args.desk.number (map (λ b. b.items) c.args.connections.now) (map (λ b. b.items) c.go_through-fate.new.replies.items)
          c.go_through-fate.new.producer.book.notes (received c.go_through-fate.new.producer.desk.receiver) (received c.finish.result.receiver) before after f.grew (subst (λ n. HaveEnded n before after) number f.said) (c.go_through-fate.ensures.whole (f.whole whole)) in
          subst (λ (l : WorkerLog). Account (premises_of c.args.context.now.intake.now) c.args.desk.number (map (λ b. b.items) c.args.connections.now) (map (λ b. b.items) c.finish.result.replies.items) l.notes (received c.finish.result.receiver) after) (sym f.kept.0)
          (subst (λ (r : Vec (Vec ℕ Global) Global). Account (premises_of c.args.context.now.intake.now) c.args.desk.number (map (λ b. b.items) c.args.connections.now) (map (λ b. b.items) r.items) c.go_through-fate.new.producer.book.notes (received c.finish.result.receiver) after) (sym f.kept.1) account),
    )

pub returns-clause-only : goal.returns-clause-only
returns-clause-only g c whole =
    let desk = c.go_through-fate.new.producer.desk in
    let own = c.go_through-fate.ensures.only (c.finish.ensures.whole whole) in
    let quiet = quiet_counts (received desk.receiver) (received c.finish.result.receiver) (c.finish.ensures.quiet whole) in
    let ended = ended_counts desk.number (map put_by desk.permits.items) (map said c.finish.result.ended.items) c.finish.ensures.said in
    let new = new_counts c.args.desk.permits.items c.requires.permits.1 in
    omega (arith, own, quiet, ended, new)

pub returns-clause-backed : goal.returns-clause-backed
returns-clause-backed g c whole unheard unsent =
    let desk = c.args.desk in
    let seat = desk.dispatch.number in
    let begun = backed_begin seat desk.dispatch.history (received desk.receiver) desk.permits.items c.is_kept.ensures.legal (c.is_kept.ensures.own ∙ unsent) unheard c.requires.permits.1 in
    c.finish.ensures.backed whole seat (c.go_through-fate.ensures.backed seat (refl, begun))
