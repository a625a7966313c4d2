use Rattle.std.proofs.Common.{◌++◌, ◌∷◌, [], ◌∙◌, sym, ap, subst}
use Rattle.crossbeam_channel.specs.Claims.{view, IsSeatAt}
use Rattle.shard_queue.specs.Shared.{list_of}
use Rattle.shard_queue.specs.Permits.{AreMarks}
use Rattle.shard_queue.specs.Reply.{received}
use Rattle.shard_queue.proofs.SharedLaws.{takes, learns}
use Rattle.shard_queue.proofs.ClosingLaws.{took_one, marks_item, marks_end}
use Rattle.shard_queue.proofs.reply.ReplyChannel+T.recv_as.Goals as goal

pub recv_as-requires-clause-channel : goal.recv_as-requires-clause-channel
recv_as-requires-clause-channel g c = subst (λ r. IsSeatAt r c.loop.permit.pass) (sym c.args.self.now.carrier.both) c.loop.invariant.0.0

pub recv_as-requires-clause-rule : goal.recv_as-requires-clause-rule
recv_as-requires-clause-rule g c = (takes _ _ _ _ _ _ _ c.loop.invariant.0.1, learns _ _)

pub returns-in-Ok-Item-clause-permit : goal.returns-in-Ok-Item-clause-permit
returns-in-Ok-Item-clause-permit g c = let r = c.loop.invariant.0 in let a = c.in-Ok-Item in let t = took_one _ _ _ _ _ _ _ _ r.1 a.ensures.rule in
    (subst (λ r. IsSeatAt r c.recv_as.new.pass) c.args.self.now.carrier.both a.ensures.channel.0, t.0, marks_item _ _ _ _ _ _ (t.1 ∙ ap (λ e. received c.loop.permit ++ e ∷ []) a.field-0-is) r.2)

pub returns-in-Ok-End-clause-permit : goal.returns-in-Ok-End-clause-permit
returns-in-Ok-End-clause-permit g c = let r = c.loop.invariant.0 in let a = c.in-Ok-End in let t = took_one _ _ _ _ _ _ _ _ r.1 a.ensures.rule in (
  subst (λ r. IsSeatAt r c.recv_as.new.pass) c.args.self.now.carrier.both a.ensures.channel.0,
  t.0,
  subst (λ marks. AreMarks c.args.self.now.producers marks (list_of (view c.recv_as.new.pass))) (sym c.mark.ensures.marks)
      (marks_end _ _ _ _ _ (t.1 ∙ ap (λ e. received c.loop.permit ++ e ∷ []) a.field-0-is) c.mark.ensures.within r.2),
)
