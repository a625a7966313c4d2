use Rattle.std.proofs.Common.{◌<◌, ◌++◌, ◌∷◌, [], ◌∙◌, sym, ap, subst}
use Rattle.crossbeam_queue.specs.Passes.{view}
use Rattle.shard_queue.specs.Shared.{list_of, seen_of}
use Rattle.shard_queue.specs.Permits.{AreMarks, IsLeftBy, got, take_seen}
use Rattle.shard_queue.specs.Lane.{producer}
use Rattle.shard_queue.proofs.SharedLaws.{takes, learns}
use Rattle.shard_queue.proofs.ClosingLaws.{took_one, marks_item, marks_end, was_empty}
use Rattle.shard_queue.proofs.queue.ShardQueue+T.take_as.Goals as goal

pub pop_as-requires-clause-rule : goal.pop_as-requires-clause-rule
pop_as-requires-clause-rule g c = (takes _ _ _ _ _ _ _ c.requires.permit.1, learns _ _)

pub returns-in-Some-Item-clause-permit : goal.returns-in-Some-Item-clause-permit
returns-in-Some-Item-clause-permit g c = let r = c.requires.permit in let a = c.in-Some-Item in let t = took_one _ _ _ _ _ _ _ _ r.1 a.ensures.rule in
    ((a.ensures.queue.0 ∙ r.0.0, a.ensures.queue.2 ∙ r.0.1), t.0, marks_item _ _ _ _ _ _ (t.1 ∙ ap (λ e. got c.args.permit.now ++ e ∷ []) a.field-0-is) r.2)

pub returns-in-Some-End-clause-permit : goal.returns-in-Some-End-clause-permit
returns-in-Some-End-clause-permit g c = let r = c.requires.permit in let a = c.in-Some-End in let t = took_one _ _ _ _ _ _ _ _ r.1 a.ensures.rule in (
  (a.ensures.queue.0 ∙ r.0.0, a.ensures.queue.2 ∙ r.0.1),
  t.0,
  subst (λ marks. AreMarks c.args.self.now.producers marks (list_of (view c.pop_as.new.pass))) (sym c.mark.ensures.marks)
      (marks_end _ _ _ _ _ (t.1 ∙ ap (λ e. got c.args.permit.now ++ e ∷ []) a.field-0-is) c.mark.ensures.within r.2),
)

pub returns-in-None-clause-taken : goal.returns-in-None-clause-taken
returns-in-None-clause-taken g c = let h = c.in-None.ensures.rule in (ap list_of h.0, ap seen_of h.0, was_empty _ _ _ _ _ _ _ _ c.requires.permit.1 h.1.1 h.1.2)

pub returns-in-Some-Item-clause-taken : goal.returns-in-Some-Item-clause-taken
returns-in-Some-Item-clause-taken g c = let a = c.in-Some-Item in let t = took_one _ _ _ _ _ _ _ _ c.requires.permit.1 a.ensures.rule in (
  t.1 ∙ ap (λ e. got c.args.permit.now ++ e ∷ []) a.field-0-is,
  subst (λ e. producer e < c.args.self.now.producers) a.field-0-is t.2,
  subst (λ xs. IsLeftBy (take_seen c.args.permit.now) xs (seen_of (view c.pop_as.new.pass))) (sym t.1) t.3,
)

pub returns-in-Some-End-clause-taken : goal.returns-in-Some-End-clause-taken
returns-in-Some-End-clause-taken g c = let a = c.in-Some-End in let t = took_one _ _ _ _ _ _ _ _ c.requires.permit.1 a.ensures.rule in (
  t.1 ∙ ap (λ e. got c.args.permit.now ++ e ∷ []) a.field-0-is,
  subst (λ e. producer e < c.args.self.now.producers) a.field-0-is t.2,
  subst (λ xs. IsLeftBy (take_seen c.args.permit.now) xs (seen_of (view c.pop_as.new.pass))) (sym t.1) t.3,
)
