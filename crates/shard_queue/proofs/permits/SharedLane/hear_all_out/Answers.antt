use Rattle.std.proofs.Common.{◌≡◌, ◌∷◌, [], ◌∙◌, ap, subst, All}
use Rattle.shard_queue.specs.declared.permits.EndedPermit.{EndedPermit}
use Rattle.shard_queue.specs.Lane.{of}
use Rattle.shard_queue.specs.Shared.{list_of}
use Rattle.shard_queue.specs.SharedLane.{IsEndedPermit, said}
use Rattle.shard_queue.proofs.ClosingLaws.{all_left, one_more_behind}
use Rattle.shard_queue.proofs.permits.SharedLane.hear_all_out.Goals as goal

pub loop-e-preserved : goal.loop-e-preserved
loop-e-preserved g c =
    let view = g.C.Carrier.view in
    let Q : EndedPermit g.row.C-Pass.Denot → Type 0 = IsEndedPermit view g.C.Carrier.is_of c.args.self.now in
    let P : EndedPermit g.row.C-Pass.Denot → Type 0 = λ e. said view e ≡ of e.number (list_of (view c.args.pass.now)) in
    let i = c.loop-e.invariant in
    let items = c.in-Some.ensures.items in
    let heard = c.hear_out.ensures in (
      heard.pass.0,
      heard.pass.1,
      heard.pass.2 ∙ i.2,
      all_left Q c.pop.new.self.items (c.in-Some.e ∷ []) (subst (All Q) items i.3),
      one_more_behind P c.loop-e.ended.items c.pop.new.self.items c.args.ended.items c.in-Some.e i.4 items (heard.said ∙ ap (of c.in-Some.e.number) i.2),
    )
