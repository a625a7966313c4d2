use Rattle.std.proofs.Common.{rules, ◌∙◌}
use Rattle.std.proofs.lemmas.List.{get_or_default}
use Rattle.lane_work.proofs.CopyLaws.{notes_next}
use Rattle.lane_work.proofs.verdict_log.log_all.Goals as goal

pub loop-i-preserved : goal.loop-i-preserved
loop-i-preserved c =
    let v = c.loop-i.invariant in
    let d = c.note.ensures.spare in (
      c.note.ensures.seat ∙ v.0,
      search rules,
      notes_next c.args.message.now.keys.items c.args.message.now.mailboxes.items c.args.message.now.text c.args.verdicts.now c.loop-i.i c.index.result.now c.index-in-loop-i.result.now _
          c.args.log.now.notes c.loop-i.log.notes c.note.new.self.notes (search rules) (search rules) (search rules) c.index.ensures c.index-in-loop-i.ensures
          (get_or_default c.args.verdicts.now c.loop-i.i _ _ (search rules)) c.note.ensures.notes v.2,
    )
