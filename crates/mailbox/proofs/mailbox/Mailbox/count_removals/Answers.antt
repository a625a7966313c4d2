use Rattle.std.proofs.Common.{ap, sym, ◌∙◌, length, List, ℕ}
use Rattle.std.specs.Prelude.{count_by}
use Rattle.change_ring.specs.Log.{removals}
use Rattle.mailbox.specs.inner.Choices.{passes}
use Rattle.mailbox.specs.Mailbox.{Mailbox, rows}
use Rattle.mailbox.specs.inner.Marks.{marked_of}
use Rattle.mailbox.proofs.TakenLaws.{gone_marked, gone_number}
use Rattle.mailbox.proofs.mailbox.Mailbox.count_removals.Goals as goal

pub returns : goal.returns
returns c =
    let test = passes c.args.choice in
    let ms = c.self.inside.messages in
    c.count_taken.ensures ∙ ap (λ (us : List ℕ). count_by test us) c.marked.ensures ∙ gone_number test (marked_of ms)
    ∙ ap length (sym (gone_marked test ms)) ∙ ap (λ (m : Mailbox). length (removals test (rows m))) c.self.view_is
