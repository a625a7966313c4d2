use Rattle.std.proofs.Common.{ap, refl, sym}
use Rattle.house.specs.House.{House}
use Rattle.house.proofs.TailLaws.{some_mail, window_printed}
use Rattle.house.proofs.house.House.tail.Goals as goal

pub returns-clause-window : goal.returns-clause-window
returns-clause-window c k s st =
    window_printed k s c.args.self.now c.self.inside.store.core c.self.inside.directory c.args.word.now c.in-Some.mailbox _ _ c.args.out.now.items c.print_tail.new.out.items st
    (ap (λ (h : House). h.core) (sym c.self.view_is)) (ap (λ (h : House). h.directory) (sym c.self.view_is)) (sym c.in-Some.ensures.value) (c.in-Some-tail.ensures.there.0 refl)
    (c.in-Some-tail.ensures.base some_mail) (c.in-Some-tail.ensures.changes some_mail) c.in_ok-print_tail.ensures.ok
