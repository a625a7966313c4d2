use Rattle.std.proofs.Common.{subst, List, arith}
use Rattle.std.specs.List.Sorted.{IsStrictlyIncreasing}
use Rattle.mailbox.specs.Mailbox.{Message, uids_of}
use Rattle.mailbox.proofs.LetterLaws.{messages_few, messages_rise}
use Rattle.mailbox.proofs.letters.Letters.len.Goals as goal

pub returns-clause-small : goal.returns-clause-small
returns-clause-small c =
    let v = c.self.inside.uids in
    omega (arith, c.self.invariant.count, messages_few v.items c.self.inside.letters.items, v.ok.0, v.ok.1, v.small)

pub returns-clause-rising : goal.returns-clause-rising
returns-clause-rising c =
    subst (λ (ms : List Message). IsStrictlyIncreasing (uids_of ms)) c.self.view_is
    (messages_rise c.self.inside.uids.items c.self.inside.letters.items c.self.invariant.beside c.self.invariant.rising)
