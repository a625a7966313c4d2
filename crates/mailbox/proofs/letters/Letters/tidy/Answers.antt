use Rattle.std.proofs.Common.{subst, sym}
use Rattle.std.specs.List.Sorted.{IsStrictlyIncreasing}
use Rattle.mailbox.proofs.LetterLaws.{AreCounted-same, messages_rise}
use Rattle.mailbox.proofs.letters.Letters.tidy.Goals as goal

pub invariant_of-self : goal.invariant_of-self
invariant_of-self c =
    let rising = subst IsStrictlyIncreasing (sym c.close_up.ensures.uids) (messages_rise c.self.inside.uids.items c.self.inside.letters.items c.self.invariant.beside c.self.invariant.rising) in
    AreCounted-same c.self.inside c.close_up.new.uids c.close_up.new.letters c.self.invariant rising c.close_up.ensures.beside c.close_up.ensures.messages
