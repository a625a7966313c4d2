use Rattle.std.proofs.Common.{◌+◌, ◌-◌, not, ap, ◌∙◌, arith}
use Rattle.change_ring.specs.declared.change.Flags.{Flags}
use Rattle.mailbox.specs.inner.Letters.{filed, messages_of}
use Rattle.mailbox.specs.Mailbox.{message_with}
use Rattle.mailbox.proofs.LetterLaws.{AreCounted-same, AreCounted-set, flags_of_none, flags_of_one, messages_few, number_of, one_at_most, one_if, reflagged_none, unseen_few, unseen_there}
use Rattle.mailbox.proofs.letters.Letters.set_flags.Goals as goal

pub invariant_of-self : goal.invariant_of-self
invariant_of-self c =
    let ms = messages_of (filed c.self.inside.uids.items c.self.inside.letters.items) in
    let none = flags_of_none (message_with c.args.uid ms) (rw c.deref.ensures.value at c.in_default.ensures.was) in
    AreCounted-same c.self.inside c.self.inside.uids c.replace_flags.new.letters c.self.invariant c.self.invariant.rising (rw c.deref.ensures.value at c.in_default.ensures.beside)
    ((rw c.deref.ensures.value at c.in_default.ensures.messages) ∙ reflagged_none c.args.uid c.args.flags ms none)

pub overflow_add-self : goal.overflow_add-self
overflow_add-self c =
    let v = c.self.inside.uids in
    let ls = c.self.inside.letters.items in
    omega (arith, unseen_few (messages_of (filed v.items ls)), messages_few v.items ls, v.ok.0, v.ok.1, v.small, c.self.invariant.unseen, c.from.ensures, number_of (not c.args.flags.seen), one_at_most (not c.args.flags.seen))

pub overflow_sub-self : goal.overflow_sub-self
overflow_sub-self c =
    let ms = messages_of (filed c.self.inside.uids.items c.self.inside.letters.items) in
    let f = flags_of_one (message_with c.args.uid ms) c.in-Some.old (rw c.deref.ensures.value at c.in-Some.ensures.was) in
    let there = unseen_there c.args.uid ms f.0 f.1 in
    let same = ap (λ (g : Flags). one_if (not g.seen)) f.2 in
    omega (arith, there, same, c.from-2.ensures, number_of (not c.in-Some.old.seen), c.self.invariant.unseen)

pub invariant_of-self-2 : goal.invariant_of-self-2
invariant_of-self-2 c =
    let ms = messages_of (filed c.self.inside.uids.items c.self.inside.letters.items) in
    let f = flags_of_one (message_with c.args.uid ms) c.in-Some.old (rw c.deref.ensures.value at c.in-Some.ensures.was) in
    let there = unseen_there c.args.uid ms f.0 f.1 in
    let same = ap (λ (g : Flags). one_if (not g.seen)) f.2 in
    AreCounted-set c.self.inside c.replace_flags.new.letters c.args.uid c.args.flags f.0 (c.self.inside.unseen + c.from.result - c.from-2.result) c.self.invariant
    (rw c.deref.ensures.value at c.in-Some.ensures.beside) (rw c.deref.ensures.value at c.in-Some.ensures.messages) f.1 (omega (arith, there, same, c.from.ensures, number_of (not c.args.flags.seen), c.from-2.ensures, number_of (not c.in-Some.old.seen), c.self.invariant.unseen))
