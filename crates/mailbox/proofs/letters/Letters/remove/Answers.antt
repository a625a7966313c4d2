use Rattle.std.proofs.Common.{◌-◌, length, not, ap, ◌∙◌, sym, arith}
use Rattle.mailbox.specs.inner.Letters.{filed, message_of, messages_of}
use Rattle.mailbox.proofs.LetterLaws.{AreCounted-remove, AreCounted-same, bytes_there, length_without, number_of, unseen_there, without_none}
use Rattle.mailbox.proofs.letters.Letters.remove.Goals as goal

pub invariant_of-self : goal.invariant_of-self
invariant_of-self c =
    let ms = messages_of (filed c.self.inside.uids.items c.self.inside.letters.items) in
    AreCounted-same c.self.inside c.self.inside.uids c.take_text.new.letters c.self.invariant c.self.invariant.rising (rw c.deref.ensures.value at c.in_default.ensures.beside)
    ((rw c.deref.ensures.value at c.in_default.ensures.messages) ∙ without_none c.args.uid ms (sym (rw c.deref.ensures.value at c.in_default.ensures.was)))

pub overflow_sub-self-2 : goal.overflow_sub-self-2
overflow_sub-self-2 c =
    let ms = messages_of (filed c.self.inside.uids.items c.self.inside.letters.items) in
    let x = message_of c.args.uid c.in-Some.flags c.in-Some.text in
    omega (arith, unseen_there c.args.uid ms x (sym (rw c.deref.ensures.value at c.in-Some.ensures.was)), c.from.ensures, number_of (not c.in-Some.flags.seen), c.self.invariant.unseen)

pub overflow_sub-self-3 : goal.overflow_sub-self-3
overflow_sub-self-3 c =
    let ms = messages_of (filed c.self.inside.uids.items c.self.inside.letters.items) in
    let x = message_of c.args.uid c.in-Some.flags c.in-Some.text in
    omega (arith, bytes_there c.args.uid ms x (sym (rw c.deref.ensures.value at c.in-Some.ensures.was)), ap length c.as_slice.ensures, c.self.invariant.bytes)

pub invariant_of-self-2 : goal.invariant_of-self-2
invariant_of-self-2 c =
    let ms = messages_of (filed c.self.inside.uids.items c.self.inside.letters.items) in
    let x = message_of c.args.uid c.in-Some.flags c.in-Some.text in
    let found = sym (rw c.deref.ensures.value at c.in-Some.ensures.was) in
    let b = c.self.inside in
    AreCounted-remove b c.take_text.new.letters c.args.uid x (b.count - 1) (b.unseen - c.from.result) (b.bytes - length c.as_slice.result.now) c.self.invariant
    (rw c.deref.ensures.value at c.in-Some.ensures.beside) (rw c.deref.ensures.value at c.in-Some.ensures.messages) found (omega (arith, length_without c.args.uid ms x found, c.self.invariant.count))
    (omega (arith, unseen_there c.args.uid ms x found, c.from.ensures, number_of (not c.in-Some.flags.seen), c.self.invariant.unseen))
    (omega (arith, bytes_there c.args.uid ms x found, ap length c.as_slice.ensures, c.self.invariant.bytes))
