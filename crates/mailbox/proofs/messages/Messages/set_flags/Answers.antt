use Rattle.std.proofs.Common.{◌≡◌, ap, sym, subst, ◌∙◌, length, arith, Bool, List}
use Rattle.std.specs.List.Sorted.{IsStrictlyIncreasing}
use Rattle.change_ring.specs.declared.change.Flags.{Flags}
use Rattle.cursor_set.proofs.Positions.{Rises-from, Rises-to}
use Rattle.mailbox.specs.Mailbox.{Message, message_with, uids_of}
use Rattle.mailbox.specs.inner.Marks.{AreMarked, marked_of, remarked}
use Rattle.mailbox.proofs.LetterLaws.{flags_of_none, flags_of_one, reflagged_none}
use Rattle.mailbox.proofs.MarkLaws.{length_reflagged, marked_less, marked_rises, marked_set}
use Rattle.mailbox.proofs.messages.Messages.set_flags.Goals as goal

pub remark-requires-clause-room : goal.remark-requires-clause-room
remark-requires-clause-room c = λ off.
    let ms = c.self.inside.letters in
    let f = flags_of_one (message_with c.args.uid ms) c.in-Some.old c.in-Some.ensures.was in
    let less = marked_less c.args.uid ms f.0 f.1 (ap (λ (g : Flags). g.deleted) f.2 ∙ off) in
    omega (arith, less, ap length c.self.invariant.marked, c.self.invariant.room, c.self.inside.marked.ok.0)

pub remark-requires-clause-rising : goal.remark-requires-clause-rising
remark-requires-clause-rising c =
    let ms = c.self.inside.letters in
    subst IsStrictlyIncreasing (sym c.self.invariant.marked) (Rises-to (marked_of ms) (marked_rises ms (Rises-from (uids_of ms) c.len-len.ensures.rising)))

pub invariant_of-self : goal.invariant_of-self
invariant_of-self c =
    let ms = c.self.inside.letters in
    let same : c.set_flags.new.self ≡ ms
    = c.in_default.ensures.messages ∙ reflagged_none c.args.uid c.args.flags ms (flags_of_none (message_with c.args.uid ms) c.in_default.ensures.was) in
    subst (λ (letters : List Message). AreMarked (record { letters = letters; marked = c.self.inside.marked })) (sym same) c.self.invariant

pub invariant_of-self-2 : goal.invariant_of-self-2
invariant_of-self-2 c =
    let ms = c.self.inside.letters in
    let f = flags_of_one (message_with c.args.uid ms) c.in-Some.old c.in-Some.ensures.was in
    let set = marked_set c.args.uid c.args.flags ms f.0 (Rises-from (uids_of ms) c.len-len.ensures.rising) f.1 in
    record {
      marked = c.remark.ensures.items ∙ ap (remarked c.args.uid c.in-Some.old.deleted c.args.flags.deleted) c.self.invariant.marked
          ∙ ap (λ (b : Bool). remarked c.args.uid b c.args.flags.deleted (marked_of ms)) (sym (ap (λ (g : Flags). g.deleted) f.2))
          ∙ sym set ∙ ap marked_of (sym c.in-Some.ensures.messages);
      room = omega (arith, ap length c.in-Some.ensures.messages, length_reflagged c.args.uid c.args.flags ms, c.self.invariant.room, c.remark.ensures.room);
    }
