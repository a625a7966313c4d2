use Rattle.std.proofs.Common.{rules, of_calls, ◌≡◌, ℕ, List, filter, not, ap, sym, ◌∙◌, length, arith}
use Rattle.std.proofs.lemmas.Fn.{filter_same}
use Rattle.cursor_set.proofs.Positions.{Rises-from}
use Rattle.mailbox.specs.inner.Choices.{passes}
use Rattle.mailbox.specs.Mailbox.{Message, remaining, uids_of}
use Rattle.mailbox.specs.inner.Marks.{marked_of, without_each}
use Rattle.mailbox.proofs.MarkLaws.{length_remaining}
use Rattle.mailbox.proofs.TakenLaws.{each_taken, marks_left}
use Rattle.mailbox.proofs.messages.Messages.remove.Goals as goal

-- the messages that are left
left : (c : goal.After-retain) → c.tidy.new.self ≡ remaining (passes c.args.choice) c.self.inside.letters
left c =
    let ms = c.self.inside.letters in
    let test = passes c.args.choice in
    c.tidy.ensures ∙ c.remove_each.ensures ∙ ap (λ (us : List ℕ). without_each test us ms) (c.deref.ensures.value ∙ c.self.invariant.marked)
    ∙ each_taken test ms (Rises-from (uids_of ms) c.len-len.ensures.rising)

pub invariant_of-self : goal.invariant_of-self
invariant_of-self c =
    let ms = c.self.inside.letters in
    let test = passes c.args.choice in
    let kept = filter_same _ (λ (u : ℕ). not (test u)) _ (λ x b f k. search (rules, of_calls)) c.self.inside.marked.items c.retain.new.self.items c.retain.ensures.filtered in
    record {
      marked = kept ∙ ap (filter (λ (u : ℕ). not (test u))) c.self.invariant.marked ∙ marks_left test ms ∙ ap marked_of (sym (left c));
      room = omega (arith, ap length (left c), length_remaining test ms, c.self.invariant.room, c.retain.ensures.capacity);
    }

pub returns : goal.returns
returns c = left c ∙ ap (λ (ms : List Message). remaining (passes c.args.choice) ms) c.self.view_is
