use Rattle.std.proofs.Common.{◌≡◌, ℕ, List, [], ◌∷◌, ◌++◌, Some, slice_set, sym, ap, ◌∙◌, subst}
use Rattle.change_ring.specs.Log.{IsLegalLog}
use Rattle.delivery_token.specs.declared.Verdict.{Verdict}
use Rattle.shared_history.specs.Pages.{part}
use Rattle.house_history.specs.declared.event.Event.{Event}
use Rattle.house_history.specs.declared.event.Event.TheVariants.{Judged}
use Rattle.house_history.specs.Events.{arrives, changes_in, concerns}
use Rattle.locked_mailbox.specs.Locking.{IsNext, Judges, Keeps, LockedMailbox}
use Rattle.locked_mailbox.proofs.Keeping.{above, deliver_keeps, delivered_legal, held}
use Rattle.locked_mailbox.proofs.locked.LockedMailbox.judge.Goals as goal

pub judge-requires-clause-above : goal.judge-requires-clause-above
judge-requires-clause-above g c = let s = c.self.inside in let j = c.args.job.now in
    let next = subst (λ (h : LockedMailbox). IsNext h j) (sym c.self.view_is) c.requires.next in
    above s.mailbox s.part.number s.part.events s.last.items j c.self.invariant next.above

pub judge-requires-clause-fits : goal.judge-requires-clause-fits
judge-requires-clause-fits g c = let s = c.self.inside in let j = c.args.job.now in let d = c.deliver-delivered in let t = c.args.ticket.now.number in
    let next = subst (λ (h : LockedMailbox). IsNext h j) (sym c.self.view_is) c.requires.next in
    let here : j.mailbox ≡ s.part.number = next.here ∙ sym c.self.invariant.here in
    let kept = deliver_keeps s.mailbox d.new.mailbox s.part.number s.part.events s.last.items j t d.result d.ensures c.self.invariant here next.seat next.above in
    subst (λ (v : Verdict). IsLegalLog (changes_in s.part.number s.part.events ++ arrives j v)) (sym c.verdict_of-verdict.ensures)
    (delivered_legal d.new.mailbox s.part.number s.part.events _ j _ t here kept)

pub invariant_of-self : goal.invariant_of-self
invariant_of-self g c = let s = c.self.inside in let j = c.args.job.now in let d = c.deliver-delivered in let t = c.args.ticket.now.number in
    let next = subst (λ (h : LockedMailbox). IsNext h j) (sym c.self.view_is) c.requires.next in
    let left = d.new.mailbox in let to = slice_set s.last.items j.key.seat (Some j.key) in let now = c.judge.new.self in
    let kept = deliver_keeps s.mailbox left s.part.number s.part.events s.last.items j t d.result d.ensures c.self.invariant (next.here ∙ sym c.self.invariant.here) next.seat next.above in
    let told = subst (λ (v : Verdict). Keeps left s.part.number (s.part.events ++ Judged j v t ∷ []) to) (sym c.verdict_of-verdict.ensures) kept in
    let events = subst (λ (l : List Event). Keeps left s.part.number l to) (sym c.judge.ensures.part.1) told in
    let number = subst (λ (n : ℕ). Keeps left n now.events to) (sym c.judge.ensures.part.0) events in
    subst (λ (p : ℕ). Keeps left now.number now.events (slice_set s.last.items p (Some j.key))) (sym c.from.ensures) number

pub returns : goal.returns
returns g c = let s = c.self.inside in let j = c.args.job.now in let d = c.deliver-delivered in let v = c.verdict_of-verdict.result in let now = c.judge.new.self in
    let to : LockedMailbox = held d.new.mailbox now.events (slice_set s.last.items c.from.result (Some j.key)) c.judge.new.front in
    subst (λ (h : LockedMailbox). Judges j v h to) c.self.view_is record {
      delivered = record { delivered = d.result; does = d.ensures; tells = c.verdict_of-verdict.ensures };
      said = (c.args.ticket.now.number, c.judge.ensures.part.1);
      last = ap (λ (p : ℕ). slice_set s.last.items p (Some j.key)) c.from.ensures;
      goes_on = c.judge.ensures.seen.0;
      legal = c.judge.ensures.seen.1;
      told = c.judge.ensures.seen.2;
      own = subst (λ (n : ℕ). part concerns n c.judge.new.front ≡ now.events) c.self.invariant.here c.judge.ensures.all;
    }
