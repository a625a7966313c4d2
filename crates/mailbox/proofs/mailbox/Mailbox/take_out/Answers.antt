use Rattle.std.proofs.Common.{◌≡◌, ◌+◌, ℕ, Bool, List, [], ◌++◌, length, map, refl, ap, sym, subst, ◌∙◌, arith, Some}
use Rattle.change_ring.specs.declared.change.Change.{Change}
use Rattle.change_ring.specs.Log.{discards, removals, total}
use Rattle.cursor_set.proofs.Positions.{Rises-from}
use Rattle.mailbox.specs.inner.Choices.{passes}
use Rattle.mailbox.specs.Events.{Moves, in_set}
use Rattle.mailbox.specs.inner.Events.{GoesOn}
use Rattle.mailbox.specs.Mailbox.{Mailbox, Message, remaining, row_of, rows, uids_of, without, Stands}
use Rattle.mailbox.specs.inner.Marks.{doomed, gone_of, marked_of}
use Rattle.mailbox.specs.inner.Seen.{mail_of}
use Rattle.mailbox.proofs.DoomLaws.{doomed_left, doomed_logged, length_without}
use Rattle.mailbox.proofs.RemovalLaws.{discards_add, discards_fit, rows_discarded}
use Rattle.mailbox.proofs.StandsLaws.{Stands-changed, Stands-rising}
use Rattle.mailbox.proofs.TakenLaws.{gone_marked}
use Rattle.mailbox.proofs.mailbox.Mailbox.take_out.Goals as goal

-- of messages that have \Deleted where their UID passes those go that passed before
told : (us : List ℕ) (test : ℕ → Bool) (ms ns : List Message) → test ≡ in_set (Some us) → ns ≡ doomed us ms → gone_of test (marked_of ns) ≡ discards test (map row_of ms)
told us test ms ns named are =
    ap (λ (xs : List Message). gone_of test (marked_of xs)) are ∙ sym (gone_marked test (doomed us ms))
    ∙ subst (λ (f : ℕ → Bool). removals f (map row_of (doomed us ms)) ≡ discards f (map row_of ms)) (sym named) (doomed_logged us ms)

left : (us : List ℕ) (test : ℕ → Bool) (ms ns : List Message) → test ≡ in_set (Some us) → ns ≡ doomed us ms → remaining test ns ≡ without test ms
left us test ms ns named are =
    ap (remaining test) are ∙ subst (λ (f : ℕ → Bool). remaining f (doomed us ms) ≡ without f ms) (sym named) (doomed_left us ms)

pub log_removals-requires-clause-room : goal.log_removals-requires-clause-room
log_removals-requires-clause-room c =
    let test = passes c.args.named in
    let all = ap (λ (us : List ℕ). length (gone_of test us)) c.marked.ensures in
    let same = ap length (told c.args.uids.now test c.self.inside.messages c.doom_each.new.messages c.requires.test c.doom_each.ensures) in
    let now = ap (λ (m : Mailbox). total m.window + length (discards test (rows m))) c.self.view_is in
    omega (arith, c.requires.room, all, same, now)

-- what is logged
abbrev logged : goal.After-remove → List Change
logged c = discards (passes c.args.named) (map row_of c.self.inside.messages)

same : (c : goal.After-remove) → gone_of (passes c.args.named) c.marked.result.now ≡ logged c
same c =
    let test = passes c.args.named in
    ap (gone_of test) c.marked.ensures ∙ told c.args.uids.now test c.self.inside.messages c.doom_each.new.messages c.requires.test c.doom_each.ensures

goes_on : (c : goal.After-remove) → GoesOn c.self.inside.ring c.log_removals.new.ring (logged c)
goes_on c = subst (GoesOn c.self.inside.ring c.log_removals.new.ring) (same c) c.log_removals.ensures.goes_on

moves : (c : goal.After-remove) → Moves c.self.inside.cursors c.self.inside.ring c.log_removals.new.ring (logged c)
moves c = subst (Moves c.self.inside.cursors c.self.inside.ring c.log_removals.new.ring) (same c) c.log_removals.ensures.moves

-- the messages that are left
stay : (c : goal.After-remove) → c.remove.new.self ≡ without (passes c.args.named) c.self.inside.messages
stay c = c.remove.ensures ∙ left c.args.uids.now (passes c.args.named) c.self.inside.messages c.doom_each.new.messages c.requires.test c.doom_each.ensures

-- the mailbox as it is left
abbrev after : goal.After-remove → Mailbox
after c = record (mail_of c.self.inside) { messages = c.remove.new.self; window = c.log_removals.new.ring }

removed : (c : goal.After-remove) (log : List Change) → Stands (mail_of c.self.inside) log → Stands (after c) (log ++ logged c)
removed c log s =
    let b = c.self.inside in
    let test = passes c.args.named in
    let up = Rises-from (uids_of b.messages) (Stands-rising (mail_of b) log s) in
    Stands-changed (mail_of b) (after c) log (logged c) s (discards_fit test [] b.messages up)
    (ap (map row_of) (stay c) ∙ sym (rows_discarded test [] b.messages up)) (goes_on c)
    (discards_add test b.messages) refl refl refl

pub invariant_of-self : goal.invariant_of-self
invariant_of-self c =
    let inv = c.self.invariant in
    let fewer = length_without (passes c.args.named) c.self.inside.messages in
    (inv.0, omega (arith, inv.1, fewer, ap length (stay c)), (inv.2.0 ++ logged c, removed c inv.2.0 inv.2.1), inv.3)

pub returns-clause-logged : goal.returns-clause-logged
returns-clause-logged c =
    let new = after c in
    λ log s. subst (λ (m : Mailbox). Stands new (log ++ discards (passes c.args.named) (rows m))) c.self.view_is (removed c log (subst (λ (m : Mailbox). Stands m log) (sym c.self.view_is) s))

pub returns-clause-window : goal.returns-clause-window
returns-clause-window c = subst (λ (m : Mailbox). Moves m.cursors m.window c.log_removals.new.ring (discards (passes c.args.named) (rows m))) c.self.view_is (moves c)

pub returns-clause-messages : goal.returns-clause-messages
returns-clause-messages c = stay c ∙ ap (λ (m : Mailbox). without (passes c.args.named) m.messages) c.self.view_is
