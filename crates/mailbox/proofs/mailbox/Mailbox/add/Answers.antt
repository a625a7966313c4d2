use Rattle.std.proofs.Common.{◌≡◌, ◌+◌, ◌<◌, ℕ, List, [], ◌∷◌, ◌++◌, All, ap, sym, subst, ◌∙◌, length, arith, refl, length-append}
use Rattle.change_ring.specs.declared.change.Change.{Change}
use Rattle.change_ring.specs.declared.change.Change.TheVariants.{Add}
use Rattle.delivery_token.specs.declared.CopyKey.{CopyKey}
use Rattle.mailbox.specs.Mailbox.{Mailbox, next_uid, uids_of, Stands}
use Rattle.mailbox.specs.inner.Seen.{mail_of}
use Rattle.mailbox.proofs.StandsLaws.{Stands-below, Stands-deliver, Stands-rising}
use Rattle.mailbox.proofs.mailbox.Mailbox.add.Goals as goal

pub add-requires : goal.add-requires
add-requires c =
    let b = c.self.inside in
    subst (λ (n : ℕ). All (λ u. u < n) (uids_of b.messages)) (sym c.self.invariant.0) (Stands-below (mail_of b) c.self.invariant.2.0 c.self.invariant.2.1)

-- the mailbox as it is left
abbrev after : goal.After-result-1 → Mailbox
after c = mail_of (record c.self.inside { next = c.self.inside.next + 1; messages = c.add.new.self; ring = c.log_change.new.ring; accepted = c.accept.new.self })

-- its copies are those that it had, and this one
took : (c : goal.After-result-1) → c.accept.new.self.items ≡ c.self.inside.accepted.items ++ (c.args.job.now.key, c.self.inside.next) ∷ []
took c = c.accept.ensures.items ∙ ap (λ (xs : List (CopyKey × ℕ)). xs ++ (c.args.job.now.key, c.self.inside.next) ∷ []) c.reserve.ensures.same.1

-- it stands for the longer log
delivered : (c : goal.After-result-1) (log : List Change) → Stands (mail_of c.self.inside) log → Stands (after c) (log ++ Add c.self.inside.next ∷ [])
delivered c log s =
    let b = c.self.inside in
    Stands-deliver (mail_of b) (after c) log c.args.job.now.key b.next c.in_ok-text.text c.self.invariant.0
    c.in_ok-add.ensures.ok c.in-Ok.ensures.goes_on (took c) refl refl s

pub invariant_of-self-2 : goal.invariant_of-self-2
invariant_of-self-2 c =
    let b = c.self.inside in
    let longer = ap length (took c) ∙ length-append b.accepted.items ((c.args.job.now.key, b.next) ∷ []) in
    let more = ap length c.in_ok-add.ensures.ok ∙ length-append b.messages (_ ∷ []) in (
      omega (arith, c.self.invariant.0, longer),
      omega (arith, more, c.len.ensures, c.if-len-self.false),
      (c.self.invariant.2.0 ++ Add b.next ∷ [], delivered c c.self.invariant.2.0 c.self.invariant.2.1),
      c.self.invariant.3,
    )

pub returns-clause-logged : goal.returns-clause-logged
returns-clause-logged c =
    let new = after c in
    λ log. subst (λ (m : Mailbox). Stands m log → Stands new (log ++ Add (next_uid m) ∷ [])) c.self.view_is
    (λ s. subst (λ (u : ℕ). Stands new (log ++ Add u ∷ [])) c.self.invariant.0 (delivered c log s))

pub returns-clause-rising : goal.returns-clause-rising
returns-clause-rising c =
    Stands-rising (after c) (c.self.invariant.2.0 ++ Add c.self.inside.next ∷ []) (delivered c c.self.invariant.2.0 c.self.invariant.2.1)
