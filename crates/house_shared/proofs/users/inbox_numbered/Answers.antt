use Rattle.std.proofs.Common.{rules, ◌≡◌, ◌<◌, ◌+◌, ◌∙◌, suc, ap, sym, subst, true, false, Some, IfSome, length, drop, slice_get, arith}
use Rattle.house_shared.specs.Users.{user_numbered}
use Rattle.house_shared.proofs.UserLaws.{IsInboxAt, counted, found, passed}
use Rattle.house_shared.proofs.users.inbox_numbered.Goals as goal
use Rattle.house_shared.proofs.users.inbox_numbered.Goals.{then-is_inbox+else-left-eq0, else-is_inbox}

pub returns-then-left-eq0-clause-inbox : goal.returns-then-left-eq0-clause-inbox
returns-then-left-eq0-clause-inbox c =
    let homes = c.args.directory.now.homes in
    let m = c.loop-mailbox.mailbox in
    let under : m < length homes = search rules in
    let is : IsInboxAt homes m true = subst (IsInboxAt homes m) c.if-is_inbox.true c.is_inbox.ensures in
    let all = c.loop-mailbox.invariant ∙ ap (λ n. user_numbered n (drop m homes)) c.if-left-eq0.true in
    (under, subst (λ o. IfSome (slice_get homes m) (λ home. o ≡ Some home.user)) (sym all) (found homes m under is))

pub loop-mailbox-preserved : goal.loop-mailbox-preserved
loop-mailbox-preserved c =
    let homes = c.args.directory.now.homes in
    let m = c.loop-mailbox.mailbox in
    let n = c.loop-mailbox.left in
    let under : m < length homes = search rules in
    let next : suc m ≡ m + 1 = omega arith in
    elim c.if-is_inbox.branch [
      | then-is_inbox+else-left-eq0 w ↦
          let is : IsInboxAt homes m true = subst (IsInboxAt homes m) w.if-is_inbox.true c.is_inbox.ensures in
          let some : 0 < n = search rules in
          c.loop-mailbox.invariant ∙ counted homes m n under is some ∙ ap (λ k. user_numbered k (drop (suc m) homes)) (sym w.left-is) ∙ ap (λ i. user_numbered c.if-is_inbox.left (drop i homes)) next
      | else-is_inbox w ↦
          let is : IsInboxAt homes m false = subst (IsInboxAt homes m) w.if-is_inbox.false c.is_inbox.ensures in
          c.loop-mailbox.invariant ∙ passed homes m n under is ∙ ap (λ k. user_numbered k (drop (suc m) homes)) (sym w.left-is) ∙ ap (λ i. user_numbered c.if-is_inbox.left (drop i homes)) next
    ]
