use Rattle.std.proofs.Common.{◌≡◌, ◌+◌, ◌<◌, ◌∙◌, ℕ, suc, arith, false, length, sym, subst, take, true}
use Rattle.std.specs.List.{list_any}
use Rattle.std.specs.Str.{bytes_eq}
use Rattle.envelope.specs.Names.{Home}
use Rattle.imap_session.proofs.FolderLaws.{any_at, is_name, none_more}
use Rattle.imap_session.proofs.users.has_user.Goals as goal

pub returns-then-eq : goal.returns-then-eq
returns-then-eq c =
    let many = c.mailboxes-mailbox-end.ensures.value in
    let within : c.loop-mailbox.mailbox < length c.args.directory.now.homes = omega (arith, many, c.loop-mailbox-test.true) in
    sym (any_at (λ (home : Home). bytes_eq c.args.user.now home.user) c.args.directory.now.homes c.loop-mailbox.mailbox within
    (is_name c.args.user.now c.user_of.result.now true _ c.user_of.ensures (sym c.eq.ensures ∙ c.if-eq.true)))

pub loop-mailbox-preserved : goal.loop-mailbox-preserved
loop-mailbox-preserved c =
    let many = c.mailboxes-mailbox-end.ensures.value in
    let within : c.loop-mailbox.mailbox < length c.args.directory.now.homes = omega (arith, many, c.loop-mailbox-test.true) in
    let next : suc c.loop-mailbox.mailbox ≡ c.loop-mailbox.mailbox + 1 = omega arith in
    subst (λ (n : ℕ). list_any (λ (home : Home). bytes_eq c.args.user.now home.user) (take n c.args.directory.now.homes) ≡ false) next
    (none_more (λ (home : Home). bytes_eq c.args.user.now home.user) c.args.directory.now.homes c.loop-mailbox.mailbox within
    (is_name c.args.user.now c.user_of.result.now false _ c.user_of.ensures (sym c.eq.ensures ∙ c.if-eq.false)) c.loop-mailbox.invariant)
