use Rattle.std.proofs.Common.{◌≡◌, ◌==◌, ◌∙◌, [], ap, append-nil, length, sym, true, false}
use Rattle.std.specs.Prelude.{nat_le}
use Rattle.imap_session.specs.contracts.session.Session.{the_view}
use Rattle.imap_session.specs.Exchange.{Copied, ForVerdict, Standing}
use Rattle.imap_session.specs.Commands.{last_number, submitting}
use Rattle.imap_session.specs.inner.Seen.{batch_of}
use Rattle.imap_session.proofs.Appends.{leads_waits}
use Rattle.imap_session.proofs.Copies.{sent_next, sent_under, some_left, spent_next}
use Rattle.imap_session.proofs.session.Session.submit_next.Goals as goal

pub returns-then-is_spent-clause-unsent : goal.returns-then-is_spent-clause-unsent
returns-then-is_spent-clause-unsent c done =
    let now = c.args.self.now in
    let same = ap the_view c.self-inside.view_is ∙ c.self.view_is in
    let some = some_left c.args.batch.left.items (ap (λ l. length l == 0) (sym c.as_slice.ensures.value) ∙ sym c.is_empty.ensures ∙ c.if-is_empty.false) in
    let spent : nat_le last_number now.mailing.number ≡ true = ap (λ (s : Standing). nat_le last_number s.mailing.number) (sym same) ∙ sym c.is_spent.ensures ∙ c.if-is_spent.true in
    spent_next now.mailing (batch_of c.args.batch) c.args.mailbox done some.0 some.1 some.2 spent

pub returns-clause-sent : goal.returns-clause-sent
returns-clause-sent c done before =
    let now = c.args.self.now in
    let same = ap the_view c.self-inside.view_is ∙ c.self.view_is in
    let free : nat_le last_number now.mailing.number ≡ false = ap (λ (s : Standing). nat_le last_number s.mailing.number) (sym same) ∙ sym c.is_spent.ensures ∙ c.if-is_spent.false in
    let row = c.take_next-row.result.0 in
    let left = (batch_of c.take_next-row.result.1).left in
    leads_waits c.args.tag [] (ForVerdict (Copied (record (batch_of c.args.batch) { left = left })) c.args.mailbox row.flags row.text) now _ (submitting now.mailing (batch_of c.args.batch) c.args.mailbox done) before before
    (sent_next now.mailing (batch_of c.args.batch) c.args.mailbox done row left c.take_next-row.ensures.taken free) (sym (append-nil before))
    (sent_under c.args.tag (batch_of c.take_next-row.result.1) (record (batch_of c.args.batch) { left = left }) c.args.mailbox row.flags row.text c.take_next-row.ensures.rest same)
