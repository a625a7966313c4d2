use Rattle.std.proofs.Common.{◌≡◌, ℕ, ◌≤◌, List, drop, map, length}
use Rattle.std.specs.Prelude.{vec_capacity, vec_len}
use Rattle.imap_grammar.specs.Sets.{named_at}
use Rattle.imap_session.specs.Exchange.{Mailing, Standing}
use Rattle.imap_session.specs.Commands.{empty_batch, gathering}
use Rattle.imap_session.specs.Response.{Response}
use Rattle.imap_session.specs.inner.Copies.{batch_with}
use Rattle.imap_session.specs.inner.Store.{Reaches}
use Rattle.imap_session.proofs.copying.gather.Given as goal

abbrev pub invariant-loop-message : goal.invariant-loop-message
invariant-loop-message g l = record {
  as_many : vec_len l.uids ≡ vec_len l.left;
  few : vec_len l.uids ≤ l.message-index;
  uid_room : length l.messages ≤ vec_capacity l.uids;
  row_room : length l.messages ≤ vec_capacity l.left;
  runs : (response : Response) (view named : List ℕ) → l.messages ≡ map (named_at view) named → (mailing : Mailing) → mailing.most ≡ l.most → (mailbox : ℕ) (tag : List ℕ) (now : Standing) → Reaches g.S.Store.step tag now now
      (gathering mailing l.copy mailbox named (empty_batch l.copy)) (gathering mailing l.copy mailbox (drop l.message-index named) (batch_with l.copy l.uids.items l.left.items))
      l.fn.store l.store response response;
}
