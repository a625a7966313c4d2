use Rattle.std.proofs.Common.{◌≡◌, ℕ, ◌+◌, ◌-◌, ◌≤◌, List, [], drop, map, length}
use Rattle.std.specs.Prelude.{vec_capacity, vec_len}
use Rattle.imap_grammar.specs.Sets.{named_at}
use Rattle.imap_session.specs.Exchange.{Exchange, Standing}
use Rattle.imap_session.specs.Commands.{searching}
use Rattle.imap_session.specs.Response.{Response}
use Rattle.imap_session.specs.inner.Store.{Reaches}
use Rattle.imap_session.proofs.search.search_all.Given as goal

abbrev pub invariant-loop-message : goal.invariant-loop-message
invariant-loop-message g l = record {
  room : vec_len l.found + (length l.messages - l.message-index) ≤ vec_capacity l.found;
  runs : (response : Response) (view uids : List ℕ) → l.messages ≡ map (named_at view) uids → (done : List ℕ → Exchange) (tag : List ℕ) (now : Standing) → Reaches g.S.Store.step tag now now
      (searching l.search l.last view done uids []) (searching l.search l.last view done (drop l.message-index uids) l.found.items)
      l.fn.store l.store response response;
}
