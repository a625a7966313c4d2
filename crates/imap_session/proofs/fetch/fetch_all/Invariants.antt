use Rattle.std.proofs.Common.{◌≡◌, ℕ, Bool, false, List, drop, map}
use Rattle.imap_grammar.specs.Sets.{named_at}
use Rattle.imap_session.specs.Exchange.{Exchange, Standing}
use Rattle.imap_session.specs.Commands.{fetching}
use Rattle.imap_session.specs.inner.Store.{Reaches}
use Rattle.imap_session.proofs.fetch.fetch_all.Given as goal

abbrev pub invariant-loop-message : goal.invariant-loop-message
invariant-loop-message g l =
    (view uids : List ℕ) → l.messages ≡ map (named_at view) uids → (done : Bool → Exchange) (tag : List ℕ) (now : Standing) → Reaches g.S.Store.step tag now now
    (fetching l.fetch l.mark_seen view done uids false) (fetching l.fetch l.mark_seen view done (drop l.message-index uids) l.gone)
    l.fn.store l.store l.fn.response l.response
