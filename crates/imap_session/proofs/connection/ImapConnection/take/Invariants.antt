use Rattle.std.proofs.Common.{◌≡◌, ◌-◌, ◌<◌, ◌++◌, false, None, length, take, List, ℕ}
use Rattle.imap_session.specs.Exchange.{waits_for}
use Rattle.imap_session.specs.Dialogue.{Answered, Asks, Dialogue, StandsFor}
use Rattle.imap_session.proofs.connection.ImapConnection.take.Given as goal

abbrev pub invariant-loop-fed : goal.invariant-loop-fed
invariant-loop-fed g l = record {
  within : l.used < length l.piece;
  asked : Asks g.S.Store.step l.fn.store l.store;
  goes_on : l.self.session.ended ≡ false;
  unsent : l.self.session.mailing.sent ≡ None;
  lot : g.O.Outlet.lot l.out ≡ g.O.Outlet.lot l.fn.out;
  took : (d : Dialogue) → StandsFor l.fn.self d → (said : List ℕ) × (next : Dialogue) × Answered g.S.Store.step d (take l.used l.piece) l.fn.store l.store said (waits_for next.standing) next
      × StandsFor l.self next × ((g.O.Outlet.said l.out) ≡ (g.O.Outlet.said l.fn.out) ++ said);
}

abbrev pub decreases-loop-fed : goal.decreases-loop-fed
decreases-loop-fed g l = length l.piece - l.used
