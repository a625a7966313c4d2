-- What a session's calls come to in the world is some of its events.
use Rattle.std.proofs.Common.{ℕ, Some}
use Rattle.mailbox.specs.Events.{in_set}
use Rattle.mailbox.specs.declared.clients.MailFault.{MailFault}
use Rattle.mailbox.specs.declared.clients.MailFault.TheVariants.{Stranger, Lapped, Spent, NoMemory}
use Rattle.world.specs.World as world
use Rattle.world.specs.World.{Config, World, discards_them}
use Rattle.imap_session.specs.Exchange as calls
use Rattle.imap_session.specs.Exchange.{Call, Look, Read as ReadCall, Count, Alter, Expunge as ExpungeCall, Feed as FeedCall, Leave as LeaveCall, Discard as DiscardCall, Enter as EnterCall, Entered, Looked, Found, Counted, Altered, Expunged, Fed, Left, Discarded, Refused}
use Rattle.house.specs.Meets.{Meets, IsRefused, IsTurnedAway}
use Rattle.exactly_once.proofs.Grown.{Reached, moves, stays}

was_refused : (k : Config) (n : ℕ) (w : World) (fault : MailFault) (why : Type 0) (v : World) → IsRefused n w fault why v → Reached k w v
was_refused k n w Stranger why v m = stays k w v m.0
was_refused k n w Lapped why v m = stays k w v m.0
was_refused k n w Spent why v m = stays k w v m.0
was_refused k n w NoMemory why v m = stays k w v m.0

turned_away : (k : Config) (n m : ℕ) (w : World) (fault : MailFault) (v : World) → IsTurnedAway k n m w fault v → Reached k w v
turned_away k n m w Stranger v t = stays k w v t.1
turned_away k n m w Lapped v t = absurd t
turned_away k n m w Spent v t = stays k w v t.1
turned_away k n m w NoMemory v t = stays k w v t.1

pub meets_reached : (k : Config) (n : ℕ) (w : World) (call : Call) (answer : calls.Answer) (v : World) → Meets k n w call answer v → Reached k w v
meets_reached k n w (EnterCall i) (Entered opening) v m = moves k w v (world.Enter n i) m.0
meets_reached k n w (EnterCall i) (Refused fault) v m = turned_away k n i w fault v m
meets_reached k n w (Look by_uid set) (Looked view) v m = stays k w v m.0
meets_reached k n w (Look by_uid set) (Refused fault) v m = was_refused k n w fault _ v m
meets_reached k n w (ReadCall uid mark) (Found row) v m = moves k w v (world.Read n uid mark) m.0
meets_reached k n w (ReadCall uid mark) (Refused fault) v m = was_refused k n w fault _ v m
meets_reached k n w (Count i) (Counted status) v m = stays k w v m.0
meets_reached k n w (Count i) (Refused fault) v m = stays k w v m.0
meets_reached k n w (Alter uid op) (Altered flags) v m = moves k w v (world.Store n uid op) m.0
meets_reached k n w (Alter uid op) (Refused fault) v m = was_refused k n w fault _ v m
meets_reached k n w (ExpungeCall uids) (Expunged view changes gone) v m = moves k w v (world.Expunge n (in_set uids)) m.0
meets_reached k n w (ExpungeCall uids) (Refused fault) v m = was_refused k n w fault _ v m
meets_reached k n w (FeedCall limit) (Fed view changes) v m = moves k w v (world.Feed n limit) m.0
meets_reached k n w (FeedCall limit) (Refused fault) v m = was_refused k n w fault _ v m
meets_reached k n w (LeaveCall remove) (Left gone) v m = moves k w v (world.Leave n remove) m.0.0
meets_reached k n w (LeaveCall remove) (Refused fault) v m = was_refused k n w fault _ v m
meets_reached k n w (DiscardCall i uids) Discarded v m = moves k w v (world.Discard i (in_set (Some uids))) (discards_them m.mailbox m.there m.logs m.made)
meets_reached k n w (DiscardCall i uids) (Refused fault) v m = stays k w v m.0
meets_reached k n w _ _ v m = absurd m
