-- A client reads what a session says in a turn, over whatever store.
use Rattle.std.proofs.Common.{◌≡◌, ℕ, List, refl, []}
use Rattle.std.specs.Prelude.{Some}
use Rattle.mailbox.specs.declared.clients.MailFault.TheVariants.{NoMemory}
use Rattle.imap_session.specs.Exchange.{Answer, Looked, Found, Counted, Altered, Expunged, Fed, Exchange, Look, Read, Count, Alter, Expunge, Feed, Standing, Turn, bye, tagged, played, Discard, Discarded}
use Rattle.laws_client.specs.Flags.{Point}
use Rattle.laws_client.specs.FlagTurns.{LeadsFlags}
use Rattle.laws_client.proofs.FlagMoments.{SeesAllMoments}
use Rattle.imap_session.specs.declared.texts.ResponseText.TheVariants as texts
use Rattle.imap_session.specs.Texts.{response_text}
use Rattle.exactly_once.proofs.EachExchange.{Plays, turn_so}
use Rattle.laws_client.proofs.Turning.{Refusals, SaysFlags, called_first, ends_so, starved_so, refused_so, leaves, shown_first, said_waiting, said_first}

telling : (tag : List ℕ) → Refusals tag → Plays tag (λ now x turn. (p q : Point) → SaysFlags tag p x → SeesAllMoments p turn.events q → LeadsFlags p turn.bytes q)
telling tag refusals = record {
  done = λ now words how p q says sees. ends_so p now (tagged tag words) how q says sees;
  waits = λ now bytes w p q says sees. said_waiting p bytes q says sees;
  drops = λ now bytes purpose size p q says sees. said_waiting p [] q (leaves p [] (λ messages. refl)) sees;
  parts = λ now bytes purpose size p q says sees. said_waiting p (bye (response_text texts.ByeOutOfMemory)) q (leaves p _ (λ messages. refl)) sees;
  starves = λ now x p q says sees. starved_so tag refusals p now NoMemory q sees;
  fails = λ now x call fault p q says sees. refused_so tag refusals p now call fault q sees;
  writes = λ now bytes x s so p q says sees. said_first p bytes s q says.0 (so p q says.1 sees);
  puts = λ now bytes x s so p q says sees. said_first p bytes s q says.0 (so p q says.1 sees);
  enters = λ now selected next a s so p q says sees. absurd says;
  looks = λ now by_uid set next a s so p q says sees. called_first p (Look by_uid set) (Looked a) s q sees refl (λ mid is. is) (λ mid is more. so mid q (says a mid is) more);
  reads = λ now uid mark next a s so p q says sees. called_first p (Read uid mark) (Found a) s q sees refl (λ mid is. is) (λ mid is more. so mid q (says a mid is) more);
  counts = λ now mailbox next a s so p q says sees. called_first p (Count mailbox) (Counted a) s q sees refl (λ mid is. is) (λ mid is more. so mid q (says a mid is) more);
  alters = λ now uid op next a s so p q says sees. called_first p (Alter uid op) (Altered a) s q sees refl (λ mid is. is) (λ mid is more. so mid q (says a mid is) more);
  expunges = λ now uids x met changes gone s so p q says sees.
      shown_first p (Expunge uids) (Expunged met changes gone) met changes (λ mid is. (is.sees.leads.0, is.sees.fits)) refl (λ mid is. is) s q sees (λ mid more. so mid q (says mid) more);
  feeds = λ now limit x met changes s so p q says sees.
      shown_first p (Feed limit) (Fed met changes) met changes (λ mid is. (is.sees.leads.0, is.sees.fits)) refl (λ mid is. is) s q sees (λ mid more. so mid q (says mid) more);
  leaves = λ now remove x gone s so p q says sees. absurd says;
  discards = λ now mailbox uids x s so p q says sees. called_first p (Discard mailbox uids) Discarded s q sees refl (λ mid is. is) (λ mid is more. so mid q (says mid is) more);
}

pub turn_tells : (tag : List ℕ) (refusals : Refusals tag) (p : Point) (now : Standing) (x : Exchange) (answers : List Answer) (turn : Turn) (q : Point)
    → played tag now x answers ≡ Some turn → SaysFlags tag p x → SeesAllMoments p turn.events q → LeadsFlags p turn.bytes q
turn_tells tag refusals p now x answers turn q e says sees =
    turn_so tag (λ now x turn. (p q : Point) → SaysFlags tag p x → SeesAllMoments p turn.events q → LeadsFlags p turn.bytes q) (telling tag refusals) now x answers turn e p q says sees
