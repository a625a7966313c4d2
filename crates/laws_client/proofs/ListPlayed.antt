-- A client reads what a session says in a turn, over whatever store.
use Rattle.std.proofs.Common.{◌≡◌, ℕ, List, sym, subst, refl, []}
use Rattle.std.specs.Prelude.{Some}
use Rattle.mailbox.specs.declared.clients.MailFault.TheVariants.{NoMemory}
use Rattle.imap_session.specs.Exchange.{Answer, Looked, Found, Counted, Altered, Expunged, Fed, Exchange, Look, Read, Count, Alter, Expunge, Feed, Standing, Turn, tagged, played, bye, Discard, Discarded}
use Rattle.laws_client.specs.Beliefs.{Leads}
use Rattle.laws_client.specs.ListTurns.{SeesAll, Says}
use Rattle.exactly_once.proofs.EachExchange.{Plays, turn_so}
use Rattle.laws_client.proofs.Ends.{leaves}
use Rattle.laws_client.proofs.Turns.{Refusals, said_first, called_first, shown_first, ends_so, said_waiting, starved_so, refused_so}
use Rattle.imap_session.specs.declared.texts.ResponseText.TheVariants as texts
use Rattle.imap_session.specs.Texts.{response_text}

following : (tag : List ℕ) → Refusals tag → Plays tag (λ now x turn. (view new : List ℕ) → Says tag view x → SeesAll view turn.events new → Leads view turn.bytes new)
following tag refusals = record {
  done = λ now words how view new says sees. ends_so view now (tagged tag words) how new says sees;
  waits = λ now bytes w view new says sees. said_waiting view bytes new says sees;
  drops = λ now bytes purpose size view new says sees. said_waiting view [] new (leaves view [] (λ messages. refl)) sees;
  parts = λ now bytes purpose size view new says sees. said_waiting view (bye (response_text texts.ByeOutOfMemory)) new (leaves view _ (λ messages. refl)) sees;
  starves = λ now x view new says sees. starved_so tag refusals view now NoMemory new sees;
  fails = λ now x call fault view new says sees. refused_so tag refusals view now call fault new sees;
  writes = λ now bytes x s so view new says sees. said_first view bytes s new says.0 (so view new says.1 sees);
  puts = λ now bytes x s so view new says sees. said_first view bytes s new says.0 (so view new says.1 sees);
  enters = λ now selected next a s so view new says sees. absurd says;
  looks = λ now by_uid set next a s so view new says sees. called_first view (Look by_uid set) (Looked a) s new sees (λ mid is. is.1)
      (λ mid after fits more. so view new (subst (λ (v : List ℕ). Says tag view (next v)) (sym after.0) says) more);
  reads = λ now uid mark next a s so view new says sees. called_first view (Read uid mark) (Found a) s new sees (λ mid is. is) (λ mid after fits more. so view new (says a fits) more);
  counts = λ now mailbox next a s so view new says sees. called_first view (Count mailbox) (Counted a) s new sees (λ mid is. is) (λ mid after fits more. so view new (says a fits) more);
  alters = λ now uid op next a s so view new says sees. called_first view (Alter uid op) (Altered a) s new sees (λ mid is. is) (λ mid after fits more. so view new (says a) more);
  expunges = λ now uids x met changes gone s so view new says sees. shown_first view (Expunge uids) (Expunged met changes gone) met changes (λ mid is. is) (λ may. may) s new sees (λ mid more. so mid new (says mid) more);
  feeds = λ now limit x met changes s so view new says sees. shown_first view (Feed limit) (Fed met changes) met changes (λ mid is. is) (λ may. may) s new sees (λ mid more. so mid new (says mid) more);
  leaves = λ now remove x gone s so view new says sees. absurd says;
  discards = λ now mailbox uids x s so view new says sees. called_first view (Discard mailbox uids) Discarded s new sees (λ mid is. is) (λ mid after fits more. so view new says more);
}

pub turn_follows : (tag : List ℕ) (refusals : Refusals tag) (view : List ℕ) (now : Standing) (x : Exchange) (answers : List Answer) (turn : Turn) (new : List ℕ)
    → played tag now x answers ≡ Some turn → Says tag view x → SeesAll view turn.events new → Leads view turn.bytes new
turn_follows tag refusals view now x answers turn new e says sees =
    turn_so tag (λ now x turn. (view new : List ℕ) → Says tag view x → SeesAll view turn.events new → Leads view turn.bytes new) (following tag refusals) now x answers turn e view new says sees
