-- What a whole event does, one that is cut short may do as well.
use Rattle.std.proofs.Common.{◌≡◌, ℕ, ◌+◌, true, false, List, ◌-◌, Option}
use Rattle.lmtp_machine.specs.declared.connection.What.{What}
use Rattle.delivery_token.specs.declared.log.Noted.{Noted}
use Rattle.house.specs.declared.event.Event.{Event}
use Rattle.house.specs.declared.event.Event.TheVariants.{Bytes, Vanish, Put, Take, Deliver, Answer, Hear, End, Close, Enter, Say, Idle, Leave}
use Rattle.house_peers.specs.Caller.{Caller, Terms, unread, with_unsaid}
use Rattle.house.specs.Printing.{ConnectionGoes, Leaves, Speaks, goes, stays, with_session}
use Rattle.house.proofs.Printed.{proceeds_part, said_in_part}
use Rattle.house.specs.Setup.{Setup, admitted_in, session_seat, terms_of}
use Rattle.house.specs.Scene as scene
use Rattle.house.specs.Scene.{BytesPlay, ConnectionHears, ConnectionPuts, HearPlay, Parts, Plays, PutPlay, Scene, SessionGoes, SessionHears, SessionIdles, SessionPuts, SessionTalks, VanishPlay, connection_hears, connection_puts, goes_on, opens, parts, place_of, remains, session_hears, session_puts}
use Rattle.imap_session.specs.Exchange.{Call, Answer as Told}
use Rattle.house.specs.Meets.{Meets}
use Rattle.imap_session.specs.Folders.{folders_of}
use Rattle.world.specs.World.{World}
use Rattle.house_peers.specs.Visitor.{more_waits as visitor_more_waits, SeatedVisitor, seated_greeted}

leaves_part : (what : What) (after : Caller) (o : Option Caller) → Leaves true what after o → Leaves false what after o
leaves_part what after o (goes q n e) = goes q n e
leaves_part what after o (stays f g e) = stays (λ q x. let y : false ≡ true = x in cc) g e

goes_in_part : (k : Terms) (seat : ℕ) (heard : List Noted) (b : Caller) (o : Option Caller) (printed : List ℕ) → ConnectionGoes k true seat heard b o printed → ConnectionGoes k false seat heard b o printed
goes_in_part k seat heard b o printed g = record {
  what = g.what;
  after = g.after;
  proceeds = proceeds_part k seat heard b g.what g.after g.proceeds;
  still = g.still;
  prints = g.prints;
  all = λ x. let y : false ≡ true = x in cc;
  leaves = leaves_part g.what (with_unsaid g.still g.after) o g.leaves;
}

bytes_part : (k : Setup) (s : Scene) (seat : ℕ) (piece : List ℕ) (t : Scene) (printed : List ℕ) → BytesPlay k true s seat piece t printed → BytesPlay k false s seat piece t printed
bytes_part k s seat piece t printed (opens l n m o g e) = opens l n m o (goes_in_part (terms_of k s.shut) seat _ _ o printed g) e
bytes_part k s seat piece t printed (goes_on b n l o g e) = goes_on b n l o (goes_in_part (terms_of k s.shut) seat _ _ o printed g) e

vanish_part : (k : Setup) (s : Scene) (seat : ℕ) (t : Scene) (printed : List ℕ) → VanishPlay k true s seat t printed → VanishPlay k false s seat t printed
vanish_part k s seat t printed p = record {
  caller = p.caller;
  there = p.there;
  was_read = p.was_read;
  left = p.left;
  goes = goes_in_part (terms_of k s.shut) seat (s.world.heard seat) (unread p.caller) p.left printed p.goes;
  after = p.after;
}

connection_put_part : (k : Setup) (s : Scene) (seat : ℕ) (t : Scene) (printed : List ℕ) → ConnectionPuts k true s seat t printed → ConnectionPuts k false s seat t printed
connection_put_part k s seat t printed p = record {
  caller = p.caller;
  there = p.there;
  copy = p.copy;
  others = p.others;
  front = p.front;
  moved = p.moved;
  step = p.step;
  left = p.left;
  goes = goes_in_part (terms_of k s.shut) seat (p.moved.heard seat) (record { serial = p.caller.serial; gone = p.caller.gone; talk = p.caller.talk; to_put = p.others }) p.left printed p.goes;
  after = p.after;
}

connection_hear_part : (k : Setup) (s : Scene) (seat : ℕ) (t : Scene) (printed : List ℕ) → ConnectionHears k true s seat t printed → ConnectionHears k false s seat t printed
connection_hear_part k s seat t printed p = record {
  caller = p.caller;
  there = p.there;
  moved = p.moved;
  step = p.step;
  left = p.left;
  goes = goes_in_part (terms_of k s.shut) seat (p.moved.heard seat) p.caller p.left printed p.goes;
  after = p.after;
}

parts_part : (k : Setup) (place : ℕ) (after : SeatedVisitor) (w v : World) (o : Option SeatedVisitor) → Parts k true place after w v o → Parts k false place after w v o
parts_part k place after w v o (parts e u l n) = parts e u l n
parts_part k place after w v o (remains r e n) = remains (λ f. absurd (let x : false ≡ true = f in cc)) e n

speaks_part : {S : Type 0} (step : S → Call → Told → S → Type 0) (seat n : ℕ) (heard : List Noted) (b : SeatedVisitor) (old new : S) (after : SeatedVisitor) (printed : List ℕ) → Speaks step true seat n heard b old new after printed → Speaks step false seat n heard b old new after printed
speaks_part step seat n heard b old new after printed s =
    record { spoken = s.spoken; said = s.said; goes = said_in_part step seat heard b old new s.spoken s.said s.goes; still = s.still; prints = s.prints; is = s.is }

talks_part : (k : Setup) (place : ℕ) (heard : List Noted) (w : World) (b : SeatedVisitor) (v : World) (o : Option SeatedVisitor) (printed : List ℕ) → SessionTalks k true place heard w b v o printed → SessionTalks k false place heard w b v o printed
talks_part k place heard w b v o printed p = record {
  after = p.after;
  mid = p.mid;
  speaks = speaks_part (Meets k.config place) (session_seat k place) (place + 1) heard b w p.mid p.after printed p.speaks;
  all = λ f. absurd (let x : false ≡ true = f in cc);
  left = parts_part k place p.after p.mid v o p.left;
}

session_part : (k : Setup) (place : ℕ) (heard : List Noted) (w : World) (b : SeatedVisitor) (v : World) (o : Option SeatedVisitor) (printed : List ℕ) → SessionGoes k true place heard w b v o printed → SessionGoes k false place heard w b v o printed
session_part k place heard w b v o printed (scene.talks l p) = scene.talks l (talks_part k place heard w b v o printed p)
session_part k place heard w b v o printed (scene.lingers l p n e) = scene.lingers l p n e

session_put_part : (k : Setup) (s : Scene) (place : ℕ) (t : Scene) (printed : List ℕ) → SessionPuts k true s place t printed → SessionPuts k false s place t printed
session_put_part k s place t printed p = record {
  visitor = p.visitor;
  there = p.there;
  copy = p.copy;
  others = p.others;
  front = p.front;
  moved = p.moved;
  step = p.step;
  later = p.later;
  left = p.left;
  goes = session_part k place (p.moved.heard (session_seat k place)) p.moved (record { session = p.visitor.session; serial = p.visitor.serial; gone = p.visitor.gone; to_put = p.others }) p.later p.left printed p.goes;
  after = p.after;
}

session_hear_part : (k : Setup) (s : Scene) (place : ℕ) (t : Scene) (printed : List ℕ) → SessionHears k true s place t printed → SessionHears k false s place t printed
session_hear_part k s place t printed p = record {
  visitor = p.visitor;
  there = p.there;
  moved = p.moved;
  step = p.step;
  later = p.later;
  left = p.left;
  goes = session_part k place (p.moved.heard (session_seat k place)) p.moved p.visitor p.later p.left printed p.goes;
  after = p.after;
}

put_part : (k : Setup) (s : Scene) (seat : ℕ) (t : Scene) (printed : List ℕ) → PutPlay k true s seat t printed → PutPlay k false s seat t printed
put_part k s seat t printed (connection_puts l p) = connection_puts l (connection_put_part k s seat t printed p)
put_part k s seat t printed (session_puts place e p) = session_puts place e (session_put_part k s place t printed p)

hear_part : (k : Setup) (s : Scene) (seat : ℕ) (t : Scene) (printed : List ℕ) → HearPlay k true s seat t printed → HearPlay k false s seat t printed
hear_part k s seat t printed (connection_hears l p) = connection_hears l (connection_hear_part k s seat t printed p)
hear_part k s seat t printed (session_hears place e p) = session_hears place e (session_hear_part k s place t printed p)

idles_part : (k : Setup) (place : ℕ) (w : World) (b : SeatedVisitor) (v : World) (o : Option SeatedVisitor) (printed : List ℕ) → SessionIdles k true place w b v o printed → SessionIdles k false place w b v o printed
idles_part k place w b v o printed p = record {
  is_read = p.is_read;
  idling = p.idling;
  after = p.after;
  mid = p.mid;
  shown = p.shown;
  idles = p.idles;
  something = p.something;
  all = λ f. absurd (let x : false ≡ true = f in cc);
  left = parts_part k place (with_session p.after b) p.mid v o p.left;
}

pub plays_part : (k : Setup) (s : Scene) (e : Event) (t : Scene) (printed : List ℕ) → Plays k true s e t printed → Plays k false s e t printed
plays_part k s (Bytes connection piece) t printed p = bytes_part k s _ _ t printed p
plays_part k s (Vanish connection) t printed p = vanish_part k s _ t printed p
plays_part k s (Put connection) t printed p = put_part k s _ t printed p
plays_part k s (Take shard) t printed p = p
plays_part k s (Deliver shard) t printed p = p
plays_part k s (Answer shard) t printed p = p
plays_part k s (Hear connection) t printed p = hear_part k s _ t printed p
plays_part k s (End connection shard) t printed p = p
plays_part k s (Close shard) t printed p = p
plays_part k s (Enter session user) t printed p = record {
  there = p.there;
  free = p.free;
  known = p.known;
  more = p.more;
  moved = p.moved;
  left = p.left;
  goes = talks_part k (place_of session) (s.world.heard (session_seat k (place_of session))) s.world (seated_greeted (s.entered (place_of session)) (admitted_in k user.now) (folders_of k.directory user.now)) p.moved p.left printed p.goes;
  after = p.after;
}
plays_part k s (Say session piece) t printed p = record {
  visitor = p.visitor;
  there = p.there;
  is_read = p.is_read;
  moved = p.moved;
  left = p.left;
  goes = talks_part k (place_of session) (s.world.heard (session_seat k (place_of session))) s.world (with_session (visitor_more_waits p.visitor.session piece.now) p.visitor) p.moved p.left printed p.goes;
  after = p.after;
}
plays_part k s (Idle session) t printed p = record { visitor = p.visitor; there = p.there; moved = p.moved; left = p.left; goes = idles_part k (place_of session) s.world p.visitor p.moved p.left printed p.goes; after = p.after }
plays_part k s (Leave session) t printed p = p
