-- From one moment of a record to a later one the world moves on by its events.
use Rattle.std.proofs.Common.{◌≡◌, ℕ, false, List, [], ◌∷◌, ◌++◌, refl, sym, subst, ap, ◌∙◌}
use Rattle.std.specs.Prelude.{Option}
use Rattle.world.specs.World as world
use Rattle.world.specs.World.{Config, Event, Step, Steps, World}
use Rattle.world.proofs.Always.{kept_always, kept_steps, steps_join}
use Rattle.world.proofs.Kept.{Kept}
use Rattle.world.proofs.Mails.{IsIn, is_in_contains}
use Rattle.imap_session.specs.Exchange as calls
use Rattle.house.specs.Setup.{Setup, session_seat}
use Rattle.house.specs.Printing.{with_session}
use Rattle.house.specs.Scene as scene
use Rattle.house.specs.Scene.{empty_scene, BytesPlay, HearPlay, IdlePlay, Plays, PutPlay, Scene, SessionGoes, connection_hears, connection_puts, goes_on, opens, place_of, seat_of, session_hears, session_puts}
use Rattle.house.specs.declared.event.Event as house
use Rattle.house.specs.declared.event.Event.TheVariants.{Bytes, Vanish, Put, Take, Deliver, Answer, Hear, End, Close, Enter, Say, Idle, Leave}
use Rattle.house_peers.specs.Visitor.{SeatedVisitor}
use Rattle.exactly_once.specs.Promise.{text_of}
use Rattle.laws_client.specs.ClientRecords.{RecordsMoveOn}
use Rattle.laws_client.specs.HouseClients.{UidsNameOneCopy}
use Rattle.laws_client.proofs.Names.{in_front, is_in, one_copy, steps_extend}
use Rattle.laws_client.proofs.Recording.{Walk, goes, stands, talks_walk, walk_call, walk_met, walk_parts}

-- some events lead from the one world to the other
abbrev Onward : Config → World → World → Type 0
Onward k w v = (events : List Event) × Steps k w events v

rests : (k : Config) (w v : World) → v ≡ w → Onward k w v
rests k w v e = ([], e)

moves : (k : Config) (w : World) (e : Event) (v : World) → Step k w e v → Onward k w v
moves k w e v step = (e ∷ [], (v, step, refl))

onward_then : (k : Config) (w u v : World) → Onward k w u → Onward k u v → Onward k w v
onward_then k w u v (es, a) (fs, b) = (es ++ fs, steps_join k w es u fs v a b)

walks : (k : Config) (q : ℕ) (w : World) {v : World} → Walk k q w v → Onward k w v
walks k q w stands = ([], refl)
walks k q w (goes {u = u} walk event own v step) = onward_then k w u v (walks k q w walk) (moves k u event v step)

speaks : (k : Setup) (q : ℕ) (heard : _) (w : World) (b : SeatedVisitor) (v : World) (o : Option SeatedVisitor) (printed : List ℕ) → SessionGoes k false q heard w b v o printed → Onward k.config w v
speaks k q heard w b v o printed (scene.talks l g) = walks k.config q w (talks_walk k false q heard w b v o printed g)
speaks k q heard w b v o printed (scene.lingers l g e f) = rests k.config w v e

here : (k : Setup) (s t u : Scene) → t ≡ u → Onward k.config s.world u.world → Onward k.config s.world t.world
here k s t u e o = subst (λ (x : Scene). Onward k.config s.world x.world) (sym e) o

bytes : (k : Setup) (s : Scene) (seat : ℕ) (piece : List ℕ) (t : Scene) (printed : List ℕ) → BytesPlay k false s seat piece t printed → Onward k.config s.world t.world
bytes k s seat piece t printed (opens there free more o g after) = here k s t _ after (rests k.config s.world s.world refl)
bytes k s seat piece t printed (goes_on b there read o g after) = here k s t _ after (rests k.config s.world s.world refl)

puts : (k : Setup) (s : Scene) (seat : ℕ) (t : Scene) (printed : List ℕ) → PutPlay k false s seat t printed → Onward k.config s.world t.world
puts k s seat t printed (connection_puts l p) = here k s t _ p.after (moves k.config s.world (world.Put seat (world.shard_of k.config p.copy.mailbox) p.copy) p.moved p.step)
puts k s seat t printed (session_puts place e p) =
    here k s t _ p.after (onward_then k.config s.world p.moved p.later (moves k.config s.world (world.Put (session_seat k place) (world.shard_of k.config p.copy.mailbox) p.copy) p.moved p.step) (speaks k place _ p.moved _ p.later p.left printed p.goes))

hears : (k : Setup) (s : Scene) (seat : ℕ) (t : Scene) (printed : List ℕ) → HearPlay k false s seat t printed → Onward k.config s.world t.world
hears k s seat t printed (connection_hears l p) = here k s t _ p.after (moves k.config s.world (world.Hear seat) p.moved p.step)
hears k s seat t printed (session_hears place e p) =
    here k s t _ p.after (onward_then k.config s.world p.moved p.later (moves k.config s.world (world.Hear (session_seat k place)) p.moved p.step) (speaks k place _ p.moved _ p.later p.left printed p.goes))

idles : (k : Setup) (s : Scene) (q : ℕ) (t : Scene) (printed : List ℕ) → IdlePlay k false s q t printed → Onward k.config s.world t.world
idles k s q t printed p =
    let g = p.goes in
    here k s t _ p.after (walks k.config q s.world (walk_parts k false q s.world g.mid (with_session g.after p.visitor) p.moved p.left (walk_met k.config q s.world s.world g.idles.turned.events g.mid stands g.idles.turned.met) g.left))

plays : (k : Setup) (s : Scene) (event : house.Event) (t : Scene) (printed : List ℕ) → Plays k false s event t printed → Onward k.config s.world t.world
plays k s (Bytes connection piece) t printed p = bytes k s (seat_of connection) piece.now t printed p
plays k s (Vanish connection) t printed p = here k s t _ p.after (rests k.config s.world s.world refl)
plays k s (Put number) t printed p = puts k s (seat_of number) t printed p
plays k s (Take shard) t printed p = here k s t _ p.after (moves k.config s.world (world.Take shard) p.moved p.step)
plays k s (Deliver shard) t printed p = here k s t _ p.after (moves k.config s.world (world.Deliver shard) p.moved p.step)
plays k s (Answer shard) t printed p = here k s t _ p.after (moves k.config s.world (world.Answer shard) p.moved p.step)
plays k s (Hear number) t printed p = hears k s (seat_of number) t printed p
plays k s (End number shard) t printed p = here k s t _ p.after (moves k.config s.world (world.PutEnd (seat_of number) shard) p.moved p.step)
plays k s (Close shard) t printed p = here k s t _ p.after (rests k.config s.world s.world refl)
plays k s (Enter session user) t printed p = here k s t _ p.after (walks k.config (place_of session) s.world (talks_walk k false (place_of session) _ s.world _ p.moved p.left printed p.goes))
plays k s (Say session piece) t printed p = here k s t _ p.after (walks k.config (place_of session) s.world (talks_walk k false (place_of session) _ s.world _ p.moved p.left printed p.goes))
plays k s (Idle session) t printed p = idles k s (place_of session) t printed p
plays k s (Leave session) t printed p = here k s t _ p.after (walks k.config (place_of session) s.world (walk_call k.config (place_of session) s.world s.world (calls.Leave false) p.leaves.0 p.moved stands p.leaves.1))

pub records_move_on : RecordsMoveOn
records_move_on k [] s t e = rests k.config s.world t.world (ap (λ (x : Scene). x.world) e)
records_move_on k (entry ∷ entries) s t (one, more) = onward_then k.config s.world entry.after.world t.world (plays k s entry.event entry.after (text_of k entry.piece) one.plays) (records_move_on k entries entry.after t more)

-- a copy that stands under a UID, over a record of a house
pub uids_name_one_copy : UidsNameOneCopy
uids_name_one_copy k before later s t mailbox uid copy is then_is has =
    let first = records_move_on k before (empty_scene k) s is in
    let onward = records_move_on k later s t then_is in
    let now : Kept k.config t.world = kept_steps k.config s.world onward.0 t.world (kept_always k.config first.0 s.world first.1) onward.1 in
    let x = steps_extend k.config s.world onward.0 t.world mailbox onward.1 in
    let still : IsIn (copy, uid) (t.world.box mailbox).accepted = subst (IsIn (copy, uid)) (sym x.accepted)
    (in_front (copy, uid) (s.world.box mailbox).accepted x.copies (is_in (copy, uid) (s.world.box mailbox).accepted has)) in (
      is_in_contains (copy, uid) (t.world.box mailbox).accepted still,
      λ other also. one_copy k.config.first_uid (t.world.box mailbox).accepted (sym (now.boxes mailbox).given ∙ (now.boxes mailbox).counted) copy other uid still
          (is_in (other, uid) (t.world.box mailbox).accepted also),
    )
