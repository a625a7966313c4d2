-- Sessions answer the verdicts on the messages that their clients appended one after the other, none twice.
use Rattle.std.proofs.Common.{◌≡◌, ◌≢◌, ℕ, ◌+◌, ◌⊎◌, inl, inr, false, List, [], ◌∷◌, ◌++◌, length, refl, sym, ap, ◌∙◌, subst, arith, append-nil, append_assoc, Option, Some, None}
use Rattle.std.specs.Prelude.{All, Contains}
use Rattle.std.proofs.lemmas.List.Elements.{All-contains}
use Rattle.shard_queue.specs.Lane.{set_at}
use Rattle.shard_queue.proofs.AtLaws.{at_cases}
use Rattle.delivery_token.specs.Keys.{Below}
use Rattle.delivery_token.specs.declared.CopyKey.{CopyKey}
use Rattle.delivery_token.specs.declared.Job.{Job}
use Rattle.delivery_token.specs.declared.Verdict.{Verdict}
use Rattle.delivery_token.specs.declared.log.Noted.{Noted}
use Rattle.delivery_token.specs.Copies.{HeardFor}
use Rattle.imap_session.specs.Exchange.{Mailing, Sent}
use Rattle.house.specs.Meets.{Meets}
use Rattle.world.specs.World as world
use Rattle.world.specs.World.{Config, MayPut, World, put_full, put_joins, put_no_memory, put_shut}
use Rattle.world.proofs.Always.{always}
use Rattle.world.proofs.Base.{Every, Rising, all_of_every, every_append, every_weaker, rising_pair, rising_push}
use Rattle.imap_session.specs.Folders.{folders_of}
use Rattle.house_peers.specs.Visitor.{more_waits, GoesOn, SeatedVisitor, Works, answers, copies_of, keys_of, rests, seated_greeted, sent_by, stalls, told, unread, works}
use Rattle.house_peers.specs.Visitor as seated
use Rattle.house_peers.proofs.Rising.{idles_keep}
use Rattle.house.specs.Setup.{Setup, admitted_in, session_seat}
use Rattle.house.specs.Printing.{with_session}
use Rattle.house.specs.inner.Printing.{still_unsaid}
use Rattle.house.specs.Scene as scene
use Rattle.house.specs.Scene.{BytesPlay, HearPlay, IdlePlay, Lingers, Parts, Plays, PutPlay, Scene, SessionGoes, SessionPuts, SessionTalks, connection_hears, connection_puts, empty_scene, fades, goes_on, opens, parts, place_of, remains, seat_of, session_hears, session_puts, waits}
use Rattle.house.specs.declared.event.Event as house
use Rattle.house.specs.declared.event.Event.TheVariants.{Bytes, Vanish, Put, Take, Deliver, Answer, Hear, End, Close, Enter, Say, Idle, Leave}
use Rattle.exactly_once.specs.Promise.{Entry, IsRecord, text_of}
use Rattle.exactly_once.specs.Appended.{SessionsAnswerOnce, answered_as, answered_at, answered_at_hear, answered_at_put, answered_by, answered_in_talk, answered_in_turn, noted_for}
use Rattle.exactly_once.proofs.Grown.{Reached, heard_stays_heard, reached_then}
use Rattle.exactly_once.proofs.Going.{Did, SceneOk, nobody_ok, none_yet, parts_reached, plays_did, speaks_reached, with_piece}

-- ---- what is known of the verdicts that were answered

-- a session's seat has heard it
abbrev IsHeard : Setup → World → Noted → Type 0
IsHeard k w n = ((place : ℕ) × (n.key.seat ≡ session_seat k place)) × Contains (w.heard n.key.seat) n

abbrev InOrder : Noted → Noted → Type 0
InOrder a b = a.key.seat ≡ b.key.seat → Below a.key b.key

-- each of these keys is above that of a note of this seat
abbrev AreAbove : (seat : ℕ) → List CopyKey → Noted → Type 0
AreAbove seat [] n = Unit {0}
AreAbove seat (key ∷ keys) n = (n.key.seat ≡ seat → Below n.key key) × AreAbove seat keys n

-- A session that awaits a verdict has its copy still to put, or awaits one of a key above all that were answered at its seat.
record VisitorOk (k : Setup) (place : ℕ) (done : List Noted) (v : SeatedVisitor) : Type 0 where
  pub due : (v.to_put ≡ []) ⊎ (v.to_put ≡ copies_of (session_seat k place) v.serial (sent_by v))
  pub above : v.to_put ≡ [] → Every (AreAbove (session_seat k place) (keys_of (session_seat k place) v.serial (sent_by v))) done

abbrev PlaceOk : Setup → ℕ → List Noted → Option SeatedVisitor → Type 0
PlaceOk k place done None = Unit {0}
PlaceOk k place done (Some v) = VisitorOk k place done v

record AllOk (k : Setup) (done : List Noted) (s : Scene) : Type 0 where
  pub heard : Every (IsHeard k s.world) done
  pub order : Rising InOrder done
  pub places : (place : ℕ) → PlaceOk k place done (s.visitor place)

none_above : (seat : ℕ) (done : List Noted) → Every (AreAbove seat []) done
none_above seat [] = tt
none_above seat (n ∷ done) = (tt, none_above seat done)

-- where there is no copy there is no key
no_copies : (seat serial : ℕ) (o : Option Sent) (done : List Noted) → copies_of seat serial o ≡ [] → Every (AreAbove seat (keys_of seat serial o)) done
no_copies seat serial None done e = none_above seat done
no_copies seat serial (Some sent) done e = absurd (omega (arith, ap length e))

-- notes of other seats
apart_above : (seat : ℕ) (keys : List CopyKey) (n : Noted) → (n.key.seat ≡ seat → ⊥) → AreAbove seat keys n
apart_above seat [] n other = tt
apart_above seat (key ∷ keys) n other = ((λ e. absurd (other e)), apart_above seat keys n other)

-- ---- a session goes on

works_ok : (k : Setup) (place : ℕ) (done : List Noted) (v after : SeatedVisitor) (old new : World) (said : List ℕ) → Works (Meets k.config place) (session_seat k place) v old new after said → VisitorOk k place done after
works_ok k place done v after old new said w =
    let p : ℕ = session_seat k place in
    let copies : after.to_put ≡ copies_of p after.serial (sent_by after) =
    ap (λ (x : SeatedVisitor). x.to_put) w.is ∙ ap (λ (n : ℕ). copies_of p n (sent_by after)) (sym (ap (λ (x : SeatedVisitor). x.serial) w.is)) in
    record { due = inr copies; above = λ none. no_copies p after.serial (sent_by after) done (sym copies ∙ none) }

-- what a session's talk comes to: these verdicts were answered
record Talked (k : Setup) (place : ℕ) (w : World) (done new : List Noted) (after : SeatedVisitor) : Type 0 where
  pub heard : Every (IsHeard k w) new
  pub own : Every (λ n. n.key.seat ≡ session_seat k place) new
  pub order : Rising InOrder (done ++ new)
  pub ok : VisitorOk k place (done ++ new) after

silent_talk : (k : Setup) (place : ℕ) (w : World) (done : List Noted) (after : SeatedVisitor) → Rising InOrder done → VisitorOk k place done after → Talked k place w done [] after
silent_talk k place w done after order ok = record { heard = tt; own = tt; order = rw (append-nil done) order; ok = rw (append-nil done) ok }

record Noting (k : Setup) (place : ℕ) (w : World) (done new : List Noted) : Type 0 where
  pub heard : Every (IsHeard k w) new
  pub own : Every (λ n. n.key.seat ≡ session_seat k place) new
  pub order : Rising InOrder (done ++ new)

noting : (k : Setup) (place : ℕ) (w : World) (done : List Noted) (serial : ℕ) (o : Option Sent) (verdict : Verdict) (h : HeardFor (w.heard (session_seat k place)) (keys_of (session_seat k place) serial o) (verdict ∷ []))
    → Every (AreAbove (session_seat k place) (keys_of (session_seat k place) serial o)) done → Rising InOrder done
    → Noting k place w done (noted_for (w.heard (session_seat k place)) (keys_of (session_seat k place) serial o) verdict h)
noting k place w done serial None verdict h above order = absurd h
noting k place w done serial (Some sent) verdict h above order =
    let key : CopyKey = record { seat = session_seat k place; serial = serial; message = sent.append.message; recipient = 0 } in
    let n : Noted = record { key = key; mailbox = h.0.0; verdict = verdict } in record {
      heard = (((place, refl), h.0.1), tt);
      own = (refl, tt);
      order = rising_push InOrder done n order (every_weaker (AreAbove (session_seat k place) (key ∷ [])) (λ x. InOrder x n) (λ x a e. a.0 e) done above);
    }

goes_told : (k : Setup) (place : ℕ) (w : World) (done : List Noted) (v after : SeatedVisitor) (old new : World) (said : List ℕ)
    → (g : GoesOn (Meets k.config place) false (session_seat k place) (w.heard (session_seat k place)) v old new after said) → Rising InOrder done → VisitorOk k place done v
    → Talked k place w done (answered_as (Meets k.config place) false (session_seat k place) (w.heard (session_seat k place)) v old new after said g) after
goes_told k place w done v after old new said (works none g) order ok = silent_talk k place w done after order (works_ok k place done v after old new said g)
goes_told k place w done v after old new said (answers verdict mid one two how next still known a g e) order ok =
    let n = noting k place w done v.serial (sent_by v) verdict known.each (ok.above known.put) order in record {
      heard = n.heard;
      own = n.own;
      order = n.order;
      ok = works_ok k place (done ++ noted_for (w.heard (session_seat k place)) (keys_of (session_seat k place) v.serial (sent_by v)) verdict known.each) (told v next) after mid new two g;
    }
goes_told k place w done v after old new said (seated.waits a e f g) order ok = silent_talk k place w done after order (subst (VisitorOk k place done) (sym f) ok)
goes_told k place w done v after old new said (rests a e f g) order ok = silent_talk k place w done after order (subst (VisitorOk k place done) (sym f) ok)
goes_told k place w done v after old new said (stalls a e f g) order ok = silent_talk k place w done after order (subst (VisitorOk k place done) (sym f) ok)

-- ---- who is at its place then

record Turned (k : Setup) (place : ℕ) (w : World) (done new : List Noted) (o : Option SeatedVisitor) : Type 0 where
  pub heard : Every (IsHeard k w) new
  pub own : Every (λ n. n.key.seat ≡ session_seat k place) new
  pub order : Rising InOrder (done ++ new)
  pub ok : PlaceOk k place (done ++ new) o

parts_ok : (k : Setup) (place : ℕ) (done : List Noted) (after : SeatedVisitor) (w v : World) (o : Option SeatedVisitor) → VisitorOk k place done after → Parts k false place after w v o → PlaceOk k place done o
parts_ok k place done after w v o ok (parts ended said leaves e) = rw e tt
parts_ok k place done after w v o ok (remains not e f) = rw f ok

lingers_ok : (k : Setup) (place : ℕ) (done : List Noted) (seat : ℕ) (heard : List Noted) (v : SeatedVisitor) (o : Option SeatedVisitor) → VisitorOk k place done v → Lingers seat heard v o → PlaceOk k place done o
lingers_ok k place done seat heard v o ok (waits a e) = rw e ok
lingers_ok k place done seat heard v o ok (fades a e) = rw e tt

-- from the world by whose notes it goes on, the world is reached behind its talk
talk_reached : (k : Setup) (place : ℕ) (heard : List Noted) (w : World) (b : SeatedVisitor) (v : World) (o : Option SeatedVisitor) (printed : List ℕ) → SessionTalks k false place heard w b v o printed → Reached k.config w v
talk_reached k place heard w b v o printed g =
    reached_then k.config w g.mid v (speaks_reached k.config place false (session_seat k place) (place + 1) heard w g.mid b g.after printed g.speaks) (parts_reached k false place g.after g.mid v o g.left)

talk_told : (k : Setup) (place : ℕ) (w : World) (done : List Noted) (b : SeatedVisitor) (v : World) (o : Option SeatedVisitor) (printed : List ℕ) → (g : SessionTalks k false place (w.heard (session_seat k place)) w b v o printed)
    → Rising InOrder done → VisitorOk k place done b → Turned k place w done (answered_in_talk k place (w.heard (session_seat k place)) w b v o printed g) o
talk_told k place w done b v o printed g order ok =
    let t = goes_told k place w done b g.speaks.spoken w g.mid g.speaks.said g.speaks.goes order ok in
    let new : List Noted = answered_in_talk k place (w.heard (session_seat k place)) w b v o printed g in
    let still : VisitorOk k place (done ++ new) (still_unsaid g.speaks.still g.speaks.spoken) = record { due = t.ok.due; above = t.ok.above } in record {
      heard = t.heard;
      own = t.own;
      order = t.order;
      ok = parts_ok k place (done ++ new) g.after g.mid v o (subst (VisitorOk k place (done ++ new)) (sym g.speaks.is) still) g.left;
    }

turn_told : (k : Setup) (place : ℕ) (w : World) (done : List Noted) (b : SeatedVisitor) (v : World) (o : Option SeatedVisitor) (printed : List ℕ) → (g : SessionGoes k false place (w.heard (session_seat k place)) w b v o printed)
    → Rising InOrder done → VisitorOk k place done b → Turned k place w done (answered_in_turn k place (w.heard (session_seat k place)) w b v o printed g) o
turn_told k place w done b v o printed (scene.talks l g) order ok = talk_told k place w done b v o printed g order ok
turn_told k place w done b v o printed (scene.lingers l g e f) order ok =
    record { heard = tt; own = tt; order = rw (append-nil done) order; ok = rw (append-nil done) (lingers_ok k place done (session_seat k place) (w.heard (session_seat k place)) b o ok g) }

turn_reached : (k : Setup) (place : ℕ) (heard : List Noted) (w : World) (b : SeatedVisitor) (v : World) (o : Option SeatedVisitor) (printed : List ℕ) → SessionGoes k false place heard w b v o printed → Reached k.config w v
turn_reached k place heard w b v o printed (scene.talks l g) = talk_reached k place heard w b v o printed g
turn_reached k place heard w b v o printed (scene.lingers l g e f) = ([], e)

-- ---- scenes

still_heard : (k : Setup) (w v : World) (done : List Noted) → Reached k.config w v → Every (IsHeard k w) done → Every (IsHeard k v) done
still_heard k w v done r h = every_weaker (IsHeard k w) (IsHeard k v) (λ n x. (x.0, heard_stays_heard k.config w r.0 v n.key.seat n r.1 x.1)) done h

same_place : (k : Setup) (place : ℕ) (done : List Noted) (o : Option SeatedVisitor) → PlaceOk k place done o → PlaceOk k place (done ++ []) o
same_place k place done o ok = rw (append-nil done) ok

-- at an event of no session
aside_told : (k : Setup) (done : List Noted) (s t : Scene) → Reached k.config s.world t.world → ((n : ℕ) → t.visitor n ≡ s.visitor n) → AllOk k done s → AllOk k (done ++ []) t
aside_told k done s t r same ok = record {
  heard = rw (append-nil done) (still_heard k s.world t.world done r ok.heard);
  order = rw (append-nil done) ok.order;
  places = λ n. subst (PlaceOk k n (done ++ [])) (sym (same n)) (same_place k n done (s.visitor n) (ok.places n));
}

other_place : (k : Setup) (n q : ℕ) (done new : List Noted) (o : Option SeatedVisitor) → n ≢ q → Every (λ x. x.key.seat ≡ session_seat k q) new → PlaceOk k n done o → PlaceOk k n (done ++ new) o
other_place k n q done new None other own ok = tt
other_place k n q done new (Some v) other own ok = record {
  due = ok.due;
  above = λ none. every_append (AreAbove (session_seat k n) (keys_of (session_seat k n) v.serial (sent_by v))) done new (ok.above none)
      (every_weaker (λ x. x.key.seat ≡ session_seat k q) (AreAbove (session_seat k n) (keys_of (session_seat k n) v.serial (sent_by v)))
      (λ x is. apart_above (session_seat k n) (keys_of (session_seat k n) v.serial (sent_by v)) x (λ e. other (let same : session_seat k q ≡ session_seat k n = sym is ∙ e in omega (arith, same)))) new own);
}

-- at an event of the session at a place, which went on from a world that the scene's came to
visit_told : (k : Setup) (done new : List Noted) (s t : Scene) (q : ℕ) (w : World) (o : Option SeatedVisitor) → Reached k.config s.world t.world → Reached k.config w t.world → ((n : ℕ) → t.visitor n ≡ set_at s.visitor q o n)
    → Turned k q w done new o → AllOk k done s → AllOk k (done ++ new) t
visit_told k done new s t q w o r later is turned ok = record {
  heard = every_append (IsHeard k t.world) done new (still_heard k s.world t.world done r ok.heard) (still_heard k w t.world new later turned.heard);
  order = turned.order;
  places = λ n. subst (PlaceOk k n (done ++ new)) (sym (is n)) (at_cases (PlaceOk k n (done ++ new)) s.visitor q o n
      (λ same. subst (λ (j : ℕ). PlaceOk k j (done ++ new) o) (sym same) turned.ok) (λ other. other_place k n q done new (s.visitor n) other turned.own (ok.places n)));
}

the_visitor : (k : Setup) (done : List Noted) (s : Scene) (q : ℕ) (v : SeatedVisitor) → AllOk k done s → s.visitor q ≡ Some v → VisitorOk k q done v
the_visitor k done s q v ok there = subst (PlaceOk k q done) there (ok.places q)

-- ---- a session's copy is put

may_put : (k : Config) (w : World) (p s : ℕ) (c : Job) (v : World) → world.Step k w (world.Put p s c) v → MayPut k w p s c
may_put k w p s c v (put_joins may live room e) = may
may_put k w p s c v (put_full may live full e) = may
may_put k w p s c v (put_no_memory may live room e) = may
may_put k w p s c v (put_shut may ended e) = may

abbrev others_in : List Job → List Job
others_in [] = []
others_in (c ∷ cs) = cs

abbrev key_in : CopyKey → List Job → CopyKey
key_in key [] = key
key_in key (c ∷ cs) = c.key

-- the copy that is put is the only one, and its key is above all that its seat has heard of
put_ok : (k : Setup) (place : ℕ) (w : World) (done : List Noted) (serial : ℕ) (o : Option Sent) (copy : Job) (others : List Job) → copy ∷ others ≡ copies_of (session_seat k place) serial o
    → All (λ r. Below r.key copy.key) (w.heard (session_seat k place)) → Every (IsHeard k w) done → (others ≡ []) × Every (AreAbove (session_seat k place) (keys_of (session_seat k place) serial o)) done
put_ok k place w done serial None copy others e above heard = absurd (omega (arith, ap length e))
put_ok k place w done serial (Some sent) copy others e above heard =
    let seat : ℕ = session_seat k place in
    let key : CopyKey = record { seat = seat; serial = serial; message = sent.append.message; recipient = 0 } in
    let same : copy.key ≡ key = ap (key_in key) e in (
      ap others_in e,
      every_weaker (IsHeard k w) (AreAbove seat (key ∷ []))
          (λ n is. ((λ at. subst (Below n.key) same (All-contains (λ r. Below r.key copy.key) (w.heard seat) n above (subst (λ (p : ℕ). Contains (w.heard p) n) at is.1))), tt)) done heard,
    )

puts_ok : (k : Setup) (done : List Noted) (s : Scene) (q : ℕ) (t : Scene) (printed : List ℕ) → AllOk k done s → (p : SessionPuts k false s q t printed)
    → VisitorOk k q done (record { session = p.visitor.session; serial = p.visitor.serial; gone = p.visitor.gone; to_put = p.others })
puts_ok k done s q t printed ok p = by (the_visitor k done s q p.visitor ok p.there).due
  where
    by : (p.visitor.to_put ≡ []) ⊎ (p.visitor.to_put ≡ copies_of (session_seat k q) p.visitor.serial (sent_by p.visitor))
        → VisitorOk k q done (record { session = p.visitor.session; serial = p.visitor.serial; gone = p.visitor.gone; to_put = p.others })
    by (inl none) = absurd (omega (arith, ap length (sym p.front ∙ none)))
    by (inr e) =
        let may = may_put k.config s.world (session_seat k q) (world.shard_of k.config p.copy.mailbox) p.copy p.moved p.step in
        let x = put_ok k q s.world done p.visitor.serial (sent_by p.visitor) p.copy p.others (sym p.front ∙ e) may.above_heard ok.heard in
        record { due = inl x.0; above = λ none. x.1 }

-- ---- each event

-- a session that was let in has nothing to put, and awaits nothing
new_ok : (k : Setup) (place : ℕ) (done : List Noted) (serial : ℕ) (user : List ℕ) → VisitorOk k place done (seated_greeted serial (admitted_in k user) (folders_of k.directory user))
new_ok k place done serial user = record { due = inl refl; above = λ none. none_above (session_seat k place) done }

-- one that awaits the same as before
same_sent : (k : Setup) (place : ℕ) (done : List Noted) (v u : SeatedVisitor) → u.to_put ≡ v.to_put → u.serial ≡ v.serial → sent_by u ≡ sent_by v → VisitorOk k place done v → VisitorOk k place done u
same_sent k place done v u e f g ok = record { due = rw (e, f, g) ok.due; above = rw (e, f, g) ok.above }

quiet : (k : Setup) (place : ℕ) (w : World) (done : List Noted) (o : Option SeatedVisitor) → Rising InOrder done → PlaceOk k place done o → Turned k place w done [] o
quiet k place w done o order ok = record { heard = tt; own = tt; order = rw (append-nil done) order; ok = same_place k place done o ok }

reached_there : (k : Setup) (w v u : World) → u ≡ v → Reached k.config w v → Reached k.config w u
reached_there k w v u e r = rw e r

idle_told : (k : Setup) (done : List Noted) (s : Scene) (q : ℕ) (t : Scene) (printed : List ℕ) → Reached k.config s.world t.world → AllOk k done s → IdlePlay k false s q t printed → AllOk k (done ++ []) t
idle_told k done s q t printed r ok p =
    let g = p.goes in
    let now : SeatedVisitor = with_session g.after p.visitor in
    let mail = idles_keep (Meets k.config q) p.visitor.session.standing s.world g.mid [] g.idles.said g.shown g.after.standing g.idles.turned in
    let here : VisitorOk k q done now = same_sent k q done p.visitor now refl refl (ap (λ (m : Mailing). m.sent) mail) (the_visitor k done s q p.visitor ok p.there) in
    visit_told k done [] s t q t.world p.left r ([], refl) (λ n. ap (λ (x : Scene). x.visitor n) p.after) (quiet k q t.world done p.left ok.order (parts_ok k q done now g.mid p.moved p.left here g.left)) ok

bytes_told : (k : Setup) (done : List Noted) (s : Scene) (seat : ℕ) (piece : List ℕ) (t : Scene) (printed : List ℕ) → Reached k.config s.world t.world → AllOk k done s → BytesPlay k false s seat piece t printed → AllOk k (done ++ []) t
bytes_told k done s seat piece t printed r ok (opens there free more o g after) = aside_told k done s t r (λ n. ap (λ (x : Scene). x.visitor n) after) ok
bytes_told k done s seat piece t printed r ok (goes_on b there read o g after) = aside_told k done s t r (λ n. ap (λ (x : Scene). x.visitor n) after) ok

put_told : (k : Setup) (done : List Noted) (s : Scene) (seat : ℕ) (t : Scene) (printed : List ℕ) → Reached k.config s.world t.world → AllOk k done s → (p : PutPlay k false s seat t printed) → AllOk k (done ++ answered_at_put k s seat t printed p) t
put_told k done s seat t printed r ok (connection_puts few p) = aside_told k done s t r (λ n. ap (λ (x : Scene). x.visitor n) p.after) ok
put_told k done s seat t printed r ok (session_puts place is p) =
    let b : SeatedVisitor = record { session = p.visitor.session; serial = p.visitor.serial; gone = p.visitor.gone; to_put = p.others } in
    visit_told k done (answered_in_turn k place (p.moved.heard (session_seat k place)) p.moved b p.later p.left printed p.goes) s t place p.moved p.left r
    (reached_there k p.moved p.later t.world (ap (λ (x : Scene). x.world) p.after) (turn_reached k place (p.moved.heard (session_seat k place)) p.moved b p.later p.left printed p.goes))
    (λ n. ap (λ (x : Scene). x.visitor n) p.after) (turn_told k place p.moved done b p.later p.left printed p.goes ok.order (puts_ok k done s place t printed ok p)) ok

hear_told : (k : Setup) (done : List Noted) (s : Scene) (seat : ℕ) (t : Scene) (printed : List ℕ) → Reached k.config s.world t.world → AllOk k done s → (p : HearPlay k false s seat t printed) → AllOk k (done ++ answered_at_hear k s seat t printed p) t
hear_told k done s seat t printed r ok (connection_hears few p) = aside_told k done s t r (λ n. ap (λ (x : Scene). x.visitor n) p.after) ok
hear_told k done s seat t printed r ok (session_hears place is p) =
    visit_told k done (answered_in_turn k place (p.moved.heard (session_seat k place)) p.moved p.visitor p.later p.left printed p.goes) s t place p.moved p.left r
    (reached_there k p.moved p.later t.world (ap (λ (x : Scene). x.world) p.after) (turn_reached k place (p.moved.heard (session_seat k place)) p.moved p.visitor p.later p.left printed p.goes))
    (λ n. ap (λ (x : Scene). x.visitor n) p.after) (turn_told k place p.moved done p.visitor p.later p.left printed p.goes ok.order (the_visitor k done s place p.visitor ok p.there)) ok

-- a talk in the scene's own world
talked_told : (k : Setup) (done : List Noted) (s t : Scene) (q : ℕ) (b : SeatedVisitor) (v : World) (o : Option SeatedVisitor) (printed : List ℕ) → Reached k.config s.world t.world → t.world ≡ v → ((n : ℕ) → t.visitor n ≡ set_at s.visitor q o n)
    → (g : SessionTalks k false q (s.world.heard (session_seat k q)) s.world b v o printed) → VisitorOk k q done b → AllOk k done s → AllOk k (done ++ answered_in_talk k q (s.world.heard (session_seat k q)) s.world b v o printed g) t
talked_told k done s t q b v o printed r e is g here ok =
    visit_told k done (answered_in_talk k q (s.world.heard (session_seat k q)) s.world b v o printed g) s t q s.world o r
    (reached_there k s.world v t.world e (talk_reached k q (s.world.heard (session_seat k q)) s.world b v o printed g)) is (talk_told k q s.world done b v o printed g ok.order here) ok

entry_told : (k : Setup) (done : List Noted) (s : Scene) (event : house.Event) (t : Scene) (printed : List ℕ) → Reached k.config s.world t.world → AllOk k done s → (p : Plays k false s event t printed)
    → AllOk k (done ++ answered_at k s event t printed p) t
entry_told k done s (Bytes connection piece) t printed r ok p = bytes_told k done s (seat_of connection) piece.now t printed r ok p
entry_told k done s (Vanish connection) t printed r ok p = aside_told k done s t r (λ n. ap (λ (x : Scene). x.visitor n) p.after) ok
entry_told k done s (Put number) t printed r ok p = put_told k done s (seat_of number) t printed r ok p
entry_told k done s (Take shard) t printed r ok p = aside_told k done s t r (λ n. ap (λ (x : Scene). x.visitor n) p.after) ok
entry_told k done s (Deliver shard) t printed r ok p = aside_told k done s t r (λ n. ap (λ (x : Scene). x.visitor n) p.after) ok
entry_told k done s (Answer shard) t printed r ok p = aside_told k done s t r (λ n. ap (λ (x : Scene). x.visitor n) p.after) ok
entry_told k done s (Hear number) t printed r ok p = hear_told k done s (seat_of number) t printed r ok p
entry_told k done s (End number shard) t printed r ok p = aside_told k done s t r (λ n. ap (λ (x : Scene). x.visitor n) p.after) ok
entry_told k done s (Close shard) t printed r ok p = aside_told k done s t r (λ n. ap (λ (x : Scene). x.visitor n) p.after) ok
entry_told k done s (Enter session user) t printed r ok p =
    let q : ℕ = place_of session in
    talked_told k done s t q (seated_greeted (s.entered q) (admitted_in k user.now) (folders_of k.directory user.now)) p.moved p.left printed r (ap (λ (x : Scene). x.world) p.after)
    (λ n. ap (λ (x : Scene). x.visitor n) p.after) p.goes (new_ok k q done (s.entered q) user.now) ok
entry_told k done s (Say session piece) t printed r ok p =
    let q : ℕ = place_of session in
    let here = the_visitor k done s q p.visitor ok p.there in
    talked_told k done s t q (with_session (more_waits p.visitor.session piece.now) p.visitor) p.moved p.left printed r (ap (λ (x : Scene). x.world) p.after)
    (λ n. ap (λ (x : Scene). x.visitor n) p.after) p.goes (record { due = here.due; above = here.above }) ok
entry_told k done s (Idle session) t printed r ok p = idle_told k done s (place_of session) t printed r ok p
entry_told k done s (Leave session) t printed r ok p =
    let q : ℕ = place_of session in
    let here = the_visitor k done s q p.visitor ok p.there in
    let gone : VisitorOk k q done (unread p.visitor) = record { due = here.due; above = here.above } in
    visit_told k done [] s t q t.world p.left r ([], refl) (λ n. ap (λ (x : Scene). x.visitor n) p.after)
    (quiet k q t.world done p.left ok.order (lingers_ok k q done (session_seat k q) (s.world.heard (session_seat k q)) (unread p.visitor) p.left gone p.stays)) ok

-- ---- the whole record

record_told : (k : Setup) (told : ℕ → List Noted) (done : List Noted) (entries : List Entry) (s t : Scene) → SceneOk k told s → AllOk k done s → (is : IsRecord k entries s t) → AllOk k (done ++ answered_by k entries s t is) t
record_told k told done [] s t scene ok is = aside_told k done s t ([], ap (λ (x : Scene). x.world) is) (λ n. ap (λ (x : Scene). x.visitor n) is) ok
record_told k told done (entry ∷ entries) s t scene ok is =
    let d : Did k told s entry.event entry.after (text_of k entry.piece) = plays_did k told s entry.event entry.after (text_of k entry.piece) scene is.0.plays in
    let new : List Noted = answered_at k s entry.event entry.after (text_of k entry.piece) is.0.plays in
    let one : AllOk k (done ++ new) entry.after = entry_told k done s entry.event entry.after (text_of k entry.piece) d.reached ok is.0.plays in
    subst (λ (x : List Noted). AllOk k x t) (append_assoc done new (answered_by k entries entry.after t is.1))
    (record_told k (with_piece told d.piece) (done ++ new) entries entry.after t d.ok one is.1)

pub sessions_answer_once : SessionsAnswerOnce
sessions_answer_once k entries t steps came is =
    let answered : List Noted = answered_by k entries (empty_scene k) t is in
    let start : AllOk k [] (empty_scene k) = record { heard = tt; order = tt; places = λ n. tt } in
    let ok : AllOk k answered t = record_told k none_yet [] entries (empty_scene k) t (nobody_ok k) start is in
    let heard : All (λ (n : Noted). Contains (t.world.heard n.key.seat) n) answered =
    all_of_every (λ (n : Noted). Contains (t.world.heard n.key.seat) n) answered (every_weaker (IsHeard k t.world) (λ n. Contains (t.world.heard n.key.seat) n) (λ n x. x.1) answered ok.heard) in record {
      at_own_seat = all_of_every (λ (n : Noted). (place : ℕ) × (n.key.seat ≡ session_seat k place)) answered
          (every_weaker (IsHeard k t.world) (λ n. (place : ℕ) × (n.key.seat ≡ session_seat k place)) (λ n x. x.0) answered ok.heard);
      as_heard = heard;
      in_order = rising_pair InOrder answered ok.order;
      stored = λ uid noted there e. (always k.config steps t.world came).answered noted.key.seat uid noted (All-contains (λ (n : Noted). Contains (t.world.heard n.key.seat) n) answered noted heard there) e;
    }
