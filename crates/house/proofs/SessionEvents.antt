-- What happens to sessions, over the whole house: who enters, what is said, who leaves, and the copies that are put and heard of.
use Rattle.std.proofs.Common.{◌≡◌, ◌≢◌, ℕ, ◌+◌, ◌%◌, ◌<◌, ◌⊎◌, inl, inr, Bool, true, false, List, [], ◌∷◌, ◌++◌, length, refl, ap, sym, ◌∙◌, subst, arith, append_assoc, Option, Some, None, get_or, set, get_or-set_other, get_or-set_same, length-set, IsSome}
use Rattle.delivery_token.specs.Keys.{AtLeast, Precedes, past}
use Rattle.delivery_token.specs.Copies.{heard_at_once}
use Rattle.delivery_token.specs.declared.CopyKey.{CopyKey}
use Rattle.delivery_token.specs.declared.Job.{Job}
use Rattle.delivery_token.specs.declared.Refusal.{Refusal}
use Rattle.delivery_token.specs.declared.log.Noted.{Noted}
use Rattle.shard_queue.specs.Lane.{set_at}
use Rattle.shard_queue.proofs.AtLaws.{set_at-same}
use Rattle.delivery_token.specs.Copies as submission
use Rattle.delivery_token.specs.inner.Verdicts.{heard_verdict}
use Rattle.envelope.specs.Names.{Directory}
use Rattle.world.specs.World.{Config, World}
use Rattle.world.specs.World as world
use Rattle.delivery_core.specs.DeliveryCore.{DeliveryCore, notes_of}
use Rattle.delivery_core.specs.Changes.{Hears, SameDelivery}
use Rattle.delivery_core.specs.New.{first_key}
use Rattle.delivery_core.specs.Stands as core
use Rattle.imap_session.specs.Exchange.{Admission, Answer}
use Rattle.imap_session.specs.Exchange as calls
use Rattle.house.specs.declared.core_store.CoreStore.{CoreStore}
use Rattle.house.specs.CoreStore.{Serves}
use Rattle.house.proofs.Served.{carries}
use Rattle.imap_session.specs.Folders.{admission_of, folders_of, has_user}
use Rattle.house_peers.specs.Visitor.{more_waits, SeatedVisitor, copies_of, seated_greeted, sent_by, unread}
use Rattle.house_peers.specs.SeatedSession.{HearsVerdict, SeatedSession, StandsForSeated, due, noted_put, submitted_at, with_nobody_there}
use Rattle.house_peers.proofs.SessionPutting.{may_be_used, next_copy, put_stands}
use Rattle.house_peers.proofs.Seating.{heard_stands, vanished}
use Rattle.house.specs.Setup.{Setup, admitted_in, session_seat}
use Rattle.house.specs.House.{House}
use Rattle.house.specs.Printing.{with_session}
use Rattle.house.specs.Scene.{EnterPlay, HearPlay, LeavePlay, PutPlay, SayPlay, connection_hears, connection_puts, session_hears, session_puts, Scene, SessionHears, SessionPuts, most_serials, with_visitor, with_world}
use Rattle.house.specs.Stands.{StandsFor, StandsForVisit, first_of}
use Rattle.house.specs.Steps.{PutsNext, is_left}
use Rattle.house.specs.inner.Steps.{HasLingered, MayNotPut, PlaceTalked, PlaceVisited, StandsForSomebody, with_more_came}
use Rattle.house.proofs.Callers.{at_there}
use Rattle.house.proofs.Seats.{heard_is, one_step, seat_within}
use Rattle.house.proofs.Turns.{hear_moves, may_of, step_of}
use Rattle.house.proofs.Visiting.{IsAtPlace, after_visiting, at_place, goes_serial, lingers_serial, talks_serial, visit_stands, visited_scene, who_stays, with_visits}

-- where the serials stay
kept_serials : (k : Setup) (h : House) (s : Scene) (place : ℕ) → StandsFor k h s → place < length h.visitors → (n : ℕ) → get_or h.entered place n ≡ s.entered place
kept_serials k h s place st lt n = (st.visitors place (first_key 0) n None lt).counted

-- ---- what is said

-- bytes more wait
more_stands : (seat : ℕ) (next : CopyKey) (heard : List Noted) (p : SeatedSession) (b : SeatedVisitor) (piece : List ℕ) → StandsForSeated seat next heard p b → StandsForSeated seat next heard (with_more_came piece p) (with_session (more_waits b.session piece) b)
more_stands seat next heard p b piece s = record {
  place = λ live. let x = s.place live in
      record { begun = x.begun; connection = x.connection; waits = ap (λ (t : List ℕ). t ++ piece) x.waits ∙ append_assoc x.begun p.place.came piece; unsaid = x.unsaid };
  submitted = s.submitted;
  number = s.number;
  serial = s.serial;
  gone = s.gone;
  to_put = s.to_put;
  verdicts = s.verdicts;
  numbered = s.numbered;
  ahead = s.ahead;
}

pub said : (k : Setup) (whole : Bool) (h : House) (s : Scene) (place : ℕ) (piece : List ℕ) (p : SeatedSession) (q : Option SeatedSession) (c : DeliveryCore) (old new : List ℕ) → StandsFor k h s → place < length h.visitors
    → get_or h.visitors place None ≡ Some p → p.gone ≡ false → SameDelivery h.core c
    → ((next : CopyKey) (heard : List Noted) (w : World) (b : SeatedVisitor) → core.StandsFor k.config h.core w → StandsForSomebody (session_seat k place) next heard (Some (with_more_came piece p)) (Some b) → PlaceTalked k whole place next heard w b q c old new)
    → (t : Scene) × (printed : List ℕ) × SayPlay k whole s place piece t printed × StandsFor k (with_visits h c place q h.entered) t × (new ≡ old ++ printed)
said k whole h s place piece p q c old new st within some live rest goes =
    let y = first_key 0 in
    let a = at_place k h s place y p st within some in
    let next = get_or h.core.next (session_seat k place) y in
    let heard = s.world.heard (session_seat k place) in
    let b = with_session (more_waits a.visitor.session piece) a.visitor in
    let stands = more_stands (session_seat k place) next heard p a.visitor piece a.stands in
    let m = goes next heard s.world b st.core stands in (
      with_visitor (with_world s m.moved) place m.left,
      m.printed,
      record { visitor = a.visitor; there = a.here; is_read = sym a.stands.gone ∙ live; moved = m.moved; left = m.left; goes = m.goes; after = refl {a = with_visitor (with_world s m.moved) place m.left} },
      visit_stands k h c h.entered s m.moved s.entered place y q m.left st m.core rest within refl (λ n. kept_serials k h s place st within n) (λ i n ne. refl) (λ i ne. refl)
          (who_stays (session_seat k place) next heard (s.entered place) q m.left (with_more_came piece p) b m.there stands a.serial (λ x e. talks_serial k whole place heard s.world b m.moved m.left m.printed x m.goes e)),
      m.out,
    )

-- ---- who enters

-- where nobody is, the seat's next key is no later than that of the next session there
free_place : (k : Setup) (s : Scene) (place : ℕ) (next : CopyKey) (o : Option SeatedVisitor) → s.visitor place ≡ o → StandsForVisit (session_seat k place) next (s.world.heard (session_seat k place)) (s.entered place) None o
    → (s.visitor place ≡ None) × AtLeast next (first_of (session_seat k place) (s.entered place))
free_place k s place next None e w = (e, w)
free_place k s place next (Some b) e w = absurd w

pub entered : (k : Setup) (whole : Bool) (h : House) (s : Scene) (place seat serial : ℕ) (admission : Admission) (user : List ℕ) (p : SeatedSession) (q : Option SeatedSession) (c : DeliveryCore) (old new : List ℕ) → StandsFor k h s → place < length h.visitors → seat ≡ length h.callers + place
    → get_or h.visitors place None ≡ None → has_user h.directory user ≡ true → serial ≡ get_or h.entered place 0 → serial < most_serials → admission ≡ admission_of h.compatible (Some h.max_message) user → SameDelivery h.core c
    → ((next : CopyKey) (heard : List Noted) → AtLeast next (first_of seat serial) → StandsForSeated seat next heard p (seated_greeted serial admission (folders_of h.directory user)))
    → ((next : CopyKey) (heard : List Noted) (w : World) (b : SeatedVisitor) → core.StandsFor k.config h.core w → StandsForSomebody (session_seat k place) next heard (Some p) (Some b) → PlaceTalked k whole place next heard w b q c old new)
    → (t : Scene) × (printed : List ℕ) × EnterPlay k whole s place user t printed × StandsFor k (with_visits h c place q (set h.entered place (serial + 1))) t × (new ≡ old ++ printed)
entered k whole h s place seat serial admission user p q c old new st within at free known of less size rest opened goes =
    let y = first_key 0 in
    let each = st.visitors place y 0 None within in
    let mine : seat ≡ session_seat k place = at ∙ ap (λ (n : ℕ). n + place) st.connections in
    let same : serial ≡ s.entered place = of ∙ each.counted in
    let next = get_or h.core.next (session_seat k place) y in
    let heard = s.world.heard (session_seat k place) in
    let o = free_place k s place next (s.visitor place) refl (subst (λ (x : Option SeatedSession). StandsForVisit (session_seat k place) next heard (s.entered place) x (s.visitor place)) free each.who) in
    let b : SeatedVisitor = seated_greeted (s.entered place) (admitted_in k user) (folders_of k.directory user) in
    let comes : admission ≡ admitted_in k user = size ∙ ap (λ (b : Bool). admission_of b (Some h.max_message) user) st.compatible ∙ ap (λ (n : ℕ). admission_of k.compatible (Some n) user) st.max_message in
    let one : (n : CopyKey) → AtLeast n (first_of (session_seat k place) (s.entered place)) → StandsForSeated (session_seat k place) n heard p b
    = λ n l. subst (λ (x : ℕ). StandsForSeated x n heard p b) mine (subst (λ (x : ℕ). StandsForSeated seat n heard p (seated_greeted x (admitted_in k user) (folders_of k.directory user))) same
    (subst (λ (x : Admission). StandsForSeated seat n heard p (seated_greeted serial x (folders_of k.directory user))) comes
    (subst (λ (d : Directory). StandsForSeated seat n heard p (seated_greeted serial admission (folders_of d user))) st.directory
    (opened n heard (subst (λ (x : ℕ). AtLeast n (first_of x serial)) (sym mine) (subst (λ (x : ℕ). AtLeast n (first_of (session_seat k place) x)) (sym same) l)))))) in
    let stands = one next o.1 in
    let m = goes next heard s.world b st.core stands in
    let numbers = set_at s.entered place (s.entered place + 1) in
    let here : numbers place ≡ s.entered place + 1 = set_at-same s.entered place (s.entered place + 1) in
    let ls : place < length h.entered = let e = st.places in let f = st.entries in omega (arith, within, e, f) in (
      visited_scene s m.moved place m.left numbers,
      m.printed,
      record {
        there = (let e = st.places in omega (arith, within, e));
        free = o.0;
        known = sym (ap (λ (d : Directory). has_user d user) st.directory) ∙ known;
        more = omega (arith, less, same);
        moved = m.moved;
        left = m.left;
        goes = m.goes;
        after = refl {a = visited_scene s m.moved place m.left numbers};
      },
      visit_stands k h c (set h.entered place (serial + 1)) s m.moved numbers place y q m.left st m.core rest within (length-set h.entered place (serial + 1))
          (λ n. get_or-set_same h.entered place (serial + 1) n ls ∙ ap (λ (x : ℕ). x + 1) same ∙ sym here)
          (λ i n ne. get_or-set_other h.entered place i (serial + 1) n ne) (λ i ne. at_there s.entered place (s.entered place + 1) i ne)
          (who_stays (session_seat k place) next heard (numbers place) q m.left p b m.there stands (omega (arith, here)) (λ x e. talks_serial k whole place heard s.world b m.moved m.left m.printed x m.goes e)),
      m.out,
    )

-- ---- who leaves

pub left_place : (k : Setup) (h : House) (s : Scene) (place : ℕ) (p : SeatedSession) (q : Option SeatedSession) (new : CoreStore) (answer : Answer) → StandsFor k h s → place < length h.visitors → get_or h.visitors place None ≡ Some p → p.gone ≡ false
    → Serves (record { core = h.core; session = place }) (calls.Leave false) answer new
    → ((seat : ℕ) (next : CopyKey) (heard : List Noted) (b : SeatedVisitor) → StandsForSomebody seat next heard (Some (with_nobody_there p)) (Some b) → HasLingered seat next heard b q)
    → (t : Scene) × LeavePlay k s place t [] × StandsFor k (with_visits h new.core place q h.entered) t
left_place k h s place p q new answer st within some live served stays =
    let y = first_key 0 in
    let a = at_place k h s place y p st within some in
    let seat = session_seat k place in
    let next = get_or h.core.next seat y in
    let heard = s.world.heard seat in
    let gone = carries k.config place (record { core = h.core; session = place }) new (calls.Leave false) answer s.world served (record { session = refl; stands = st.core }) in
    let stands = vanished seat next heard a.visitor p a.stands in
    let l = stays seat next heard (unread a.visitor) stands in (
      with_visitor (with_world s gone.0) place l.left,
      record { visitor = a.visitor; there = a.here; was_read = sym a.stands.gone ∙ live; moved = gone.0; leaves = (answer, gone.1); left = l.left; stays = l.lingers; after = refl {a = with_visitor (with_world s gone.0) place l.left}; silent = refl },
      visit_stands k h new.core h.entered s gone.0 s.entered place y q l.left st gone.2.stands served.rest within refl (λ n. kept_serials k h s place st within n) (λ i n ne. refl) (λ i ne. refl)
          (who_stays seat next heard (s.entered place) q l.left (with_nobody_there p) (unread a.visitor) l.there stands a.serial (λ x e. lingers_serial seat heard (unread a.visitor) l.left x l.lingers e)),
    )

-- ---- a put

-- what is still to be put is what its seat says
to_put_is : (seat : ℕ) (next : CopyKey) (heard : List Noted) (v : SeatedVisitor) (p : SeatedSession) → StandsForSeated seat next heard p v → v.to_put ≡ due p
to_put_is seat next heard v p s =
    let same : copies_of p.number p.serial (submitted_at p) ≡ copies_of seat v.serial (sent_by v) = ap (λ (n : ℕ). copies_of n p.serial (submitted_at p)) s.number ∙ ap (λ (n : ℕ). copies_of seat n (submitted_at p)) s.serial ∙ ap (copies_of seat v.serial) s.submitted in
    s.to_put ∙ sym (ap (λ (jobs : List Job). submission.due jobs p.slots) same)

-- after the delivery side put or heard something at a session's seat, and it went on
went_on : (k : Setup) (whole : Bool) (h : House) (s : Scene) (c d : DeliveryCore) (v : World) (place : ℕ) (y : CopyKey) (q : Option SeatedSession) (g : SeatedSession) (b : SeatedVisitor) (old new : List ℕ) → StandsFor k h s → core.StandsFor k.config c v → place < length h.visitors → SameDelivery c d
    → ((i : ℕ) → i ≢ session_seat k place → notes_of c i ≡ notes_of h.core i) → ((i : ℕ) (z : CopyKey) → i ≢ session_seat k place → get_or c.next i z ≡ get_or h.core.next i z)
    → StandsForSeated (session_seat k place) (get_or c.next (session_seat k place) y) (v.heard (session_seat k place)) g b → b.serial < s.entered place
    → (m : PlaceVisited k whole place (get_or c.next (session_seat k place) y) (v.heard (session_seat k place)) v b q d old new)
    → StandsFor k (with_visits h d place q h.entered) (with_visitor (with_world s m.moved) place m.left)
went_on k whole h s c d v place y q g b old new st cs lt rest notes nexts stands less m =
    let seat = session_seat k place in
    let lk = seat_within k h s place st lt in
    let noted : (i : ℕ) → notes_of d i ≡ notes_of c i = λ i. ap (λ (bs : List _). notes_of (record c { heard = bs }) i) rest.heard in
    let keys : (i : ℕ) (z : CopyKey) → get_or d.next i z ≡ get_or c.next i z = λ i z. ap (λ (ks : List CopyKey). get_or ks i z) rest.next in
    after_visiting k h d h.entered s m.moved s.entered place y q m.left st m.core lt (λ i ne. noted i ∙ notes i ne) (λ i z ne. keys i z ∙ nexts i z ne) refl (λ n. kept_serials k h s place st lt n) (λ i n ne. refl) (λ i ne. refl)
    (subst (λ (z : CopyKey). StandsForVisit seat z (m.moved.heard seat) (s.entered place) q m.left) (sym (keys seat y))
    (subst (λ (x : List Noted). StandsForVisit seat (get_or c.next seat y) x (s.entered place) q m.left) (sym (sym (heard_is k.config d m.moved m.core seat lk) ∙ noted seat ∙ heard_is k.config c v cs seat lk))
    (who_stays seat (get_or c.next seat y) (v.heard seat) (s.entered place) q m.left g b m.there stands less (λ x e. goes_serial k whole place (v.heard seat) v b m.moved m.left m.printed x m.goes e))))

pub put_led : (k : Setup) (whole : Bool) (h : House) (s : Scene) (place : ℕ) (g : SeatedSession) (c d : DeliveryCore) (why : Option Refusal) (here q : Option SeatedSession) (old new : List ℕ) → StandsFor k h s → place < length h.visitors
    → get_or h.visitors place None ≡ Some g → PutsNext h.core (due g) c why → here ≡ Some (noted_put (heard_verdict why) g) → SameDelivery c d
    → ((next : CopyKey) (heard : List Noted) (w : World) (b : SeatedVisitor) → core.StandsFor k.config c w → StandsForSomebody (session_seat k place) next heard here (Some b) → PlaceVisited k whole place next heard w b q d old new)
    → (t : Scene) × (printed : List ℕ) × SessionPuts k whole s place t printed × StandsFor k (with_visits h d place q h.entered) t × (new ≡ old ++ printed)
put_led k whole h s place g c d why here q old new st lt some puts is rest f =
    let y = first_key 0 in
    let seat = session_seat k place in
    let a = at_place k h s place y g st lt some in
    let n = next_copy seat (get_or h.core.next seat y) (s.world.heard seat) a.visitor g puts.copy puts.others a.stands puts.front in
    let p = puts.puts in
    let es : puts.copy.key.seat ≡ seat = ap (λ (j : Job). j.key.seat) n.is in
    let m = p.follows k.config s.world st.core in
    let v = m.0 in
    let cs = m.2 in
    let step = step_of k.config s.world v puts.copy puts.copy.key.seat seat (length h.core.lanes) es st.core.shards (one_step k.config s.world v (world.Put puts.copy.key.seat (puts.copy.mailbox % length h.core.lanes) puts.copy) m.1) in
    let lk : seat < k.config.seats = seat_within k h s place st lt in
    let ln : seat < length h.core.next = let e = st.core.nexts in omega (arith, lk, e) in
    let heard : v.heard seat ≡ s.world.heard seat ++ heard_at_once puts.copy.key puts.copy.mailbox why
    = sym (heard_is k.config c v cs seat lk) ∙ subst (λ (i : ℕ). notes_of c i ≡ notes_of h.core i ++ heard_at_once puts.copy.key puts.copy.mailbox why) es p.heard.here
    ∙ ap (λ (ns : List Noted). ns ++ heard_at_once puts.copy.key puts.copy.mailbox why) (heard_is k.config h.core s.world st.core seat lk) in
    let next : get_or c.next seat y ≡ past puts.copy.key = ap (λ (ks : List CopyKey). get_or ks seat y) (p.next ∙ ap (λ (i : ℕ). set h.core.next i (past puts.copy.key)) es) ∙ get_or-set_same h.core.next seat (past puts.copy.key) y ln in
    let b : SeatedVisitor = record { session = a.visitor.session; serial = a.visitor.serial; gone = a.visitor.gone; to_put = puts.others } in
    let b1 = put_stands seat (get_or h.core.next seat y) (s.world.heard seat) (v.heard seat) a.visitor g puts.copy puts.others why (get_or c.next seat y) a.stands n next (may_of k.config s.world seat _ puts.copy v step).above_heard heard in
    let r = f (get_or c.next seat y) (v.heard seat) v b cs (subst (λ (x : Option SeatedSession). StandsForSomebody seat (get_or c.next seat y) (v.heard seat) x (Some b)) (sym is) b1) in (
      with_visitor (with_world s r.moved) place r.left,
      r.printed,
      record {
        visitor = a.visitor;
        there = a.here;
        copy = puts.copy;
        others = puts.others;
        front = to_put_is seat (get_or h.core.next seat y) (s.world.heard seat) a.visitor g a.stands ∙ puts.front;
        moved = v;
        step = step;
        later = r.moved;
        left = r.left;
        goes = r.goes;
        after = refl {a = with_visitor (with_world s r.moved) place r.left};
      },
      went_on k whole h s c d v place y q (noted_put (heard_verdict why) g) b old new st cs lt rest
          (λ i ne. p.heard.others i (λ z. ne (z ∙ es)))
          (λ i z ne. ap (λ (ks : List CopyKey). get_or ks i z) (p.next ∙ ap (λ (j : ℕ). set h.core.next j (past puts.copy.key)) es) ∙ get_or-set_other h.core.next seat i (past puts.copy.key) z ne)
          b1 a.serial r,
      r.out,
    )

-- where no copy may be put, none is
pub put_idles : (k : Setup) (h : House) (s : Scene) (place : ℕ) (g : SeatedSession) (t : Scene) (printed : List ℕ) → StandsFor k h s → place < length h.visitors → get_or h.visitors place None ≡ Some g → MayNotPut h.core (due g) → SessionPuts k true s place t printed → ⊥
put_idles k h s place g t printed st lt some why p =
    let y = first_key 0 in
    let seat = session_seat k place in
    let a = at_place k h s place y g st lt some in
    let same : a.visitor ≡ p.visitor = let x : Some a.visitor ≡ Some p.visitor = sym a.here ∙ p.there in cc in
    let front : due g ≡ p.copy ∷ p.others = sym (to_put_is seat (get_or h.core.next seat y) (s.world.heard seat) a.visitor g a.stands) ∙ ap (λ (x : SeatedVisitor). x.to_put) same ∙ p.front in
    by a front why
  where
    front_is : (a b : Job) (xs ys : List Job) → a ∷ xs ≡ b ∷ ys → a ≡ b
    front_is a b xs ys e = cc

    by : IsAtPlace k s place (get_or h.core.next (session_seat k place) (first_key 0)) g → due g ≡ p.copy ∷ p.others → MayNotPut h.core (due g) → ⊥
    by a front (inl none) = let x : [] ≡ p.copy ∷ p.others = sym none ∙ front in cc
    by a front (inr (c, others, first, isnt)) =
        let seat = session_seat k place in
        let copy : p.copy ≡ c = front_is p.copy c p.others others (sym front ∙ first) in
        let n = next_copy seat (get_or h.core.next seat (first_key 0)) (s.world.heard seat) a.visitor g c others a.stands first in
        let may = may_of k.config s.world seat _ p.copy p.moved p.step in
        let es : c.key.seat ≡ seat = ap (λ (j : Job). j.key.seat) n.is in
        let lk : seat < k.config.seats = seat_within k h s place st lt in
        let ln : seat < length h.core.next = let q = st.core.nexts in omega (arith, lk, q) in
        let z = at_place k h s place c.key g st lt some in
        let ahead : AtLeast (get_or h.core.next seat c.key) c.key = may_be_used seat (get_or h.core.next seat c.key) z.visitor.serial z.visitor.session.standing.mailing.number (sent_by z.visitor) g.slots c others
        (next_copy seat (get_or h.core.next seat c.key) (s.world.heard seat) z.visitor g c others z.stands first) z.stands.ahead in
        let own : (get_or h.core.next seat c.key).seat ≡ seat = (st.core.next seat c.key ln).own in
        let last : c.key.recipient ≡ 0 = ap (λ (j : Job). j.key.recipient) n.is in
        isnt (record {
          seat = let q = st.core.seats in omega (arith, es, lk, q);
          next = subst (λ (i : ℕ). (get_or h.core.next i c.key ≡ c.key) ⊎ Precedes (get_or h.core.next i c.key) c.key) (sym es) (elim ahead [ inl e ↦ inl e | inr b ↦ inr (own ∙ sym es, b) ]);
          last = omega (arith, last);
          mailbox_there = let m = may.mailbox in let e = ap (λ (j : Job). j.mailbox) copy in let r = st.core.mailboxes in omega (arith, m, e, r);
          shard_there = let q = st.some_shard in let r = st.core.shards in omega (arith, q, r);
        })

-- ---- a hearing

pub heard_led : (k : Setup) (whole : Bool) (h : House) (s : Scene) (place : ℕ) (g : SeatedSession) (c d : DeliveryCore) (r : Noted) (x : SeatedSession) (q : Option SeatedSession) (old new : List ℕ) → StandsFor k h s → place < length h.visitors → get_or h.visitors place None ≡ Some g
    → ((i : Config) → core.Follows i h.core (world.Hear (session_seat k place) ∷ []) c) → Hears h.core c (session_seat k place) (r ∷ []) → c.next ≡ h.core.next → HearsVerdict g r x → SameDelivery c d
    → ((next : CopyKey) (heard : List Noted) (w : World) (b : SeatedVisitor) → core.StandsFor k.config c w → StandsForSomebody (session_seat k place) next heard (Some x) (Some b) → PlaceVisited k whole place next heard w b q d old new)
    → (t : Scene) × (printed : List ℕ) × SessionHears k whole s place t printed × StandsFor k (with_visits h d place q h.entered) t × (new ≡ old ++ printed)
heard_led k whole h s place g c d r x q old new st lt some follows hears nexts slot rest f =
    let y = first_key 0 in
    let seat = session_seat k place in
    let a = at_place k h s place y g st lt some in
    let m = follows k.config s.world st.core in
    let v = m.0 in
    let cs = m.2 in
    let lk : seat < k.config.seats = seat_within k h s place st lt in
    let heard : v.heard seat ≡ s.world.heard seat ++ r ∷ [] = sym (heard_is k.config c v cs seat lk) ∙ hears.here ∙ ap (λ (ns : List Noted). ns ++ r ∷ []) (heard_is k.config h.core s.world st.core seat lk) in
    let same : get_or c.next seat y ≡ get_or h.core.next seat y = ap (λ (ks : List CopyKey). get_or ks seat y) nexts in
    let b1 = subst (λ (z : CopyKey). StandsForSeated seat z (v.heard seat) x a.visitor) (sym same) (heard_stands seat (get_or h.core.next seat y) (s.world.heard seat) (v.heard seat) a.visitor g x r a.stands slot heard) in
    let w = f (get_or c.next seat y) (v.heard seat) v a.visitor cs b1 in (
      with_visitor (with_world s w.moved) place w.left,
      w.printed,
      record { visitor = a.visitor; there = a.here; moved = v; step = one_step k.config s.world v (world.Hear seat) m.1; later = w.moved; left = w.left; goes = w.goes; after = refl {a = with_visitor (with_world s w.moved) place w.left} },
      went_on k whole h s c d v place y q x a.visitor old new st cs lt rest hears.others (λ i z ne. ap (λ (ks : List CopyKey). get_or ks i z) nexts) b1 a.serial w,
      w.out,
    )

pub hear_changes_nothing : (k : Setup) (h : House) (s : Scene) (place : ℕ) (t : Scene) (printed : List ℕ) → StandsFor k h s → ((x : Config) → core.ChangesNothing x h.core (world.Hear (session_seat k place))) → SessionHears k true s place t printed → ⊥
hear_changes_nothing k h s place t printed st still p = hear_moves s.world (session_seat k place) p.moved p.step (still k.config s.world p.moved st.core p.step)

-- ---- at a session's seat nobody else puts or hears

same_place : (k : Setup) (a b : ℕ) → session_seat k a ≡ session_seat k b → a ≡ b
same_place k a b e = omega (arith, e)

pub puts_none : (k : Setup) (h : House) (s : Scene) (place : ℕ) (g : SeatedSession) (t : Scene) (printed : List ℕ) → StandsFor k h s → place < length h.visitors → get_or h.visitors place None ≡ Some g → MayNotPut h.core (due g) → PutPlay k true s (session_seat k place) t printed → ⊥
puts_none k h s place g t printed st lt some why (connection_puts l p) = omega (arith, l)
puts_none k h s place g t printed st lt some why (session_puts other e p) = put_idles k h s place g t printed st lt some why (subst (λ (n : ℕ). SessionPuts k true s n t printed) (sym (same_place k place other e)) p)

pub hears_none : (k : Setup) (h : House) (s : Scene) (place : ℕ) (t : Scene) (printed : List ℕ) → StandsFor k h s → ((x : Config) → core.ChangesNothing x h.core (world.Hear (session_seat k place))) → HearPlay k true s (session_seat k place) t printed → ⊥
hears_none k h s place t printed st still (connection_hears l p) = omega (arith, l)
hears_none k h s place t printed st still (session_hears other e p) = hear_changes_nothing k h s place t printed st still (subst (λ (n : ℕ). SessionHears k true s n t printed) (sym (same_place k place other e)) p)

-- ---- whether its client is there

pub gone_there : (seat : ℕ) (next : CopyKey) (heard : List Noted) (o : Option SeatedSession) (b : SeatedVisitor) → StandsForSomebody seat next heard o (Some b) → is_left o ≡ true → b.gone ≡ true
gone_there seat next heard None b s e = absurd s
gone_there seat next heard (Some p) b s e = sym s.gone ∙ e

pub talks_there : (seat : ℕ) (next : CopyKey) (heard : List Noted) (o : Option SeatedSession) (b : SeatedVisitor) → StandsForSomebody seat next heard o (Some b) → is_left o ≡ false → b.gone ≡ false
talks_there seat next heard None b s e = absurd s
talks_there seat next heard (Some p) b s e = sym s.gone ∙ e

-- a session that is there, whose client is
pub somebody : (o : Option SeatedSession) → IsSome o → is_left o ≡ false → (p : SeatedSession) × (o ≡ Some p) × (p.gone ≡ false)
somebody None h e = absurd (let x : false ≡ true = h in cc)
somebody (Some p) h e = (p, refl, e)
