-- What a session does over the delivery core, as what it does in the scene; and a house whose session at one place went on.
use Rattle.std.proofs.Common.{◌≡◌, ◌≢◌, ℕ, ◌+◌, ◌-◌, ◌<◌, ◌≤◌, ◌⊎◌, inl, inr, Bool, true, false, eqb, List, [], length, get_or, set, zero, suc, append-nil, length-set, get_or-set_same, get_or-set_other, refl, sym, ap, ◌∙◌, subst, arith, Option, Some, None}
use Rattle.std.specs.Prelude.{◌↔◌, IsTrue}
use Rattle.std.proofs.lemmas.Bool.{cases_lt}
use Rattle.std.proofs.lemmas.Bool.Decides.{eqb_tells}
use Rattle.delivery_token.specs.Keys.{AtLeast}
use Rattle.delivery_token.specs.declared.CopyKey.{CopyKey}
use Rattle.delivery_token.specs.declared.log.Noted.{Noted}
use Rattle.delivery_core.specs.Changes.{SameDelivery}
use Rattle.delivery_core.specs.DeliveryCore.{DeliveryCore, notes_of}
use Rattle.delivery_core.specs.Stands as core
use Rattle.delivery_core.proofs.Follow.{get_or-any}
use Rattle.house.specs.Setup.{Setup, session_seat}
use Rattle.imap_session.specs.Exchange.{Answer, Sent, Standing}
use Rattle.imap_session.specs.Exchange as calls
use Rattle.house.specs.declared.core_store.CoreStore.{CoreStore}
use Rattle.house.specs.CoreStore.{Serves}
use Rattle.house.specs.Meets.{Meets}
use Rattle.house.proofs.Served.{IsServing, carries}
use Rattle.shard_queue.specs.Lane.{set_at}
use Rattle.shard_queue.proofs.AtLaws.{set_at-same}
use Rattle.house_peers.specs.Visitor as seated
use Rattle.house_peers.specs.Visitor.{GoesOn, SeatedVisitor, sent_by}
use Rattle.house_peers.specs.SeatedSession.{SeatedSession, StandsForSeated, key_with}
use Rattle.house.specs.inner.Printing.{WentOn}
use Rattle.house.specs.Printing.{Speaks}
use Rattle.house.proofs.Carried.{speaks_carried}
use Rattle.world.specs.World.{World}
use Rattle.house.specs.House.{House}
use Rattle.house.specs.Scene.{Lingers, Parts, Scene, SessionGoes, SessionTalks, fades, lingers, parts, remains, talks, waits}
use Rattle.house.specs.Stands.{StandsFor, StandsForPlace, StandsForVisit, first_of}
use Rattle.house.specs.Steps.{IsNoPlace}
use Rattle.house.specs.inner.Steps.{HasLingered, PlaceTalked, PlaceVisited, StandsForSomebody}
use Rattle.house.proofs.Callers.{at_there, later_connection}
use Rattle.house.proofs.Seats.{heard_is, place_kept, seat_kept, seat_within}

pub delivery_then : (a b c : DeliveryCore) → SameDelivery a b → SameDelivery b c → SameDelivery a c
delivery_then a b c p q = record { lanes = q.lanes ∙ p.lanes; hands = q.hands ∙ p.hands; replies = q.replies ∙ p.replies; heard = q.heard ∙ p.heard; next = q.next ∙ p.next }

-- ---- one that talks

-- the session went on over the store, and so it did in the world
record Went (k : Setup) (whole : Bool) (place number : ℕ) (heard : List Noted) (b after : SeatedVisitor) (w : World) (store : CoreStore) (printed : List ℕ) : Type 0 where
  pub mid : World
  pub speaks : Speaks (Meets k.config place) whole (session_seat k place) number heard b w mid after printed
  pub serving : IsServing k.config place store mid

went : (k : Setup) (whole : Bool) (place number : ℕ) (heard : List Noted) (b after : SeatedVisitor) (old new : CoreStore) (printed : List ℕ) (w : World) → Speaks Serves whole (session_seat k place) number heard b old new after printed → old.session ≡ place
    → core.StandsFor k.config old.core w → Went k whole place number heard b after w new printed
went k whole place number heard b after old new printed w s at stands =
    let c = speaks_carried Serves (λ w call answer v. Meets k.config place w call answer v) (IsServing k.config place) (carries k.config place) whole (session_seat k place) number heard b old new after printed w s (record { session = at; stands = stands }) in
    record { mid = c.0; speaks = c.1; serving = c.2 }

-- whether it has ended is what its seat says
ended_is : (seat : ℕ) (next : CopyKey) (heard : List Noted) (p : SeatedSession) (v : SeatedVisitor) → StandsForSeated seat next heard p v → p.gone ≡ false → p.place.link.session.ended ≡ v.session.standing.ended
ended_is seat next heard p v s live = ap (λ (x : Standing). x.ended) (s.place live).connection.session

-- it remains at its place
pub talked : (k : Setup) (whole : Bool) (number : ℕ) (next : CopyKey) (heard : List Noted) (b : SeatedVisitor) (old new : CoreStore) (w : World) (p : SeatedSession) (before after : List ℕ) → 0 < number → old.session ≡ number - 1 → core.StandsFor k.config old.core w
    → WentOn Serves whole (session_seat k (number - 1)) number next heard b old new before after p → p.gone ≡ false → (whole ≡ true → p.place.link.session.ended ≡ false)
    → PlaceTalked k whole (number - 1) next heard w b (Some p) new.core before after
talked k whole number next heard b old new w p before after some at stands o there live =
    let g = went k whole (number - 1) number heard b o.after old new o.printed w o.speaks at stands in
    let counted : number ≡ (number - 1) + 1 = omega (arith, some) in
    record {
      left = Some o.after;
      moved = g.mid;
      printed = o.printed;
      goes = record {
        after = o.after;
        mid = g.mid;
        speaks = subst (λ (n : ℕ). Speaks (Meets k.config (number - 1)) whole (session_seat k (number - 1)) n heard b w g.mid o.after o.printed) counted g.speaks;
        all = o.all;
        left = remains (λ h e. absurd (let f = live h in let q = ended_is (session_seat k (number - 1)) next heard p o.after o.stands there in let r = e in cc)) refl refl;
      };
      there = o.stands;
      core = g.serving.stands;
      out = o.out;
    }

-- it has parted, and left its mailbox
pub parted : (k : Setup) (number : ℕ) (next : CopyKey) (heard : List Noted) (b : SeatedVisitor) (old mid new : CoreStore) (answer : Answer) (w : World) (p : SeatedSession) (before after : List ℕ) → 0 < number → old.session ≡ number - 1 → core.StandsFor k.config old.core w
    → WentOn Serves true (session_seat k (number - 1)) number next heard b old mid before after p → p.gone ≡ false → p.place.link.session.ended ≡ true → Serves mid (calls.Leave false) answer new
    → PlaceTalked k true (number - 1) next heard w b None new.core before after
parted k number next heard b old mid new answer w p before after some at stands o there over leaves =
    let g = went k true (number - 1) number heard b o.after old mid o.printed w o.speaks at stands in
    let counted : number ≡ (number - 1) + 1 = omega (arith, some) in
    let gone = carries k.config (number - 1) mid new (calls.Leave false) answer g.mid leaves g.serving in
    record {
      left = None;
      moved = gone.0;
      printed = o.printed;
      goes = record {
        after = o.after;
        mid = g.mid;
        speaks = subst (λ (n : ℕ). Speaks (Meets k.config (number - 1)) true (session_seat k (number - 1)) n heard b w g.mid o.after o.printed) counted g.speaks;
        all = o.all;
        left = parts (sym (ended_is (session_seat k (number - 1)) next heard p o.after o.stands there) ∙ over) (o.all refl).said (answer, gone.1) refl;
      };
      there = tt;
      core = gone.2.stands;
      out = o.out;
    }

-- ---- one that may be gone

-- one that talks went on
pub visited_there : (k : Setup) (whole : Bool) (place : ℕ) (next : CopyKey) (heard : List Noted) (w : World) (b : SeatedVisitor) (p : Option SeatedSession) (new : DeliveryCore) (before after : List ℕ) → b.gone ≡ false → PlaceTalked k whole place next heard w b p new before after
    → PlaceVisited k whole place next heard w b p new before after
visited_there k whole place next heard w b p new before after there m = record { left = m.left; moved = m.moved; printed = m.printed; goes = talks there m.goes; there = m.there; core = m.core; out = m.out }

-- one whose client is gone lingered
pub visited_gone : (k : Setup) (place : ℕ) (next : CopyKey) (heard : List Noted) (w : World) (b : SeatedVisitor) (p : Option SeatedSession) (c : DeliveryCore) (text : List ℕ) → b.gone ≡ true → core.StandsFor k.config c w → HasLingered (session_seat k place) next heard b p
    → PlaceVisited k true place next heard w b p c text text
visited_gone k place next heard w b p c text gone stands l = record { left = l.left; moved = w; printed = []; goes = lingers gone l.lingers refl refl; there = l.there; core = stands; out = sym (append-nil text) }

-- ---- serials

same_serial : (a b : SeatedVisitor) → Some a ≡ Some b → a.serial ≡ b.serial
same_serial a b e = let x : a ≡ b = cc in ap (λ (v : SeatedVisitor). v.serial) x

spoken_serial : {S : Type 0} (step : S → calls.Call → Answer → S → Type 0) (whole : Bool) (seat : ℕ) (heard : List Noted) (a : SeatedVisitor) (old new : S) (after : SeatedVisitor) (said : List ℕ) → GoesOn step whole seat heard a old new after said → after.serial ≡ a.serial
spoken_serial step whole seat heard a old new after said (seated.works n w) = ap (λ (v : SeatedVisitor). v.serial) w.is
spoken_serial step whole seat heard a old new after said (seated.answers verdict mid first second how next still known b w e) = ap (λ (v : SeatedVisitor). v.serial) w.is
spoken_serial step whole seat heard a old new after said (seated.waits x n e f) = ap (λ (v : SeatedVisitor). v.serial) e
spoken_serial step whole seat heard a old new after said (seated.rests x n e f) = ap (λ (v : SeatedVisitor). v.serial) e
spoken_serial step whole seat heard a old new after said (seated.stalls x n e f) = ap (λ (v : SeatedVisitor). v.serial) e

pub parts_serial : (k : Setup) (whole : Bool) (place : ℕ) (after : SeatedVisitor) (w v : World) (o : Option SeatedVisitor) (b : SeatedVisitor) → Parts k whole place after w v o → o ≡ Some b → b.serial ≡ after.serial
parts_serial k whole place after w v o b (parts e u l n) f = absurd (let x : None ≡ Some b = sym n ∙ f in cc)
parts_serial k whole place after w v o b (remains r e n) f = same_serial b after (sym f ∙ n)

pub talks_serial : (k : Setup) (whole : Bool) (place : ℕ) (heard : List Noted) (w : World) (a : SeatedVisitor) (v : World) (o : Option SeatedVisitor) (printed : List ℕ) (b : SeatedVisitor) → SessionTalks k whole place heard w a v o printed → o ≡ Some b → b.serial ≡ a.serial
talks_serial k whole place heard w a v o printed b t e =
    parts_serial k whole place t.after t.mid v o b t.left e ∙ ap (λ (x : SeatedVisitor). x.serial) t.speaks.is ∙ spoken_serial (Meets k.config place) whole (session_seat k place) heard a w t.mid t.speaks.spoken t.speaks.said t.speaks.goes

pub lingers_serial : (seat : ℕ) (heard : List Noted) (a : SeatedVisitor) (o : Option SeatedVisitor) (b : SeatedVisitor) → Lingers seat heard a o → o ≡ Some b → b.serial ≡ a.serial
lingers_serial seat heard a o b (waits x e) f = same_serial b a (sym f ∙ e)
lingers_serial seat heard a o b (fades x e) f = absurd (let y : None ≡ Some b = sym e ∙ f in cc)

pub goes_serial : (k : Setup) (whole : Bool) (place : ℕ) (heard : List Noted) (w : World) (a : SeatedVisitor) (v : World) (o : Option SeatedVisitor) (printed : List ℕ) (b : SeatedVisitor) → SessionGoes k whole place heard w a v o printed → o ≡ Some b → b.serial ≡ a.serial
goes_serial k whole place heard w a v o printed b (talks l t) e = talks_serial k whole place heard w a v o printed b t e
goes_serial k whole place heard w a v o printed b (lingers l t n p) e = lingers_serial (session_seat k place) heard a o b t e

-- ---- who is left at a place

later_session : (next : CopyKey) (seat serial number : ℕ) (sent : Option Sent) (slots : List _) (serials : ℕ) → AtLeast next (key_with seat serial number sent slots) → serial < serials → AtLeast next (first_of seat serials)
later_session next seat serial number None slots serials a l = later_connection next seat serial number 0 serials a l
later_session next seat serial number (Some sent) slots serials a l = later_connection next seat serial sent.append.message (length slots) serials a l

pub who_stays : (seat : ℕ) (next : CopyKey) (heard : List Noted) (serials : ℕ) (l : Option SeatedSession) (o : Option SeatedVisitor) (p : SeatedSession) (a : SeatedVisitor) → StandsForSomebody seat next heard l o → StandsForSeated seat next heard p a → a.serial < serials
    → ((b : SeatedVisitor) → o ≡ Some b → b.serial ≡ a.serial) → StandsForVisit seat next heard serials l o
who_stays seat next heard serials None None p a m s lt same = later_session next seat a.serial a.session.standing.mailing.number (sent_by a) p.slots serials s.ahead lt
who_stays seat next heard serials None (Some b) p a m s lt same = m
who_stays seat next heard serials (Some g) None p a m s lt same = m
who_stays seat next heard serials (Some g) (Some b) p a m s lt same = (m, let e = same b refl in omega (arith, e, lt))

-- ---- the whole house

-- the house after one of its sessions went on, with the delivery side and the serials that it has then
abbrev pub with_visits : House → DeliveryCore → ℕ → Option SeatedSession → List ℕ → House
with_visits h c place q entered = record { core = c; callers = h.callers; serials = h.serials; visitors = set h.visitors place q; entered = entered; directory = h.directory; host = h.host; max_message = h.max_message; compatible = h.compatible }

-- the scene then
abbrev pub visited_scene : Scene → World → ℕ → Option SeatedVisitor → (ℕ → ℕ) → Scene
visited_scene s v place o numbers = record { world = v; caller = s.caller; next = s.next; visitor = set_at s.visitor place o; entered = numbers; shut = s.shut }

pub after_visiting : (k : Setup) (h : House) (c : DeliveryCore) (entered : List ℕ) (s : Scene) (v : World) (numbers : ℕ → ℕ) (place : ℕ) (y : CopyKey) (l : Option SeatedSession) (o : Option SeatedVisitor)
    → StandsFor k h s → core.StandsFor k.config c v → place < length h.visitors
    → ((q : ℕ) → q ≢ session_seat k place → notes_of c q ≡ notes_of h.core q) → ((q : ℕ) (z : CopyKey) → q ≢ session_seat k place → get_or c.next q z ≡ get_or h.core.next q z)
    → length entered ≡ length h.entered → ((n : ℕ) → get_or entered place n ≡ numbers place) → ((q n : ℕ) → q ≢ place → get_or entered q n ≡ get_or h.entered q n) → ((q : ℕ) → q ≢ place → numbers q ≡ s.entered q)
    → StandsForVisit (session_seat k place) (get_or c.next (session_seat k place) y) (v.heard (session_seat k place)) (numbers place) l o
    → StandsFor k (with_visits h c place l entered) (visited_scene s v place o numbers)
after_visiting k h c entered s v numbers place y l o st cs lt notes nexts len here there other one = record {
  core = cs;
  directory = st.directory;
  host = st.host;
  max_message = st.max_message;
  compatible = st.compatible;
  homes = st.homes;
  marks = st.marks;
  shards = st.shards;
  some_shard = st.some_shard;
  seats = let e = length-set h.visitors place l in let f = st.seats in omega (arith, e, f);
  connections = st.connections;
  numbers = st.numbers;
  each = λ q z n d m.
      let away : q ≢ session_seat k place = λ e. let b = st.connections in absurd (omega (arith, m, e, b)) in
      let lk : q < k.config.seats = let f = st.seats in omega (arith, m, f) in
      seat_kept k s (visited_scene s v place o numbers) q (get_or h.core.next q z) (get_or c.next q z) (get_or h.serials q n) (get_or h.serials q n) (get_or h.callers q d) (get_or h.callers q d) (st.each q z n d m)
      (nexts q z away) refl refl (sym (heard_is k.config c v cs q lk) ∙ notes q away ∙ heard_is k.config h.core s.world st.core q lk) refl refl refl;
  places = length-set h.visitors place l ∙ st.places;
  entries = len ∙ st.entries;
  visitors = λ q z n d m. at q z n d m (eqb_tells q place);
}
  where
    in_next : session_seat k place < length c.next
    in_next = let e = cs.nexts in let f = seat_within k h s place st lt in omega (arith, e, f)

    at_place : (z : CopyKey) (n : ℕ) (d : Option SeatedSession) → StandsForPlace k (visited_scene s v place o numbers) place (get_or c.next (session_seat k place) z) (get_or entered place n) (get_or (set h.visitors place l) place d)
    at_place z n d = record {
      counted = here n;
      who = subst (λ (x : CopyKey). StandsForVisit (session_seat k place) x (v.heard (session_seat k place)) (numbers place) (get_or (set h.visitors place l) place d) (set_at s.visitor place o place)) (get_or-any c.next (session_seat k place) y z in_next)
          (subst (λ (x : Option SeatedSession). StandsForVisit (session_seat k place) (get_or c.next (session_seat k place) y) (v.heard (session_seat k place)) (numbers place) x (set_at s.visitor place o place)) (sym (get_or-set_same h.visitors place l d lt))
          (subst (λ (x : Option SeatedVisitor). StandsForVisit (session_seat k place) (get_or c.next (session_seat k place) y) (v.heard (session_seat k place)) (numbers place) l x) (sym (set_at-same s.visitor place o)) one));
    }

    elsewhere : (q : ℕ) (z : CopyKey) (n : ℕ) (d : Option SeatedSession) → q < length h.visitors → q ≢ place
        → StandsForPlace k (visited_scene s v place o numbers) q (get_or c.next (session_seat k q) z) (get_or entered q n) (get_or (set h.visitors place l) q d)
    elsewhere q z n d m ne =
        let away : session_seat k q ≢ session_seat k place = λ e. ne (omega (arith, e)) in
        let lk : session_seat k q < k.config.seats = seat_within k h s q st m in
        place_kept k s (visited_scene s v place o numbers) q (get_or h.core.next (session_seat k q) z) (get_or c.next (session_seat k q) z) (get_or h.entered q n) (get_or entered q n) (get_or h.visitors q d) (get_or (set h.visitors place l) q d) (st.visitors q z n d m)
        (nexts (session_seat k q) z away) (there q n ne) (get_or-set_other h.visitors place q l d ne)
        (sym (heard_is k.config c v cs (session_seat k q) lk) ∙ notes (session_seat k q) away ∙ heard_is k.config h.core s.world st.core (session_seat k q) lk) (at_there s.visitor place o q ne) (other q ne)

    at : (q : ℕ) (z : CopyKey) (n : ℕ) (d : Option SeatedSession) → q < length (set h.visitors place l) → ((eqb q place ≡ true) × (q ≡ place)) ⊎ ((eqb q place ≡ false) × (q ≢ place))
        → StandsForPlace k (visited_scene s v place o numbers) q (get_or c.next (session_seat k q) z) (get_or entered q n) (get_or (set h.visitors place l) q d)
    at q z n d m (inl (b, e)) =
        subst (λ (x : ℕ). StandsForPlace k (visited_scene s v place o numbers) x (get_or c.next (session_seat k x) z) (get_or entered x n) (get_or (set h.visitors place l) x d)) (sym e) (at_place z n d)
    at q z n d m (inr (b, ne)) = elsewhere q z n d (let e = length-set h.visitors place l in omega (arith, e, m)) ne

-- the same where nothing was put and nothing was heard
pub visit_stands : (k : Setup) (h : House) (c : DeliveryCore) (entered : List ℕ) (s : Scene) (v : World) (numbers : ℕ → ℕ) (place : ℕ) (y : CopyKey) (l : Option SeatedSession) (o : Option SeatedVisitor)
    → StandsFor k h s → core.StandsFor k.config c v → SameDelivery h.core c → place < length h.visitors
    → length entered ≡ length h.entered → ((n : ℕ) → get_or entered place n ≡ numbers place) → ((q n : ℕ) → q ≢ place → get_or entered q n ≡ get_or h.entered q n) → ((q : ℕ) → q ≢ place → numbers q ≡ s.entered q)
    → StandsForVisit (session_seat k place) (get_or h.core.next (session_seat k place) y) (s.world.heard (session_seat k place)) (numbers place) l o
    → StandsFor k (with_visits h c place l entered) (visited_scene s v place o numbers)
visit_stands k h c entered s v numbers place y l o st cs rest lt len here there other one =
    let seat : ℕ = session_seat k place in
    let lk : seat < k.config.seats = seat_within k h s place st lt in
    after_visiting k h c entered s v numbers place y l o st cs lt (λ q ne. noted rest q) (λ q z ne. ap (λ (ks : List CopyKey). get_or ks q z) rest.next) len here there other
    (subst (λ (z : CopyKey). StandsForVisit seat z (v.heard seat) (numbers place) l o) (sym (ap (λ (ks : List CopyKey). get_or ks seat y) rest.next))
    (subst (λ (x : List Noted). StandsForVisit seat (get_or h.core.next seat y) x (numbers place) l o) (sym (sym (heard_is k.config c v cs seat lk) ∙ noted rest seat ∙ heard_is k.config h.core s.world st.core seat lk)) one))
  where
    noted : SameDelivery h.core c → (q : ℕ) → notes_of c q ≡ notes_of h.core q
    noted rest q = ap (λ (bs : List _). notes_of (record h.core { heard = bs }) q) rest.heard

-- ---- who is there

-- a session of the scene, where a seat stands at a place
pub record IsAtPlace (k : Setup) (s : Scene) (place : ℕ) (next : CopyKey) (p : SeatedSession) : Type 0 where
  pub visitor : SeatedVisitor
  pub here : s.visitor place ≡ Some visitor
  pub stands : StandsForSeated (session_seat k place) next (s.world.heard (session_seat k place)) p visitor
  pub serial : visitor.serial < s.entered place

is_at : (k : Setup) (s : Scene) (place : ℕ) (next : CopyKey) (p : SeatedSession) (o : Option SeatedVisitor) → s.visitor place ≡ o → StandsForVisit (session_seat k place) next (s.world.heard (session_seat k place)) (s.entered place) (Some p) o → IsAtPlace k s place next p
is_at k s place next p None e w = absurd w
is_at k s place next p (Some b) e w = record { visitor = b; here = e; stands = w.0; serial = w.1 }

pub at_place : (k : Setup) (h : House) (s : Scene) (place : ℕ) (y : CopyKey) (p : SeatedSession) → StandsFor k h s → place < length h.visitors → get_or h.visitors place None ≡ Some p → IsAtPlace k s place (get_or h.core.next (session_seat k place) y) p
at_place k h s place y p st lt e =
    let w = (st.visitors place y 0 None lt).who in
    is_at k s place (get_or h.core.next (session_seat k place) y) p (s.visitor place) refl
    (subst (λ (x : Option SeatedSession). StandsForVisit (session_seat k place) (get_or h.core.next (session_seat k place) y) (s.world.heard (session_seat k place)) (s.entered place) x (s.visitor place)) e w)

-- there is such a session, where the test says so
pub has_place : (h : House) (session : ℕ) (b : Bool) → (IsTrue b) ↔ IsNoPlace h session → b ≡ false → (0 < session) × (session ≤ length h.visitors)
has_place h zero b iff e = absurd (let t : b ≡ true = iff.1 (inl refl) in cc)
has_place h (suc n) b iff e = elim (cases_lt (length h.visitors) (suc n)) [
  | inl l ↦ absurd (let t : b ≡ true = iff.1 (inr l) in cc)
  | inr l ↦ (omega arith, l)
]
