-- A house after a change: the seats that were not touched stand as they stood.
use Rattle.std.proofs.Common.{◌≡◌, ℕ, ◌<◌, Bool, List, [], ◌∷◌, length, map, refl, ap, sym, ◌∙◌, subst, arith, Option, get_or}
use Rattle.std.proofs.lemmas.List.{get_or-map}
use Rattle.delivery_token.specs.declared.CopyKey.{CopyKey}
use Rattle.delivery_token.specs.declared.log.Noted.{Noted}
use Rattle.delivery_token.specs.WorkerLog.{WorkerLog}
use Rattle.world.specs.World.{Config, World, Step, Steps}
use Rattle.world.specs.World as world
use Rattle.delivery_core.specs.DeliveryCore.{DeliveryCore, notes_of}
use Rattle.delivery_core.specs.Stands as core
use Rattle.house_peers.specs.HouseConnection.{HouseConnection}
use Rattle.house.specs.House.{House}
use Rattle.house_peers.specs.Caller.{Caller}
use Rattle.house_peers.specs.Visitor.{SeatedVisitor}
use Rattle.house_peers.specs.SeatedSession.{SeatedSession}
use Rattle.house.specs.Setup.{Setup, session_seat, terms_of}
use Rattle.house.specs.Scene.{Scene, with_world}
use Rattle.house.specs.Stands.{StandsFor, StandsForOne, StandsForPlace, StandsForSeat, StandsForVisit}

-- what the world says that a seat has heard is what it noted
pub heard_is : (k : Config) (h : DeliveryCore) (w : World) → core.StandsFor k h w → (p : ℕ) → p < k.seats → notes_of h p ≡ w.heard p
heard_is k h w s p l =
    let d : WorkerLog = record { seat = 0; notes = []; spare = 0 } in
    let m : p < length h.heard = let e = s.hearing in omega (arith, l, e) in
    get_or-map (λ (b : WorkerLog). b.notes) h.heard p d [] m ∙ s.heard p d m

-- a seat stands as it stood, where all that is said of it is the same
pub seat_kept : (k : Setup) (s t : Scene) (q : ℕ) (y z : CopyKey) (n m : ℕ) (l o : Option HouseConnection) → StandsForSeat k s q y n l
    → z ≡ y → m ≡ n → o ≡ l → t.world.heard q ≡ s.world.heard q → t.caller q ≡ s.caller q → t.next q ≡ s.next q → t.shut ≡ s.shut → StandsForSeat k t q z m o
seat_kept k s t q y z n m l o h ey en el eh ec ex es = record {
  counted = en ∙ h.counted ∙ sym ex;
  who = subst (λ (v : List Bool). StandsForOne (terms_of k v) q z (t.world.heard q) (t.next q) o (t.caller q)) (sym es)
      (subst (λ (v : CopyKey). StandsForOne (terms_of k s.shut) q v (t.world.heard q) (t.next q) o (t.caller q)) (sym ey)
      (subst (λ (v : List Noted). StandsForOne (terms_of k s.shut) q y v (t.next q) o (t.caller q)) (sym eh)
      (subst (λ (v : ℕ). StandsForOne (terms_of k s.shut) q y (s.world.heard q) v o (t.caller q)) (sym ex)
      (subst (λ (v : Option HouseConnection). StandsForOne (terms_of k s.shut) q y (s.world.heard q) (s.next q) v (t.caller q)) (sym el)
      (subst (λ (v : Option Caller). StandsForOne (terms_of k s.shut) q y (s.world.heard q) (s.next q) l v) (sym ec) h.who)))));
}

-- so does a session's place
pub place_kept : (k : Setup) (s t : Scene) (q : ℕ) (y z : CopyKey) (n m : ℕ) (l o : Option SeatedSession) → StandsForPlace k s q y n l
    → z ≡ y → m ≡ n → o ≡ l → t.world.heard (session_seat k q) ≡ s.world.heard (session_seat k q) → t.visitor q ≡ s.visitor q → t.entered q ≡ s.entered q → StandsForPlace k t q z m o
place_kept k s t q y z n m l o h ey en el eh ec ex = record {
  counted = en ∙ h.counted ∙ sym ex;
  who = subst (λ (v : CopyKey). StandsForVisit (session_seat k q) v (t.world.heard (session_seat k q)) (t.entered q) o (t.visitor q)) (sym ey)
      (subst (λ (v : List Noted). StandsForVisit (session_seat k q) y v (t.entered q) o (t.visitor q)) (sym eh)
      (subst (λ (v : ℕ). StandsForVisit (session_seat k q) y (s.world.heard (session_seat k q)) v o (t.visitor q)) (sym ex)
      (subst (λ (v : Option SeatedSession). StandsForVisit (session_seat k q) y (s.world.heard (session_seat k q)) (s.entered q) v (t.visitor q)) (sym el)
      (subst (λ (v : Option SeatedVisitor). StandsForVisit (session_seat k q) y (s.world.heard (session_seat k q)) (s.entered q) l v) (sym ec) h.who))));
}

-- a session's seat is among the seats, behind those of connections
pub seat_within : (k : Setup) (h : House) (s : Scene) (q : ℕ) → StandsFor k h s → q < length h.visitors → session_seat k q < k.config.seats
seat_within k h s q st l = let a = st.seats in let b = st.connections in omega (arith, l, a, b)

pub seat_behind : (k : Setup) (h : House) (s : Scene) (seat q : ℕ) → StandsFor k h s → seat < length h.callers → session_seat k q ≡ seat → ⊥
seat_behind k h s seat q st l e = let b = st.connections in omega (arith, l, e, b)

-- one step of the world
pub one_step : (k : Config) (w v : World) (e : world.Event) → Steps k w (e ∷ []) v → Step k w e v
one_step k w v e s = subst (λ (x : World). Step k w e x) (sym s.2) s.1

-- the delivery side made an event of which no seat hears
pub moved : (k : Setup) (h : House) (c : DeliveryCore) (s : Scene) (v : World) → StandsFor k h s → core.StandsFor k.config c v → c.heard ≡ h.core.heard → c.next ≡ h.core.next
    → StandsFor k (record { core = c; callers = h.callers; serials = h.serials; visitors = h.visitors; entered = h.entered; directory = h.directory; host = h.host; max_message = h.max_message; compatible = h.compatible }) (with_world s v)
moved k h c s v st cs eh en = record {
  core = cs;
  directory = st.directory;
  host = st.host;
  max_message = st.max_message;
  compatible = st.compatible;
  homes = st.homes;
  marks = st.marks;
  shards = st.shards;
  some_shard = st.some_shard;
  seats = st.seats;
  connections = st.connections;
  numbers = st.numbers;
  each = λ q y n d l.
      let lt : q < k.config.seats = let e = st.seats in omega (arith, l, e) in
      seat_kept k s (with_world s v) q (get_or h.core.next q y) (get_or c.next q y) (get_or h.serials q n) (get_or h.serials q n) (get_or h.callers q d) (get_or h.callers q d) (st.each q y n d l)
      (ap (λ (ks : List CopyKey). get_or ks q y) en) refl refl
      (sym (heard_is k.config c v cs q lt) ∙ ap (λ (bs : List WorkerLog). get_or (map (λ (b : WorkerLog). b.notes) bs) q []) eh ∙ heard_is k.config h.core s.world st.core q lt) refl refl refl;
  places = st.places;
  entries = st.entries;
  visitors = λ q y n d l.
      let lt : session_seat k q < k.config.seats = seat_within k h s q st l in
      place_kept k s (with_world s v) q (get_or h.core.next (session_seat k q) y) (get_or c.next (session_seat k q) y) (get_or h.entered q n) (get_or h.entered q n) (get_or h.visitors q d) (get_or h.visitors q d) (st.visitors q y n d l)
      (ap (λ (ks : List CopyKey). get_or ks (session_seat k q) y) en) refl refl
      (sym (heard_is k.config c v cs (session_seat k q) lt) ∙ ap (λ (bs : List WorkerLog). get_or (map (λ (b : WorkerLog). b.notes) bs) (session_seat k q) []) eh ∙ heard_is k.config h.core s.world st.core (session_seat k q) lt) refl refl;
}
