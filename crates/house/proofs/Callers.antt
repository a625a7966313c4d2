-- A house whose caller at one seat went on: that seat stands for who is left there, and the others stand as they stood.
use Rattle.std.proofs.Common.{◌≡◌, ◌≢◌, ℕ, ◌<◌, ◌⊎◌, inl, inr, Bool, true, false, eqb, List, length, refl, ap, sym, ◌∙◌, subst, arith, Option, Some, None, get_or, set, length-set, get_or-set_other, get_or-set_same}
use Rattle.std.proofs.lemmas.Bool.Decides.{eqb_tells}
use Rattle.delivery_token.specs.Keys.{Below, AtLeast}
use Rattle.delivery_token.specs.declared.CopyKey.{CopyKey}
use Rattle.delivery_token.specs.declared.log.Noted.{Noted}
use Rattle.shard_queue.specs.Lane.{set_at}
use Rattle.shard_queue.proofs.AtLaws.{at_cases, set_at-same}
use Rattle.world.specs.World.{World}
use Rattle.delivery_core.specs.DeliveryCore.{DeliveryCore, notes_of}
use Rattle.delivery_core.specs.Stands as core
use Rattle.delivery_core.proofs.Follow.{get_or-any}
use Rattle.lmtp_machine.specs.declared.connection.What.{What}
use Rattle.lmtp_machine.specs.Dialogue.{Answered}
use Rattle.house_peers.specs.HouseConnection.{HouseConnection}
use Rattle.house.specs.House.{House}
use Rattle.house_peers.specs.Caller.{Caller, GoesOn, Proceeds, Terms, Works, answers, fades, lingers, stalls, talks, waits, with_unsaid, works}
use Rattle.house_peers.specs.inner.Meeting.{meets}
use Rattle.house.specs.Printing.{ConnectionGoes, Leaves, goes, stays}
use Rattle.house.specs.Setup.{Setup, terms_of, session_seat}
use Rattle.house.specs.Scene.{Scene}
use Rattle.house_peers.specs.ConnectionStands.{StandsForConnection}
use Rattle.house.specs.Stands.{StandsFor, StandsForOne, StandsForSeat}
use Rattle.house.specs.inner.Steps.{CallerWentOn, StandsForMaybe}
use Rattle.house.proofs.Seats.{heard_is, place_kept, seat_behind, seat_kept, seat_within}

pub at_there : {A : Type 0} (f : ℕ → A) (i : ℕ) (x : A) (j : ℕ) → j ≢ i → set_at f i x j ≡ f j
at_there {A} f i x j n = at_cases (λ (v : A). v ≡ f j) f i x j (λ e. absurd (n e)) (λ _. refl)

-- ---- who goes on keeps its serial

same_serial : (a b : Caller) → Some a ≡ Some b → a.serial ≡ b.serial
same_serial a b e = let x : a ≡ b = cc in ap (λ (v : Caller). v.serial) x

works_serial : (k : Terms) (whole : Bool) (seat : ℕ) (a : Caller) (what : What) (after : Caller) → Works k whole seat a what after → after.serial ≡ a.serial
works_serial k whole seat a what after w = ap (λ (v : Caller). v.serial) w.is

goes_serial : (k : Terms) (whole : Bool) (seat : ℕ) (heard : List Noted) (a : Caller) (what : What) (after : Caller) → GoesOn k whole seat heard a what after → after.serial ≡ a.serial
goes_serial k whole seat heard a what after (works p w) = works_serial k whole seat a what after w
goes_serial k whole seat heard a what after (waits m n f e) = ap (λ (v : Caller). v.serial) e
goes_serial k whole seat heard a what after (answers vs m n w) = works_serial k whole seat (meets k seat a (Answered vs)) what after w
goes_serial k whole seat heard a what after (stalls w f e) = ap (λ (v : Caller). v.serial) e

pub does_serial : (k : Terms) (whole : Bool) (seat : ℕ) (heard : List Noted) (a : Caller) (what : What) (after : Caller) → Proceeds k whole seat heard a what after → after.serial ≡ a.serial
does_serial k whole seat heard a what after (talks l g) = goes_serial k whole seat heard a what after g
does_serial k whole seat heard a what after (lingers g u n f e) = ap (λ (v : Caller). v.serial) e
does_serial k whole seat heard a what after (fades vs g u n f e) = ap (λ (v : Caller). v.serial) e

leaves_serial : (whole : Bool) (what : What) (after : Caller) (o : Option Caller) (b : Caller) → Leaves whole what after o → o ≡ Some b → b.serial ≡ after.serial
leaves_serial whole what after o b (goes q u e) f = absurd (let x : None ≡ Some b = sym e ∙ f in cc)
leaves_serial whole what after o b (stays q g e) f = same_serial b after (sym f ∙ e)

proceeds_serial : (k : Terms) (whole : Bool) (seat : ℕ) (heard : List Noted) (a : Caller) (o : Option Caller) (printed : List ℕ) (b : Caller) → ConnectionGoes k whole seat heard a o printed → o ≡ Some b → b.serial ≡ a.serial
proceeds_serial k whole seat heard a o printed b g e = leaves_serial whole g.what (with_unsaid g.still g.after) o b g.leaves e ∙ does_serial k whole seat heard a g.what g.after g.proceeds

-- ---- the seat itself

earlier : (y : CopyKey) (seat s m i n : ℕ) → Below y (record { seat = seat; serial = s; message = m; recipient = i }) → s < n → Below y (record { seat = seat; serial = n; message = 0; recipient = 0 })
earlier y seat s m i n (inl h) l = inl (omega (arith, h))
earlier y seat s m i n (inr h) l = inl (omega (arith, h.0))

-- a later connection's first key comes later
pub later_connection : (y : CopyKey) (seat s m i n : ℕ) → AtLeast y (record { seat = seat; serial = s; message = m; recipient = i }) → s < n → AtLeast y (record { seat = seat; serial = n; message = 0; recipient = 0 })
later_connection y seat s m i n (inl e) l = inr (subst (λ (z : CopyKey). Below z (record { seat = seat; serial = n; message = 0; recipient = 0 })) (sym e) (inl l))
later_connection y seat s m i n (inr h) l = inr (earlier y seat s m i n h l)

who_is_left : (k : Terms) (seat : ℕ) (next : CopyKey) (heard : List Noted) (serials : ℕ) (l : Option HouseConnection) (o : Option Caller) (h : HouseConnection) (a : Caller) → StandsForMaybe k seat next heard l o
    → StandsForConnection k seat next heard h a → a.serial < serials → ((b : Caller) → o ≡ Some b → b.serial ≡ a.serial) → StandsForOne k seat next heard serials l o
who_is_left k seat next heard serials None None h a m s lt same = later_connection next seat a.serial s.message (length h.verdicts) serials s.ahead lt
who_is_left k seat next heard serials None (Some b) h a m s lt same = m
who_is_left k seat next heard serials (Some g) None h a m s lt same = m
who_is_left k seat next heard serials (Some g) (Some b) h a m s lt same = (m, let e = same b refl in omega (arith, e, lt))

-- ---- the whole house

-- the house after a caller went on at a seat, where the delivery side may have moved and a connection may have been opened
pub after_going : (k : Setup) (h : House) (c : DeliveryCore) (serials : List ℕ) (s : Scene) (v : World) (numbers : ℕ → ℕ) (seat : ℕ) (y : CopyKey) (l : Option HouseConnection) (g : HouseConnection) (a : Caller) (whole : Bool) (old new : List ℕ)
    → StandsFor k h s → core.StandsFor k.config c v → seat < length h.callers
    → ((q : ℕ) → q ≢ seat → notes_of c q ≡ notes_of h.core q) → ((q : ℕ) (z : CopyKey) → q ≢ seat → get_or c.next q z ≡ get_or h.core.next q z)
    → length serials ≡ length h.serials → ((n : ℕ) → get_or serials seat n ≡ numbers seat) → ((q n : ℕ) → q ≢ seat → get_or serials q n ≡ get_or h.serials q n) → ((q : ℕ) → q ≢ seat → numbers q ≡ s.next q)
    → StandsForConnection (terms_of k s.shut) seat (get_or c.next seat y) (v.heard seat) g a → a.serial < numbers seat
    → (w : CallerWentOn (terms_of k s.shut) whole seat (get_or c.next seat y) (v.heard seat) a l old new)
    → StandsFor k (record { core = c; callers = set h.callers seat l; serials = serials; visitors = h.visitors; entered = h.entered; directory = h.directory; host = h.host; max_message = h.max_message; compatible = h.compatible })
    (record { world = v; caller = set_at s.caller seat w.left; next = numbers; visitor = s.visitor; entered = s.entered; shut = s.shut })
after_going k h c serials s v numbers seat y l g a whole old new st cs lt notes nexts len here there other sa less w = record {
  core = cs;
  directory = st.directory;
  host = st.host;
  max_message = st.max_message;
  compatible = st.compatible;
  homes = st.homes;
  marks = st.marks;
  shards = st.shards;
  some_shard = st.some_shard;
  seats = let e = length-set h.callers seat l in let f = st.seats in omega (arith, e, f);
  connections = length-set h.callers seat l ∙ st.connections;
  numbers = len ∙ st.numbers;
  each = λ q z n d m. each_seat q z n d m (eqb_tells q seat);
  places = st.places;
  entries = st.entries;
  visitors = λ q z n d m.
      let away : session_seat k q ≢ seat = λ e. seat_behind k h s seat q st lt e in
      let lk : session_seat k q < k.config.seats = seat_within k h s q st m in
      place_kept k s (record { world = v; caller = set_at s.caller seat w.left; next = numbers; visitor = s.visitor; entered = s.entered; shut = s.shut }) q (get_or h.core.next (session_seat k q) z) (get_or c.next (session_seat k q) z)
      (get_or h.entered q n) (get_or h.entered q n) (get_or h.visitors q d) (get_or h.visitors q d) (st.visitors q z n d m)
      (nexts (session_seat k q) z away) refl refl (sym (heard_is k.config c v cs (session_seat k q) lk) ∙ notes (session_seat k q) away ∙ heard_is k.config h.core s.world st.core (session_seat k q) lk) refl refl;
}
  where
    in_next : seat < length c.next
    in_next = let e = cs.nexts in let f = st.seats in omega (arith, e, f, lt)

    one : StandsForOne (terms_of k s.shut) seat (get_or c.next seat y) (v.heard seat) (numbers seat) l w.left
    one = who_is_left (terms_of k s.shut) seat (get_or c.next seat y) (v.heard seat) (numbers seat) l w.left g a w.there sa less (λ b e. proceeds_serial (terms_of k s.shut) whole seat (v.heard seat) a w.left w.printed b w.goes e)

    at_seat : (z : CopyKey) (n : ℕ) (d : Option HouseConnection) → StandsForSeat k (record { world = v; caller = set_at s.caller seat w.left; next = numbers; visitor = s.visitor; entered = s.entered; shut = s.shut }) seat (get_or c.next seat z) (get_or serials seat n) (get_or (set h.callers seat l) seat d)
    at_seat z n d = record {
      counted = here n;
      who = subst (λ (x : CopyKey). StandsForOne (terms_of k s.shut) seat x (v.heard seat) (numbers seat) (get_or (set h.callers seat l) seat d) (set_at s.caller seat w.left seat)) (get_or-any c.next seat y z in_next)
          (subst (λ (x : Option HouseConnection). StandsForOne (terms_of k s.shut) seat (get_or c.next seat y) (v.heard seat) (numbers seat) x (set_at s.caller seat w.left seat)) (sym (get_or-set_same h.callers seat l d lt))
          (subst (λ (x : Option Caller). StandsForOne (terms_of k s.shut) seat (get_or c.next seat y) (v.heard seat) (numbers seat) l x) (sym (set_at-same s.caller seat w.left)) one));
    }

    elsewhere : (q : ℕ) (z : CopyKey) (n : ℕ) (d : Option HouseConnection) → q < length h.callers → q ≢ seat → StandsForSeat k (record { world = v; caller = set_at s.caller seat w.left; next = numbers; visitor = s.visitor; entered = s.entered; shut = s.shut }) q (get_or c.next q z) (get_or serials q n) (get_or (set h.callers seat l) q d)
    elsewhere q z n d m ne =
        let lk : q < k.config.seats = let e = st.seats in omega (arith, m, e) in
        seat_kept k s (record { world = v; caller = set_at s.caller seat w.left; next = numbers; visitor = s.visitor; entered = s.entered; shut = s.shut }) q (get_or h.core.next q z) (get_or c.next q z) (get_or h.serials q n) (get_or serials q n) (get_or h.callers q d) (get_or (set h.callers seat l) q d) (st.each q z n d m)
        (nexts q z ne) (there q n ne) (get_or-set_other h.callers seat q l d ne)
        (sym (heard_is k.config c v cs q lk) ∙ notes q ne ∙ heard_is k.config h.core s.world st.core q lk) (at_there s.caller seat w.left q ne) (other q ne) refl

    each_seat : (q : ℕ) (z : CopyKey) (n : ℕ) (d : Option HouseConnection) → q < length (set h.callers seat l) → ((eqb q seat ≡ true) × (q ≡ seat)) ⊎ ((eqb q seat ≡ false) × (q ≢ seat))
        → StandsForSeat k (record { world = v; caller = set_at s.caller seat w.left; next = numbers; visitor = s.visitor; entered = s.entered; shut = s.shut }) q (get_or c.next q z) (get_or serials q n) (get_or (set h.callers seat l) q d)
    each_seat q z n d m (inl (b, e)) = subst (λ (x : ℕ). StandsForSeat k (record { world = v; caller = set_at s.caller seat w.left; next = numbers; visitor = s.visitor; entered = s.entered; shut = s.shut }) x (get_or c.next x z) (get_or serials x n) (get_or (set h.callers seat l) x d)) (sym e) (at_seat z n d)
    each_seat q z n d m (inr (b, ne)) = elsewhere q z n d (let e = length-set h.callers seat l in omega (arith, e, m)) ne
