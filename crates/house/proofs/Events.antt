-- What bytes, a put and a hearing come to, from who stands at the seat.
use Rattle.std.proofs.Common.{◌≡◌, ℕ, ◌+◌, ◌<◌, Bool, true, false, List, ◌++◌, length, refl, ap, sym, ◌∙◌, subst, arith, Option, Some, None, get_or, set, IsSome, length-set, get_or-set_other, get_or-set_same}
use Rattle.delivery_token.specs.Keys.{AtLeast}
use Rattle.shard_queue.specs.Lane.{set_at}
use Rattle.shard_queue.proofs.AtLaws.{set_at-same}
use Rattle.std.specs.Option.{option_map}
use Rattle.delivery_token.specs.declared.CopyKey.{CopyKey}
use Rattle.delivery_token.specs.declared.log.Noted.{Noted}
use Rattle.envelope.specs.Names.{Directory}
use Rattle.delivery_core.specs.New.{first_key}
use Rattle.house_peers.specs.HouseConnection.{HouseConnection}
use Rattle.house.specs.House.{House}
use Rattle.house_peers.specs.Caller.{Caller, Terms, greeted, more_waits, unread}
use Rattle.house.specs.Setup.{Setup, terms_of}
use Rattle.house.specs.Scene.{BytesPlay, Scene, VanishPlay, goes_on, most_serials, opens, with_caller}
use Rattle.house_peers.specs.Taking.{with_more, with_nobody_there}
use Rattle.house_peers.specs.ConnectionStands.{StandsForConnection}
use Rattle.house.specs.inner.Steps.{IsOf, CallerWentOn, StandsForMaybe}
use Rattle.house.specs.Stands.{StandsFor, StandsForOne}
use Rattle.house.specs.Steps.{is_unread}
use Rattle.house_peers.proofs.Arrivals.{more_stands}
use Rattle.house_peers.proofs.Connections.{unread_stands}
use Rattle.house.proofs.Callers.{after_going, at_there}

-- where a line stands at a seat, so does a caller of the scene
pub record IsAt (k : Setup) (s : Scene) (seat : ℕ) (next : CopyKey) (h : HouseConnection) : Type 0 where
  pub caller : Caller
  pub here : s.caller seat ≡ Some caller
  pub stands : StandsForConnection (terms_of k s.shut) seat next (s.world.heard seat) h caller
  pub serial : caller.serial < s.next seat

is_at : (k : Setup) (s : Scene) (seat : ℕ) (next : CopyKey) (h : HouseConnection) (o : Option Caller) → s.caller seat ≡ o → StandsForOne (terms_of k s.shut) seat next (s.world.heard seat) (s.next seat) (Some h) o → IsAt k s seat next h
is_at k s seat next h None e w = absurd w
is_at k s seat next h (Some b) e w = record { caller = b; here = e; stands = w.0; serial = w.1 }

-- the caller at a seat where a line stands
pub at_seat : (k : Setup) (h : House) (s : Scene) (seat : ℕ) (y : CopyKey) (g : HouseConnection) → StandsFor k h s → seat < length h.callers → get_or h.callers seat None ≡ Some g → IsAt k s seat (get_or h.core.next seat y) g
at_seat k h s seat y g st lt e =
    let w = (st.each seat y 0 None lt).who in
    is_at k s seat (get_or h.core.next seat y) g (s.caller seat) refl (subst (λ (x : Option HouseConnection). StandsForOne (terms_of k s.shut) seat (get_or h.core.next seat y) (s.world.heard seat) (s.next seat) x (s.caller seat)) e w)

-- somebody is a line
pub some_line : (o : Option HouseConnection) → IsSome o → (g : HouseConnection) × (o ≡ Some g)
some_line None h = absurd (let e : false ≡ true = h in cc)
some_line (Some g) h = (g, refl)

-- a peer is there where the seat isn't waiting for the verdicts of one that is gone
peer_there : (k : Terms) (seat : ℕ) (next : CopyKey) (heard : List Noted) (o : Option HouseConnection) (g : HouseConnection) (b : Caller) → o ≡ Some g → is_unread o ≡ false → StandsForConnection k seat next heard g b → b.gone ≡ false
peer_there k seat next heard o g b e u s = sym s.gone ∙ subst (λ (x : Option HouseConnection). is_unread x ≡ false) e u

pub received : (k : Setup) (h : House) (s : Scene) (number seat : ℕ) (piece : List ℕ) (directory : Directory) (l : Option HouseConnection) (occupant : Option HouseConnection) (whole : Bool) (old new : List ℕ)
    → StandsFor k h s → number ≡ seat + 1 → directory ≡ h.directory → seat < length h.callers → IsSome (get_or h.callers seat None) → is_unread (get_or h.callers seat None) ≡ false → occupant ≡ option_map (with_more piece) (get_or h.callers seat None)
    → ((x : Terms) (p : ℕ) (next : CopyKey) (heard : List Noted) (b : Caller) → IsOf x number p directory → StandsForMaybe x p next heard occupant (Some b) → CallerWentOn x whole p next heard b l old new)
    → (t : Scene) × (printed : List ℕ) × BytesPlay k whole s seat piece t printed
    × StandsFor k (record { core = h.core; callers = set h.callers seat l; serials = h.serials; visitors = h.visitors; entered = h.entered; directory = h.directory; host = h.host; max_message = h.max_message; compatible = h.compatible }) t
    × (new ≡ old ++ printed)
received k h s number seat piece directory l occupant whole old new st e dir lt some read is f =
    let g = some_line (get_or h.callers seat None) some in
    let y = first_key seat in
    let a = at_seat k h s seat y g.0 st lt g.1 in
    let b = more_waits a.caller piece in
    let m = more_stands (terms_of k s.shut) seat (get_or h.core.next seat y) (s.world.heard seat) g.0 a.caller piece a.stands in
    let at = is ∙ ap (option_map (with_more piece)) g.1 in
    let w = f (terms_of k s.shut) seat (get_or h.core.next seat y) (s.world.heard seat) b (record { numbered = e; looks_up = dir ∙ st.directory })
    (subst (λ (x : Option HouseConnection). StandsForMaybe (terms_of k s.shut) seat (get_or h.core.next seat y) (s.world.heard seat) x (Some b)) (sym at) m) in (
      with_caller s seat w.left,
      w.printed,
      goes_on a.caller a.here (peer_there (terms_of k s.shut) seat (get_or h.core.next seat y) (s.world.heard seat) (get_or h.callers seat None) g.0 a.caller g.1 read a.stands) w.left w.goes refl,
      after_going k h h.core h.serials s s.world s.next seat y l (with_more piece g.0) b whole old new st st.core lt (λ q ne. refl) (λ q z ne. refl) refl
          (λ n. (st.each seat y n None lt).counted) (λ q n ne. refl) (λ q ne. refl) m a.serial w,
      w.out,
    )

pub vanished : (k : Setup) (h : House) (s : Scene) (number seat : ℕ) (directory : Directory) (l : Option HouseConnection) (occupant : Option HouseConnection) (whole : Bool) (old new : List ℕ)
    → StandsFor k h s → number ≡ seat + 1 → directory ≡ h.directory → seat < length h.callers → IsSome (get_or h.callers seat None) → is_unread (get_or h.callers seat None) ≡ false → occupant ≡ option_map with_nobody_there (get_or h.callers seat None)
    → ((x : Terms) (p : ℕ) (next : CopyKey) (heard : List Noted) (b : Caller) → IsOf x number p directory → StandsForMaybe x p next heard occupant (Some b) → CallerWentOn x whole p next heard b l old new)
    → (t : Scene) × (printed : List ℕ) × VanishPlay k whole s seat t printed
    × StandsFor k (record { core = h.core; callers = set h.callers seat l; serials = h.serials; visitors = h.visitors; entered = h.entered; directory = h.directory; host = h.host; max_message = h.max_message; compatible = h.compatible }) t
    × (new ≡ old ++ printed)
vanished k h s number seat directory l occupant whole old new st e dir lt some read is f =
    let g = some_line (get_or h.callers seat None) some in
    let y = first_key seat in
    let a = at_seat k h s seat y g.0 st lt g.1 in
    let b = unread a.caller in
    let m = unread_stands (terms_of k s.shut) seat (get_or h.core.next seat y) (s.world.heard seat) g.0 a.caller a.stands in
    let at = is ∙ ap (option_map with_nobody_there) g.1 in
    let w = f (terms_of k s.shut) seat (get_or h.core.next seat y) (s.world.heard seat) b (record { numbered = e; looks_up = dir ∙ st.directory })
    (subst (λ (x : Option HouseConnection). StandsForMaybe (terms_of k s.shut) seat (get_or h.core.next seat y) (s.world.heard seat) x (Some b)) (sym at) m) in (
      with_caller s seat w.left,
      w.printed,
      record {
        caller = a.caller;
        there = a.here;
        was_read = peer_there (terms_of k s.shut) seat (get_or h.core.next seat y) (s.world.heard seat) (get_or h.callers seat None) g.0 a.caller g.1 read a.stands;
        left = w.left;
        goes = w.goes;
        after = refl;
      },
      after_going k h h.core h.serials s s.world s.next seat y l (with_nobody_there g.0) b whole old new st st.core lt (λ q ne. refl) (λ q z ne. refl) refl
          (λ n. (st.each seat y n None lt).counted) (λ q n ne. refl) (λ q ne. refl) m a.serial w,
      w.out,
    )

-- where nobody stands, the seat's next key is no later than that of its next connection
vacant : (k : Setup) (s : Scene) (seat : ℕ) (next : CopyKey) (o : Option Caller) → s.caller seat ≡ o → StandsForOne (terms_of k s.shut) seat next (s.world.heard seat) (s.next seat) None o
    → (s.caller seat ≡ None) × AtLeast next (record { seat = seat; serial = s.next seat; message = 0; recipient = 0 })
vacant k s seat next None e w = (e, w)
vacant k s seat next (Some b) e w = absurd w

pub welcomed : (k : Setup) (h : House) (s : Scene) (number seat : ℕ) (piece : List ℕ) (directory : Directory) (l : Option HouseConnection) (g : HouseConnection) (whole : Bool) (old new : List ℕ)
    → StandsFor k h s → number ≡ seat + 1 → directory ≡ h.directory → seat < length h.callers → get_or h.callers seat None ≡ None → get_or h.serials seat 0 < most_serials
    → ((x : Terms) (next : CopyKey) (heard : List Noted) → x.host ≡ h.host → x.max_message ≡ h.max_message → AtLeast next (record { seat = seat; serial = get_or h.serials seat 0; message = 0; recipient = 0 }) → StandsForConnection x seat next heard g (more_waits (greeted x seat (get_or h.serials seat 0)) piece))
    → ((x : Terms) (p : ℕ) (next : CopyKey) (heard : List Noted) (b : Caller) → IsOf x number p directory → StandsForMaybe x p next heard (Some g) (Some b) → CallerWentOn x whole p next heard b l old new)
    → (t : Scene) × (printed : List ℕ) × BytesPlay k whole s seat piece t printed
    × StandsFor k (record { core = h.core; callers = set h.callers seat l; serials = set h.serials seat (get_or h.serials seat 0 + 1); visitors = h.visitors; entered = h.entered; directory = h.directory; host = h.host; max_message = h.max_message; compatible = h.compatible }) t
    × (new ≡ old ++ printed)
welcomed k h s number seat piece directory l g whole old new st e dir lt none less opened f =
    let y = first_key seat in
    let n = get_or h.serials seat 0 in
    let each = st.each seat y 0 None lt in
    let same : n ≡ s.next seat = each.counted in
    let o = vacant k s seat (get_or h.core.next seat y) (s.caller seat) refl (subst (λ (x : Option HouseConnection). StandsForOne (terms_of k s.shut) seat (get_or h.core.next seat y) (s.world.heard seat) (s.next seat) x (s.caller seat)) none each.who) in
    let b = more_waits (greeted (terms_of k s.shut) seat (s.next seat)) piece in
    let m : StandsForConnection (terms_of k s.shut) seat (get_or h.core.next seat y) (s.world.heard seat) g b
    = subst (λ (z : ℕ). StandsForConnection (terms_of k s.shut) seat (get_or h.core.next seat y) (s.world.heard seat) g (more_waits (greeted (terms_of k s.shut) seat z) piece)) same
    (opened (terms_of k s.shut) (get_or h.core.next seat y) (s.world.heard seat) (sym st.host) (sym st.max_message) (subst (λ (z : ℕ). AtLeast (get_or h.core.next seat y) (record { seat = seat; serial = z; message = 0; recipient = 0 })) (sym same) o.1)) in
    let w = f (terms_of k s.shut) seat (get_or h.core.next seat y) (s.world.heard seat) b (record { numbered = e; looks_up = dir ∙ st.directory }) m in
    let ls : seat < length h.serials = let p = st.seats in let q = st.numbers in omega (arith, p, q, lt) in
    let here : set_at s.next seat (s.next seat + 1) seat ≡ s.next seat + 1 = set_at-same s.next seat (s.next seat + 1) in (
      record { world = s.world; caller = set_at s.caller seat w.left; next = set_at s.next seat (s.next seat + 1); visitor = s.visitor; entered = s.entered; shut = s.shut },
      w.printed,
      opens (let p = st.connections in omega (arith, p, lt)) o.0 (omega (arith, less, same)) w.left w.goes refl,
      after_going k h h.core (set h.serials seat (n + 1)) s s.world (set_at s.next seat (s.next seat + 1)) seat y l g b whole old new st st.core lt (λ q ne. refl) (λ q z ne. refl)
          (length-set h.serials seat (n + 1)) (λ i. get_or-set_same h.serials seat (n + 1) i ls ∙ ap (λ (z : ℕ). z + 1) same ∙ sym here)
          (λ q i ne. get_or-set_other h.serials seat q (n + 1) i ne) (λ q ne. at_there s.next seat (s.next seat + 1) q ne) m (omega (arith, here)) w,
      w.out,
    )
