-- A put and a hearing, over the whole house.
use Rattle.std.proofs.Common.{◌≡◌, ℕ, ◌+◌, ◌%◌, ◌<◌, ◌⊎◌, inl, inr, Bool, true, List, [], ◌∷◌, ◌++◌, length, refl, ap, sym, ◌∙◌, subst, arith, Option, Some, None, get_or, set, length-append, drop, get_or-set_other, get_or-set_same}
use Rattle.delivery_token.specs.Keys.{Precedes, AtLeast, past}
use Rattle.delivery_token.specs.declared.CopyKey.{CopyKey}
use Rattle.delivery_token.specs.declared.Job.{Job}
use Rattle.delivery_token.specs.declared.Refusal.{Refusal}
use Rattle.delivery_token.specs.declared.log.Noted.{Noted}
use Rattle.shard_queue.proofs.AtLaws.{set_at-same}
use Rattle.envelope.specs.Names.{Directory}
use Rattle.world.specs.World.{Config, HearStep, MayPut, PutStep, Step, World, hears_one, put_full, put_joins, put_no_memory, put_shut, shard_of}
use Rattle.world.specs.World as world
use Rattle.delivery_core.specs.DeliveryCore.{DeliveryCore, notes_of}
use Rattle.delivery_core.specs.Changes.{Hears}
use Rattle.delivery_token.specs.Copies.{heard_at_once}
use Rattle.delivery_core.specs.New.{first_key}
use Rattle.delivery_core.specs.Puts.{IsNextKey}
use Rattle.delivery_core.specs.Stands as core
use Rattle.house_peers.specs.HouseConnection.{HouseConnection}
use Rattle.house.specs.House.{House}
use Rattle.lmtp_machine.specs.Dialogue.{Submission}
use Rattle.house_peers.specs.Caller.{Caller, Terms, copies_of}
use Rattle.house.specs.Setup.{Setup, terms_of}
use Rattle.house.specs.Scene.{ConnectionHears, ConnectionPuts, HearPlay, PutPlay, Scene, connection_hears, connection_puts, session_hears, session_puts, with_caller, with_world}
use Rattle.house_peers.specs.Taking.{HearsVerdict, due, noted_put}
use Rattle.delivery_token.specs.inner.Verdicts.{heard_verdict}
use Rattle.house_peers.specs.ConnectionStands.{StandsForConnection}
use Rattle.house.specs.inner.Steps.{IsOf, CallerWentOn, MayNotPut, StandsForMaybe}
use Rattle.house.specs.Stands.{StandsFor}
use Rattle.house.specs.Steps.{PutsNext}
use Rattle.house.proofs.Events.{IsAt, at_seat}
use Rattle.house.proofs.Callers.{after_going}
use Rattle.house_peers.proofs.ConnectionPutting.{heard_stands, next_copy, put_stands}
use Rattle.house.proofs.Seats.{heard_is, one_step, seat_behind}

-- what may be put
pub may_of : (k : Config) (w : World) (p s : ℕ) (c : Job) (v : World) → PutStep k w p s c v → MayPut k w p s c
may_of k w p s c v (put_joins m live l e) = m
may_of k w p s c v (put_full m live l e) = m
may_of k w p s c v (put_no_memory m live room e) = m
may_of k w p s c v (put_shut m ended e) = m

longer : {A : Type 0} (xs : List A) (x : A) → xs ++ x ∷ [] ≡ xs → ⊥
longer xs x e = let l = ap length e in let m = length-append xs (x ∷ []) in omega (arith, l, m)

-- a hearing changes the world
pub hear_moves : (w : World) (p : ℕ) (v : World) → HearStep w p v → v ≡ w → ⊥
hear_moves w p v (hears_one s r others h e) f = longer (w.heard p) _ (sym (set_at-same w.heard p _) ∙ ap (λ (x : World). x.heard p) (sym e ∙ f))

-- the world's put, by the names that the scene has
pub step_of : (k : Config) (w v : World) (c : Job) (p q lanes : ℕ) → p ≡ q → lanes ≡ k.shards → Step k w (world.Put p (c.mailbox % lanes) c) v → Step k w (world.Put q (shard_of k c.mailbox) c) v
step_of k w v c p q lanes e f h = subst (λ (n : ℕ). PutStep k w q (c.mailbox % n) c v) f (subst (λ (n : ℕ). PutStep k w n (c.mailbox % lanes) c v) e h)

pub put_led : (k : Setup) (h : House) (s : Scene) (number seat : ℕ) (directory : Directory) (g : HouseConnection) (c : DeliveryCore) (why : Option Refusal) (occupant l : Option HouseConnection) (whole : Bool) (old new : List ℕ)
    → StandsFor k h s → number ≡ seat + 1 → directory ≡ h.directory → seat < length h.callers → get_or h.callers seat None ≡ Some g → PutsNext h.core (due g) c why → occupant ≡ Some (noted_put (heard_verdict why) g)
    → ((x : Terms) (p : ℕ) (next : CopyKey) (heard : List Noted) (b : Caller) → IsOf x number p directory → StandsForMaybe x p next heard occupant (Some b) → CallerWentOn x whole p next heard b l old new)
    → (t : Scene) × (printed : List ℕ) × ConnectionPuts k whole s seat t printed
    × StandsFor k (record { core = c; callers = set h.callers seat l; serials = h.serials; visitors = h.visitors; entered = h.entered; directory = h.directory; host = h.host; max_message = h.max_message; compatible = h.compatible }) t
    × (new ≡ old ++ printed)
put_led k h s number seat directory g c why occupant l whole old new st e dir lt some puts is f =
    let y = first_key seat in
    let a = at_seat k h s seat y g st lt some in
    let n = next_copy (terms_of k s.shut) seat (get_or h.core.next seat y) (s.world.heard seat) g a.caller puts.copy puts.others a.stands puts.front in
    let p = puts.puts in
    let es : puts.copy.key.seat ≡ seat = ap (λ (q : CopyKey). q.seat) n.key in
    let m = p.follows k.config s.world st.core in
    let v = m.0 in
    let cs = m.2 in
    let step = step_of k.config s.world v puts.copy puts.copy.key.seat seat (length h.core.lanes) es st.core.shards (one_step k.config s.world v (world.Put puts.copy.key.seat (puts.copy.mailbox % length h.core.lanes) puts.copy) m.1) in
    let lk : seat < k.config.seats = let q = st.seats in omega (arith, lt, q) in
    let ln : seat < length h.core.next = let q = st.core.nexts in omega (arith, lk, q) in
    let heard : v.heard seat ≡ s.world.heard seat ++ heard_at_once puts.copy.key puts.copy.mailbox why
    = sym (heard_is k.config c v cs seat lk) ∙ subst (λ (q : ℕ). notes_of c q ≡ notes_of h.core q ++ heard_at_once puts.copy.key puts.copy.mailbox why) es p.heard.here
    ∙ ap (λ (ns : List Noted). ns ++ heard_at_once puts.copy.key puts.copy.mailbox why) (heard_is k.config h.core s.world st.core seat lk) in
    let next : get_or c.next seat y ≡ past puts.copy.key = ap (λ (ks : List CopyKey). get_or ks seat y) (p.next ∙ ap (λ (q : ℕ). set h.core.next q (past puts.copy.key)) es) ∙ get_or-set_same h.core.next seat (past puts.copy.key) y ln in
    let b : Caller = record { serial = a.caller.serial; gone = a.caller.gone; talk = a.caller.talk; to_put = puts.others } in
    let b1 = put_stands (terms_of k s.shut) seat (get_or h.core.next seat y) (s.world.heard seat) g a.caller puts.copy puts.others why (get_or c.next seat y) (v.heard seat) a.stands n next (may_of k.config s.world seat _ puts.copy v step).above_heard heard in
    let w = f (terms_of k s.shut) seat (get_or c.next seat y) (v.heard seat) b (record { numbered = e; looks_up = dir ∙ st.directory })
    (subst (λ (x : Option HouseConnection). StandsForMaybe (terms_of k s.shut) seat (get_or c.next seat y) (v.heard seat) x (Some b)) (sym is) b1) in (
      with_caller (with_world s v) seat w.left,
      w.printed,
      record { caller = a.caller; there = a.here; copy = puts.copy; others = puts.others; front = n.front; moved = v; step = step; left = w.left; goes = w.goes; after = refl {a = with_caller (with_world s v) seat w.left} },
      after_going k h c h.serials s v s.next seat y l (noted_put (heard_verdict why) g) b whole old new st cs lt
          (λ q ne. p.heard.others q (λ z. ne (z ∙ es)))
          (λ q z ne. ap (λ (ks : List CopyKey). get_or ks q z) (p.next ∙ ap (λ (r : ℕ). set h.core.next r (past puts.copy.key)) es) ∙ get_or-set_other h.core.next seat q (past puts.copy.key) z ne)
          refl (λ i. (st.each seat y i None lt).counted) (λ q i ne. refl) (λ q ne. refl) b1 a.serial w,
      w.out,
    )

-- a copy that is next may be put
may_be_put : (k : Setup) (h : House) (s : Scene) (seat : ℕ) (g : HouseConnection) (c : Job) (others : List Job) → StandsFor k h s → seat < length h.callers → get_or h.callers seat None ≡ Some g → due g ≡ c ∷ others → IsNextKey h.core c.key c.mailbox
may_be_put k h s seat g c others st lt some front =
    let y = c.key in
    let a = at_seat k h s seat y g st lt some in
    let n = next_copy (terms_of k s.shut) seat (get_or h.core.next seat y) (s.world.heard seat) g a.caller c others a.stands front in
    let es : c.key.seat ≡ seat = ap (λ (q : CopyKey). q.seat) n.key in
    let lk : seat < k.config.seats = let q = st.seats in omega (arith, lt, q) in
    let ln : seat < length h.core.next = let q = st.core.nexts in omega (arith, lk, q) in
    let ahead : AtLeast (get_or h.core.next seat y) c.key = subst (AtLeast (get_or h.core.next seat y)) (sym n.key) a.stands.ahead in
    let own : (get_or h.core.next seat y).seat ≡ seat = (st.core.next seat y ln).own in
    record {
      seat = let q = st.core.seats in omega (arith, es, lk, q);
      next = subst (λ (q : ℕ). (get_or h.core.next q c.key ≡ c.key) ⊎ Precedes (get_or h.core.next q c.key) c.key) (sym es)
          (elim ahead [ inl e ↦ inl e | inr b ↦ inr (own ∙ sym es, b) ]);
      last = let r = n.room in let m = n.few in let z = ap (λ (q : CopyKey). q.recipient) n.key in omega (arith, r, m, z);
      mailbox_there = let m = n.mailbox in let q = st.homes in let r = st.core.mailboxes in omega (arith, m, q, r);
      shard_there = let q = st.some_shard in let r = st.core.shards in omega (arith, q, r);
    }

-- where no copy may be put, none is
pub put_idles : (k : Setup) (h : House) (s : Scene) (seat : ℕ) (g : HouseConnection) (t : Scene) (printed : List ℕ) → StandsFor k h s → seat < length h.callers → get_or h.callers seat None ≡ Some g → MayNotPut h.core (due g) → ConnectionPuts k true s seat t printed → ⊥
put_idles k h s seat g t printed st lt some (inl none) p =
    let a = at_seat k h s seat (first_key seat) g st lt some in
    let same : a.caller ≡ p.caller = let x : Some a.caller ≡ Some p.caller = sym a.here ∙ p.there in cc in
    let x : [] ≡ p.copy ∷ p.others = sym (empty a) ∙ ap (λ (b : Caller). b.to_put) same ∙ p.front in cc
  where
    empty : (a : IsAt k s seat (get_or h.core.next seat (first_key seat)) g) → a.caller.to_put ≡ []
    empty a = a.stands.to_put ∙ ap (λ (ss : List Submission). drop (length g.verdicts) (copies_of ss)) (sym a.stands.pending) ∙ none
put_idles k h s seat g t printed st lt some (inr (c, others, front, isnt)) p = isnt (may_be_put k h s seat g c others st lt some front)

pub heard_led : (k : Setup) (h : House) (s : Scene) (number seat : ℕ) (directory : Directory) (g : HouseConnection) (c : DeliveryCore) (r : Noted) (q : HouseConnection) (l : Option HouseConnection) (whole : Bool) (old new : List ℕ)
    → StandsFor k h s → number ≡ seat + 1 → directory ≡ h.directory → seat < length h.callers → get_or h.callers seat None ≡ Some g
    → ((x : Config) → core.Follows x h.core (world.Hear seat ∷ []) c) → Hears h.core c seat (r ∷ []) → c.next ≡ h.core.next → HearsVerdict g r q
    → ((x : Terms) (p : ℕ) (next : CopyKey) (heard : List Noted) (b : Caller) → IsOf x number p directory → StandsForMaybe x p next heard (Some q) (Some b) → CallerWentOn x whole p next heard b l old new)
    → (t : Scene) × (printed : List ℕ) × ConnectionHears k whole s seat t printed
    × StandsFor k (record { core = c; callers = set h.callers seat l; serials = h.serials; visitors = h.visitors; entered = h.entered; directory = h.directory; host = h.host; max_message = h.max_message; compatible = h.compatible }) t
    × (new ≡ old ++ printed)
heard_led k h s number seat directory g c r q l whole old new st e dir lt some follows hears nexts slot f =
    let y = first_key seat in
    let a = at_seat k h s seat y g st lt some in
    let m = follows k.config s.world st.core in
    let v = m.0 in
    let cs = m.2 in
    let lk : seat < k.config.seats = let z = st.seats in omega (arith, lt, z) in
    let heard : v.heard seat ≡ s.world.heard seat ++ r ∷ [] = sym (heard_is k.config c v cs seat lk) ∙ hears.here ∙ ap (λ (ns : List Noted). ns ++ r ∷ []) (heard_is k.config h.core s.world st.core seat lk) in
    let same : get_or c.next seat y ≡ get_or h.core.next seat y = ap (λ (ks : List CopyKey). get_or ks seat y) nexts in
    let b1 = subst (λ (z : CopyKey). StandsForConnection (terms_of k s.shut) seat z (v.heard seat) q a.caller) (sym same) (heard_stands (terms_of k s.shut) seat (get_or h.core.next seat y) (s.world.heard seat) a.caller g r q (v.heard seat) a.stands slot heard) in
    let w = f (terms_of k s.shut) seat (get_or c.next seat y) (v.heard seat) a.caller (record { numbered = e; looks_up = dir ∙ st.directory }) b1 in (
      with_caller (with_world s v) seat w.left,
      w.printed,
      record { caller = a.caller; there = a.here; moved = v; step = one_step k.config s.world v (world.Hear seat) m.1; left = w.left; goes = w.goes; after = refl },
      after_going k h c h.serials s v s.next seat y l q a.caller whole old new st cs lt hears.others (λ p z ne. ap (λ (ks : List CopyKey). get_or ks p z) nexts)
          refl (λ i. (st.each seat y i None lt).counted) (λ p i ne. refl) (λ p ne. refl) b1 a.serial w,
      w.out,
    )

pub hear_changes_nothing : (k : Setup) (h : House) (s : Scene) (seat : ℕ) (t : Scene) (printed : List ℕ) → StandsFor k h s → ((x : Config) → core.ChangesNothing x h.core (world.Hear seat)) → ConnectionHears k true s seat t printed → ⊥
hear_changes_nothing k h s seat t printed st still p = hear_moves s.world seat p.moved p.step (still k.config s.world p.moved st.core p.step)

-- ---- at a connection's seat nobody else puts or hears

pub puts_none : (k : Setup) (h : House) (s : Scene) (seat : ℕ) (g : HouseConnection) (t : Scene) (printed : List ℕ) → StandsFor k h s → seat < length h.callers → get_or h.callers seat None ≡ Some g → MayNotPut h.core (due g) → PutPlay k true s seat t printed → ⊥
puts_none k h s seat g t printed st lt some why (connection_puts l p) = put_idles k h s seat g t printed st lt some why p
puts_none k h s seat g t printed st lt some why (session_puts place e p) = seat_behind k h s seat place st lt (sym e)

pub hears_none : (k : Setup) (h : House) (s : Scene) (seat : ℕ) (t : Scene) (printed : List ℕ) → StandsFor k h s → seat < length h.callers → ((x : Config) → core.ChangesNothing x h.core (world.Hear seat)) → HearPlay k true s seat t printed → ⊥
hears_none k h s seat t printed st lt still (connection_hears l p) = hear_changes_nothing k h s seat t printed st still p
hears_none k h s seat t printed st lt still (session_hears place e p) = seat_behind k h s seat place st lt (sym e)
