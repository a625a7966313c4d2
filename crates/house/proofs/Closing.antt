-- Closing a shard: the mark changes, and who stands at a seat stands there as before; and in a settling each seat ends on each shard that is shut.
use Rattle.std.proofs.Common.{◌≡◌, ℕ, ◌+◌, ◌<◌, ◌≤◌, Bool, true, false, List, [], ◌∷◌, ◌++◌, length, refl, ap, sym, ◌∙◌, subst, arith, append-nil, length-set, zero-add, Option, Some, None, Result, get_or, set}
use Rattle.std.specs.Prelude.{All, ◌||◌, cond, filter, slice_set}
use Rattle.std.specs.List.{range_with_len}
use Rattle.std.proofs.lemmas.List.FromFn.{map-range_with_len_more}
use Rattle.std.proofs.lemmas.List.Elements.{All-nil, filter-append}
use Rattle.std.proofs.lemmas.Grind.{flat_map-append}
use Rattle.change_ring.proofs.RangeLaws.{range-push}
use Rattle.house.specs.declared.event.Event.{Event}
use Rattle.house.specs.declared.event.Event.TheVariants.{End}
use Rattle.house.specs.Settling.{StintBreaksOff, Stints, StintsBreakOff, ends_on}
use Rattle.house.specs.inner.Trying.{CameStints, DidStints, IsAmong, Wants, WantsStints, closes, ends, ends_where}
use Rattle.house.proofs.Settlement.{All-one, DidStint, did_as, first_made, first_numbers, one_stint, one_wants, shards_of, stints_then, stints_wants, wants_as, wants_of_all}
use Rattle.delivery_token.specs.declared.CopyKey.{CopyKey}
use Rattle.delivery_token.specs.declared.log.Noted.{Noted}
use Rattle.envelope.specs.Names.{Directory, is_shut, marked}
use Rattle.house_peers.specs.Caller.{Caller}
use Rattle.house_peers.specs.HouseConnection.{HouseConnection}
use Rattle.house_peers.proofs.Connections.{stands_marked}
use Rattle.house.specs.Setup.{Setup, terms_of}
use Rattle.house.specs.Scene.{ClosePlay, HasNothing, Scene}
use Rattle.house.specs.Stands.{StandsFor, StandsForOne}
use Rattle.house.specs.House.{House}

-- whoever stands at a seat does so whichever shards are shut
one_marked : (k : Setup) (a b : List Bool) (seat : ℕ) (next : CopyKey) (heard : List Noted) (serials : ℕ) (l : Option HouseConnection) (o : Option Caller)
    → StandsForOne (terms_of k a) seat next heard serials l o → StandsForOne (terms_of k b) seat next heard serials l o
one_marked k a b seat next heard serials None None w = w
one_marked k a b seat next heard serials None (Some c) w = w
one_marked k a b seat next heard serials (Some h) None w = w
one_marked k a b seat next heard serials (Some h) (Some c) w = (stands_marked (terms_of k a) b seat next heard h c w.0, w.1)

pub close_led : (k : Setup) (h : House) (s : Scene) (shard : ℕ) (old : List ℕ) → StandsFor k h s → shard < h.directory.shards → is_shut h.directory shard ≡ false
    → (t : Scene) × (printed : List ℕ) × ClosePlay k s shard t printed
    × StandsFor k (record { core = h.core; callers = h.callers; serials = h.serials; visitors = h.visitors; entered = h.entered; directory = marked (set h.directory.shut shard true) h.directory; host = h.host; max_message = h.max_message; compatible = h.compatible }) t
    × (old ≡ old ++ printed)
close_led k h s shard old st there unshut = (
  record s { shut = slice_set s.shut shard true },
  [],
  record { there = let e = ap (λ (d : Directory). d.shards) st.directory ∙ st.shards in omega (arith, there, e); was_open = sym (ap (λ (d : Directory). is_shut d shard) st.directory) ∙ unshut; after = refl; silent = refl },
  record {
    core = st.core;
    directory = ap (λ (d : Directory). marked (set d.shut shard true) d) st.directory;
    marks = length-set s.shut shard true ∙ st.marks;
    host = st.host;
    max_message = st.max_message;
    compatible = st.compatible;
    homes = st.homes;
    shards = st.shards;
    some_shard = st.some_shard;
    seats = st.seats;
    connections = st.connections;
    numbers = st.numbers;
    each = λ seat y n d l.
        let e = st.each seat y n d l in
        record { counted = e.counted; who = one_marked k s.shut (set s.shut shard true) seat (get_or h.core.next seat y) (s.world.heard seat) (s.next seat) (get_or h.callers seat d) (s.caller seat) e.who };
    places = st.places;
    entries = st.entries;
    visitors = λ place y n d l. let e = st.visitors place y n d l in record { counted = e.counted; who = e.who };
  },
  sym (append-nil old),
)

-- ---- seats that end

-- the stints of ends on the shards below a number, and of one more
closed_more : (seats : ℕ) (shut : ℕ → Bool) (n : ℕ) → closes seats shut n ++ ends_where seats n (shut n) ≡ closes seats shut (n + 1)
closed_more seats shut n = one (shut n) refl
  where
    more : (ns : List ℕ) → filter shut (n ∷ []) ≡ ns → closes seats shut n ++ ends_on seats ns ≡ closes seats shut (n + 1)
    more ns e = sym (flat_map-append (λ shard. ends seats shard) (filter shut (range_with_len 0 n)) ns)
        ∙ ap (λ (xs : List ℕ). ends_on seats (filter shut (range_with_len 0 n) ++ xs)) (sym e)
        ∙ ap (λ (xs : List ℕ). ends_on seats xs) (sym (filter-append shut (range_with_len 0 n) (n ∷ [])))
        ∙ ap (λ (xs : List ℕ). ends_on seats (filter shut xs)) (ap (λ (i : ℕ). range_with_len 0 n ++ i ∷ []) (sym (zero-add n)) ∙ range-push 0 n)

    chosen : (b : Bool) → shut n ≡ b → filter shut (n ∷ []) ≡ cond b (n ∷ []) []
    chosen true e = rw e refl
    chosen false e = rw e refl

    one : (b : Bool) → shut n ≡ b → closes seats shut n ++ ends_where seats n b ≡ closes seats shut (n + 1)
    one true e = ap (λ (xs : List (List Event)). closes seats shut n ++ xs) (sym (append-nil (ends seats n))) ∙ more (n ∷ []) (chosen true e)
    one false e = more [] (chosen false e)

-- so many seats are there, and the shard is
abbrev pub IsFor : (seats shard : ℕ) → Setup → Type 0
IsFor seats shard k = (k.config.seats ≡ seats) × (shard < k.config.shards)

end_among : (k : Setup) (seats seat shard : ℕ) → seat < seats → IsFor seats shard k → All (IsAmong k) (End (seat + 1) shard ∷ [])
end_among k seats seat shard l q = All-one (IsAmong k) (End (seat + 1) shard) (omega arith, let e = q.0 in omega (arith, l, e), q.1)

pub ends_step : (seats seat shard : ℕ) (h : House) (o : List ℕ) (h1 : House) (o1 : List ℕ) (h2 : House) (o2 : List ℕ) (a b : Bool) → seat < seats
    → DidStints (IsFor seats shard) (λ k. ends seat shard) h o h1 o1 a → DidStint (End (seat + 1) shard ∷ []) h1 o1 h2 o2 b
    → DidStints (IsFor seats shard) (λ k. ends (seat + 1) shard) h o h2 o2 (a || b)
ends_step seats seat shard h o h1 o1 h2 o2 a b l c d =
    subst (λ (gs : List (List Event)). DidStints (IsFor seats shard) (λ k. gs) h o h2 o2 (a || b)) (sym (map-range_with_len_more (λ n. End n shard ∷ []) 1 seat (seat + 1) (omega arith)))
    (stints_then (IsFor seats shard) (λ k. ends seat shard) (λ k. (End (seat + 1) shard ∷ []) ∷ []) h o h1 o1 h2 o2 a b c
    (one_stint (IsFor seats shard) (End (seat + 1) shard ∷ []) h1 o1 h2 o2 b (λ k q. end_among k seats seat shard l q) d))

pub ends_wants : (seats seat shard : ℕ) (h : House) (o : List ℕ) (h1 : House) (o1 : List ℕ) (h2 : House) (o2 : List ℕ) (a : Bool) → seat < seats → seats ≡ length h.callers + length h.visitors
    → DidStints (IsFor seats shard) (λ k. ends seat shard) h o h1 o1 a
    → Wants (λ k. All (IsAmong k) (End (seat + 1) shard ∷ [])) (λ k s t printed. StintBreaksOff k (End (seat + 1) shard ∷ []) s t printed) h1 o1 h2 o2
    → WantsStints (λ k. shard < k.config.shards) (λ k. ends k.config.seats shard) h o h2 o2
ends_wants seats seat shard h o h1 o1 h2 o2 a l e c d =
    let make : ℕ → List Event = λ n. End n shard ∷ [] in
    wants_of_all (IsFor seats shard) (λ k. shard < k.config.shards) (λ k. ends seat shard ++ (End (seat + 1) shard ∷ []) ∷ []) (λ k. ends k.config.seats shard) h o h2 o2 (λ k s q st. (sym (e ∙ st.seats), q))
    (λ k q. let f = q.0 in let r = first_made make 1 (seat + 1) k.config.seats (omega (arith, l, f)) in
    (r.0, r.1 ∙ ap (λ (xs : List (List Event)). xs ++ r.0) (map-range_with_len_more make 1 seat (seat + 1) (omega arith))))
    (stints_wants (IsFor seats shard) (λ k. ends seat shard) (λ k. (End (seat + 1) shard ∷ []) ∷ []) h o h1 o1 h2 o2 a c
    (one_wants (IsFor seats shard) (End (seat + 1) shard ∷ []) h1 o1 h2 o2 (λ k q. end_among k seats seat shard l q) d))

pub ends_done : (seats seat shard : ℕ) (h : House) (o : List ℕ) (h1 : House) (o1 : List ℕ) (b : Bool) → seat ≡ seats → seats ≡ length h.callers + length h.visitors
    → DidStints (IsFor seats shard) (λ k. ends seat shard) h o h1 o1 b → DidStints (λ k. shard < k.config.shards) (λ k. ends k.config.seats shard) h o h1 o1 b
ends_done seats seat shard h o h1 o1 b all e c =
    did_as (IsFor seats shard) (λ k. shard < k.config.shards) (λ k s t printed. Stints k (ends seat shard) s t printed) (λ k s t printed. Stints k (ends k.config.seats shard) s t printed)
    (λ k s. All (λ group. All (HasNothing k s) group) (ends seat shard)) (λ k s. All (λ group. All (HasNothing k s) group) (ends k.config.seats shard)) h o h1 o1 b
    (λ k s q st. (sym (e ∙ st.seats), q))
    (λ k s q st t printed x. subst (λ (n : ℕ). Stints k (ends n shard) s t printed) (all ∙ e ∙ st.seats) x)
    (λ k s q st x. subst (λ (n : ℕ). All (λ group. All (HasNothing k s) group) (ends n shard)) (all ∙ e ∙ st.seats) x) c

-- of a shard that isn't shut nothing is tried
pub ends_none : (shard : ℕ) (shut : Bool) (h : House) (o : List ℕ) → shut ≡ false → DidStints (λ k. shard < k.config.shards) (λ k. ends_where k.config.seats shard shut) h o h o false
ends_none shard true h o e = cc
ends_none shard false h o e = record { same = refl; silent = refl; changes_nothing = λ k s q st. All-nil (λ group. All (HasNothing k s) group) }

pub ends_here : {E : Type 0} (shard : ℕ) (shut : Bool) (h : House) (o : List ℕ) (h1 : House) (o1 : List ℕ) (r : Result Bool E) → shut ≡ true
    → CameStints {E = E} (λ k. shard < k.config.shards) (λ k. ends k.config.seats shard) h o h1 o1 r → CameStints {E = E} (λ k. shard < k.config.shards) (λ k. ends_where k.config.seats shard shut) h o h1 o1 r
ends_here shard false h o h1 o1 r e c = cc
ends_here shard true h o h1 o1 r e c = c

pub closes_step : (shut : ℕ → Bool) (shards shard : ℕ) (is : Bool) (h : House) (o : List ℕ) (h1 : House) (o1 : List ℕ) (h2 : House) (o2 : List ℕ) (a b : Bool) → shard < shards → is ≡ shut shard
    → DidStints (λ k. k.config.shards ≡ shards) (λ k. closes k.config.seats shut shard) h o h1 o1 a → DidStints (λ k. shard < k.config.shards) (λ k. ends_where k.config.seats shard is) h1 o1 h2 o2 b
    → DidStints (λ k. k.config.shards ≡ shards) (λ k. closes k.config.seats shut (shard + 1)) h o h2 o2 (a || b)
closes_step shut shards shard is h o h1 o1 h2 o2 a b l e c d =
    did_as (λ k. k.config.shards ≡ shards) (λ k. k.config.shards ≡ shards)
    (λ k s t printed. Stints k (closes k.config.seats shut shard ++ ends_where k.config.seats shard is) s t printed) (λ k s t printed. Stints k (closes k.config.seats shut (shard + 1)) s t printed)
    (λ k s. All (λ group. All (HasNothing k s) group) (closes k.config.seats shut shard ++ ends_where k.config.seats shard is)) (λ k s. All (λ group. All (HasNothing k s) group) (closes k.config.seats shut (shard + 1))) h o h2 o2 (a || b)
    (λ k s q st. q)
    (λ k s q st t printed x. subst (λ (gs : List (List Event)). Stints k gs s t printed) (one_more k) x)
    (λ k s q st x. subst (λ (gs : List (List Event)). All (λ group. All (HasNothing k s) group) gs) (one_more k) x)
    (stints_then (λ k. k.config.shards ≡ shards) (λ k. closes k.config.seats shut shard) (λ k. ends_where k.config.seats shard is) h o h1 o1 h2 o2 a b c
    (did_as (λ k. shard < k.config.shards) (λ k. k.config.shards ≡ shards) (λ k s t printed. Stints k (ends_where k.config.seats shard is) s t printed) (λ k s t printed. Stints k (ends_where k.config.seats shard is) s t printed)
    (λ k s. All (λ group. All (HasNothing k s) group) (ends_where k.config.seats shard is)) (λ k s. All (λ group. All (HasNothing k s) group) (ends_where k.config.seats shard is)) h1 o1 h2 o2 b
    (λ k s q st. omega (arith, l, q)) (λ k s q st t printed x. x) (λ k s q st x. x) d))
  where
    one_more : (k : Setup) → closes k.config.seats shut shard ++ ends_where k.config.seats shard is ≡ closes k.config.seats shut (shard + 1)
    one_more k = ap (λ (x : Bool). closes k.config.seats shut shard ++ ends_where k.config.seats shard x) e ∙ closed_more k.config.seats shut shard

-- the stints of ends on the first shards, and on the others
first_closed : (seats : ℕ) (shut : ℕ → Bool) (some all : ℕ) → some ≤ all → (others : List (List Event)) × (closes seats shut all ≡ closes seats shut some ++ others)
first_closed seats shut some all l =
    let r = first_numbers 0 some all l in (
      ends_on seats (filter shut r.0),
      ap (λ (xs : List ℕ). ends_on seats (filter shut xs)) r.1 ∙ ap (λ (xs : List ℕ). ends_on seats xs) (filter-append shut (range_with_len 0 some) r.0)
          ∙ flat_map-append (λ shard. ends seats shard) (filter shut (range_with_len 0 some)) (filter shut r.0),
    )

pub closes_wants : (shut : ℕ → Bool) (shard : ℕ) (is : Bool) (h : House) (o : List ℕ) (h1 : House) (o1 : List ℕ) (h2 : House) (o2 : List ℕ) (a : Bool) → shard < h.directory.shards → is ≡ shut shard
    → DidStints (λ k. k.config.shards ≡ h.directory.shards) (λ k. closes k.config.seats shut shard) h o h1 o1 a → WantsStints (λ k. shard < k.config.shards) (λ k. ends_where k.config.seats shard is) h1 o1 h2 o2
    → WantsStints (λ k. Unit {0}) (λ k. closes k.config.seats shut k.config.shards) h o h2 o2
closes_wants shut shard is h o h1 o1 h2 o2 a l e c d =
    wants_of_all (λ k. k.config.shards ≡ h.directory.shards) (λ k. Unit {0}) (λ k. closes k.config.seats shut shard ++ ends_where k.config.seats shard is) (λ k. closes k.config.seats shut k.config.shards) h o h2 o2
    (λ k s q st. shards_of k s h st)
    (λ k q. let r = first_closed k.config.seats shut (shard + 1) k.config.shards (omega (arith, l, q)) in
    (r.0, r.1 ∙ ap (λ (xs : List (List Event)). xs ++ r.0) (sym (ap (λ (x : Bool). closes k.config.seats shut shard ++ ends_where k.config.seats shard x) e ∙ closed_more k.config.seats shut shard))))
    (stints_wants (λ k. k.config.shards ≡ h.directory.shards) (λ k. closes k.config.seats shut shard) (λ k. ends_where k.config.seats shard is) h o h1 o1 h2 o2 a c
    (wants_as (λ k. shard < k.config.shards) (λ k. k.config.shards ≡ h.directory.shards) (λ k s t printed. StintsBreakOff k (ends_where k.config.seats shard is) s t printed)
    (λ k s t printed. StintsBreakOff k (ends_where k.config.seats shard is) s t printed) h1 o1 h2 o2 (λ k s q st. omega (arith, l, q)) (λ k s q st t printed x. x) d))
