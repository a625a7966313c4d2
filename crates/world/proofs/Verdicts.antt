-- No copy has two verdicts, and one that was refused stands in no history: each key is at one position, told to its seat or on its way there, or in the lane or the hand of one shard.
use Rattle.std.proofs.Common.{◌≡◌, ℕ, ◌+◌, ◌≤◌, ◌≢◌, ◌⊎◌, inl, inr, Bool, true, false, cond, ◌&&◌, ◌==◌, eqb, List, [], ◌∷◌, ◌++◌, map, filter, filter_map, All, AllPairs, refl, sym, ap, ◌∙◌, arith, subst, Option, Some, None}
use Rattle.std.proofs.lemmas.Bool.{eq-eqb}
use Rattle.std.proofs.lemmas.Bool.Decides.{eqb_tells}
use Rattle.std.proofs.lemmas.List.{map-append}
use Rattle.std.proofs.lemmas.List.Elements.{filter_map-append}
use Rattle.std.specs.List.{cons_option}
use Rattle.shard_queue.specs.declared.lane.Entry.{Entry}
use Rattle.shard_queue.specs.declared.lane.Entry.TheVariants.{Item, End}
use Rattle.shard_queue.specs.Lane.{put, took, set_at}
use Rattle.shard_queue.proofs.AtLaws.{at_cases, at_both, at_each}
use Rattle.delivery_token.specs.declared.CopyKey.{CopyKey}
use Rattle.delivery_token.specs.declared.Job.{Job}
use Rattle.delivery_token.specs.Keys.{Below}
use Rattle.delivery_token.specs.Copies.{stored_pair, stored_in}
use Rattle.delivery_token.specs.declared.Verdict.{Verdict}
use Rattle.delivery_token.specs.declared.Verdict.TheVariants.{Stored, Refused}
use Rattle.delivery_token.specs.declared.Refusal.{Refusal}
use Rattle.delivery_token.specs.declared.log.Noted.{Noted}
use Rattle.world.specs.World.{Config, World, Box, Session, Hand, Empty, Taken, Done, MayPut, EntryBelow, put_joins, put_full, put_no_memory, put_shut, end_joins, end_full, takes, take_empty, delivers, deliver_spent, deliver_full, deliver_no_memory, answers, answer_full, hears_one, enters, enter_spent, enter_no_memory, MailStep, mails, mail_lapped, mail_spent, mail_no_memory, LeaveStep, leaves, leave_spent, discards_them, discard_spent, Event, Put, PutEnd, Take, Deliver, Answer, Hear, Enter, Status, Read, Store, Expunge, Feed, Leave, Discard, Step, Steps, IsWorld, in_hand, puts, hears, shard_of, empty_world}
use Rattle.world.specs.Law.{item_of, items, stored, held, due, accepted_of, pair_of, pairs}
use Rattle.world.specs.Known.{key_in}
use Rattle.world.proofs.Base.{Every, every_append, every_map, every_weaker, every_of_all, all_of_every, Rising, rising_pair}
use Rattle.world.proofs.Mails.{IsIn, every_in_itself}
use Rattle.world.proofs.Kept.{Kept}
use Rattle.world.proofs.Known.{Wanted, EntryKnown, HandKnown, ReplyKnown, Known, known_step}

-- How often a key stands in a list

abbrev same_key : CopyKey → CopyKey → Bool
same_key x y = eqb x.seat y.seat && (eqb x.serial y.serial && (eqb x.message y.message && eqb x.recipient y.recipient))

-- 1 for the same key, 0 for another
abbrev one : CopyKey → CopyKey → ℕ
one x y = cond (same_key x y) 1 0

one_same : (x y : CopyKey) → x ≡ y → one x y ≡ 1
one_same x y e = rw (eq-eqb x.seat y.seat (ap (λ k. k.seat) e), eq-eqb x.serial y.serial (ap (λ k. k.serial) e), eq-eqb x.message y.message (ap (λ k. k.message) e), eq-eqb x.recipient y.recipient (ap (λ k. k.recipient) e)) refl

one_tells : (x y : CopyKey) → ((one x y ≡ 1) × (x ≡ y)) ⊎ ((one x y ≡ 0) × (x ≢ y))
one_tells x y = go (eqb_tells x.seat y.seat) (eqb_tells x.serial y.serial) (eqb_tells x.message y.message) (eqb_tells x.recipient y.recipient)
  where
    Tells : ℕ → ℕ → Type 0
    Tells a b = ((eqb a b ≡ true) × (a ≡ b)) ⊎ ((eqb a b ≡ false) × (a ≢ b))

    by_fields : (x y : CopyKey) → x.seat ≡ y.seat → x.serial ≡ y.serial → x.message ≡ y.message → x.recipient ≡ y.recipient → x ≡ y
    by_fields x y a b c d =
        let from : CopyKey = record { seat = x.seat; serial = x.serial; message = x.message; recipient = x.recipient } in
        let to : CopyKey = record { seat = y.seat; serial = y.serial; message = y.message; recipient = y.recipient } in
        let e : from ≡ to = rw (a, b, c, d) refl in
        e

    go : Tells x.seat y.seat → Tells x.serial y.serial → Tells x.message y.message → Tells x.recipient y.recipient → ((one x y ≡ 1) × (x ≡ y)) ⊎ ((one x y ≡ 0) × (x ≢ y))
    go (inl (a, ae)) (inl (b, be)) (inl (c, ce)) (inl (d, de)) = inl (rw (a, b, c, d) refl, by_fields x y ae be ce de)
    go (inl (a, ae)) (inl (b, be)) (inl (c, ce)) (inr (d, de)) = inr (rw (a, b, c, d) refl, λ e. de (ap (λ k. k.recipient) e))
    go (inl (a, ae)) (inl (b, be)) (inr (c, ce)) d = inr (rw (a, b, c) refl, λ e. ce (ap (λ k. k.message) e))
    go (inl (a, ae)) (inr (b, be)) c d = inr (rw (a, b) refl, λ e. be (ap (λ k. k.serial) e))
    go (inr (a, ae)) b c d = inr (rw a refl, λ e. ae (ap (λ k. k.seat) e))

abbrev pub times : CopyKey → List CopyKey → ℕ
times x [] = 0
times x (y ∷ ys) = one x y + times x ys

times_append : (x : CopyKey) (ys zs : List CopyKey) → times x (ys ++ zs) ≡ times x ys + times x zs
times_append x [] zs = omega arith
times_append x (y ∷ ys) zs = let e : times x (ys ++ zs) ≡ times x ys + times x zs = times_append x ys zs in omega (arith, e)

times_none : (x : CopyKey) (ys : List CopyKey) → Every (λ y. x ≢ y) ys → times x ys ≡ 0
times_none x [] h = refl
times_none x (y ∷ ys) h = go (one_tells x y) (times_none x ys h.1)
  where
    go : ((one x y ≡ 1) × (x ≡ y)) ⊎ ((one x y ≡ 0) × (x ≢ y)) → times x ys ≡ 0 → one x y + times x ys ≡ 0
    go (inl (a, e)) k = absurd (h.0 e)
    go (inr (a, e)) k = omega (arith, a, k)

times_in : (x : CopyKey) (ys : List CopyKey) → IsIn x ys → 1 ≤ times x ys
times_in x [] h = absurd h
times_in x (y ∷ ys) (inl e) = omega (arith, one_same x y e)
times_in x (y ∷ ys) (inr h) = omega (arith, times_in x ys h)

-- Where a key is

abbrev pub note_keys : List Noted → List CopyKey
note_keys rs = map (λ r. r.key) rs

abbrev pub hand_keys : Hand → List CopyKey
hand_keys Empty = []
hand_keys (Taken c) = c.key ∷ []
hand_keys (Done r) = r.key ∷ []

-- how often seat p was told of it, or will be by its reply lane
abbrev pub told : World → ℕ → CopyKey → ℕ
told w p x = times x (note_keys (w.heard p)) + times x (note_keys (items (w.replies p).waiting))

-- how often it is in the hand of shard s, or waits in its lane
abbrev pub flight : World → CopyKey → ℕ → ℕ
flight w x s = times x (hand_keys (w.hand s)) + times x (filter_map key_in (w.lane s).waiting)

-- at most once in all
pub record Alone (told : ℕ) (flight : ℕ → ℕ) : Type 0 where
  pub once : (s : ℕ) → told + flight s ≤ 1
  pub apart : (s t : ℕ) → s ≢ t → flight s + flight t ≤ 1

pub record Verdicts (w : World) : Type 0 where
  -- a seat hears of its own copies
  pub own : (p : ℕ) → Every (λ r. r.key.seat ≡ p) (w.heard p)
  pub alone : (p : ℕ) (x : CopyKey) → x.seat ≡ p → Alone (told w p x) (flight w x)

alone_same : (a b : ℕ) (f g : ℕ → ℕ) → b ≡ a → ((s : ℕ) → g s ≡ f s) → Alone a f → Alone b g
alone_same a b f g e h A = record {
  once = λ s. omega (arith, e, h s, A.once s);
  apart = λ s t o. omega (arith, h s, h t, A.apart s t o);
}

-- told, and with no shard
alone_told : (a : ℕ) (f : ℕ → ℕ) → a ≤ 1 → ((s : ℕ) → f s ≡ 0) → Alone a f
alone_told a f h none = record {
  once = λ s. omega (arith, h, none s);
  apart = λ s t o. omega (arith, none s, none t);
}

-- with shard s alone
alone_there : (a : ℕ) (f : ℕ → ℕ) (s : ℕ) → a ≡ 0 → f s ≤ 1 → ((t : ℕ) → t ≢ s → f t ≡ 0) → Alone a f
alone_there a f s e h none = record {
  once = λ t. once t (eqb_tells t s);
  apart = λ t u o. apart t u o (eqb_tells t s) (eqb_tells u s);
}
  where
    once : (t : ℕ) → ((eqb t s ≡ true) × (t ≡ s)) ⊎ ((eqb t s ≡ false) × (t ≢ s)) → a + f t ≤ 1
    once t (inl (b, same)) = rw same (omega (arith, e, h))
    once t (inr (b, other)) = omega (arith, e, none t other)

    apart : (t u : ℕ) → t ≢ u → ((eqb t s ≡ true) × (t ≡ s)) ⊎ ((eqb t s ≡ false) × (t ≢ s)) → ((eqb u s ≡ true) × (u ≡ s)) ⊎ ((eqb u s ≡ false) × (u ≢ s)) → f t + f u ≤ 1
    apart t u o (inl (b, same)) (inl (c, also)) = absurd (o (same ∙ sym also))
    apart t u o (inl (b, same)) (inr (c, other)) = rw same (omega (arith, h, none u other))
    apart t u o (inr (b, other)) (inl (c, same)) = rw same (omega (arith, h, none t other))
    apart t u o (inr (b, other)) (inr (c, also)) = omega (arith, none t other, none u also)

-- what holds of a key of seat p holds of the same key, whatever its seat is called
alone_key : (v : World) (p q : ℕ) (x y : CopyKey) → x ≡ y → x.seat ≡ q → y.seat ≡ p → Alone (told v p y) (flight v y) → Alone (told v q x) (flight v x)
alone_key v p q x y same here there A =
    let seats : q ≡ p = sym here ∙ (ap (λ k. k.seat) same ∙ there) in
    subst (λ o. Alone (told v o x) (flight v x)) (sym seats) (subst (λ k. Alone (told v p k) (flight v k)) (sym same) A)

-- Put

pub below_itself : (x : CopyKey) → Below x x → ⊥
below_itself x (inl h) = absurd (omega arith)
below_itself x (inr (e, inl h)) = absurd (omega arith)
below_itself x (inr (e, inr (f, h))) = absurd (omega arith)

below_differs : (x y : CopyKey) → Below x y → y ≢ x
below_differs x y h e = below_itself x (subst (Below x) e h)

sent_below : (y x : CopyKey) (es : List (Entry Job)) → Every (EntryBelow y) es → IsIn x (filter_map key_in es) → Below x y
sent_below y x [] h i = absurd i
sent_below y x (Item p c ∷ es) h (inl e) = rw e h.0
sent_below y x (Item p c ∷ es) h (inr i) = sent_below y x es h.1 i
sent_below y x (End p ∷ es) h i = sent_below y x es h.1 i

-- the key of a copy that may be put was not sent yet
unsent : (k : Config) (w : World) (p s : ℕ) (c : Job) → MayPut k w p s c → (x : CopyKey) (m : ℕ) → Wanted k w x m → c.key ≢ x
unsent k w p s c may x m h e =
    let seat : x.seat ≡ p = ap (λ y. y.seat) (sym e) ∙ may.own in
    below_differs x c.key (sent_below c.key x ((w.lane h.shard).sent p) (every_of_all (EntryBelow c.key) ((w.lane h.shard).sent p) (may.above_sent h.shard))
    (subst (λ q. IsIn x (filter_map key_in ((w.lane h.shard).sent q))) seat h.sent)) e

fresh_told : (k : Config) (w : World) (p s : ℕ) (c : Job) → Known k w → MayPut k w p s c → told w p c.key ≡ 0
fresh_told k w p s c K may = omega (arith, heard, replies)
  where
    heard : times c.key (note_keys (w.heard p)) ≡ 0
    heard = times_none c.key (note_keys (w.heard p)) (every_map (λ y. c.key ≢ y) (λ (r : Noted). r.key) (w.heard p)
        (every_weaker _ _ (λ r h. below_differs r.key c.key h) (w.heard p) (every_of_all (λ r. Below r.key c.key) (w.heard p) may.above_heard)))

    waits : (es : List (Entry Noted)) → Every (ReplyKnown k w p) es → Every (λ y. c.key ≢ y) (note_keys (items es))
    waits [] h = tt
    waits (Item t r ∷ es) h = (unsent k w p s c may r.key r.mailbox h.0.1, waits es h.1)
    waits (End t ∷ es) h = absurd h.0

    replies : times c.key (note_keys (items (w.replies p).waiting)) ≡ 0
    replies = times_none c.key _ (waits (w.replies p).waiting (K.replies p))

fresh_flight : (k : Config) (w : World) (p s : ℕ) (c : Job) → Known k w → MayPut k w p s c → (t : ℕ) → flight w c.key t ≡ 0
fresh_flight k w p s c K may t = omega (arith, times_none c.key _ (in_hands (w.hand t) (K.hands t)), times_none c.key _ (in_lanes (w.lane t).waiting (K.lanes t)))
  where
    in_hands : (h : Hand) → HandKnown k w h → Every (λ y. c.key ≢ y) (hand_keys h)
    in_hands Empty h = tt
    in_hands (Taken d) h = (unsent k w p s c may d.key d.mailbox h, tt)
    in_hands (Done r) h = (unsent k w p s c may r.key r.mailbox h, tt)

    in_lanes : (es : List (Entry Job)) → Every (EntryKnown k w) es → Every (λ y. c.key ≢ y) (filter_map key_in es)
    in_lanes [] h = tt
    in_lanes (Item q d ∷ es) h = (unsent k w p s c may d.key d.mailbox h.0.1, in_lanes es h.1)
    in_lanes (End q ∷ es) h = in_lanes es h.1

-- an entry joins the lane of shard s
flight_puts : (w : World) (s : ℕ) (e : Entry Job) (x : CopyKey) (t : ℕ)
    → ((t ≡ s) × (flight (puts w s e) x t ≡ flight w x s + times x (filter_map key_in (e ∷ [])))) ⊎ ((t ≢ s) × (flight (puts w s e) x t ≡ flight w x t))
flight_puts w s e x t = at_cases (λ l. ((t ≡ s) × (times x (hand_keys (w.hand t)) + times x (filter_map key_in l.waiting) ≡ flight w x s + times x (filter_map key_in (e ∷ [])))) ⊎ ((t ≢ s) × (times x (hand_keys (w.hand t)) + times x (filter_map key_in l.waiting) ≡ flight w x t)))
    w.lane s (put (w.lane s) e) t
    (λ same. inl (same, rw (same, filter_map-append key_in (w.lane s).waiting (e ∷ []), times_append x (filter_map key_in (w.lane s).waiting) (filter_map key_in (e ∷ []))) (omega arith)))
    (λ other. inr (other, refl))

-- a key that the entry has not is where it was
puts_still : (w : World) (s : ℕ) (e : Entry Job) (x : CopyKey) → times x (filter_map key_in (e ∷ [])) ≡ 0 → (t : ℕ) → flight (puts w s e) x t ≡ flight w x t
puts_still w s e x none t = go (flight_puts w s e x t)
  where
    go : ((t ≡ s) × (flight (puts w s e) x t ≡ flight w x s + times x (filter_map key_in (e ∷ [])))) ⊎ ((t ≢ s) × (flight (puts w s e) x t ≡ flight w x t)) → flight (puts w s e) x t ≡ flight w x t
    go (inl (same, h)) = let f : flight (puts w s e) x t ≡ flight w x s = omega (arith, h, none) in f ∙ ap (flight w x) (sym same)
    go (inr (other, h)) = h

verdicts_put : (k : Config) (w : World) (p s : ℕ) (c : Job) → Known k w → Verdicts w → MayPut k w p s c → Verdicts (puts w s (Item p c))
verdicts_put k w p s c K V may = record { own = V.own; alone = λ q x here. go q x here (one_tells x c.key) }
  where
    v : World
    v = puts w s (Item p c)

    Moves : ℕ → Type 0
    Moves t = ((t ≡ s) × (flight v c.key t ≡ flight w c.key s + (one c.key c.key + 0))) ⊎ ((t ≢ s) × (flight v c.key t ≡ flight w c.key t))

    mine : Moves s → flight v c.key s ≤ 1
    mine (inl (same, e)) = omega (arith, e, fresh_flight k w p s c K may s, one_same c.key c.key refl)
    mine (inr (other, e)) = absurd (other refl)

    others : (t : ℕ) → t ≢ s → Moves t → flight v c.key t ≡ 0
    others t other (inl (same, e)) = absurd (other same)
    others t other (inr (also, e)) = e ∙ fresh_flight k w p s c K may t

    new : Alone (told v p c.key) (flight v c.key)
    new = alone_there (told w p c.key) (flight v c.key) s (fresh_told k w p s c K may) (mine (flight_puts w s (Item p c) c.key s)) (λ t other. others t other (flight_puts w s (Item p c) c.key t))

    go : (q : ℕ) (x : CopyKey) → x.seat ≡ q → ((one x c.key ≡ 1) × (x ≡ c.key)) ⊎ ((one x c.key ≡ 0) × (x ≢ c.key)) → Alone (told v q x) (flight v x)
    go q x here (inl (a, same)) = alone_key v p q x c.key same here may.own new
    go q x here (inr (none, other)) = alone_same (told w q x) (told w q x) (flight w x) (flight v x) refl (puts_still w s (Item p c) x (omega (arith, none))) (V.alone q x here)

verdicts_end : (w : World) (p s : ℕ) → Verdicts w → Verdicts (puts w s (End p))
verdicts_end w p s V = record {
  own = V.own;
  alone = λ q x here. alone_same (told w q x) (told w q x) (flight w x) (flight (puts w s (End p)) x) refl (puts_still w s (End p) x refl) (V.alone q x here);
}

-- what seat p has heard, and one note more
told_push : (x : CopyKey) (rs : List Noted) (r : Noted) → times x (note_keys (rs ++ r ∷ [])) ≡ times x (note_keys rs) + one x r.key
told_push x rs r = ap (times x) (map-append (λ (y : Noted). y.key) rs (r ∷ [])) ∙ (times_append x (note_keys rs) (r.key ∷ []) ∙ omega arith)

-- a seat hears at once that a copy is refused
verdicts_hears : (k : Config) (w : World) (p s : ℕ) (c : Job) (r : Noted) → Known k w → Verdicts w → MayPut k w p s c → r.key ≡ c.key → Verdicts (hears w p r)
verdicts_hears k w p s c r K V may is = record {
  own = at_each (λ q rs. Every (λ y. y.key.seat ≡ q) rs) w.heard p (w.heard p ++ r ∷ []) V.own (every_append (λ y. y.key.seat ≡ p) (w.heard p) (r ∷ []) (V.own p) (mine, tt));
  alone = λ q x here. go q x here (one_tells x r.key);
}
  where
    v : World
    v = hears w p r

    mine : r.key.seat ≡ p
    mine = ap (λ y. y.seat) is ∙ may.own

    told_once : told v p r.key ≤ 1
    told_once = at_cases (λ rs. times r.key (note_keys rs) + times r.key (note_keys (items (w.replies p).waiting)) ≤ 1) w.heard p (w.heard p ++ r ∷ []) p
        (λ _. omega (arith, told_push r.key (w.heard p) r, one_same r.key r.key refl, subst (λ y. told w p y ≡ 0) (sym is) (fresh_told k w p s c K may)))
        (λ other. absurd (other refl))

    told_same : (q : ℕ) (x : CopyKey) → one x r.key ≡ 0 → told v q x ≡ told w q x
    told_same q x none = at_cases (λ rs. times x (note_keys rs) + times x (note_keys (items (w.replies q).waiting)) ≡ told w q x) w.heard p (w.heard p ++ r ∷ []) q
        (λ same. rw same (omega (arith, told_push x (w.heard p) r, none)))
        (λ _. refl)

    go : (q : ℕ) (x : CopyKey) → x.seat ≡ q → ((one x r.key ≡ 1) × (x ≡ r.key)) ⊎ ((one x r.key ≡ 0) × (x ≢ r.key)) → Alone (told v q x) (flight v x)
    go q x here (inl (a, same)) = alone_key v p q x r.key same here mine (alone_told (told v p r.key) (flight v r.key) told_once (λ t. subst (λ y. flight w y t ≡ 0) (sym is) (fresh_flight k w p s c K may t)))
    go q x here (inr (none, other)) = alone_same (told w q x) (told v q x) (flight w x) (flight v x) (told_same q x none) (λ t. refl) (V.alone q x here)

-- Take and Deliver

hand_took : (x : CopyKey) (e : Entry Job) (others : List (Entry Job)) → times x (hand_keys (in_hand e)) + times x (filter_map key_in others) ≡ times x (filter_map key_in (e ∷ others))
hand_took x (Item p c) others = omega arith
hand_took x (End p) others = omega arith

verdicts_take : (w : World) (s : ℕ) (e : Entry Job) (others : List (Entry Job)) → Verdicts w → w.hand s ≡ Empty → (w.lane s).waiting ≡ e ∷ others
    → Verdicts (record w { lane = set_at w.lane s (took (w.lane s) e others); hand = set_at w.hand s (in_hand e) })
verdicts_take w s e others V empty front = record { own = V.own; alone = λ p x here. alone_same (told w p x) (told w p x) (flight w x) (flight v x) refl (still x) (V.alone p x here) }
  where
    v : World
    v = record w { lane = set_at w.lane s (took (w.lane s) e others); hand = set_at w.hand s (in_hand e) }

    still : (x : CopyKey) (t : ℕ) → flight v x t ≡ flight w x t
    still x t = at_both (λ l h. times x (hand_keys h) + times x (filter_map key_in l.waiting) ≡ flight w x t) w.lane w.hand s (took (w.lane s) e others) (in_hand e) t
        (λ same. rw (same, empty, front) (omega (arith, hand_took x e others)))
        (λ _. refl)

-- the hand turns from a copy to a reply of the same key
verdicts_turn : (w : World) (s : ℕ) (c : Job) (r : Noted) (box : ℕ → Box) → Verdicts w → w.hand s ≡ Taken c → r.key ≡ c.key → Verdicts (record w { hand = set_at w.hand s (Done r); box = box })
verdicts_turn w s c r box V was is = record { own = V.own; alone = λ p x here. alone_same (told w p x) (told w p x) (flight w x) (flight v x) refl (still x) (V.alone p x here) }
  where
    v : World
    v = record w { hand = set_at w.hand s (Done r); box = box }

    still : (x : CopyKey) (t : ℕ) → flight v x t ≡ flight w x t
    still x t = at_cases (λ h. times x (hand_keys h) + times x (filter_map key_in (w.lane t).waiting) ≡ flight w x t) w.hand s (Done r) t
        (λ same. rw (same, was, is) refl)
        (λ _. refl)

-- Answer and Hear

waits_push : (x : CopyKey) (es : List (Entry Noted)) (s : ℕ) (r : Noted) → times x (note_keys (items (es ++ Item s r ∷ []))) ≡ times x (note_keys (items es)) + one x r.key
waits_push x es s r = ap (λ rs. times x (note_keys rs)) (filter_map-append item_of es (Item s r ∷ [])) ∙ told_push x (items es) r

verdicts_answer : (w : World) (s : ℕ) (r : Noted) → Verdicts w → w.hand s ≡ Done r
    → Verdicts (record w { hand = set_at w.hand s Empty; replies = set_at w.replies r.key.seat (put (w.replies r.key.seat) (Item s r)) })
verdicts_answer w s r V was = record { own = V.own; alone = λ p x here. go p x here (one_tells x r.key) }
  where
    q : ℕ
    q = r.key.seat

    v : World
    v = record w { hand = set_at w.hand s Empty; replies = set_at w.replies q (put (w.replies q) (Item s r)) }

    told_more : (x : CopyKey) → told v q x ≡ told w q x + one x r.key
    told_more x = at_cases (λ l. times x (note_keys (w.heard q)) + times x (note_keys (items l.waiting)) ≡ told w q x + one x r.key) w.replies q (put (w.replies q) (Item s r)) q
        (λ _. omega (arith, waits_push x (w.replies q).waiting s r))
        (λ other. absurd (other refl))

    told_same : (p : ℕ) (x : CopyKey) → one x r.key ≡ 0 → told v p x ≡ told w p x
    told_same p x none = at_cases (λ l. times x (note_keys (w.heard p)) + times x (note_keys (items l.waiting)) ≡ told w p x) w.replies q (put (w.replies q) (Item s r)) p
        (λ same. rw same (omega (arith, waits_push x (w.replies q).waiting s r, none)))
        (λ _. refl)

    held_before : (x : CopyKey) → flight w x s ≡ one x r.key + times x (filter_map key_in (w.lane s).waiting)
    held_before x = rw was (omega arith)

    flight_same : (x : CopyKey) → one x r.key ≡ 0 → (t : ℕ) → flight v x t ≡ flight w x t
    flight_same x none t = at_cases (λ h. times x (hand_keys h) + times x (filter_map key_in (w.lane t).waiting) ≡ flight w x t) w.hand s Empty t
        (λ same. rw same (omega (arith, held_before x, none)))
        (λ _. refl)

    A : Alone (told w q r.key) (flight w r.key)
    A = V.alone q r.key refl

    gone : (t : ℕ) → flight v r.key t ≡ 0
    gone t = at_cases (λ h. times r.key (hand_keys h) + times r.key (filter_map key_in (w.lane t).waiting) ≡ 0) w.hand s Empty t
        (λ same. rw same (omega (arith, held_before r.key, one_same r.key r.key refl, A.once s)))
        (λ other. omega (arith, held_before r.key, one_same r.key r.key refl, A.apart t s other))

    go : (p : ℕ) (x : CopyKey) → x.seat ≡ p → ((one x r.key ≡ 1) × (x ≡ r.key)) ⊎ ((one x r.key ≡ 0) × (x ≢ r.key)) → Alone (told v p x) (flight v x)
    go p x here (inl (a, same)) = alone_key v q p x r.key same here refl
        (alone_told (told v q r.key) (flight v r.key) (omega (arith, told_more r.key, held_before r.key, one_same r.key r.key refl, A.once s)) gone)
    go p x here (inr (none, other)) = alone_same (told w p x) (told v p x) (flight w x) (flight v x) (told_same p x none) (flight_same x none) (V.alone p x here)

verdicts_hear : (k : Config) (w : World) (p s : ℕ) (r : Noted) (others : List (Entry Noted)) → Known k w → Verdicts w → (w.replies p).waiting ≡ Item s r ∷ others
    → Verdicts (record w { replies = set_at w.replies p (took (w.replies p) (Item s r) others); heard = set_at w.heard p (w.heard p ++ r ∷ []) })
verdicts_hear k w p s r others K V front = record {
  own = at_each (λ q rs. Every (λ y. y.key.seat ≡ q) rs) w.heard p (w.heard p ++ r ∷ []) V.own (every_append (λ y. y.key.seat ≡ p) (w.heard p) (r ∷ []) (V.own p) (first.0.0, tt));
  alone = λ q x here. alone_same (told w q x) (told v q x) (flight w x) (flight v x) (told_same q x) (λ t. refl) (V.alone q x here);
}
  where
    v : World
    v = record w { replies = set_at w.replies p (took (w.replies p) (Item s r) others); heard = set_at w.heard p (w.heard p ++ r ∷ []) }

    first : Every (ReplyKnown k w p) (Item s r ∷ others)
    first = subst (λ es. Every (ReplyKnown k w p) es) front (K.replies p)

    told_same : (q : ℕ) (x : CopyKey) → told v q x ≡ told w q x
    told_same q x = at_both (λ l rs. times x (note_keys rs) + times x (note_keys (items l.waiting)) ≡ told w q x) w.replies w.heard p (took (w.replies p) (Item s r) others) (w.heard p ++ r ∷ []) q
        (λ same. rw (same, front) (omega (arith, told_push x (w.heard p) r)))
        (λ _. refl)

-- Every event

-- only mailboxes and sessions change
verdicts_rest : (w : World) (box : ℕ → Box) (session : ℕ → Option Session) (opened : ℕ → ℕ) → Verdicts w → Verdicts (record w { box = box; session = session; opened = opened })
verdicts_rest w box session opened V = record { own = V.own; alone = V.alone }

verdicts_mail : (k : Config) (w : World) (n : ℕ) (s : Session) (a : _) (shown changes : List _) (v : World) → Verdicts w → MailStep k w n s a shown changes v → Verdicts v
verdicts_mail k w n s a shown changes v V (mails b i L e) = rw e (verdicts_rest w _ _ _ V)
verdicts_mail k w n s a shown changes v V (mail_lapped i e) = rw e V
verdicts_mail k w n s a shown changes v V (mail_spent i j e) = rw e V
verdicts_mail k w n s a shown changes v V (mail_no_memory h i j e) = rw e V

verdicts_leave : (k : Config) (w : World) (n : ℕ) (s : Session) (changes : List _) (v : World) → Verdicts w → LeaveStep k w n s changes v → Verdicts v
verdicts_leave k w n s changes v V (leaves b L e) = rw e (verdicts_rest w _ _ _ V)
verdicts_leave k w n s changes v V (leave_spent i e) = rw e V

verdicts_step : (k : Config) (w : World) (e : Event) (v : World) → Known k w → Verdicts w → Step k w e v → Verdicts v
verdicts_step k w (Put p s c) v K V (put_joins may live room e) = rw e (verdicts_put k w p s c K V may)
verdicts_step k w (Put p s c) v K V (put_full may live room e) = rw e (verdicts_hears k w p s c _ K V may refl)
verdicts_step k w (Put p s c) v K V (put_no_memory may live room e) = rw e (verdicts_hears k w p s c _ K V may refl)
verdicts_step k w (Put p s c) v K V (put_shut may ended e) = rw e (verdicts_hears k w p s c _ K V may refl)
verdicts_step k w (PutEnd p s) v K V (end_joins seat shard live room e) = rw e (verdicts_end w p s V)
verdicts_step k w (PutEnd p s) v K V (end_full seat shard live room e) = rw e V
verdicts_step k w (Take s) v K V (takes x others empty front e) = rw e (verdicts_take w s x others V empty front)
verdicts_step k w (Take s) v K V (take_empty empty front e) = rw e V
verdicts_step k w (Deliver s) v K V (delivers c b was uid room L e) = rw e (verdicts_turn w s c _ _ V was refl)
verdicts_step k w (Deliver s) v K V (deliver_spent c was h e) = rw e (verdicts_turn w s c _ _ V was refl)
verdicts_step k w (Deliver s) v K V (deliver_full c was h i e) = rw e (verdicts_turn w s c _ _ V was refl)
verdicts_step k w (Deliver s) v K V (deliver_no_memory c was h i e) = rw e (verdicts_turn w s c _ _ V was refl)
verdicts_step k w (Answer s) v K V (answers r was room e) = rw e (verdicts_answer w s r V was)
verdicts_step k w (Answer s) v K V (answer_full r was room e) = rw e V
verdicts_step k w (Hear p) v K V (hears_one s r others front e) = rw e (verdicts_hear k w p s r others K V front)
verdicts_step k w (Enter n m) v K V (enters a b c d e) = rw e (verdicts_rest w _ _ _ V)
verdicts_step k w (Enter n m) v K V (enter_spent a b c d e) = rw e V
verdicts_step k w (Enter n m) v K V (enter_no_memory a b c d e) = rw e V
verdicts_step k w (Status m) v K V e = rw e V
verdicts_step k w (Read n u mark) v K V (s, is, step) = verdicts_mail k w n s _ _ _ v V step
verdicts_step k w (Store n u op) v K V (s, is, step) = verdicts_mail k w n s _ _ _ v V step
verdicts_step k w (Expunge n may_go) v K V (s, is, step) = verdicts_mail k w n s _ _ _ v V step
verdicts_step k w (Feed n limit) v K V (s, is, step) = verdicts_mail k w n s _ _ _ v V step
verdicts_step k w (Leave n removing) v K V (s, is, step) = verdicts_leave k w n s _ v V step
verdicts_step k w (Discard m goes) v K V (discards_them b there L e) = rw e (verdicts_rest w _ _ _ V)
verdicts_step k w (Discard m goes) v K V (discard_spent there h e) = rw e V

verdicts_steps : (k : Config) (w : World) (es : List Event) (v : World) → Known k w → Verdicts w → Steps k w es v → Verdicts v
verdicts_steps k w [] v K V e = rw e V
verdicts_steps k w (x ∷ es) v K V (u, first, others) = verdicts_steps k u es v (known_step k w x u K first) (verdicts_step k w x u K V first) others

pub verdicts_always : (k : Config) (events : List Event) (w : World) → IsWorld k events w → Verdicts w
verdicts_always k events w h = verdicts_steps k empty_world events w (record { lanes = λ s. tt; hands = λ s. tt; replies = λ p. tt }) (record { own = λ p. tt; alone = λ p x here. record { once = λ s. omega arith; apart = λ s t o. omega arith } }) h

-- What follows

-- no other of these has the key
others_differ : (x : CopyKey) (rs : List Noted) → times x (note_keys rs) ≤ 0 → Every (λ r. x ≢ r.key) rs
others_differ x [] h = tt
others_differ x (r ∷ rs) h = ((λ e. absurd (omega (arith, h, one_same x r.key e))), others_differ x rs (omega (arith, h)))

notes_apart : (p : ℕ) (rs : List Noted) → ((x : CopyKey) → x.seat ≡ p → times x (note_keys rs) ≤ 1) → Every (λ r. r.key.seat ≡ p) rs → Rising (λ a b. a.key ≢ b.key) rs
notes_apart p [] h own = tt
notes_apart p (r ∷ rs) h own = (others_differ r.key rs (omega (arith, h r.key own.0, one_same r.key r.key refl)), notes_apart p rs (λ x here. omega (arith, h x here)) own.1)

pub one_verdict : (w : World) → Verdicts w → (p : ℕ) → AllPairs (λ a b. a.key ≢ b.key) (w.heard p)
one_verdict w V p = rising_pair (λ a b. a.key ≢ b.key) (w.heard p) (notes_apart p (w.heard p) (λ x here. omega (arith, (V.alone p x here).once 0)) (V.own p))

is_in_or : {A : Type 0} (x : A) (xs ys : List A) → IsIn x (xs ++ ys) → IsIn x xs ⊎ IsIn x ys
is_in_or x [] ys h = inr h
is_in_or x (y ∷ xs) ys (inl e) = inl (inl e)
is_in_or x (y ∷ xs) ys (inr h) = go (is_in_or x xs ys h)
  where
    go : IsIn x xs ⊎ IsIn x ys → ((x ≡ y) ⊎ IsIn x xs) ⊎ IsIn x ys
    go (inl i) = inl (inr i)
    go (inr i) = inr i

is_in_map : {A B : Type 0} (f : A → B) (x : A) (xs : List A) → IsIn x xs → IsIn (f x) (map f xs)
is_in_map f x [] h = absurd h
is_in_map f x (y ∷ xs) (inl e) = inl (ap f e)
is_in_map f x (y ∷ xs) (inr h) = inr (is_in_map f x xs h)

is_in_filter : {A : Type 0} (test : A → Bool) (x : A) (xs : List A) → test x ≡ true → IsIn x xs → IsIn x (filter test xs)
is_in_filter test x [] t h = absurd h
is_in_filter test x (y ∷ xs) t (inl e) = rw (← e, t) (inl refl)
is_in_filter test x (y ∷ xs) t (inr h) = go (test y) (is_in_filter test x xs t h)
  where
    go : (b : Bool) → IsIn x (filter test xs) → IsIn x (cond b (y ∷ filter test xs) (filter test xs))
    go true i = inr i
    go false i = i

-- a pair that is stored by a note has the note's key
pair_key : (m : ℕ) (r : Noted) (x : CopyKey) (u : ℕ) (ps : List (CopyKey × ℕ)) → IsIn (x, u) (cons_option (stored_pair m r r.verdict) ps) → (x ≡ r.key) ⊎ IsIn (x, u) ps
pair_key m r x u ps = go r.verdict
  where
    of_test : (b : Bool) (n : ℕ) → IsIn (x, u) (cons_option (cond b (Some (r.key, n)) None) ps) → (x ≡ r.key) ⊎ IsIn (x, u) ps
    of_test true n (inl e) = inl (ap (λ pair. pair.0) e)
    of_test true n (inr h) = inr h
    of_test false n h = inr h

    go : (v : Verdict) → IsIn (x, u) (cons_option (stored_pair m r v) ps) → (x ≡ r.key) ⊎ IsIn (x, u) ps
    go (Stored n) h = of_test (r.mailbox == m) n h
    go (Refused why) h = inr h

stored_counts : (m : ℕ) (rs : List Noted) (x : CopyKey) (u : ℕ) → IsIn (x, u) (stored_in m rs) → 1 ≤ times x (note_keys rs)
stored_counts m [] x u h = absurd h
stored_counts m (r ∷ rs) x u h = go (pair_key m r x u (stored_in m rs) h) (stored_counts m rs x u)
  where
    go : (x ≡ r.key) ⊎ IsIn (x, u) (stored_in m rs) → (IsIn (x, u) (stored_in m rs) → 1 ≤ times x (note_keys rs)) → 1 ≤ one x r.key + times x (note_keys rs)
    go (inl e) more = omega (arith, one_same x r.key e)
    go (inr i) more = omega (arith, more i)

-- the notes that one copy was refused and that one of its key was stored are two
both_count : (m : ℕ) (rs : List Noted) (r : Noted) (why : Refusal) (u : ℕ) → r.verdict ≡ Refused why → IsIn r rs → IsIn (r.key, u) (stored_in m rs) → 2 ≤ times r.key (note_keys rs)
both_count m [] r why u v i h = absurd i
both_count m (y ∷ rs) r why u v (inl e) h =
    let said : y.verdict ≡ Refused why = ap (λ n. n.verdict) (sym e) ∙ v in
    let later : IsIn (r.key, u) (stored_in m rs) = rw said at h in
    omega (arith, one_same r.key y.key (ap (λ n. n.key) e), stored_counts m rs r.key u later)
both_count m (y ∷ rs) r why u v (inr i) h = go (pair_key m y r.key u (stored_in m rs) h) (both_count m rs r why u v i)
  where
    go : (r.key ≡ y.key) ⊎ IsIn (r.key, u) (stored_in m rs) → (IsIn (r.key, u) (stored_in m rs) → 2 ≤ times r.key (note_keys rs)) → 2 ≤ one r.key y.key + times r.key (note_keys rs)
    go (inl e) more = omega (arith, one_same r.key y.key e, times_in r.key (note_keys rs) (is_in_map (λ n. n.key) r rs i))
    go (inr k) more = omega (arith, more k)

held_counts : (m p : ℕ) (h : Hand) (x : CopyKey) (u : ℕ) → IsIn (x, u) (stored_in m (held p h)) → 1 ≤ times x (hand_keys h)
held_counts m p Empty x u i = absurd i
held_counts m p (Taken c) x u i = absurd i
held_counts m p (Done r) x u i = go (r.key.seat == p) i
  where
    go : (b : Bool) → IsIn (x, u) (stored_in m (cond b (r ∷ []) [])) → 1 ≤ one x r.key + 0
    go true j = stored_counts m (r ∷ []) x u j
    go false j = absurd j

every_in : {A : Type 0} (P : A → Type 0) (x : A) (xs : List A) → IsIn x xs → Every P xs → P x
every_in P x [] i h = absurd i
every_in P x (y ∷ xs) (inl e) h = rw e h.0
every_in P x (y ∷ xs) (inr i) h = every_in P x xs i h.1

-- a copy that its seat heard as refused is none that was accepted
refused_not_in : (k : Config) (w : World) → Kept k w → Verdicts w → (p : ℕ) (r : Noted) (why : Refusal) → IsIn r (w.heard p) → r.verdict ≡ Refused why → (m : ℕ) (a : Job × ℕ) → IsIn a (w.box m).accepted → a.0.key ≢ r.key
refused_not_in k w K V p r why heard v m a there same =
    let mine : r.key.seat ≡ p = every_in (λ y. y.key.seat ≡ p) r (w.heard p) heard (V.own p) in
    let own : a.0.key.seat ≡ p = ap (λ y. y.seat) same ∙ mine in
    let pair : IsIn (r.key, a.1) (pairs (accepted_of w p m)) = subst (λ y. IsIn (y, a.1) (pairs (accepted_of w p m))) same
    (is_in_map pair_of a (accepted_of w p m) (is_in_filter (λ b. b.0.key.seat == p) a (w.box m).accepted (eq-eqb a.0.key.seat p own) there)) in
    go mine (is_in_or (r.key, a.1) (stored w p m) (due k w p m) (subst (IsIn (r.key, a.1)) (K.history p m) pair))
  where
    told_once : 1 ≤ times r.key (note_keys (w.heard p))
    told_once = times_in r.key (note_keys (w.heard p)) (is_in_map (λ n. n.key) r (w.heard p) heard)

    go2 : r.key.seat ≡ p → IsIn (r.key, a.1) (stored_in m (items (w.replies p).waiting)) ⊎ IsIn (r.key, a.1) (stored_in m (held p (w.hand (shard_of k m)))) → ⊥
    go2 mine (inl i) = absurd (omega (arith, told_once, stored_counts m (items (w.replies p).waiting) r.key a.1 i, (V.alone p r.key mine).once 0))
    go2 mine (inr i) = absurd (omega (arith, told_once, held_counts m p (w.hand (shard_of k m)) r.key a.1 i, (V.alone p r.key mine).once (shard_of k m)))

    go : r.key.seat ≡ p → IsIn (r.key, a.1) (stored w p m) ⊎ IsIn (r.key, a.1) (due k w p m) → ⊥
    go mine (inl i) = absurd (omega (arith, both_count m (w.heard p) r why a.1 v heard i, (V.alone p r.key mine).once 0))
    go mine (inr i) = go2 mine (is_in_or (r.key, a.1) (stored_in m (items (w.replies p).waiting)) (stored_in m (held p (w.hand (shard_of k m)))) i)

pub refused_nowhere : (k : Config) (w : World) → Kept k w → Verdicts w → (p : ℕ) (r : Noted) (why : Refusal) → IsIn r (w.heard p) → r.verdict ≡ Refused why → (m : ℕ) → All (λ a. a.0.key ≢ r.key) (w.box m).accepted
refused_nowhere k w K V p r why heard v m = all_of_every (λ a. a.0.key ≢ r.key) (w.box m).accepted
    (every_weaker _ _ (λ a there. refused_not_in k w K V p r why heard v m a there) (w.box m).accepted (every_in_itself (w.box m).accepted))
