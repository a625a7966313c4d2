-- How what was tried goes together: in a row, over and over, and with want of memory at the end.
use Rattle.std.proofs.Common.{◌≡◌, ℕ, zero, suc, ◌+◌, ◌<◌, ◌≤◌, ◌⊎◌, inl, inr, Bool, true, false, List, [], ◌∷◌, ◌++◌, length, map, ◌-◌, take, get_or, add-one, zero-add, refl, ap, sym, ◌∙◌, subst, arith, append_assoc, Option, Some, None, Result, Ok, Err}
use Rattle.std.specs.Prelude.{All, replicate, ◌||◌, filter, not, cond}
use Rattle.std.specs.Result.{IsErr, OnErr}
use Rattle.std.specs.List.{range_with_len}
use Rattle.std.proofs.lemmas.List.FromFn.{map-range_with_len_more}
use Rattle.change_ring.proofs.RangeLaws.{range-push}
use Rattle.std.proofs.lemmas.List.{append-nil, map-append}
use Rattle.house.specs.declared.event.Event.{Event}
use Rattle.house.specs.declared.event.Event.TheVariants.{Bytes, Vanish, Put, Take, Deliver, Answer, Hear, End, Close, Enter, Say, Idle, Leave}
use Rattle.house.specs.Setup.{Setup}
use Rattle.house.specs.Scene.{HasNothing, HearPlay, PutPlay, Scene, connection_hears, connection_puts, is_shut_in, place_of, seat_of, session_hears, session_puts}
use Rattle.house_peers.specs.Visitor.{SeatedVisitor}
use Rattle.house_peers.specs.SeatedSession.{SeatedSession}
use Rattle.house.specs.Settling.{BreaksOff, GoesRounds, Happened, InTurn, RoundsBreakOff, Stint, StintBreaksOff, Stints, StintsBreakOff, Tries, TurnBreaksOff, cut_short, happens, in_a_row, passes, round, unbegun}
use Rattle.house.specs.Stands.{StandsFor}
use Rattle.house.specs.Steps.{Follows, FollowsInPart, IsFreePlace, IsLeft, IsNoNumber, IsNoPlace, IsNobody, IsVacant, KeepsMarks, Led, is_left}
use Rattle.house.proofs.Ended.{IsFree, nobody_at_place, vacant_free}
use Rattle.house.proofs.Visiting.{at_place}
use Rattle.envelope.specs.Names.{Directory, is_shut}
use Rattle.delivery_core.specs.New.{first_key}
use Rattle.std.proofs.lemmas.List.Elements.{All-append, All-cons, All-get_or, All-head, All-nil, All-tail, filter-append}
use Rattle.std.proofs.Math.Seq.{take-suc}
use Rattle.house.specs.House.{House}
use Rattle.house.specs.Effort.{MakesLess, effort}
use Rattle.house.specs.inner.Trying.{Came, CameStint, CameStints, Did, DidStints, IsAmong, IsOwn, Moved, Rests, Wants, WantsStints, Went, closes, hears, puts, serve, serves}
pub use Rattle.house.proofs.InPart.{plays_part}

-- ---- in a row

pub happened-append : (k : Setup) (es fs : List Event) (s m t : Scene) (one two : List ℕ) → Happened k es s m one → Happened k fs m t two → Happened k (es ++ fs) s t (one ++ two)
happened-append k [] fs s m t one two (e, p) g =
    subst (λ (x : List ℕ). Happened k fs s t (x ++ two)) (sym p) (subst (λ (x : Scene). Happened k fs x t two) e g)
happened-append k (e ∷ es) fs s m t one two (n, a, b, p, r, q) g =
    (n, a, b ++ two, p, happened-append k es fs n m t b two r g, ap (λ (x : List ℕ). x ++ two) q ∙ append_assoc a b two)

pub turn-append : (k : Setup) (es fs : List Event) (s m t : Scene) (one two : List ℕ) → InTurn k es s m one → InTurn k fs m t two → InTurn k (es ++ fs) s t (one ++ two)
turn-append k [] fs s m t one two (e, p) g =
    subst (λ (x : List ℕ). InTurn k fs s t (x ++ two)) (sym p) (subst (λ (x : Scene). InTurn k fs x t two) e g)
turn-append k (e ∷ es) fs s m t one two (n, a, b, p, r, q) g =
    (n, a, b ++ two, p, turn-append k es fs n m t b two r g, ap (λ (x : List ℕ). x ++ two) q ∙ append_assoc a b two)

pub stints-append : (k : Setup) (es fs : List (List Event)) (s m t : Scene) (one two : List ℕ) → Stints k es s m one → Stints k fs m t two → Stints k (es ++ fs) s t (one ++ two)
stints-append k [] fs s m t one two (e, p) g =
    subst (λ (x : List ℕ). Stints k fs s t (x ++ two)) (sym p) (subst (λ (x : Scene). Stints k fs x t two) e g)
stints-append k (e ∷ es) fs s m t one two (n, a, b, p, r, q) g =
    (n, a, b ++ two, p, stints-append k es fs n m t b two r g, ap (λ (x : List ℕ). x ++ two) q ∙ append_assoc a b two)

-- some events happened
abbrev pub SomeHappened : Setup → Scene → Scene → List ℕ → Type 0
SomeHappened k s t printed = (es : List Event) × Happened k es s t printed

tries_happened : (k : Setup) (e : Event) (s t : Scene) (printed : List ℕ) → Tries k s e t printed → SomeHappened k s t printed
tries_happened k e s t printed (happens p) = (e ∷ [], (t, printed, [], plays_part k s e t printed p, (refl, refl), sym (append-nil printed)))
tries_happened k e s t printed (passes n f g) = ([], (f, g))

pub turn_happened : (k : Setup) (es : List Event) (s t : Scene) (printed : List ℕ) → InTurn k es s t printed → SomeHappened k s t printed
turn_happened k [] s t printed (e, p) = ([], (e, p))
turn_happened k (e ∷ es) s t printed (m, one, two, p, r, q) =
    let a = tries_happened k e s m one p in
    let b = turn_happened k es m t two r in
    (a.0 ++ b.0, subst (λ (x : List ℕ). Happened k (a.0 ++ b.0) s t x) (sym q) (happened-append k a.0 b.0 s m t one two a.1 b.1))

pub stints_happened : (k : Setup) (gs : List (List Event)) (s t : Scene) (printed : List ℕ) → Stints k gs s t printed → SomeHappened k s t printed
stints_happened k [] s t printed (e, p) = ([], (e, p))
stints_happened k (g ∷ gs) s t printed (m, one, two, p, r, q) =
    let a = turn_happened k (in_a_row (replicate p.times g)) s m one p.goes in
    let b = stints_happened k gs m t two r in
    (a.0 ++ b.0, subst (λ (x : List ℕ). Happened k (a.0 ++ b.0) s t x) (sym q) (happened-append k a.0 b.0 s m t one two a.1 b.1))

-- once more
row-more : {A : Type 0} (n : ℕ) (group : List A) → in_a_row (replicate n group) ++ group ≡ in_a_row (replicate (suc n) group)
row-more zero group = sym (append-nil group)
row-more (suc n) group = append_assoc group (in_a_row (replicate n group)) group ∙ ap (λ xs. group ++ xs) (row-more n group)

-- ---- what broke off behind what was done, and before more

-- the items before a position, the one that stands there, and the others
pub split_at : {A : Type 0} (xs : List A) (i : ℕ) (d : A) → i < length xs → (others : List A) × (xs ≡ take i xs ++ get_or xs i d ∷ others)
split_at [] i d l = absurd (omega (arith, l))
split_at (x ∷ xs) zero d l = (xs, refl)
split_at (x ∷ xs) (suc i) d l = let r = split_at xs i d (omega (arith, l)) in (r.0, ap (λ (ys : List _). x ∷ ys) r.1)

pub turn_breaks : (k : Setup) (es : List Event) (e : Event) (others : List Event) (s m t : Scene) (one two : List ℕ) → InTurn k es s m one → BreaksOff k m e t two → TurnBreaksOff k (es ++ e ∷ others) s t (one ++ two)
turn_breaks k es e others s m t one two a b = record { done = es; next = e; others = others; split = refl; between = m; one = one; two = two; goes = a; breaks = b; both = refl }

turn_then_breaks : (k : Setup) (es fs : List Event) (s m t : Scene) (one two : List ℕ) → InTurn k es s m one → TurnBreaksOff k fs m t two → TurnBreaksOff k (es ++ fs) s t (one ++ two)
turn_then_breaks k es fs s m t one two a b = record {
  done = es ++ b.done;
  next = b.next;
  others = b.others;
  split = ap (λ (xs : List Event). es ++ xs) b.split ∙ sym (append_assoc es b.done (b.next ∷ b.others));
  between = b.between;
  one = one ++ b.one;
  two = b.two;
  goes = turn-append k es b.done s m b.between one b.one a b.goes;
  breaks = b.breaks;
  both = ap (λ (x : List ℕ). one ++ x) b.both ∙ sym (append_assoc one b.one b.two);
}

pub stints_then_break : (k : Setup) (gs hs : List (List Event)) (s m t : Scene) (one two : List ℕ) → Stints k gs s m one → StintsBreakOff k hs m t two → StintsBreakOff k (gs ++ hs) s t (one ++ two)
stints_then_break k gs hs s m t one two a b = record {
  done = gs ++ b.done;
  next = b.next;
  others = b.others;
  split = ap (λ (xs : List (List Event)). gs ++ xs) b.split ∙ sym (append_assoc gs b.done (b.next ∷ b.others));
  between = b.between;
  one = one ++ b.one;
  two = b.two;
  goes = stints-append k gs b.done s m b.between one b.one a b.goes;
  breaks = b.breaks;
  both = ap (λ (x : List ℕ). one ++ x) b.both ∙ sym (append_assoc one b.one b.two);
}

-- more stints would have come
pub stints_break_before : (k : Setup) (gs hs : List (List Event)) (s t : Scene) (printed : List ℕ) → StintsBreakOff k gs s t printed → StintsBreakOff k (gs ++ hs) s t printed
stints_break_before k gs hs s t printed b = record {
  done = b.done;
  next = b.next;
  others = b.others ++ hs;
  split = ap (λ (xs : List (List Event)). xs ++ hs) b.split ∙ append_assoc b.done (b.next ∷ b.others) hs;
  between = b.between;
  one = b.one;
  two = b.two;
  goes = b.goes;
  breaks = b.breaks;
  both = b.both;
}

pub one_breaks : (k : Setup) (group : List Event) (s t : Scene) (printed : List ℕ) → StintBreaksOff k group s t printed → StintsBreakOff k (group ∷ []) s t printed
one_breaks k group s t printed b = record { done = []; next = group; others = []; split = refl; between = s; one = []; two = printed; goes = (refl, refl); breaks = b; both = refl }

-- ---- where nothing was there to do

pub rest_turn : (k : Setup) (es : List Event) (s : Scene) → All (HasNothing k s) es → InTurn k es s s []
rest_turn k [] s h = (refl, refl)
rest_turn k (e ∷ es) s h = (s, [], [], passes (All-head (HasNothing k s) e es h) refl refl, rest_turn k es s (All-tail (HasNothing k s) e es h), refl)

pub rest_stint : (k : Setup) (group : List Event) (s : Scene) → All (HasNothing k s) group → Stint k group s s []
rest_stint k group s h = record { times = 0; goes = (refl, refl); done = h }

pub rest_stints : (k : Setup) (gs : List (List Event)) (s : Scene) → All (λ group. All (HasNothing k s) group) gs → Stints k gs s s []
rest_stints k [] s h = (refl, refl)
rest_stints k (g ∷ gs) s h = (s, [], [], rest_stint k g s (All-head (All (HasNothing k s)) g gs h), rest_stints k gs s (All-tail (All (HasNothing k s)) g gs h), refl)

-- ---- one after the other

-- how two ways go together
pub record Joins (P₁ P₂ P : Setup → Scene → Scene → List ℕ → Type 0) (I₁ I₂ I : Setup → Scene → Type 0) : Type 0 where
  pub first : (k : Setup) (s : Scene) → I₁ k s → P₁ k s s []
  pub second : (k : Setup) (s : Scene) → I₂ k s → P₂ k s s []
  pub join : (k : Setup) (s m t : Scene) (one two : List ℕ) → P₁ k s m one → P₂ k m t two → P k s t (one ++ two)
  pub both : (k : Setup) (s : Scene) → I₁ k s → I₂ k s → I k s

-- whether it moved or not, it went some way
pub went : (Q : Setup → Type 0) (P : Setup → Scene → Scene → List ℕ → Type 0) (I : Setup → Scene → Type 0) (h : House) (o : List ℕ) (h1 : House) (o1 : List ℕ) (a : Bool)
    → ((k : Setup) (s : Scene) → I k s → P k s s []) → Did Q P I h o h1 o1 a → (k : Setup) (s : Scene) → Q k → StandsFor k h s → Went P k s h1 o o1
went Q P I h o h1 o1 true f c k s q st = c.went k s q st
went Q P I h o h1 o1 false f c k s q st = record {
  after = s;
  printed = [];
  goes = f k s (c.changes_nothing k s q st);
  stands = subst (λ (x : House). StandsFor k x s) (sym c.same) st;
  out = c.silent ∙ sym (append-nil o);
}

pub joined : (P₁ P₂ P : Setup → Scene → Scene → List ℕ → Type 0) → ((k : Setup) (s m t : Scene) (one two : List ℕ) → P₁ k s m one → P₂ k m t two → P k s t (one ++ two))
    → (k : Setup) (s : Scene) (h1 h2 : House) (o o1 o2 : List ℕ) → (w : Went P₁ k s h1 o o1) → Went P₂ k w.after h2 o1 o2 → Went P k s h2 o o2
joined P₁ P₂ P f k s h1 h2 o o1 o2 w v = record {
  after = v.after;
  printed = w.printed ++ v.printed;
  goes = f k s w.after v.after w.printed v.printed w.goes v.goes;
  stands = v.stands;
  out = v.out ∙ ap (λ (x : List ℕ). x ++ v.printed) w.out ∙ append_assoc o w.printed v.printed;
}

pub did_then : (Q : Setup → Type 0) (P₁ P₂ P : Setup → Scene → Scene → List ℕ → Type 0) (I₁ I₂ I : Setup → Scene → Type 0) (h : House) (o : List ℕ) (h1 : House) (o1 : List ℕ) (h2 : House) (o2 : List ℕ) (a b : Bool)
    → Joins P₁ P₂ P I₁ I₂ I → Did Q P₁ I₁ h o h1 o1 a → Did Q P₂ I₂ h1 o1 h2 o2 b → Did Q P I h o h2 o2 (a || b)
did_then Q P₁ P₂ P I₁ I₂ I h o h1 o1 h2 o2 true true j c d = record {
  went = λ k s q st. let w = c.went k s q st in joined P₁ P₂ P j.join k s h1 h2 o o1 o2 w (d.went k w.after q w.stands);
  less = let x = c.less in let y = d.less in omega (arith, x, y);
}
did_then Q P₁ P₂ P I₁ I₂ I h o h1 o1 h2 o2 true false j c d = record {
  went = λ k s q st. let w = c.went k s q st in joined P₁ P₂ P j.join k s h1 h2 o o1 o2 w (went Q P₂ I₂ h1 o1 h2 o2 false j.second d k w.after q w.stands);
  less = let x = c.less in let y = ap effort d.same in omega (arith, x, y);
}
did_then Q P₁ P₂ P I₁ I₂ I h o h1 o1 h2 o2 false true j c d = record {
  went = λ k s q st. let w = went Q P₁ I₁ h o h1 o1 false j.first c k s q st in joined P₁ P₂ P j.join k s h1 h2 o o1 o2 w (d.went k w.after q w.stands);
  less = let x = ap effort c.same in let y = d.less in omega (arith, x, y);
}
did_then Q P₁ P₂ P I₁ I₂ I h o h1 o1 h2 o2 false false j c d = record {
  same = d.same ∙ c.same;
  silent = d.silent ∙ c.silent;
  changes_nothing = λ k s q st. j.both k s (c.changes_nothing k s q st) (d.changes_nothing k s q (subst (λ (x : House). StandsFor k x s) (sym c.same) st));
}

-- want of memory after what came before
pub did_wants : (Q : Setup → Type 0) (P₁ P₂ P : Setup → Scene → Scene → List ℕ → Type 0) (I : Setup → Scene → Type 0) (h : House) (o : List ℕ) (h1 : House) (o1 : List ℕ) (h2 : House) (o2 : List ℕ) (a : Bool)
    → ((k : Setup) (s : Scene) → I k s → P₁ k s s []) → ((k : Setup) (s m t : Scene) (one two : List ℕ) → P₁ k s m one → P₂ k m t two → P k s t (one ++ two))
    → Did Q P₁ I h o h1 o1 a → Wants Q P₂ h1 o1 h2 o2 → Wants Q P h o h2 o2
did_wants Q P₁ P₂ P I h o h1 o1 h2 o2 a r f c d = record {
  broke_off = λ k s q st. let w = went Q P₁ I h o h1 o1 a r c k s q st in joined P₁ P₂ P f k s h1 h2 o o1 o2 w (d.broke_off k w.after q w.stands);
}

-- ---- the same said of another way, in scenes for which the house stood

pub did_as : (Q Q' : Setup → Type 0) (P P' : Setup → Scene → Scene → List ℕ → Type 0) (I I' : Setup → Scene → Type 0) (h : House) (o : List ℕ) (h1 : House) (o1 : List ℕ) (r : Bool)
    → ((k : Setup) (s : Scene) → Q' k → StandsFor k h s → Q k)
    → ((k : Setup) (s : Scene) → Q' k → StandsFor k h s → (t : Scene) (printed : List ℕ) → P k s t printed → P' k s t printed)
    → ((k : Setup) (s : Scene) → Q' k → StandsFor k h s → I k s → I' k s)
    → Did Q P I h o h1 o1 r → Did Q' P' I' h o h1 o1 r
did_as Q Q' P P' I I' h o h1 o1 true f p i c = record {
  went = λ k s q st. let w = c.went k s (f k s q st) st in record { after = w.after; printed = w.printed; goes = p k s q st w.after w.printed w.goes; stands = w.stands; out = w.out };
  less = c.less;
}
did_as Q Q' P P' I I' h o h1 o1 false f p i c = record { same = c.same; silent = c.silent; changes_nothing = λ k s q st. i k s q st (c.changes_nothing k s (f k s q st) st) }

pub wants_as : (Q Q' : Setup → Type 0) (P P' : Setup → Scene → Scene → List ℕ → Type 0) (h : House) (o : List ℕ) (h1 : House) (o1 : List ℕ) → ((k : Setup) (s : Scene) → Q' k → StandsFor k h s → Q k)
    → ((k : Setup) (s : Scene) → Q' k → StandsFor k h s → (t : Scene) (printed : List ℕ) → P k s t printed → P' k s t printed) → Wants Q P h o h1 o1 → Wants Q' P' h o h1 o1
wants_as Q Q' P P' h o h1 o1 f p c = record {
  broke_off = λ k s q st. let w = c.broke_off k s (f k s q st) st in record { after = w.after; printed = w.printed; goes = p k s q st w.after w.printed w.goes; stands = w.stands; out = w.out };
}

-- ---- an event where nobody is

nobody_there : (k : Setup) (h : House) (s : Scene) (n : ℕ) → 0 < n → n ≤ k.config.seats → StandsFor k h s → IsNoNumber h n ⊎ IsVacant h n → IsFree k s (seat_of n)
nobody_there k h s n pos le st (inl (inl e)) = absurd (omega (arith, pos, e))
nobody_there k h s n pos le st (inl (inr (inl l))) = absurd (let e = st.seats in omega (arith, le, l, e))
nobody_there k h s n pos le st (inl (inr (inr l))) = absurd (let e = st.core.seats in omega (arith, le, l, e))
nobody_there k h s n pos le st (inr e) = vacant_free k h s (n - 1) st (let f = st.seats in omega (arith, pos, le, f)) e

none_puts : (k : Setup) (s : Scene) (seat : ℕ) (t : Scene) (printed : List ℕ) → IsFree k s seat → PutPlay k true s seat t printed → ⊥
none_puts k s seat t printed f (connection_puts l p) = let z : None ≡ Some p.caller = sym (f.connection l) ∙ p.there in cc
none_puts k s seat t printed f (session_puts place e p) = let z : None ≡ Some p.visitor = sym (f.session place e) ∙ p.there in cc

none_hears : (k : Setup) (s : Scene) (seat : ℕ) (t : Scene) (printed : List ℕ) → IsFree k s seat → HearPlay k true s seat t printed → ⊥
none_hears k s seat t printed f (connection_hears l p) = let z : None ≡ Some p.caller = sym (f.connection l) ∙ p.there in cc
none_hears k s seat t printed f (session_hears place e p) = let z : None ≡ Some p.visitor = sym (f.session place e) ∙ p.there in cc

nobody_visits_there : (k : Setup) (h : House) (s : Scene) (n : ℕ) → 0 < n → n ≤ k.config.sessions → StandsFor k h s → IsNoPlace h n ⊎ IsFreePlace h n → s.visitor (place_of n) ≡ None
nobody_visits_there k h s n pos le st (inl (inl e)) = absurd (omega (arith, pos, e))
nobody_visits_there k h s n pos le st (inl (inr l)) = absurd (let e = st.places in omega (arith, le, l, e))
nobody_visits_there k h s n pos le st (inr e) =
    nobody_at_place k h s (n - 1) st (let f = st.places in omega (arith, pos, le, f)) e

pub nobody_nothing : (k : Setup) (h : House) (s : Scene) (e : Event) → IsAmong k e → StandsFor k h s → IsNobody h e → HasNothing k s e
nobody_nothing k h s (Bytes connection piece) q st n = absurd q
nobody_nothing k h s (Vanish connection) q st n = absurd q
nobody_nothing k h s (Close shard) q st n = absurd q
nobody_nothing k h s (End number shard) q st (inl (inl e)) = absurd (let a = q.0 in omega (arith, a, e))
nobody_nothing k h s (End number shard) q st (inl (inr (inl l))) = absurd (let a = q.1 in let e = st.seats in omega (arith, a, e, l))
nobody_nothing k h s (End number shard) q st (inl (inr (inr l))) = absurd (let a = q.1 in let e = st.core.seats in omega (arith, a, e, l))
nobody_nothing k h s (End number shard) q st (inr l) = absurd (let a = q.2 in let e = st.core.shards in omega (arith, a, e, l))
nobody_nothing k h s (Enter session user) q st n = absurd q
nobody_nothing k h s (Say session piece) q st n = absurd q
nobody_nothing k h s (Leave session) q st n = absurd q
nobody_nothing k h s (Idle session) q st n = λ t printed p. absurd (let x = nobody_visits_there k h s session q.0 q.1 st n in let y = p.there in let z : None ≡ Some p.visitor = sym x ∙ y in cc)
nobody_nothing k h s (Put number) q st n = λ t printed p. absurd (none_puts k s (seat_of number) t printed (nobody_there k h s number q.0 q.1 st n) p)
nobody_nothing k h s (Hear number) q st n = λ t printed p. absurd (none_hears k s (seat_of number) t printed (nobody_there k h s number q.0 q.1 st n) p)
nobody_nothing k h s (Take shard) q st n = absurd (let e = st.core.shards in omega (arith, e, q, n))
nobody_nothing k h s (Deliver shard) q st n = absurd (let e = st.core.shards in omega (arith, e, q, n))
nobody_nothing k h s (Answer shard) q st n = absurd (let e = st.core.shards in omega (arith, e, q, n))

-- nor is a session shown anything while its client is gone
pub left_nothing : (k : Setup) (h : House) (s : Scene) (session : ℕ) → StandsFor k h s → IsLeft h session → HasNothing k s (Idle session)
left_nothing k h s session st l t printed p =
    let within : place_of session < length h.visitors = let a = l.number in let b = l.place in omega (arith, a, b) in
    let g = left_at (get_or h.visitors (place_of session) None) l.gone in
    let a = at_place k h s (place_of session) (first_key 0) g.0 st within g.1 in
    let same : a.visitor ≡ p.visitor = let x : Some a.visitor ≡ Some p.visitor = sym a.here ∙ p.there in cc in
    absurd (let x : true ≡ false = sym g.2 ∙ a.stands.gone ∙ ap (λ (v : SeatedVisitor). v.gone) same ∙ p.goes.is_read in cc)
  where
    left_at : (o : Option SeatedSession) → is_left o ≡ true → (g : SeatedSession) × (o ≡ Some g) × (g.gone ≡ true)
    left_at None e = absurd (let x : false ≡ true = e in cc)
    left_at (Some g) e = (g, refl, e)

-- an own event makes less
pub own_less : (e : Event) (old new : House) → IsOwn e → MakesLess e old new → effort new < effort old
own_less (Bytes connection piece) old new o l = absurd o
own_less (Vanish connection) old new o l = absurd o
own_less (End connection shard) old new o l = l.1
own_less (Close shard) old new o l = absurd o
own_less (Enter session user) old new o l = absurd o
own_less (Say session piece) old new o l = absurd o
own_less (Leave session) old new o l = absurd o
own_less (Idle session) old new o l = absurd o
own_less (Put connection) old new o l = l
own_less (Take shard) old new o l = l
own_less (Deliver shard) old new o l = l
own_less (Answer shard) old new o l = l
own_less (Hear connection) old new o l = l

-- an own event opens and shuts no shard
pub own_keeps : (e : Event) (old new : House) → IsOwn e → KeepsMarks e old new → new.directory ≡ old.directory
own_keeps (Bytes connection piece) old new o m = absurd o
own_keeps (Vanish connection) old new o m = absurd o
own_keeps (Close shard) old new o m = absurd o
own_keeps (Enter session user) old new o m = absurd o
own_keeps (Say session piece) old new o m = absurd o
own_keeps (Leave session) old new o m = absurd o
own_keeps (Idle session) old new o m = absurd o
own_keeps (Put connection) old new o m = m
own_keeps (Take shard) old new o m = m
own_keeps (Deliver shard) old new o m = m
own_keeps (Answer shard) old new o m = m
own_keeps (Hear connection) old new o m = m
own_keeps (End connection shard) old new o m = m

-- an event that happened is one that was tried
pub tried : (e : Event) (h h1 : House) (o o1 : List ℕ) → IsOwn e → Follows h e h1 o o1 → MakesLess e h h1 → Moved (λ k. IsAmong k e) (λ k s t printed. Tries k s e t printed) h o h1 o1
tried e h h1 o o1 own f l = record {
  went = λ k s q st. let w = f k s st in record { after = w.after; printed = w.printed; goes = happens w.plays; stands = w.stands; out = w.out };
  less = own_less e h h1 own l;
}

pub broken_off : (e : Event) (h1 : House) (o o1 : List ℕ) (k : Setup) (s : Scene) → Led k false s e h1 o o1 ⊎ (StandsFor k h1 s × (o1 ≡ o)) → Went (λ k s t printed. BreaksOff k s e t printed) k s h1 o o1
broken_off e h1 o o1 k s (inl w) = record { after = w.after; printed = w.printed; goes = cut_short w.plays; stands = w.stands; out = w.out }
broken_off e h1 o o1 k s (inr (st, same)) = record { after = s; printed = []; goes = unbegun refl refl; stands = st; out = same ∙ sym (append-nil o) }

pub wanted : (Q : Setup → Type 0) (e : Event) (h h1 : House) (o o1 : List ℕ) → FollowsInPart h e h1 o o1 → Wants Q (λ k s t printed. BreaksOff k s e t printed) h o h1 o1
wanted Q e h h1 o o1 f = record { broke_off = λ k s q st. broken_off e h1 o o1 k s (f k s st) }

pub All-one : {A : Type 0} (P : A → Type 0) (x : A) → P x → All P (x ∷ [])
All-one P x h = All-cons P x [] h (All-nil P)

-- ---- events in turn

abbrev pub DidTurn : List Event → List Event → House → List ℕ → House → List ℕ → Bool → Type 0
DidTurn group es h o h1 o1 moved = Did (λ k. All (IsAmong k) group) (λ k s t printed. InTurn k es s t printed) (λ k s. All (HasNothing k s) es) h o h1 o1 moved

turn_one : (k : Setup) (es : List Event) (e : Event) (s m t : Scene) (one two : List ℕ) → InTurn k es s m one → Tries k m e t two → InTurn k (es ++ e ∷ []) s t (one ++ two)
turn_one k es e s m t one two a b = turn-append k es (e ∷ []) s m t one two a (t, two, [], b, (refl, refl), sym (append-nil two))

turn_then : (group es : List Event) (e : Event) (h : House) (o : List ℕ) (h1 : House) (o1 : List ℕ) (h2 : House) (o2 : List ℕ) (a b : Bool) → ((k : Setup) → All (IsAmong k) group → IsAmong k e)
    → DidTurn group es h o h1 o1 a → Did (λ k. IsAmong k e) (λ k s t printed. Tries k s e t printed) (λ k s. HasNothing k s e) h1 o1 h2 o2 b → DidTurn group (es ++ e ∷ []) h o h2 o2 (a || b)
turn_then group es e h o h1 o1 h2 o2 a b f c d =
    did_then (λ k. All (IsAmong k) group) (λ k s t printed. InTurn k es s t printed) (λ k s t printed. Tries k s e t printed) (λ k s t printed. InTurn k (es ++ e ∷ []) s t printed)
    (λ k s. All (HasNothing k s) es) (λ k s. HasNothing k s e) (λ k s. All (HasNothing k s) (es ++ e ∷ [])) h o h1 o1 h2 o2 a b
    (record {
      first = λ k s x. rest_turn k es s x;
      second = λ k s x. passes x refl refl;
      join = λ k s m t one two x y. turn_one k es e s m t one two x y;
      both = λ k s x y. All-append (HasNothing k s) es (e ∷ []) x (All-one (HasNothing k s) e y);
    }) c
    (did_as (λ k. IsAmong k e) (λ k. All (IsAmong k) group) (λ k s t printed. Tries k s e t printed) (λ k s t printed. Tries k s e t printed) (λ k s. HasNothing k s e) (λ k s. HasNothing k s e) h1 o1 h2 o2 b
    (λ k s q st. f k q) (λ k s q st t printed x. x) (λ k s q st x. x) d)

pub each_step : (group : List Event) (i : ℕ) (d : Event) (h : House) (o : List ℕ) (h1 : House) (o1 : List ℕ) (h2 : House) (o2 : List ℕ) (a b : Bool) → i < length group
    → DidTurn group (take i group) h o h1 o1 a → Did (λ k. IsAmong k (get_or group i d)) (λ k s t printed. Tries k s (get_or group i d) t printed) (λ k s. HasNothing k s (get_or group i d)) h1 o1 h2 o2 b
    → DidTurn group (take (i + 1) group) h o h2 o2 (a || b)
each_step group i d h o h1 o1 h2 o2 a b l c e =
    subst (λ (xs : List Event). DidTurn group xs h o h2 o2 (a || b)) (sym (take-suc group i d l) ∙ ap (λ (n : ℕ). take n group) (sym (add-one i)))
    (turn_then group (take i group) (get_or group i d) h o h1 o1 h2 o2 a b (λ k q. All-get_or (IsAmong k) group i d l q) c e)

pub each_wants : (group : List Event) (i : ℕ) (d : Event) (h : House) (o : List ℕ) (h1 : House) (o1 : List ℕ) (h2 : House) (o2 : List ℕ) (a : Bool) → i < length group
    → DidTurn group (take i group) h o h1 o1 a → Wants (λ k. IsAmong k (get_or group i d)) (λ k s t printed. BreaksOff k s (get_or group i d) t printed) h1 o1 h2 o2
    → Wants (λ k. All (IsAmong k) group) (λ k s t printed. TurnBreaksOff k group s t printed) h o h2 o2
each_wants group i d h o h1 o1 h2 o2 a l c e =
    let r = split_at group i d l in
    did_wants (λ k. All (IsAmong k) group) (λ k s t printed. InTurn k (take i group) s t printed) (λ k s t printed. BreaksOff k s (get_or group i d) t printed) (λ k s t printed. TurnBreaksOff k group s t printed)
    (λ k s. All (HasNothing k s) (take i group)) h o h1 o1 h2 o2 a (λ k s x. rest_turn k (take i group) s x)
    (λ k s m t one two x y. subst (λ (xs : List Event). TurnBreaksOff k xs s t (one ++ two)) (sym r.1) (turn_breaks k (take i group) (get_or group i d) r.0 s m t one two x y)) c
    (wants_as (λ k. IsAmong k (get_or group i d)) (λ k. All (IsAmong k) group) (λ k s t printed. BreaksOff k s (get_or group i d) t printed) (λ k s t printed. BreaksOff k s (get_or group i d) t printed) h1 o1 h2 o2
    (λ k s q st. All-get_or (IsAmong k) group i d l q) (λ k s q st t printed x. x) e)

-- ---- memory was wanting

-- what holds whatever came holds of an error
pub on_err : {A E : Type 0} (r : Result A E) (P : Type 0) → P → OnErr r P
on_err (Ok x) P h = tt
on_err (Err e) P h = h

pub came_wanting : {E : Type 0} {Q : Setup → Type 0} {before h : House} {old new : List ℕ} (P B : Setup → Scene → Scene → List ℕ → Type 0) (I : Setup → Scene → Type 0) (r : Result Bool E) → IsErr r
    → Wants Q B before old h new → Came Q P B I before old h new r
came_wanting P B I (Ok x) is w = cc
came_wanting P B I (Err e) is w = w

pub visits_wanting : {E : Type 0} {Q : Setup → Type 0} {before h : House} {old new : List ℕ} (groups : Setup → List (List Event)) (r : Result Bool E) → IsErr r
    → WantsStints Q groups before old h new → CameStints Q groups before old h new r
visits_wanting groups (Ok x) is w = cc
visits_wanting groups (Err e) is w = w

-- ---- over and over

-- so often
abbrev pub Often : Setup → List Event → Scene → Scene → List ℕ → Type 0
Often k group s t printed = (n : ℕ) × InTurn k (in_a_row (replicate n group)) s t printed

pub often_more : (k : Setup) (group : List Event) (s m t : Scene) (one two : List ℕ) → Often k group s m one → InTurn k group m t two → Often k group s t (one ++ two)
often_more k group s m t one two (n, a) b =
    (suc n, subst (λ (xs : List Event). InTurn k xs s t (one ++ two)) (row-more n group) (turn-append k (in_a_row (replicate n group)) group s m t one two a b))

pub often_breaks : (k : Setup) (group : List Event) (s m t : Scene) (one two : List ℕ) → Often k group s m one → TurnBreaksOff k group m t two → StintBreaksOff k group s t (one ++ two)
often_breaks k group s m t one two (n, a) b =
    (suc n, subst (λ (xs : List Event). TurnBreaksOff k xs s t (one ++ two)) (row-more n group) (turn_then_breaks k (in_a_row (replicate n group)) group s m t one two a b))

abbrev pub DidOften : List Event → House → List ℕ → House → List ℕ → Bool → Type 0
DidOften group h o h1 o1 moved = Did (λ k. All (IsAmong k) group) (λ k s t printed. Often k group s t printed) (λ k s. Unit {0}) h o h1 o1 moved

often_went : (group : List Event) (h : House) (o : List ℕ) (h1 : House) (o1 : List ℕ) (a : Bool) → DidOften group h o h1 o1 a
    → (k : Setup) (s : Scene) → All (IsAmong k) group → StandsFor k h s → Went (λ k s t printed. Often k group s t printed) k s h1 o o1
often_went group h o h1 o1 a c = went (λ k. All (IsAmong k) group) (λ k s t printed. Often k group s t printed) (λ k s. Unit {0}) h o h1 o1 a (λ k s x. (0, (refl, refl))) c

no_more : (group : List Event) (h : House) (o : List ℕ) (h1 : House) (o1 : List ℕ) (a : Bool) → DidOften group h o h1 o1 a → effort h1 ≤ effort h
no_more group h o h1 o1 true c = let x = c.less in omega (arith, x)
no_more group h o h1 o1 false c = let x = ap effort c.same in omega (arith, x)

pub often_again : (group : List Event) (h : House) (o : List ℕ) (h1 : House) (o1 : List ℕ) (h2 : House) (o2 : List ℕ) (a b : Bool) → b ≡ true → DidOften group h o h1 o1 a → DidTurn group group h1 o1 h2 o2 b → DidOften group h o h2 o2 true
often_again group h o h1 o1 h2 o2 a false e c d = cc
often_again group h o h1 o1 h2 o2 a true e c d = record {
  went = λ k s q st. let w = often_went group h o h1 o1 a c k s q st in
      joined (λ k s t printed. Often k group s t printed) (λ k s t printed. InTurn k group s t printed) (λ k s t printed. Often k group s t printed)
      (λ k s m t one two x y. often_more k group s m t one two x y) k s h1 h2 o o1 o2 w (d.went k w.after q w.stands);
  less = let x = no_more group h o h1 o1 a c in let y = d.less in omega (arith, x, y);
}

pub often_wants : (group : List Event) (h : House) (o : List ℕ) (h1 : House) (o1 : List ℕ) (h2 : House) (o2 : List ℕ) (a : Bool) → DidOften group h o h1 o1 a
    → Wants (λ k. All (IsAmong k) group) (λ k s t printed. TurnBreaksOff k group s t printed) h1 o1 h2 o2 → Wants (λ k. All (IsAmong k) group) (λ k s t printed. StintBreaksOff k group s t printed) h o h2 o2
often_wants group h o h1 o1 h2 o2 a c d =
    did_wants (λ k. All (IsAmong k) group) (λ k s t printed. Often k group s t printed) (λ k s t printed. TurnBreaksOff k group s t printed) (λ k s t printed. StintBreaksOff k group s t printed) (λ k s. Unit {0}) h o h1 o1 h2 o2 a
    (λ k s x. (0, (refl, refl))) (λ k s m t one two x y. often_breaks k group s m t one two x y) c d

-- the last turn moved nothing: the stint is done
abbrev pub DidStint : List Event → House → List ℕ → House → List ℕ → Bool → Type 0
DidStint group h o h1 o1 moved = Did (λ k. All (IsAmong k) group) (λ k s t printed. Stint k group s t printed) (λ k s. All (HasNothing k s) group) h o h1 o1 moved

pub stint_of : (k : Setup) (group : List Event) (s t : Scene) (printed : List ℕ) → Often k group s t printed → All (HasNothing k t) group → Stint k group s t printed
stint_of k group s t printed (n, a) d = record { times = n; goes = a; done = d }

stint_rests : (group : List Event) (h : House) (o : List ℕ) (h1 : House) (o1 : List ℕ) (h2 : House) (o2 : List ℕ) (a : Bool) → DidOften group h o h1 o1 a
    → Rests (λ k. All (IsAmong k) group) (λ k s. All (HasNothing k s) group) h1 o1 h2 o2 → DidStint group h o h2 o2 a
stint_rests group h o h1 o1 h2 o2 true c d = record {
  went = λ k s q st. let w = c.went k s q st in record {
    after = w.after;
    printed = w.printed;
    goes = stint_of k group s w.after w.printed w.goes (d.changes_nothing k w.after q w.stands);
    stands = subst (λ (x : House). StandsFor k x w.after) (sym d.same) w.stands;
    out = d.silent ∙ w.out;
  };
  less = let x = c.less in let y = ap effort d.same in omega (arith, x, y);
}
stint_rests group h o h1 o1 h2 o2 false c d = record {
  same = d.same ∙ c.same;
  silent = d.silent ∙ c.silent;
  changes_nothing = λ k s q st. d.changes_nothing k s q (subst (λ (x : House). StandsFor k x s) (sym c.same) st);
}

pub stint_done : (group : List Event) (h : House) (o : List ℕ) (h1 : House) (o1 : List ℕ) (h2 : House) (o2 : List ℕ) (a b : Bool) → b ≡ false → DidOften group h o h1 o1 a → DidTurn group group h1 o1 h2 o2 b → DidStint group h o h2 o2 a
stint_done group h o h1 o1 h2 o2 a true e c d = cc
stint_done group h o h1 o1 h2 o2 a false e c d = stint_rests group h o h1 o1 h2 o2 a c d

-- ---- stints one after another

pub stints_then : (Q : Setup → Type 0) (gs hs : Setup → List (List Event)) (h : House) (o : List ℕ) (h1 : House) (o1 : List ℕ) (h2 : House) (o2 : List ℕ) (a b : Bool)
    → DidStints Q gs h o h1 o1 a → DidStints Q hs h1 o1 h2 o2 b → DidStints Q (λ k. gs k ++ hs k) h o h2 o2 (a || b)
stints_then Q gs hs h o h1 o1 h2 o2 a b c d =
    did_then Q (λ k s t printed. Stints k (gs k) s t printed) (λ k s t printed. Stints k (hs k) s t printed) (λ k s t printed. Stints k (gs k ++ hs k) s t printed)
    (λ k s. All (λ group. All (HasNothing k s) group) (gs k)) (λ k s. All (λ group. All (HasNothing k s) group) (hs k)) (λ k s. All (λ group. All (HasNothing k s) group) (gs k ++ hs k)) h o h1 o1 h2 o2 a b
    (record {
      first = λ k s x. rest_stints k (gs k) s x;
      second = λ k s x. rest_stints k (hs k) s x;
      join = λ k s m t one two x y. stints-append k (gs k) (hs k) s m t one two x y;
      both = λ k s x y. All-append (λ group. All (HasNothing k s) group) (gs k) (hs k) x y;
    }) c d

pub stints_wants : (Q : Setup → Type 0) (gs hs : Setup → List (List Event)) (h : House) (o : List ℕ) (h1 : House) (o1 : List ℕ) (h2 : House) (o2 : List ℕ) (a : Bool)
    → DidStints Q gs h o h1 o1 a → WantsStints Q hs h1 o1 h2 o2 → WantsStints Q (λ k. gs k ++ hs k) h o h2 o2
stints_wants Q gs hs h o h1 o1 h2 o2 a c d =
    did_wants Q (λ k s t printed. Stints k (gs k) s t printed) (λ k s t printed. StintsBreakOff k (hs k) s t printed) (λ k s t printed. StintsBreakOff k (gs k ++ hs k) s t printed)
    (λ k s. All (λ group. All (HasNothing k s) group) (gs k)) h o h1 o1 h2 o2 a (λ k s x. rest_stints k (gs k) s x) (λ k s m t one two x y. stints_then_break k (gs k) (hs k) s m t one two x y) c d

-- more stints would have come
pub wants_before : (Q : Setup → Type 0) (gs hs : Setup → List (List Event)) (h : House) (o : List ℕ) (h1 : House) (o1 : List ℕ) → WantsStints Q gs h o h1 o1 → WantsStints Q (λ k. gs k ++ hs k) h o h1 o1
wants_before Q gs hs h o h1 o1 c =
    wants_as Q Q (λ k s t printed. StintsBreakOff k (gs k) s t printed) (λ k s t printed. StintsBreakOff k (gs k ++ hs k) s t printed) h o h1 o1
    (λ k s q st. q) (λ k s q st t printed x. stints_break_before k (gs k) (hs k) s t printed x) c

-- all that the stints are a beginning of, in setups of which more is known
pub wants_of_all : (Q Q' : Setup → Type 0) (gs hs : Setup → List (List Event)) (h : House) (o : List ℕ) (h1 : House) (o1 : List ℕ) → ((k : Setup) (s : Scene) → Q' k → StandsFor k h s → Q k)
    → ((k : Setup) → Q k → (others : List (List Event)) × (hs k ≡ gs k ++ others)) → WantsStints Q gs h o h1 o1 → WantsStints Q' hs h o h1 o1
wants_of_all Q Q' gs hs h o h1 o1 f e c =
    wants_as Q Q' (λ k s t printed. StintsBreakOff k (gs k) s t printed) (λ k s t printed. StintsBreakOff k (hs k) s t printed) h o h1 o1 f
    (λ k s q st t printed x. let r = e k (f k s q st) in subst (λ (xs : List (List Event)). StintsBreakOff k xs s t printed) (sym r.1) (stints_break_before k (gs k) r.0 s t printed x)) c

-- one stint broke off
pub one_wants : (Q : Setup → Type 0) (group : List Event) (h : House) (o : List ℕ) (h1 : House) (o1 : List ℕ) → ((k : Setup) → Q k → All (IsAmong k) group)
    → Wants (λ k. All (IsAmong k) group) (λ k s t printed. StintBreaksOff k group s t printed) h o h1 o1 → WantsStints Q (λ k. group ∷ []) h o h1 o1
one_wants Q group h o h1 o1 f c =
    wants_as (λ k. All (IsAmong k) group) Q (λ k s t printed. StintBreaksOff k group s t printed) (λ k s t printed. StintsBreakOff k (group ∷ []) s t printed) h o h1 o1
    (λ k s q st. f k q) (λ k s q st t printed x. one_breaks k group s t printed x) c

-- the first of some numbers in a row, and the others
pub first_numbers : (first some all : ℕ) → some ≤ all → (others : List ℕ) × (range_with_len first all ≡ range_with_len first some ++ others)
first_numbers first zero all l = (range_with_len first all, refl)
first_numbers first (suc some) zero l = absurd (omega (arith, l))
first_numbers first (suc some) (suc all) l = let r = first_numbers (first + 1) some all (omega (arith, l)) in (r.0, ap (λ (xs : List ℕ). first ∷ xs) r.1)

pub first_made : (make : ℕ → List Event) (first some all : ℕ) → some ≤ all → (others : List (List Event)) × (map make (range_with_len first all) ≡ map make (range_with_len first some) ++ others)
first_made make first some all l =
    let r = first_numbers first some all l in (map make r.0, ap (λ (xs : List ℕ). map make xs) r.1 ∙ map-append make (range_with_len first some) r.0)

-- one stint, as a list of stints
pub one_stint : (Q : Setup → Type 0) (group : List Event) (h : House) (o : List ℕ) (h1 : House) (o1 : List ℕ) (b : Bool) → ((k : Setup) → Q k → All (IsAmong k) group)
    → DidStint group h o h1 o1 b → DidStints Q (λ k. group ∷ []) h o h1 o1 b
one_stint Q group h o h1 o1 b f c =
    did_as (λ k. All (IsAmong k) group) Q (λ k s t printed. Stint k group s t printed) (λ k s t printed. Stints k (group ∷ []) s t printed)
    (λ k s. All (HasNothing k s) group) (λ k s. All (λ g. All (HasNothing k s) g) (group ∷ [])) h o h1 o1 b
    (λ k s q st. f k q) (λ k s q st t printed x. (t, printed, [], x, (refl, refl), sym (append-nil printed))) (λ k s q st x. All-one (λ g. All (HasNothing k s) g) group x) c

-- the seat's stint after those of the seats before it
pub seats_step : (make : ℕ → List Event) (seats seat : ℕ) (h : House) (o : List ℕ) (h1 : House) (o1 : List ℕ) (h2 : House) (o2 : List ℕ) (a b : Bool) → ((k : Setup) → k.config.seats ≡ seats → All (IsAmong k) (make (seat + 1)))
    → DidStints (λ k. k.config.seats ≡ seats) (λ k. map make (range_with_len 1 seat)) h o h1 o1 a → DidStint (make (seat + 1)) h1 o1 h2 o2 b
    → DidStints (λ k. k.config.seats ≡ seats) (λ k. map make (range_with_len 1 (seat + 1))) h o h2 o2 (a || b)
seats_step make seats seat h o h1 o1 h2 o2 a b f c d =
    subst (λ (gs : List (List Event)). DidStints (λ k. k.config.seats ≡ seats) (λ k. gs) h o h2 o2 (a || b)) (sym (map-range_with_len_more make 1 seat (seat + 1) (omega arith)))
    (stints_then (λ k. k.config.seats ≡ seats) (λ k. map make (range_with_len 1 seat)) (λ k. make (seat + 1) ∷ []) h o h1 o1 h2 o2 a b c
    (one_stint (λ k. k.config.seats ≡ seats) (make (seat + 1)) h1 o1 h2 o2 b f d))

pub seats_wants : (make : ℕ → List Event) (seats seat : ℕ) (h : House) (o : List ℕ) (h1 : House) (o1 : List ℕ) (h2 : House) (o2 : List ℕ) (a : Bool) → ((k : Setup) → k.config.seats ≡ seats → All (IsAmong k) (make (seat + 1)))
    → seats ≡ length h.callers + length h.visitors → seat < seats → DidStints (λ k. k.config.seats ≡ seats) (λ k. map make (range_with_len 1 seat)) h o h1 o1 a
    → Wants (λ k. All (IsAmong k) (make (seat + 1))) (λ k s t printed. StintBreaksOff k (make (seat + 1)) s t printed) h1 o1 h2 o2
    → WantsStints (λ k. Unit {0}) (λ k. map make (range_with_len 1 k.config.seats)) h o h2 o2
seats_wants make seats seat h o h1 o1 h2 o2 a f e l c d =
    wants_of_all (λ k. k.config.seats ≡ seats) (λ k. Unit {0}) (λ k. map make (range_with_len 1 seat) ++ make (seat + 1) ∷ []) (λ k. map make (range_with_len 1 k.config.seats)) h o h2 o2 (λ k s q st. sym (e ∙ st.seats))
    (λ k q. let r = first_made make 1 (seat + 1) k.config.seats (omega (arith, l, q)) in
    (r.0, r.1 ∙ ap (λ (xs : List (List Event)). xs ++ r.0) (map-range_with_len_more make 1 seat (seat + 1) (omega arith))))
    (stints_wants (λ k. k.config.seats ≡ seats) (λ k. map make (range_with_len 1 seat)) (λ k. make (seat + 1) ∷ []) h o h1 o1 h2 o2 a c
    (one_wants (λ k. k.config.seats ≡ seats) (make (seat + 1)) h1 o1 h2 o2 (λ k q. f k q) d))

-- all of them, where so many seats are there
pub stints_as : (Q : Setup → Type 0) (gs hs : Setup → List (List Event)) (h : House) (o : List ℕ) (h1 : House) (o1 : List ℕ) (b : Bool)
    → ((k : Setup) (s : Scene) → StandsFor k h s → Q k) → ((k : Setup) → Q k → gs k ≡ hs k) → DidStints Q gs h o h1 o1 b → DidStints (λ k. Unit {0}) hs h o h1 o1 b
stints_as Q gs hs h o h1 o1 b f e c =
    did_as Q (λ k. Unit {0}) (λ k s t printed. Stints k (gs k) s t printed) (λ k s t printed. Stints k (hs k) s t printed)
    (λ k s. All (λ group. All (HasNothing k s) group) (gs k)) (λ k s. All (λ group. All (HasNothing k s) group) (hs k)) h o h1 o1 b
    (λ k s q st. f k s st) (λ k s q st t printed x. subst (λ (xs : List (List Event)). Stints k xs s t printed) (e k (f k s st)) x)
    (λ k s q st x. subst (λ (xs : List (List Event)). All (λ group. All (HasNothing k s) group) xs) (e k (f k s st)) x) c

-- ---- shards

served : (held : ℕ → Bool) (n : ℕ) → serves held n ++ serve n (held n) ≡ serves held (n + 1)
served held n = one (held n) refl
  where
    more : (ns : List ℕ) → filter (λ s. not (held s)) (n ∷ []) ≡ ns → serves held n ++ map (λ s. Take s ∷ Deliver s ∷ Answer s ∷ []) ns ≡ serves held (n + 1)
    more ns e = sym (map-append (λ s. Take s ∷ Deliver s ∷ Answer s ∷ []) (filter (λ s. not (held s)) (range_with_len 0 n)) ns)
        ∙ ap (λ (xs : List ℕ). map (λ s. Take s ∷ Deliver s ∷ Answer s ∷ []) (filter (λ s. not (held s)) (range_with_len 0 n) ++ xs)) (sym e)
        ∙ ap (λ (xs : List ℕ). map (λ s. Take s ∷ Deliver s ∷ Answer s ∷ []) xs) (sym (filter-append (λ s. not (held s)) (range_with_len 0 n) (n ∷ [])))
        ∙ ap (λ (xs : List ℕ). map (λ s. Take s ∷ Deliver s ∷ Answer s ∷ []) (filter (λ s. not (held s)) xs)) (ap (λ (i : ℕ). range_with_len 0 n ++ i ∷ []) (sym (zero-add n)) ∙ range-push 0 n)

    chosen : (b : Bool) → held n ≡ b → filter (λ s. not (held s)) (n ∷ []) ≡ cond b [] (n ∷ [])
    chosen true e = rw e refl
    chosen false e = rw e refl

    one : (b : Bool) → held n ≡ b → serves held n ++ serve n b ≡ serves held (n + 1)
    one true e = more [] (chosen true e)
    one false e = more (n ∷ []) (chosen false e)

-- ---- rounds

abbrev pub Rounds : Setup → (held shut : ℕ → Bool) → Scene → Scene → List ℕ → Type 0
Rounds k held shut s t printed = (n : ℕ) × Stints k (in_a_row (replicate n (round k held shut))) s t printed

abbrev pub DidRound : (held shut : ℕ → Bool) → House → List ℕ → House → List ℕ → Bool → Type 0
DidRound held shut h o h1 o1 moved = DidStints (λ k. Unit {0}) (λ k. round k held shut) h o h1 o1 moved

-- which shards are shut in a scene for which the house stands
pub same_marks : (k : Setup) (h : House) (s : Scene) → StandsFor k h s → is_shut h.directory ≡ is_shut_in s
same_marks k h s st = ap (λ (d : Directory). is_shut d) st.directory

rounds_more : (k : Setup) (held shut : ℕ → Bool) (s m t : Scene) (one two : List ℕ) → Rounds k held shut s m one → Stints k (round k held shut) m t two → Rounds k held shut s t (one ++ two)
rounds_more k held shut s m t one two (n, a) b =
    (suc n, subst (λ (xs : List (List Event)). Stints k xs s t (one ++ two)) (row-more n (round k held shut)) (stints-append k (in_a_row (replicate n (round k held shut))) (round k held shut) s m t one two a b))

pub round_again : (held shut : ℕ → Bool) (k : Setup) (s : Scene) (h1 h2 : House) (o o1 o2 : List ℕ) (b : Bool) → Went (λ k s t printed. Rounds k held shut s t printed) k s h1 o o1 → DidRound held shut h1 o1 h2 o2 b
    → Went (λ k s t printed. Rounds k held shut s t printed) k s h2 o o2
round_again held shut k s h1 h2 o o1 o2 b w d =
    joined (λ k s t printed. Rounds k held shut s t printed) (λ k s t printed. Stints k (round k held shut) s t printed) (λ k s t printed. Rounds k held shut s t printed)
    (λ k s m t one two x y. rounds_more k held shut s m t one two x y) k s h1 h2 o o1 o2 w
    (went (λ k. Unit {0}) (λ k s t printed. Stints k (round k held shut) s t printed) (λ k s. All (λ group. All (HasNothing k s) group) (round k held shut)) h1 o1 h2 o2 b (λ k s x. rest_stints k (round k held shut) s x) d k w.after tt w.stands)

pub rounds_want : (held shut : ℕ → Bool) (k : Setup) (s : Scene) (h1 h2 : House) (o o1 o2 : List ℕ) → shut ≡ is_shut_in s → Went (λ k s t printed. Rounds k held shut s t printed) k s h1 o o1
    → WantsStints (λ k. Unit {0}) (λ k. round k held shut) h1 o1 h2 o2 → Went (λ k s t printed. RoundsBreakOff k held s t printed) k s h2 o o2
rounds_want held shut k s h1 h2 o o1 o2 marks w d =
    let v = d.broke_off k w.after tt w.stands in
    let n = w.goes.0 in
    let b = subst (λ (xs : List (List Event)). StintsBreakOff k xs s v.after (w.printed ++ v.printed)) (row-more n (round k held shut))
    (stints_then_break k (in_a_row (replicate n (round k held shut))) (round k held shut) s w.after v.after w.printed v.printed w.goes.1 v.goes) in
    record {
      after = v.after;
      printed = w.printed ++ v.printed;
      goes = (suc n, subst (λ (x : ℕ → Bool). StintsBreakOff k (in_a_row (replicate (suc n) (round k held x))) s v.after (w.printed ++ v.printed)) marks b);
      stands = v.stands;
      out = v.out ∙ ap (λ (x : List ℕ). x ++ v.printed) w.out ∙ append_assoc o w.printed v.printed;
    }

-- the last round moved nothing
pub rounds_done : (held shut : ℕ → Bool) (k : Setup) (s : Scene) (h1 h2 : House) (o o1 o2 : List ℕ) (b : Bool) → shut ≡ is_shut_in s → b ≡ false → Went (λ k s t printed. Rounds k held shut s t printed) k s h1 o o1 → DidRound held shut h1 o1 h2 o2 b
    → Went (λ k s t printed. GoesRounds k held s t printed) k s h2 o o2
rounds_done held shut k s h1 h2 o o1 o2 true marks e w d = cc
rounds_done held shut k s h1 h2 o o1 o2 false marks e w d = record {
  after = w.after;
  printed = w.printed;
  goes = rounds_of w.after w.printed (w.goes.0) (subst (λ (x : ℕ → Bool). Stints k (in_a_row (replicate w.goes.0 (round k held x))) s w.after w.printed) marks w.goes.1)
      (subst (λ (x : ℕ → Bool). All (λ group. All (HasNothing k w.after) group) (round k held x)) marks (d.changes_nothing k w.after tt w.stands));
  stands = subst (λ (x : House). StandsFor k x w.after) (sym d.same) w.stands;
  out = d.silent ∙ w.out;
}
  where
    rounds_of : (t : Scene) (printed : List ℕ) (n : ℕ) → Stints k (in_a_row (replicate n (round k held (is_shut_in s)))) s t printed → All (λ group. All (HasNothing k t) group) (round k held (is_shut_in s)) → GoesRounds k held s t printed
    rounds_of t printed n a d = record { rounds = n; goes = a; done = d }

-- a round from its parts
abbrev pub DidFirst : (shut : ℕ → Bool) → House → List ℕ → House → List ℕ → Bool → Type 0
DidFirst shut h o h1 o1 moved = DidStints (λ k. Unit {0}) (λ k. closes k.config.seats shut k.config.shards) h o h1 o1 moved

abbrev pub DidSecond : (shut : ℕ → Bool) → House → List ℕ → House → List ℕ → Bool → Type 0
DidSecond shut h o h1 o1 moved = DidStints (λ k. Unit {0}) (λ k. closes k.config.seats shut k.config.shards ++ puts k.config.seats) h o h1 o1 moved

abbrev pub DidThird : (held shut : ℕ → Bool) → House → List ℕ → House → List ℕ → Bool → Type 0
DidThird held shut h o h1 o1 moved = DidStints (λ k. Unit {0}) (λ k. closes k.config.seats shut k.config.shards ++ puts k.config.seats ++ serves held k.config.shards) h o h1 o1 moved

-- a round that broke off in its first, second, third or last part
abbrev pub WantsRound : (held shut : ℕ → Bool) → House → List ℕ → House → List ℕ → Type 0
WantsRound held shut h o h1 o1 = WantsStints (λ k. Unit {0}) (λ k. round k held shut) h o h1 o1

third_breaks : (held shut : ℕ → Bool) (h : House) (o : List ℕ) (h1 : House) (o1 : List ℕ)
    → WantsStints (λ k. Unit {0}) (λ k. closes k.config.seats shut k.config.shards ++ puts k.config.seats ++ serves held k.config.shards) h o h1 o1 → WantsRound held shut h o h1 o1
third_breaks held shut h o h1 o1 c =
    wants_before (λ k. Unit {0}) (λ k. closes k.config.seats shut k.config.shards ++ puts k.config.seats ++ serves held k.config.shards) (λ k. hears k.config.seats) h o h1 o1 c

second_breaks : (held shut : ℕ → Bool) (h : House) (o : List ℕ) (h1 : House) (o1 : List ℕ)
    → WantsStints (λ k. Unit {0}) (λ k. closes k.config.seats shut k.config.shards ++ puts k.config.seats) h o h1 o1 → WantsRound held shut h o h1 o1
second_breaks held shut h o h1 o1 c =
    third_breaks held shut h o h1 o1 (wants_before (λ k. Unit {0}) (λ k. closes k.config.seats shut k.config.shards ++ puts k.config.seats) (λ k. serves held k.config.shards) h o h1 o1 c)

pub first_breaks : (held shut : ℕ → Bool) (h : House) (o : List ℕ) (h1 : House) (o1 : List ℕ) → WantsStints (λ k. Unit {0}) (λ k. closes k.config.seats shut k.config.shards) h o h1 o1 → WantsRound held shut h o h1 o1
first_breaks held shut h o h1 o1 c = second_breaks held shut h o h1 o1 (wants_before (λ k. Unit {0}) (λ k. closes k.config.seats shut k.config.shards) (λ k. puts k.config.seats) h o h1 o1 c)

pub first_wants : (held shut : ℕ → Bool) (h : House) (o : List ℕ) (h1 : House) (o1 : List ℕ) (h2 : House) (o2 : List ℕ) (a : Bool) → DidFirst shut h o h1 o1 a
    → WantsStints (λ k. Unit {0}) (λ k. puts k.config.seats) h1 o1 h2 o2 → WantsRound held shut h o h2 o2
first_wants held shut h o h1 o1 h2 o2 a x z =
    second_breaks held shut h o h2 o2 (stints_wants (λ k. Unit {0}) (λ k. closes k.config.seats shut k.config.shards) (λ k. puts k.config.seats) h o h1 o1 h2 o2 a x z)

pub then_puts : (shut : ℕ → Bool) (h : House) (o : List ℕ) (h1 : House) (o1 : List ℕ) (h2 : House) (o2 : List ℕ) (a b : Bool)
    → DidFirst shut h o h1 o1 a → DidStints (λ k. Unit {0}) (λ k. puts k.config.seats) h1 o1 h2 o2 b → DidSecond shut h o h2 o2 (a || b)
then_puts shut h o h1 o1 h2 o2 a b x y = stints_then (λ k. Unit {0}) (λ k. closes k.config.seats shut k.config.shards) (λ k. puts k.config.seats) h o h1 o1 h2 o2 a b x y

pub second_wants : (held shut : ℕ → Bool) (h : House) (o : List ℕ) (h1 : House) (o1 : List ℕ) (h2 : House) (o2 : List ℕ) (a : Bool) → DidSecond shut h o h1 o1 a
    → WantsStints (λ k. Unit {0}) (λ k. serves held k.config.shards) h1 o1 h2 o2 → WantsRound held shut h o h2 o2
second_wants held shut h o h1 o1 h2 o2 a x z =
    third_breaks held shut h o h2 o2 (stints_wants (λ k. Unit {0}) (λ k. closes k.config.seats shut k.config.shards ++ puts k.config.seats) (λ k. serves held k.config.shards) h o h1 o1 h2 o2 a x z)

pub then_serves : (held shut : ℕ → Bool) (h : House) (o : List ℕ) (h1 : House) (o1 : List ℕ) (h2 : House) (o2 : List ℕ) (a b : Bool)
    → DidSecond shut h o h1 o1 a → DidStints (λ k. Unit {0}) (λ k. serves held k.config.shards) h1 o1 h2 o2 b → DidThird held shut h o h2 o2 (a || b)
then_serves held shut h o h1 o1 h2 o2 a b x y =
    stints_then (λ k. Unit {0}) (λ k. closes k.config.seats shut k.config.shards ++ puts k.config.seats) (λ k. serves held k.config.shards) h o h1 o1 h2 o2 a b x y

pub third_wants : (held shut : ℕ → Bool) (h : House) (o : List ℕ) (h1 : House) (o1 : List ℕ) (h2 : House) (o2 : List ℕ) (a : Bool) → DidThird held shut h o h1 o1 a
    → WantsStints (λ k. Unit {0}) (λ k. hears k.config.seats) h1 o1 h2 o2 → WantsRound held shut h o h2 o2
third_wants held shut h o h1 o1 h2 o2 a x z =
    stints_wants (λ k. Unit {0}) (λ k. closes k.config.seats shut k.config.shards ++ puts k.config.seats ++ serves held k.config.shards) (λ k. hears k.config.seats) h o h1 o1 h2 o2 a x z

pub round_of : (held shut : ℕ → Bool) (h : House) (o : List ℕ) (h1 : House) (o1 : List ℕ) (h2 : House) (o2 : List ℕ) (a b : Bool)
    → DidThird held shut h o h1 o1 a → DidStints (λ k. Unit {0}) (λ k. hears k.config.seats) h1 o1 h2 o2 b → DidRound held shut h o h2 o2 (a || b)
round_of held shut h o h1 o1 h2 o2 a b x y =
    stints_then (λ k. Unit {0}) (λ k. closes k.config.seats shut k.config.shards ++ puts k.config.seats ++ serves held k.config.shards) (λ k. hears k.config.seats) h o h1 o1 h2 o2 a b x y

pub shards_of : (k : Setup) (s : Scene) (h : House) → StandsFor k h s → k.config.shards ≡ h.directory.shards
shards_of k s h st = sym (ap (λ (d : Directory). d.shards) st.directory ∙ st.shards)

-- ---- who is there

pub put_among : (k : Setup) (seats seat : ℕ) → seat < seats → k.config.seats ≡ seats → All (IsAmong k) (Put (seat + 1) ∷ [])
put_among k seats seat l e = All-one (IsAmong k) (Put (seat + 1)) (omega arith, omega (arith, l, e))

pub hear_among : (k : Setup) (seats seat : ℕ) → seat < seats → k.config.seats ≡ seats → All (IsAmong k) (Hear (seat + 1) ∷ [])
hear_among k seats seat l e = All-one (IsAmong k) (Hear (seat + 1)) (omega arith, omega (arith, l, e))

shard_among : (k : Setup) (shard : ℕ) → shard < k.config.shards → All (IsAmong k) (Take shard ∷ Deliver shard ∷ Answer shard ∷ [])
shard_among k shard l = All-cons (IsAmong k) (Take shard) (Deliver shard ∷ Answer shard ∷ []) l (All-cons (IsAmong k) (Deliver shard) (Answer shard ∷ []) l (All-one (IsAmong k) (Answer shard) l))

-- a shard that isn't held is visited
pub serve_came : {E : Type 0} (shard : ℕ) (held : Bool) (h : House) (o : List ℕ) (h1 : House) (o1 : List ℕ) (r : Result Bool E) → held ≡ false
    → CameStint {E = E} (Take shard ∷ Deliver shard ∷ Answer shard ∷ []) h o h1 o1 r → CameStints {E = E} (λ k. shard < k.config.shards) (λ k. serve shard held) h o h1 o1 r
serve_came shard true h o h1 o1 r e c = cc
serve_came shard false h o h1 o1 (Ok b) e c = one_stint (λ k. shard < k.config.shards) (Take shard ∷ Deliver shard ∷ Answer shard ∷ []) h o h1 o1 b (λ k q. shard_among k shard q) c
serve_came shard false h o h1 o1 (Err x) e c = one_wants (λ k. shard < k.config.shards) (Take shard ∷ Deliver shard ∷ Answer shard ∷ []) h o h1 o1 (λ k q. shard_among k shard q) c

pub shards_step : (held : ℕ → Bool) (shards shard : ℕ) (is : Bool) (h : House) (o : List ℕ) (h1 : House) (o1 : List ℕ) (h2 : House) (o2 : List ℕ) (a b : Bool) → shard < shards → is ≡ held shard
    → DidStints (λ k. k.config.shards ≡ shards) (λ k. serves held shard) h o h1 o1 a → DidStints (λ k. shard < k.config.shards) (λ k. serve shard is) h1 o1 h2 o2 b
    → DidStints (λ k. k.config.shards ≡ shards) (λ k. serves held (shard + 1)) h o h2 o2 (a || b)
shards_step held shards shard is h o h1 o1 h2 o2 a b l e c d =
    subst (λ (gs : List (List Event)). DidStints (λ k. k.config.shards ≡ shards) (λ k. gs) h o h2 o2 (a || b)) (ap (λ (x : Bool). serves held shard ++ serve shard x) e ∙ served held shard)
    (stints_then (λ k. k.config.shards ≡ shards) (λ k. serves held shard) (λ k. serve shard is) h o h1 o1 h2 o2 a b c
    (did_as (λ k. shard < k.config.shards) (λ k. k.config.shards ≡ shards) (λ k s t printed. Stints k (serve shard is) s t printed) (λ k s t printed. Stints k (serve shard is) s t printed)
    (λ k s. All (λ group. All (HasNothing k s) group) (serve shard is)) (λ k s. All (λ group. All (HasNothing k s) group) (serve shard is)) h1 o1 h2 o2 b
    (λ k s q st. omega (arith, l, q)) (λ k s q st t printed x. x) (λ k s q st x. x) d))

-- the stints of the first shards, and of the others
first_served : (held : ℕ → Bool) (some all : ℕ) → some ≤ all → (others : List (List Event)) × (serves held all ≡ serves held some ++ others)
first_served held some all l =
    let r = first_numbers 0 some all l in
    let make : ℕ → List Event = λ s. Take s ∷ Deliver s ∷ Answer s ∷ [] in
    let free : ℕ → Bool = λ s. not (held s) in (
      map make (filter free r.0),
      ap (λ (xs : List ℕ). map make (filter free xs)) r.1 ∙ ap (λ (xs : List ℕ). map make xs) (filter-append free (range_with_len 0 some) r.0)
          ∙ map-append make (filter free (range_with_len 0 some)) (filter free r.0),
    )

pub shards_wants : (held : ℕ → Bool) (shard : ℕ) (is : Bool) (h : House) (o : List ℕ) (h1 : House) (o1 : List ℕ) (h2 : House) (o2 : List ℕ) (a : Bool) → shard < h.directory.shards → is ≡ held shard
    → DidStints (λ k. k.config.shards ≡ h.directory.shards) (λ k. serves held shard) h o h1 o1 a → WantsStints (λ k. shard < k.config.shards) (λ k. serve shard is) h1 o1 h2 o2
    → WantsStints (λ k. Unit {0}) (λ k. serves held k.config.shards) h o h2 o2
shards_wants held shard is h o h1 o1 h2 o2 a l e c d =
    wants_of_all (λ k. k.config.shards ≡ h.directory.shards) (λ k. Unit {0}) (λ k. serves held shard ++ serve shard is) (λ k. serves held k.config.shards) h o h2 o2 (λ k s q st. shards_of k s h st)
    (λ k q. let r = first_served held (shard + 1) k.config.shards (omega (arith, l, q)) in
    (r.0, r.1 ∙ ap (λ (xs : List (List Event)). xs ++ r.0) (sym (ap (λ (x : Bool). serves held shard ++ serve shard x) e ∙ served held shard))))
    (stints_wants (λ k. k.config.shards ≡ h.directory.shards) (λ k. serves held shard) (λ k. serve shard is) h o h1 o1 h2 o2 a c
    (wants_as (λ k. shard < k.config.shards) (λ k. k.config.shards ≡ h.directory.shards) (λ k s t printed. StintsBreakOff k (serve shard is) s t printed) (λ k s t printed. StintsBreakOff k (serve shard is) s t printed) h1 o1 h2 o2
    (λ k s q st. omega (arith, l, q)) (λ k s q st t printed x. x) d))
