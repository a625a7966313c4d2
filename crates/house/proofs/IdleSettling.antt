-- The turns of the sessions that idle, when the house settles.
use Rattle.std.proofs.Common.{◌≡◌, ℕ, ◌+◌, ◌<◌, List, [], ◌∷◌, ◌++◌, length, refl, ap, sym, ◌∙◌, subst, arith, append_assoc, append-nil}
use Rattle.std.specs.Prelude.{Bool}
use Rattle.std.proofs.lemmas.List.FromFn.{map-range_with_len_more}
use Rattle.house.specs.declared.event.Event.{Event}
use Rattle.house.specs.declared.event.Event.TheVariants.{Idle}
use Rattle.house.specs.Setup.{Setup}
use Rattle.house.specs.Scene.{HasNothing, Scene}
use Rattle.house.specs.Settled.{BrokeOffFrom, SettledFrom, is_held}
use Rattle.house.specs.Settling.{BreaksOff, GoesRounds, InTurn, RoundsBreakOff, Stint, StintBreaksOff, Stints, StintsBreakOff, happens, idle_turns, in_rounds, in_turns}
use Rattle.house.specs.Stands.{StandsFor}
use Rattle.house.specs.House.{House}
use Rattle.house.specs.Steps.{Follows, FollowsInPart}
use Rattle.house.specs.inner.Trying.{Goes, IsAmong, Wants, Went}
use Rattle.house.proofs.Settlement.{All-one, Often, broken_off, first_made, joined, often_breaks, often_more, one_breaks, stint_of, stints-append, stints_break_before, stints_then_break, turn_breaks}

-- ---- one session

-- the turns so far
abbrev pub Turns : ℕ → House → List ℕ → House → List ℕ → Type 0
Turns n h o h1 o1 = Goes (λ k. IsAmong k (Idle n)) (λ k s t printed. Often k (Idle n ∷ []) s t printed) h o h1 o1

pub turn_again : (n : ℕ) (h : House) (o : List ℕ) (h1 : House) (o1 : List ℕ) (h2 : House) (o2 : List ℕ) → Turns n h o h1 o1 → Follows h1 (Idle n) h2 o1 o2 → Turns n h o h2 o2
turn_again n h o h1 o1 h2 o2 f g k s q st =
    let w = f k s q st in
    let l = g k w.after w.stands in
    joined (λ k s t printed. Often k (Idle n ∷ []) s t printed) (λ k s t printed. InTurn k (Idle n ∷ []) s t printed) (λ k s t printed. Often k (Idle n ∷ []) s t printed)
    (λ k s m t one two x y. often_more k (Idle n ∷ []) s m t one two x y) k s h1 h2 o o1 o2 w
    (record { after = l.after; printed = l.printed; goes = (l.after, l.printed, [], happens l.plays, (refl, refl), sym (append-nil l.printed)); stands = l.stands; out = l.out })

-- it has nothing to be shown any more
pub turns_done : (n : ℕ) (h : House) (o : List ℕ) (h1 : House) (o1 : List ℕ) (h2 : House) (o2 : List ℕ) → Turns n h o h1 o1 → h2 ≡ h1 → o2 ≡ o1
    → ((k : Setup) (s : Scene) → IsAmong k (Idle n) → StandsFor k h1 s → HasNothing k s (Idle n))
    → Goes (λ k. IsAmong k (Idle n)) (λ k s t printed. Stint k (Idle n ∷ []) s t printed) h o h2 o2
turns_done n h o h1 o1 h2 o2 f same silent still k s q st =
    let w = f k s q st in
    record {
      after = w.after;
      printed = w.printed;
      goes = stint_of k (Idle n ∷ []) s w.after w.printed w.goes (All-one (HasNothing k w.after) (Idle n) (still k w.after q w.stands));
      stands = subst (λ (x : House). StandsFor k x w.after) (sym same) w.stands;
      out = silent ∙ w.out;
    }

pub turns_want : (n : ℕ) (h : House) (o : List ℕ) (h1 : House) (o1 : List ℕ) (h2 : House) (o2 : List ℕ) → Turns n h o h1 o1 → FollowsInPart h1 (Idle n) h2 o1 o2
    → Wants (λ k. IsAmong k (Idle n)) (λ k s t printed. StintBreaksOff k (Idle n ∷ []) s t printed) h o h2 o2
turns_want n h o h1 o1 h2 o2 f g = record {
  broke_off = λ k s q st. let w = f k s q st in
      joined (λ k s t printed. Often k (Idle n ∷ []) s t printed) (λ k s t printed. BreaksOff k s (Idle n) t printed) (λ k s t printed. StintBreaksOff k (Idle n ∷ []) s t printed)
      (λ k s m t one two x y. often_breaks k (Idle n ∷ []) s m t one two x (turn_breaks k [] (Idle n) [] m m t [] two (refl, refl) y)) k s h1 h2 o o1 o2 w
      (broken_off (Idle n) h2 o1 o2 k w.after (g k w.after w.stands));
}

-- ---- all sessions

-- the turns of the first sessions, of so many
abbrev pub FirstTurns : (count : ℕ) → (first : ℕ) → House → List ℕ → House → List ℕ → Type 0
FirstTurns count first h o h1 o1 = Goes (λ k. k.config.sessions ≡ count) (λ k s t printed. Stints k (idle_turns first) s t printed) h o h1 o1

among : (k : Setup) (count n : ℕ) → n < count → k.config.sessions ≡ count → IsAmong k (Idle (n + 1))
among k count n l e = (omega arith, omega (arith, l, e))

one_more : (k : Setup) (n : ℕ) (s m t : Scene) (one two : List ℕ) → Stints k (idle_turns n) s m one → Stint k (Idle (n + 1) ∷ []) m t two → Stints k (idle_turns (n + 1)) s t (one ++ two)
one_more k n s m t one two a b =
    subst (λ (gs : List (List Event)). Stints k gs s t (one ++ two)) (sym (map-range_with_len_more (λ i. Idle i ∷ []) 1 n (n + 1) (omega arith)))
    (stints-append k (idle_turns n) ((Idle (n + 1) ∷ []) ∷ []) s m t one two a (t, two, [], b, (refl, refl), sym (append-nil two)))

pub session_more : (count n : ℕ) (h : House) (o : List ℕ) (h1 : House) (o1 : List ℕ) (h2 : House) (o2 : List ℕ) → n < count → FirstTurns count n h o h1 o1
    → Goes (λ k. IsAmong k (Idle (n + 1))) (λ k s t printed. Stint k (Idle (n + 1) ∷ []) s t printed) h1 o1 h2 o2 → FirstTurns count (n + 1) h o h2 o2
session_more count n h o h1 o1 h2 o2 l f g k s q st =
    let w = f k s q st in
    joined (λ k s t printed. Stints k (idle_turns n) s t printed) (λ k s t printed. Stint k (Idle (n + 1) ∷ []) s t printed) (λ k s t printed. Stints k (idle_turns (n + 1)) s t printed)
    (λ k s m t one two x y. one_more k n s m t one two x y) k s h1 h2 o o1 o2 w (g k w.after (among k count n l q) w.stands)

pub session_wants : (count n : ℕ) (h : House) (o : List ℕ) (h1 : House) (o1 : List ℕ) (h2 : House) (o2 : List ℕ) → count ≡ length h.visitors → n < count → FirstTurns count n h o h1 o1
    → Wants (λ k. IsAmong k (Idle (n + 1))) (λ k s t printed. StintBreaksOff k (Idle (n + 1) ∷ []) s t printed) h1 o1 h2 o2
    → Wants (λ k. Unit {0}) (λ k s t printed. StintsBreakOff k (idle_turns k.config.sessions) s t printed) h o h2 o2
session_wants count n h o h1 o1 h2 o2 e l f d = record {
  broke_off = λ k s q st.
      let many : k.config.sessions ≡ count = sym (e ∙ st.places) in
      let w = f k s many st in
      let v = d.broke_off k w.after (among k count n l many) w.stands in
      record {
        after = v.after;
        printed = w.printed ++ v.printed;
        goes = break_off k k.config.sessions (omega (arith, l, many)) s w.after v.after w.printed v.printed w.goes v.goes;
        stands = v.stands;
        out = v.out ∙ ap (λ (x : List ℕ). x ++ v.printed) w.out ∙ append_assoc o w.printed v.printed;
      };
}
  where
    break_off : (k : Setup) (sessions : ℕ) → n < sessions → (s m t : Scene) (one two : List ℕ) → Stints k (idle_turns n) s m one → StintBreaksOff k (Idle (n + 1) ∷ []) m t two → StintsBreakOff k (idle_turns sessions) s t (one ++ two)
    break_off k sessions less s m t one two x y =
        let make : ℕ → List Event = λ i. Idle i ∷ [] in
        let r = first_made make 1 (n + 1) sessions (omega (arith, less)) in
        let b = stints_then_break k (idle_turns n) ((Idle (n + 1) ∷ []) ∷ []) s m t one two x (one_breaks k (Idle (n + 1) ∷ []) m t two y) in
        subst (λ (gs : List (List Event)). StintsBreakOff k gs s t (one ++ two)) (sym (r.1 ∙ ap (λ (xs : List (List Event)). xs ++ r.0) (map-range_with_len_more make 1 n (n + 1) (omega arith))))
        (stints_break_before k (idle_turns n ++ (Idle (n + 1) ∷ []) ∷ []) r.0 s t (one ++ two) b)

pub all_sessions : (count n : ℕ) (h : House) (o : List ℕ) (h1 : House) (o1 : List ℕ) → count ≡ length h.visitors → n ≡ count → FirstTurns count n h o h1 o1
    → Goes (λ k. Unit {0}) (λ k s t printed. Stints k (idle_turns k.config.sessions) s t printed) h o h1 o1
all_sessions count n h o h1 o1 e f g k s q st =
    let many : k.config.sessions ≡ count = sym (e ∙ st.places) in
    let w = g k s many st in
    record { after = w.after; printed = w.printed; goes = subst (λ (i : ℕ). Stints k (idle_turns i) s w.after w.printed) (f ∙ sym many) w.goes; stands = w.stands; out = w.out }

-- ---- settling

pub settled : (held : List Bool) (k : Setup) (s : Scene) (h : House) (o : List ℕ) (h1 : House) (o1 : List ℕ) (h2 : House) (o2 : List ℕ) → StandsFor k h s
    → Goes (λ k. Unit {0}) (λ k s t printed. GoesRounds k (is_held held) s t printed) h o h1 o1
    → Goes (λ k. Unit {0}) (λ k s t printed. Stints k (idle_turns k.config.sessions) s t printed) h1 o1 h2 o2 → SettledFrom k held s h2 o o2
settled held k s h o h1 o1 h2 o2 st f g =
    let w = f k s tt st in
    let v = g k w.after tt w.stands in
    record {
      after = v.after;
      printed = w.printed ++ v.printed;
      settles = record { between = w.after; one = w.printed; two = v.printed; goes = w.goes; turns = v.goes; both = refl };
      stands = v.stands;
      out = v.out ∙ ap (λ (x : List ℕ). x ++ v.printed) w.out ∙ append_assoc o w.printed v.printed;
    }

pub rounds_wanted : (held : List Bool) (k : Setup) (s : Scene) (h1 : House) (o o1 : List ℕ) → Went (λ k s t printed. RoundsBreakOff k (is_held held) s t printed) k s h1 o o1 → BrokeOffFrom k held s h1 o o1
rounds_wanted held k s h1 o o1 w = record { after = w.after; printed = w.printed; breaks_off = in_rounds w.goes; stands = w.stands; out = w.out }

pub turns_wanted : (held : List Bool) (k : Setup) (s : Scene) (h : House) (o : List ℕ) (h1 : House) (o1 : List ℕ) (h2 : House) (o2 : List ℕ) → StandsFor k h s
    → Goes (λ k. Unit {0}) (λ k s t printed. GoesRounds k (is_held held) s t printed) h o h1 o1
    → Wants (λ k. Unit {0}) (λ k s t printed. StintsBreakOff k (idle_turns k.config.sessions) s t printed) h1 o1 h2 o2 → BrokeOffFrom k held s h2 o o2
turns_wanted held k s h o h1 o1 h2 o2 st f d =
    let w = f k s tt st in
    let v = d.broke_off k w.after tt w.stands in
    record {
      after = v.after;
      printed = w.printed ++ v.printed;
      breaks_off = in_turns w.after w.printed v.printed w.goes v.goes refl;
      stands = v.stands;
      out = v.out ∙ ap (λ (x : List ℕ). x ++ v.printed) w.out ∙ append_assoc o w.printed v.printed;
    }
