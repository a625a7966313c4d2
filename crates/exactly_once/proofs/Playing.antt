-- Events that are tried in a house, one after another.
use Rattle.std.proofs.Common.{◌≡◌, ℕ, ◌⊎◌, inl, inr, List, [], ◌∷◌, ◌++◌, refl, sym, ap, ◌∙◌, subst, append_assoc, append-nil, ◌+◌, ◌<◌, ◌≤◌, Result, Err, length, take, get_or, add-one}
use Rattle.std.proofs.Math.Seq.{take-suc}
use Rattle.std.proofs.lemmas.List.{take_all}
use Rattle.house.specs.declared.event.HouseFault.{HouseFault}
use Rattle.house.specs.declared.event.HouseFault.TheVariants as faults
use Rattle.house.specs.Setup.{Setup}
use Rattle.house.specs.declared.event.Event.{Event}
use Rattle.house.specs.Scene.{HasNothing, Scene, empty_scene}
use Rattle.house.specs.Settling.{BreaksOff, Happened, cut_short, unbegun}
use Rattle.house.specs.Stands.{StandsFor}
use Rattle.house.specs.House.{House}
use Rattle.house.specs.Steps.{Follows, FollowsInPart, IsBusy, ChangesNothing, IsNobody}
use Rattle.house.proofs.Settlement.{broken_off, happened-append, plays_part, split_at}
use Rattle.exactly_once.specs.Promise.{AreSomeOf, CameOnce, EachTried, IsTried, TriedFrom, TriedInPart, happens, refused}
use Rattle.exactly_once.proofs.Going.{happened_once}

-- ---- one event that was tried

pub it_happened : (k : Setup) (s : Scene) (e : Event) (h g : House) (old new : List ℕ) → StandsFor k h s → Follows h e g old new → TriedFrom k (e ∷ []) h s g old new
it_happened k s e h g old new st f =
    let w = f k s st in
    record {
      after = w.after;
      printed = w.printed;
      tried = (g, w.after, w.printed, [], happens w.plays, w.stands, (refl, refl, refl), sym (append-nil w.printed));
      stands = w.stands;
      out = w.out;
    }

pub it_was_refused : (k : Setup) (s : Scene) (e : Event) (h g : House) (old new : List ℕ) → StandsFor k h s → IsNobody h e ⊎ (IsBusy h e ⊎ ChangesNothing h e) → (g ≡ h) × (new ≡ old) → TriedFrom k (e ∷ []) h s g old new
it_was_refused k s e h g old new st why (same, silent) =
    let stands : StandsFor k g s = subst (λ (x : House). StandsFor k x s) (sym same) st in
    record {
      after = s;
      printed = [];
      tried = (g, s, [], [], refused (reason why) refl refl, stands, (refl, refl, refl), refl);
      stands = stands;
      out = silent ∙ sym (append-nil old);
    }
  where
    reason : IsNobody h e ⊎ (IsBusy h e ⊎ ChangesNothing h e) → IsNobody h e ⊎ (IsBusy h e ⊎ HasNothing k s e)
    reason (inl n) = inl n
    reason (inr (inl b)) = inr (inl b)
    reason (inr (inr i)) = inr (inr (i k s st))

-- ---- many

tried_append : (k : Setup) (es fs : List Event) (h i g : House) (s m t : Scene) (one two : List ℕ) → EachTried k es h s i m one → EachTried k fs i m g t two → EachTried k (es ++ fs) h s g t (one ++ two)
tried_append k [] fs h i g s m t one two (a, b, c) q =
    subst (λ (x : List ℕ). EachTried k fs h s g t (x ++ two)) (sym c) (subst (λ (x : Scene). EachTried k fs h x g t two) b (subst (λ (x : House). EachTried k fs x m g t two) a q))
tried_append k (e ∷ es) fs h i g s m t one two (j, n, a, b, tried, stands, more, both) q =
    (j, n, a, b ++ two, tried, stands, tried_append k es fs j i g n m t b two more q, ap (λ (x : List ℕ). x ++ two) both ∙ append_assoc a b two)

pub none_tried : (k : Setup) (s : Scene) (h : House) (old : List ℕ) → StandsFor k h s → TriedFrom k [] h s h old old
none_tried k s h old st = record { after = s; printed = []; tried = (refl, refl, refl); stands = st; out = sym (append-nil old) }

both_tried : (k : Setup) (s : Scene) (es fs : List Event) (h i g : House) (old mid new : List ℕ) → (a : TriedFrom k es h s i old mid) → TriedFrom k fs i a.after g mid new → TriedFrom k (es ++ fs) h s g old new
both_tried k s es fs h i g old mid new a b = record {
  after = b.after;
  printed = a.printed ++ b.printed;
  tried = tried_append k es fs h i g s a.after b.after a.printed b.printed a.tried b.tried;
  stands = b.stands;
  out = b.out ∙ ap (λ (x : List ℕ). x ++ b.printed) a.out ∙ append_assoc old a.printed b.printed;
}

-- the first of them, and one more
pub one_more_tried : (k : Setup) (s : Scene) (es : List Event) (n : ℕ) (d : Event) (h i g : House) (old mid new : List ℕ) → n < length es → (a : TriedFrom k (take n es) h s i old mid)
    → TriedFrom k (get_or es n d ∷ []) i a.after g mid new → TriedFrom k (take (n + 1) es) h s g old new
one_more_tried k s es n d h i g old mid new l a b =
    subst (λ (xs : List Event). TriedFrom k xs h s g old new) (sym (take-suc es n d l) ∙ ap (λ (j : ℕ). take j es) (sym (add-one n))) (both_tried k s (take n es) (get_or es n d ∷ []) h i g old mid new a b)

-- the first of them, and at the next one memory was wanting
pub broke_off : (k : Setup) (s : Scene) (es : List Event) (n : ℕ) (d : Event) (h i g : House) (old mid new : List ℕ) → n < length es → (a : TriedFrom k (take n es) h s i old mid)
    → FollowsInPart i (get_or es n d) g mid new → TriedInPart k es h s g old new
broke_off k s es n d h i g old mid new l a f =
    let r = split_at es n d l in
    let b = broken_off (get_or es n d) g mid new k a.after (f k a.after a.stands) in
    record {
      done = take n es;
      next = get_or es n d;
      others = r.0;
      split = r.1;
      between = i;
      scene = a.after;
      one = a.printed;
      tried = a.tried;
      after = b.after;
      two = b.printed;
      breaks = b.goes;
      stands = b.stands;
      out = b.out ∙ ap (λ (x : List ℕ). x ++ b.printed) a.out;
    }

-- ---- what was tried happened

some_skip : (some all : List Event) (e : Event) → AreSomeOf some all → AreSomeOf some (e ∷ all)
some_skip [] all e h = tt
some_skip (x ∷ some) all e h = inr h

some_both : (fs es gs others : List Event) → AreSomeOf fs es → AreSomeOf gs others → AreSomeOf (fs ++ gs) (es ++ others)
some_both [] [] gs others a b = b
some_both [] (e ∷ es) gs others a b = some_skip gs (es ++ others) e (some_both [] es gs others tt b)
some_both (f ∷ fs) [] gs others a b = absurd a
some_both (f ∷ fs) (e ∷ es) gs others (inl (same, more)) b = inl (same, some_both fs es gs others more b)
some_both (f ∷ fs) (e ∷ es) gs others (inr a) b = inr (some_both (f ∷ fs) es gs others a b)

-- some of these events happened, in their order
abbrev pub SomeCame : Setup → List Event → Scene → Scene → List ℕ → Type 0
SomeCame k es s t printed = (fs : List Event) × AreSomeOf fs es × Happened k fs s t printed

one_tried : (k : Setup) (e : Event) (es : List Event) (h : House) (s m t : Scene) (one two printed : List ℕ) → IsTried k h s e m one → printed ≡ one ++ two → SomeCame k es m t two → SomeCame k (e ∷ es) s t printed
one_tried k e es h s m t one two printed (happens p) both (fs, some, more) = (e ∷ fs, inl (refl, some), (m, one, two, plays_part k s e m one p, more, both))
one_tried k e es h s m t one two printed (refused why same silent) both (fs, some, more) =
    (fs, some_skip fs es e some, subst (λ (x : List ℕ). Happened k fs s t x) (sym (both ∙ ap (λ (x : List ℕ). x ++ two) silent)) (subst (λ (x : Scene). Happened k fs x t two) same more))

each_tried : (k : Setup) (es : List Event) (h g : House) (s t : Scene) (printed : List ℕ) → EachTried k es h s g t printed → SomeCame k es s t printed
each_tried k [] h g s t printed (a, b, c) = ([], tt, (b, c))
each_tried k (e ∷ es) h g s t printed (i, m, one, two, tried, stands, more, both) = one_tried k e es h s m t one two printed tried both (each_tried k es i g m t two more)

breaks_came : (k : Setup) (done : List Event) (next : Event) (others : List Event) (s m t : Scene) (one two : List ℕ) → SomeCame k done s m one → BreaksOff k m next t two → SomeCame k (done ++ next ∷ others) s t (one ++ two)
breaks_came k done next others s m t one two (fs, some, came) (cut_short p) =
    (fs ++ next ∷ [], some_both fs done (next ∷ []) (next ∷ others) some (inl (refl, tt)), happened-append k fs (next ∷ []) s m t one two came (t, two, [], p, (refl, refl), sym (append-nil two)))
breaks_came k done next others s m t one two (fs, some, came) (unbegun same silent) = (fs ++ [], some_both fs done [] (next ∷ others) some tt, happened-append k fs [] s m t one two came (same, silent))

pub came_once : (k : Setup) (es : List Event) (h g : House) (old new : List ℕ) → TriedFrom k es h (empty_scene k) g old new → CameOnce k es g old new
came_once k es h g old new a =
    let b = each_tried k es h g (empty_scene k) a.after a.printed a.tried in
    record { events = b.0; among = b.1; after = a.after; printed = a.printed; stands = a.stands; out = a.out; once = happened_once k b.0 a.after a.printed b.2 }

pub came_in_part : (k : Setup) (es : List Event) (h g : House) (old new : List ℕ) → TriedInPart k es h (empty_scene k) g old new → CameOnce k es g old new
came_in_part k es h g old new a =
    let b = breaks_came k a.done a.next a.others (empty_scene k) a.scene a.after a.one a.two (each_tried k a.done h a.between (empty_scene k) a.scene a.one a.tried) a.breaks in
    record {
      events = b.0;
      among = subst (λ (xs : List Event). AreSomeOf b.0 xs) (sym a.split) b.1;
      after = a.after;
      printed = a.one ++ a.two;
      stands = a.stands;
      out = a.out ∙ append_assoc old a.one a.two;
      once = happened_once k b.0 a.after (a.one ++ a.two) b.2;
    }

-- ---- which fault it was

pub is_fault : (f g : HouseFault) → f ≡ g → ◌≡◌ {A = Result (Unit {0}) HouseFault} (Err f) (Err g)
is_fault f g e = ap (λ (x : HouseFault). let r : Result (Unit {0}) HouseFault = Err x in r) e

pub is_other : (f g : HouseFault) → f ≡ g → (g ≡ faults.NoMemory → ⊥) → ◌≡◌ {A = Result (Unit {0}) HouseFault} (Err f) (Err faults.NoMemory) → ⊥
is_other f g e other x = other (same_fault g faults.NoMemory (ap (λ (y : HouseFault). let r : Result (Unit {0}) HouseFault = Err y in r) (sym e) ∙ x))
  where
    same_fault : (a b : HouseFault) → ◌≡◌ {A = Result (Unit {0}) HouseFault} (Err a) (Err b) → a ≡ b
    same_fault a b e = cc

pub none_wanting : faults.Nobody ≡ faults.NoMemory → ⊥
none_wanting e = cc

pub busy_wanting : faults.Busy ≡ faults.NoMemory → ⊥
busy_wanting e = cc

pub nothing_wanting : faults.Nothing ≡ faults.NoMemory → ⊥
nothing_wanting e = cc

-- all of them
pub all_tried : (k : Setup) (s : Scene) (es : List Event) (n : ℕ) (h g : House) (old new : List ℕ) → length es ≤ n → TriedFrom k (take n es) h s g old new → TriedFrom k es h s g old new
all_tried k s es n h g old new l a = subst (λ (xs : List Event). TriedFrom k xs h s g old new) (take_all n es l) a
