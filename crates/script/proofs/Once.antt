-- From what the house promises of all its events to what a script promises of all that it prints.
use Rattle.std.proofs.Common.{◌≡◌, ℕ, ◌+◌, ◌<◌, ◌≤◌, arith, Bool, true, List, [], ◌∷◌, ◌++◌, map, length, refl, sym, ap, ◌∙◌, subst, append-nil, append_assoc, Some}
use Rattle.std.specs.Prelude.{flat_map}
use Rattle.std.specs.Borrow.{Bor}
use Rattle.std.proofs.lemmas.Grind.{flat_map-append}
use Rattle.std.proofs.lemmas.List.Folds.{flat_map-map}
use Rattle.std.proofs.lemmas.List.Elements.{filter_map-append}
use Rattle.delivery_token.specs.declared.log.Noted.{Noted}
use Rattle.envelope.specs.Names.{number_of}
use Rattle.world.proofs.Always.{always}
use Rattle.world.proofs.Base.{Every, Rising, all_of_every, every_append, every_weaker, rising_pair}
use Rattle.house.specs.Setup.{Setup}
use Rattle.exactly_once.specs.Promise.{Entry, IsRecord, verdicts_of}
use Rattle.exactly_once.proofs.Grown.{Reached, reached_then, stays}
use Rattle.exactly_once.proofs.Told.{rising_append}
use Rattle.exactly_once.proofs.Going.{SceneOk, Went, entry_went, happened_went, nobody_ok, none_yet, plays_did, tells_once, told_same, verdicts-append}
use Rattle.house.specs.declared.event.Event.{Event}
use Rattle.house.specs.declared.event.Event.TheVariants as events
use Rattle.house.specs.Scene.{Plays, Scene, empty_scene, is_shut_in}
use Rattle.house.specs.Settled.{is_held}
use Rattle.house.specs.Settling.{GoesRounds, Happened, Settles, Stints, idle_turns, in_a_row, round}
use Rattle.std.specs.Prelude.{replicate}
use Rattle.house.proofs.Settlement.{plays_part, stints_happened}
use Rattle.script.specs.Script.{LineDoes, LinePlays, Script, ScriptLine, asks, asks_lingering, asks_nobody, closes, closes_again, closes_nobody, enters, enters_nowhere, enters_taken, goes_again, goes_nobody, held_after, is_bad, leaves, leaves_again, leaves_nobody, none_held, sends, sends_to_nobody, sends_to_owing, skips, stands_nobody, stands_still, tails, tails_nobody, vanishes, vanishes_again, vanishes_away}
use Rattle.script.specs.Promise.{refusal}
use Rattle.script.specs.Promise.{AreParts, DeliversOnce, OfHouse, Part, Refusal, Why, Line, Nobody, Busy, Window, entries_of, entry_in, refusals_of, refused_in, scene_after, text_of_part, word_of}

-- where these verdicts were told, and what was printed since is these parts
abbrev pub told_by : (ℕ → List Noted) → List Part → ℕ → List Noted
told_by told parts p = told p ++ verdicts_of p (entries_of parts)

-- numbers that rise, from the first on and below the last
record AreBetween (first last : ℕ) (numbers : List ℕ) : Type 0 where
  pub rising : Rising (λ a b. a < b) numbers
  pub each : Every (λ n. (first ≤ n) × (n < last)) numbers
  pub later : first ≤ last

between_both : (a b c : ℕ) (xs ys : List ℕ) → AreBetween a b xs → AreBetween b c ys → AreBetween a c (xs ++ ys)
between_both a b c xs ys p q =
    let l = p.later in
    let m = q.later in
    record {
      rising = rising_append (λ x y. x < y) xs ys p.rising q.rising
          (every_weaker (λ n. (a ≤ n) × (n < b)) (λ x. Every (λ y. x < y) ys) (λ x u. every_weaker (λ n. (b ≤ n) × (n < c)) (λ y. x < y) (λ y v. let h = u.1 in let i = v.0 in omega (arith, h, i)) ys q.each) xs p.each);
      each = every_append (λ n. (a ≤ n) × (n < c)) xs ys
          (every_weaker (λ n. (a ≤ n) × (n < b)) (λ n. (a ≤ n) × (n < c)) (λ n u. let h = u.1 in (u.0, omega (arith, h, m))) xs p.each)
          (every_weaker (λ n. (b ≤ n) × (n < c)) (λ n. (a ≤ n) × (n < c)) (λ n u. let h = u.0 in (omega (arith, h, l), u.1)) ys q.each);
      later = omega (arith, l, m);
    }

-- from one scene to another, with what was printed by these lines
record Goes (k : Setup) (told : ℕ → List Noted) (first last : ℕ) (s t : Scene) (printed : List ℕ) : Type 0 where
  pub parts : List Part
  pub leads : AreParts k parts s t
  pub is : printed ≡ flat_map (text_of_part k) parts
  pub numbers : AreBetween first last (refusals_of parts)
  pub ok : SceneOk k (told_by told parts) t
  pub reached : Reached k.config s.world t.world

-- ---- what the house prints

house_parts : (k : Setup) (entries : List Entry) (s t : Scene) → IsRecord k entries s t → AreParts k (map OfHouse entries) s t
house_parts k [] s t r = r
house_parts k (e ∷ es) s t r = (r.0, house_parts k es e.after t r.1)

house_entries : (entries : List Entry) → entries_of (map OfHouse entries) ≡ entries
house_entries [] = refl
house_entries (e ∷ es) = ap (λ (x : List Entry). e ∷ x) (house_entries es)

house_refuses_none : (entries : List Entry) → refusals_of (map OfHouse entries) ≡ []
house_refuses_none [] = refl
house_refuses_none (e ∷ es) = house_refuses_none es

by_house : (k : Setup) (told : ℕ → List Noted) (first last : ℕ) → first ≤ last → (s t : Scene) (printed : List ℕ) → Went k told s t printed → Goes k told first last s t printed
by_house k told first last l s t printed g = record {
  parts = map OfHouse g.entries;
  leads = house_parts k g.entries s t g.leads;
  is = g.is ∙ sym (flat_map-map (text_of_part k) OfHouse g.entries);
  numbers = subst (AreBetween first last) (sym (house_refuses_none g.entries)) (record { rising = tt; each = tt; later = l });
  ok = told_same k (λ p. told p ++ verdicts_of p g.entries) (told_by told (map OfHouse g.entries)) t (λ p. ap (λ (x : List Entry). told p ++ verdicts_of p x) (sym (house_entries g.entries))) g.ok;
  reached = g.reached;
}

-- an event of the house
event_goes : (k : Setup) (told : ℕ → List Noted) (first last : ℕ) → first ≤ last → (s : Scene) (e : Event) (t : Scene) (printed : List ℕ) → SceneOk k told s → Plays k true s e t printed → Goes k told first last s t printed
event_goes k told first last l s e t printed ok p =
    let q = plays_part k s e t printed p in
    by_house k told first last l s t printed (entry_went k told s e t printed q (plays_did k told s e t printed ok q))

-- bytes of a line, as an event has them
abbrev pub lent : List ℕ → Bor (List ℕ)
lent bytes = record { ref_ptr = (0, 0); now = bytes }

-- ---- what the script says itself

still_ok : (k : Setup) (told : ℕ → List Noted) (s : Scene) → SceneOk k told s → SceneOk k (λ p. told p ++ []) s
still_ok k told s ok = told_same k told (λ p. told p ++ []) s (λ p. sym (append-nil (told p))) ok

-- nothing happened, and nothing was printed
is_silent : (k : Setup) (told : ℕ → List Noted) (first last : ℕ) → first ≤ last → (s t : Scene) (printed : List ℕ) → SceneOk k told s → t ≡ s → printed ≡ [] → Goes k told first last s t printed
is_silent k told first last l s t printed ok e p = rw e (record { parts = []; leads = refl; is = p; numbers = record { rising = tt; each = tt; later = l }; ok = still_ok k told s ok; reached = stays k.config s.world s.world refl })

-- nothing happened, and that a line can't be done was printed
refuses : (k : Setup) (told : ℕ → List Noted) (number : ℕ) (why : Why) (s t : Scene) (printed : List ℕ) → SceneOk k told s → t ≡ s → printed ≡ refusal number (word_of why) → Goes k told number (number + 1) s t printed
refuses k told number why s t printed ok e p =
    rw e (record { parts = Refusal number why ∷ []; leads = (tt, refl); is = p ∙ sym (append-nil _); numbers = record { rising = (tt, tt); each = ((omega arith, omega arith), tt); later = omega arith }; ok = still_ok k told s ok; reached = stays k.config s.world s.world refl })

shows_window : (k : Setup) (told : ℕ → List Noted) (first last : ℕ) → first ≤ last → (word : List ℕ) (m : ℕ) (s t : Scene) (printed : List ℕ) → SceneOk k told s → number_of k.directory word ≡ Some m → t ≡ s
    → printed ≡ text_of_part k (Window word (s.world.box m)) → Goes k told first last s t printed
shows_window k told first last l word m s t printed ok is e p =
    rw e (record { parts = Window word (s.world.box m) ∷ []; leads = ((m, is, refl), refl); is = p ∙ sym (append-nil _); numbers = record { rising = tt; each = tt; later = l }; ok = still_ok k told s ok; reached = stays k.config s.world s.world refl })

-- ---- lines

line_goes : (k : Setup) (told : ℕ → List Noted) (number : ℕ) (s t : Scene) (printed : List ℕ) (line : ScriptLine) → SceneOk k told s → LineDoes k number s t printed line → Goes k told number (number + 1) s t printed
line_goes k told number s t printed line ok (sends connection bytes p) = event_goes k told number (number + 1) (omega arith) s (events.Bytes connection (lent bytes)) t printed ok p
line_goes k told number s t printed line ok (sends_to_nobody connection bytes n e p) = refuses k told number Nobody s t printed ok e p
line_goes k told number s t printed line ok (sends_to_owing connection bytes n e p) = refuses k told number Busy s t printed ok e p
line_goes k told number s t printed line ok (vanishes connection p) = event_goes k told number (number + 1) (omega arith) s (events.Vanish connection) t printed ok p
line_goes k told number s t printed line ok (vanishes_away connection n e p) = refuses k told number Nobody s t printed ok e p
line_goes k told number s t printed line ok (vanishes_again connection n e p) = refuses k told number Busy s t printed ok e p
line_goes k told number s t printed line ok (enters session user p) = event_goes k told number (number + 1) (omega arith) s (events.Enter session (lent user)) t printed ok p
line_goes k told number s t printed line ok (enters_nowhere session user n e p) = refuses k told number Nobody s t printed ok e p
line_goes k told number s t printed line ok (enters_taken session user n m e p) = refuses k told number Busy s t printed ok e p
line_goes k told number s t printed line ok (asks session bytes p) = event_goes k told number (number + 1) (omega arith) s (events.Say session (lent bytes)) t printed ok p
line_goes k told number s t printed line ok (asks_nobody session bytes n e p) = refuses k told number Nobody s t printed ok e p
line_goes k told number s t printed line ok (asks_lingering session bytes n e p) = refuses k told number Busy s t printed ok e p
line_goes k told number s t printed line ok (leaves session p) = event_goes k told number (number + 1) (omega arith) s (events.Leave session) t printed ok p
line_goes k told number s t printed line ok (leaves_nobody session n e p) = refuses k told number Nobody s t printed ok e p
line_goes k told number s t printed line ok (leaves_again session n e p) = refuses k told number Busy s t printed ok e p
line_goes k told number s t printed line ok (stands_still shard l e p) = is_silent k told number (number + 1) (omega arith) s t printed ok e p
line_goes k told number s t printed line ok (stands_nobody shard l e p) = refuses k told number Nobody s t printed ok e p
line_goes k told number s t printed line ok (goes_again shard l e p) = is_silent k told number (number + 1) (omega arith) s t printed ok e p
line_goes k told number s t printed line ok (goes_nobody shard l e p) = refuses k told number Nobody s t printed ok e p
line_goes k told number s t printed line ok (closes shard p) = event_goes k told number (number + 1) (omega arith) s (events.Close shard) t printed ok p
line_goes k told number s t printed line ok (closes_nobody shard l e p) = refuses k told number Nobody s t printed ok e p
line_goes k told number s t printed line ok (closes_again shard l e p) = refuses k told number Busy s t printed ok e p
line_goes k told number s t printed line ok (tails word m is e p) = shows_window k told number (number + 1) (omega arith) word m s t printed ok is e p
line_goes k told number s t printed line ok (tails_nobody word n e p) = refuses k told number Nobody s t printed ok e p
line_goes k told number s t printed line ok (skips e p) = is_silent k told number (number + 1) (omega arith) s t printed ok e p
line_goes k told number s t printed line ok (is_bad e p) = refuses k told number Line s t printed ok e p

-- ---- one after the other

parts-append : (k : Setup) (xs ys : List Part) (s m t : Scene) → AreParts k xs s m → AreParts k ys m t → AreParts k (xs ++ ys) s t
parts-append k [] ys s m t e r = subst (λ (x : Scene). AreParts k ys x t) e r
parts-append k (x ∷ xs) ys s m t h r = (h.0, parts-append k xs ys (scene_after s x) m t h.1 r)

told-append : (told : ℕ → List Noted) (xs ys : List Part) (p : ℕ) → told_by (told_by told xs) ys p ≡ told_by told (xs ++ ys) p
told-append told xs ys p = append_assoc (told p) (verdicts_of p (entries_of xs)) (verdicts_of p (entries_of ys))
    ∙ ap (λ (x : List Noted). told p ++ x) (sym (verdicts-append p (entries_of xs) (entries_of ys)) ∙ ap (λ (x : List Entry). verdicts_of p x) (sym (filter_map-append entry_in xs ys)))

both_go : (k : Setup) (told : ℕ → List Noted) (first mid last : ℕ) (s m t : Scene) (one two : List ℕ) → (a : Goes k told first mid s m one) → Goes k (told_by told a.parts) mid last m t two → Goes k told first last s t (one ++ two)
both_go k told first mid last s m t one two a b = record {
  parts = a.parts ++ b.parts;
  leads = parts-append k a.parts b.parts s m t a.leads b.leads;
  is = ap (λ (x : List ℕ). x ++ two) a.is ∙ ap (λ (x : List ℕ). flat_map (text_of_part k) a.parts ++ x) b.is ∙ sym (flat_map-append (text_of_part k) a.parts b.parts);
  numbers = subst (AreBetween first last) (sym (filter_map-append refused_in a.parts b.parts)) (between_both first mid last (refusals_of a.parts) (refusals_of b.parts) a.numbers b.numbers);
  ok = told_same k (told_by (told_by told a.parts) b.parts) (told_by told (a.parts ++ b.parts)) t (told-append told a.parts b.parts) b.ok;
  reached = reached_then k.config s.world m.world t.world a.reached b.reached;
}

-- a settling is events of the house
happened_goes : (k : Setup) (told : ℕ → List Noted) (first last : ℕ) → first ≤ last → (es : List Event) (s t : Scene) (printed : List ℕ) → SceneOk k told s → Happened k es s t printed → Goes k told first last s t printed
happened_goes k told first last l es s t printed ok h = let by = happened_went k told es s t printed ok h in by_house k told first last l s t printed by.went

rounds_go : (k : Setup) (told : ℕ → List Noted) (first last : ℕ) → first ≤ last → (held : ℕ → Bool) (s t : Scene) (printed : List ℕ) → SceneOk k told s → GoesRounds k held s t printed → Goes k told first last s t printed
rounds_go k told first last l held s t printed ok d =
    let h = stints_happened k (in_a_row (replicate d.rounds (round k held (is_shut_in s)))) s t printed d.goes in
    happened_goes k told first last l h.0 s t printed ok h.1

turns_go : (k : Setup) (told : ℕ → List Noted) (first last : ℕ) → first ≤ last → (s t : Scene) (printed : List ℕ) → SceneOk k told s → Stints k (idle_turns k.config.sessions) s t printed → Goes k told first last s t printed
turns_go k told first last l s t printed ok v =
    let h = stints_happened k (idle_turns k.config.sessions) s t printed v in
    happened_goes k told first last l h.0 s t printed ok h.1

settles_goes : (k : Setup) (told : ℕ → List Noted) (first last : ℕ) → first ≤ last → (held : ℕ → Bool) (s t : Scene) (printed : List ℕ) → SceneOk k told s → Settles k held s t printed → Goes k told first last s t printed
settles_goes k told first last l held s t printed ok d =
    let a = rounds_go k told first last l held s d.between d.one ok d.goes in
    rw d.both (both_go k told first last last s d.between t d.one d.two a (turns_go k (told_by told a.parts) last last (omega arith) d.between t d.two a.ok d.turns))

plays_go : (k : Setup) (told : ℕ → List Noted) (number : ℕ) (held : List Bool) (line : ScriptLine) (s t : Scene) (printed : List ℕ) → SceneOk k told s → LinePlays k number held line s t printed → Goes k told number (number + 1) s t printed
plays_go k told number held line s t printed ok p =
    let a = line_goes k told number s p.between p.one line ok p.does in
    rw p.both (both_go k told number (number + 1) (number + 1) s p.between t p.one p.two a (settles_goes k (told_by told a.parts) (number + 1) (number + 1) (omega arith) (is_held (held_after held line)) p.between t p.two a.ok p.settles))

script_goes : (k : Setup) (told : ℕ → List Noted) (number last : ℕ) (held : List Bool) (lines : List ScriptLine) (s t : Scene) (printed : List ℕ) → number + length lines ≡ last → SceneOk k told s
    → Script k number held lines s t printed → Goes k told number last s t printed
script_goes k told number last held [] s t printed count ok (e, p) = is_silent k told number last (omega (arith, count)) s t printed ok e p
script_goes k told number last held (line ∷ lines) s t printed count ok (m, one, two, p, more, both) =
    let a = plays_go k told number held line s m one ok p in
    rw both (both_go k told number (number + 1) last s m t one two a (script_goes k (told_by told a.parts) (number + 1) last (held_after held line) lines m t two (omega (arith, count)) a.ok more))

-- what a script prints delivers exactly once
pub script_once : (k : Setup) (lines : List ScriptLine) (t : Scene) (printed : List ℕ) → Script k 1 (none_held k) lines (empty_scene k) t printed → DeliversOnce k (length lines) t printed
script_once k lines t printed s =
    let g = script_goes k none_yet 1 (1 + length lines) (none_held k) lines (empty_scene k) t printed refl (nobody_ok k) s in
    let refused = refusals_of g.parts in
    let h = always k.config g.reached.0 t.world g.reached.1 in
    record {
      parts = g.parts;
      leads = g.leads;
      whole = g.is;
      in_turn = rising_pair (λ a b. a < b) refused g.numbers.rising;
      of_lines = all_of_every (λ n. (0 < n) × (n ≤ length lines)) refused
          (every_weaker (λ n. (1 ≤ n) × (n < 1 + length lines)) (λ n. (0 < n) × (n ≤ length lines)) (λ n x. let a = x.0 in let b = x.1 in (omega (arith, a), omega (arith, b))) refused g.numbers.each);
      steps = g.reached.0;
      came = g.reached.1;
      world = h;
      told = tells_once k t (entries_of g.parts) h g.ok;
    }
