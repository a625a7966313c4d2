-- What the records of a run of a script refuse (`RunTold`, `RunWrote`): the small script of `RunRows` may be told and written as it is there, and in no other
-- way. Above each stands what somebody would have seen.
use Rattle.std.proofs.Common.{◌≡◌, ℕ, zero, suc, ◌+◌, ◌<◌, ◌≤◌, ◌&&◌, Bool, true, false, List, [], ◌∷◌, ◌++◌, length, take, drop, refl, ap, sym, subst, ◌∙◌, append-nil, append_assoc, arith, take-append-drop, eq-eqb, get_or, Option, Some, Result, Ok, Err}
use Rattle.std.specs.Prelude.{codes}
use Rattle.std.specs.Str.{bytes_eq}
use Rattle.std.proofs.Math.Seq.{take-length}
use Rattle.std.proofs.lemmas.List.{length-take-le}
use Rattle.std.proofs.lemmas.List.Quantifiers.{position-Some}
use Rattle.std.proofs.lemmas.Slice.Eq.{bytes_eq-Decides}
use Rattle.envelope.specs.Names.{number_of}
use Rattle.envelope.proofs.Numbers.{number_is_position}
use Rattle.world.specs.World.{Box}
use Rattle.world.specs.Law.{Headline}
use Rattle.house.specs.Scene.{Scene}
use Rattle.exactly_once.specs.rows.Entries.{the_house}
use Rattle.exactly_once.specs.rows.Worlds.{alices, bobs}
use Rattle.exactly_once.proofs.WorldRefuted.{in_no_world, is_lost, twice as one_twice, with_alices}
use Rattle.script.specs.Promise.{DeliveredOnce, IsPartFrom, Window}
use Rattle.script.specs.Wrote.{RunWrote, WroteOnce}
use Rattle.script.specs.Runs.{ScriptTold, ScriptWrote}
use Rattle.script.specs.Script.{Script, ScriptLine, begins, held_after, none_held, script_of}
use Rattle.script.specs.Telling.{LineByLine, RunTold, asked_by, joined, lines_of, told}
use Rattle.script.specs.declared.program.ScriptFault.TheVariants as script_faults
use Rattle.script.specs.declared.run.RunFault.{RunFault}
use Rattle.script.specs.declared.run.RunFault.TheVariants as faults
use Rattle.settings.specs.declared.asking.Form.{Form}
use Rattle.settings.specs.declared.asking.Form.TheVariants.{Text, Json}
use Rattle.settings.specs.declared.config.Config.{Config}
use Rattle.settings.specs.declared.config.ConfigFault.{ConfigFault}
use Rattle.script.proofs.Begins.{same_first}
use Rattle.script.proofs.Printed.{connection_greeted, prints, window_shown}
use Rattle.script.proofs.TellingLaws.{all_wrote, delivers, run_wrote}
use Rattle.laws_client.specs.rows.RunRows.{all_objects, all_told, as_objects, as_printed, as_text, the_input, the_texts}
use Rattle.laws_client.proofs.StillHouse.{Prints, at_first, bad_prints, comment_prints, may_play, nobody_prints, plays_so, window_prints}

-- ---- it may be told and written so

-- each of these lines prints its text
abbrev EachPrints : ℕ → List ScriptLine → List (List ℕ) → Type 0
EachPrints number [] [] = Unit {0}
EachPrints number [] (text ∷ texts) = ⊥
EachPrints number (asks ∷ lines) [] = ⊥
EachPrints number (asks ∷ lines) (text ∷ texts) = Prints number asks text × EachPrints (number + 1) lines texts

each_prints : EachPrints 1 (script_of the_input) the_texts
each_prints = (comment_prints, (nobody_prints, (window_prints, (bad_prints, tt))))

they_play : (number : ℕ) (lines : List ScriptLine) (texts : List (List ℕ)) → EachPrints number lines texts → LineByLine the_house number (none_held the_house) lines at_first at_first texts
they_play number [] [] each = (refl, refl)
they_play number [] (text ∷ texts) each = absurd each
they_play number (asks ∷ lines) [] each = absurd each
they_play number (asks ∷ lines) (text ∷ texts) each = (
  at_first,
  text,
  texts,
  may_play number asks text each.0,
  subst (λ (held : List Bool). LineByLine the_house (number + 1) held lines at_first at_first texts) (sym each.0.free) (they_play (number + 1) lines texts each.1),
  refl,
)

in_form : (form : Form) (all : List ℕ) → told form 1 (lines_of the_input) the_texts ≡ all → RunTold form the_house (lines_of the_input) (Ok tt) (Some []) (Some all)
in_form form all is =
    let plays = they_play 1 (script_of the_input) the_texts each_prints in
    record {
      tells = record {
        some = lines_of the_input;
        others = [];
        split = refl;
        after = at_first;
        texts = the_texts;
        plays = plays;
        once = delivers the_house (lines_of the_input) at_first the_texts plays;
        sent = length (told form 1 (lines_of the_input) the_texts);
        within = omega arith;
        out = sym (take-length (told form 1 (lines_of the_input) the_texts) ∙ is);
      };
      all = refl;
      whole = refl;
    }

all_is_told : RunTold Text the_house (lines_of the_input) (Ok tt) (Some []) (Some all_told)
all_is_told = in_form Text all_told as_text

all_objects_are_told : RunTold Json the_house (lines_of the_input) (Ok tt) (Some []) (Some all_objects)
all_objects_are_told = in_form Json all_objects as_objects

all_is_written : RunWrote the_house (script_of the_input) (Ok tt) (Some []) (Some all_told)
all_is_written = all_wrote the_house the_input (Some []) (Some all_told) all_is_told

-- ---- and in no other way

-- what the first lines print
abbrev printed_by : (lines : ℕ) → List ℕ
printed_by lines = joined (take lines the_texts)

first_texts : (number : ℕ) (all : List ScriptLine) (texts : List (List ℕ)) → EachPrints number all texts → (some others : List ScriptLine) → all ≡ some ++ others
    → (t : Scene) (printed : List ℕ) → Script the_house number (none_held the_house) some at_first t printed → printed ≡ joined (take (length some) texts)
first_texts number all texts each [] others e t printed p = p.1
first_texts number [] texts each (asks ∷ some) others e t printed p = absurd (let many = ap length e in omega (arith, many))
first_texts number (line ∷ all) [] each (asks ∷ some) others e t printed p = absurd each
first_texts number (line ∷ all) (text ∷ texts) each (asks ∷ some) others e t printed (m, one, two, first, rest, both) =
    let is : line ≡ asks = same_first line asks all (some ++ others) e in
    let prints = subst (λ (x : ScriptLine). Prints number x text) is each.0 in
    let p = plays_so number asks text prints m one first in
    let from_first = subst (λ (x : Scene). Script the_house (number + 1) (held_after (none_held the_house) asks) some x t two) p.0 rest in
    both ∙ ap (λ (x : List ℕ). x ++ two) p.1
    ∙ ap (λ (x : List ℕ). text ++ x) (first_texts (number + 1) all texts each.1 some others (same_others line asks all (some ++ others) e) t two
    (subst (λ (held : List Bool). Script the_house (number + 1) held some at_first t two) prints.free from_first))
  where
    same_first : (x y : ScriptLine) (xs ys : List ScriptLine) → x ∷ xs ≡ y ∷ ys → x ≡ y
    same_first x y xs ys e = cc

    same_others : (x y : ScriptLine) (xs ys : List ScriptLine) → x ∷ xs ≡ y ∷ ys → xs ≡ ys
    same_others x y xs ys e = cc

-- how many lines were played, how much of what they print was sent, and how the run ended
abbrev End : Type 0
End = Result (Unit {0}) RunFault

abbrev HowItEnded : End → (lines sent all : ℕ) → Type 0
HowItEnded (Ok done) lines sent all = (lines ≡ 4) × (sent ≡ all)
HowItEnded (Err (faults.Write k)) lines sent all = (sent ≡ k) × (k < all)
HowItEnded (Err faults.NoMemory) lines sent all = sent ≡ all
HowItEnded (Err faults.Read) lines sent all = sent ≡ all

-- A beginning of what the first lines print stands behind what stood there before.
record HasRun (r : End) (old new : List ℕ) : Type 0 where
  pub lines : ℕ
  pub sent : ℕ
  pub within : sent ≤ length (printed_by lines)
  pub out : new ≡ old ++ take sent (printed_by lines)
  pub ended : HowItEnded r lines sent (length (printed_by lines))

module _ (old new : List ℕ) where
  abbrev Wrote : Type 0
  Wrote = WroteOnce the_house (script_of the_input) (Some old) (Some new)

  has_run : (r : End) (w : Wrote) → HowItEnded r (length w.some) w.delivered.sent (length w.delivered.printed) → HasRun r old new
  has_run r w ended =
      let d = w.delivered in
      let is = first_texts 1 (script_of the_input) the_texts each_prints w.some w.others w.split d.after d.printed w.script in
      record {
        lines = length w.some;
        sent = d.sent;
        within = subst (λ (x : List ℕ). d.sent ≤ length x) is d.within;
        out = subst (λ (x : List ℕ). new ≡ old ++ take d.sent x) is d.out;
        ended = subst (λ (x : List ℕ). HowItEnded r (length w.some) d.sent (length x)) is ended;
      }

  all_lines : (w : Wrote) → w.others ≡ [] → length w.some ≡ 4
  all_lines w e = ap length (sym (append-nil w.some) ∙ ap (λ (x : List ScriptLine). w.some ++ x) (sym e) ∙ sym w.split)

  wrote_so : (r : End) → RunWrote the_house (script_of the_input) r (Some old) (Some new) → HasRun r old new
  wrote_so (Ok done) w = has_run (Ok done) w.wrote (all_lines w.wrote w.all, w.whole)
  wrote_so (Err (faults.Write k)) w = has_run (Err (faults.Write k)) w.wrote (w.stopped, w.within)
  wrote_so (Err faults.NoMemory) w = has_run (Err faults.NoMemory) w.wrote w.whole
  wrote_so (Err faults.Read) w = has_run (Err faults.Read) w.wrote w.whole

-- Refused of a run that ended so: as it is written, and as it is told as text.
record IsRefused (r : End) (old new : List ℕ) : Type 0 where
  pub written : RunWrote the_house (script_of the_input) r (Some old) (Some new) → ⊥
  pub told : RunTold Text the_house (lines_of the_input) r (Some old) (Some new) → ⊥

refused : (r : End) (old new : List ℕ) → (HasRun r old new → ⊥) → IsRefused r old new
refused r old new never = record { written = written; told = λ t. written (run_wrote the_house the_input r (Some old) (Some new) t) }
  where
    written : RunWrote the_house (script_of the_input) r (Some old) (Some new) → ⊥
    written w = never (wrote_so old new r w)

-- ---- what is no beginning of what the script tells is refused however the run ended

joined_both : (n : ℕ) (texts : List (List ℕ)) → joined texts ≡ joined (take n texts) ++ joined (drop n texts)
joined_both zero texts = refl
joined_both (suc n) [] = refl
joined_both (suc n) (text ∷ texts) = ap (λ (x : List ℕ). text ++ x) (joined_both n texts) ∙ sym (append_assoc text (joined (take n texts)) (joined (drop n texts)))

behind : (r : End) (old new : List ℕ) → HasRun r old new → (rest : List ℕ) × (old ++ all_told ≡ new ++ rest)
behind r old new h =
    let one = take h.sent (printed_by h.lines) in
    let two = drop h.sent (printed_by h.lines) in
    let three = joined (drop h.lines the_texts) in
    let both : all_told ≡ one ++ (two ++ three) = sym as_printed ∙ joined_both h.lines the_texts ∙ ap (λ (x : List ℕ). x ++ three) (sym (take-append-drop h.sent (printed_by h.lines))) ∙ append_assoc one two three in
    (two ++ three, ap (λ (x : List ℕ). old ++ x) both ∙ sym (append_assoc old one (two ++ three)) ∙ ap (λ (x : List ℕ). x ++ (two ++ three)) (sym h.out))

begins_so : (new rest : List ℕ) → begins new (new ++ rest) ≡ true
begins_so [] rest = refl
begins_so (b ∷ new) rest = ap (λ (x : Bool). x && begins new (new ++ rest)) (eq-eqb b b refl) ∙ begins_so new rest

no_beginning : (old new : List ℕ) → begins new (old ++ all_told) ≡ false → (r : End) → IsRefused r old new
no_beginning old new not_so r = refused r old new (λ h. wrong (behind r old new h))
  where
    wrong : (rest : List ℕ) × (old ++ all_told ≡ new ++ rest) → ⊥
    wrong (rest, e) = let f : true ≡ false = sym (begins_so new rest) ∙ ap (λ (x : List ℕ). begins new x) (sym e) ∙ not_so in cc

-- The second line is told twice.
twice : (r : End) → IsRefused r [] (codes "? 2 Nobody\n? 2 Nobody\n")
twice = no_beginning _ _ refl

-- It is refused for another reason.
another_text : (r : End) → IsRefused r [] (codes "? 2 Busy\n")
another_text = no_beginning _ _ refl

-- It is refused as the first line.
another_line : (r : End) → IsRefused r [] (codes "? 1 Nobody\n")
another_line = no_beginning _ _ refl

-- The window stands before what is told of the line above it.
another_order : (r : End) → IsRefused r [] (codes "T alice total 0\n? 2 Nobody\n")
another_order = no_beginning _ _ refl

-- Nothing is told of the third line.
left_out : (r : End) → IsRefused r [] (codes "? 2 Nobody\n? 4 Line\n")
left_out = no_beginning _ _ refl

-- A fifth line is told of, and there are four.
one_too_many : (r : End) → IsRefused r [] (codes "? 2 Nobody\nT alice total 0\n? 4 Line\n? 5 Line\n")
one_too_many = no_beginning _ _ refl

-- The comment is refused.
comment_refused : (r : End) → IsRefused r [] (codes "? 1 Line\n")
comment_refused = no_beginning _ _ refl

-- A connection that never came is told that its message is delivered.
verdict_for_nobody : (r : End) → IsRefused r [] (codes "? 2 Nobody\nL1 250 2.1.5 Delivered\n")
verdict_for_nobody = no_beginning _ _ refl

-- The window is Bob's, and Alice's was asked for.
another_window : (r : End) → IsRefused r [] (codes "? 2 Nobody\nT bob total 0\n")
another_window = no_beginning _ _ refl

-- The window shows a message that nobody sent.
message_of_nobody : (r : End) → IsRefused r [] (codes "? 2 Nobody\nT alice add 7\n")
message_of_nobody = no_beginning _ _ refl

-- A house with three connections was run: its third one is greeted.
another_house : (r : End) → IsRefused r [] (codes "L3 220 mx.example.org LMTP ready\n")
another_house = no_beginning _ _ refl

-- What stood there before is gone.
nothing_kept : (r : End) → IsRefused r (codes "kept\n") all_told
nothing_kept = no_beginning _ _ refl

-- ---- a run that is said to have come to its end

all_of_it : (old new : List ℕ) → HasRun (Ok tt) old new → new ≡ old ++ all_told
all_of_it old new h =
    let whole : take h.sent (printed_by h.lines) ≡ printed_by h.lines = ap (λ (n : ℕ). take n (printed_by h.lines)) h.ended.1 ∙ take-length (printed_by h.lines) in
    h.out ∙ ap (λ (x : List ℕ). old ++ x) (whole ∙ ap printed_by h.ended.0)

too_short : (new : List ℕ) → length new < 36 → IsRefused (Ok tt) [] new
too_short new less = refused (Ok tt) [] new (λ h. let many : length new ≡ 36 = ap length (all_of_it [] new h) in omega (arith, less, many))

-- Nothing is told.
nothing_told : IsRefused (Ok tt) [] []
nothing_told = too_short _ (omega arith)

-- The last line is left out.
without_the_last : IsRefused (Ok tt) [] (codes "? 2 Nobody\nT alice total 0\n")
without_the_last = too_short _ (omega arith)

-- It is cut within the last line.
cut_short : IsRefused (Ok tt) [] (codes "? 2 Nobody\nT alice total 0\n? 4 Li")
cut_short = too_short _ (omega arith)

-- ---- told as JSON, where the run came to its end: in no other way

each_text : (number : ℕ) (lines : List ScriptLine) (texts : List (List ℕ)) → EachPrints number lines texts → (t : Scene) (printed : List (List ℕ))
    → LineByLine the_house number (none_held the_house) lines at_first t printed → printed ≡ texts
each_text number [] [] each t printed p = p.1
each_text number [] (text ∷ texts) each t printed p = absurd each
each_text number (asks ∷ lines) [] each t printed p = absurd each
each_text number (asks ∷ lines) (text ∷ texts) each t printed (m, one, more, first, rest, both) =
    let p = plays_so number asks text each.0 m one first in
    let from_first = subst (λ (x : Scene). LineByLine the_house (number + 1) (held_after (none_held the_house) asks) lines x t more) p.0 rest in
    both ∙ ap (λ (x : List ℕ). x ∷ more) p.1
    ∙ ap (λ (x : List (List ℕ)). text ∷ x) (each_text (number + 1) lines texts each.1 t more
    (subst (λ (held : List Bool). LineByLine the_house (number + 1) held lines at_first t more) each.0.free from_first))

objects_are : (new : List ℕ) → RunTold Json the_house (lines_of the_input) (Ok tt) (Some []) (Some new) → new ≡ all_objects
objects_are new t =
    let one = t.tells in
    let all : one.some ≡ lines_of the_input = sym (append-nil one.some) ∙ ap (λ (x : List (List ℕ)). one.some ++ x) (sym t.all) ∙ sym one.split in
    let plays = subst (λ (x : List (List ℕ)). LineByLine the_house 1 (none_held the_house) (asked_by x) at_first one.after one.texts) all one.plays in
    let texts : one.texts ≡ the_texts = each_text 1 (script_of the_input) the_texts each_prints one.after one.texts plays in
    one.out ∙ ap (λ (n : ℕ). take n (told Json 1 one.some one.texts)) t.whole ∙ take-length (told Json 1 one.some one.texts)
    ∙ ap (λ (x : List (List ℕ)). told Json 1 x one.texts) all ∙ ap (told Json 1 (lines_of the_input)) texts ∙ as_objects

-- ---- a run that is said to have failed

-- so long is it
length_is : (r : End) (new : List ℕ) → (h : HasRun r [] new) → length new ≡ h.sent
length_is r new h = ap length h.out ∙ length-take-le h.sent (printed_by h.lines) h.within

-- The writer took the first 3 bytes, and another number is told.
another_number : IsRefused (Err (faults.Write 4)) [] (codes "? 2")
another_number = refused _ _ _ (λ h. let many : 3 ≡ h.sent = length_is _ _ h in let is = h.ended.0 in omega (arith, many, is))

no_such_length : (lines : ℕ) → 3 ≡ length (printed_by lines) → ⊥
no_such_length zero e = let many : 3 ≡ 0 = e in omega (arith, many)
no_such_length (suc zero) e = let many : 3 ≡ 0 = e in omega (arith, many)
no_such_length (suc (suc zero)) e = let many : 3 ≡ 11 = e in omega (arith, many)
no_such_length (suc (suc (suc zero))) e = let many : 3 ≡ 27 = e in omega (arith, many)
no_such_length (suc (suc (suc (suc zero)))) e = let many : 3 ≡ 36 = e in omega (arith, many)
no_such_length (suc (suc (suc (suc (suc lines))))) e = let many : 3 ≡ 36 = e in omega (arith, many)

-- Half a line is there, and it was the input that failed.
half_and_unread : IsRefused (Err faults.Read) [] (codes "? 2")
half_and_unread = refused _ _ _ (λ h. no_such_length h.lines (length_is _ _ h ∙ h.ended))

-- Half a line is there, and memory was wanting.
half_for_memory : IsRefused (Err faults.NoMemory) [] (codes "? 2")
half_for_memory = refused _ _ _ (λ h. no_such_length h.lines (length_is _ _ h ∙ h.ended))

-- Settings are wrong, and something is told of a house.
told_of_no_house : (form : Form) (config : Config) (fault : ConfigFault) → ScriptTold form config (lines_of the_input) (Err (script_faults.Config fault)) (Some []) (Some all_told) → ⊥
told_of_no_house form config fault t = let e : ◌≡◌ {A = Option (List ℕ)} (Some all_told) (Some []) = t in cc

wrote_of_no_house : (config : Config) (fault : ConfigFault) → ScriptWrote config (script_of the_input) (Err (script_faults.Config fault)) (Some []) (Some all_told) → ⊥
wrote_of_no_house config fault w = let e : ◌≡◌ {A = Option (List ℕ)} (Some all_told) (Some []) = w in cc

-- ---- what delivers nothing exactly once (`DeliveredOnce`) in this house, whatever the lines are; `Refuted.antt` of `script` has what does so in no house

abbrev Delivered : List ℕ → Type 0
Delivered new = DeliveredOnce the_house (Some []) (Some new)

all_is_delivered : Delivered all_told
all_is_delivered = all_is_written.wrote.delivered

-- so no script wrote it
by_no_script : (lines : List ScriptLine) (new : List ℕ) → (Delivered new → ⊥) → WroteOnce the_house lines (Some []) (Some new) → ⊥
by_no_script lines new never w = never w.delivered

-- A third connection is greeted, and there are two.
third_of_two : Delivered (codes "L3 220 mx.example.org LMTP ready\n") → ⊥
third_of_two d = let l = (connection_greeted the_house d.after 3 _ _ (prints the_house _ d)).1 in omega (arith, l)

-- The window is Carol's, who has no mailbox.
no_carol : (word rest more : List ℕ) (m : ℕ) → word ++ 32 ∷ rest ≡ 99 ∷ more → number_of the_house.directory word ≡ Some m → ⊥
no_carol word rest more m e is =
    let words = codes "alice" ∷ codes "bob" ∷ [] in
    let at = position-Some (bytes_eq word) words m [] (sym (number_is_position the_house.directory words word refl) ∙ is) in
    by m at.0 ((bytes_eq-Decides word (get_or words m [])).0 at.1)
  where
    by : (m : ℕ) → m < 2 → word ≡ get_or (codes "alice" ∷ codes "bob" ∷ []) m [] → ⊥
    by zero l is = let b : 97 ≡ 99 = same_first 97 99 _ _ (ap (λ (w : List ℕ). w ++ 32 ∷ rest) (sym is) ∙ e) in omega (arith, b)
    by (suc zero) l is = let b : 98 ≡ 99 = same_first 98 99 _ _ (ap (λ (w : List ℕ). w ++ 32 ∷ rest) (sym is) ∙ e) in omega (arith, b)
    by (suc (suc m)) l is = omega (arith, l)

window_of_nobody : Delivered (codes "T carol total 0\n") → ⊥
window_of_nobody d = let w = window_shown the_house d.after _ _ (prints the_house _ d) in no_carol w.word w.rest _ w.is.0 w.begins w.is.1

-- Bob's window shows Alice's messages; and Alice's shows none of the three that stand there.
shown_as : (before : Scene) (word : List ℕ) (m : ℕ) (box : Box) → number_of the_house.directory word ≡ Some m → IsPartFrom the_house before (Window word box) → box ≡ before.world.box m
shown_as before word m box named is = is.2 ∙ ap before.world.box (same m is.0 (sym named ∙ is.1))
  where
    same : (a b : ℕ) → ◌≡◌ {A = Option ℕ} (Some a) (Some b) → b ≡ a
    same a b e = cc

three_or_none : alices ≡ bobs → ⊥
three_or_none e = let many : 3 ≡ 0 = ap (λ (b : Box). length b.log) e in omega (arith, many)

anothers_messages : (before : Scene) → before.world.box 1 ≡ bobs → IsPartFrom the_house before (Window (codes "bob") alices) → ⊥
anothers_messages before none is = three_or_none (shown_as before (codes "bob") 1 alices refl is ∙ none)

three_too_few : (before : Scene) → before.world.box 0 ≡ alices → IsPartFrom the_house before (Window (codes "alice") bobs) → ⊥
three_too_few before some is = three_or_none (sym some ∙ sym (shown_as before (codes "alice") 0 bobs refl is))

-- A message stands twice; and one is lost whose sender heard that it is stored.
copy_stands_twice : (new : List ℕ) (d : Delivered new) → d.after.world ≡ with_alices one_twice → ⊥
copy_stands_twice new d is = in_no_world (subst (Headline the_house.config) is d.once.world)

copy_is_lost : (new : List ℕ) (d : Delivered new) → d.after.world ≡ with_alices bobs → ⊥
copy_is_lost new d is = is_lost (subst (Headline the_house.config) is d.once.world)
