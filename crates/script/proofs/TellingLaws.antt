-- From what each line prints to what all of them print, and what tells of that.
use Rattle.std.proofs.Common.{◌≡◌, ◌∙◌, ℕ, suc, ◌+◌, Bool, List, [], ◌∷◌, ◌++◌, length, map, take, ◌<◌, ◌≤◌, refl, sym, ap, subst, arith, add-zero, append_assoc, append-nil, Option, Result, Ok, Err}
use Rattle.std.specs.Prelude.{OnOk}
use Rattle.std.proofs.lemmas.List.{length-map}
use Rattle.std.specs.Io.KnownBytes.{Appends}
use Rattle.house.specs.House.{House}
use Rattle.house.specs.Setup.{Setup}
use Rattle.house.specs.Scene.{Scene, empty_scene}
use Rattle.script.specs.Script.{LinePlays, Script, ScriptLine, asked, held_after, held_by, line_of, most_bytes, none_held, pieces, script_of}
use Rattle.script.specs.Promise.{DeliversOnce}
use Rattle.script.specs.Wrote.{RunWrote, WroteAll, WroteFirst, WroteOnce, WroteSome}
use Rattle.script.specs.Leaving.{IsLeft, IsLeftWanting, Writes, WritesBeginning, WritesFirst}
use Rattle.script.specs.Telling.{IsLeftUntold, wanting, untold, LineByLine, RunTells, RunTold, TellsAll, TellsBeginning, TellsFirst, ToldAll, ToldFirst, ToldOnce, ToldSome, asked_by, joined, json_of, lines_of, rendered, told}
use Rattle.settings.specs.declared.asking.Form.{Form}
use Rattle.settings.specs.declared.asking.Form.TheVariants.{Text, Json}
use Rattle.script.specs.declared.run.RunFault.{RunFault}
use Rattle.script.specs.declared.run.RunFault.TheVariants as faults
use Rattle.script.proofs.Once.{script_once}

-- ---- lines and what they ask for

pub asked_both : (some others : List (List ℕ)) → asked_by (some ++ others) ≡ asked_by some ++ asked_by others
asked_both [] others = refl
asked_both (l ∷ ls) others = ap (λ (xs : List ScriptLine). asked l ∷ xs) (asked_both ls others)

asked_each : (ps : List (List ℕ)) → map asked (map line_of ps) ≡ map (λ piece. asked (line_of piece)) ps
asked_each [] = refl
asked_each (p ∷ ps) = ap (λ (xs : List ScriptLine). asked (line_of p) ∷ xs) (asked_each ps)

pub asked_as_script : (input : List ℕ) → asked_by (lines_of input) ≡ script_of input
asked_as_script input = asked_each (pieces input)

-- ---- what each line prints

pub as_script : (k : Setup) (n : ℕ) (held : List Bool) (lines : List ScriptLine) (s t : Scene) (texts : List (List ℕ)) → LineByLine k n held lines s t texts
    → Script k n held lines s t (joined texts)
as_script k n held [] s t texts (same, none) = (same, ap joined none)
as_script k n held (line ∷ lines) s t texts (m, one, more, first, rest, both) =
    (m, one, joined more, first, as_script k (n + 1) (held_after held line) lines m t more rest, ap joined both)

as_many : (k : Setup) (n : ℕ) (held : List Bool) (lines : List ScriptLine) (s t : Scene) (texts : List (List ℕ)) → LineByLine k n held lines s t texts → length texts ≡ length lines
as_many k n held [] s t texts (same, none) = ap length none
as_many k n held (line ∷ lines) s t texts (m, one, more, first, rest, both) = ap length both ∙ ap (λ (i : ℕ). suc i) (as_many k (n + 1) (held_after held line) lines m t more rest)

-- a text for each line
pub text_for_each : (k : Setup) (n : ℕ) (held : List Bool) (lines : List (List ℕ)) (s t : Scene) (texts : List (List ℕ)) → LineByLine k n held (asked_by lines) s t texts
    → length texts ≡ length lines
text_for_each k n held lines s t texts p = as_many k n held (asked_by lines) s t texts p ∙ length-map lines asked

pub delivers : (k : Setup) (lines : List (List ℕ)) (t : Scene) (texts : List (List ℕ)) → LineByLine k 1 (none_held k) (asked_by lines) (empty_scene k) t texts
    → DeliversOnce k (length lines) t (joined texts)
delivers k lines t texts p =
    subst (λ (n : ℕ). DeliversOnce k n t (joined texts)) (length-map lines asked)
    (script_once k (asked_by lines) t (joined texts) (as_script k 1 (none_held k) (asked_by lines) (empty_scene k) t texts p))

-- a line more
push : (k : Setup) (n number : ℕ) (held : List Bool) (lines : List ScriptLine) (line : ScriptLine) (s m t : Scene) (texts : List (List ℕ)) (two : List ℕ)
    → number ≡ n + length lines → LineByLine k n held lines s m texts → LinePlays k number (held_by held lines) line m t two
    → LineByLine k n held (lines ++ line ∷ []) s t (texts ++ two ∷ [])
push k n number held [] line s m t texts two e (same, none) plays =
    let at : number ≡ n = e ∙ add-zero n in
    let here : LinePlays k n held line s t two = subst (λ (x : ℕ). LinePlays k x held line s t two) at (subst (λ (x : Scene). LinePlays k number held line x t two) same plays) in
    (t, two, [], here, (refl, refl), ap (λ (x : List (List ℕ)). x ++ two ∷ []) none)
push k n number held (l ∷ ls) line s m t texts two e (u, a, more, first, rest, both) plays =
    (u, a, more ++ two ∷ [], first, push k (n + 1) number (held_after held l) ls line u m t more two (omega arith) rest plays, ap (λ (x : List (List ℕ)). x ++ two ∷ []) both)

pub plays_on : (k : Setup) (count : ℕ) (lines : List (List ℕ)) (line : List ℕ) (s m t : Scene) (texts : List (List ℕ)) (two : List ℕ) → length lines ≡ count
    → LineByLine k 1 (none_held k) (asked_by lines) s m texts → LinePlays k (count + 1) (held_by (none_held k) (asked_by lines)) (asked line) m t two
    → LineByLine k 1 (none_held k) (asked_by (lines ++ line ∷ [])) s t (texts ++ two ∷ [])
plays_on k count lines line s m t texts two counted p plays =
    subst (λ (ls : List ScriptLine). LineByLine k 1 (none_held k) ls s t (texts ++ two ∷ [])) (sym (asked_both lines (line ∷ [])))
    (push k 1 (count + 1) (none_held k) (asked_by lines) (asked line) s m t texts two (let l = length-map lines asked in omega (arith, counted, l)) p plays)

-- ---- what tells of them

told_push : (form : Form) (n number : ℕ) (lines texts : List (List ℕ)) (line text : List ℕ) → length texts ≡ length lines → number ≡ n + length lines
    → told form n (lines ++ line ∷ []) (texts ++ text ∷ []) ≡ told form n lines texts ++ rendered form number line text
told_push form n number [] [] line text same e = append-nil (rendered form n line text) ∙ ap (λ (i : ℕ). rendered form i line text) (sym (e ∙ add-zero n))
told_push form n number [] (t ∷ ts) line text same e = absurd (omega (arith, same))
told_push form n number (l ∷ ls) [] line text same e = absurd (omega (arith, same))
told_push form n number (l ∷ ls) (t ∷ ts) line text same e =
    ap (λ (x : List ℕ). rendered form n l t ++ x) (told_push form (n + 1) number ls ts line text (omega (arith, same)) (omega (arith, e)))
    ∙ sym (append_assoc (rendered form n l t) (told form (n + 1) ls ts) (rendered form number line text))

pub told_on : (form : Form) (k : Setup) (count : ℕ) (lines : List (List ℕ)) (line : List ℕ) (s m : Scene) (texts : List (List ℕ)) (two : List ℕ) → length lines ≡ count
    → LineByLine k 1 (none_held k) (asked_by lines) s m texts
    → told form 1 (lines ++ line ∷ []) (texts ++ two ∷ []) ≡ told form 1 lines texts ++ rendered form (count + 1) line two
told_on form k count lines line s m texts two counted p =
    told_push form 1 (count + 1) lines texts line two (text_for_each k 1 (none_held k) lines s m texts p) (omega (arith, counted))

told_text : (n : ℕ) (lines texts : List (List ℕ)) → length texts ≡ length lines → told Text n lines texts ≡ joined texts
told_text n [] [] same = refl
told_text n [] (t ∷ ts) same = absurd (omega (arith, same))
told_text n (l ∷ ls) [] same = absurd (omega (arith, same))
told_text n (l ∷ ls) (t ∷ ts) same = ap (λ (x : List ℕ). t ++ x) (told_text (n + 1) ls ts (omega (arith, same)))

-- what tells of a line goes by its front
pub same_front : (form : Form) (n : ℕ) (a b printed : List ℕ) → take most_bytes a ≡ take most_bytes b → rendered form n a printed ≡ rendered form n b printed
same_front Text n a b printed e = refl
same_front Json n a b printed e = ap (λ (x : List ℕ). json_of n x printed) e

-- ---- as text

text_is : (k : Setup) (lines : List (List ℕ)) (t : Scene) (texts : List (List ℕ)) → LineByLine k 1 (none_held k) (asked_by lines) (empty_scene k) t texts
    → told Text 1 lines texts ≡ joined texts
text_is k lines t texts p = told_text 1 lines texts (text_for_each k 1 (none_held k) lines (empty_scene k) t texts p)

pub split_of : (input : List ℕ) (some others : List (List ℕ)) → lines_of input ≡ some ++ others → script_of input ≡ asked_by some ++ asked_by others
split_of input some others e = sym (asked_as_script input) ∙ ap asked_by e ∙ asked_both some others

pub text_of_lines : (k : Setup) (input : List ℕ) (old new : Option (List ℕ)) (t : ToldOnce Text k (lines_of input) old new) → told Text 1 t.some t.texts ≡ joined t.texts
text_of_lines k input old new t = text_is k t.some t.after t.texts t.plays

-- what was told as text is what the script prints
abbrev pub once_written : (k : Setup) (input : List ℕ) (old new : Option (List ℕ)) → ToldOnce Text k (lines_of input) old new → WroteOnce k (script_of input) old new
once_written k input old new t = record {
  some = asked_by t.some;
  others = asked_by t.others;
  split = split_of input t.some t.others t.split;
  delivered = record {
    count = length t.some;
    after = t.after;
    printed = joined t.texts;
    once = t.once;
    sent = t.sent;
    within = subst (λ (x : List ℕ). t.sent ≤ length x) (text_of_lines k input old new t) t.within;
    out = subst (λ (x : List ℕ). Appends old new (take t.sent x)) (text_of_lines k input old new t) t.out;
  };
  counted = sym (length-map t.some asked);
  script = as_script k 1 (none_held k) (asked_by t.some) (empty_scene k) t.after t.texts t.plays;
}

abbrev pub all_wrote : (k : Setup) (input : List ℕ) (old new : Option (List ℕ)) → ToldAll Text k (lines_of input) old new → WroteAll k (script_of input) old new
all_wrote k input old new w = record {
  wrote = once_written k input old new w.tells;
  all = ap asked_by w.all;
  whole = w.whole ∙ ap (λ (x : List ℕ). length x) (text_of_lines k input old new w.tells);
}

abbrev pub first_wrote : (k : Setup) (input : List ℕ) (old new : Option (List ℕ)) (sent : ℕ) → ToldFirst Text k (lines_of input) old new sent → WroteFirst k (script_of input) old new sent
first_wrote k input old new sent w = record {
  wrote = once_written k input old new w.tells;
  stopped = w.stopped;
  within = subst (λ (x : List ℕ). sent < length x) (text_of_lines k input old new w.tells) w.within;
}

abbrev pub some_wrote : (k : Setup) (input : List ℕ) (old new : Option (List ℕ)) → ToldSome Text k (lines_of input) old new → WroteSome k (script_of input) old new
some_wrote k input old new w = record {
  wrote = once_written k input old new w.tells;
  whole = w.whole ∙ ap (λ (x : List ℕ). length x) (text_of_lines k input old new w.tells);
}

-- by how the run ended
pub run_wrote : (k : Setup) (input : List ℕ) (r : Result (Unit {0}) RunFault) (old new : Option (List ℕ)) → RunTold Text k (lines_of input) r old new → RunWrote k (script_of input) r old new
run_wrote k input (Ok done) old new w = all_wrote k input old new w
run_wrote k input (Err (faults.Write sent)) old new w = first_wrote k input old new sent w
run_wrote k input (Err faults.NoMemory) old new w = some_wrote k input old new w
run_wrote k input (Err faults.Read) old new w = some_wrote k input old new w

pub run_wrote_once : (k : Setup) (input : List ℕ) (r : Result (Unit {0}) RunFault) (old new : Option (List ℕ)) → RunTold Text k (lines_of input) r old new → WroteOnce k (script_of input) old new
run_wrote_once k input (Ok done) old new w = once_written k input old new w.tells
run_wrote_once k input (Err (faults.Write sent)) old new w = once_written k input old new w.tells
run_wrote_once k input (Err faults.NoMemory) old new w = once_written k input old new w.tells
run_wrote_once k input (Err faults.Read) old new w = once_written k input old new w.tells

-- a run tells so whatever house it leaves
pub run_told : (form : Form) (k : Setup) (lines : List (List ℕ)) (h : House) (r : Result (Unit {0}) RunFault) (old new : Option (List ℕ)) → RunTells form k lines h r old new
    → RunTold form k lines r old new
run_told form k lines h (Ok done) old new w = w.tells
run_told form k lines h (Err (faults.Write sent)) old new w = w.tells
run_told form k lines h (Err faults.NoMemory) old new w = w.tells
run_told form k lines h (Err faults.Read) old new w = w.tells

-- ---- with the house that is left

pub all_written : (k : Setup) (input : List ℕ) (h : House) (old new : Option (List ℕ)) → TellsAll Text k (lines_of input) h old new → Writes k (script_of input) h old new
all_written k input h old new w = record { writes = all_wrote k input old new w.tells; stands = w.stands }

first_written : (k : Setup) (input : List ℕ) (sent : ℕ) (h : House) (old new : Option (List ℕ)) → TellsFirst Text k (lines_of input) sent h old new
    → WritesFirst k (script_of input) sent h old new
first_written k input sent h old new w = record { writes = first_wrote k input old new sent w.tells; stands = w.stands }

beginning_written : (k : Setup) (input : List ℕ) (Told Left : ℕ → List Bool → List ScriptLine → Scene → Type 0) (old new : Option (List ℕ))
    → ((n : ℕ) (held : List Bool) (others : List ScriptLine) (s : Scene) → Told n held others s → Left n held others s)
    → TellsBeginning Text k (lines_of input) Told old new → WritesBeginning k (script_of input) Left old new
beginning_written k input Told Left old new weaker w =
    let t = w.tells.tells in
    record {
      writes = some_wrote k input old new w.tells;
      left = subst (λ (n : ℕ). Left (n + 1) (held_by (none_held k) (asked_by t.some)) (asked_by t.others) t.after) (sym (length-map t.some asked))
          (weaker (length t.some + 1) (held_by (none_held k) (asked_by t.some)) (asked_by t.others) t.after w.left);
    }

-- as text nothing is wanted to tell of a line
untold_text : (k : Setup) (h : House) (n : ℕ) (held : List Bool) (others : List ScriptLine) (s : Scene) → IsLeftUntold Text k h n held others s → IsLeftWanting k h n held others s
untold_text k h n held others s (wanting w) = w
untold_text k h n held others s (untold line more after printed is split plays st) = absurd (other_form is)
  where
    other_form : ◌≡◌ {A = Form} Text Json → ⊥
    other_form e = cc

same_left : (k : Setup) (h : House) (n : ℕ) (held : List Bool) (others : List ScriptLine) (s : Scene) → IsLeft k h n held others s → IsLeft k h n held others s
same_left k h n held others s st = st

-- ---- a run that tells text, by how it ended

pub ran_all : (r : Result (Unit {0}) RunFault) (h : House) (old new : Option (List ℕ)) (Stands : Setup → Type 0) (Reads : List ℕ → Type 0)
    → ((k : Setup) (input : List ℕ) → Stands k → Reads input → RunTells Text k (lines_of input) h r old new)
    → OnOk r ((k : Setup) (input : List ℕ) → Stands k → Reads input → Writes k (script_of input) h old new)
ran_all (Ok done) h old new Stands Reads tells = λ k input st e. all_written k input h old new (tells k input st e)
ran_all (Err f) h old new Stands Reads tells = tt

pub ran_first : (k : Setup) (input : List ℕ) (sent : ℕ) (r : Result (Unit {0}) RunFault) (h : House) (old new : Option (List ℕ)) → r ≡ Err (faults.Write sent)
    → RunTells Text k (lines_of input) h r old new → WritesFirst k (script_of input) sent h old new
ran_first k input sent r h old new e tells =
    first_written k input sent h old new (subst (λ (x : Result (Unit {0}) RunFault). RunTells Text k (lines_of input) h x old new) e tells)

pub ran_wanting : (k : Setup) (input : List ℕ) (r : Result (Unit {0}) RunFault) (h : House) (old new : Option (List ℕ)) → r ≡ Err faults.NoMemory
    → RunTells Text k (lines_of input) h r old new → WritesBeginning k (script_of input) (IsLeftWanting k h) old new
ran_wanting k input r h old new e tells =
    beginning_written k input (IsLeftUntold Text k h) (IsLeftWanting k h) old new (untold_text k h)
    (subst (λ (x : Result (Unit {0}) RunFault). RunTells Text k (lines_of input) h x old new) e tells)

pub ran_unread : (k : Setup) (input : List ℕ) (r : Result (Unit {0}) RunFault) (h : House) (old new : Option (List ℕ)) → r ≡ Err faults.Read
    → RunTells Text k (lines_of input) h r old new → WritesBeginning k (script_of input) (IsLeft k h) old new
ran_unread k input r h old new e tells =
    beginning_written k input (IsLeft k h) (IsLeft k h) old new (same_left k h)
    (subst (λ (x : Result (Unit {0}) RunFault). RunTells Text k (lines_of input) h x old new) e tells)

-- whatever the result
pub ran_once : (k : Setup) (input : List ℕ) (r : Result (Unit {0}) RunFault) (h : House) (old new : Option (List ℕ)) → RunTells Text k (lines_of input) h r old new
    → WroteOnce k (script_of input) old new
ran_once k input r h old new tells = run_wrote_once k input r old new (run_told Text k (lines_of input) h r old new tells)
