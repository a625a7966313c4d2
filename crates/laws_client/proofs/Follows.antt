-- A client that reads the lines of changes keeps up with the view.
use Rattle.std.proofs.Common.{◌≡◌, ℕ, ◌+◌, ◌^◌, ◌<◌, ◌≤◌, Bool, true, false, ◌==◌, List, [], ◌∷◌, ◌++◌, length, ap, ◌∙◌, sym, refl, arith, length-append}
use Rattle.std.specs.Prelude.{Option, Some, None, if◌then◌else◌}
use Rattle.std.proofs.lemmas.Option.{none-some}
use Rattle.change_ring.specs.declared.change.Change.{Change}
use Rattle.change_ring.specs.declared.change.Change.TheVariants.{Add, Gone, Flags as SetFlags}
use Rattle.change_ring.specs.Log.{shown, replay, without, Names, FitsView}
use Rattle.cursor_set.specs.Lines.{line, lines}
use Rattle.change_ring.specs.View.{position}
use Rattle.laws_client.specs.Client.{Known, Client, knowing, unknown, reads, exists}
use Rattle.laws_client.specs.Beliefs.{ArePrinted, Follows}
use Rattle.laws_client.specs.Clients.{Each, IsOf}
use Rattle.laws_client.proofs.Bytes.{reads-append}
use Rattle.laws_client.proofs.Each.{each_length, each_more, exists_one, is_in, goes, is_told}
use Rattle.laws_client.proofs.LinesRead.{reads_exists, reads_expunge, reads_fetch, told_of}

pub position_most : (uid : ℕ) (view : List ℕ) → position uid view ≤ length view + 1
position_most uid [] = omega arith
position_most uid (u ∷ us) = by (u == uid) (position_most uid us)
  where
    by : (t : Bool) → position uid us ≤ length us + 1 → (if t then 1 else position uid us + 1) ≤ length (u ∷ us) + 1
    by true h = omega arith
    by false h = omega arith

pub without_most : (uid : ℕ) (view : List ℕ) → length (without uid view) ≤ length view
without_most uid [] = omega arith
without_most uid (u ∷ us) = by (u == uid) (without_most uid us)
  where
    by : (t : Bool) → length (without uid us) ≤ length us → length (if t then us else u ∷ without uid us) ≤ length (u ∷ us)
    by true h = omega arith
    by false h = omega arith

-- what a change tells is so: of one that comes nothing is known, and of one whose flags are told its UID and these flags
abbrev pub TellsOf : (ℕ → Known → Type 0) → Change → Type 0
TellsOf P (Add uid) = P uid unknown
TellsOf P (Gone uid) = Unit {0}
TellsOf P (SetFlags uid flags) = (m : Known) → P uid m → P uid (told_of uid flags m)

abbrev pub TellsEach : (ℕ → Known → Type 0) → List Change → Type 0
TellsEach P [] = Unit {0}
TellsEach P (c ∷ cs) = TellsOf P c × TellsEach P cs

pub follows_one : (P : ℕ → Known → Type 0) (view : List ℕ) (c : Change) (ms : List Known) → length view + 1 < 2 ^ 64 → ArePrinted (c ∷ []) → Names view c → TellsOf P c
    → Each P view ms → Follows P ms (line view c) (shown view c)
follows_one P view (Add uid) ms fits small there tells h =
    let same : length view ≡ length ms = sym (each_length P view ms h) in record {
      after = ms ++ unknown ∷ [];
      reads = reads_exists (Some ms) (length view + 1) (omega (arith, fits)) ∙ ap (λ (n : ℕ). knowing (exists (n + 1) ms)) same ∙ ap knowing (exists_one ms);
      each = each_more P uid view ms h tells;
    }
follows_one P view (Gone uid) ms fits small there tells h =
    let went = goes P uid view ms (is_in uid view there) h in record {
      after = went.left;
      reads = reads_expunge (Some ms) (position uid view) (omega (arith, fits, position_most uid view)) ∙ ap knowing went.is;
      each = went.each;
    }
follows_one P view (SetFlags uid flags) ms fits small there tells h =
    let told = is_told P uid (λ m. told_of uid flags m) tells view ms (is_in uid view there) h in record {
      after = told.now;
      reads = reads_fetch (Some ms) (position uid view) uid flags (omega (arith, fits, position_most uid view)) small.0 ∙ ap knowing told.is;
      each = told.each;
    }

pub printed_first : (c : Change) (cs : List Change) → ArePrinted (c ∷ cs) → ArePrinted (c ∷ []) × ArePrinted cs
printed_first (Add uid) cs h = (tt, h)
printed_first (Gone uid) cs h = (tt, h)
printed_first (SetFlags uid flags) cs h = ((h.0, tt), h.1)

pub shown_most : (view : List ℕ) (c : Change) → length (shown view c) ≤ length view + 1
shown_most view (Add uid) = omega (arith, length-append view (uid ∷ []))
shown_most view (Gone uid) = omega (arith, without_most uid view)
shown_most view (SetFlags uid flags) = omega arith

pub follows : (P : ℕ → Known → Type 0) (view : List ℕ) (cs : List Change) (ms : List Known) → length view + length cs < 2 ^ 64 → ArePrinted cs → FitsView view cs → TellsEach P cs
    → Each P view ms → Follows P ms (lines view cs) (replay view cs)
follows P view [] ms fits small there tells h = record { after = ms; reads = refl; each = h }
follows P view (c ∷ cs) ms fits small there tells h =
    let split = printed_first c cs small in
    let one = follows_one P view c ms (omega (arith, fits)) split.0 there.0 tells.0 h in
    let others = follows P (shown view c) cs one.after (omega (arith, fits, shown_most view c)) split.1 there.1 tells.1 one.each in record {
      after = others.after;
      reads = reads-append (knowing (Some ms)) (line view c) (lines (shown view c) cs) ∙ ap (λ (x : Client). reads x (lines (shown view c) cs)) one.reads ∙ others.reads;
      each = others.each;
    }

abbrev the_one : ℕ → Option ℕ → ℕ
the_one d None = d
the_one d (Some n) = n

-- what is known of UIDs stays true, whatever changes are told
uids_told : (cs : List Change) → TellsEach IsOf cs
uids_told [] = tt
uids_told (Add uid ∷ cs) = ((λ n e. absurd (none-some n e)), uids_told cs)
uids_told (Gone uid ∷ cs) = (tt, uids_told cs)
uids_told (SetFlags uid flags ∷ cs) = ((λ m h n e. sym (ap (the_one 0) e)), uids_told cs)

-- The lines that show changes, read by a client: it has as many messages as the view that they lead to, and each UID that it knows stands at its position.
pub lines_are_followed : (view : List ℕ) (cs : List Change) (ms : List Known) → length view + length cs < 2 ^ 64 → ArePrinted cs → FitsView view cs
    → Each IsOf view ms → Follows IsOf ms (lines view cs) (replay view cs)
lines_are_followed view cs ms fits small there h = follows IsOf view cs ms fits small there (uids_told cs) h
