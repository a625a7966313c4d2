-- A client that reads the lines of changes is right about flags where the cursor is then.
use Rattle.std.proofs.Common.{◌≡◌, ◌⊎◌, inl, inr, eq-eqb, ℕ, ◌+◌, ◌^◌, ◌<◌, ◌==◌, Bool, true, false, List, [], ◌∷◌, ◌++◌, length, take, refl, sym, subst, ap, ◌∙◌, arith, append_assoc, append-nil, length-append}
use Rattle.std.specs.Prelude.{Option, Some, None}
use Rattle.std.specs.List.Sorted.{IsStrictlyIncreasing}
use Rattle.std.proofs.Math.Seq.{take-append_seam}
use Rattle.std.proofs.lemmas.Bool.{false≢true, eqb-true}
use Rattle.std.proofs.lemmas.List.{take-append-drop, length-take-le}
use Rattle.std.proofs.lemmas.Option.{none-some}
use Rattle.change_ring.specs.declared.change.Change.{Change}
use Rattle.change_ring.specs.declared.change.Change.TheVariants.{Add, Gone, Flags as SetFlags}
use Rattle.change_ring.specs.declared.change.Flags.{Flags}
use Rattle.change_ring.specs.Log.{FitsView, Names, added, replay, shown, view_at, without}
use Rattle.change_ring.proofs.LogLaws.{replay-append}
use Rattle.cursor_set.specs.Lines.{line, lines}
use Rattle.change_ring.specs.View.{position}
use Rattle.change_ring.specs.Words.{flag_words}
use Rattle.session_thread.specs.ByHistory.{flags_in}
use Rattle.laws_client.specs.Client.{Client, Known, knowing, reads}
use Rattle.laws_client.specs.Beliefs.{ArePrinted, Follows}
use Rattle.laws_client.specs.Clients.{Each}
use Rattle.laws_client.proofs.Bytes.{reads-append}
use Rattle.laws_client.proofs.Each.{IsIn, WasTold, fetched_next, is_in}
use Rattle.laws_client.proofs.Follows.{follows_one, position_most, printed_first, shown_most}
use Rattle.laws_client.proofs.LinesRead.{reads_fetch, told_of}
use Rattle.cursor_set.proofs.Positions.{position_pos}
use Rattle.laws_client.specs.Flags.{Believes}
use Rattle.laws_client.specs.FlagLaws.{LinesTellFlags}
use Rattle.laws_client.proofs.Distinct.{Distinct, front_distinct, is_away}
use Rattle.laws_client.proofs.Moments.{Spares, moves_on, set_at}

pub each_in : (P Q : ℕ → Known → Type 0) (view : List ℕ) (ms : List Known) → ((u : ℕ) (m : Known) → IsIn u view → P u m → Q u m) → Each P view ms → Each Q view ms
each_in P Q [] [] f h = tt
each_in P Q [] (m ∷ ms) f h = absurd h
each_in P Q (u ∷ us) [] f h = absurd h
each_in P Q (u ∷ us) (m ∷ ms) f h = (f u m (inl refl) h.0, each_in P Q us ms (λ v n is. f v n (inr is)) h.1)

-- one is told, and of the others something else is known then
pub told_here : (P Q : ℕ → Known → Type 0) (uid : ℕ) (told : Known → Known) → ((m : Known) → P uid m → Q uid (told m)) → ((u : ℕ) (m : Known) → (u ≡ uid → ⊥) → P u m → Q u m)
    → (view : List ℕ) (ms : List Known) → Distinct view → IsIn uid view → Each P view ms → WasTold P Q uid told view ms
told_here P Q uid told f g [] ms d is h = absurd is
told_here P Q uid told f g (u ∷ us) [] d is h = absurd h
told_here P Q uid told f g (u ∷ us) (m ∷ ms) d is h = by (u == uid) refl is (λ other. told_here P Q uid told f g us ms d.1 other h.1)
  where
    by : (t : Bool) → (u == uid) ≡ t → (u ≡ uid) ⊎ IsIn uid us → (IsIn uid us → WasTold P Q uid told us ms) → WasTold P Q uid told (u ∷ us) (m ∷ ms)
    by true e is behind =
        let same : u ≡ uid = eqb-true u uid e in
        record {
          now = told m ∷ ms;
          is = rw e refl;
          each = (
            subst (λ (v : ℕ). Q v (told m)) (sym same) (f m (subst (λ (v : ℕ). P v m) same h.0)),
            each_in P Q us ms (λ v n there. g v n (λ is. d.0 (subst (λ (x : ℕ). IsIn x us) (is ∙ sym same) there))) h.1,
          );
        }
    by false e (inl same) behind = absurd (false≢true (sym e ∙ eq-eqb u uid same))
    by false e (inr other) behind =
        let w = behind other in
        record {
          now = m ∷ w.now;
          is = rw e (fetched_next (position uid us) told m ms w.now (position_pos uid us) w.is);
          each = (g u m (λ s. false≢true (sym e ∙ eq-eqb u uid s)) h.0, w.each);
        }

-- ---- one change

-- what is believed where these changes were shown and those are pending
abbrev Behind : List Change → List Change → ℕ → Known → Type 0
Behind front behind uid message = Believes (record { log = front ++ behind; cursor = length front }) uid message

-- and where one more was shown
abbrev Past : List Change → Change → List Change → ℕ → Known → Type 0
Past front c behind uid message = Believes (record { log = front ++ c ∷ behind; cursor = length (front ++ c ∷ []) }) uid message

goes_past : (front : List Change) (c : Change) (behind : List Change) (u : ℕ) (m : Known) → Spares u c → Behind front (c ∷ behind) u m → Past front c behind u m
goes_past front c behind u m s h names e = moves_on u front behind c names s (h names e)

told_past : (front behind : List Change) (uid : ℕ) (flags : Flags) (m : Known) → IsIn uid (replay [] front) → Past front (SetFlags uid flags) behind uid (told_of uid flags m)
told_past front behind uid flags m is names e =
    let c : Change = SetFlags uid flags in record {
      moment = length (front ++ c ∷ []);
      since = omega arith;
      until = omega (arith, length-append front (c ∷ []), length-append front (c ∷ behind));
      flags = flags;
      had = subst (λ (l : List Change). flags_in uid l ≡ Some flags) (sym (ap (take (length (front ++ c ∷ []))) (sym (append_assoc front (c ∷ []) behind)) ∙ take-append_seam (front ++ c ∷ []) behind))
          (set_at uid front flags is);
      named = sym (the_names e);
    }
  where
    the_names : Some (flag_words flags) ≡ Some names → flag_words flags ≡ names
    the_names q = ap names_in q
      where
        names_in : Option (List (List ℕ)) → List (List ℕ)
        names_in None = []
        names_in (Some ns) = ns

one_followed : (front : List Change) (c : Change) (behind : List Change) (ms : List Known) → length (replay [] front) + 1 < 2 ^ 64 → ArePrinted (c ∷ []) → Names (replay [] front) c → Distinct (replay [] front)
    → Each (Behind front (c ∷ behind)) (replay [] front) ms → Follows (Past front c behind) ms (line (replay [] front) c) (shown (replay [] front) c)
one_followed front (Add uid) behind ms few small there d h =
    follows_one (Past front (Add uid) behind) (replay [] front) (Add uid) ms few small there (λ names e. absurd (none-some names e))
    (each_in (Behind front (Add uid ∷ behind)) (Past front (Add uid) behind) (replay [] front) ms (λ u m is b. goes_past front (Add uid) behind u m tt b) h)
one_followed front (Gone uid) behind ms few small there d h =
    let view : List ℕ = replay [] front in
    let f = follows_one (Behind front (Gone uid ∷ behind)) view (Gone uid) ms few small there tt h in record {
      after = f.after;
      reads = f.reads;
      each = each_in (Behind front (Gone uid ∷ behind)) (Past front (Gone uid) behind) (without uid view) f.after
          (λ u m is b. goes_past front (Gone uid) behind u m (λ same. is_away uid view d (subst (λ (x : ℕ). IsIn x (without uid view)) same is)) b) f.each;
    }
one_followed front (SetFlags uid flags) behind ms few small there d h =
    let view : List ℕ = replay [] front in
    let t = told_here (Behind front (SetFlags uid flags ∷ behind)) (Past front (SetFlags uid flags) behind) uid (λ m. told_of uid flags m)
    (λ m b. told_past front behind uid flags m (is_in uid view there)) (λ u m apart b. goes_past front (SetFlags uid flags) behind u m apart b) view ms d (is_in uid view there) h in record {
      after = t.now;
      reads = reads_fetch (Some ms) (position uid view) uid flags (omega (arith, few, position_most uid view)) small.0 ∙ ap knowing t.is;
      each = t.each;
    }

-- ---- all that are shown

all_followed : (front changes rest : List Change) (ms : List Known) → IsStrictlyIncreasing (added (front ++ (changes ++ rest))) → length (replay [] front) + length changes < 2 ^ 64 → ArePrinted changes
    → FitsView (replay [] front) changes → Each (Behind front (changes ++ rest)) (replay [] front) ms
    → Follows (Behind (front ++ changes) rest) ms (lines (replay [] front) changes) (replay (replay [] front) changes)
all_followed front [] rest ms rising few small there h = record { after = ms; reads = refl; each = subst (λ (l : List Change). Each (Behind l rest) (replay [] front) ms) (sym (append-nil front)) h }
all_followed front (c ∷ cs) rest ms rising few small there h =
    let view : List ℕ = replay [] front in
    let split = printed_first c cs small in
    let d : Distinct view = front_distinct front (c ∷ (cs ++ rest)) rising in
    let one = one_followed front c (cs ++ rest) ms (omega (arith, few)) split.0 there.0 d h in
    let next : List Change = front ++ c ∷ [] in
    let whole : next ++ (cs ++ rest) ≡ front ++ c ∷ (cs ++ rest) = append_assoc front (c ∷ []) (cs ++ rest) in
    let seen : replay [] next ≡ shown view c = replay-append [] front (c ∷ []) in
    let each : Each (Behind next (cs ++ rest)) (replay [] next) one.after =
    subst (λ (v : List ℕ). Each (Behind next (cs ++ rest)) v one.after) (sym seen)
    (subst (λ (l : List Change). Each (λ u m. Believes (record { log = l; cursor = length next }) u m) (shown view c) one.after) (sym whole) one.each) in
    let more = all_followed next cs rest one.after (subst (λ (l : List Change). IsStrictlyIncreasing (added l)) (sym whole) rising)
    (subst (λ (v : List ℕ). length v + length cs < 2 ^ 64) (sym seen) (omega (arith, few, shown_most view c))) split.1 (subst (λ (v : List ℕ). FitsView v cs) (sym seen) there.1) each in
    let told : reads (knowing (Some one.after)) (lines (shown view c) cs) ≡ knowing (Some more.after) = ap (λ (v : List ℕ). reads (knowing (Some one.after)) (lines v cs)) (sym seen) ∙ more.reads in record {
      after = more.after;
      reads = reads-append (knowing (Some ms)) (line view c) (lines (shown view c) cs) ∙ ap (λ (x : Client). reads x (lines (shown view c) cs)) one.reads ∙ told;
      each = subst (λ (v : List ℕ). Each (Behind (front ++ c ∷ cs) rest) (replay v cs) more.after) seen
          (subst (λ (l : List Change). Each (Behind l rest) (replay (replay [] next) cs) more.after) (append_assoc front (c ∷ []) cs) more.each);
    }

pub lines_tell_flags : LinesTellFlags
lines_tell_flags p changes rest legal within shows may list right =
    let front : List Change = take p.cursor p.log in
    let long : length front ≡ p.cursor = length-take-le p.cursor p.log within in
    let whole : front ++ (changes ++ rest) ≡ p.log = ap (λ (l : List Change). front ++ l) (sym shows) ∙ take-append-drop p.cursor p.log in
    let first : Each (Behind front (changes ++ rest)) (replay [] front) list =
    subst (λ (l : List Change). Each (λ u m. Believes (record { log = l; cursor = length front }) u m) (replay [] front) list) (sym whole)
    (subst (λ (n : ℕ). Each (λ u m. Believes (record { log = p.log; cursor = n }) u m) (replay [] front) list) (sym long) right) in
    let f = all_followed front changes rest list (subst (λ (l : List Change). IsStrictlyIncreasing (added l)) (sym whole) legal.rising) may.few may.printed may.fits first in
    let longer : length (front ++ changes) ≡ p.cursor + length changes = length-append front changes ∙ ap (λ (n : ℕ). n + length changes) long in
    let seen : view_at p.log (p.cursor + length changes) ≡ replay (replay [] front) changes =
    ap (λ (n : ℕ). view_at p.log n) (sym longer) ∙ ap (λ (l : List Change). replay [] (take (length (front ++ changes)) l)) (sym whole ∙ sym (append_assoc front changes rest))
    ∙ ap (replay []) (take-append_seam (front ++ changes) rest) ∙ replay-append [] front changes in record {
      after = f.after;
      reads = f.reads;
      each = subst (λ (v : List ℕ). Each (λ u m. Believes (record { log = p.log; cursor = p.cursor + length changes }) u m) v f.after) (sym seen)
          (subst (λ (n : ℕ). Each (λ u m. Believes (record { log = p.log; cursor = n }) u m) (replay (replay [] front) changes) f.after) longer
          (subst (λ (l : List Change). Each (λ u m. Believes (record { log = l; cursor = length (front ++ changes) }) u m) (replay (replay [] front) changes) f.after) (append_assoc front changes rest ∙ whole) f.each));
    }
