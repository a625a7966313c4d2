-- What flags a message has at each moment of a log.
use Rattle.std.proofs.Common.{◌≡◌, ◌⊎◌, inl, inr, eq-eqb, ℕ, ◌+◌, ◌≤◌, ◌==◌, Bool, true, false, List, [], ◌∷◌, ◌++◌, length, take, map, refl, sym, subst, ap, ◌∙◌, arith, append_assoc, length-append}
use Rattle.std.specs.Prelude.{Option, Some, option_map, if◌then◌else◌}
use Rattle.std.proofs.Math.Seq.{take-append_seam, take-length}
use Rattle.std.proofs.lemmas.Bool.{false≢true, eqb-true}
use Rattle.std.proofs.lemmas.List.{take-append-le}
use Rattle.std.proofs.lemmas.Option.{none-some}
use Rattle.change_ring.specs.declared.change.Change.{Change}
use Rattle.change_ring.specs.declared.change.Change.TheVariants.{Add, Gone, Flags as SetFlags}
use Rattle.change_ring.specs.declared.change.Flags.{Flags}
use Rattle.change_ring.specs.Log.{Row, row_change, rows_of, with_flags, without_row, replay}
use Rattle.change_ring.proofs.LogLaws.{rows_after-append, uids-rows_after}
use Rattle.change_ring.specs.Words.{flag_words}
use Rattle.delivery_core.specs.Clients.{row_with}
use Rattle.session_thread.specs.ByHistory.{flags_in}
use Rattle.laws_client.proofs.Each.{IsIn}
use Rattle.laws_client.specs.Flags.{FlagsOf}
use Rattle.laws_client.specs.FlagLaws.{FlagsAreCurrent, FlagsOutlast}

pub flags_are_current : FlagsAreCurrent
flags_are_current log uid names f =
    let here : f.moment ≡ length log = omega (arith, f.since, f.until) in record {
      flags = f.flags;
      has = subst (λ (l : List Change). flags_in uid l ≡ Some f.flags) (take-length log) (subst (λ (n : ℕ). flags_in uid (take n log) ≡ Some f.flags) here f.had);
      named = f.named;
    }

pub flags_outlast : FlagsOutlast
flags_outlast log later cursor uid names f = record {
  moment = f.moment;
  since = f.since;
  until = omega (arith, f.until, length-append log later);
  flags = f.flags;
  had = subst (λ (l : List Change). flags_in uid l ≡ Some f.flags) (sym (take-append-le f.moment log later f.until)) f.had;
  named = f.named;
}

-- the flags that it has now, at the end of the log, are such
pub now_is_moment : (log : List Change) (cursor uid : ℕ) (flags : Flags) (names : List (List ℕ)) → cursor ≤ length log → flags_in uid log ≡ Some flags → names ≡ flag_words flags → FlagsOf log cursor uid names
now_is_moment log cursor uid flags names within has named = record {
  moment = length log;
  since = within;
  until = omega arith;
  flags = flags;
  had = subst (λ (l : List Change). flags_in uid l ≡ Some flags) (sym (take-length log)) has;
  named = named;
}

-- ---- a change leaves the flags of others

abbrev pub the_flags : Option Row → Option Flags
the_flags o = option_map (λ (row : Row). row.flags) o

-- the change sets no flags of this message, and doesn't take it away
abbrev pub Spares : ℕ → Change → Type 0
Spares uid (Add other) = Unit {0}
Spares uid (Gone other) = uid ≡ other → ⊥
Spares uid (SetFlags other flags) = uid ≡ other → ⊥

found_before : (uid : ℕ) (rows : List Row) (more : List Row) (f : Flags) → the_flags (row_with uid rows) ≡ Some f → the_flags (row_with uid (rows ++ more)) ≡ Some f
found_before uid [] more f h = absurd (none-some f h)
found_before uid (row ∷ rows) more f h = by (row.uid == uid) h (found_before uid rows more f)
  where
    by : (b : Bool) → the_flags (if b then Some row else row_with uid rows) ≡ Some f → (the_flags (row_with uid rows) ≡ Some f → the_flags (row_with uid (rows ++ more)) ≡ Some f)
        → the_flags (if b then Some row else row_with uid (rows ++ more)) ≡ Some f
    by true h more = h
    by false h more = more h

not_same : (u uid other : ℕ) → (uid ≡ other → ⊥) → (u == other) ≡ true → (u == uid) ≡ false
not_same u uid other d e = by (u == uid) refl
  where
    by : (b : Bool) → (u == uid) ≡ b → b ≡ false
    by true f = absurd (d (sym (eqb-true u uid f) ∙ eqb-true u other e))
    by false f = refl

left_out : (uid other : ℕ) (rows : List Row) → (uid ≡ other → ⊥) → row_with uid (without_row other rows) ≡ row_with uid rows
left_out uid other [] d = refl
left_out uid other (row ∷ rows) d = by (row.uid == other) refl (left_out uid other rows d)
  where
    by : (b : Bool) → (row.uid == other) ≡ b → row_with uid (without_row other rows) ≡ row_with uid rows
        → row_with uid (if b then rows else row ∷ without_row other rows) ≡ (if row.uid == uid then Some row else row_with uid rows)
    by true e more = ap (λ (c : Bool). if c then Some row else row_with uid rows) (sym (not_same row.uid uid other d e))
    by false e more = ap (λ (o : Option Row). if row.uid == uid then Some row else o) more

flagged_other : (uid other : ℕ) (flags : Flags) (rows : List Row) → (uid ≡ other → ⊥) → row_with uid (with_flags other flags rows) ≡ row_with uid rows
flagged_other uid other flags [] d = refl
flagged_other uid other flags (row ∷ rows) d = by (row.uid == other) refl (flagged_other uid other flags rows d)
  where
    by : (b : Bool) → (row.uid == other) ≡ b → row_with uid (with_flags other flags rows) ≡ row_with uid rows
        → row_with uid (if b then (record { uid = row.uid; flags = flags }) ∷ rows else row ∷ with_flags other flags rows) ≡ (if row.uid == uid then Some row else row_with uid rows)
    by true e more = rw (not_same row.uid uid other d e) refl
    by false e more = ap (λ (o : Option Row). if row.uid == uid then Some row else o) more

spared : (uid : ℕ) (c : Change) (rows : List Row) (f : Flags) → Spares uid c → the_flags (row_with uid rows) ≡ Some f → the_flags (row_with uid (row_change rows c)) ≡ Some f
spared uid (Add other) rows f s h = found_before uid rows _ f h
spared uid (Gone other) rows f s h = ap the_flags (left_out uid other rows s) ∙ h
spared uid (SetFlags other flags) rows f s h = ap the_flags (flagged_other uid other flags rows s) ∙ h

rows_then : (front : List Change) (c : Change) → rows_of (front ++ c ∷ []) ≡ row_change (rows_of front) c
rows_then front c = rows_after-append [] front (c ∷ [])

pub spared_at : (uid : ℕ) (front : List Change) (c : Change) (f : Flags) → Spares uid c → flags_in uid front ≡ Some f → flags_in uid (front ++ c ∷ []) ≡ Some f
spared_at uid front c f s h = ap (λ (rows : List Row). the_flags (row_with uid rows)) (rows_then front c) ∙ spared uid c (rows_of front) f s h

-- ---- a change that sets them

flagged_here : (uid : ℕ) (flags : Flags) (rows : List Row) → IsIn uid (map (λ (row : Row). row.uid) rows) → the_flags (row_with uid (with_flags uid flags rows)) ≡ Some flags
flagged_here uid flags [] is = absurd is
flagged_here uid flags (row ∷ rows) is = by (row.uid == uid) refl is (flagged_here uid flags rows)
  where
    by : (b : Bool) → (row.uid == uid) ≡ b → (row.uid ≡ uid) ⊎ IsIn uid (map (λ (row : Row). row.uid) rows)
        → (IsIn uid (map (λ (row : Row). row.uid) rows) → the_flags (row_with uid (with_flags uid flags rows)) ≡ Some flags)
        → the_flags (row_with uid (if b then (record { uid = row.uid; flags = flags }) ∷ rows else row ∷ with_flags uid flags rows)) ≡ Some flags
    by true e is more = rw e refl
    by false e (inl same) more = absurd (false≢true (sym e ∙ eq-eqb row.uid uid same))
    by false e (inr other) more = rw e (more other)

pub set_at : (uid : ℕ) (front : List Change) (flags : Flags) → IsIn uid (replay [] front) → flags_in uid (front ++ SetFlags uid flags ∷ []) ≡ Some flags
set_at uid front flags is =
    ap (λ (rows : List Row). the_flags (row_with uid rows)) (rows_then front (SetFlags uid flags))
    ∙ flagged_here uid flags (rows_of front) (subst (λ (us : List ℕ). IsIn uid us) (sym (uids-rows_after [] front)) is)

-- ---- the cursor moves over a change

regroup : (front behind : List Change) (c : Change) → (front ++ c ∷ []) ++ behind ≡ front ++ c ∷ behind
regroup front behind c = append_assoc front (c ∷ []) behind

-- a moment that was there before it is behind it too, unless the change is of this very message
pub moves_on : (uid : ℕ) (front behind : List Change) (c : Change) (names : List (List ℕ)) → Spares uid c → FlagsOf (front ++ c ∷ behind) (length front) uid names
    → FlagsOf (front ++ c ∷ behind) (length (front ++ c ∷ [])) uid names
moves_on uid front behind c names s f = by (f.moment == length front) refl
  where
    long : length (front ++ c ∷ []) ≡ length front + 1
    long = length-append front (c ∷ [])

    seam : take (length (front ++ c ∷ [])) (front ++ c ∷ behind) ≡ front ++ c ∷ []
    seam = ap (take (length (front ++ c ∷ []))) (sym (regroup front behind c)) ∙ take-append_seam (front ++ c ∷ []) behind

    here : f.moment ≡ length front → flags_in uid front ≡ Some f.flags
    here e = subst (λ (l : List Change). flags_in uid l ≡ Some f.flags) (ap (λ (n : ℕ). take n (front ++ c ∷ behind)) e ∙ take-append_seam front (c ∷ behind)) f.had

    by : (b : Bool) → (f.moment == length front) ≡ b → FlagsOf (front ++ c ∷ behind) (length (front ++ c ∷ [])) uid names
    by true e =
        let at : f.moment ≡ length front = eqb-true f.moment (length front) e in record {
          moment = length (front ++ c ∷ []);
          since = omega arith;
          until = omega (arith, ap length (regroup front behind c), length-append (front ++ c ∷ []) behind);
          flags = f.flags;
          had = subst (λ (l : List Change). flags_in uid l ≡ Some f.flags) (sym seam) (spared_at uid front c f.flags s (here at));
          named = f.named;
        }
    by false e = record {
      moment = f.moment;
      since = later;
      until = f.until;
      flags = f.flags;
      had = f.had;
      named = f.named;
    }
      where
        apart : f.moment ≡ length front → ⊥
        apart g = false≢true (sym e ∙ eq-eqb f.moment (length front) g)

        later : length (front ++ c ∷ []) ≤ f.moment
        later = omega (arith, long, f.since, apart)
