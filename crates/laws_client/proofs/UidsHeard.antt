-- A UID that is told at a message's position is known of it, and UIDs that are known stay so.
use Rattle.std.proofs.Common.{◌≡◌, ◌⊎◌, inl, inr, eq-eqb, ℕ, zero, suc, ◌+◌, ◌^◌, ◌<◌, ◌==◌, Bool, true, false, List, [], ◌∷◌, length, map, refl, sym, subst, ap, ◌∙◌, arith}
use Rattle.std.specs.Prelude.{All, Some}
use Rattle.std.proofs.lemmas.Bool.{false≢true}
use Rattle.std.proofs.lemmas.List.Elements.{All-head, All-tail}
use Rattle.change_ring.specs.declared.change.Change.{Change}
use Rattle.change_ring.specs.declared.change.Change.TheVariants.{Add, Gone, Flags as SetFlags}
use Rattle.change_ring.specs.Log.{added}
use Rattle.change_ring.specs.View.{position}
use Rattle.cursor_set.proofs.Positions.{position_pos}
use Rattle.mailbox.specs.declared.clients.Row.{Row}
use Rattle.imap_answers.specs.Answers.{answered, fetch_answer, item_text, row_answer}
use Rattle.imap_grammar.specs.declared.items.FetchItem.{FetchItem}
use Rattle.laws_client.specs.Beliefs.{HearsUid, HoldsOf, IsKnownTo, KeepsUids}
use Rattle.laws_client.specs.Client.{Known, items, knowing, unopened}
use Rattle.laws_client.specs.Fetches.{AreToldParts}
use Rattle.laws_client.specs.ListLaws.{ChangeTellsUid, FetchTellsUid, FlagsKeepUids, LinesKeepUids, RowKeepsUids, StoreTellsUid}
use Rattle.laws_client.proofs.Reading.{fetched, into_first, words}
use Rattle.laws_client.proofs.Chosen.{small_in}
use Rattle.laws_client.proofs.Each.{IsIn, fetched_next, is_in, is_told}
use Rattle.laws_client.proofs.Fetched.{answer_read, answered_told, row_of, store_items, store_shape, store_told}
use Rattle.laws_client.proofs.Follows.{TellsEach, follows, position_most}
use Rattle.laws_client.proofs.Heard.{Asks, HasUid, answered_asks, items_lead, opened_lead, opened_learns}
use Rattle.laws_client.proofs.Kept.{IsSmall, item_kept}
use Rattle.laws_client.proofs.LinesRead.{reads_fetch, told_of}
use Rattle.change_ring.specs.Words.{spaced}
use Rattle.std.proofs.Common.{◌++◌}

-- ---- at a message's position

record ToldAt (P : Known → Type 0) (uid : ℕ) (told : Known → Known) (view : List ℕ) (ms : List Known) : Type 0 where
  pub now : List Known
  pub is : fetched (position uid view) told ms ≡ Some now
  pub long : length now ≡ length view
  pub here : HoldsOf P (position uid view) now

later : (P : Known → Type 0) (k : ℕ) (m : Known) (ms : List Known) → 0 < k → HoldsOf P k ms → HoldsOf P (k + 1) (m ∷ ms)
later P zero m ms h is = absurd (omega (arith, h))
later P (suc k) m ms h is =
    let next : suc (suc k) ≡ suc k + 1 = omega arith in
    subst (λ (n : ℕ). HoldsOf P n (m ∷ ms)) next is

told_at : (P : Known → Type 0) (uid : ℕ) (told : Known → Known) → ((m : Known) → P (told m)) → (view : List ℕ) (ms : List Known) → IsIn uid view → length ms ≡ length view → ToldAt P uid told view ms
told_at P uid told f [] ms is long = absurd is
told_at P uid told f (u ∷ us) [] is long = absurd (omega (arith, long))
told_at P uid told f (u ∷ us) (m ∷ ms) is long = by (u == uid) refl is (λ other. told_at P uid told f us ms other (omega (arith, long)))
  where
    by : (t : Bool) → (u == uid) ≡ t → (u ≡ uid) ⊎ IsIn uid us → (IsIn uid us → ToldAt P uid told us ms) → ToldAt P uid told (u ∷ us) (m ∷ ms)
    by true e is behind = record { now = told m ∷ ms; is = rw e refl; long = long; here = rw e (f m) }
    by false e (inl same) behind = absurd (false≢true (sym e ∙ eq-eqb u uid same))
    by false e (inr other) behind =
        let w = behind other in
        record {
          now = m ∷ w.now;
          is = rw e (fetched_next (position uid us) told m ms w.now (position_pos uid us) w.is);
          long = ap suc w.long;
          here = rw e (later P (position uid us) m w.now (position_pos uid us) w.here);
        }

-- ---- texts that tell UIDs

answer_learns : (view : List ℕ) (row : Row) (list : List FetchItem) → IsIn row.uid view → length view + 1 < 2 ^ 64 → IsSmall row → AreToldParts list → Asks list
    → HearsUid view row.uid (fetch_answer (position row.uid view) (map (item_text row) list))
answer_learns view row list there few small parts asks known long =
    let ws : List (List ℕ) = words (spaced (map (item_kept row) list) ++ 41 ∷ []) in
    let t = told_at (HasUid row.uid) row.uid (λ m. items (unopened (into_first 40 ws)) m) (λ m. opened_learns row list asks small parts m) view known there long in record {
      after = t.now;
      reads = answer_read (Some known) (position row.uid view) row list (omega (arith, few, position_most row.uid view)) small parts ∙ ap knowing t.is;
      long = t.long;
      learned = t.here;
    }

pub fetch_tells_uid : FetchTellsUid
fetch_tells_uid view uid by_uid list row there numbered is parts asks =
    let i : IsIn uid view = is_in uid view there in
    let small : IsSmall row = record { uid = subst (λ (u : ℕ). u < 2 ^ 64) (sym is.0) (small_in uid view numbered.small i); text = is.1 } in
    subst (λ (u : ℕ). HearsUid view u (row_answer (position u view) by_uid list row)) is.0
    (answer_learns view row (answered by_uid row.newly_seen list) (subst (λ (u : ℕ). IsIn u view) (sym is.0) i) numbered.few small
    (answered_told by_uid row.newly_seen list parts) (answered_asks by_uid row.newly_seen list asks))

pub store_tells_uid : StoreTellsUid
store_tells_uid view uid flags there numbered =
    let i : IsIn uid view = is_in uid view there in
    subst (λ (t : List ℕ). HearsUid view uid t) (store_shape true (position uid view) uid flags)
    (answer_learns view (row_of uid flags) (store_items true) i numbered.few (record { uid = small_in uid view numbered.small i; text = omega arith }) (store_told true) tt)

pub change_tells_uid : ChangeTellsUid
change_tells_uid view uid flags there numbered known long =
    let i : IsIn uid view = is_in uid view there in
    let t = told_at (HasUid uid) uid (λ m. told_of uid flags m) (λ m. refl) view known i long in record {
      after = t.now;
      reads = reads_fetch (Some known) (position uid view) uid flags (omega (arith, numbered.few, position_most uid view)) (small_in uid view numbered.small i) ∙ ap knowing t.is;
      long = t.long;
      learned = t.here;
    }

-- ---- UIDs that are known stay so

answer_keeps : (view : List ℕ) (row : Row) (list : List FetchItem) → IsIn row.uid view → length view + 1 < 2 ^ 64 → IsSmall row → AreToldParts list
    → KeepsUids view (fetch_answer (position row.uid view) (map (item_text row) list))
answer_keeps view row list there few small parts known before right =
    let ws : List (List ℕ) = words (spaced (map (item_kept row) list) ++ 41 ∷ []) in
    let P : Known → Type 0 = IsKnownTo known row.uid in
    let t = is_told (IsKnownTo known) row.uid (λ m. items (unopened (into_first 40 ws)) m)
    (λ m is. opened_lead P P ws (items_lead P P row list (λ n h e. refl) (λ names n h. h) small parts) m is) view before there right in record {
      after = t.now;
      reads = answer_read (Some before) (position row.uid view) row list (omega (arith, few, position_most row.uid view)) small parts ∙ ap knowing t.is;
      each = t.each;
    }

pub row_keeps_uids : RowKeepsUids
row_keeps_uids view uid by_uid list row there numbered is parts =
    let i : IsIn uid view = is_in uid view there in
    let small : IsSmall row = record { uid = subst (λ (u : ℕ). u < 2 ^ 64) (sym is.0) (small_in uid view numbered.small i); text = is.1 } in
    subst (λ (u : ℕ). KeepsUids view (row_answer (position u view) by_uid list row)) is.0
    (answer_keeps view row (answered by_uid row.newly_seen list) (subst (λ (u : ℕ). IsIn u view) (sym is.0) i) numbered.few small (answered_told by_uid row.newly_seen list parts))

pub flags_keep_uids : FlagsKeepUids
flags_keep_uids view uid by_uid flags there numbered =
    let i : IsIn uid view = is_in uid view there in
    subst (λ (t : List ℕ). KeepsUids view t) (store_shape by_uid (position uid view) uid flags)
    (answer_keeps view (row_of uid flags) (store_items by_uid) i numbered.few (record { uid = small_in uid view numbered.small i; text = omega arith }) (store_told by_uid))

lines_keep : (known : ℕ → Bool) (cs : List Change) → All (λ uid. known uid ≡ false) (added cs) → TellsEach (IsKnownTo known) cs
lines_keep known [] new = tt
lines_keep known (Add uid ∷ cs) new =
    ((λ e. absurd (false≢true (sym (All-head (λ u. known u ≡ false) uid (added cs) new) ∙ e))), lines_keep known cs (All-tail (λ u. known u ≡ false) uid (added cs) new))
lines_keep known (Gone uid ∷ cs) new = (tt, lines_keep known cs new)
lines_keep known (SetFlags uid flags ∷ cs) new = ((λ m h e. refl), lines_keep known cs new)

pub lines_keep_uids : LinesKeepUids
lines_keep_uids view changes known list may new right = follows (IsKnownTo known) view changes list may.few may.printed may.fits (lines_keep known changes new) right
