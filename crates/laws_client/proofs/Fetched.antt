-- The answers of FETCH and STORE leave a client as right as it was.
use Rattle.std.proofs.Common.{◌≡◌, append-nil, ℕ, ◌+◌, ◌^◌, ◌<◌, Bool, true, false, List, [], ◌∷◌, ◌++◌, length, map, ap, ◌∙◌, sym, refl, subst, arith, append_assoc}
use Rattle.std.specs.Prelude.{decimal, codes, Some, ◌&&◌, not, if◌then◌else◌}
use Rattle.std.specs.List.{list_any}
use Rattle.change_ring.specs.declared.change.Flags.{Flags}
use Rattle.change_ring.specs.View.{position}
use Rattle.change_ring.specs.Words.{flag_words, spaced}
use Rattle.mailbox.specs.declared.clients.Row.{Row}
use Rattle.delivery_token.specs.Text.{undated}
use Rattle.imap_answers.specs.Answers.{answered, fetch_answer, flags_last, is_flags, is_uid, item_text, row_answer, uid_first, flags_answer}
use Rattle.imap_grammar.specs.declared.items.FetchItem.{FetchItem}
use Rattle.imap_grammar.specs.declared.items.FetchItem.TheVariants as fetch
use Rattle.laws_client.specs.Client.{Messages, knowing, reads, items, unopened}
use Rattle.laws_client.specs.Beliefs.{Leaves}
use Rattle.laws_client.specs.Clients.{IsOf}
use Rattle.laws_client.specs.Fetches.{AreToldParts}
use Rattle.laws_client.proofs.Reading.{told, words, into_first, fetched, on_list}
use Rattle.laws_client.proofs.Bytes.{decimal_word, words_are_inner}
use Rattle.laws_client.proofs.Each.{IsIn, is_told}
use Rattle.laws_client.proofs.Follows.{position_most}
use Rattle.laws_client.proofs.Items.{items_harmless, opened_harmless}
use Rattle.laws_client.proofs.Kept.{Keeping, both_keeping, inner_keeping, item_kept, items_keeping, IsSmall, whole_kept}
use Rattle.laws_client.proofs.LinesRead.{not_a_count, numbered_told}

front_keeping : (k : ℕ) → k < 2 ^ 64 → Keeping (codes "* " ++ decimal k ++ codes " FETCH (") (codes "* " ++ decimal k ++ codes " FETCH (")
front_keeping k h =
    both_keeping (codes "* " ++ decimal k) (codes "* " ++ decimal k) (codes " FETCH (") (codes " FETCH (")
    (both_keeping (codes "* ") (codes "* ") (decimal k) (decimal k) (inner_keeping (codes "* ") refl) (inner_keeping (decimal k) (words_are_inner (decimal k) (decimal_word k h))))
    (inner_keeping (codes " FETCH (") refl)

answer_shape : (front texts : List ℕ) → front ++ texts ++ 41 ∷ 13 ∷ 10 ∷ [] ≡ (front ++ texts ++ 41 ∷ []) ++ 13 ∷ 10 ∷ []
answer_shape front texts = sym (append_assoc (front ++ texts) (41 ∷ []) (13 ∷ 10 ∷ []))

begun_shape : (d kept : List ℕ) → (codes "* " ++ d ++ codes " FETCH (") ++ kept ++ 41 ∷ [] ≡ 42 ∷ 32 ∷ (d ++ 32 ∷ (codes "FETCH (" ++ (kept ++ 41 ∷ [])))
begun_shape d kept = simp append_assoc

-- what a FETCH answer does to a client's list
pub answer_read : (o : Messages) (k : ℕ) (row : Row) (list : List FetchItem) → k < 2 ^ 64 → IsSmall row → AreToldParts list
    → reads (knowing o) (fetch_answer k (map (item_text row) list))
    ≡ knowing (on_list (fetched k (items (unopened (into_first 40 (words (spaced (map (item_kept row) list) ++ 41 ∷ [])))))) o)
answer_read o k row list h small parts =
    let front : List ℕ = codes "* " ++ decimal k ++ codes " FETCH (" in
    let texts : List ℕ = spaced (map (item_text row) list) in
    let kept : List ℕ = spaced (map (item_kept row) list) in
    let keeping : Keeping (front ++ texts ++ 41 ∷ []) (front ++ kept ++ 41 ∷ []) =
    both_keeping (front ++ texts) (front ++ kept) (41 ∷ []) (41 ∷ []) (both_keeping front front texts kept (front_keeping k h) (items_keeping row list small parts)) (inner_keeping (41 ∷ []) refl) in
    ap (reads (knowing o)) (answer_shape front texts)
    ∙ whole_kept o (front ++ texts ++ 41 ∷ []) (front ++ kept ++ 41 ∷ []) keeping (not_a_count (front ++ kept) 41 refl)
    ∙ ap (λ (t : List ℕ). knowing (told t o)) (begun_shape (decimal k) kept)
    ∙ ap knowing (numbered_told o k (codes "FETCH (" ++ (kept ++ 41 ∷ [])) h)

-- the answer for a message at its position
answer_leaves : (view : List ℕ) (row : Row) (list : List FetchItem) → IsIn row.uid view → length view + 1 < 2 ^ 64 → IsSmall row → AreToldParts list
    → Leaves view (fetch_answer (position row.uid view) (map (item_text row) list))
answer_leaves view row list there few small parts known right =
    let ws : List (List ℕ) = words (spaced (map (item_kept row) list) ++ 41 ∷ []) in
    let t = is_told IsOf row.uid (λ m. items (unopened (into_first 40 ws)) m) (λ m is. opened_harmless row.uid ws (items_harmless row list small parts) m is) view known there right in record {
      after = t.now;
      reads = answer_read (Some known) (position row.uid view) row list (omega (arith, few, position_most row.uid view)) small parts ∙ ap knowing t.is;
      each = t.each;
    }

-- ---- FETCH

parts_append : (one two : List FetchItem) → AreToldParts one → AreToldParts two → AreToldParts (one ++ two)
parts_append [] two h k = k
parts_append (item ∷ one) two h k = (h.0, parts_append one two h.1 k)

first_told : (b : Bool) → AreToldParts (if b then fetch.Uid ∷ [] else [])
first_told true = (tt, tt)
first_told false = tt

last_told : (b : Bool) → AreToldParts (if b then fetch.Flags ∷ [] else [])
last_told true = (tt, tt)
last_told false = tt

pub answered_told : (by_uid newly_seen : Bool) (list : List FetchItem) → AreToldParts list → AreToldParts (answered by_uid newly_seen list)
answered_told by_uid newly_seen list h =
    parts_append (uid_first by_uid list) (list ++ flags_last newly_seen list) (first_told (by_uid && not (list_any is_uid list)))
    (parts_append list (flags_last newly_seen list) h (last_told (newly_seen && not (list_any is_flags list))))

pub row_leaves : (view : List ℕ) (uid : ℕ) (by_uid : Bool) (list : List FetchItem) (row : Row) → IsIn uid view → length view + 1 < 2 ^ 64 → uid < 2 ^ 64 → row.uid ≡ uid → length row.text.bytes < 2 ^ 64 → AreToldParts list
    → Leaves view (row_answer (position uid view) by_uid list row)
row_leaves view uid by_uid list row there few fits is small parts =
    subst (λ (u : ℕ). Leaves view (row_answer (position u view) by_uid list row)) is
    (answer_leaves view row (answered by_uid row.newly_seen list) (subst (λ (u : ℕ). IsIn u view) (sym is) there) few
    (record { uid = subst (λ (u : ℕ). u < 2 ^ 64) (sym is) fits; text = small }) (answered_told by_uid row.newly_seen list parts))

-- ---- STORE

abbrev pub row_of : ℕ → Flags → Row
row_of uid flags = record { uid = uid; flags = flags; text = undated []; newly_seen = false }

abbrev pub store_items : Bool → List FetchItem
store_items true = fetch.Uid ∷ fetch.Flags ∷ []
store_items false = fetch.Flags ∷ []

pub store_told : (by_uid : Bool) → AreToldParts (store_items by_uid)
store_told true = (tt, (tt, tt))
store_told false = (tt, tt)

pub store_shape : (by_uid : Bool) (k uid : ℕ) (flags : Flags) → fetch_answer k (map (item_text (row_of uid flags)) (store_items by_uid)) ≡ flags_answer by_uid k uid flags
store_shape true k uid flags =
    flat (codes "* " ++ decimal k ++ codes " FETCH (") (codes "UID ") (decimal uid) (codes "FLAGS (") (spaced (flag_words flags)) (codes ")") (codes ")\r\n")
  where
    flat : (a u v b c d e : List ℕ) → (a ++ ((u ++ v) ++ 32 ∷ ((b ++ c) ++ d))) ++ e ≡ (((a ++ ((u ++ v) ++ 32 ∷ [])) ++ b) ++ c) ++ (d ++ e)
    flat a u v b c d e = simp append_assoc
store_shape false k uid flags =
    let front : List ℕ = codes "* " ++ decimal k ++ codes " FETCH (" in
    flat front (codes "FLAGS (") (spaced (flag_words flags)) (codes ")") (codes ")\r\n")
    ∙ sym (ap (λ (l : List ℕ). l ++ codes "FLAGS (" ++ spaced (flag_words flags) ++ codes "))\r\n") (append-nil front))
  where
    flat : (a b c d e : List ℕ) → (a ++ ((b ++ c) ++ d)) ++ e ≡ ((a ++ b) ++ c) ++ (d ++ e)
    flat a b c d e = simp append_assoc

pub flags_leave : (view : List ℕ) (uid : ℕ) (by_uid : Bool) (flags : Flags) → IsIn uid view → length view + 1 < 2 ^ 64 → uid < 2 ^ 64
    → Leaves view (flags_answer by_uid (position uid view) uid flags)
flags_leave view uid by_uid flags there few fits =
    subst (λ (t : List ℕ). Leaves view t) (store_shape by_uid (position uid view) uid flags)
    (answer_leaves view (row_of uid flags) (store_items by_uid) there few (record { uid = fits; text = omega arith }) (store_told by_uid))
