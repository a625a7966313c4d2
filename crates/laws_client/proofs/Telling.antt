-- The answers of FETCH and STORE tell the flags of the row, and no others.
use Rattle.std.proofs.Common.{◌≡◌, ℕ, ◌+◌, ◌^◌, ◌<◌, Bool, true, false, List, [], ◌∷◌, ◌++◌, length, map, refl, sym, subst, ap, ◌∙◌, arith, append_assoc, append-nil}
use Rattle.std.specs.Prelude.{Option, Some, None, codes, decimal, ◌&&◌}
use Rattle.std.specs.List.{list_all}
use Rattle.std.proofs.lemmas.Bool.{false≢true}
use Rattle.change_ring.specs.declared.change.Flags.{Flags}
use Rattle.change_ring.specs.View.{position}
use Rattle.change_ring.specs.Words.{flag_words, spaced}
use Rattle.mailbox.specs.declared.clients.Row.{Row}
use Rattle.delivery_token.specs.Text.{date_of}
use Rattle.imap_answers.specs.Answers.{answered, fetch_answer, item_text, part, part_bytes, row_answer, section, flags_answer}
use Rattle.imap_grammar.specs.declared.items.FetchItem.{FetchItem}
use Rattle.imap_grammar.specs.declared.items.FetchItem.TheVariants as fetch
use Rattle.laws_client.specs.Client.{Known, closing, flag_names, items, knowing, number, unopened}
use Rattle.laws_client.specs.Fetches.{AreToldParts, IsToldPart}
use Rattle.laws_client.proofs.Reading.{into_first, with_flags, with_uid, words}
use Rattle.laws_client.proofs.Bytes.{decimal_digits, decimal_says}
use Rattle.laws_client.proofs.Each.{IsIn, is_in, is_told}
use Rattle.laws_client.proofs.Fetched.{answer_read, answered_told, row_of, store_items, store_shape, store_told}
use Rattle.laws_client.proofs.Chosen.{small_in}
use Rattle.laws_client.proofs.Follows.{position_most}
use Rattle.laws_client.proofs.Items.{item_closed, body_words, date_other, date_read, date_words, digits_closed, digits_other, flag_list, flag_list_other, flags_of, is_other, number_words, other_passes, rfc822_other, rfc822_read, rfc822_words, tail, words_append}
use Rattle.laws_client.proofs.Kept.{body_word, count_kept, item_kept, IsSmall, part_small, text_dated}
use Rattle.laws_client.specs.Flags.{Believes, FlagsOf, Point, counted}
use Rattle.laws_client.specs.FlagTurns.{LeavesFlags}
use Rattle.laws_client.specs.FlagLaws.{RowTellsFlags, StoreTellsFlags}
use Rattle.laws_client.proofs.Moments.{now_is_moment}

-- ---- words

-- what is so of a message stays so when the row's own UID or flags are told of it
pub record Allows (P : Known → Type 0) (row : Row) : Type 0 where
  pub uid : (m : Known) → P m → P (with_uid (Some row.uid) m)
  pub flags : (m : Known) → P m → P (with_flags (flag_words row.flags) m)

-- words that keep P so of a message, so that what comes behind them leads on to Q
abbrev pub Keeps : (Known → Type 0) → (Known → Type 0) → List (List ℕ) → Type 0
Keeps P Q ws = (rest : List (List ℕ)) → ((m : Known) → P m → Q (items rest m)) → (m : Known) → P m → Q (items (ws ++ rest) m)

pub others_keep : (P Q : Known → Type 0) (ws : List (List ℕ)) → list_all is_other ws ≡ true → Keeps P Q ws
others_keep P Q [] h rest behind m is = behind m is
others_keep P Q (w ∷ ws) h rest behind m is =
    subst Q (sym (other_passes w (ws ++ rest) m (both (is_other w) (list_all is_other ws) h).0)) (others_keep P Q ws (both (is_other w) (list_all is_other ws) h).1 rest behind m is)
  where
    both : (a b : Bool) → (a && b) ≡ true → (a ≡ true) × (b ≡ true)
    both true b e = (refl, e)
    both false b e = absurd (false≢true e)

keep_both : (P Q : Known → Type 0) (one two : List (List ℕ)) → Keeps P Q one → Keeps P Q two → Keeps P Q (one ++ two)
keep_both P Q one two h k rest behind m is = subst (λ (ws : List (List ℕ)). Q (items ws m)) (sym (append_assoc one two rest)) (h (two ++ rest) (k rest behind) m is)

uid_keeps : (P Q : Known → Type 0) (row : Row) (last : Bool) → Allows P row → row.uid < 2 ^ 64 → Keeps P Q (codes "UID" ∷ (decimal row.uid ++ tail last) ∷ [])
uid_keeps P Q row last a h rest behind m is =
    let uid : ℕ = row.uid in
    let word : List ℕ = decimal uid ++ tail last in
    let told : number (closing word).1 ≡ Some uid = ap (λ (p : ℕ × List ℕ). number p.1) (digits_closed (decimal uid) last (decimal_digits uid h)) ∙ decimal_says uid h in
    subst Q (sym (ap (λ (n : Option ℕ). items (word ∷ rest) (with_uid n m)) told ∙ other_passes word rest (with_uid (Some uid) m) (digits_other (decimal uid) last (decimal_digits uid h))))
    (behind (with_uid (Some uid) m) (a.uid m is))

flags_named : (a b c d e : Bool) (rest : List (List ℕ))
    → (flag_names (words (flag_list (flags_of a b c d e) true) ++ rest) ≡ flag_words (flags_of a b c d e)) × (flag_names (words (flag_list (flags_of a b c d e) false) ++ rest) ≡ flag_words (flags_of a b c d e))
flags_named true true true true true rest = (refl, refl)
flags_named true true true true false rest = (refl, refl)
flags_named true true true false true rest = (refl, refl)
flags_named true true true false false rest = (refl, refl)
flags_named true true false true true rest = (refl, refl)
flags_named true true false true false rest = (refl, refl)
flags_named true true false false true rest = (refl, refl)
flags_named true true false false false rest = (refl, refl)
flags_named true false true true true rest = (refl, refl)
flags_named true false true true false rest = (refl, refl)
flags_named true false true false true rest = (refl, refl)
flags_named true false true false false rest = (refl, refl)
flags_named true false false true true rest = (refl, refl)
flags_named true false false true false rest = (refl, refl)
flags_named true false false false true rest = (refl, refl)
flags_named true false false false false rest = (refl, refl)
flags_named false true true true true rest = (refl, refl)
flags_named false true true true false rest = (refl, refl)
flags_named false true true false true rest = (refl, refl)
flags_named false true true false false rest = (refl, refl)
flags_named false true false true true rest = (refl, refl)
flags_named false true false true false rest = (refl, refl)
flags_named false true false false true rest = (refl, refl)
flags_named false true false false false rest = (refl, refl)
flags_named false false true true true rest = (refl, refl)
flags_named false false true true false rest = (refl, refl)
flags_named false false true false true rest = (refl, refl)
flags_named false false true false false rest = (refl, refl)
flags_named false false false true true rest = (refl, refl)
flags_named false false false true false rest = (refl, refl)
flags_named false false false false true rest = (refl, refl)
flags_named false false false false false rest = (refl, refl)

pub list_named : (f : Flags) (last : Bool) (rest : List (List ℕ)) → flag_names (words (flag_list f last) ++ rest) ≡ flag_words f
list_named f true rest = (flags_named f.answered f.flagged f.deleted f.seen f.draft rest).0
list_named f false rest = (flags_named f.answered f.flagged f.deleted f.seen f.draft rest).1

flags_keep : (P Q : Known → Type 0) (row : Row) (last : Bool) → Allows P row → Keeps P Q (codes "FLAGS" ∷ words (flag_list row.flags last))
flags_keep P Q row last a rest behind m is =
    let ws : List (List ℕ) = words (flag_list row.flags last) in
    subst (λ (names : List (List ℕ)). Q (items (ws ++ rest) (with_flags names m))) (sym (list_named row.flags last rest))
    (others_keep P Q ws (flag_list_other row.flags last) rest behind (with_flags (flag_words row.flags) m) (a.flags m is))

pub item_keeps : (P Q : Known → Type 0) (row : Row) (item : FetchItem) (last : Bool) → Allows P row → IsSmall row → IsToldPart item → Keeps P Q (words (item_kept row item ++ tail last))
item_keeps P Q row fetch.Uid last a small told =
    subst (λ (ws : List (List ℕ)). Keeps P Q (codes "UID" ∷ ws)) (sym (number_words row.uid last small.uid)) (uid_keeps P Q row last a small.uid)
item_keeps P Q row fetch.Flags last a small told = flags_keep P Q row last a
item_keeps P Q row fetch.Size last a small told =
    let n : ℕ = length row.text.bytes in
    subst (λ (ws : List (List ℕ)). Keeps P Q (codes "RFC822.SIZE" ∷ ws)) (sym (number_words n last small.text))
    (others_keep P Q (codes "RFC822.SIZE" ∷ (decimal n ++ tail last) ∷ []) (rw (digits_other (decimal n) last (decimal_digits n small.text)) refl))
item_keeps P Q row fetch.InternalDate last a small told =
    subst (λ (ws : List (List ℕ)). Keeps P Q ws) (sym (date_read row.text last))
    (others_keep P Q (date_words (date_of row.text) last) (date_other (date_of row.text) last (text_dated row.text)))
item_keeps P Q row (fetch.Rfc822 which) last a small told =
    subst (λ (ws : List (List ℕ)). Keeps P Q ws) (sym (rfc822_read row which last small))
    (others_keep P Q (rfc822_words which (section which row.text.bytes) last) (rfc822_other which (section which row.text.bytes) last))
item_keeps P Q row (fetch.Body peek which span) last a small told =
    let bytes : List ℕ = part span (part_bytes which row.text.bytes) in
    subst (λ (ws : List (List ℕ)). Keeps P Q ws) (sym (body_words which span bytes last told.0 told.1 (part_small row which span small)))
    (others_keep P Q (body_word which span ∷ (count_kept bytes ++ tail last) ∷ []) refl)

pub items_keep : (P Q : Known → Type 0) (row : Row) (list : List FetchItem) → Allows P row → IsSmall row → AreToldParts list → Keeps P Q (words (spaced (map (item_kept row) list) ++ 41 ∷ []))
items_keep P Q row [] a small told = others_keep P Q ((41 ∷ []) ∷ []) refl
items_keep P Q row (item ∷ []) a small told = item_keeps P Q row item true a small told.0
items_keep P Q row (item ∷ other ∷ list) a small told =
    let kept : List ℕ = spaced (map (item_kept row) (other ∷ list)) ++ 41 ∷ [] in
    let first : Keeps P Q (words (item_kept row item)) = subst (λ (t : List ℕ). Keeps P Q (words t)) (append-nil (item_kept row item)) (item_keeps P Q row item false a small told.0) in
    subst (λ (ws : List (List ℕ)). Keeps P Q ws)
    (sym (ap words (append_assoc (item_kept row item) (32 ∷ spaced (map (item_kept row) (other ∷ list))) (41 ∷ [])) ∙ words_append (item_kept row item) kept (item_closed row item small told.0)))
    (keep_both P Q (words (item_kept row item)) (words kept) first (items_keep P Q row (other ∷ list) a small told.1))

-- with the parenthesis that opens before the first
opened_keep : (P : Known → Type 0) (ws : List (List ℕ)) → Keeps P P ws → (m : Known) → P m → P (items (unopened (into_first 40 ws)) m)
opened_keep P [] h m is = is
opened_keep P (w ∷ ws) h m is = subst (λ (list : List (List ℕ)). P (items list m)) (append-nil (w ∷ ws)) (h [] (λ k same. same) m is)

-- ---- answers

abbrev names_in : Option (List (List ℕ)) → List (List ℕ)
names_in None = []
names_in (Some names) = names

-- of flags that it had at a moment
allows_told : (p : Point) (row : Row) → FlagsOf p.log p.cursor row.uid (flag_words row.flags) → Allows (Believes p row.uid) row
allows_told p row had = record {
  uid = λ m is. is;
  flags = λ m is names e. subst (λ (ns : List (List ℕ)). FlagsOf p.log p.cursor row.uid ns) (ap names_in e) had;
}

answer_tells : (p : Point) (row : Row) (list : List FetchItem) → IsIn row.uid (counted p) → length (counted p) + 1 < 2 ^ 64 → IsSmall row → AreToldParts list → FlagsOf p.log p.cursor row.uid (flag_words row.flags)
    → LeavesFlags p (fetch_answer (position row.uid (counted p)) (map (item_text row) list))
answer_tells p row list there few small parts had known right =
    let ws : List (List ℕ) = words (spaced (map (item_kept row) list) ++ 41 ∷ []) in
    let t = is_told (Believes p) row.uid (λ m. items (unopened (into_first 40 ws)) m)
    (λ m is. opened_keep (Believes p row.uid) ws (items_keep (Believes p row.uid) (Believes p row.uid) row list (allows_told p row had) small parts) m is) (counted p) known there right in record {
      after = t.now;
      reads = answer_read (Some known) (position row.uid (counted p)) row list (omega (arith, few, position_most row.uid (counted p))) small parts ∙ ap knowing t.is;
      each = t.each;
    }

pub row_tells : (p : Point) (uid : ℕ) (by_uid : Bool) (list : List FetchItem) (row : Row) → IsIn uid (counted p) → length (counted p) + 1 < 2 ^ 64 → uid < 2 ^ 64 → row.uid ≡ uid → length row.text.bytes < 2 ^ 64
    → AreToldParts list → FlagsOf p.log p.cursor uid (flag_words row.flags) → LeavesFlags p (row_answer (position uid (counted p)) by_uid list row)
row_tells p uid by_uid list row there few fits is small parts had =
    subst (λ (u : ℕ). LeavesFlags p (row_answer (position u (counted p)) by_uid list row)) is
    (answer_tells p row (answered by_uid row.newly_seen list) (subst (λ (u : ℕ). IsIn u (counted p)) (sym is) there) few
    (record { uid = subst (λ (u : ℕ). u < 2 ^ 64) (sym is) fits; text = small }) (answered_told by_uid row.newly_seen list parts) (subst (λ (u : ℕ). FlagsOf p.log p.cursor u (flag_words row.flags)) (sym is) had))

pub store_tells : (p : Point) (uid : ℕ) (by_uid : Bool) (flags : Flags) → IsIn uid (counted p) → length (counted p) + 1 < 2 ^ 64 → uid < 2 ^ 64 → FlagsOf p.log p.cursor uid (flag_words flags)
    → LeavesFlags p (flags_answer by_uid (position uid (counted p)) uid flags)
store_tells p uid by_uid flags there few fits had =
    subst (λ (t : List ℕ). LeavesFlags p t) (store_shape by_uid (position uid (counted p)) uid flags)
    (answer_tells p (row_of uid flags) (store_items by_uid) there few (record { uid = fits; text = omega arith }) (store_told by_uid) had)

pub row_tells_flags : RowTellsFlags
row_tells_flags p uid by_uid items row there numbered is parts has within =
    let i = is_in uid (counted p) there in row_tells p uid by_uid items row i numbered.few (small_in uid (counted p) numbered.small i) is.0 is.1 parts (now_is_moment p.log p.cursor uid row.flags (flag_words row.flags) within has refl)

pub store_tells_flags : StoreTellsFlags
store_tells_flags p uid by_uid flags there numbered has within =
    let i = is_in uid (counted p) there in store_tells p uid by_uid flags i numbered.few (small_in uid (counted p) numbered.small i) (now_is_moment p.log p.cursor uid flags (flag_words flags) within has refl)
