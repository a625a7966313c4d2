-- The words of a FETCH's items, as a client learns by them: a UID that is told is known, and what was known stays so.
use Rattle.std.proofs.Common.{◌≡◌, ℕ, ◌^◌, ◌<◌, Bool, true, false, List, [], ◌∷◌, ◌++◌, length, map, refl, sym, subst, ap, ◌∙◌, append_assoc, append-nil}
use Rattle.std.specs.Prelude.{Option, Some, codes, decimal, ◌&&◌, ◌||◌}
use Rattle.std.specs.List.{list_all, list_any}
use Rattle.std.proofs.lemmas.Bool.{false≢true}
use Rattle.change_ring.specs.declared.change.Flags.{Flags}
use Rattle.change_ring.specs.Words.{spaced}
use Rattle.mailbox.specs.declared.clients.Row.{Row}
use Rattle.delivery_token.specs.Text.{date_of}
use Rattle.imap_answers.specs.Answers.{answered, flags_last, is_uid, part, part_bytes, section, uid_first}
use Rattle.imap_grammar.specs.declared.items.BodyPart.{BodyPart}
use Rattle.imap_grammar.specs.declared.items.FetchItem.{FetchItem}
use Rattle.imap_grammar.specs.declared.items.FetchItem.TheVariants as fetch
use Rattle.imap_grammar.specs.declared.items.Section.{Section}
use Rattle.imap_grammar.specs.declared.items.Span.{Span}
use Rattle.laws_client.specs.Client.{Known, closing, flag_names, items, number, unopened}
use Rattle.laws_client.specs.Fetches.{AreToldParts, IsToldPart}
use Rattle.laws_client.proofs.Reading.{into_first, with_flags, with_uid, words}
use Rattle.laws_client.proofs.Bytes.{decimal_digits, decimal_says}
use Rattle.laws_client.proofs.Items.{item_closed, body_words, date_other, date_read, date_words, digits_closed, digits_other, flag_list, flag_list_other, is_other, number_words, other_passes, rfc822_other, rfc822_read, rfc822_words, tail, words_append}
use Rattle.laws_client.proofs.Kept.{IsSmall, body_word, count_kept, item_kept, part_small, text_dated}

-- ---- words

-- Where P is so of a message these words lead to R, and so what comes behind them, from R to Q, leads on from P.
abbrev pub LeadOn : (P R Q : Known → Type 0) → List (List ℕ) → Type 0
LeadOn P R Q ws = (rest : List (List ℕ)) → ((m : Known) → R m → Q (items rest m)) → (m : Known) → P m → Q (items (ws ++ rest) m)

others_lead : (P Q : Known → Type 0) (ws : List (List ℕ)) → list_all is_other ws ≡ true → LeadOn P P Q ws
others_lead P Q [] h rest behind m is = behind m is
others_lead P Q (w ∷ ws) h rest behind m is =
    subst Q (sym (other_passes w (ws ++ rest) m (both (is_other w) (list_all is_other ws) h).0)) (others_lead P Q ws (both (is_other w) (list_all is_other ws) h).1 rest behind m is)
  where
    both : (a b : Bool) → (a && b) ≡ true → (a ≡ true) × (b ≡ true)
    both true b e = (refl, e)
    both false b e = absurd (false≢true e)

lead_both : (P R S Q : Known → Type 0) (one two : List (List ℕ)) → LeadOn P R Q one → LeadOn R S Q two → LeadOn P S Q (one ++ two)
lead_both P R S Q one two h k rest behind m is = subst (λ (ws : List (List ℕ)). Q (items ws m)) (sym (append_assoc one two rest)) (h (two ++ rest) (k rest behind) m is)

-- ---- items

-- what is so of a message stays so, whichever flags are told of it
abbrev pub LeavesFlagsOpen : (Known → Type 0) → Type 0
LeavesFlagsOpen P = (names : List (List ℕ)) (m : Known) → P m → P (with_flags names m)

uid_leads : (P R Q : Known → Type 0) (uid : ℕ) (last : Bool) → ((m : Known) → P m → R (with_uid (Some uid) m)) → uid < 2 ^ 64 → LeadOn P R Q (codes "UID" ∷ (decimal uid ++ tail last) ∷ [])
uid_leads P R Q uid last f h rest behind m is =
    let word : List ℕ = decimal uid ++ tail last in
    let told : number (closing word).1 ≡ Some uid = ap (λ (p : ℕ × List ℕ). number p.1) (digits_closed (decimal uid) last (decimal_digits uid h)) ∙ decimal_says uid h in
    subst Q (sym (ap (λ (n : Option ℕ). items (word ∷ rest) (with_uid n m)) told ∙ other_passes word rest (with_uid (Some uid) m) (digits_other (decimal uid) last (decimal_digits uid h))))
    (behind (with_uid (Some uid) m) (f m is))

flags_lead : (P Q : Known → Type 0) (f : Flags) (last : Bool) → LeavesFlagsOpen P → LeadOn P P Q (codes "FLAGS" ∷ words (flag_list f last))
flags_lead P Q f last stays rest behind m is =
    others_lead P Q (words (flag_list f last)) (flag_list_other f last) rest behind (with_flags (flag_names (words (flag_list f last) ++ rest)) m) (stays _ m is)

uid_item : (P R Q : Known → Type 0) (row : Row) (last : Bool) → ((m : Known) → P m → R (with_uid (Some row.uid) m)) → IsSmall row → LeadOn P R Q (words (item_kept row fetch.Uid ++ tail last))
uid_item P R Q row last f small = subst (λ (ws : List (List ℕ)). LeadOn P R Q (codes "UID" ∷ ws)) (sym (number_words row.uid last small.uid)) (uid_leads P R Q row.uid last f small.uid)

size_item : (P Q : Known → Type 0) (row : Row) (last : Bool) → IsSmall row → LeadOn P P Q (words (item_kept row fetch.Size ++ tail last))
size_item P Q row last small =
    let n : ℕ = length row.text.bytes in
    subst (λ (ws : List (List ℕ)). LeadOn P P Q (codes "RFC822.SIZE" ∷ ws)) (sym (number_words n last small.text))
    (others_lead P Q (codes "RFC822.SIZE" ∷ (decimal n ++ tail last) ∷ []) (rw (digits_other (decimal n) last (decimal_digits n small.text)) refl))

body_item : (P Q : Known → Type 0) (row : Row) (peek : Bool) (which : BodyPart) (span : Option Span) (last : Bool) → IsSmall row → IsToldPart (fetch.Body peek which span) → LeadOn P P Q (words (item_kept row (fetch.Body peek which span) ++ tail last))
body_item P Q row peek which span last small told =
    let bytes : List ℕ = part span (part_bytes which row.text.bytes) in
    subst (λ (ws : List (List ℕ)). LeadOn P P Q ws) (sym (body_words which span bytes last told.0 told.1 (part_small row which span small)))
    (others_lead P Q (body_word which span ∷ (count_kept bytes ++ tail last) ∷ []) refl)

date_leads : (P Q : Known → Type 0) (row : Row) (last : Bool) → LeadOn P P Q (words (item_kept row fetch.InternalDate ++ tail last))
date_leads P Q row last =
    subst (λ (ws : List (List ℕ)). LeadOn P P Q ws) (sym (date_read row.text last))
    (others_lead P Q (date_words (date_of row.text) last) (date_other (date_of row.text) last (text_dated row.text)))

rfc822_leads : (P Q : Known → Type 0) (row : Row) (which : Section) (last : Bool) → IsSmall row → LeadOn P P Q (words (item_kept row (fetch.Rfc822 which) ++ tail last))
rfc822_leads P Q row which last small =
    subst (λ (ws : List (List ℕ)). LeadOn P P Q ws) (sym (rfc822_read row which last small))
    (others_lead P Q (rfc822_words which (section which row.text.bytes) last) (rfc822_other which (section which row.text.bytes) last))

-- an item by which nothing is lost
item_leads : (P Q : Known → Type 0) (row : Row) (item : FetchItem) (last : Bool) → ((m : Known) → P m → P (with_uid (Some row.uid) m)) → LeavesFlagsOpen P → IsSmall row → IsToldPart item
    → LeadOn P P Q (words (item_kept row item ++ tail last))
item_leads P Q row fetch.Uid last u stays small told = uid_item P P Q row last u small
item_leads P Q row fetch.Flags last u stays small told = flags_lead P Q row.flags last stays
item_leads P Q row fetch.Size last u stays small told = size_item P Q row last small
item_leads P Q row fetch.InternalDate last u stays small told = date_leads P Q row last
item_leads P Q row (fetch.Rfc822 which) last u stays small told = rfc822_leads P Q row which last small
item_leads P Q row (fetch.Body peek which span) last u stays small told = body_item P Q row peek which span last small told

-- the words of the items, cut behind the first
cut_first : (row : Row) (item other : FetchItem) (list : List FetchItem) → IsSmall row → IsToldPart item
    → words (item_kept row item) ++ words (spaced (map (item_kept row) (other ∷ list)) ++ 41 ∷ []) ≡ words (spaced (map (item_kept row) (item ∷ other ∷ list)) ++ 41 ∷ [])
cut_first row item other list small told =
    sym (ap words (append_assoc (item_kept row item) (32 ∷ spaced (map (item_kept row) (other ∷ list))) (41 ∷ [])) ∙ words_append (item_kept row item) (spaced (map (item_kept row) (other ∷ list)) ++ 41 ∷ []) (item_closed row item small told))

then_others : (P R S Q : Known → Type 0) (row : Row) (item other : FetchItem) (list : List FetchItem) → IsSmall row → IsToldPart item → LeadOn P R Q (words (item_kept row item ++ tail false))
    → LeadOn R S Q (words (spaced (map (item_kept row) (other ∷ list)) ++ 41 ∷ [])) → LeadOn P S Q (words (spaced (map (item_kept row) (item ∷ other ∷ list)) ++ 41 ∷ []))
then_others P R S Q row item other list small told one more =
    subst (LeadOn P S Q) (cut_first row item other list small told)
    (lead_both P R S Q (words (item_kept row item)) (words (spaced (map (item_kept row) (other ∷ list)) ++ 41 ∷ []))
    (subst (λ (t : List ℕ). LeadOn P R Q (words t)) (append-nil (item_kept row item)) one) more)

pub items_lead : (P Q : Known → Type 0) (row : Row) (list : List FetchItem) → ((m : Known) → P m → P (with_uid (Some row.uid) m)) → LeavesFlagsOpen P → IsSmall row → AreToldParts list
    → LeadOn P P Q (words (spaced (map (item_kept row) list) ++ 41 ∷ []))
items_lead P Q row [] u stays small told = others_lead P Q ((41 ∷ []) ∷ []) refl
items_lead P Q row (item ∷ []) u stays small told = item_leads P Q row item true u stays small told.0
items_lead P Q row (item ∷ other ∷ list) u stays small told =
    then_others P P P Q row item other list small told.0 (item_leads P Q row item false u stays small told.0) (items_lead P Q row (other ∷ list) u stays small told.1)

-- ---- UID is one of them

abbrev pub Asks : List FetchItem → Type 0
Asks [] = ⊥
Asks (fetch.Uid ∷ list) = Unit {0}
Asks (fetch.Flags ∷ list) = Asks list
Asks (fetch.Size ∷ list) = Asks list
Asks (fetch.InternalDate ∷ list) = Asks list
Asks (fetch.Rfc822 which ∷ list) = Asks list
Asks (fetch.Body peek which span ∷ list) = Asks list

abbrev Any : Known → Type 0
Any m = Unit {0}

abbrev pub HasUid : ℕ → Known → Type 0
HasUid uid m = m.uid ≡ Some uid

items_learn : (row : Row) (list : List FetchItem) → Asks list → IsSmall row → AreToldParts list → LeadOn Any (HasUid row.uid) (HasUid row.uid) (words (spaced (map (item_kept row) list) ++ 41 ∷ []))
items_learn row [] asks small told = absurd asks
items_learn row (fetch.Uid ∷ []) asks small told = uid_item Any (HasUid row.uid) (HasUid row.uid) row true (λ m any. refl) small
items_learn row (fetch.Flags ∷ []) asks small told = absurd asks
items_learn row (fetch.Size ∷ []) asks small told = absurd asks
items_learn row (fetch.InternalDate ∷ []) asks small told = absurd asks
items_learn row (fetch.Rfc822 which ∷ []) asks small told = absurd asks
items_learn row (fetch.Body peek which span ∷ []) asks small told = absurd asks
items_learn row (fetch.Uid ∷ other ∷ list) asks small told =
    let H : Known → Type 0 = HasUid row.uid in
    then_others Any H H H row fetch.Uid other list small told.0 (uid_item Any H H row false (λ m any. refl) small)
    (items_lead H H row (other ∷ list) (λ m is. refl) (λ names m is. is) small told.1)
items_learn row (fetch.Flags ∷ other ∷ list) asks small told =
    let H : Known → Type 0 = HasUid row.uid in
    then_others Any Any H H row fetch.Flags other list small told.0 (flags_lead Any H row.flags false (λ names m any. tt)) (items_learn row (other ∷ list) asks small told.1)
items_learn row (fetch.Size ∷ other ∷ list) asks small told =
    let H : Known → Type 0 = HasUid row.uid in
    then_others Any Any H H row fetch.Size other list small told.0 (size_item Any H row false small) (items_learn row (other ∷ list) asks small told.1)
items_learn row (fetch.InternalDate ∷ other ∷ list) asks small told =
    let H : Known → Type 0 = HasUid row.uid in
    then_others Any Any H H row fetch.InternalDate other list small told.0 (date_leads Any H row false) (items_learn row (other ∷ list) asks small told.1)
items_learn row (fetch.Rfc822 which ∷ other ∷ list) asks small told =
    let H : Known → Type 0 = HasUid row.uid in
    then_others Any Any H H row (fetch.Rfc822 which) other list small told.0 (rfc822_leads Any H row which false small) (items_learn row (other ∷ list) asks small told.1)
items_learn row (fetch.Body peek which span ∷ other ∷ list) asks small told =
    let H : Known → Type 0 = HasUid row.uid in
    then_others Any Any H H row (fetch.Body peek which span) other list small told.0 (body_item Any H row peek which span false small told.0) (items_learn row (other ∷ list) asks small told.1)

-- with the parenthesis that opens before the first
pub opened_lead : (P Q : Known → Type 0) (ws : List (List ℕ)) → LeadOn P Q Q ws → (m : Known) → P m → Q (items (unopened (into_first 40 ws)) m)
opened_lead P Q [] h m is = h [] (λ k same. same) m is
opened_lead P Q (w ∷ ws) h m is = subst (λ (list : List (List ℕ)). Q (items list m)) (append-nil (w ∷ ws)) (h [] (λ k same. same) m is)

pub opened_learns : (row : Row) (list : List FetchItem) → Asks list → IsSmall row → AreToldParts list → (m : Known)
    → HasUid row.uid (items (unopened (into_first 40 (words (spaced (map (item_kept row) list) ++ 41 ∷ [])))) m)
opened_learns row list asks small told m =
    opened_lead Any (HasUid row.uid) (words (spaced (map (item_kept row) list) ++ 41 ∷ [])) (items_learn row list asks small told) m tt

-- ---- FETCH asks for UIDs

asks_behind : (one two : List FetchItem) → Asks two → Asks (one ++ two)
asks_behind [] two h = h
asks_behind (fetch.Uid ∷ one) two h = tt
asks_behind (fetch.Flags ∷ one) two h = asks_behind one two h
asks_behind (fetch.Size ∷ one) two h = asks_behind one two h
asks_behind (fetch.InternalDate ∷ one) two h = asks_behind one two h
asks_behind (fetch.Rfc822 which ∷ one) two h = asks_behind one two h
asks_behind (fetch.Body peek which span ∷ one) two h = asks_behind one two h

asks_before : (one two : List FetchItem) → Asks one → Asks (one ++ two)
asks_before [] two h = absurd h
asks_before (fetch.Uid ∷ one) two h = tt
asks_before (fetch.Flags ∷ one) two h = asks_before one two h
asks_before (fetch.Size ∷ one) two h = asks_before one two h
asks_before (fetch.InternalDate ∷ one) two h = asks_before one two h
asks_before (fetch.Rfc822 which ∷ one) two h = asks_before one two h
asks_before (fetch.Body peek which span ∷ one) two h = asks_before one two h

any_asks : (list : List FetchItem) → list_any is_uid list ≡ true → Asks list
any_asks [] e = absurd (false≢true e)
any_asks (fetch.Uid ∷ list) e = tt
any_asks (fetch.Flags ∷ list) e = any_asks list e
any_asks (fetch.Size ∷ list) e = any_asks list e
any_asks (fetch.InternalDate ∷ list) e = any_asks list e
any_asks (fetch.Rfc822 which ∷ list) e = any_asks list e
any_asks (fetch.Body peek which span ∷ list) e = any_asks list e

pub answered_asks : (by_uid newly_seen : Bool) (list : List FetchItem) → (by_uid || list_any is_uid list) ≡ true → Asks (answered by_uid newly_seen list)
answered_asks by_uid newly_seen list e = by (list_any is_uid list) refl e
  where
    first : (b : Bool) → list_any is_uid list ≡ false → (b || false) ≡ true → Asks (uid_first b list)
    first true none f = rw none tt
    first false none f = absurd (false≢true f)

    by : (a : Bool) → list_any is_uid list ≡ a → (by_uid || a) ≡ true → Asks (answered by_uid newly_seen list)
    by true here f = asks_behind (uid_first by_uid list) (list ++ flags_last newly_seen list) (asks_before list (flags_last newly_seen list) (any_asks list here))
    by false none f = asks_before (uid_first by_uid list) (list ++ flags_last newly_seen list) (first by_uid none f)
