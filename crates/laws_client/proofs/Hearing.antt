-- Flags that are told are heard.
use Rattle.std.proofs.Common.{◌≡◌, ℕ, ◌+◌, ◌^◌, ◌<◌, Bool, true, false, List, [], ◌∷◌, ◌++◌, length, map, refl, sym, subst, ap, ◌∙◌, arith, append_assoc, append-nil}
use Rattle.std.specs.Prelude.{Some, codes, ◌||◌}
use Rattle.std.specs.List.{list_any}
use Rattle.std.proofs.lemmas.Bool.{false≢true}
use Rattle.change_ring.specs.declared.change.Change.{Change}
use Rattle.change_ring.specs.Log.{IsLegalLog, added}
use Rattle.change_ring.specs.View.{position}
use Rattle.change_ring.specs.Words.{flag_words, spaced}
use Rattle.mailbox.specs.declared.clients.Row.{Row}
use Rattle.imap_answers.specs.Answers.{answered, fetch_answer, flags_last, is_flags, item_text, row_answer, uid_first}
use Rattle.imap_grammar.specs.declared.items.FetchItem.{FetchItem}
use Rattle.imap_grammar.specs.declared.items.FetchItem.TheVariants as fetch
use Rattle.laws_client.specs.Clients.{Each}
use Rattle.laws_client.specs.Client.{Known, items, knowing, unopened}
use Rattle.laws_client.specs.Fetches.{AreToldParts, IsToldPart}
use Rattle.laws_client.proofs.Reading.{into_first, with_flags, words}
use Rattle.laws_client.proofs.Chosen.{small_in}
use Rattle.laws_client.proofs.Each.{IsIn, is_in}
use Rattle.laws_client.proofs.Fetched.{answer_read, answered_told, row_of, store_items, store_shape, store_told}
use Rattle.laws_client.proofs.Follows.{position_most}
use Rattle.laws_client.proofs.Items.{item_closed, flag_list, flag_list_other, words_append}
use Rattle.laws_client.proofs.Kept.{IsSmall, item_kept}
use Rattle.laws_client.proofs.LinesRead.{reads_fetch, told_of}
use Rattle.std.proofs.lemmas.List.{take-append-drop}
use Rattle.std.specs.List.Sorted.{IsStrictlyIncreasing}
use Rattle.std.specs.Prelude.{take, drop}
use Rattle.laws_client.specs.Flags.{Point, counted}
use Rattle.laws_client.specs.FlagLaws.{ChangeIsHeard, FetchIsHeard, HearsFlags, StoreIsHeard}
use Rattle.laws_client.proofs.Distinct.{Distinct, front_distinct}
use Rattle.laws_client.proofs.Following.{told_here}
use Rattle.laws_client.proofs.Telling.{Allows, Keeps, item_keeps, items_keep, list_named, others_keep}

-- ---- words

-- the row's flags are known
abbrev Heard : Row → Known → Type 0
Heard row m = m.flags ≡ Some (flag_words row.flags)

heard_allows : (row : Row) → Allows (Heard row) row
heard_allows row = record { uid = λ m e. e; flags = λ m e. refl }

abbrev Any : Known → Type 0
Any m = Unit {0}

any_allows : (row : Row) → Allows Any row
any_allows row = record { uid = λ m e. tt; flags = λ m e. tt }

-- words that tell them, whatever was known
abbrev Learns : Row → List (List ℕ) → Type 0
Learns row ws = (rest : List (List ℕ)) → ((m : Known) → Heard row m → Heard row (items rest m)) → (m : Known) → Heard row (items (ws ++ rest) m)

flags_learn : (row : Row) (last : Bool) → Learns row (codes "FLAGS" ∷ words (flag_list row.flags last))
flags_learn row last rest behind m =
    let ws : List (List ℕ) = words (flag_list row.flags last) in
    subst (λ (names : List (List ℕ)). Heard row (items (ws ++ rest) (with_flags names m))) (sym (list_named row.flags last rest))
    (others_keep (Heard row) (Heard row) ws (flag_list_other row.flags last) rest behind (with_flags (flag_words row.flags) m) refl)

learn_first : (row : Row) (one two : List (List ℕ)) → Learns row one → Keeps (Heard row) (Heard row) two → Learns row (one ++ two)
learn_first row one two h k rest behind m = subst (λ (ws : List (List ℕ)). Heard row (items ws m)) (sym (append_assoc one two rest)) (h (two ++ rest) (k rest behind) m)

learn_later : (row : Row) (one two : List (List ℕ)) → Keeps Any (Heard row) one → Learns row two → Learns row (one ++ two)
learn_later row one two h k rest behind m = subst (λ (ws : List (List ℕ)). Heard row (items ws m)) (sym (append_assoc one two rest)) (h (two ++ rest) (λ n any. k rest behind n) m tt)

-- FLAGS is one of the items
abbrev Asks : List FetchItem → Type 0
Asks [] = ⊥
Asks (fetch.Flags ∷ list) = Unit {0}
Asks (fetch.Uid ∷ list) = Asks list
Asks (fetch.Size ∷ list) = Asks list
Asks (fetch.InternalDate ∷ list) = Asks list
Asks (fetch.Rfc822 which ∷ list) = Asks list
Asks (fetch.Body peek which span ∷ list) = Asks list

-- the words of the items, cut behind the first
cut_first : (row : Row) (item other : FetchItem) (list : List FetchItem) → IsSmall row → IsToldPart item
    → words (item_kept row item) ++ words (spaced (map (item_kept row) (other ∷ list)) ++ 41 ∷ []) ≡ words (spaced (map (item_kept row) (item ∷ other ∷ list)) ++ 41 ∷ [])
cut_first row item other list small told =
    sym (ap words (append_assoc (item_kept row item) (32 ∷ spaced (map (item_kept row) (other ∷ list))) (41 ∷ [])) ∙ words_append (item_kept row item) (spaced (map (item_kept row) (other ∷ list)) ++ 41 ∷ []) (item_closed row item small told))

pass_first : (row : Row) (item other : FetchItem) (list : List FetchItem) → IsSmall row → AreToldParts (item ∷ other ∷ list)
    → Learns row (words (spaced (map (item_kept row) (other ∷ list)) ++ 41 ∷ [])) → Learns row (words (spaced (map (item_kept row) (item ∷ other ∷ list)) ++ 41 ∷ []))
pass_first row item other list small told more =
    subst (Learns row) (cut_first row item other list small told.0)
    (learn_later row (words (item_kept row item)) (words (spaced (map (item_kept row) (other ∷ list)) ++ 41 ∷ []))
    (subst (λ (t : List ℕ). Keeps Any (Heard row) (words t)) (append-nil (item_kept row item)) (item_keeps Any (Heard row) row item false (any_allows row) small told.0)) more)

items_learn : (row : Row) (list : List FetchItem) → Asks list → IsSmall row → AreToldParts list → Learns row (words (spaced (map (item_kept row) list) ++ 41 ∷ []))
items_learn row [] asks small told = absurd asks
items_learn row (fetch.Flags ∷ []) asks small told = flags_learn row true
items_learn row (fetch.Uid ∷ []) asks small told = absurd asks
items_learn row (fetch.Size ∷ []) asks small told = absurd asks
items_learn row (fetch.InternalDate ∷ []) asks small told = absurd asks
items_learn row (fetch.Rfc822 which ∷ []) asks small told = absurd asks
items_learn row (fetch.Body peek which span ∷ []) asks small told = absurd asks
items_learn row (fetch.Flags ∷ other ∷ list) asks small told =
    subst (Learns row) (cut_first row fetch.Flags other list small told.0)
    (learn_first row (words (item_kept row fetch.Flags)) (words (spaced (map (item_kept row) (other ∷ list)) ++ 41 ∷ []))
    (subst (λ (t : List ℕ). Learns row (words t)) (append-nil (item_kept row fetch.Flags)) (flags_learn row false)) (items_keep (Heard row) (Heard row) row (other ∷ list) (heard_allows row) small told.1))
items_learn row (fetch.Uid ∷ other ∷ list) asks small told = pass_first row fetch.Uid other list small told (items_learn row (other ∷ list) asks small told.1)
items_learn row (fetch.Size ∷ other ∷ list) asks small told = pass_first row fetch.Size other list small told (items_learn row (other ∷ list) asks small told.1)
items_learn row (fetch.InternalDate ∷ other ∷ list) asks small told = pass_first row fetch.InternalDate other list small told (items_learn row (other ∷ list) asks small told.1)
items_learn row (fetch.Rfc822 which ∷ other ∷ list) asks small told = pass_first row (fetch.Rfc822 which) other list small told (items_learn row (other ∷ list) asks small told.1)
items_learn row (fetch.Body peek which span ∷ other ∷ list) asks small told = pass_first row (fetch.Body peek which span) other list small told (items_learn row (other ∷ list) asks small told.1)

opened_learn : (row : Row) (ws : List (List ℕ)) → Learns row ws → (m : Known) → Heard row (items (unopened (into_first 40 ws)) m)
opened_learn row [] h m = h [] (λ k same. same) m
opened_learn row (w ∷ ws) h m = subst (λ (list : List (List ℕ)). Heard row (items list m)) (append-nil (w ∷ ws)) (h [] (λ k same. same) m)

-- ---- answers

each_any : (view : List ℕ) (list : List Known) → length list ≡ length view → Each (λ (u : ℕ) (m : Known). Unit {0}) view list
each_any [] [] e = tt
each_any [] (m ∷ ms) e = absurd (omega (arith, e))
each_any (u ∷ us) [] e = absurd (omega (arith, e))
each_any (u ∷ us) (m ∷ ms) e = (tt, each_any us ms (omega (arith, e)))

distinct_at : (p : Point) → IsLegalLog p.log → Distinct (counted p)
distinct_at p legal =
    front_distinct (take p.cursor p.log) (drop p.cursor p.log) (subst (λ (l : List Change). IsStrictlyIncreasing (added l)) (sym (take-append-drop p.cursor p.log)) legal.rising)

answer_heard : (view : List ℕ) (row : Row) (list : List FetchItem) → Distinct view → IsIn row.uid view → length view + 1 < 2 ^ 64 → IsSmall row → AreToldParts list → Asks list
    → HearsFlags view row.uid (flag_words row.flags) (fetch_answer (position row.uid view) (map (item_text row) list))
answer_heard view row list d there few small parts asks known long =
    let ws : List (List ℕ) = words (spaced (map (item_kept row) list) ++ 41 ∷ []) in
    let t = told_here (λ (u : ℕ) (m : Known). Unit {0}) (λ (u : ℕ) (m : Known). u ≡ row.uid → Heard row m) row.uid (λ m. items (unopened (into_first 40 ws)) m)
    (λ m any same. opened_learn row ws (items_learn row list asks small parts) m) (λ u m apart any same. absurd (apart same)) view known d there (each_any view known long) in record {
      after = t.now;
      reads = answer_read (Some known) (position row.uid view) row list (omega (arith, few, position_most row.uid view)) small parts ∙ ap knowing t.is;
      each = t.each;
    }

-- ---- FETCH asks for flags, or tells them

asks_behind : (one two : List FetchItem) → Asks two → Asks (one ++ two)
asks_behind [] two h = h
asks_behind (fetch.Flags ∷ one) two h = tt
asks_behind (fetch.Uid ∷ one) two h = asks_behind one two h
asks_behind (fetch.Size ∷ one) two h = asks_behind one two h
asks_behind (fetch.InternalDate ∷ one) two h = asks_behind one two h
asks_behind (fetch.Rfc822 which ∷ one) two h = asks_behind one two h
asks_behind (fetch.Body peek which span ∷ one) two h = asks_behind one two h

asks_before : (one two : List FetchItem) → Asks one → Asks (one ++ two)
asks_before [] two h = absurd h
asks_before (fetch.Flags ∷ one) two h = tt
asks_before (fetch.Uid ∷ one) two h = asks_before one two h
asks_before (fetch.Size ∷ one) two h = asks_before one two h
asks_before (fetch.InternalDate ∷ one) two h = asks_before one two h
asks_before (fetch.Rfc822 which ∷ one) two h = asks_before one two h
asks_before (fetch.Body peek which span ∷ one) two h = asks_before one two h

any_asks : (list : List FetchItem) → list_any is_flags list ≡ true → Asks list
any_asks [] e = absurd (false≢true e)
any_asks (fetch.Flags ∷ list) e = tt
any_asks (fetch.Uid ∷ list) e = any_asks list e
any_asks (fetch.Size ∷ list) e = any_asks list e
any_asks (fetch.InternalDate ∷ list) e = any_asks list e
any_asks (fetch.Rfc822 which ∷ list) e = any_asks list e
any_asks (fetch.Body peek which span ∷ list) e = any_asks list e

list_asks : (newly_seen : Bool) (list : List FetchItem) → (list_any is_flags list || newly_seen) ≡ true → Asks (list ++ flags_last newly_seen list)
list_asks newly_seen list e = by (list_any is_flags list) refl e
  where
    last : (b : Bool) → list_any is_flags list ≡ false → (false || b) ≡ true → Asks (flags_last b list)
    last true none f = rw none tt
    last false none f = absurd (false≢true f)

    by : (a : Bool) → list_any is_flags list ≡ a → (a || newly_seen) ≡ true → Asks (list ++ flags_last newly_seen list)
    by true here f = asks_before list (flags_last newly_seen list) (any_asks list here)
    by false none f = asks_behind list (flags_last newly_seen list) (last newly_seen none f)

answered_asks : (by_uid newly_seen : Bool) (list : List FetchItem) → (list_any is_flags list || newly_seen) ≡ true → Asks (answered by_uid newly_seen list)
answered_asks by_uid newly_seen list e = asks_behind (uid_first by_uid list) (list ++ flags_last newly_seen list) (list_asks newly_seen list e)

pub fetch_is_heard : FetchIsHeard
fetch_is_heard p uid by_uid list row legal there numbered is parts asks =
    let view : List ℕ = counted p in
    let i : IsIn uid view = is_in uid view there in
    let small : IsSmall row = record { uid = subst (λ (u : ℕ). u < 2 ^ 64) (sym is.0) (small_in uid view numbered.small i); text = is.1 } in
    subst (λ (u : ℕ). HearsFlags view u (flag_words row.flags) (row_answer (position u view) by_uid list row)) is.0
    (answer_heard view row (answered by_uid row.newly_seen list) (distinct_at p legal) (subst (λ (u : ℕ). IsIn u view) (sym is.0) i) numbered.few small
    (answered_told by_uid row.newly_seen list parts) (answered_asks by_uid row.newly_seen list asks))

-- ---- STORE, and changes

store_asks : (by_uid : Bool) → Asks (store_items by_uid)
store_asks true = tt
store_asks false = tt

pub store_is_heard : StoreIsHeard
store_is_heard p uid by_uid flags legal there numbered =
    let view : List ℕ = counted p in
    let i : IsIn uid view = is_in uid view there in
    subst (λ (t : List ℕ). HearsFlags view uid (flag_words flags) t) (store_shape by_uid (position uid view) uid flags)
    (answer_heard view (row_of uid flags) (store_items by_uid) (distinct_at p legal) i numbered.few (record { uid = small_in uid view numbered.small i; text = omega arith }) (store_told by_uid) (store_asks by_uid))

pub change_is_heard : ChangeIsHeard
change_is_heard p uid flags legal there numbered known long =
    let view : List ℕ = counted p in
    let i : IsIn uid view = is_in uid view there in
    let t = told_here (λ (u : ℕ) (m : Known). Unit {0}) (λ (u : ℕ) (m : Known). u ≡ uid → m.flags ≡ Some (flag_words flags)) uid (λ m. told_of uid flags m)
    (λ m any same. refl) (λ u m apart any same. absurd (apart same)) view known (distinct_at p legal) i (each_any view known long) in record {
      after = t.now;
      reads = reads_fetch (Some known) (position uid view) uid flags (omega (arith, numbered.few, position_most uid view)) (small_in uid view numbered.small i) ∙ ap knowing t.is;
      each = t.each;
    }
