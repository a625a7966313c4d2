-- A lane with more room than producers, each message of which brought it one copy, is never full.
use Rattle.std.proofs.Common.{◌≡◌, ◌≢◌, ◌<◌, ◌++◌, ◌∷◌, ◌∙◌, ◌⊎◌, ℕ, true, false, eqb, List, [], length, map, ap, inl, inr, arith, append_assoc, sym, subst, All}
use Rattle.std.specs.List.{AllByRecursion, IsDistinct, list_any}
use Rattle.std.proofs.lemmas.Bool.Decides.{eqb_tells}
use Rattle.std.proofs.lemmas.List.{length-map}
use Rattle.std.proofs.lemmas.List.Elements.{All-cons, All-head, All-nil, All-tail}
use Rattle.std.proofs.lemmas.Map.Steps.{length-le_from_distinct_below}
use Rattle.delivery_token.specs.declared.CopyKey.{CopyKey}
use Rattle.delivery_token.specs.declared.Job.{Job}
use Rattle.running_house.specs.Refusals.{AreTogether, HadNoRoom, MayWaitTogether}
use Rattle.shard_queue.specs.declared.lane.Entry.{Entry}
use Rattle.shard_queue.specs.Lane.{producer}

-- any two of these entries that one producer put are copies of different messages, or one is its end
abbrev pub AreSingles : List (Entry Job) → Type 0
AreSingles [] = Unit {0}
AreSingles (entry ∷ entries) = All (λ other. MayWaitTogether entry other → producer entry ≢ producer other) entries × AreSingles entries

all_front : (P : Entry Job → Type 0) (xs ys : List (Entry Job)) → All P (xs ++ ys) → All P xs
all_front P [] ys so = All-nil P
all_front P (x ∷ xs) ys so = All-cons P x xs (All-head P x (xs ++ ys) so) (all_front P xs ys (All-tail P x (xs ++ ys) so))

all_behind : (P : Entry Job → Type 0) (xs ys : List (Entry Job)) → All P (xs ++ ys) → All P ys
all_behind P [] ys so = so
all_behind P (x ∷ xs) ys so = all_behind P xs ys (All-tail P x (xs ++ ys) so)

singles_front : (entries rest : List (Entry Job)) → AreSingles (entries ++ rest) → AreSingles entries
singles_front [] rest so = tt
singles_front (x ∷ entries) rest so = (all_front (λ other. MayWaitTogether x other → producer x ≢ producer other) entries rest so.0, singles_front entries rest so.1)

singles_behind : (front entries : List (Entry Job)) → AreSingles (front ++ entries) → AreSingles entries
singles_behind [] entries so = so
singles_behind (x ∷ front) entries so = singles_behind front entries so.1

differ : (p q : ℕ) → p ≢ q → eqb p q ≡ false
differ p q other = go (eqb_tells p q) where
  go : ((eqb p q ≡ true) × (p ≡ q)) ⊎ ((eqb p q ≡ false) × (p ≢ q)) → eqb p q ≡ false
  go (inl (told, same)) = absurd (other same)
  go (inr (told, differs)) = told

apart : (entry : Entry Job) (entries : List (Entry Job)) → All (MayWaitTogether entry) entries → All (λ other. MayWaitTogether entry other → producer entry ≢ producer other) entries
    → AllByRecursion (λ p. eqb (producer entry) p ≡ false) (map producer entries)
apart entry [] together singles = tt
apart entry (x ∷ entries) together singles =
    let other = All-head (λ other. MayWaitTogether entry other → producer entry ≢ producer other) x entries singles (All-head (MayWaitTogether entry) x entries together) in (
      differ (producer entry) (producer x) other,
      apart entry entries (All-tail (MayWaitTogether entry) x entries together) (All-tail (λ other. MayWaitTogether entry other → producer entry ≢ producer other) x entries singles),
    )

distinct : (entries : List (Entry Job)) → AreTogether entries → AreSingles entries → IsDistinct eqb (map producer entries)
unfolding IsDistinct
distinct [] together singles = tt
distinct (x ∷ entries) together singles = (apart x entries together.0 singles.0, distinct entries together.1 singles.1)

below : (producers : ℕ) (entries : List (Entry Job)) → All (λ entry. producer entry < producers) entries → (q : ℕ) → list_any (eqb q) (map producer entries) ≡ true → q < producers
below producers [] all q found = absurd (cc)
below producers (x ∷ entries) all q found =
    go (below producers entries (All-tail (λ entry. producer entry < producers) x entries all) q) (eqb_tells q (producer x)) where
      go : (list_any (eqb q) (map producer entries) ≡ true → q < producers) → ((eqb q (producer x) ≡ true) × (q ≡ producer x)) ⊎ ((eqb q (producer x) ≡ false) × (q ≢ producer x)) → q < producers
      go rest (inl (told, same)) = subst (λ (p : ℕ). p < producers) (sym same) (All-head (λ entry. producer entry < producers) x entries all)
      go rest (inr (told, other)) = rest (rw told at found)

pub never_full_of_singles : (depth producers : ℕ) (key : CopyKey) (taken : List (Entry Job)) → producers < depth → All (λ entry. producer entry < producers) taken → AreSingles taken
    → HadNoRoom depth key taken → ⊥
never_full_of_singles depth producers key taken few known singles had =
    let filled = had.filled in
    let many = filled.many in
    let rest = filled.meanwhile ++ had.later in
    let split : taken ≡ (filled.gone ++ filled.waiting) ++ rest =
    had.split ∙ ap (λ (l : List (Entry Job)). l ++ had.later) filled.split ∙ append_assoc (filled.gone ++ filled.waiting) filled.meanwhile had.later in
    let one : AreSingles filled.waiting = singles_behind filled.gone filled.waiting (singles_front (filled.gone ++ filled.waiting) rest (subst AreSingles split singles)) in
    let here : All (λ entry. producer entry < producers) filled.waiting =
    all_behind (λ entry. producer entry < producers) filled.gone filled.waiting
    (all_front (λ entry. producer entry < producers) (filled.gone ++ filled.waiting) rest (subst (λ (l : List (Entry Job)). All (λ entry. producer entry < producers) l) split known)) in
    let most = length-le_from_distinct_below (map producer filled.waiting) producers (distinct filled.waiting filled.together one) (below producers filled.waiting here) in
    let same : length (map producer filled.waiting) ≡ length filled.waiting = length-map filled.waiting producer in
    absurd (omega (arith, few, many, most, same))
