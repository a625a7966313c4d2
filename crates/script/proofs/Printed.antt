-- What a text tells that was printed where nobody had been told anything: who says it, which line is refused, or whose window is shown.
use Rattle.std.proofs.Common.{◌≡◌, ◌⊎◌, inl, inr, ℕ, ◌+◌, ◌<◌, ◌≤◌, List, [], ◌∷◌, ◌++◌, refl, sym, ap, subst, ◌∙◌, append_assoc, take-append-drop, arith, Some, AllPairs, All}
use Rattle.std.specs.Prelude.{decimal, drop, flat_map}
use Rattle.std.proofs.lemmas.List.Elements.{All-head}
use Rattle.world.specs.World.{Box}
use Rattle.house.specs.Setup.{Setup}
use Rattle.house.specs.Scene.{Scene, empty_scene}
use Rattle.house.specs.Window.{window_text}
use Rattle.exactly_once.specs.Promise.{Entry, IsEntry, text_of}
use Rattle.script.specs.Promise.{AreParts, DeliveredOnce, IsPartFrom, Line, Nobody, Busy, OfHouse, Part, Refusal, Why, Window, refusal, refusals_of, text_of_part, word_of}
use Rattle.script.proofs.Begins.{IsWord, cut_at, decimal_digits, none_of, one_digit, piece_begins, refusal_begins, same_first, same_rest, window_begins}
use Rattle.script.proofs.Greeted.{NobodyHeard, entry_keeps, greeted_first, nobody_at_first}

pub is_word : (why : Why) → IsWord (word_of why)
is_word Line = (omega arith, (omega arith, (omega arith, (omega arith, tt))))
is_word Nobody = (omega arith, (omega arith, (omega arith, (omega arith, (omega arith, (omega arith, tt))))))
is_word Busy = (omega arith, (omega arith, (omega arith, (omega arith, tt))))

module _ (k : Setup) (t : Scene) where
  -- From a scene in which nobody was told anything these lines are refused, and this is printed.
  pub record Prints (refusals text : List ℕ) : Type 0 where
    pub before : Scene
    pub parts : List Part
    pub unheard : NobodyHeard k before
    pub leads : AreParts k parts before t
    pub numbers : refusals ≡ refusals_of parts
    pub is : flat_map (text_of_part k) parts ≡ text

  -- what is printed first: a connection or a session says it, a line is refused, or a window is shown
  data First (refusals text : List ℕ) : Type 0 where
    says : (s : Scene) (entry : Entry) → NobodyHeard k s → IsEntry k s entry → (b : ℕ) (more : List ℕ) → text_of k entry.piece ≡ b ∷ more → (rest : List ℕ)
        → text ≡ b ∷ (more ++ rest) → First refusals text
    refuses : (number : ℕ) (why : Why) (others rest : List ℕ) → refusals ≡ number ∷ others → Prints others rest → text ≡ refusal number (word_of why) ++ rest
        → First refusals text
    shows : (s : Scene) (word : List ℕ) (box : Box) → IsPartFrom k s (Window word box) → (rest : List ℕ) → text ≡ window_text word box ++ rest → First refusals text

  first_of : (parts : List Part) (s : Scene) (b : ℕ) (rest : List ℕ) → NobodyHeard k s → AreParts k parts s t → flat_map (text_of_part k) parts ≡ b ∷ rest
      → First (refusals_of parts) (b ∷ rest)
  first_of [] s b rest h leads e = absurd cc
  first_of (OfHouse entry ∷ parts) s b rest h leads e =
      by (text_of k entry.piece) refl
      (λ silent. first_of parts entry.after b rest (entry_keeps k s entry leads.0 silent h) leads.1 (ap (λ (x : List ℕ). x ++ flat_map (text_of_part k) parts) (sym silent) ∙ e))
    where
      by : (text : List ℕ) → text_of k entry.piece ≡ text → (text_of k entry.piece ≡ [] → First (refusals_of parts) (b ∷ rest)) → First (refusals_of parts) (b ∷ rest)
      by [] is later = later is
      by (x ∷ more) is later =
          let others = flat_map (text_of_part k) parts in
          says s entry h leads.0 x more is others (sym e ∙ ap (λ (x : List ℕ). x ++ others) is)
  first_of (Refusal number why ∷ parts) s b rest h leads e =
      refuses number why (refusals_of parts) (flat_map (text_of_part k) parts) refl
      (record { before = s; parts = parts; unheard = h; leads = leads.1; numbers = refl; is = refl }) (sym e)
  first_of (Window word box ∷ parts) s b rest h leads e = shows s word box leads.0 (flat_map (text_of_part k) parts) (sym e)

  first_printed : (refusals : List ℕ) (b : ℕ) (rest : List ℕ) → Prints refusals (b ∷ rest) → First refusals (b ∷ rest)
  first_printed refusals b rest p =
      subst (λ (ns : List ℕ). First ns (b ∷ rest)) (sym p.numbers) (first_of p.parts p.before b rest p.unheard p.leads p.is)

  -- by its first byte it is of a connection, of a session, a refusal or a window
  abbrev IsMark : ℕ → Type 0
  IsMark b = (b ≡ 76) ⊎ ((b ≡ 73) ⊎ ((b ≡ 63) ⊎ (b ≡ 84)))

  of_house : (b x : ℕ) → (x ≡ 76) ⊎ (x ≡ 73) → b ≡ x → (b ≡ 76) ⊎ (b ≡ 73)
  of_house b x (inl l) e = inl (e ∙ l)
  of_house b x (inr i) e = inr (e ∙ i)

  refusal_first : (number : ℕ) (why : Why) (rest : List ℕ) (b : ℕ) (more : List ℕ) → b ∷ more ≡ refusal number (word_of why) ++ rest → b ≡ 63
  refusal_first number why rest b more e = same_first b 63 _ _ (e ∙ refusal_begins number (word_of why) rest)

  window_first : (word : List ℕ) (box : Box) (rest : List ℕ) (b : ℕ) (more : List ℕ) → b ∷ more ≡ window_text word box ++ rest → b ≡ 84
  window_first word box rest b more e = same_first b 84 _ _ (e ∙ (window_begins word box rest).1)

  -- nothing else is printed
  pub no_other_mark : (refusals : List ℕ) (b : ℕ) (rest : List ℕ) → Prints refusals (b ∷ rest) → IsMark b
  no_other_mark refusals b rest p = by (first_printed refusals b rest p)
    where
      house_marks : (b ≡ 76) ⊎ (b ≡ 73) → IsMark b
      house_marks (inl l) = inl l
      house_marks (inr i) = inr (inl i)

      by : First refusals (b ∷ rest) → IsMark b
      by (says s entry h is x more said others whole) = house_marks (of_house b x (piece_begins k entry.piece x more said) (same_first b x _ _ whole))
      by (refuses number why others behind numbers after whole) = inr (inr (inl (refusal_first number why behind b rest whole)))
      by (shows s word box is behind whole) = inr (inr (inr (window_first word box behind b rest whole)))

  not_of_house : (b : ℕ) → (b ≡ 76 → ⊥) → (b ≡ 73 → ⊥) → (b ≡ 76) ⊎ (b ≡ 73) → ⊥
  not_of_house b l i (inl e) = l e
  not_of_house b l i (inr e) = i e

  -- This line is refused for this reason, and the rest is printed behind that.
  pub record Refuses (d : ℕ) (word refusals rest : List ℕ) : Type 0 where
    pub why : Why
    pub is : word_of why ≡ word
    pub others : List ℕ
    pub numbers : refusals ≡ d ∷ others
    pub behind : Prints others rest

  pub line_refused : (d : ℕ) (word refusals behind : List ℕ) → IsWord word → Prints refusals (63 ∷ 32 ∷ (48 + d) ∷ 32 ∷ (word ++ 10 ∷ behind)) → Refuses d word refusals behind
  line_refused d word refusals behind w p = by (first_printed refusals 63 _ p)
    where
      by : First refusals (63 ∷ 32 ∷ (48 + d) ∷ 32 ∷ (word ++ 10 ∷ behind)) → Refuses d word refusals behind
      by (says s entry h is x more said others whole) =
          absurd (not_of_house 63 (λ e. omega (arith, e)) (λ e. omega (arith, e)) (of_house 63 x (piece_begins k entry.piece x more said) (same_first 63 x _ _ whole)))
      by (refuses number why others rest numbers after whole) =
          let told : decimal number ++ 32 ∷ (word_of why ++ 10 ∷ rest) ≡ (48 + d) ∷ 32 ∷ (word ++ 10 ∷ behind)
          = sym (same_rest 32 32 _ _ (same_rest 63 63 _ _ (whole ∙ refusal_begins number (word_of why) rest))) in
          let number_is = cut_at 32 (decimal number) ((48 + d) ∷ []) (word_of why ++ 10 ∷ rest) (word ++ 10 ∷ behind) (none_of 32 (decimal number) (omega arith) (decimal_digits number))
          ((λ e. omega (arith, e)), tt) told in
          let word_is = cut_at 10 (word_of why) word rest behind (none_of 10 (word_of why) (omega arith) (is_word why)) (none_of 10 word (omega arith) w) number_is.1 in
          record {
            why = why;
            is = word_is.0;
            others = others;
            numbers = numbers ∙ ap (λ (n : ℕ). n ∷ others) (one_digit number d number_is.0);
            behind = subst (λ (x : List ℕ). Prints others x) word_is.1 after;
          }
      by (shows s shown box is rest whole) = absurd (let e : 63 ≡ 84 = window_first shown box rest 63 _ whole in omega (arith, e))

  -- Lines are refused in their order, and no others than there are.
  pub two_refused : (a b : ℕ) (v w : Why) (refusals behind : List ℕ)
      → Prints refusals (63 ∷ 32 ∷ (48 + a) ∷ 32 ∷ (word_of v ++ 10 ∷ 63 ∷ 32 ∷ (48 + b) ∷ 32 ∷ (word_of w ++ 10 ∷ behind))) → AllPairs (λ x y. x < y) refusals → a < b
  two_refused a b v w refusals behind p rising =
      let one = line_refused a (word_of v) refusals (63 ∷ 32 ∷ (48 + b) ∷ 32 ∷ (word_of w ++ 10 ∷ behind)) (is_word v) p in
      let two = line_refused b (word_of w) one.others behind (is_word w) one.behind in
      let numbers : refusals ≡ a ∷ b ∷ two.others = one.numbers ∙ ap (λ (x : List ℕ). a ∷ x) two.numbers in
      let pairs : AllPairs (λ (x : ℕ) (y : ℕ). x < y) (a ∷ b ∷ two.others) = subst (AllPairs (λ (x : ℕ) (y : ℕ). x < y)) numbers rising in
      pairs 0 1 0 (omega arith) (omega arith)

  pub one_refused : (count d : ℕ) (why : Why) (refusals behind : List ℕ) → Prints refusals (63 ∷ 32 ∷ (48 + d) ∷ 32 ∷ (word_of why ++ 10 ∷ behind))
      → All (λ number. (0 < number) × (number ≤ count)) refusals → (0 < d) × (d ≤ count)
  one_refused count d why refusals behind p of_lines =
      let one = line_refused d (word_of why) refusals behind (is_word why) p in
      All-head (λ (number : ℕ). (0 < number) × (number ≤ count)) d one.others (subst (All (λ (number : ℕ). (0 < number) × (number ≤ count))) one.numbers of_lines)

  -- A window is of a mailbox that its word names, as it is there.
  pub record Shows (behind : List ℕ) : Type 0 where
    pub scene : Scene
    pub word : List ℕ
    pub box : Box
    pub is : IsPartFrom k scene (Window word box)
    pub rest : List ℕ
    pub begins : word ++ 32 ∷ rest ≡ behind

  pub window_shown : (refusals behind : List ℕ) → Prints refusals (84 ∷ 32 ∷ behind) → Shows behind
  window_shown refusals behind p = by (first_printed refusals 84 _ p)
    where
      by : First refusals (84 ∷ 32 ∷ behind) → Shows behind
      by (says s entry h is x more said others whole) =
          absurd (not_of_house 84 (λ e. omega (arith, e)) (λ e. omega (arith, e)) (of_house 84 x (piece_begins k entry.piece x more said) (same_first 84 x _ _ whole)))
      by (refuses number why others rest numbers after whole) = absurd (let e : 84 ≡ 63 = refusal_first number why rest 84 _ whole in omega (arith, e))
      by (shows s word box is rest whole) =
          let w = window_begins word box rest in
          record { scene = s; word = word; box = box; is = is; rest = w.0; begins = sym (same_rest 32 32 _ _ (same_rest 84 84 _ _ (whole ∙ w.1))) }

  -- A connection that says something is one that the house has, and was greeted.
  pub connection_greeted : (n : ℕ) (refusals behind : List ℕ) → Prints refusals (76 ∷ (48 + n) ∷ 32 ∷ behind)
      → (0 < n) × (n ≤ k.connections) × (rest : List ℕ) × (behind ≡ 50 ∷ 50 ∷ 48 ∷ 32 ∷ rest)
  connection_greeted n refusals behind p = by (first_printed refusals 76 _ p)
    where
      by : First refusals (76 ∷ (48 + n) ∷ 32 ∷ behind) → (0 < n) × (n ≤ k.connections) × (rest : List ℕ) × (behind ≡ 50 ∷ 50 ∷ 48 ∷ 32 ∷ rest)
      by (says s entry h is x more said others whole) =
          let mark : x ≡ 76 = sym (same_first 76 x _ _ whole) in
          let w = greeted_first k s entry.after entry.event entry.piece more h is.plays is.own (said ∙ ap (λ (b : ℕ). b ∷ more) mark) in
          let number = decimal (w.0 + 1) in
          let told : (48 + n) ∷ 32 ∷ behind ≡ number ++ 32 ∷ 50 ∷ 50 ∷ 48 ∷ 32 ∷ (w.2.0 ++ others)
          = same_rest 76 x _ _ whole ∙ ap (λ (l : List ℕ). l ++ others) (same_rest 76 76 _ _ w.2.1) ∙ append_assoc number (32 ∷ 50 ∷ 50 ∷ 48 ∷ 32 ∷ w.2.0) others in
          let cut = cut_at 32 number ((48 + n) ∷ []) (50 ∷ 50 ∷ 48 ∷ 32 ∷ (w.2.0 ++ others)) behind (none_of 32 number (omega arith) (decimal_digits (w.0 + 1))) ((λ e. omega (arith, e)), tt) (sym told) in
          let place : w.0 + 1 ≡ n = one_digit (w.0 + 1) n cut.0 in
          let there = w.1 in
          (omega (arith, place), omega (arith, place, there), w.2.0 ++ others, sym cut.1)
      by (refuses number why others rest numbers after whole) = absurd (let e : 76 ≡ 63 = refusal_first number why rest 76 _ whole in omega (arith, e))
      by (shows s word box is rest whole) = absurd (let e : 76 ≡ 84 = window_first word box rest 76 _ whole in omega (arith, e))

-- ---- what was written is a beginning of that

pub prints : (k : Setup) (new : List ℕ) (d : DeliveredOnce k (Some []) (Some new)) → Prints k d.after (refusals_of d.once.parts) (new ++ drop d.sent d.printed)
prints k new d = record {
  before = empty_scene k;
  parts = d.once.parts;
  unheard = nobody_at_first k;
  leads = d.once.leads;
  numbers = refl;
  is = sym d.once.whole ∙ sym (take-append-drop d.sent d.printed) ∙ ap (λ (x : List ℕ). x ++ drop d.sent d.printed) (sym d.out);
}
