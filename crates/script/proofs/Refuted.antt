-- What the promise refuses: words of a script's own that read as a connection's or a session's, a window of a mailbox that nobody named, and texts that deliver
-- nothing exactly once.
use Rattle.std.proofs.Common.{◌≡◌, ◌≢◌, ◌⊎◌, ◌<◌, ◌≤◌, inl, inr, ℕ, List, [], ◌∷◌, length, AllPairs, ap, append-nil, arith, le_refl, refl, subst, sym, ◌∙◌, None, Some, Option}
use Rattle.std.specs.Prelude.{codes}
use Rattle.std.specs.Fmt.{digits}
use Rattle.std.proofs.Math.Seq.{take-length}
use Rattle.delivery_token.specs.declared.log.Noted.{Noted}
use Rattle.envelope.specs.Names.{number_of}
use Rattle.world.specs.World.{Box}
use Rattle.world.proofs.Always.{always}
use Rattle.world.proofs.Base.{all_of_every, rising_pair}
use Rattle.house.specs.Setup.{Setup}
use Rattle.house.specs.Scene.{Scene, empty_scene}
use Rattle.exactly_once.specs.Promise.{verdicts_of}
use Rattle.exactly_once.proofs.Going.{nobody_ok, none_twice, tells_once}
use Rattle.script.specs.Promise.{Busy, DeliveredOnce, IsPartFrom, Line, Nobody, Refusal, Why, Window, entries_of, refusal, text_of_part, word_of}
use Rattle.script.proofs.Begins.{same_first, same_rest}
use Rattle.script.proofs.Printed.{connection_greeted, is_word, line_refused, no_other_mark, one_refused, prints, two_refused}

first_byte : List ℕ → ℕ
first_byte [] = 0
first_byte (b ∷ bytes) = b

-- an L begins what a connection says, and an I what a session does
no_reply : (k : Setup) (number : ℕ) (why : Why) (rest : List ℕ) → text_of_part k (Refusal number why) ≡ 76 ∷ rest → ⊥
unfolding first_byte
no_reply k number why rest e = let x : 63 ≡ 76 = ap first_byte e in omega (arith, x)

no_line : (k : Setup) (number : ℕ) (why : Why) (rest : List ℕ) → text_of_part k (Refusal number why) ≡ 73 ∷ rest → ⊥
unfolding first_byte
no_line k number why rest e = let x : 63 ≡ 73 = ap first_byte e in omega (arith, x)

some_number : (m : ℕ) (o : Option ℕ) → o ≡ None → o ≡ Some m → ⊥
some_number m o e f = cc

-- there is no such mailbox
no_window : (k : Setup) (s : Scene) (word : List ℕ) (box : Box) → number_of k.directory word ≡ None → IsPartFrom k s (Window word box) → ⊥
no_window k s word box none is = some_number is.0 (number_of k.directory word) none is.1

-- ---- texts that deliver nothing exactly once, in any house, whatever the lines are. Above each stands what somebody would have seen.

abbrev Delivered : Setup → List ℕ → Type 0
Delivered k new = DeliveredOnce k (Some []) (Some new)

-- The second line is told twice.
told_twice : (k : Setup) → Delivered k (codes "? 2 Nobody\n? 2 Nobody\n") → ⊥
told_twice k d = let l = two_refused k d.after 2 2 Nobody Nobody _ _ (prints k _ d) d.once.in_turn in omega (arith, l)

-- The fourth line is told before the second.
told_backwards : (k : Setup) → Delivered k (codes "? 4 Line\n? 2 Nobody\n") → ⊥
told_backwards k d = let l = two_refused k d.after 4 2 Line Nobody _ _ (prints k _ d) d.once.in_turn in omega (arith, l)

-- A line is refused that stands before the first; and a fifth one, where four were played.
told_of_none : (k : Setup) → Delivered k (codes "? 0 Line\n") → ⊥
told_of_none k d = let l = (one_refused k d.after d.count 0 Line _ _ (prints k _ d) d.once.of_lines).0 in omega (arith, l)

fifth_of_four : (k : Setup) (d : Delivered k (codes "? 5 Line\n")) → d.count ≡ 4 → ⊥
fifth_of_four k d four = let l = (one_refused k d.after d.count 5 Line _ _ (prints k _ d) d.once.of_lines).1 in omega (arith, l, four)

-- It is refused for a reason that there isn't.
gone : (why : Why) → word_of why ≡ codes "Gone" → ⊥
gone Line e = let b : 76 ≡ 71 = same_first 76 71 _ _ e in omega (arith, b)
gone Nobody e = let b : 78 ≡ 71 = same_first 78 71 _ _ e in omega (arith, b)
gone Busy e = let b : 66 ≡ 71 = same_first 66 71 _ _ e in omega (arith, b)

told_as_gone : (k : Setup) → Delivered k (codes "? 2 Gone\n") → ⊥
told_as_gone k d =
    let r = line_refused k d.after 2 (codes "Gone") _ _ (omega arith, (omega arith, (omega arith, (omega arith, tt)))) (prints k _ d) in gone r.why r.is

-- Nothing says whose reply it is.
no_mark : (b : ℕ) → b ≡ 50 → (b ≡ 76) ⊎ ((b ≡ 73) ⊎ ((b ≡ 63) ⊎ (b ≡ 84))) → ⊥
no_mark b is (inl e) = omega (arith, is, e)
no_mark b is (inr (inl e)) = omega (arith, is, e)
no_mark b is (inr (inr (inl e))) = omega (arith, is, e)
no_mark b is (inr (inr (inr e))) = omega (arith, is, e)

reply_of_nobody : (k : Setup) → Delivered k (codes "250 2.1.5 Delivered\n") → ⊥
reply_of_nobody k d = no_mark 50 refl (no_other_mark k d.after _ 50 _ (prints k _ d))

-- A connection that never came is told that its message is delivered: at once, and behind a line that is refused.
no_greeting : (rest more : List ℕ) → 50 ∷ 53 ∷ rest ≡ 50 ∷ 50 ∷ 48 ∷ 32 ∷ more → ⊥
no_greeting rest more e = let b : 53 ≡ 50 = same_first 53 50 _ _ (same_rest 50 50 _ _ e) in omega (arith, b)

verdict_at_once : (k : Setup) → Delivered k (codes "L1 250 2.1.5 Delivered\n") → ⊥
verdict_at_once k d = let g = connection_greeted k d.after 1 _ _ (prints k _ d) in no_greeting _ g.2 g.3

verdict_behind : (k : Setup) → Delivered k (codes "? 2 Nobody\nL1 250 2.1.5 Delivered\n") → ⊥
verdict_behind k d =
    let r = line_refused k d.after 2 (word_of Nobody) _ _ (is_word Nobody) (prints k _ d) in
    let g = connection_greeted k d.after 1 _ _ r.behind in no_greeting _ g.2 g.3

-- What stood there before is gone.
kept_no_more : (k : Setup) → DeliveredOnce k (Some (codes "kept\n")) (Some (codes "? 2 Nobody\n")) → ⊥
kept_no_more k d = let b : 63 ≡ 107 = same_first 63 107 _ _ d.out in omega (arith, b)

-- One copy is told twice.
copy_told_twice : (k : Setup) (new : List ℕ) (d : Delivered k new) (p : ℕ) (a b : Noted) → a.key ≡ b.key → verdicts_of p (entries_of d.once.parts) ≡ a ∷ b ∷ [] → ⊥
copy_told_twice k new d p a b same is =
    let once = (none_twice d.after.world (entries_of d.once.parts) d.once.told).at_a_seat p in
    let apart : AllPairs (λ (x : Noted) (y : Noted). x.key ≢ y.key) (a ∷ b ∷ []) = subst (AllPairs (λ (x : Noted) (y : Noted). x.key ≢ y.key)) is once in
    apart 0 1 a (omega arith) (omega arith) same

-- ---- and what it lets through: which lines there are it doesn't say. Line 9 may be refused, whatever the script.

so_printed : refusal 9 (word_of Busy) ≡ codes "? 9 Busy\n"
unfolding digits
so_printed = refl

any_refusal : (k : Setup) → Delivered k (codes "? 9 Busy\n")
any_refusal k =
    let text = refusal 9 (word_of Busy) in
    let h = always k.config [] (empty_scene k).world refl in
    record {
      count = 9;
      after = empty_scene k;
      printed = text;
      once = record {
        parts = Refusal 9 Busy ∷ [];
        leads = (tt, refl);
        whole = sym (append-nil text);
        in_turn = rising_pair (λ a b. a < b) (9 ∷ []) (tt, tt);
        of_lines = all_of_every (λ n. (0 < n) × (n ≤ 9)) (9 ∷ []) ((omega arith, omega arith), tt);
        steps = [];
        came = refl;
        world = h;
        told = tells_once k (empty_scene k) [] h (nobody_ok k);
      };
      sent = length text;
      within = le_refl (length text);
      out = sym (take-length text ∙ so_printed);
    }
