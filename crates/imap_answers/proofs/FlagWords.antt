-- The flags that are set, as they are put: five words, of which those that aren't set are empty.
use Rattle.std.proofs.Common.{◌≡◌, ℕ, ◌+◌, ◌≤◌, Bool, true, false, cond, List, [], ◌∷◌, ◌++◌, length, length-append, drop, arith, refl, ap, sym, ◌∙◌, append_assoc, append-nil}
use Rattle.std.specs.Prelude.{codes, not, ◌&&◌}
use Rattle.change_ring.specs.declared.change.Flags.{Flags}
use Rattle.change_ring.specs.Words.{flag_words, spaced}
use Rattle.imap_answers.specs.Answers.{flags_text}
use Rattle.imap_answers.specs.inner.Joined.{joined}
use Rattle.imap_answers.proofs.JoinedLaws.{spaced_joined}

abbrev word : Bool → Bool → List ℕ → List ℕ
word is_set first text = cond is_set (cond first (drop 1 text) text) []

abbrev five : Flags → List ℕ
five f =
    word f.answered true (codes " \\Answered") ++ (word f.flagged (not f.answered) (codes " \\Flagged")
    ++ (word f.deleted (not f.answered && not f.flagged) (codes " \\Deleted")
    ++ (word f.seen (not f.answered && not f.flagged && not f.deleted) (codes " \\Seen")
    ++ (word f.draft (not f.answered && not f.flagged && not f.deleted && not f.seen) (codes " \\Draft") ++ []))))

abbrev some : Bool → List ℕ → List (List ℕ)
some is_set w = cond is_set (w ∷ []) []

-- a word that may be there, before others
before_others : (first is_set : Bool) (w : List ℕ) (ws : List (List ℕ)) → word is_set first (32 ∷ w) ++ joined (first && not is_set) ws ≡ joined first (some is_set w ++ ws)
before_others true true w ws = refl
before_others false true w ws = refl
before_others true false w ws = refl
before_others false false w ws = refl

regrouped : (a b c d e : List (List ℕ)) → a ++ (b ++ (c ++ (d ++ (e ++ [])))) ≡ (((a ++ b) ++ c) ++ d) ++ e
regrouped a b c d e = simp append_assoc (ap (λ (l : List (List ℕ)). a ++ (b ++ (c ++ (d ++ l)))) (append-nil e))

pub words_in_parts : (f : Flags) → five f ≡ spaced (flag_words f)
words_in_parts f =
    let second = not f.answered in
    let third = second && not f.flagged in
    let fourth = third && not f.deleted in
    let fifth = fourth && not f.seen in
    let a = some f.answered (codes "\\Answered") in
    let b = some f.flagged (codes "\\Flagged") in
    let c = some f.deleted (codes "\\Deleted") in
    let d = some f.seen (codes "\\Seen") in
    let e = some f.draft (codes "\\Draft") in
    ap (λ (l : List ℕ). word f.answered true (codes " \\Answered") ++ l)
    (ap (λ (l : List ℕ). word f.flagged second (codes " \\Flagged") ++ l)
    (ap (λ (l : List ℕ). word f.deleted third (codes " \\Deleted") ++ l)
    (ap (λ (l : List ℕ). word f.seen fourth (codes " \\Seen") ++ l)
    (before_others fifth f.draft (codes "\\Draft") [])
    ∙ before_others fourth f.seen (codes "\\Seen") (e ++ []))
    ∙ before_others third f.deleted (codes "\\Deleted") (d ++ (e ++ [])))
    ∙ before_others second f.flagged (codes "\\Flagged") (c ++ (d ++ (e ++ []))))
    ∙ before_others true f.answered (codes "\\Answered") (b ++ (c ++ (d ++ (e ++ []))))
    ∙ ap (joined true) (regrouped a b c d e)
    ∙ sym (spaced_joined (flag_words f))

word_fits : (is_set first : Bool) (w : List ℕ) → length (word is_set first (32 ∷ w)) ≤ length w + 1
word_fits true true w = omega arith
word_fits true false w = omega arith
word_fits false first w = omega arith

pub flags_fit : (f : Flags) → length (flags_text f) ≤ 49
flags_fit f =
    let second = not f.answered in
    let third = second && not f.flagged in
    let fourth = third && not f.deleted in
    let fifth = fourth && not f.seen in
    let one = word_fits f.answered true (codes "\\Answered") in
    let two = word_fits f.flagged second (codes "\\Flagged") in
    let three = word_fits f.deleted third (codes "\\Deleted") in
    let four = word_fits f.seen fourth (codes "\\Seen") in
    let five_fits = word_fits f.draft fifth (codes "\\Draft") in
    sizes _ _ _ _ _ (spaced (flag_words f)) (words_in_parts f) one two three four five_fits
  where
    sizes : (a b c d e all : List ℕ) → a ++ (b ++ (c ++ (d ++ (e ++ [])))) ≡ all → length a ≤ 10 → length b ≤ 9 → length c ≤ 9 → length d ≤ 6 → length e ≤ 7
        → length (codes "FLAGS (" ++ all ++ codes ")") ≤ 49
    sizes a b c d e all same p q r s t =
        let whole : length (a ++ (b ++ (c ++ (d ++ (e ++ []))))) ≡ length all = ap length same in
        let first = length-append a (b ++ (c ++ (d ++ (e ++ [])))) in
        let second = length-append b (c ++ (d ++ (e ++ []))) in
        let third = length-append c (d ++ (e ++ [])) in
        let fourth = length-append d (e ++ []) in
        let fifth = length-append e [] in
        let front = length-append (codes "FLAGS (") all in
        let back = length-append (codes "FLAGS (" ++ all) (codes ")") in
        omega (arith, whole, first, second, third, fourth, fifth, front, back, p, q, r, s, t)
