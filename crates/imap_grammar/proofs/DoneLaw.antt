-- The line DONE: what is spelled is read, and what is read is spelled.
use Rattle.std.proofs.Common.{◌≡◌, ℕ, Bool, true, List, refl, ap, ◌∙◌}
use Rattle.std.specs.Prelude.{codes, ◌&&◌}
use Rattle.std.specs.Str.{str_eq_ignore_ascii_case as is_same}
use Rattle.envelope.proofs.Case.{is_same_decides}
use Rattle.envelope.proofs.Words.{both_true}
use Rattle.imap_grammar.specs.Grammar.{DoneLine}
use Rattle.imap_grammar.specs.Reading.{is_done, word_at}
use Rattle.imap_grammar.specs.Front.{is_blank}
use Rattle.imap_grammar.proofs.Keywords.{same_sound, word_clean}
use Rattle.imap_grammar.proofs.Parens.{blank_again, blank_sound}
use Rattle.imap_grammar.proofs.Tokens.{blank_first, word_again, word_parts}

pub done_again : (line : List ℕ) → DoneLine line → is_done line ≡ true
done_again line q =
    let bare = word_clean 32 refl q.front _ q.first (refl, (refl, (refl, (refl, tt)))) in
    let cut : word_at line ≡ (q.front, q.back) = ap word_at q.parts ∙ word_again q.front q.back bare (blank_first q.back q.second) in
    ap (λ (c : List ℕ × List ℕ). is_same c.0 (codes "DONE") && is_blank c.1) cut
    ∙ ap (λ (b : Bool). b && is_blank q.back) ((is_same_decides q.front (codes "DONE")).1 q.first)
    ∙ blank_again q.back q.second

pub done_sound : (line : List ℕ) → is_done line ≡ true → DoneLine line
done_sound line e =
    let both = both_true (is_same (word_at line).0 (codes "DONE")) (is_blank (word_at line).1) e in
    record {
      front = (word_at line).0;
      back = (word_at line).1;
      parts = word_parts line;
      first = same_sound (codes "DONE") (word_at line).0 both.0;
      second = blank_sound (word_at line).1 both.1;
    }
