-- Sets of UIDs, as they stand within lines: each byte is one of a number, a colon or a comma.
use Rattle.std.proofs.Common.{◌≡◌, ℕ, ◌+◌, ◌==◌, Bool, true, false, List, [], ◌∷◌, ◌++◌, refl, ◌∙◌}
use Rattle.std.specs.Prelude.{codes, decimal, if◌then◌else◌}
use Rattle.std.specs.List.{list_all}
use Rattle.std.proofs.lemmas.List.Folds.{list_all-append}
use Rattle.imap_answers.specs.Answers.{range_text, runs_text, uid_set}

-- a test that each of these bytes passes
pub record Allows (test : ℕ → Bool) : Type 0 where
  pub digits : (n : ℕ) → list_all test (decimal n) ≡ true
  pub colon : list_all test (codes ":") ≡ true
  pub comma : list_all test (codes ",") ≡ true

pub both_all : (test : ℕ → Bool) (a b : List ℕ) → list_all test a ≡ true → list_all test b ≡ true → list_all test (a ++ b) ≡ true
both_all test a b h k = list_all-append test a b ∙ rw (h, k) refl

range_all : (test : ℕ → Bool) → Allows test → (first last : ℕ) → list_all test (range_text first last) ≡ true
range_all test allows first last = by (first == last)
  where
    by : (b : Bool) → list_all test (if b then decimal first else decimal first ++ codes ":" ++ decimal last) ≡ true
    by true = allows.digits first
    by false = both_all test (decimal first ++ codes ":") (decimal last) (both_all test (decimal first) (codes ":") (allows.digits first) allows.colon) (allows.digits last)

runs_all : (test : ℕ → Bool) → Allows test → (first last : ℕ) (uids : List ℕ) → list_all test (runs_text first last uids) ≡ true
runs_all test allows first last [] = range_all test allows first last
runs_all test allows first last (uid ∷ uids) = by (uid == last + 1) (runs_all test allows first uid uids) (runs_all test allows uid uid uids)
  where
    by : (b : Bool) → list_all test (runs_text first uid uids) ≡ true → list_all test (runs_text uid uid uids) ≡ true
        → list_all test (if b then runs_text first uid uids else range_text first last ++ codes "," ++ runs_text uid uid uids) ≡ true
    by true on anew = on
    by false on anew =
        both_all test (range_text first last ++ codes ",") (runs_text uid uid uids) (both_all test (range_text first last) (codes ",") (range_all test allows first last) allows.comma) anew

pub set_all : (test : ℕ → Bool) → Allows test → (uids : List ℕ) → list_all test (uid_set uids) ≡ true
set_all test allows [] = refl
set_all test allows (uid ∷ uids) = runs_all test allows uid uid uids
