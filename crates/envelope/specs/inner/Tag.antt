-- A number that users have in common where they differ in case at most, by which most mailboxes are passed over; nobody has to believe this file.
use Rattle.std.specs.Prelude.{ℕ, List, [], ◌∷◌, ◌+◌, ◌*◌, ◌%◌, fold, if◌then◌else◌}
use Rattle.std.specs.Char.{to_ascii_lowercase}
use Rattle.envelope.specs.Names.{is_plus}

abbrev pub next_tag : ℕ → ℕ → ℕ
next_tag tag b = (tag * 31 + to_ascii_lowercase b) % 65536

abbrev pub tag_of : List ℕ → ℕ
tag_of user = fold next_tag 0 user

-- the tag after the bytes before the first +, where it was this before them
abbrev pub tag_from : ℕ → List ℕ → ℕ
tag_from tag [] = tag
tag_from tag (b ∷ bs) = if is_plus b then tag else tag_from (next_tag tag b) bs
