-- How many bytes a range of a set of UIDs has at most; nobody has to believe this file.
use Rattle.std.specs.Prelude.{ℕ, ◌==◌, if◌then◌else◌}

-- ten digits, or twice ten and a colon
abbrev pub most_of : (first last : ℕ) → ℕ
most_of first last = if first == last then 10 else 21
