-- Texts, cut at a byte.
use Rattle.std.specs.Prelude.{ℕ, ◌+◌, List, take, drop, Option, ◌==◌, position}
use Rattle.std.specs.Option.{option_map}

-- what stands before the first such byte, and what stands behind it
abbrev pub cut_at : ℕ → List ℕ → Option (List ℕ × List ℕ)
cut_at b text = option_map (λ n. (take n text, drop (n + 1) text)) (position (λ x. x == b) text)
