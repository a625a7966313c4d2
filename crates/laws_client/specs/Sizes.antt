-- What has to be small, so that each number in a session's lines can be printed.
use Rattle.std.specs.Prelude.{ℕ, ◌<◌, ◌^◌, length, All}
use Rattle.delivery_token.specs.declared.Job.{Job}
use Rattle.world.specs.World.{World}

-- each text that was accepted has a length of 32 bits (RFC 9051, 4.3 and 9)
abbrev pub HasShortTexts : World → Type 0
HasShortTexts w = (m : ℕ) → All (λ (a : Job × ℕ). length a.0.text.bytes < 2 ^ 32) (w.box m).accepted
