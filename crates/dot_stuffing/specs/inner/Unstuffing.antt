-- What bodies and proofs say besides: what an `Unstuffer` is seen as, and what its answers say of the whole data.
use Rattle.std.specs.Prelude.{◌≡◌, ℕ, ◌<◌, ◌≤◌, List, [], ◌∷◌, ◌++◌, length, true, false, ◌==◌, ◌&&◌, if◌then◌else◌}
use Rattle.dot_stuffing.specs.Data.{Plain}
use Rattle.dot_stuffing.specs.declared.context.Context.{Context}
use Rattle.dot_stuffing.specs.declared.context.Context.TheVariants.{Start, Inside, Cr}
use Rattle.dot_stuffing.specs.declared.context.Next.{Next}
use Rattle.dot_stuffing.specs.declared.context.Next.TheVariants.{Silent, Adds, AddsBoth, Ends}
use Rattle.dot_stuffing.specs.Unstuffing.{text_so_far, IsOpenAt, Collector}

-- the context after a byte of the text
abbrev pub after : ℕ → Context
after byte = (if byte == 13 then Cr else Inside)

-- the context after two bytes of the text, the second of which is no dot that a line begins with
abbrev pub after_two : (first second : ℕ) → Context
after_two first second = (if second == 13 then Cr else if (first == 13) && (second == 10) then Start else Inside)

-- what a byte more does to the text
abbrev pub Leads : Context → ℕ → Next → List ℕ → Type 0
Leads context byte (Silent next) wire = IsOpenAt next (wire ++ byte ∷ []) × (text_so_far next (wire ++ byte ∷ []) ≡ text_so_far context wire)
Leads context byte (Adds next) wire =
    IsOpenAt next (wire ++ byte ∷ []) × (text_so_far next (wire ++ byte ∷ []) ≡ text_so_far context wire ++ byte ∷ [])
Leads context byte (AddsBoth next) wire =
    IsOpenAt next (wire ++ byte ∷ []) × (text_so_far next (wire ++ byte ∷ []) ≡ (text_so_far context wire ++ 13 ∷ []) ++ byte ∷ [])
Leads context byte Ends wire = Plain (wire ++ byte ∷ []) (text_so_far context wire)

-- the same but for NULs: as many bytes came, and these are kept
pub record Keeps (c : Collector) (text : List ℕ) : Type 0 where
  pub big : c.is_big ≡ true → c.max < length text
  pub not_big : c.is_big ≡ false → (c.count ≡ length text) × (length text ≤ c.max)
  pub bytes : c.is_big ≡ false → c.no_memory ≡ false → c.bytes ≡ text
