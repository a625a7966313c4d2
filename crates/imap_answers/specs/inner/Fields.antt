-- How many bytes a field of a header has; nobody has to believe this file.
use Rattle.std.specs.Prelude.{ℕ, ◌+◌, Bool, List, [], ◌∷◌, ◌==◌, ◌&&◌, not, if◌then◌else◌}
use Rattle.mail_date.specs.Bytes.{is_folded}

-- the bytes of a field with the CRLF that ends it; `cr` behind a CR
abbrev pub field_size : Bool → List ℕ → ℕ
field_size cr [] = 0
field_size cr (b ∷ bs) = if cr && (b == 10) && not (is_folded bs) then 1 else 1 + field_size (b == 13) bs
