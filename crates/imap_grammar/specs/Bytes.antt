-- Classes of bytes, as tests (RFC 9051, 9).
use Rattle.std.specs.Prelude.{ℕ, Bool, codes, ◌==◌, ◌&&◌, ◌||◌, nat_le, not}
use Rattle.envelope.specs.Bytes.{is_in, is_alphanumeric, is_graphic}

abbrev pub is_tag : ℕ → Bool
is_tag b = is_graphic b && not (is_in (codes "(){%*\"\\+") b)

abbrev pub is_atom : ℕ → Bool
is_atom b = is_graphic b && not (is_in (codes "(){%*\"\\") b)

-- of a pattern without quotes
abbrev pub is_pattern : ℕ → Bool
is_pattern b = is_graphic b && not (is_in (codes "(){\"\\") b)

abbrev pub is_digit : ℕ → Bool
is_digit b = nat_le 48 b && nat_le b 57

-- stands in a quoted string behind a backslash alone
abbrev pub is_special : ℕ → Bool
is_special b = is_in (codes "\"\\") b

-- stands in a quoted string without a backslash before it
abbrev pub is_quotable : ℕ → Bool
is_quotable b = nat_le 32 b && not (b == 127) && not (is_special b)

abbrev pub is_comma : ℕ → Bool
is_comma b = b == 44

-- of the name of a header field that isn't quoted: the bracket ends what it stands in
abbrev pub is_field_byte : ℕ → Bool
is_field_byte b = is_atom b && not (b == 93)

-- of a word among the keys of a search: a space ends it, and so does a parenthesis
abbrev pub is_key_byte : ℕ → Bool
is_key_byte b = not (is_in (codes " ()") b)

-- of base64 (RFC 4648, 4). A lone `=` stands for an empty response
abbrev pub is_base64 : ℕ → Bool
is_base64 b = is_alphanumeric b || is_in (codes "+/=") b
