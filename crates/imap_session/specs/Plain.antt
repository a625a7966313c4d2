-- What a response to AUTHENTICATE PLAIN says (RFC 4616, 2).
use Rattle.std.specs.Prelude.{ℕ, Bool, false, List, length, Option, Some, None, if◌then◌else◌, ◌==◌, ◌&&◌, ◌||◌, codes}
use Rattle.std.specs.Result.{is_ok}
use Rattle.std.specs.Str.{bytes_eq, str_eq_ignore_ascii_case as is_same}
use Rattle.base64.specs.Engines.{standard}
use Rattle.base64.specs.GeneralPurpose.{decode_slice_of, decoded_bytes_of}
use Rattle.envelope.specs.Reading.{◌>>=◌}
use Rattle.imap_grammar.specs.Cuts.{cut_at}
use Rattle.imap_grammar.specs.declared.command.Authenticate.{Authenticate}

-- PLAIN is the one mechanism that is offered
abbrev pub is_plain : List ℕ → Bool
is_plain mechanism = is_same mechanism (codes "PLAIN")

-- as whom the client is to act, and as whom it logs in. The password isn't looked at
pub record Plain : Type 0 where
  pub acts_for : List ℕ
  pub user : List ℕ

-- a message has the one before its first NUL, and the other between that and the next
abbrev pub plain_of : List ℕ → Option Plain
plain_of message = do
  first ← cut_at 0 message
  second ← cut_at 0 first.1
  Some (record { acts_for = first.0; user = second.0 })

-- a response has at most so many bytes once it is decoded: each part of it may have 255 (RFC 4616, 2)
abbrev pub most_decoded : ℕ
most_decoded = 1026

-- the bytes that a text is in base64 (RFC 4648, 4)
unfoldable pub decoded : List ℕ → Option (List ℕ)
decoded text = if is_ok (decode_slice_of standard text most_decoded) then Some (decoded_bytes_of standard text) else None

abbrev pub plain_in : Option (List ℕ) → Option Plain
plain_in None = None
plain_in (Some text) = decoded text >>= plain_of

-- it is from this user, who acts for nobody else
abbrev pub is_from : List ℕ → Option Plain → Bool
is_from user None = false
is_from user (Some plain) = bytes_eq plain.user user && (length plain.acts_for == 0 || bytes_eq plain.acts_for user)

abbrev pub is_response_of : List ℕ → Authenticate → Bool
is_response_of user a = is_plain a.mechanism && is_from user (plain_in a.initial)
