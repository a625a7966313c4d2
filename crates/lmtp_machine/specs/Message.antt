-- A message's lines, its text and what becomes of it.
use Rattle.std.specs.Prelude.{ℕ, Bool, codes, List, [], ◌++◌, length, map, ◌==◌, nat_lt, if◌then◌else◌}
use Rattle.std.specs.List.{list_any}
use Rattle.line_io.specs.Wire.{crlf, joined}
use Rattle.dot_stuffing.specs.Data.{undotted}
use Rattle.dot_stuffing.specs.declared.Outcome.{Outcome}
use Rattle.dot_stuffing.specs.declared.Outcome.TheVariants as outcomes
use Rattle.envelope.specs.Values.{Path, Null, Postmaster, To}

-- the text that lines before the last dot carry
abbrev pub plain : List (List ℕ) → List ℕ
plain lines = joined (map undotted lines)

-- the mailbox of a reverse path as spelled, or nothing
abbrev pub sender_text : Path → List ℕ
sender_text Null = []
sender_text Postmaster = []
sender_text (To address) = address.local ++ codes "@" ++ address.domain

-- the line that says who sent it (RFC 5321, section 4.4)
abbrev pub return_path : List ℕ → List ℕ
return_path sender = codes "Return-Path: <" ++ sender ++ codes ">" ++ crlf

-- what is stored
abbrev pub stored_text : List ℕ → List (List ℕ) → List ℕ
stored_text sender lines = return_path sender ++ plain lines

-- What becomes of a message's text, the first that holds: a NUL byte, more bytes than the limit, memory that was refused.
abbrev pub outcome : ℕ → Bool → List ℕ → Outcome
outcome limit refused text =
    if list_any (λ b. b == 0) text then outcomes.Nul
    else if nat_lt limit (length text) then outcomes.TooBig
    else if refused then outcomes.NoMemory
    else outcomes.Ok
