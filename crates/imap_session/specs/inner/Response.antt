-- A response that is written further.
use Rattle.std.specs.Prelude.{◌≡◌, ℕ, List, ◌++◌}
use Rattle.imap_session.specs.Response.{Response}

-- these bytes were written; the tag and the outlet's lot stay, and as much room is held as before
abbrev pub adding : List ℕ → Response → Response
adding bytes response = record response { text = response.text ++ bytes }

-- the same where room that was held may have been used, or more is held
abbrev pub Adds : List ℕ → Response → Response → Type 0
Adds bytes before after = (after.tag ≡ before.tag) × (after.lot ≡ before.lot) × (after.text ≡ before.text ++ bytes)
