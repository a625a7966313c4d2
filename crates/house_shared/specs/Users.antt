-- The users of a directory, by number.
use Rattle.std.specs.Prelude.{ℕ, ◌-◌, ◌==◌, Bool, true, false, if◌then◌else◌, List, [], ◌∷◌, Option, Some, None}
use Rattle.envelope.specs.Names.{Home}

abbrev pub is_inbox : Option (List ℕ) → Bool
is_inbox None = true
is_inbox (Some folder) = false

-- The name of the user of this number, counted from 0 in the order of the mailboxes: each user has one INBOX.
abbrev pub user_numbered : ℕ → List Home → Option (List ℕ)
user_numbered n [] = None
user_numbered n (home ∷ homes) =
    if is_inbox home.folder
    then (if n == 0 then Some home.user else user_numbered (n - 1) homes)
    else user_numbered n homes
