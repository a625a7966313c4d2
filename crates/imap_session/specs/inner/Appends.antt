-- The line of an APPEND, taken without a call of the store.
use Rattle.std.specs.Prelude.{◌≡◌, ℕ, List, [], ◌++◌, Some}
use Rattle.imap_session.specs.declared.standing.After.{After}
use Rattle.imap_session.specs.Exchange.{Answer, Exchange, Standing, played}

-- Some answers, none of which is the store's, lead an exchange to this standing, and this is written.
abbrev pub Leads : List ℕ → Standing → Exchange → List ℕ → List ℕ → After → Standing → Type 0
Leads tag now x before text how next =
    (answers : List Answer) × (bytes : List ℕ) × (played tag now x answers
    ≡ Some (record { events = []; bytes = bytes; after = how; standing = next })) × (text ≡ before ++ bytes)
