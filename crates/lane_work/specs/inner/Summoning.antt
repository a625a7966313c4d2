-- Behind which copies of a message its consumers are notified; nobody has to believe this file.
use Rattle.std.specs.Prelude.{ℕ, Bool, ◌==◌, not, List}
use Rattle.std.specs.List.{list_all}
use Rattle.envelope.specs.Names.{Directory, shard_of}

-- none of these mailboxes is kept by the shard of this one
abbrev pub is_last_at : Directory → ℕ → List ℕ → Bool
is_last_at directory here mailboxes = list_all (λ mailbox. not (shard_of directory mailbox == shard_of directory here)) mailboxes
