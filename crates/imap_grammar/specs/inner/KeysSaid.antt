-- The key that a text says. No public clause speaks of a text that says none.
use Rattle.std.specs.Prelude.{ℕ, List, Option, Some, None}
use Rattle.imap_grammar.specs.Keys.{Key, Never}
use Rattle.imap_grammar.specs.SearchReading.{keys_in}

abbrev pub key_or_never : Option Key → Key
key_or_never (Some key) = key
key_or_never None = Never

abbrev pub key_said : List ℕ → Key
key_said text = key_or_never (keys_in text)
