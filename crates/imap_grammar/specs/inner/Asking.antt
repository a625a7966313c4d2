-- Keys that are asked of one message. Public clauses say `matches`.
use Rattle.std.specs.Prelude.{ℕ, Bool, List, ◌&&◌}
use Rattle.std.specs.List.{list_all}
use Rattle.imap_grammar.specs.Keys.{Key, matches}
use Rattle.imap_grammar.specs.SearchReading.{key_of}
use Rattle.imap_grammar.specs.declared.key_words.SingleKey.{SingleKey}
use Rattle.imap_grammar.specs.declared.keys.Asked.{Asked}

abbrev pub so : Asked → Key → Bool
so asked key = matches key asked.last asked.message asked.flags (record { bytes = asked.text.now; date = asked.date })

abbrev pub single_and_rest : Asked → SingleKey × List ℕ → Bool × List ℕ
single_and_rest asked read = (so asked (key_of read.0), read.1)

abbrev pub so_and_rest : Asked → Key × List ℕ → Bool × List ℕ
so_and_rest asked read = (so asked read.0, read.1)

-- one that is so or isn't, and these
abbrev pub all_and_rest : Asked → Bool → List Key × List ℕ → Bool × List ℕ
all_and_rest asked first read = (first && list_all (so asked) read.0, read.1)
