-- What a search is to return (RFC 9051, 6.4.4: search-return-opts), by the words between the parentheses behind RETURN.
use Rattle.std.specs.Prelude.{ℕ, Bool, codes, List, length, ◌==◌, ◌||◌}
use Rattle.std.specs.Str.{str_eq_ignore_ascii_case as is_same}
use Rattle.imap_grammar.specs.Items.{has_word}
use Rattle.imap_grammar.specs.declared.command.SearchReturns.{SearchReturns}

-- a word that asks for something, in upper or lower case
abbrev pub is_return : List ℕ → Bool
is_return word = is_same word (codes "MIN") || is_same word (codes "MAX") || is_same word (codes "COUNT") || is_same word (codes "ALL")

-- all are asked for by ALL, and where there is no word (RFC 9051, 6.4.4)
abbrev pub asks_for_all : List (List ℕ) → Bool
asks_for_all words = has_word (codes "ALL") words || (length words == 0)

-- what these words ask for
abbrev pub returns_among : List (List ℕ) → SearchReturns
returns_among words = record {
  min = has_word (codes "MIN") words;
  max = has_word (codes "MAX") words;
  count = has_word (codes "COUNT") words;
  all = asks_for_all words;
}
