-- Words for what a client reads, by which the lemmas speak of it. Each is short for what `Client.antt` says in place.
use Rattle.std.specs.Prelude.{ℕ, nat_eq, Bool, false, List, [], ◌∷◌, codes, replicate, Option, Some, option_map, option_and_then, Ok, if◌then◌else◌}
use Rattle.std.specs.List.{onto_first, starts_with}
use Rattle.std.specs.Option.{option_map_or, option_or}
use Rattle.std.specs.Str.{bytes_eq}
use Rattle.imap_grammar.specs.Brackets.{cut_outside}
use Rattle.imap_grammar.specs.Numbers.{number_from}
use Rattle.imap_grammar.specs.declared.command.Command.{Command}
use Rattle.laws_client.specs.Client.{Client, Known, Messages, in_words, knowing, numbered, on_byte, replaced, unknown}
use Rattle.laws_client.specs.Clients.{Asked, asked}

-- a client that has asked for a mailbox, and read nothing yet
abbrev pub fresh : Client
fresh = knowing (Some [])

-- a byte that isn't of a literal
abbrev pub in_line : Messages → List ℕ → ℕ → Client
in_line messages line b = on_byte 0 messages line b

-- so many messages more, of which nothing is known
abbrev pub more : ℕ → List Known
more n = replicate n unknown

-- before the others
abbrev pub put_first : Known → Messages → Messages
put_first message messages = option_map (λ (list : List Known). message ∷ list) messages

-- `* k EXPUNGE`
abbrev pub expunged : ℕ → List Known → Messages
expunged k list = replaced k (λ message. []) list

-- `* k FETCH (..)`
abbrev pub fetched : ℕ → (Known → Known) → List Known → Messages
fetched k told list = replaced k (λ message. told message ∷ []) list

-- where it has a list
abbrev pub on_list : (List Known → Messages) → Messages → Messages
on_list change messages = option_and_then change messages

-- the bytes begin with these
abbrev pub begins : List ℕ → List ℕ → Bool
begins front bytes = starts_with nat_eq bytes front

-- what a command asks of the list
abbrev pub asked_by : (tag : List ℕ) → Command → Asked
asked_by tag command = asked (Ok (tag, command))

-- ---- words

abbrev pub into_first : ℕ → List (List ℕ) → List (List ℕ)
into_first b list = onto_first b list

abbrev pub words_from : Bool → List ℕ → List (List ℕ)
words_from inside bytes = cut_outside inside bytes

abbrev pub words : List ℕ → List (List ℕ)
words bytes = words_from false bytes

-- the number that digits say, behind those that said n
abbrev pub value : ℕ → List ℕ → ℕ
value n bytes = number_from n bytes

-- this UID was told, if it is one
abbrev pub with_uid : Option ℕ → Known → Known
with_uid n message = record message { uid = option_or n message.uid }

abbrev pub with_flags : List (List ℕ) → Known → Known
with_flags names message = record message { flags = Some names }

-- behind `* OK`
abbrev pub status : List (List ℕ) → Messages → Messages
status list messages = if starts_with bytes_eq list (codes "[CLOSED]" ∷ []) then Some [] else messages

-- behind `*`, where the first word is a number, or isn't
abbrev pub with_number : Option ℕ → List ℕ → List (List ℕ) → Messages → Messages
with_number n word rest messages =
    option_map_or (λ (k : ℕ). numbered k rest messages) n
    (if starts_with bytes_eq (word ∷ rest) (codes "OK" ∷ codes "[CLOSED]" ∷ []) then Some [] else messages)

-- what it knows when it was told this line
abbrev pub told : List ℕ → Messages → Messages
told text messages = in_words (words text) messages
