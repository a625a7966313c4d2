-- What a mail client knows of the selected mailbox by the bytes that it reads (RFC
-- 9051, 2.2.2, 4.3, 7.1, 7.4 and 7.5), and by nothing else. It knows how
-- lines are spelled that any server sends; it knows nothing of how this one comes to write them.
use Rattle.std.specs.Prelude.{ℕ, zero, suc, ◌+◌, ◌-◌, false, List, [], ◌∷◌, ◌++◌, length, drop, replicate, reverse, codes, Option, Some, None, option_map, option_and_then, nat_le, ◌==◌, ◌&&◌, not, if◌then◌else◌}
use Rattle.std.specs.List.{list_all, starts_with}
use Rattle.std.specs.Option.{option_map_or, option_or}
use Rattle.std.specs.Str.{bytes_eq}
use Rattle.envelope.specs.Reading.{first_is}
use Rattle.imap_grammar.specs.Brackets.{cut_outside}
use Rattle.imap_grammar.specs.Bytes.{is_digit}
use Rattle.imap_grammar.specs.Numbers.{number_of}

-- ---- what it keeps

-- a message (RFC 9051, 2.3): its UID and the names of its flags, as each was last told, or None where it was not told yet
pub record Known : Type 0 where
  pub uid : Option ℕ
  pub flags : Option (List (List ℕ))

abbrev pub unknown : Known
unknown = record { uid = None; flags = None }

-- The messages in the order of their sequence numbers (2.3.1.2). Where it was told a number that it can't have there are none, for good.
abbrev pub Messages : Type 0
Messages = Option (List Known)

-- the messages; the line that has begun, last byte first, without what stands in literals; and how many bytes of a literal are still to come
pub record Client : Type 0 where
  pub messages : Messages
  pub line : List ℕ
  pub literal : ℕ

-- a client between two lines
abbrev pub knowing : Messages → Client
knowing messages = record { messages = messages; line = []; literal = 0 }

-- ---- what the lines tell it

-- `* n EXISTS` (7.4.1): there are n messages now, those that it has and behind them new ones, of which nothing is known. It is never told of fewer
-- than it has: they leave by EXPUNGE
abbrev pub exists : ℕ → List Known → Messages
exists n list = if nat_le (length list) n then Some (list ++ replicate (n - length list) unknown) else None

-- the list with this in place of its k-th message, if it has one
abbrev pub replaced : ℕ → (Known → List Known) → List Known → Messages
replaced zero now list = None
replaced (suc k) now [] = None
replaced (suc zero) now (message ∷ list) = Some (now message ++ list)
replaced (suc (suc k)) now (message ∷ list) = option_map (λ later. message ∷ later) (replaced (suc k) now list)

-- ---- how lines are read

-- a word that is a number: one digit or more (9, `number`)
abbrev pub number : List ℕ → Option ℕ
number word = if list_all is_digit word && not (length word == 0) then Some (number_of word) else None

-- how many parentheses close at a word's end, and the word without them
abbrev pub closing : List ℕ → ℕ × List ℕ
closing [] = (0, [])
closing (b ∷ bytes) = if (b == 41) && bytes_eq (closing bytes).1 [] then ((closing bytes).0 + 1, []) else ((closing bytes).0, b ∷ (closing bytes).1)

-- the flags in a list whose parenthesis was opened, up to the word that closes it; that may be empty
abbrev pub flags_from : List (List ℕ) → List (List ℕ)
flags_from [] = []
flags_from (word ∷ rest) =
    if (closing word).0 == 0 then word ∷ flags_from rest
    else if bytes_eq (closing word).1 [] then [] else (closing word).1 ∷ []

-- the flags of `FLAGS (..)` (7.5.2), from the words behind FLAGS
abbrev pub flag_names : List (List ℕ) → List (List ℕ)
flag_names [] = []
flag_names (word ∷ rest) = if first_is 40 word then flags_from (drop 1 word ∷ rest) else []

-- the UID of `UID n` (7.5.2), from the words behind UID, if it is one
abbrev pub uid_in : List (List ℕ) → Option ℕ
uid_in [] = None
uid_in (word ∷ rest) = number (closing word).1

-- What the items of a FETCH tell: a word UID, and the number behind it; a word FLAGS, and the names in the parentheses behind it, in place of all
-- that were told before. All else is passed over.
abbrev pub items : List (List ℕ) → Known → Known
items [] message = message
items (word ∷ rest) message =
    if bytes_eq word (codes "UID") then items rest (record message { uid = option_or (uid_in rest) message.uid })
    else if bytes_eq word (codes "FLAGS") then items rest (record message { flags = Some (flag_names rest) })
    else items rest message

-- the items stand in parentheses
abbrev pub unopened : List (List ℕ) → List (List ℕ)
unopened [] = []
unopened (word ∷ rest) = (if first_is 40 word then drop 1 word else word) ∷ rest

-- What stands behind `* n`. By EXPUNGE (7.5.1) the n-th message is gone, and each later one has a number less. FETCH (7.5.2) tells of the n-th.
abbrev pub numbered : ℕ → List (List ℕ) → Messages → Messages
numbered n [] messages = messages
numbered n (word ∷ rest) messages =
    if bytes_eq word (codes "EXISTS") then option_and_then (exists n) messages
    else if bytes_eq word (codes "EXPUNGE") then option_and_then (replaced n (λ message. [])) messages
    else if bytes_eq word (codes "FETCH") then option_and_then (replaced n (λ message. items (unopened rest) message ∷ [])) messages
    else messages

-- What stands behind `*`. By `* OK [CLOSED]` (7.1) the mailbox that was selected is left, and what comes now is of the next one.
abbrev pub untagged : List (List ℕ) → Messages → Messages
untagged [] messages = messages
untagged (word ∷ rest) messages =
    option_map_or (λ n. numbered n rest messages) (number word)
    (if starts_with bytes_eq (word ∷ rest) (codes "OK" ∷ codes "[CLOSED]" ∷ []) then Some [] else messages)

-- Only a line that begins with `*` tells of messages (2.2.2). All others are tagged, or say that the client may go on
abbrev pub in_words : List (List ℕ) → Messages → Messages
in_words [] messages = messages
in_words (word ∷ rest) messages = if bytes_eq word (42 ∷ []) then untagged rest messages else messages

-- ---- how bytes are read

-- the digits of a literal's count, last first, up to the brace before them
abbrev pub count_of : List ℕ → List ℕ → Option ℕ
count_of digits [] = None
count_of digits (b ∷ line) = if is_digit b then count_of (b ∷ digits) line else if b == 123 then number digits else None

-- a line that ends in `{n}` goes on behind n bytes of any kind (4.3)
abbrev pub literal_of : List ℕ → Option ℕ
literal_of [] = None
literal_of (b ∷ line) = if b == 125 then count_of [] line else None

-- Behind the count of a literal its line goes on, with that count and the CR and LF in it: so where the literal ends the line it isn't counted again.
-- A line that ends is cut in words at each space outside of brackets. Within them may stand names of header fields (6.4.5), which may be named as
-- items are.
abbrev pub line_ends : Option ℕ → Messages → List ℕ → Client
line_ends (Some n) messages line = record { messages = messages; line = 10 ∷ 13 ∷ line; literal = n }
line_ends None messages line = knowing (in_words (cut_outside false (reverse line)) messages)

-- A byte of a literal is counted, and not read. In a line, an LF behind a CR ends it.
abbrev pub on_byte : ℕ → Messages → List ℕ → ℕ → Client
on_byte (suc n) messages line b = record { messages = messages; line = line; literal = n }
on_byte zero messages [] b = record { messages = messages; line = b ∷ []; literal = 0 }
on_byte zero messages (last ∷ line) b =
    if (b == 10) && (last == 13) then line_ends (literal_of line) messages line
    else record { messages = messages; line = b ∷ last ∷ line; literal = 0 }

-- what it knows when it has read these bytes
abbrev pub reads : Client → List ℕ → Client
reads client [] = client
reads client (b ∷ bytes) = reads (on_byte client.literal client.messages client.line b) bytes
