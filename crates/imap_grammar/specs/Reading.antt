-- Reading a line from left to right. The contract of `read_line` says that this is the one reading that the
-- grammar allows; nobody has to believe this file.
use Rattle.std.specs.Prelude.{ℕ, zero, suc, Bool, true, false, codes, List, [], ◌∷◌, length, take, drop, Option, Some, None, is_some, Result, Ok, Err, ◌==◌, ◌&&◌, not, if◌then◌else◌, ◌-◌, slice_index, min}
use Rattle.std.specs.List.{list_all, prefix_len}
use Rattle.std.specs.Str.{str_eq_ignore_ascii_case as is_same}
use Rattle.change_ring.specs.declared.change.Flags.{Flags}
use Rattle.change_ring.specs.declared.flag_op.FlagOp.{FlagOp}
use Rattle.change_ring.specs.declared.flag_op.FlagOp.TheVariants.{Set, Insert, Remove}
use Rattle.envelope.specs.Bytes.{is_not_space}
use Rattle.envelope.specs.Reading.{◌>>=◌, first_is, some_len, words, after_spaces, past_byte, past_keyword}
use Rattle.imap_grammar.specs.Bytes.{is_tag, is_atom, is_pattern, is_digit, is_field_byte, is_key_byte, is_base64}
use Rattle.change_ring.specs.Log.{no_flags}
use Rattle.imap_grammar.specs.Cuts.{cut_at}
use Rattle.imap_grammar.specs.Brackets.{outside_len, item_word_at, item_words}
use Rattle.imap_grammar.specs.Numbers.{most_size, number_of}
use Rattle.imap_grammar.specs.declared.command.Literal.{Literal}
use Rattle.imap_grammar.specs.Front.{past_gap, is_blank}
use Rattle.imap_grammar.specs.Grammar.{is_known_charset}
use Rattle.imap_grammar.specs.SearchReading.{key_word_at, key_word_of, keys_in}
use Rattle.imap_grammar.specs.declared.key_words.KeyWord.{KeyWord}
use Rattle.imap_grammar.specs.declared.key_words.KeyWord.TheVariants.{Charset, Return}
use Rattle.mail_date.specs.InternalBack.{internal_date}
use Rattle.mail_date.specs.declared.stamp.Stamp.{Stamp}
use Rattle.imap_grammar.specs.Sets.{set_at}
pub use Rattle.imap_grammar.specs.Strings.{quoted_len, string_len, string_at}
use Rattle.imap_grammar.specs.Items.{fetch_item_of, fetch_items_of, fast_items, status_item_of, status_items_of, is_flag, is_word_of, flags_among}
use Rattle.imap_grammar.specs.Returns.{is_return, returns_among}
use Rattle.imap_grammar.specs.Verbs.{word_of, is_left_out, offered, left_out, behind_uid, alone}
use Rattle.imap_grammar.specs.declared.items.FetchItem.{FetchItem}
use Rattle.imap_grammar.specs.declared.items.StatusItem.{StatusItem}
use Rattle.imap_grammar.specs.declared.command.SearchReturns.{SearchReturns}
use Rattle.imap_grammar.specs.declared.command.Verb.{Verb}
use Rattle.imap_grammar.specs.declared.command.Verb.TheVariants as verbs
use Rattle.imap_grammar.specs.declared.command.Command.{Command}
use Rattle.imap_grammar.specs.declared.command.Command.TheVariants as say
use Rattle.imap_grammar.specs.declared.command.ImapFault.{ImapFault}
use Rattle.imap_grammar.specs.declared.command.ImapFault.TheVariants.{NoTag, Unknown, LeftOut, Arguments}
use Rattle.imap_grammar.specs.declared.arguments.Operation.{Operation}
use Rattle.imap_grammar.specs.declared.arguments.Operation.TheVariants as operations
use Rattle.imap_grammar.specs.declared.bytes.Class.{Class}
use Rattle.imap_grammar.specs.declared.bytes.Class.TheVariants as classes

-- the bytes of a class
abbrev pub is_of : Class → ℕ → Bool
is_of classes.NotSpace = is_not_space
is_of classes.Tag = is_tag
is_of classes.Atom = is_atom
is_of classes.Pattern = is_pattern
is_of classes.Digit = is_digit
is_of classes.Field = is_field_byte
is_of classes.Key = is_key_byte
is_of classes.Base64 = is_base64

-- ---- parts at the front, and the bytes after them

abbrev pub word_at : List ℕ → List ℕ × List ℕ
word_at bytes = (take (prefix_len is_not_space bytes) bytes, drop (prefix_len is_not_space bytes) bytes)

abbrev pub if_end : {A : Type 0} → A → List ℕ → Option A
if_end x bytes = if is_blank bytes then Some x else None

-- no space stands first or last
abbrev pub is_tight : List ℕ → Bool
is_tight text = not (first_is 32 text) && not (slice_index text (length text - 1) == 32)

-- what stands in parentheses, if nothing comes after them
abbrev pub in_parentheses : List ℕ → Option (List ℕ)
in_parentheses bytes = do
  start ← past_byte 40 bytes
  cut ← cut_at 41 start
  if is_blank cut.1 && is_tight cut.0 then Some cut.0 else None

-- the same of items, in which there may be parentheses between brackets
abbrev pub items_in_parentheses : List ℕ → Option (List ℕ)
items_in_parentheses bytes = do
  start ← past_byte 40 bytes
  rest ← past_byte 41 (drop (outside_len 41 false start) start)
  if is_blank rest && is_tight (take (outside_len 41 false start) start) then Some (take (outside_len 41 false start) start) else None

-- ---- arguments

abbrev pub name_alone : (List ℕ → Command) → List ℕ → Option Command
name_alone make bytes = do
  start ← past_gap bytes
  read ← string_at is_atom start
  if_end (make read.0) read.1

-- words that are all items, and one at least
abbrev pub are_items : {A : Type 0} → (List ℕ → Option A) → List (List ℕ) → Bool
are_items f words = list_all (λ word. is_some (f word)) words && not (length words == 0)

abbrev pub fetch_items_in : List ℕ → Option (List FetchItem)
fetch_items_in text = if are_items fetch_item_of (item_words text) then Some (fetch_items_of text) else None

-- one item, or FAST
abbrev pub fetch_word_in : List ℕ → Option (List FetchItem)
fetch_word_in word = if is_same word (codes "FAST") then Some fast_items else fetch_items_in word

abbrev pub fetch_items_at : List ℕ → Option (List FetchItem)
fetch_items_at bytes =
    if first_is 40 bytes
    then (items_in_parentheses bytes >>= fetch_items_in)
    else (if is_blank (item_word_at bytes).1 then fetch_word_in (item_word_at bytes).0 else None)

abbrev pub status_items_in : List ℕ → Option (List StatusItem)
status_items_in text = if are_items status_item_of (words text) then Some (status_items_of text) else None

-- words that are all flags
abbrev pub flags_in : List ℕ → Option Flags
flags_in text = if list_all is_flag (words text) then Some (flags_among (words text)) else None

abbrev pub flags_at : List ℕ → Option Flags
flags_at bytes =
    if first_is 40 bytes
    then (in_parentheses bytes >>= flags_in)
    else (if is_blank bytes then None else flags_in bytes)

-- FLAGS, +FLAGS or -FLAGS, and whether nothing is answered
abbrev pub operation_of : List ℕ → Option (Operation × Bool)
operation_of word =
    if is_same word (codes "FLAGS") then Some (operations.Set, false)
    else if is_same word (codes "+FLAGS") then Some (operations.Insert, false)
    else if is_same word (codes "-FLAGS") then Some (operations.Remove, false)
    else if is_same word (codes "FLAGS.SILENT") then Some (operations.Set, true)
    else if is_same word (codes "+FLAGS.SILENT") then Some (operations.Insert, true)
    else if is_same word (codes "-FLAGS.SILENT") then Some (operations.Remove, true)
    else None

abbrev pub change_with : Operation → Flags → FlagOp
change_with operations.Set flags = Set flags
change_with operations.Insert flags = Insert flags
change_with operations.Remove flags = Remove flags

abbrev pub fetch_at : Bool → List ℕ → Option Command
fetch_at by_uid bytes = do
  start ← past_gap bytes
  set ← set_at (word_at start).0
  rest ← past_gap (word_at start).1
  items ← fetch_items_at rest
  Some (say.Fetch (record { by_uid = by_uid; set = set; items = items }))

abbrev pub store_at : Bool → List ℕ → Option Command
store_at by_uid bytes = do
  start ← past_gap bytes
  set ← set_at (word_at start).0
  rest ← past_gap (word_at start).1
  operation ← operation_of (word_at rest).0
  last ← past_gap (word_at rest).1
  flags ← flags_at last
  Some (say.Store (record { by_uid = by_uid; set = set; silent = operation.1; change = change_with operation.0 flags }))

abbrev pub copy_at : (by_uid moves : Bool) → List ℕ → Option Command
copy_at by_uid moves bytes = do
  start ← past_gap bytes
  set ← set_at (word_at start).0
  rest ← past_gap (word_at start).1
  name ← string_at is_atom rest
  if_end (say.Copy (record { by_uid = by_uid; moves = moves; set = set; name = name.0 })) name.1

abbrev pub set_alone : List ℕ → Option Command
set_alone bytes = do
  start ← past_gap bytes
  set ← set_at (word_at start).0
  if_end (say.UidExpunge set) (word_at start).1

-- a name, and a string of this class behind it
abbrev pub pair_at : (ℕ → Bool) → (List ℕ → List ℕ → Command) → List ℕ → Option Command
pair_at class make bytes = do
  start ← past_gap bytes
  name ← string_at is_atom start
  next ← past_gap name.1
  other ← string_at class next
  if_end (make name.0 other.0) other.1

abbrev pub status_at : List ℕ → Option Command
status_at bytes = do
  start ← past_gap bytes
  name ← string_at is_atom start
  rest ← past_gap name.1
  inner ← in_parentheses rest
  items ← status_items_in inner
  Some (say.Status name.0 items)

-- what stands in parentheses at the front, and what comes after them
abbrev pub parens_at : List ℕ → Option (List ℕ × List ℕ)
parens_at bytes = do
  start ← past_byte 40 bytes
  cut ← cut_at 41 start
  if is_tight cut.0 then Some cut else None

-- a list of flags at the front, and what comes after it and a gap
abbrev pub flag_list_at : List ℕ → Option (Flags × List ℕ)
flag_list_at bytes = do
  cut ← parens_at bytes
  flags ← flags_in cut.0
  rest ← past_gap cut.1
  Some (flags, rest)

-- the flags of a new message, and what comes after them
abbrev pub given_flags_at : List ℕ → Option (Flags × List ℕ)
given_flags_at bytes = if first_is 40 bytes then flag_list_at bytes else Some (no_flags, bytes)

-- a quoted string that may be a date, and what comes after it and a gap
abbrev pub quoted_date_at : List ℕ → Option (Option Stamp × List ℕ)
quoted_date_at bytes = do
  n ← quoted_len false (drop 1 bytes)
  rest ← past_gap (drop n (drop 1 bytes))
  Some (internal_date (take (n - 1) (drop 1 bytes)), rest)

-- the date and time of a new message, and what comes after it
abbrev pub given_date_at : List ℕ → Option (Option Stamp × List ℕ)
given_date_at bytes = if first_is 34 bytes then quoted_date_at bytes else Some (None, bytes)

-- `}` or `+}`: whether the client waits to be asked, and what comes after it
abbrev pub literal_end : List ℕ → Option (Bool × List ℕ)
literal_end bytes =
    if first_is 43 bytes
    then (past_byte 125 (drop 1 bytes) >>= λ rest. Some (false, rest))
    else (past_byte 125 bytes >>= λ rest. Some (true, rest))

-- the literal that is to come, and what comes after its size
abbrev pub literal_at : List ℕ → Option (Literal × List ℕ)
literal_at bytes = do
  start ← past_byte 123 bytes
  n ← some_len is_digit start
  last ← literal_end (drop n start)
  Some (record { size = min (number_of (take n start)) most_size; waits = last.0 }, last.1)

abbrev pub append_at : List ℕ → Option Command
append_at bytes = do
  start ← past_gap bytes
  name ← string_at is_atom start
  next ← past_gap name.1
  flags ← given_flags_at next
  date ← given_date_at flags.1
  literal ← literal_at date.1
  if_end (say.Append (record { name = name.0; flags = flags.0; date = date.0; literal = literal.0 })) literal.1

-- from behind CHARSET: whether it is known, and what comes after it and a gap
abbrev pub charset_named : List ℕ → Option (Bool × List ℕ)
charset_named bytes = do
  start ← past_gap bytes
  name ← string_at is_atom start
  rest ← past_gap name.1
  Some (is_known_charset name.0, rest)

abbrev pub charset_or : Option KeyWord → List ℕ → List ℕ → Option (Bool × List ℕ)
charset_or (Some Charset) rest bytes = charset_named rest
charset_or _ rest bytes = Some (true, bytes)

-- the charset of a search, which may be left out, and what comes after it
abbrev pub charset_at : List ℕ → Option (Bool × List ℕ)
charset_at bytes = charset_or (key_word_of (key_word_at bytes).0) (key_word_at bytes).1 bytes

-- words that all ask for something, and none of them too
abbrev pub returns_in : List ℕ → Option SearchReturns
returns_in text = if list_all is_return (words text) then Some (returns_among (words text)) else None

-- from behind RETURN: what is asked for, and what comes after it and a gap
abbrev pub returns_named : List ℕ → Option (Option SearchReturns × List ℕ)
returns_named bytes = do
  start ← past_gap bytes
  cut ← parens_at start
  returns ← returns_in cut.0
  rest ← past_gap cut.1
  Some (Some returns, rest)

abbrev pub returns_or : Option KeyWord → List ℕ → List ℕ → Option (Option SearchReturns × List ℕ)
returns_or (Some Return) rest bytes = returns_named rest
returns_or _ rest bytes = Some (None, bytes)

-- what a search is to return, which may be left out, and what comes after it
abbrev pub returns_at : List ℕ → Option (Option SearchReturns × List ℕ)
returns_at bytes = returns_or (key_word_of (key_word_at bytes).0) (key_word_at bytes).1 bytes

abbrev pub search_at : Bool → List ℕ → Option Command
search_at by_uid bytes = do
  start ← past_gap bytes
  returns ← returns_at start
  charset ← charset_at returns.1
  keys ← keys_in charset.1
  Some (say.Search (record { by_uid = by_uid; returns = returns.0; known_charset = charset.0; keys = keys }))

-- the word, if it is of this class
abbrev pub word_if : (ℕ → Bool) → List ℕ → Option (List ℕ)
word_if class word = if is_word_of class word then Some word else None

-- what a client responds before it is asked
abbrev pub initial_at : List ℕ → Option (Option (List ℕ))
initial_at bytes =
    if is_blank bytes
    then Some None
    else (past_gap bytes >>= λ start. word_if is_base64 (word_at start).0 >>= λ word. if_end (Some word) (word_at start).1)

abbrev pub authenticate_at : List ℕ → Option Command
authenticate_at bytes = do
  start ← past_gap bytes
  mechanism ← word_if is_atom (word_at start).0
  initial ← initial_at (word_at start).1
  Some (say.Authenticate (record { mechanism = mechanism; initial = initial }))

-- words that are all atoms, and one at least
abbrev pub are_atoms : List ℕ → Bool
are_atoms text = list_all (is_word_of is_atom) (words text) && not (length (words text) == 0)

abbrev pub enable_at : List ℕ → Option Command
enable_at bytes = do
  start ← past_gap bytes
  if are_atoms start then Some say.Enable else None

-- past a quoted string
abbrev pub past_string : List ℕ → Option (List ℕ)
past_string bytes = if first_is 34 bytes then (string_at is_atom bytes >>= λ read. Some read.1) else None

-- past what is said in a field
abbrev pub past_value : List ℕ → Option (List ℕ)
past_value bytes = if first_is 34 bytes then past_string bytes else past_keyword (codes "NIL") bytes

abbrev pub past_field : List ℕ → Option (List ℕ)
past_field bytes = do
  rest ← past_string bytes
  start ← past_gap rest
  past_value start

abbrev pub next_field : Option (List ℕ) → (List ℕ → Option (List ℕ)) → List ℕ → Option (List ℕ)
next_field None others bytes = Some bytes
next_field (Some start) others bytes = past_field start >>= others

-- past fields, each behind a gap, at most so many times
unfoldable pub past_fields : ℕ → List ℕ → Option (List ℕ)
past_fields zero bytes = None
past_fields (suc n) bytes = next_field (past_gap bytes) (past_fields n) bytes

-- past one field, and as many others as there are
abbrev pub past_all_fields : List ℕ → Option (List ℕ)
past_all_fields bytes = past_field bytes >>= λ rest. past_fields (suc (length rest)) rest

-- from behind the parenthesis that opens, past the one that closes
abbrev pub past_list : List ℕ → Option (List ℕ)
past_list bytes = if first_is 41 bytes then Some (drop 1 bytes) else (past_all_fields bytes >>= past_byte 41)

-- past the parameters of an ID
abbrev pub past_parameters : List ℕ → Option (List ℕ)
past_parameters bytes = if first_is 40 bytes then past_list (drop 1 bytes) else past_keyword (codes "NIL") bytes

abbrev pub id_at : List ℕ → Option Command
id_at bytes = do
  start ← past_gap bytes
  rest ← past_parameters start
  if_end say.Id rest

-- what a verb says with what comes after it. What is left out says nothing
abbrev pub command_at : Verb → List ℕ → Option Command
command_at verbs.Login rest = pair_at is_atom say.Login rest
command_at verbs.Authenticate rest = authenticate_at rest
command_at verbs.StartTls rest = Some say.StartTls
command_at verbs.Select rest = name_alone say.Select rest
command_at verbs.Examine rest = name_alone say.Examine rest
command_at verbs.List rest = pair_at is_pattern say.List rest
command_at verbs.Status rest = status_at rest
command_at verbs.Fetch rest = fetch_at false rest
command_at verbs.Store rest = store_at false rest
command_at verbs.UidFetch rest = fetch_at true rest
command_at verbs.UidStore rest = store_at true rest
command_at verbs.UidExpunge rest = set_alone rest
command_at verbs.Copy rest = copy_at false false rest
command_at verbs.UidCopy rest = copy_at true false rest
command_at verbs.Move rest = copy_at false true rest
command_at verbs.UidMove rest = copy_at true true rest
command_at verbs.Append rest = append_at rest
command_at verbs.Lsub rest = pair_at is_pattern say.Lsub rest
command_at verbs.Subscribe rest = name_alone say.Subscribe rest
command_at verbs.Unsubscribe rest = name_alone say.Unsubscribe rest
command_at verbs.Search rest = search_at false rest
command_at verbs.UidSearch rest = search_at true rest
command_at verbs.Enable rest = enable_at rest
command_at verbs.Id rest = id_at rest
command_at verb rest = alone verb >>= λ command. if_end command rest

-- ---- the line

abbrev pub verb_among : List Verb → List ℕ → Option Verb
verb_among [] word = None
verb_among (v ∷ vs) word = if is_same word (word_of v) then Some v else verb_among vs word

abbrev pub or_else : {A : Type 0} → Option A → Option A → Option A
or_else (Some x) other = Some x
or_else None other = other

-- a verb of one word
abbrev pub verb_alone : List ℕ → Option Verb
verb_alone word = or_else (verb_among offered word) (verb_among left_out word)

-- a verb of one word, and what comes after it
abbrev pub alone_at : List ℕ → Option (Verb × List ℕ)
alone_at bytes = do
  verb ← verb_alone (word_at bytes).0
  Some (verb, (word_at bytes).1)

-- the second word of a verb, and what comes after it
abbrev pub second_at : List ℕ → Option (Verb × List ℕ)
second_at bytes = do
  verb ← verb_among behind_uid (word_at bytes).0
  Some (verb, (word_at bytes).1)

-- the verb at the front, which may be UID and a second word, and what comes after it
abbrev pub verb_at : List ℕ → Option (Verb × List ℕ)
verb_at bytes =
    if is_same (word_at bytes).0 (codes "UID")
    then second_at (after_spaces (word_at bytes).1)
    else alone_at bytes

abbrev pub of_command : List ℕ → Verb → Option Command → Result (List ℕ × Command) ImapFault
of_command tag verb None = Err (Arguments tag verb)
of_command tag verb (Some command) = Ok (tag, command)

abbrev pub of_verb : List ℕ → Option (Verb × List ℕ) → Result (List ℕ × Command) ImapFault
of_verb tag None = Err (Unknown tag)
of_verb tag (Some read) = if is_left_out read.0 then Err (LeftOut tag) else of_command tag read.0 (command_at read.0 read.1)

unfoldable pub read : List ℕ → Result (List ℕ × Command) ImapFault
read line =
    let first = word_at line in
    if is_word_of is_tag first.0 then of_verb first.0 (verb_at (after_spaces first.1)) else Err NoTag

-- the line that ends an IDLE
abbrev pub is_done : List ℕ → Bool
is_done line = is_same (word_at line).0 (codes "DONE") && is_blank (word_at line).1
