-- Reading a line from left to right. The law `reads` of this crate says that this is the one reading that
-- the grammar allows; nobody has to believe this file.
use Rattle.std.specs.Prelude.{ℕ, zero, suc, ◌-◌, Bool, false, codes, List, [], ◌∷◌, length, take, drop, filter, Option, Some, None, Result, Err}
use Rattle.std.specs.Prelude.{◌==◌, ◌||◌, ◌&&◌, not, if◌then◌else◌}
use Rattle.std.specs.List.{list_all, prefix_len, slice_split}
use Rattle.std.specs.Option.{option_map}
use Rattle.std.specs.Str.{str_eq_ignore_ascii_case as is_same}
use Rattle.envelope.specs.declared.command.Verb.{Verb}
use Rattle.envelope.specs.declared.command.Verb.TheVariants as verbs
use Rattle.envelope.specs.Values.{Address, Path, Null, Postmaster, To, Command}
use Rattle.envelope.specs.Values as say
use Rattle.envelope.specs.declared.reading.Class.{Class}
use Rattle.envelope.specs.declared.reading.Class.TheVariants as classes
use Rattle.envelope.specs.Bytes.{is_space, is_not_space, is_not_slash, is_text, is_graphic, is_atom, is_name, is_literal}
use Rattle.envelope.specs.Grammar.{Form, Plain, Mail, Rcpt, name_of, is_lhlo, judged}
use Rattle.envelope.specs.declared.command.CommandFault.{CommandFault}
use Rattle.envelope.specs.declared.command.CommandFault.TheVariants.{Unknown, Syntax}

-- the bytes of a class
abbrev pub is_of : Class → ℕ → Bool
is_of classes.Space = is_space
is_of classes.NotSpace = is_not_space
is_of classes.NotSlash = is_not_slash
is_of classes.Text = is_text
is_of classes.Graphic = is_graphic
is_of classes.Atom = is_atom
is_of classes.Name = is_name
is_of classes.Literal = is_literal

infixl 10 ◌>>=◌
abbrev pub ◌>>=◌ : {A B : Type 0} → Option A → (A → Option B) → Option B
(Some x) >>= f = f x
None >>= f = None

abbrev pub first_is : ℕ → List ℕ → Bool
first_is b [] = false
first_is b (x ∷ xs) = x == b

-- ---- how long a part at the front is

abbrev pub some_len : (ℕ → Bool) → List ℕ → Option ℕ
some_len class bytes = if prefix_len class bytes == 0 then None else Some (prefix_len class bytes)

-- a quoted string from behind its first quote, and with its last; after a backslash is `escaped`
abbrev pub quoted_len : Bool → List ℕ → Option ℕ
quoted_len escaped [] = None
quoted_len escaped (b ∷ bs) =
    if not escaped && (b == 34) then Some 1
    else if is_text b then option_map suc (quoted_len (not escaped && (b == 92)) bs)
    else None

abbrev pub local_len : List ℕ → Option ℕ
local_len bytes = if first_is 34 bytes then option_map suc (quoted_len false (drop 1 bytes)) else some_len is_atom bytes

-- a domain in brackets from behind the first, and with the last
abbrev pub literal_len : List ℕ → Option ℕ
literal_len bytes = do
  n ← some_len is_literal bytes
  if first_is 93 (drop n bytes) then Some (suc n) else None

abbrev pub domain_len : List ℕ → Option ℕ
domain_len bytes = if first_is 91 bytes then option_map suc (literal_len (drop 1 bytes)) else some_len is_name bytes

-- ---- what is read at the front, and the bytes after it

-- the byte, and what comes after it
abbrev pub past_byte : ℕ → List ℕ → Option (List ℕ)
past_byte b bytes = if first_is b bytes then Some (drop 1 bytes) else None

abbrev pub past_domain : List ℕ → Option (List ℕ)
past_domain bytes = do
  n ← domain_len bytes
  Some (drop n bytes)

-- past `,@`
abbrev pub past_comma : List ℕ → Option (List ℕ)
past_comma bytes = past_byte 44 bytes >>= past_byte 64

abbrev pub next_hop : Option (List ℕ) → (List ℕ → Option (List ℕ)) → List ℕ → Option (List ℕ)
next_hop None others bytes = Some bytes
next_hop (Some start) others bytes = past_domain start >>= others

-- past `,@domain`, at most so many times
unfoldable pub past_hops : ℕ → List ℕ → Option (List ℕ)
past_hops zero bytes = None
past_hops (suc n) bytes = next_hop (past_comma bytes) (past_hops n) bytes

-- as often as there are some
unfoldable pub past_all_hops : List ℕ → Option (List ℕ)
past_all_hops bytes = past_hops (suc (length bytes)) bytes

abbrev pub past_route : List ℕ → Option (List ℕ)
past_route bytes =
    if first_is 64 bytes
    then (past_domain (drop 1 bytes) >>= past_all_hops >>= past_byte 58)
    else Some bytes

abbrev pub address_at : List ℕ → Option (Address × List ℕ)
address_at bytes = do
  n ← local_len bytes
  rest ← past_byte 64 (drop n bytes)
  m ← domain_len rest
  Some (record { local = take n bytes; domain = take m rest }, drop m rest)

abbrev pub path_at : List ℕ → Option (Address × List ℕ)
path_at bytes = do
  inner ← past_byte 60 bytes
  start ← past_route inner
  read ← address_at start
  rest ← past_byte 62 read.1
  Some (read.0, rest)

abbrev pub path_to : Address × List ℕ → Path × List ℕ
path_to read = (To read.0, read.1)

abbrev pub reverse_at : List ℕ → Option (Path × List ℕ)
reverse_at bytes =
    if first_is 60 bytes && first_is 62 (drop 1 bytes) then Some (Null, drop 2 bytes) else option_map path_to (path_at bytes)

-- past the keyword, in upper or lower case
abbrev pub past_keyword : List ℕ → List ℕ → Option (List ℕ)
past_keyword keyword bytes =
    if is_same (take (length keyword) bytes) keyword then Some (drop (length keyword) bytes) else None

abbrev pub or_path : Option (List ℕ) → List ℕ → Option (Path × List ℕ)
or_path None bytes = option_map path_to (path_at bytes)
or_path (Some rest) bytes = Some (Postmaster, rest)

unfoldable pub forward_at : List ℕ → Option (Path × List ℕ)
forward_at bytes = or_path (past_keyword (codes "<postmaster>") bytes) bytes

-- the parts between spaces
abbrev pub has_bytes : List ℕ → Bool
has_bytes word = not (length word == 0)

abbrev pub words : List ℕ → List (List ℕ)
words bytes = filter has_bytes (slice_split is_space bytes)

-- nothing, or a space and what follows; all of it text
abbrev pub is_tail : List ℕ → Bool
is_tail bytes = (first_is 32 bytes || (length bytes == 0)) && list_all is_text bytes

-- ---- the line

abbrev pub after_spaces : List ℕ → List ℕ
after_spaces bytes = drop (prefix_len is_space bytes) bytes

abbrev pub with_words : (List ℕ → Path → List (List ℕ) → Form) → List ℕ → Path × List ℕ → Option Form
with_words make start read =
    if is_tail read.1
    then Some (make (take (length start - length read.1) start) read.0 (words read.1))
    else None

-- FROM: or TO:, the path and the parameters
abbrev pub addressed : List ℕ → (List ℕ → Option (Path × List ℕ)) → (List ℕ → Path → List (List ℕ) → Form) → List ℕ → Option Form
addressed keyword at make bytes = do
  rest ← past_keyword keyword (after_spaces bytes)
  read ← at (after_spaces rest)
  with_words make (after_spaces rest) read

-- the verb alone
abbrev pub alone : Command → List ℕ → Option Form
alone command rest = if length (words rest) == 0 then Some (Plain command) else None

-- what stands after the verb is right for it
abbrev pub form_of : Verb → List ℕ → Option Form
form_of verbs.Lhlo rest = if list_all is_text rest && (length (words rest) == 1) then Some (Plain say.Lhlo) else None
form_of verbs.Mail rest = addressed (codes "FROM:") reverse_at Mail rest
form_of verbs.Rcpt rest = addressed (codes "TO:") forward_at Rcpt rest
form_of verbs.Data rest = alone say.Data rest
form_of verbs.Rset rest = alone say.Rset rest
form_of verbs.Quit rest = alone say.Quit rest
form_of verbs.Noop rest = if list_all is_text rest then Some (Plain say.Noop) else None
form_of verbs.Vrfy rest = if list_all is_text rest && not (length (words rest) == 0) then Some (Plain say.Vrfy) else None
form_of verbs.Expn rest = Some (Plain say.Expn)
form_of verbs.Help rest = Some (Plain say.Help)

abbrev pub all_verbs : List Verb
all_verbs = verbs.Lhlo ∷ verbs.Mail ∷ verbs.Rcpt ∷ verbs.Data ∷ verbs.Rset ∷ verbs.Quit ∷ verbs.Noop ∷ verbs.Vrfy ∷ verbs.Expn ∷ verbs.Help ∷ []

abbrev pub verb_among : List Verb → List ℕ → Option Verb
verb_among [] word = None
verb_among (v ∷ vs) word = if is_same word (name_of v) then Some v else verb_among vs word

abbrev pub verb_of : List ℕ → Option Verb
verb_of = verb_among all_verbs

abbrev pub of_form : Verb → Option Form → Result Command CommandFault
of_form verb None = Err (Syntax (is_lhlo verb))
of_form verb (Some form) = judged form

abbrev pub of_verb : Option Verb → List ℕ → Result Command CommandFault
of_verb None rest = Err Unknown
of_verb (Some verb) rest = of_form verb (form_of verb rest)

unfoldable pub read : List ℕ → Result Command CommandFault
read line =
    let n = prefix_len is_not_space line in
    of_verb (verb_of (take n line)) (drop n line)
