-- A client that knows which of its own lines were SELECT, EXAMINE, CLOSE or UNSELECT, and reads whatever it is told.
use Rattle.std.specs.Prelude.{◌≡◌, ℕ, nat_eq, ◌==◌, ◌&&◌, ◌||◌, Bool, true, false, codes, drop, length, reverse, take, List, [], ◌∷◌, ◌++◌, Option, Some, None, Result, Ok, if◌then◌else◌}
use Rattle.std.specs.List.{starts_with}
use Rattle.std.specs.Option.{option_map}
use Rattle.line_io.specs.Wire.{crlf}
use Rattle.imap_grammar.specs.Bytes.{is_tag}
use Rattle.imap_grammar.specs.Items.{is_word_of}
use Rattle.imap_grammar.specs.Literals.{announced, quoted}
use Rattle.imap_grammar.specs.Reading.{read}
use Rattle.imap_grammar.specs.declared.command.Authenticate.{Authenticate}
use Rattle.imap_grammar.specs.declared.command.Command.{Command}
use Rattle.imap_grammar.specs.declared.command.Command.TheVariants as commands
use Rattle.imap_grammar.specs.declared.command.ImapFault.{ImapFault}
use Rattle.imap_grammar.specs.declared.command.Literal.{Literal}
use Rattle.imap_session.specs.Commands.{response_in}
use Rattle.laws_client.specs.Client.{Client, Known, knowing, reads}
use Rattle.imap_session.specs.Happenings.{Answer, Told, Words}

-- ---- what it asked

-- what a line asks of the list: with this tag to enter a mailbox (RFC 9051, 6.3.2 and 6.3.3), or to leave it (6.4.1 and 6.4.2), or neither
pub data Asked : Type 0 where
  Entering : (tag : List ℕ) → Asked
  Leaving : (tag : List ℕ) → Asked
  Neither : Asked

abbrev pub asked : Result (List ℕ × Command) ImapFault → Asked
asked (Ok (tag, commands.Select name)) = Entering tag
asked (Ok (tag, commands.Examine name)) = Entering tag
asked (Ok (tag, commands.Close)) = Leaving tag
asked (Ok (tag, commands.Unselect)) = Leaving tag
asked line = Neither

-- ---- how it was answered

-- one of the lines is this tag's OK (7.1.1); at the first of these bytes a line begins, or it doesn't
abbrev pub has_ok : (at_line : Bool) → (tag : List ℕ) → List ℕ → Bool
has_ok at_line tag [] = false
has_ok at_line tag (b ∷ bytes) = (at_line && starts_with nat_eq (b ∷ bytes) (tag ++ codes " OK ")) || has_ok (b == 10) tag bytes

-- ---- what it keeps

-- it reads on in the mailbox that it knows it is in
abbrev pub reads_on : List ℕ → Option Client → Option Client
reads_on bytes client = option_map (λ (c : Client). reads c bytes) client

-- The answer to a line. Where SELECT or EXAMINE is answered OK a list begins with the answer; where it is not, it is in no mailbox (6.3.2).
-- CLOSE and UNSELECT take the list away where they are answered OK. Whatever else it asked, it reads on.
abbrev pub answered : Asked → List ℕ → Option Client → Option Client
answered (Entering tag) bytes client = if has_ok true tag bytes then Some (reads (knowing (Some [])) bytes) else None
answered (Leaving tag) bytes client = if has_ok true tag bytes then None else reads_on bytes client
answered Neither bytes client = reads_on bytes client

abbrev pub hears : Option Client → Told → Option Client
hears client (Answer line bytes) = answered (asked (read line)) bytes client
hears client (Words bytes) = reads_on bytes client

-- what it keeps when it was told all this
abbrev pub hears_all : Option Client → List Told → Option Client
hears_all client [] = client
hears_all client (one ∷ more) = hears_all (hears client one) more

-- ---- how an answer ends

-- up to the first LF, without that
abbrev pub before_lf : List ℕ → List ℕ
before_lf [] = []
before_lf (b ∷ bytes) = if b == 10 then [] else b ∷ before_lf bytes

-- the last line, without the CRLF that ends it: what stands behind the LF before
abbrev pub last_line : List ℕ → List ℕ
last_line bytes = reverse (before_lf (drop 2 (reverse bytes)))

-- The last line has these words behind this tag, which is one as a client may choose it (RFC 9051, 9). It is the last line alone: a text that a FETCH
-- tells may have any line.
pub record EndsWith (tag words bytes : List ℕ) : Type 0 where
  pub chosen : is_word_of is_tag tag ≡ true
  pub last : last_line bytes ≡ tag ++ codes " " ++ words

-- The OK of a NOOP, or one that ends what came to no command, so that of a DONE or of a message (RFC 9051, 6.1.2 and 6.3.12; RFC 2177).
pub data IsOk : Told → Type 0 where
  of_noop : (line tag bytes : List ℕ) → read line ≡ Ok (tag, commands.Noop) → has_ok true tag bytes ≡ true → IsOk (Answer line bytes)
  of_other : (tag words bytes : List ℕ) → EndsWith tag (codes "OK " ++ words) bytes → IsOk (Words bytes)

-- ---- what it sent as a command

-- With these bytes, and a CRLF behind them, a client sends this as the line of a command: they are it; or behind the line so far, which announces a
-- literal, comes that, which stands in its place as the quoted string that says the same, and the rest of the line (RFC 9051, 4.3); or behind
-- AUTHENTICATE comes its response (6.2.2).
pub data IsSpelled : (bytes line : List ℕ) → Type 0 where
  as_it_stands : (line : List ℕ) → IsSpelled line line
  with_literal : (bytes line : List ℕ) (found : ℕ × Literal) (text rest : List ℕ) → IsSpelled bytes line → announced line ≡ Some found
      → length text ≡ found.1.size → IsSpelled (bytes ++ crlf ++ text ++ rest) (take found.0 line ++ quoted text ++ rest)
  with_response : (bytes line tag : List ℕ) (a : Authenticate) (response : List ℕ) → IsSpelled bytes line
      → read line ≡ Ok (tag, commands.Authenticate a) → IsSpelled (bytes ++ crlf ++ response) (line ++ codes " " ++ response_in response)

-- ---- when it is right

-- the list is as long as the view, and this holds of each message of the view and of what is known of it
abbrev pub Each : (ℕ → Known → Type 0) → List ℕ → List Known → Type 0
Each P [] [] = Unit {0}
Each P [] (message ∷ list) = ⊥
Each P (uid ∷ view) [] = ⊥
Each P (uid ∷ view) (message ∷ list) = P uid message × Each P view list

-- the UID, where it is known, is the message's own (RFC 9051, 2.3.1.1)
abbrev pub IsOf : ℕ → Known → Type 0
IsOf uid message = (n : ℕ) → message.uid ≡ Some n → n ≡ uid

-- The client is right about the messages that its session counts: each has its position in the
-- list, and no other, and where the client knows a UID it is the one at that position.
abbrev pub IsRight : List ℕ → List Known → Type 0
IsRight view list = Each IsOf view list

-- Where a client knows that it is in a mailbox it is between two lines, it was told no number that it can't have, and its list is as long as this
-- view. This holds of each message of the view and of what is known of it.
abbrev pub IsRightBy : (ℕ → Known → Type 0) → List ℕ → Option Client → Type 0
IsRightBy P view None = Unit {0}
IsRightBy P view (Some client) = (list : List Known) × (client ≡ knowing (Some list)) × Each P view list

-- each UID that it knows is the one at that position
abbrev pub IsRightAbout : List ℕ → Option Client → Type 0
IsRightAbout view client = IsRightBy IsOf view client

-- ---- when it knows where it is

-- neither of these is the answer to a SELECT, EXAMINE, CLOSE or UNSELECT
abbrev pub StaysThere : List Told → Type 0
StaysThere [] = Unit {0}
StaysThere (Answer line bytes ∷ told) = (asked (read line) ≡ Neither) × StaysThere told
StaysThere (Words bytes ∷ told) = StaysThere told

-- From a SELECT or EXAMINE that was answered OK on, it knows where it is, for as long as it asks for neither of the four.
abbrev pub KnowsWhereItIs : Type 0
KnowsWhereItIs = (before : Option Client) (line tag bytes : List ℕ) (told : List Told) → asked (read line) ≡ Entering tag
    → has_ok true tag bytes ≡ true → StaysThere told
    → (client : Client) × (hears_all before (Answer line bytes ∷ told) ≡ Some client)
