-- What a relay handed over on a connection, by the lines that it sent and the replies that
-- it read (RFC 2033, 4.2; RFC 5321, 3.3), and by nothing else: no seat, no key, no verdict and none of the server's words, but a reply's code.
use Rattle.std.specs.Prelude.{ℕ, Bool, List, [], ◌∷◌, ◌++◌, codes, length, take, drop, ◌||◌, if◌then◌else◌, slice_index_or, ◌≡◌, true, not, ◌==◌}
use Rattle.std.specs.Str.{bytes_eq, str_eq_ignore_ascii_case as is_same}
use Rattle.line_io.specs.Wire.{wire_lines}
use Rattle.std.specs.List.{list_all}

-- ---- what it reads of the bytes that it is told (RFC 5321, 2.3.8 and 4.2)

-- a line of a reply that another follows: a hyphen stands behind the code
abbrev pub goes_on : List ℕ → Bool
goes_on line = bytes_eq (take 1 (drop 3 line)) (45 ∷ [])

-- the reply has this code
abbrev pub is_code : List ℕ → List ℕ → Bool
is_code digits reply = bytes_eq (take 3 reply) digits

-- the replies that these lines are, each by its last line. One that has not ended is none yet
abbrev pub last_lines : List (List ℕ) → List (List ℕ)
last_lines [] = []
last_lines (line ∷ lines) = if goes_on line then last_lines lines else line ∷ last_lines lines

-- the replies in what was told
abbrev pub replies_of : List ℕ → List (List ℕ)
replies_of told = last_lines (wire_lines told)

-- ---- what it sent

-- a line of its own begins with this word, in upper or lower case
abbrev pub begins : List ℕ → List ℕ → Bool
begins word line = is_same (take (length word) line) word

-- What a line asks for, as far as it matters here: to begin a message, to name a recipient, to take the text, or to drop what was begun.
pub data Ask : Type 0 where
  AsksMail AsksRcpt AsksData AsksDrop AsksOther : Ask

abbrev pub ask_of : List ℕ → Ask
ask_of line =
    if begins (codes "MAIL") line then AsksMail
    else if begins (codes "RCPT") line then AsksRcpt
    else if begins (codes "DATA") line then AsksData
    else if begins (codes "RSET") line || begins (codes "LHLO") line then AsksDrop
    else AsksOther

-- the line that ends the data
abbrev pub is_end : List ℕ → Bool
is_end line = bytes_eq line (codes ".")

-- ---- what it knows

-- A message that it handed over: the MAIL line, the RCPT lines that were answered 250, the lines of the data without the dot that ends it, and the
-- replies that it read for it: one for each of those RCPT lines, in their order, or fewer where what was told ends before.
pub record Handed : Type 0 where
  pub mail : List ℕ
  pub recipients : List (List ℕ)
  pub lines : List (List ℕ)
  pub replies : List (List ℕ)

-- where it stands: between messages; behind a MAIL line and RCPT lines that were accepted; or within the data
pub data Relay : Type 0 where
  Between : Relay
  Begun : (mail : List ℕ) → (recipients : List (List ℕ)) → Relay
  Sends : (mail : List ℕ) → (recipients lines : List (List ℕ)) → Relay

-- what a command's reply comes to: by its code alone
abbrev pub after_reply : Ask → Relay → (line reply : List ℕ) → Relay
after_reply AsksMail Between line reply = if is_code (codes "250") reply then Begun line [] else Between
after_reply AsksRcpt (Begun mail recipients) line reply =
    if is_code (codes "250") reply then Begun mail (recipients ++ line ∷ []) else Begun mail recipients
after_reply AsksData (Begun mail recipients) line reply =
    if is_code (codes "354") reply then Sends mail recipients [] else Begun mail recipients
after_reply AsksDrop (Begun mail recipients) line reply = if is_code (codes "250") reply then Between else Begun mail recipients
after_reply _ relay line reply = relay

-- What it handed over, in order, from where it stands on, by the lines that it sent and the replies that
-- it read. Each command has one reply; the lines of data have none, and the dot has one for
-- each recipient that was accepted. Behind the last reply it knows of no message more, but of one whose data it was sending.
abbrev pub handed : Relay → (sent replies : List (List ℕ)) → List Handed
handed relay [] replies = []
handed (Sends mail recipients lines) (line ∷ sent) replies =
    if is_end line
    then record { mail = mail; recipients = recipients; lines = lines; replies = take (length recipients) replies }
    ∷ handed Between sent (drop (length recipients) replies)
    else handed (Sends mail recipients (lines ++ line ∷ [])) sent replies
handed Between (line ∷ sent) [] = []
handed Between (line ∷ sent) (reply ∷ replies) = handed (after_reply (ask_of line) Between line reply) sent replies
handed (Begun mail recipients) (line ∷ sent) [] = []
handed (Begun mail recipients) (line ∷ sent) (reply ∷ replies) = handed (after_reply (ask_of line) (Begun mail recipients) line reply) sent replies

-- by the bytes that it sent and was told on a connection. The first reply is the greeting, and no command's
abbrev pub handed_over : (sent told : List ℕ) → List Handed
handed_over sent told = handed Between (wire_lines sent) (drop 1 (replies_of told))

-- ---- what it makes of that

-- the i-th recipient's copy was taken: it forgets its own
abbrev pub is_taken : Handed → (i : ℕ) → Bool
is_taken message i = is_code (codes "250") (slice_index_or message.replies i [])

-- where there is no message of a number
abbrev pub no_message : Handed
no_message = record { mail = []; recipients = []; lines = []; replies = [] }

-- a server's name that can stand in a line
abbrev pub IsInLine : List ℕ → Type 0
IsInLine host = list_all (λ b. not (b == 10)) host ≡ true
