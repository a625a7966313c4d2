-- A script: what its lines are, what each does to the house, and what is written.
use Rattle.std.specs.Prelude.{◌≡◌, ℕ, ◌+◌, ◌-◌, ◌<◌, ◌≤◌, ◌==◌, ◌&&◌, nat_eq, nat_le, nat_lt, ◌⊎◌, Bool, true, false, if◌then◌else◌, List, [], ◌∷◌, ◌++◌, length, map, drop, codes, replicate, slice_set, Some, None, Result, Ok, Err}
use Rattle.std.specs.Io.BufRead.{ends_with_byte, strip_last}
use Rattle.std.specs.List.{list_all, list_any, starts_with}
use Rattle.std.specs.Str.Parse.{digits_value}
use Rattle.hex.specs.Hex.{decode_of}
use Rattle.hex.specs.declared.error.FromHexError.{FromHexError}
use Rattle.envelope.specs.Names.{number_of}
use Rattle.line_io.specs.Wire.{crlf}
use Rattle.house_peers.specs.Caller.{Caller}
use Rattle.house.specs.Setup.{Setup}
use Rattle.house.specs.Scene.{BytesPlay, ClosePlay, EnterPlay, LeavePlay, SayPlay, Scene, VanishPlay, is_shut_in, most_serials, place_of, seat_of}
use Rattle.house.specs.Settled.{is_held}
use Rattle.house.specs.Settling.{Settles}
use Rattle.house.specs.Window.{window_text}
use Rattle.imap_session.specs.Folders.{has_user}
use Rattle.house_peers.specs.Visitor.{SeatedVisitor}
use Rattle.script.specs.Promise.{refusal}
use Rattle.script.specs.declared.line.ScriptLine as read
use Rattle.script.specs.declared.line.ScriptLine.TheVariants as reads

-- ---- the lines of a script

-- the input in pieces, each up to and with its LF; the last may lack it
abbrev pub put_first : ℕ → List (List ℕ) → List (List ℕ)
put_first b [] = (b ∷ []) ∷ []
put_first b (piece ∷ pieces) = (b ∷ piece) ∷ pieces

abbrev pub pieces : List ℕ → List (List ℕ)
pieces [] = []
pieces (b ∷ bs) = if b == 10 then (10 ∷ []) ∷ pieces bs else put_first b (pieces bs)

-- a piece without its LF, and without a CR before that
abbrev pub line_of : List ℕ → List ℕ
line_of piece = if ends_with_byte 10 piece then strip_last 13 (strip_last 10 piece) else piece

pub data ScriptLine : Type 0 where
  -- these bytes come from the peer of a connection
  Sends : (connection : ℕ) → List ℕ → ScriptLine
  -- the peer of a connection is gone
  Vanishes : (connection : ℕ) → ScriptLine
  -- a session of this user begins
  Enters : (session : ℕ) → (user : List ℕ) → ScriptLine
  -- these bytes come from the client of a session
  Asks : (session : ℕ) → List ℕ → ScriptLine
  -- the client of a session is gone
  Leaves : (session : ℕ) → ScriptLine
  -- a shard's consumer stands still from now on
  Hold : (shard : ℕ) → ScriptLine
  -- it goes on
  Free : (shard : ℕ) → ScriptLine
  -- a shard is shut
  Closes : (shard : ℕ) → ScriptLine
  -- a mailbox's window is to be printed
  Tail : List ℕ → ScriptLine
  -- an empty line, or one that begins with #
  Skip : ScriptLine
  Bad : ScriptLine

-- the most bytes of a line, without its end
abbrev pub most_bytes : ℕ
most_bytes = 65536

abbrev pub has_space : List ℕ → Bool
has_space bytes = list_any (λ b. b == 32) bytes

-- the number of a connection or a session is one digit from 1 to 8
abbrev pub is_one_to_eight : ℕ → Bool
is_one_to_eight b = nat_le 49 b && nat_le b 56

-- the line that brings the bytes which were written in hexadecimal digits, if they could be read and there are any
abbrev pub brought : (brings : List ℕ → ScriptLine) → Result (List ℕ) FromHexError → ScriptLine
brought brings (Err fault) = Bad
brought brings (Ok []) = Bad
brought brings (Ok (b ∷ bytes)) = brings (b ∷ bytes)

-- `x hex`: one space, and then pairs of digits in either case
abbrev pub in_hex : (brings : List ℕ → ScriptLine) → List ℕ → ScriptLine
in_hex brings [] = Bad
in_hex brings (b ∷ digits) = if b == 32 then brought brings (decode_of digits) else Bad

-- `!` and nothing behind it
abbrev pub gone_alone : (gone : ScriptLine) → List ℕ → ScriptLine
gone_alone gone [] = gone
gone_alone gone (b ∷ more) = Bad

-- what stands behind a number: nothing, ` text`, `x hex` or `!`
abbrev pub behind_number : (brings : List ℕ → ScriptLine) → (gone : ScriptLine) → List ℕ → ScriptLine
behind_number brings gone [] = brings crlf
behind_number brings gone (b ∷ rest) =
    if b == 32 then brings (rest ++ crlf)
    else if b == 120 then in_hex brings rest
    else if b == 33 then gone_alone gone rest
    else Bad

abbrev pub of_connection : ℕ → List ℕ → ScriptLine
of_connection connection rest = behind_number (Sends connection) (Vanishes connection) rest

-- behind `I<n>` also `=user`; the user's word is all that follows
abbrev pub of_session : ℕ → List ℕ → ScriptLine
of_session session [] = Asks session crlf
of_session session (b ∷ rest) = if b == 61 then Enters session rest else behind_number (Asks session) (Leaves session) (b ∷ rest)

-- what follows an L or an I
abbrev pub numbered : (behind : ℕ → List ℕ → ScriptLine) → List ℕ → ScriptLine
numbered behind [] = Bad
numbered behind (n ∷ rest) = if is_one_to_eight n then behind (n - 48) rest else Bad

-- `TAIL word`, with one space and none in the word
abbrev pub tail_of : List ℕ → ScriptLine
tail_of word = if has_space word then Bad else Tail word

abbrev pub is_digit : ℕ → Bool
is_digit b = nat_le 48 b && nat_le b 57

-- a shard's number: digits, as many as one likes, and nothing else
abbrev pub is_number : List ℕ → Bool
is_number [] = false
is_number (b ∷ bytes) = list_all is_digit (b ∷ bytes)

-- `HOLD s` and `FREE s`, with one space
abbrev pub held_of : List ℕ → ScriptLine
held_of digits = if is_number digits then Hold (digits_value 10 digits) else Bad

abbrev pub freed_of : List ℕ → ScriptLine
freed_of digits = if is_number digits then Free (digits_value 10 digits) else Bad

-- `CLOSE s`, with one space
abbrev pub closed_of : List ℕ → ScriptLine
closed_of digits = if is_number digits then Closes (digits_value 10 digits) else Bad

-- the line begins with this text
abbrev pub begins : List ℕ → List ℕ → Bool
begins text line = starts_with nat_eq line text

abbrev pub is_skipped : List ℕ → Bool
is_skipped [] = true
is_skipped (b ∷ bs) = b == 35

-- `L` or `I`, and what follows it
abbrev pub by_letter : List ℕ → ScriptLine
by_letter line =
    if begins (codes "L") line then numbered of_connection (drop 1 line)
    else if begins (codes "I") line then numbered of_session (drop 1 line)
    else Bad

-- what a line asks for that is no comment and not too long
abbrev pub request_of : List ℕ → ScriptLine
request_of line =
    if begins (codes "TAIL ") line then tail_of (drop 5 line)
    else if begins (codes "HOLD ") line then held_of (drop 5 line)
    else if begins (codes "FREE ") line then freed_of (drop 5 line)
    else if begins (codes "CLOSE ") line then closed_of (drop 6 line)
    else by_letter line

-- what a line asks for: comments are skipped whatever their length
abbrev pub asked : List ℕ → ScriptLine
asked line =
    if is_skipped line then Skip
    else if nat_lt most_bytes (length line) then Bad
    else request_of line

-- a line that was read, as a line of the script
abbrev pub as_spec : read.ScriptLine → ScriptLine
as_spec (reads.Says connection text) = Sends connection (text.now ++ crlf)
as_spec (reads.SaysInHex connection digits) = brought (Sends connection) (decode_of digits.now)
as_spec (reads.Vanishes connection) = Vanishes connection
as_spec (reads.Enters session user) = Enters session user.now
as_spec (reads.Asks session text) = Asks session (text.now ++ crlf)
as_spec (reads.AsksInHex session digits) = brought (Asks session) (decode_of digits.now)
as_spec (reads.Leaves session) = Leaves session
as_spec (reads.Hold digits) = Hold (digits_value 10 digits.now)
as_spec (reads.Free digits) = Free (digits_value 10 digits.now)
as_spec (reads.Closes digits) = Closes (digits_value 10 digits.now)
as_spec (reads.Tail word) = Tail word.now
as_spec reads.Skip = Skip
as_spec reads.Bad = Bad

-- a shard's number is digits
abbrev pub HasDigits : read.ScriptLine → Type 0
HasDigits (reads.Says connection text) = Unit {0}
HasDigits (reads.SaysInHex connection digits) = Unit {0}
HasDigits (reads.Vanishes connection) = Unit {0}
HasDigits (reads.Enters session user) = Unit {0}
HasDigits (reads.Asks session text) = Unit {0}
HasDigits (reads.AsksInHex session digits) = Unit {0}
HasDigits (reads.Leaves session) = Unit {0}
HasDigits (reads.Hold digits) = list_all is_digit digits.now ≡ true
HasDigits (reads.Free digits) = list_all is_digit digits.now ≡ true
HasDigits (reads.Closes digits) = list_all is_digit digits.now ≡ true
HasDigits (reads.Tail word) = Unit {0}
HasDigits reads.Skip = Unit {0}
HasDigits reads.Bad = Unit {0}

abbrev pub script_of : List ℕ → List ScriptLine
script_of input = map (λ piece. asked (line_of piece)) (pieces input)

-- ---- what a script does

-- there is no such connection
abbrev pub IsNoConnection : Setup → ℕ → Type 0
IsNoConnection k connection = (connection ≡ 0) ⊎ (k.connections < connection)

-- nobody is at the connection's seat
abbrev pub IsAway : Setup → Scene → ℕ → Type 0
IsAway k s connection = IsNoConnection k connection ⊎ (s.caller (seat_of connection) ≡ None)

-- nobody is there, and the seat takes no more: its serials are spent
abbrev pub NobodyThere : Setup → Scene → ℕ → Type 0
NobodyThere k s connection = IsNoConnection k connection
    ⊎ ((s.caller (seat_of connection) ≡ None) × (most_serials ≤ s.next (seat_of connection)))

-- the seat still waits for the verdicts of a connection whose peer is gone
abbrev pub IsOwing : Scene → ℕ → Type 0
IsOwing s connection = (b : Caller) × (s.caller (seat_of connection) ≡ Some b) × (b.gone ≡ true)

-- there is no such session
abbrev pub IsNoSession : Setup → ℕ → Type 0
IsNoSession k session = (session ≡ 0) ⊎ (k.config.sessions < session)

-- nobody is at the session's place
abbrev pub IsUnvisited : Setup → Scene → ℕ → Type 0
IsUnvisited k s session = IsNoSession k session ⊎ (s.visitor (place_of session) ≡ None)

-- somebody is at the session's place
abbrev pub IsVisited : Scene → ℕ → Type 0
IsVisited s session = (v : SeatedVisitor) × (s.visitor (place_of session) ≡ Some v)

-- its client is gone, and it still waits for the verdict on a message
abbrev pub IsLingering : Scene → ℕ → Type 0
IsLingering s session = (v : SeatedVisitor) × (s.visitor (place_of session) ≡ Some v) × (v.gone ≡ true)

-- nobody is at its place, and the seat takes no more: its serials are spent
abbrev pub IsSpentSession : Scene → ℕ → Type 0
IsSpentSession s session = (s.visitor (place_of session) ≡ None) × (most_serials ≤ s.entered (place_of session))

-- there is no such user, compared byte by byte
abbrev pub IsUnknown : Setup → (user : List ℕ) → Type 0
IsUnknown k user = has_user k.directory user ≡ false

module _ (k : Setup) (number : ℕ) (s t : Scene) (printed : List ℕ) where
  -- what the line itself does, before the house settles
  pub data LineDoes : ScriptLine → Type 0 where
    sends : (connection : ℕ) (bytes : List ℕ) → BytesPlay k true s (seat_of connection) bytes t printed
        → LineDoes (Sends connection bytes)
    sends_to_nobody : (connection : ℕ) (bytes : List ℕ) → NobodyThere k s connection → t ≡ s → printed ≡ refusal number (codes "Nobody")
        → LineDoes (Sends connection bytes)
    sends_to_owing : (connection : ℕ) (bytes : List ℕ) → IsOwing s connection → t ≡ s → printed ≡ refusal number (codes "Busy")
        → LineDoes (Sends connection bytes)
    vanishes : (connection : ℕ) → VanishPlay k true s (seat_of connection) t printed → LineDoes (Vanishes connection)
    vanishes_away : (connection : ℕ) → IsAway k s connection → t ≡ s → printed ≡ refusal number (codes "Nobody")
        → LineDoes (Vanishes connection)
    vanishes_again : (connection : ℕ) → IsOwing s connection → t ≡ s → printed ≡ refusal number (codes "Busy")
        → LineDoes (Vanishes connection)
    enters : (session : ℕ) (user : List ℕ) → EnterPlay k true s (place_of session) user t printed → LineDoes (Enters session user)
    enters_nowhere : (session : ℕ) (user : List ℕ) → IsNoSession k session ⊎ (IsUnknown k user ⊎ IsSpentSession s session) → t ≡ s
        → printed ≡ refusal number (codes "Nobody")
        → LineDoes (Enters session user)
    enters_taken : (session : ℕ) (user : List ℕ) → (IsUnknown k user → ⊥) → IsVisited s session → t ≡ s → printed ≡ refusal number (codes "Busy")
        → LineDoes (Enters session user)
    asks : (session : ℕ) (bytes : List ℕ) → SayPlay k true s (place_of session) bytes t printed → LineDoes (Asks session bytes)
    asks_nobody : (session : ℕ) (bytes : List ℕ) → IsUnvisited k s session → t ≡ s → printed ≡ refusal number (codes "Nobody")
        → LineDoes (Asks session bytes)
    asks_lingering : (session : ℕ) (bytes : List ℕ) → IsLingering s session → t ≡ s → printed ≡ refusal number (codes "Busy")
        → LineDoes (Asks session bytes)
    leaves : (session : ℕ) → LeavePlay k s (place_of session) t printed → LineDoes (Leaves session)
    leaves_nobody : (session : ℕ) → IsUnvisited k s session → t ≡ s → printed ≡ refusal number (codes "Nobody")
        → LineDoes (Leaves session)
    leaves_again : (session : ℕ) → IsLingering s session → t ≡ s → printed ≡ refusal number (codes "Busy")
        → LineDoes (Leaves session)
    -- what is held is said by `held_after`
    stands_still : (shard : ℕ) → shard < k.config.shards → t ≡ s → printed ≡ [] → LineDoes (Hold shard)
    stands_nobody : (shard : ℕ) → k.config.shards ≤ shard → t ≡ s → printed ≡ refusal number (codes "Nobody")
        → LineDoes (Hold shard)
    goes_again : (shard : ℕ) → shard < k.config.shards → t ≡ s → printed ≡ [] → LineDoes (Free shard)
    goes_nobody : (shard : ℕ) → k.config.shards ≤ shard → t ≡ s → printed ≡ refusal number (codes "Nobody") → LineDoes (Free shard)
    closes : (shard : ℕ) → ClosePlay k s shard t printed → LineDoes (Closes shard)
    closes_nobody : (shard : ℕ) → k.config.shards ≤ shard → t ≡ s → printed ≡ refusal number (codes "Nobody")
        → LineDoes (Closes shard)
    closes_again : (shard : ℕ) → is_shut_in s shard ≡ true → t ≡ s → printed ≡ refusal number (codes "Busy")
        → LineDoes (Closes shard)
    tails : (word : List ℕ) (m : ℕ) → number_of k.directory word ≡ Some m → t ≡ s → printed ≡ window_text word (s.world.box m)
        → LineDoes (Tail word)
    tails_nobody : (word : List ℕ) → number_of k.directory word ≡ None → t ≡ s → printed ≡ refusal number (codes "Nobody")
        → LineDoes (Tail word)
    skips : t ≡ s → printed ≡ [] → LineDoes Skip
    is_bad : t ≡ s → printed ≡ refusal number (codes "Line") → LineDoes Bad

-- by shard, whether its consumer stands still: none does at the start
abbrev pub none_held : Setup → List Bool
none_held k = replicate k.config.shards false

-- the same after a line; a shard that isn't there can't be held
abbrev pub held_after : List Bool → ScriptLine → List Bool
held_after held (Sends connection bytes) = held
held_after held (Vanishes connection) = held
held_after held (Enters session user) = held
held_after held (Asks session bytes) = held
held_after held (Leaves session) = held
held_after held (Hold shard) = slice_set held shard true
held_after held (Free shard) = slice_set held shard false
held_after held (Closes shard) = held
held_after held (Tail word) = held
held_after held Skip = held
held_after held Bad = held

-- the same after some lines
abbrev pub held_by : List Bool → List ScriptLine → List Bool
held_by held [] = held
held_by held (line ∷ lines) = held_by (held_after held line) lines

module _ (k : Setup) (number : ℕ) (held : List Bool) where
  -- a line, and then the house settles
  pub record LinePlays (line : ScriptLine) (s t : Scene) (printed : List ℕ) : Type 0 where
    pub between : Scene
    pub one : List ℕ
    pub two : List ℕ
    pub does : LineDoes k number s between one line
    pub settles : Settles k (is_held (held_after held line)) between t two
    pub both : printed ≡ one ++ two

-- the lines from this number on, where these shards are held
abbrev pub Script : Setup → ℕ → List Bool → List ScriptLine → Scene → Scene → List ℕ → Type 0
Script k number held [] s t printed = (t ≡ s) × (printed ≡ [])
Script k number held (line ∷ lines) s t printed = (m : Scene) × (one : List ℕ) × (two : List ℕ)
    × LinePlays k number held line s m one × Script k (number + 1) (held_after held line) lines m t two × (printed ≡ one ++ two)
