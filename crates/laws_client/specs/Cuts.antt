-- How a client cuts what it reads into answers: behind each tagged line. What stands in literals is passed over (RFC 9051, 2.2.2, 4.3 and 7).
use Rattle.std.specs.Prelude.{◌≡◌, ◌⊎◌, nat_eq, ◌==◌, ◌&&◌, ◌||◌, ℕ, zero, suc, Bool, false, true, codes, is_some, not, reverse, List, [], ◌∷◌, ◌++◌, Ok, Option, Some, None, if◌then◌else◌}
use Rattle.std.specs.List.{starts_with}
use Rattle.imap_grammar.specs.Reading.{read}
use Rattle.imap_grammar.specs.declared.command.Command.{Command}
use Rattle.imap_grammar.specs.declared.command.Command.TheVariants as commands
use Rattle.imap_session.specs.declared.standing.Profile.{Profile}
use Rattle.imap_session.specs.Exchange.{bye, tagged}
use Rattle.imap_session.specs.Commands.{greeting}
use Rattle.imap_session.specs.Plain.{is_plain}
use Rattle.house_peers.specs.Visitor.{SeatedVisitor}
use Rattle.house.specs.Scene.{Scene, empty_scene}
use Rattle.house.specs.Setup.{Setup}
use Rattle.exactly_once.specs.Promise.{Entry, IsRecord}
use Rattle.laws_client.specs.Client.{literal_of}
use Rattle.imap_session.specs.Happenings.{Answer, Told, bytes_in}
use Rattle.laws_client.specs.ClientRecords.{KeepsUp, KeptUp, shown_by_then, stays_by_then, user_by_then}
use Rattle.laws_client.specs.HouseClients.{IsPrintable, first_standing}

-- ---- a client that cuts

-- The line that has begun, last byte first, without what stands in literals; how many
-- bytes of a literal are still to come; all bytes since the last tagged
-- line; and the answers that were cut, each with the tagged line that ends it.
pub record Cutter : Type 0 where
  pub line : List ℕ
  pub literal : ℕ
  pub begun : List ℕ
  pub answers : List (List ℕ)

-- within a line, and between two lines
abbrev pub amid : (line begun : List ℕ) → List (List ℕ) → Cutter
amid line begun answers = record { line = line; literal = 0; begun = begun; answers = answers }

abbrev pub between : (begun : List ℕ) → List (List ℕ) → Cutter
between begun answers = amid [] begun answers

-- an untagged line begins with a star, and one that says that the client may go on begins with a plus
abbrev pub is_tagged : List ℕ → Bool
is_tagged line = not (starts_with nat_eq line (codes "* ") || starts_with nat_eq line (codes "+ "))

-- a line has ended: where it is tagged, all bytes up to here are an answer
abbrev pub cut_line : Bool → (begun : List ℕ) → List (List ℕ) → Cutter
cut_line true begun answers = between [] (answers ++ begun ∷ [])
cut_line false begun answers = between begun answers

-- behind the end of a line, or behind the count of a literal, with which the line goes on (4.3)
abbrev pub cut_end : Option ℕ → (line begun : List ℕ) → List (List ℕ) → Cutter
cut_end (Some n) line begun answers = record { line = 10 ∷ 13 ∷ line; literal = n; begun = begun; answers = answers }
cut_end None line begun answers = cut_line (is_tagged (reverse line)) begun answers

-- a byte of a line: an LF behind a CR ends it
abbrev pub cut_in_line : (line : List ℕ) → (b : ℕ) → (begun : List ℕ) → List (List ℕ) → Cutter
cut_in_line [] b begun answers = amid (b ∷ []) begun answers
cut_in_line (last ∷ line) b begun answers =
    if (b == 10) && (last == 13) then cut_end (literal_of line) line begun answers else amid (b ∷ last ∷ line) begun answers

-- a byte of a literal is counted, and not read
abbrev pub cut_byte : (literal : ℕ) → (line : List ℕ) → (b : ℕ) → (begun : List ℕ) → List (List ℕ) → Cutter
cut_byte zero line b begun answers = cut_in_line line b begun answers
cut_byte (suc n) line b begun answers = record { line = line; literal = n; begun = begun; answers = answers }

-- when it has read these bytes
abbrev pub cuts : Cutter → List ℕ → Cutter
cuts cutter [] = cutter
cuts cutter (b ∷ bytes) = cuts (cut_byte cutter.literal cutter.line b (cutter.begun ++ b ∷ []) cutter.answers) bytes

-- ---- the answers of a session

-- A client reads it from one line's end to another's, and cuts behind it or not at all: it has one tagged line, which is its last, or none.
pub data IsOneAnswer (bytes : List ℕ) : Type 0 where
  opens : ((begun : List ℕ) (answers : List (List ℕ)) → cuts (between begun answers) bytes ≡ between (begun ++ bytes) answers) → IsOneAnswer bytes
  ends : ((begun : List ℕ) (answers : List (List ℕ)) → cuts (between begun answers) bytes ≡ between [] (answers ++ (begun ++ bytes) ∷ []))
      → IsOneAnswer bytes

-- it ends with a tagged line
abbrev pub has_any : List (List ℕ) → Bool
has_any [] = false
has_any (answer ∷ answers) = true

abbrev pub is_ended : List ℕ → Bool
is_ended bytes = has_any (cuts (between [] []) bytes).answers

-- cut answer by answer: behind each that ends with a tagged line
abbrev pub cut_between : (begun : List ℕ) → List (List ℕ) → List Told → Cutter
cut_between begun answers [] = between begun answers
cut_between begun answers (one ∷ told) =
    if is_ended (bytes_in one) then cut_between [] (answers ++ (begun ++ bytes_in one) ∷ []) told
    else cut_between (begun ++ bytes_in one) answers told

-- ---- whose answers they are

-- the last line has this tag
abbrev pub EndsItself : (tag : List ℕ) → List ℕ → Type 0
EndsItself tag bytes = (front : List ℕ) × (words : List ℕ) × (bytes ≡ front ++ tagged tag words)

-- the last line is a BYE, with which a session ends
abbrev pub SaysBye : List ℕ → Type 0
SaysBye bytes = (front : List ℕ) × (words : List ℕ) × (bytes ≡ front ++ bye words)

-- behind these commands the tagged line comes later: behind DONE, behind the message or the response, or behind the verdict on a copy
abbrev pub leaves_open : Command → Bool
leaves_open commands.Idle = true
leaves_open (commands.Append append) = true
leaves_open (commands.Copy copy) = true
leaves_open (commands.Authenticate a) = is_plain a.mechanism && not (is_some a.initial)
leaves_open command = false

-- The answer to a command ends with the tagged line of the command's own tag. Where it has no tagged line the
-- session has said BYE, or it is IDLE, APPEND, COPY, MOVE, or AUTHENTICATE PLAIN without a response.
abbrev pub IsAnswered : (tag : List ℕ) → Command → List ℕ → Type 0
IsAnswered tag command bytes =
    ((is_ended bytes ≡ true) × EndsItself tag bytes) ⊎ ((is_ended bytes ≡ false) × ((leaves_open command ≡ true) ⊎ SaysBye bytes))

-- ---- all that was told

abbrev pub EachIsOne : List Told → Type 0
EachIsOne [] = Unit {0}
EachIsOne (one ∷ told) = IsOneAnswer (bytes_in one) × EachIsOne told

-- A session's answers are those that the bytes allow, of all that it printed, the greeting of its profile first.
pub record CutsSo (profile : Profile) (told : List Told) (printed : List ℕ) : Type 0 where
  -- each answer has one tagged line at most, and it is its last
  pub each : EachIsOne told
  -- that of the command which it answers
  pub own : (before after : List Told) (line tag bytes : List ℕ) (command : Command) → told ≡ before ++ Answer line bytes ∷ after
      → read line ≡ Ok (tag, command) → IsAnswered tag command bytes
  -- so a client that cuts behind each tagged line cuts between these answers, and nowhere else
  pub cut : cuts (between [] []) printed ≡ cut_between (greeting profile) [] told

-- Over whatever record of a house that was new, of whoever is there: in all that was printed to it and is still to be printed
abbrev pub AnswersAreCut : Type 0
AnswersAreCut = (k : Setup) (entries : List Entry) (t : Scene) (place : ℕ) (v : SeatedVisitor) → IsPrintable k → IsRecord k entries (empty_scene k) t
    → t.visitor place ≡ Some v → v.gone ≡ false → (keeps : KeepsUp k entries place v t)
    × CutsSo (first_standing k (user_by_then place [] entries)).profile keeps.told (shown_by_then place [] entries ++ v.session.unsaid)

-- And of a session that was let in there last, whose client isn't gone, and that has ended by itself: in all that was printed to it
abbrev pub AnswersWereCut : Type 0
AnswersWereCut = (k : Setup) (entries : List Entry) (t : Scene) (place : ℕ) → IsPrintable k → IsRecord k entries (empty_scene k) t
    → stays_by_then place false entries ≡ true → t.visitor place ≡ None → (kept : KeptUp k entries place t)
    × CutsSo (first_standing k (user_by_then place [] entries)).profile kept.told (shown_by_then place [] entries)
