-- What a request is answered (RFC 9110, 9 and 15), and what is known of what came where there is no whole request.
use Rattle.std.specs.Prelude.{◌≡◌, ℕ, ◌≤◌, Bool, true, not, List, [], ◌∷◌, codes, length, take, map, count_by, position, Option, Some, None, ◌==◌, ◌&&◌, ◌||◌, if◌then◌else◌}
use Rattle.std.specs.List.{list_any}
use Rattle.std.specs.Str.{bytes_eq, str_eq_ignore_ascii_case as is_same}
use Rattle.std.specs.Io.KnownBytes.{IsAtEnd}
use Rattle.httparse.specs.Grammar.{HasNoRequest, NeverHasRequest, ReadsRequest, RequestHead}
use Rattle.httparse.specs.Spans.{RequestExceeds, name_and_value}
use Rattle.server_report.specs.declared.asking.Answer.{Answer}
use Rattle.server_report.specs.declared.asking.Answer.TheVariants.{Page, Metrics, Unreadable, Misdirected, Unknown, ReadOnly, TooSlow, TooLong}
use Rattle.server_report.specs.declared.asking.Front.{Front}
use Rattle.server_report.specs.declared.asking.Front.TheVariants.{Whole, Unfinished, Never, Crowded}
use Rattle.server_report.specs.declared.asking.Reply.{Reply}

-- so many fields a head may have
abbrev pub most_fields : ℕ
most_fields = 64

-- so many times the next bytes are read
abbrev pub most_reads : ℕ
most_reads = 8

-- ---- a request

-- a question mark begins a query
abbrev pub is_mark : ℕ → Bool
is_mark b = b == 63

abbrev pub up_to : Option ℕ → List ℕ → List ℕ
up_to None bytes = bytes
up_to (Some n) bytes = take n bytes

-- the path of a target: what stands before its first question mark
abbrev pub path_of : List ℕ → List ℕ
path_of target = up_to (position is_mark target) target

abbrev pub what_is_at : List ℕ → Answer
what_is_at path =
    if bytes_eq path (codes "/") then Page
    else if bytes_eq path (codes "/metrics") then Metrics
    else Unknown

abbrev pub is_reading : List ℕ → Bool
is_reading method = bytes_eq method (codes "GET") || bytes_eq method (codes "HEAD")

-- what is there can only be read, and what isn't there can't be at all
abbrev pub answer_to : List ℕ → Answer → Answer
answer_to method Unknown = Unknown
answer_to method what = if is_reading method then what else ReadOnly

-- ---- whom a request is meant for (RFC 9112, 3.2)

-- a colon begins a port
abbrev pub is_colon : ℕ → Bool
is_colon b = b == 58

-- the name of a host: what stands before its first colon
abbrev pub name_of_host : List ℕ → List ℕ
name_of_host host = up_to (position is_colon host) host

-- a host by which this machine calls itself
abbrev pub is_ours : List ℕ → Bool
is_ours host = is_same (name_of_host host) (codes "localhost") || is_same (name_of_host host) (codes "127.0.0.1")

-- a field is a name and a value
abbrev pub is_host : List ℕ × List ℕ → Bool
is_host field = is_same field.0 (codes "Host")

-- a field that names another machine
abbrev pub is_foreign : List ℕ × List ℕ → Bool
is_foreign field = is_host field && not (is_ours field.1)

-- What is answered in place of this answer, where a head has so many fields Host, and one of them is foreign or none. There has to be one, but for
-- HTTP/1.0, and there may be no two (RFC 9112, 3.2). A page elsewhere, whose name leads to this machine, can't read what is told here: its host is
-- foreign (RFC 9110, 7.2 and 15.5.20).
unfoldable pub answer_for : (minor hosts : ℕ) → Bool → Answer → Answer
answer_for minor hosts foreign answer =
    if hosts == 0 then (if minor == 0 then answer else Unreadable)
    else if hosts == 1 then (if foreign then Misdirected else answer)
    else Unreadable

-- the same, by the fields of the head
unfoldable pub answer_among : ℕ → List (List ℕ × List ℕ) → Answer → Answer
answer_among minor fields answer = answer_for minor (count_by is_host fields) (list_any is_foreign fields) answer

abbrev pub reply_of : (method target : List ℕ) (minor : ℕ) → List (List ℕ × List ℕ) → Reply
reply_of method target minor fields = record {
  answer = answer_among minor fields (answer_to method (what_is_at (path_of target)));
  has_body = not (bytes_eq method (codes "HEAD"));
}

-- what a request is answered
abbrev pub reply_to : RequestHead → Reply
reply_to head = reply_of head.method head.target head.minor (map name_and_value head.fields)

-- what came begins with a request that is answered so
abbrev pub IsReplyTo : List ℕ → Reply → Type 0
IsReplyTo came reply = (head : RequestHead) × (rest : List ℕ) × ReadsRequest came head rest × (reply ≡ reply_to head)

-- what an answer says of the bytes that came
abbrev pub Tells : List ℕ → Front → Type 0
Tells came (Whole reply) = IsReplyTo came reply
Tells came Unfinished = HasNoRequest came
Tells came Never = NeverHasRequest came
Tells came Crowded = RequestExceeds most_fields came

-- ---- what came

-- an answer to what is no request, which is sent with its body
abbrev pub refusal : Answer → Reply
refusal answer = record { answer = answer; has_body = true }

-- Why what came is answered so, in a room of so many bytes, where so much is left of the stream.
pub data Grounds (room : ℕ) (left : Option (List ℕ)) (came : List ℕ) (reply : Reply) : Type 0 where
  asked : IsReplyTo came reply → Grounds room left came reply
  -- it never begins with a request, whatever follows
  never : NeverHasRequest came → reply ≡ refusal Unreadable → Grounds room left came reply
  -- the stream ended before a request did
  ended : HasNoRequest came → IsAtEnd left → reply ≡ refusal Unreadable → Grounds room left came reply
  -- it has more fields than it may
  crowded : RequestExceeds most_fields came → reply ≡ refusal TooLong → Grounds room left came reply
  -- there is no room for more of it
  full : HasNoRequest came → length came ≡ room → reply ≡ refusal TooLong → Grounds room left came reply
  -- the next bytes were read as often as they may be, and each time at least one came
  slow : HasNoRequest came → most_reads ≤ length came → reply ≡ refusal TooSlow → Grounds room left came reply

-- What came is answered so.
pub record IsHeard (room : ℕ) (left : Option (List ℕ)) (came : List ℕ) (reply : Reply) : Type 0 where
  -- a request with as many fields as it may have is answered
  pub found : (head : RequestHead) (rest : List ℕ) → ReadsRequest came head rest
      → length head.fields ≤ most_fields → reply ≡ reply_to head
  -- and nothing is answered without a reason
  pub grounds : Grounds room left came reply
