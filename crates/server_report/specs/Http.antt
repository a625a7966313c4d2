-- How an answer is spelled (RFC 9112, 3 to 6; RFC 9110, 8.3, 8.6, 10.2.1 and 15; RFC 9111, 5.2.2.5).
use Rattle.std.specs.Prelude.{◌≡◌, ℕ, ◌⊎◌, List, [], ◌++◌, codes, decimal, length, if◌then◌else◌}
use Rattle.server_report.specs.declared.asking.Answer.{Answer}
use Rattle.server_report.specs.declared.asking.Answer.TheVariants.{Page, Metrics, Unreadable, Misdirected, Unknown, ReadOnly, TooSlow, TooLong, NoMemory}
use Rattle.server_report.specs.declared.asking.Reply.{Reply}
use Rattle.server_report.specs.declared.figures.Snapshot.{Snapshot}
use Rattle.server_report.specs.Metrics.{metrics_text}
use Rattle.server_report.specs.Page.{page_text}

-- the status code and the reason phrase
unfoldable pub status_words : Answer → List ℕ
status_words Page = codes "200 OK"
status_words Metrics = codes "200 OK"
status_words Unreadable = codes "400 Bad Request"
status_words Misdirected = codes "421 Misdirected Request"
status_words Unknown = codes "404 Not Found"
status_words ReadOnly = codes "405 Method Not Allowed"
status_words TooSlow = codes "408 Request Timeout"
status_words TooLong = codes "431 Request Header Fields Too Large"
status_words NoMemory = codes "503 Service Unavailable"

unfoldable pub media_type : Answer → List ℕ
media_type Page = codes "text/html; charset=utf-8"
media_type Metrics = codes "text/plain; version=0.0.4; charset=utf-8"
media_type answer = codes "text/plain; charset=utf-8"

-- a method that isn't allowed is told which are (RFC 9110, 15.5.6)
unfoldable pub allow_line : Answer → List ℕ
allow_line ReadOnly = codes "Allow: GET, HEAD\r\n"
allow_line answer = []

-- the status, and what holds of each answer: the connection ends behind it, and nobody keeps it
unfoldable pub status_lines : Answer → List ℕ
status_lines answer =
    codes "HTTP/1.1 " ++ status_words answer ++ codes "\r\nConnection: close\r\nCache-Control: no-store\r\n" ++ allow_line answer

-- what the body is, and how long, and the end of the head
unfoldable pub body_lines : Answer → ℕ → List ℕ
body_lines answer size =
    codes "Content-Type: " ++ media_type answer ++ codes "\r\nContent-Length: " ++ decimal size ++ codes "\r\n\r\n"

-- the head of an answer whose body has so many bytes
unfoldable pub head_text : Answer → ℕ → List ℕ
head_text answer size = status_lines answer ++ body_lines answer size

-- what is told of an answer that has no figures
abbrev pub short_body : Answer → List ℕ
short_body answer = status_words answer ++ codes "\n"

abbrev pub body_text : Snapshot → Answer → List ℕ
body_text snapshot Page = page_text snapshot
body_text snapshot Metrics = metrics_text snapshot
body_text snapshot answer = short_body answer

-- an answer with this body: the length that it tells is that of the body, which is sent unless the head alone was asked for
abbrev pub with_body : Reply → List ℕ → List ℕ
with_body reply body = head_text reply.answer (length body) ++ (if reply.has_body then body else [])

abbrev pub answer_text : Snapshot → Reply → List ℕ
answer_text snapshot reply = with_body reply (body_text snapshot reply.answer)

-- the answer that is told in place of this one: itself, or that memory was refused
abbrev pub IsToldFor : Reply → Reply → Type 0
IsToldFor reply told = (told.has_body ≡ reply.has_body) × ((told.answer ≡ reply.answer) ⊎ (told.answer ≡ NoMemory))
