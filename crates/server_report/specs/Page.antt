-- What a person reads: a document of HTML with a table of mailboxes, of connections, of sessions, and of what was counted. It has no script.
use Rattle.std.specs.Prelude.{ℕ, List, [], ◌∷◌, ◌++◌, codes, decimal, flat_map}
use Rattle.delivery_token.specs.declared.Refusal.{Refusal}
use Rattle.server_report.specs.declared.counts.Counts.{Counts}
use Rattle.server_report.specs.declared.counts.Refused.{Refused}
use Rattle.server_report.specs.declared.figures.Connection.{Connection}
use Rattle.server_report.specs.declared.figures.MailboxFigures.{MailboxFigures}
use Rattle.server_report.specs.declared.figures.MailboxRow.{MailboxRow}
use Rattle.server_report.specs.declared.figures.PeerState.{PeerState}
use Rattle.server_report.specs.declared.figures.PeerState.TheVariants.{Talking, Idling, Leaving}
use Rattle.server_report.specs.declared.figures.Session.{Session}
use Rattle.server_report.specs.declared.figures.Snapshot.{Snapshot}
use Rattle.server_report.specs.declared.page.Piece.{Piece}
use Rattle.server_report.specs.declared.page.Piece.TheVariants as piece
use Rattle.server_report.specs.Escaping.{mailbox_name, spelled}
use Rattle.server_report.specs.declared.escaping.Spelling.TheVariants.{Html}
use Rattle.server_report.specs.Reasons.{count_for, reason_words, reasons}

-- ---- what stands before the tables

-- Pieces of the document. There is an icon of nothing, so that none is asked for, and a light and a dark scheme, as the reader prefers.
unfoldable pub piece_text : Piece → List ℕ
piece_text piece.Document = codes "<!DOCTYPE html>\n<html lang=\"en\">\n<head>\n<meta charset=\"utf-8\">\n"
piece_text piece.Title = codes "<meta name=\"viewport\" content=\"width=device-width, initial-scale=1\">\n<link rel=\"icon\" href=\"data:,\">\n<title>post_house: what it is doing now</title>\n"
piece_text piece.TextStyle = codes "<style>\n:root { color-scheme: light dark; --line: #c8c8c8; }\nbody { font: 16px/1.5 sans-serif; max-width: 60rem; margin: 2rem auto; padding: 0 1rem; color: #1b1b1b; background: #ffffff; }\n"
piece_text piece.TableStyle = codes "table { border-collapse: collapse; margin: 0 0 2rem; }\ncaption { text-align: left; font-weight: bold; }\nth, td { padding: 0.2rem 1rem 0.2rem 0; border-bottom: 1px solid var(--line); text-align: right; }\n"
piece_text piece.DarkStyle = codes "th:first-child { text-align: left; }\nth[scope=row] { font-weight: normal; }\n@media (prefers-color-scheme: dark) { :root { --line: #4a4a4a; } body { color: #e4e4e4; background: #161616; } }\n</style>\n"
piece_text piece.Heading = codes "</head>\n<body>\n<h1>What post_house is doing now</h1>\n"
piece_text piece.Mailboxes = codes "<table>\n<caption>Mailboxes</caption>\n<tr><th scope=\"col\">Mailbox</th><th scope=\"col\">Messages</th><th scope=\"col\">Unseen</th><th scope=\"col\">Bytes</th><th scope=\"col\">Next UID</th></tr>\n"
piece_text piece.Connections = codes "<table>\n<caption>Connections</caption>\n<tr><th scope=\"col\">Number</th><th scope=\"col\">State</th></tr>\n"
piece_text piece.Sessions = codes "<table>\n<caption>Sessions</caption>\n<tr><th scope=\"col\">User</th><th scope=\"col\">Number</th><th scope=\"col\">State</th></tr>\n"
piece_text piece.Counts = codes "<table>\n<caption>Since the start</caption>\n<tr><th scope=\"col\">What</th><th scope=\"col\">How many</th></tr>\n"
piece_text piece.End = codes "</table>\n</body>\n</html>\n"

-- what stands before the tables
abbrev pub front_pieces : List Piece
front_pieces = piece.Document ∷ piece.Title ∷ piece.TextStyle ∷ piece.TableStyle ∷ piece.DarkStyle ∷ piece.Heading ∷ []

unfoldable pub page_front : List ℕ
page_front = flat_map piece_text front_pieces

-- ---- rows

unfoldable pub number_cell : ℕ → List ℕ
number_cell n = codes "<td>" ++ decimal n ++ codes "</td>"

-- what a row is of
unfoldable pub mailbox_cell : MailboxRow → List ℕ
mailbox_cell row = codes "<tr><th scope=\"row\">" ++ mailbox_name Html row ++ codes "</th>"

unfoldable pub message_cells : MailboxFigures → List ℕ
message_cells figures = number_cell figures.messages ++ number_cell figures.unseen

unfoldable pub size_cells : MailboxFigures → List ℕ
size_cells figures = number_cell figures.bytes ++ number_cell figures.uid_next ++ codes "</tr>\n"

unfoldable pub mailbox_row : MailboxRow → List ℕ
mailbox_row row = mailbox_cell row ++ message_cells row.figures ++ size_cells row.figures

abbrev pub state_words : PeerState → List ℕ
state_words Talking = codes "talking"
state_words Idling = codes "idling"
state_words Leaving = codes "leaving"

unfoldable pub connection_row : Connection → List ℕ
connection_row connection =
    codes "<tr><th scope=\"row\">" ++ decimal connection.number ++ codes "</th><td>" ++ state_words connection.state ++ codes "</td></tr>\n"

unfoldable pub user_cell : Session → List ℕ
user_cell session = codes "<tr><th scope=\"row\">" ++ spelled Html session.user.now ++ codes "</th>"

unfoldable pub state_cell : Session → List ℕ
state_cell session = codes "<td>" ++ state_words session.state ++ codes "</td></tr>\n"

unfoldable pub session_row : Session → List ℕ
session_row session = user_cell session ++ number_cell session.number ++ state_cell session

-- what was counted, in a word before and one behind
unfoldable pub count_cell : (before behind : List ℕ) → List ℕ
count_cell before behind = codes "<tr><th scope=\"row\">" ++ before ++ behind ++ codes "</th>"

unfoldable pub count_row : (before behind : List ℕ) → ℕ → List ℕ
count_row before behind n = count_cell before behind ++ number_cell n ++ codes "</tr>\n"

unfoldable pub refused_row : Refused → Refusal → List ℕ
refused_row refused reason = count_row (codes "Copies refused: ") (reason_words reason) (count_for refused reason)

-- ---- tables

unfoldable pub mailbox_table : List MailboxRow → List ℕ
mailbox_table rows =
    piece_text piece.Mailboxes
    ++ flat_map mailbox_row rows ++ codes "</table>\n"

unfoldable pub connection_table : List Connection → List ℕ
connection_table connections =
    piece_text piece.Connections
    ++ flat_map connection_row connections ++ codes "</table>\n"

unfoldable pub session_table : List Session → List ℕ
session_table sessions =
    piece_text piece.Sessions
    ++ flat_map session_row sessions ++ codes "</table>\n"

unfoldable pub copy_rows : Counts → List ℕ
copy_rows counts =
    count_row (codes "Messages") [] counts.messages
    ++ count_row (codes "Copies stored") [] counts.stored
    ++ flat_map (refused_row counts.refused) reasons

unfoldable pub peer_rows : Counts → List ℕ
peer_rows counts =
    count_row (codes "Connections") [] counts.connections
    ++ count_row (codes "Sessions") [] counts.sessions
    ++ count_row (codes "Lines of the log lost") [] counts.lost

-- the last table, and the end of the document
unfoldable pub count_table : Counts → List ℕ
count_table counts = piece_text piece.Counts ++ copy_rows counts ++ peer_rows counts

unfoldable pub peer_tables : Snapshot → List ℕ
peer_tables snapshot = connection_table snapshot.connections.now ++ session_table snapshot.sessions.now

unfoldable pub tables : Snapshot → List ℕ
tables snapshot = mailbox_table snapshot.mailboxes.now ++ peer_tables snapshot ++ count_table snapshot.counts

unfoldable pub page_text : Snapshot → List ℕ
page_text snapshot = page_front ++ tables snapshot ++ piece_text piece.End
