-- Names, as a page and as a monitor's text spell them.
use Rattle.std.specs.Prelude.{ℕ, List, [], ◌∷◌, ◌++◌, codes, flat_map, Option, Some, None, option_copied, ◌==◌, if◌then◌else◌}
use Rattle.server_report.specs.declared.escaping.Spelling.{Spelling}
use Rattle.server_report.specs.declared.escaping.Spelling.TheVariants.{Html, Label}
use Rattle.server_report.specs.declared.figures.MailboxRow.{MailboxRow}

-- & < > " ' are written as references to characters (HTML, 13.1.4)
unfoldable pub html_byte : ℕ → List ℕ
html_byte b =
    if b == 38 then codes "&amp;"
    else if b == 60 then codes "&lt;"
    else if b == 62 then codes "&gt;"
    else if b == 34 then codes "&quot;"
    else if b == 39 then codes "&#39;"
    else b ∷ []

-- a backslash, a quotation mark and a line feed of a label's value are written with a backslash (Prometheus, text format 0.0.4)
unfoldable pub label_byte : ℕ → List ℕ
label_byte b =
    if b == 92 then codes "\\\\"
    else if b == 34 then codes "\\\""
    else if b == 10 then codes "\\n"
    else b ∷ []

abbrev pub spelled_byte : Spelling → ℕ → List ℕ
spelled_byte Html b = html_byte b
spelled_byte Label b = label_byte b

unfoldable pub spelled : Spelling → List ℕ → List ℕ
spelled way bytes = flat_map (spelled_byte way) bytes

abbrev pub folder_behind : Spelling → Option (List ℕ) → List ℕ
folder_behind way None = []
folder_behind way (Some folder) = codes "/" ++ spelled way folder

-- `alice`, or `alice/Work`
unfoldable pub mailbox_name : Spelling → MailboxRow → List ℕ
mailbox_name way row = spelled way row.user.now ++ folder_behind way (option_copied row.folder)
