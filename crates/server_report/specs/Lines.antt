-- The lines of a server's log. Each is of one thing that happened, and ends with LF.
use Rattle.std.specs.Prelude.{ℕ, ◌+◌, ◌*◌, ◌++◌, codes, decimal, flat_map, length, slice_get, List, [], Option, Some, None}
use Rattle.delivery_token.specs.declared.Job.{Job}
use Rattle.delivery_token.specs.declared.Verdict.{Verdict}
use Rattle.delivery_token.specs.declared.Verdict.TheVariants.{Stored, Refused}
use Rattle.envelope.specs.Names.{Home}
use Rattle.server_report.specs.declared.line.Caller.{Caller}
use Rattle.server_report.specs.declared.line.Caller.TheVariants.{Mail, Client}
use Rattle.server_report.specs.declared.line.Happened.{Happened}
use Rattle.server_report.specs.declared.line.Happened.TheVariants as happened
use Rattle.server_report.specs.Reasons.{reason_words}

-- ---- who calls

-- The number of a call, from 1 on. So many places take calls at a time, and each place one after another, with serials from 0: no two calls have one
-- number.
abbrev pub call_number : (places place serial : ℕ) → ℕ
call_number places place serial = serial * places + place + 1

-- a connection of mail, or a session of a user
abbrev pub caller_words : Caller → List ℕ
caller_words (Mail number) = codes "lmtp " ++ decimal number
caller_words (Client user number) = codes "imap " ++ user.now ++ codes " " ++ decimal number

-- ---- a copy

-- a mailbox by its number, as mail names it: the user, and behind a slash the folder
abbrev pub folder_words : Option (List ℕ) → List ℕ
folder_words None = []
folder_words (Some folder) = codes "/" ++ folder

abbrev pub home_words : Option Home → List ℕ
home_words None = codes "?"
home_words (Some home) = home.user ++ folder_words home.folder

abbrev pub mailbox_words : List Home → ℕ → List ℕ
mailbox_words homes mailbox = home_words (slice_get homes mailbox)

-- how large a message is, where that is told
abbrev pub size_words : Option ℕ → List ℕ
size_words None = []
size_words (Some size) = codes " " ++ decimal size ++ codes " bytes"

abbrev pub verdict_words : Option ℕ → Verdict → List ℕ
verdict_words size (Stored uid) = codes "stored uid " ++ decimal uid ++ size_words size
verdict_words size (Refused why) = codes "refused " ++ reason_words why

-- what became of one copy of a caller's message, which is counted from 1
abbrev pub copy_line : List Home → Caller → (message mailbox : ℕ) → (size : Option ℕ) → Verdict → List ℕ
copy_line homes caller message mailbox size verdict =
    caller_words caller ++ codes " message " ++ decimal (message + 1) ++ codes " " ++ mailbox_words homes mailbox ++ codes " "
    ++ verdict_words size verdict ++ codes "\n"

-- of a copy of mail, with its verdict: who called is told by its key
abbrev pub mail_line : List Home → (workers : ℕ) → Job × Verdict → List ℕ
mail_line homes workers judged =
    copy_line homes (Mail (call_number workers judged.0.key.seat judged.0.key.serial)) judged.0.key.message judged.0.mailbox
    (Some (length judged.0.text.bytes)) judged.1

-- a line for each copy, in their order
abbrev pub mail_lines : List Home → (workers : ℕ) → List (Job × Verdict) → List ℕ
mail_lines homes workers judged = flat_map (mail_line homes workers) judged

-- ---- how a call goes

abbrev pub happened_words : Happened → List ℕ
happened_words happened.Open = codes "open"
happened_words happened.Idle = codes "idle"
happened_words happened.Quit = codes "quit"
happened_words happened.Gone = codes "gone"
happened_words happened.Lapsed = codes "lapsed"
happened_words happened.TurnedAway = codes "turned away"
happened_words happened.Shut = codes "shut"
happened_words happened.Broken = codes "broken"
happened_words happened.OutOfMemory = codes "out of memory"
happened_words happened.Torn = codes "torn"

abbrev pub call_line : Caller → Happened → List ℕ
call_line caller what = caller_words caller ++ codes " " ++ happened_words what ++ codes "\n"
