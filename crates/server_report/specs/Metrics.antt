-- What a monitor reads, in Prometheus' text format 0.0.4: families of samples, each behind a line of help and a line of its kind.
use Rattle.std.specs.Prelude.{ℕ, List, [], ◌∷◌, ◌++◌, codes, decimal, flat_map, length}
use Rattle.delivery_token.specs.declared.Refusal.{Refusal}
use Rattle.server_report.specs.declared.counts.Counts.{Counts}
use Rattle.server_report.specs.declared.counts.Refused.{Refused}
use Rattle.server_report.specs.declared.figures.MailboxFigures.{MailboxFigures}
use Rattle.server_report.specs.declared.figures.MailboxRow.{MailboxRow}
use Rattle.server_report.specs.declared.figures.Snapshot.{Snapshot}
use Rattle.server_report.specs.declared.metrics.Family.{Family}
use Rattle.server_report.specs.declared.metrics.Family.TheVariants as family
use Rattle.server_report.specs.declared.metrics.Gauge.{Gauge}
use Rattle.server_report.specs.declared.metrics.Gauge.TheVariants as gauge
use Rattle.server_report.specs.Escaping.{mailbox_name}
use Rattle.server_report.specs.declared.escaping.Spelling.TheVariants.{Label}
use Rattle.server_report.specs.Reasons.{count_for, reason_words, reasons}

-- ---- the table of families

abbrev pub gauge_name : Gauge → List ℕ
gauge_name gauge.Messages = codes "mailbox_messages"
gauge_name gauge.Unseen = codes "mailbox_unseen"
gauge_name gauge.Bytes = codes "mailbox_bytes"
gauge_name gauge.UidNext = codes "mailbox_uid_next"

abbrev pub gauge_help : Gauge → List ℕ
gauge_help gauge.Messages = codes "Messages in the mailbox."
gauge_help gauge.Unseen = codes "Messages in the mailbox that are not seen."
gauge_help gauge.Bytes = codes "Bytes of all messages in the mailbox."
gauge_help gauge.UidNext = codes "UID of the next message of the mailbox."

-- what a family is called behind `post_house_`: what counts up ends in `_total`
abbrev pub name_of : Family → List ℕ
name_of family.Messages = codes "messages_total"
name_of family.Stored = codes "copies_stored_total"
name_of family.Refused = codes "copies_refused_total"
name_of family.Connections = codes "connections_total"
name_of family.Sessions = codes "sessions_total"
name_of family.Lost = codes "log_lines_lost_total"
name_of family.OpenConnections = codes "open_connections"
name_of family.OpenSessions = codes "open_sessions"
name_of (family.Mailbox of) = gauge_name of

abbrev pub help_of : Family → List ℕ
help_of family.Messages = codes "Messages that were submitted."
help_of family.Stored = codes "Copies that were stored."
help_of family.Refused = codes "Copies that were refused, by the reason."
help_of family.Connections = codes "Connections that were accepted where mail comes."
help_of family.Sessions = codes "Sessions that were begun."
help_of family.Lost = codes "Lines of the log that were not written."
help_of family.OpenConnections = codes "Connections that are open where mail comes."
help_of family.OpenSessions = codes "Sessions that are open."
help_of (family.Mailbox of) = gauge_help of

-- a counter only grows while the server runs, a gauge may fall
abbrev pub kind_of : Family → List ℕ
kind_of family.Messages = codes "counter"
kind_of family.Stored = codes "counter"
kind_of family.Refused = codes "counter"
kind_of family.Connections = codes "counter"
kind_of family.Sessions = codes "counter"
kind_of family.Lost = codes "counter"
kind_of family.OpenConnections = codes "gauge"
kind_of family.OpenSessions = codes "gauge"
kind_of (family.Mailbox of) = codes "gauge"

-- ---- lines

unfoldable pub help_line : Family → List ℕ
help_line family = codes "# HELP post_house_" ++ name_of family ++ codes " " ++ help_of family ++ codes "\n"

unfoldable pub kind_line : Family → List ℕ
kind_line family = codes "# TYPE post_house_" ++ name_of family ++ codes " " ++ kind_of family ++ codes "\n"

unfoldable pub family_lines : Family → List ℕ
family_lines family = help_line family ++ kind_line family

-- a sample without a label
unfoldable pub sample : Family → ℕ → List ℕ
sample family value = codes "post_house_" ++ name_of family ++ codes " " ++ decimal value ++ codes "\n"

-- a family of one sample
unfoldable pub single : Family → ℕ → List ℕ
single family value = family_lines family ++ sample family value

unfoldable pub refused_sample : Refused → Refusal → List ℕ
refused_sample refused reason =
    codes "post_house_copies_refused_total{reason=\"" ++ reason_words reason ++ codes "\"} "
    ++ decimal (count_for refused reason) ++ codes "\n"

-- a sample for each reason
unfoldable pub refused_family : Refused → List ℕ
refused_family refused = family_lines family.Refused ++ flat_map (refused_sample refused) reasons

abbrev pub gauge_value : MailboxFigures → Gauge → ℕ
gauge_value figures gauge.Messages = figures.messages
gauge_value figures gauge.Unseen = figures.unseen
gauge_value figures gauge.Bytes = figures.bytes
gauge_value figures gauge.UidNext = figures.uid_next

-- the name of a gauge and what tells the mailbox apart
unfoldable pub labelled : Gauge → MailboxRow → List ℕ
labelled of row = (codes "post_house_" ++ gauge_name of ++ codes "{mailbox=\"") ++ mailbox_name Label row

unfoldable pub mailbox_sample : Gauge → MailboxRow → List ℕ
mailbox_sample of row = labelled of row ++ (codes "\"} " ++ decimal (gauge_value row.figures of) ++ codes "\n")

-- a sample for each mailbox
unfoldable pub mailbox_family : List MailboxRow → Gauge → List ℕ
mailbox_family rows of = family_lines (family.Mailbox of) ++ flat_map (mailbox_sample of) rows

-- ---- the whole text

unfoldable pub of_copies : Counts → List ℕ
of_copies counts =
    single family.Messages counts.messages
    ++ single family.Stored counts.stored
    ++ refused_family counts.refused

unfoldable pub of_peers : Counts → List ℕ
of_peers counts =
    single family.Connections counts.connections
    ++ single family.Sessions counts.sessions
    ++ single family.Lost counts.lost

unfoldable pub of_now : Snapshot → List ℕ
of_now snapshot =
    single family.OpenConnections (length snapshot.connections.now)
    ++ single family.OpenSessions (length snapshot.sessions.now)

unfoldable pub of_messages : List MailboxRow → List ℕ
of_messages rows = mailbox_family rows gauge.Messages ++ mailbox_family rows gauge.Unseen

unfoldable pub of_sizes : List MailboxRow → List ℕ
of_sizes rows = mailbox_family rows gauge.Bytes ++ mailbox_family rows gauge.UidNext

unfoldable pub of_counts : Snapshot → List ℕ
of_counts snapshot = of_copies snapshot.counts ++ of_peers snapshot.counts ++ of_now snapshot

unfoldable pub metrics_text : Snapshot → List ℕ
metrics_text snapshot = of_counts snapshot ++ of_messages snapshot.mailboxes.now ++ of_sizes snapshot.mailboxes.now
