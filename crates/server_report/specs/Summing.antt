-- What is told at a server's end.
use Rattle.std.specs.Prelude.{ℕ, ◌==◌, ◌++◌, codes, decimal, flat_map, if◌then◌else◌, List, []}
use Rattle.delivery_token.specs.declared.Refusal.{Refusal}
use Rattle.server_report.specs.declared.counts.Refused.{Refused}
use Rattle.server_report.specs.declared.log.Held.{Held}
use Rattle.server_report.specs.declared.log.Summary.{Summary}
use Rattle.server_report.specs.Reasons.{count_for, reason_words, reasons}

-- how many there were of this
abbrev pub count_line : List ℕ → ℕ → List ℕ
count_line what count = what ++ codes " " ++ decimal count ++ codes "\n"

-- copies that were refused for this reason, where there were any
abbrev pub refused_line : Refused → Refusal → List ℕ
refused_line refused reason =
    if count_for refused reason == 0 then []
    else codes "copies refused " ++ reason_words reason ++ codes " " ++ decimal (count_for refused reason) ++ codes "\n"

-- for each reason that came
abbrev pub refused_lines : Refused → List ℕ
refused_lines refused = flat_map (refused_line refused) reasons

-- lines that had no room, where there were any
abbrev pub lost_line : ℕ → List ℕ
lost_line lost = if lost == 0 then [] else codes "log lost " ++ decimal lost ++ codes " lines\n"

-- what the server held
abbrev pub held_lines : Held → List ℕ
held_lines held = count_line (codes "bytes held") held.bytes ++ count_line (codes "longest lane") held.longest_lane

abbrev pub summary_lines : Summary → List ℕ
summary_lines s =
    count_line (codes "messages") s.counts.messages
    ++ count_line (codes "copies stored") s.counts.stored
    ++ refused_lines s.counts.refused
    ++ count_line (codes "connections") s.counts.connections
    ++ count_line (codes "sessions") s.counts.sessions
    ++ held_lines s.held
    ++ lost_line s.counts.lost
