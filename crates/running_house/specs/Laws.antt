-- What holds of every connection and of every worker's account.
use Rattle.std.specs.Prelude.{◌≡◌, ℕ, ◌<◌, false, List, [], All, Contains, length, slice_index_or}
use Rattle.std.specs.List.{list_any}
use Rattle.delivery_token.specs.declared.Job.{Job}
use Rattle.delivery_token.specs.declared.Verdict.TheVariants.{Stored}
use Rattle.delivery_token.specs.declared.log.Noted.{Noted}
use Rattle.envelope.specs.Names.{Directory, shard_of}
use Rattle.lane_work.specs.Account.{Account, Premises, HaveTalked, closings_of, is_closed_by}
use Rattle.lane_work.specs.Talk.{Judged, WholeTalk}
use Rattle.lmtp_machine.specs.declared.reply.Reply.{Reply}
use Rattle.lmtp_machine.specs.Dialogue.{Event, Setting, Standing}
use Rattle.shard_queue.specs.declared.lane.Entry.{Entry}
use Rattle.shard_queue.specs.declared.lane.Entry.TheVariants.{Item}
use Rattle.running_house.specs.Accounting.{AccountOfLines}
use Rattle.running_house.specs.Conversing.{HaveConversed, AreDialogues, IsConnection}
use Rattle.running_house.specs.Storing.{WasPut, WasSubmitted, AreVerdicts}
use Rattle.running_house.specs.Woven.{AreTold, IsWholeDialogue, AreFirstLines, Woven}

-- what was heard piece by piece is what is heard of the whole lines
abbrev pub TalkIsOfLines : Type 0
TalkIsOfLines = (setting : Setting) (directory : Directory) (bytes : List ℕ) (said : List Reply) (judged : List Judged)
    → WholeTalk setting directory bytes said judged → IsWholeDialogue setting directory bytes said judged

-- and nothing is lost by it: each dialogue over whole lines is one that may be heard piece by piece
abbrev pub LinesAreATalk : Type 0
LinesAreATalk = (setting : Setting) (directory : Directory) (bytes : List ℕ) (said : List Reply) (judged : List Judged)
    → IsWholeDialogue setting directory bytes said judged → WholeTalk setting directory bytes said judged

-- the lines that were heard are those with which the bytes begin
abbrev pub HeardAreFirst : Type 0
HeardAreFirst = (setting : Setting) (directory : Directory) (bytes : List ℕ) (said : List Reply) (judged : List Judged)
    → (heard : IsWholeDialogue setting directory bytes said judged) → AreFirstLines bytes heard.lines heard.last

-- no line is dropped, none is answered before it was heard, and each message has its own verdicts
abbrev pub LinesAreTold : Type 0
LinesAreTold = (setting : Setting) (directory : Directory) (s last : Standing) (lines : List (List ℕ)) (judged : List Judged) (events : List Event)
    → Woven setting directory s lines judged events last → AreTold setting directory s lines judged events

-- so it is of all connections, one after the other, and the other way round
abbrev pub TalksAreOfLines : Type 0
TalksAreOfLines = (house : Premises) (seat : ℕ) (connections replies : List (List ℕ)) (judged : List Judged)
    → HaveTalked house seat connections replies judged → HaveConversed house seat connections replies judged

abbrev pub ConnectionsHaveTalked : Type 0
ConnectionsHaveTalked = (house : Premises) (seat : ℕ) (connections replies : List (List ℕ)) (judged : List Judged)
    → HaveConversed house seat connections replies judged → HaveTalked house seat connections replies judged

-- and the i-th of them has the i-th replies, and its own part of what was judged
abbrev pub EachIsADialogue : Type 0
EachIsADialogue = (house : Premises) (seat : ℕ) (connections replies : List (List ℕ)) (judged : List Judged)
    → HaveConversed house seat connections replies judged → AreDialogues house seat connections replies judged

-- no message of a connection is for a mailbox of a shard that the worker has closed by then
abbrev pub ClosedGetNothing : Type 0
ClosedGetNothing = (house : Premises) (seat serial : ℕ) (bytes replied : List ℕ) (judged : List Judged)
    → IsConnection house seat serial bytes replied judged → 0 < house.directory.shards
    → All (λ (j : Judged). All (λ mailbox. list_any (is_closed_by serial (shard_of house.directory mailbox)) (closings_of house seat) ≡ false)
    j.message.mailboxes) judged

-- a copy that the log has as stored was put on its mailbox's lane, and its verdict was heard
abbrev pub StoredIsOnItsLane : Type 0
StoredIsOnItsLane = (house : Premises) (seat : ℕ) (connections replies : List (List ℕ)) (notes : List Noted) (heard : List (Entry Noted))
    (said : List (List (Entry Job)))
    → Account house seat connections replies notes heard said
    → (noted : Noted) (uid lane : ℕ) → Contains notes noted → noted.verdict ≡ Stored uid → shard_of house.directory noted.mailbox ≡ lane
    → lane < length said
    → WasPut seat (slice_index_or said lane []) heard noted

-- what the worker put on a lane is its own, and a copy of a message that its connections submitted, with a verdict in the log
abbrev pub PutWasSubmitted : Type 0
PutWasSubmitted = (house : Premises) (seat : ℕ) (connections replies : List (List ℕ)) (notes : List Noted) (heard : List (Entry Noted))
    (said : List (List (Entry Job)))
    → (account : Account house seat connections replies notes heard said)
    → (lane p : ℕ) (copy : Job) → lane < length said → Contains (slice_index_or said lane []) (Item p copy)
    → (p ≡ seat) × WasSubmitted house.directory account.judged notes heard lane copy

-- the log has exactly one verdict for each copy, in order
abbrev pub LogHasEachVerdict : Type 0
LogHasEachVerdict = (house : Premises) (seat : ℕ) (connections replies : List (List ℕ)) (notes : List Noted) (heard : List (Entry Noted))
    (said : List (List (Entry Job)))
    → (account : Account house seat connections replies notes heard said) → AreVerdicts account.judged notes

-- so it is of the whole account
abbrev pub AccountIsOfLines : Type 0
AccountIsOfLines = (house : Premises) (seat : ℕ) (connections replies : List (List ℕ)) (notes : List Noted) (heard : List (Entry Noted))
    (said : List (List (Entry Job)))
    → Account house seat connections replies notes heard said → AccountOfLines house seat connections replies notes heard said
