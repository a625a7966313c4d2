pub mod Reading
pub mod Bytes
pub mod Each
pub mod LinesRead
pub mod Follows
pub mod Literals
pub mod Turns
pub mod ListPlayed
pub mod Ends
pub mod IdleTurns
pub mod Tags
pub mod IdleTags
pub mod Kept
pub mod Items
pub mod Fetched
pub mod Heard
pub mod UidsHeard
pub mod Chosen
pub mod Untold
mod UidSets
pub mod Sought
pub mod Commands
pub mod Opening
pub mod Talking
pub mod Boxes
mod Logs
pub mod RecordWorlds
pub mod Names
pub mod Seen
pub mod ToldAll
pub mod Moved
mod Folders
pub mod Parts
pub mod RecordEntering
mod Barred
pub mod RecordKnown
pub mod Living
pub mod RecordCurrent
mod LastLines
mod Decimals
mod CopyWords
mod Moves
mod LastRests
mod LastWords
mod LastTurns
mod EachCommand
mod Waiting
mod WholeLines
mod Submitted
mod Firsts
mod Out
mod Seated
mod Answered
mod Talked
pub mod Folded
mod Recording
mod Entries
pub mod RecordKeeping
mod RecordRefuted
mod Onward
mod Since
mod Stored
mod Appended
mod WordsCurrent
mod CountsAll
mod AtEntries
mod CutBytes
mod CutTexts
mod CutTurns
mod Cutting
pub mod RecordOneLife
mod Dialogues
mod Texts
mod Mailed
mod Shortness
mod OkCurrent
mod Selecting
mod Unselected
mod LoggedIn
mod Moments
mod Distinct
mod Following
mod Telling
mod FlagMoments
mod Turning
mod FlagPlayed
mod Saying
mod Idling
mod FlagWorlds
mod FlagEntering
mod FlagKnown
mod FlagCurrent
mod FlagKeeping
mod FlagRefuted
mod ByUid
mod FlagOneLife
mod Hearing
mod TextRows
mod Served
mod ServedCurrent
mod ServedFlags
mod ServedStays
mod ServedVisits
mod HouseClients
mod ToldHolds
mod ToldRefuted
mod LivesRefuted
mod VisitorRefuted
mod AttendingRefuted
mod AttendedRefuted
mod HistoryHolds
mod HistoryRefuted
mod StillHouse
mod RunRefuted
mod MessageHolds
mod MessageRefuted
