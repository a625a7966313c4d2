pub mod Cuts
mod Counts
pub mod ReplyFronts
mod Asks
mod Turned
mod Steps
mod Known
pub mod Taken
pub mod ReplyConcluding
pub mod Connected
pub mod Numbered
pub mod Keyed
mod ReplyRefuted
mod Marked
mod Seated
mod Moving
mod Copies
mod RecordFronts
mod RecordJoined
mod Printed
mod Sessions
mod Stilling
mod SessionsRefuted
mod Worlds
mod Seats
mod Scenes
mod Happening
mod RecordConcluding
mod Recorded
mod ConcludesHolds
mod ConcludesRefuted
mod Names
mod RecordRefuted
mod RecordedRefuted
mod Positions
mod EntryLaws
mod FateLaws
mod Ledger
mod Spoken
mod AccountJoined
mod Concluded
mod Hosts
mod Put
mod AccountRefuted
mod Worked
mod Reported
mod ToldCopies
mod Served
mod ServedWorkers
mod ServedLines
mod ServedHolds
mod ServedRefuted
mod ConnectionRefuted
mod ConnectionHolds
