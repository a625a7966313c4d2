-- Messages that are copied: how they are found, and how their copies go.
use Rattle.std.specs.Prelude.{◌≡◌, ◌≤◌, ℕ, List, [], Bool, Option, Some, None, Result, Ok, Err, length, vec_capacity, if◌then◌else◌}
use Rattle.mailbox.specs.declared.clients.Row.{Row}
use Rattle.imap_grammar.specs.declared.command.Command.TheVariants as commands
use Rattle.imap_grammar.specs.declared.command.CopyMessages.{CopyMessages}
use Rattle.imap_session.specs.declared.batch.Batch as declared
use Rattle.imap_session.specs.declared.copying.Found.{Found}
use Rattle.imap_session.specs.declared.copying.Found.TheVariants.{Said, Messages}
use Rattle.imap_session.specs.declared.texts.ResponseText.{ResponseText}
use Rattle.imap_session.specs.declared.texts.ResponseText.TheVariants as texts
use Rattle.imap_session.specs.declared.standing.Selected.{Selected}
use Rattle.imap_session.specs.Exchange.{Batch, Discard, Exchange, Feed, Mailing}
use Rattle.imap_session.specs.Commands.{completed, gathering, most_in_batch, move_done, on_found, says, submitting, taking_back, unlimited}
use Rattle.imap_session.specs.Texts.{response_text}
use Rattle.imap_session.specs.inner.Seen.{batch_of}

-- these were found so far, and no copy is stored
abbrev pub batch_with : CopyMessages → (uids : List ℕ) → (left : List Row) → Batch
batch_with copy uids left = record { by_uid = copy.by_uid; moves = copy.moves; uids = uids; left = left; copies = [] }

-- what is done with a message that was read: it is taken or passed over, or nothing is copied
abbrev pub picked : (Row → Exchange) → Exchange → Result (Option Row) ResponseText → Exchange
picked taken passed (Ok (Some row)) = taken row
picked taken passed (Ok None) = passed
picked taken passed (Err text) = says (response_text text)

-- what is done with these once all are read
abbrev pub gathered : Mailing → CopyMessages → (mailbox : ℕ) → (uids : List ℕ) → (left : List Row) → Result (Unit {0}) ResponseText → Exchange
gathered mailing copy mailbox uids left (Ok done) = gathering mailing copy mailbox [] (batch_with copy uids left)
gathered mailing copy mailbox uids left (Err text) = says (response_text text)

-- what is done with what was found
abbrev pub found_next : Mailing → CopyMessages → Found → Exchange
found_next mailing copy (Said text) = says (response_text text)
found_next mailing copy (Messages mailbox tag batch) = submitting mailing (batch_of batch) mailbox (completed (commands.Copy copy))

-- None of them is submitted: each has its UID and is left, and there is room for the UIDs of their copies.
pub record IsGathered (b : declared.Batch) : Type 0 where
  pub none : b.copies.items ≡ []
  pub all : length b.left.items ≡ length b.uids.items
  pub room : length b.uids.items ≤ vec_capacity b.copies
  pub few : length b.uids.items ≤ most_in_batch

-- what was found goes under this tag
abbrev pub IsFound : List ℕ → Found → Type 0
IsFound tag (Said text) = Unit {0}
IsFound tag (Messages mailbox own batch) = (own ≡ tag) × IsGathered batch

-- why no message of a batch goes: no number is left, or none of them is
abbrev pub unsent_next : (spent : Bool) → (mailbox : ℕ) → (copies : List ℕ) → (done : Exchange) → Exchange
unsent_next spent mailbox copies done = if spent then taking_back mailbox copies (says (response_text texts.MailboxSpent)) else done

-- of a MOVE, once it is told where the copies are: the messages are removed, and that is shown
abbrev pub removing : Option Selected → Batch → Exchange
removing selected batch = on_found (λ (s : Selected). Discard s.mailbox batch.uids (Feed unlimited (move_done batch))) (move_done batch) selected
