-- Which of the messages that were handed over is which of those that were submitted: the ones that were turned away aren't counted there.
use Rattle.std.specs.Prelude.{◌≡◌, ℕ, ◌<◌, Bool, true, false, List, [], length, map, take, slice_index_or}
use Rattle.delivery_token.specs.Text.{undated}
use Rattle.envelope.specs.Names.{Directory}
use Rattle.lmtp_machine.specs.Dialogue.{Submission}
use Rattle.laws_relay.specs.ReplyLaws.{is_stored}
use Rattle.laws_relay.specs.Handed.{Handed, no_message}
use Rattle.laws_relay.specs.Fates.{Fate, Judged, Awaited, TurnedAway, Unheard, HaveFates, IsSubmitted, all_submitted, all_told, was_stored}

abbrev pub was_submitted : Fate → Bool
was_submitted (Judged submission verdicts) = true
was_submitted (Awaited submission) = true
was_submitted TurnedAway = false
was_submitted Unheard = false

-- how many messages were submitted before the k-th that was handed over
abbrev pub number_of : List Fate → (k : ℕ) → ℕ
number_of fates k = length (all_submitted (take k fates))

-- where there is no submission of a number
abbrev pub no_submission : Submission
no_submission = record { keys = []; mailboxes = []; text = undated [] }

pub record AreNumbered (directory : Directory) (messages : List Handed) (fates : List Fate) : Type 0 where
  -- the k-th message, where it was submitted, is of the submission of this number
  pub of_message : (k : ℕ) → was_submitted (slice_index_or fates k Unheard) ≡ true
      → (number_of fates k < length (all_submitted fates))
      × IsSubmitted directory (slice_index_or messages k no_message) (slice_index_or (all_submitted fates) (number_of fates k) no_submission)
  -- and its verdicts are those of this number, or none of this number was told
  pub of_verdicts : (k i : ℕ) → was_submitted (slice_index_or fates k Unheard) ≡ true
      → was_stored (slice_index_or fates k Unheard) i ≡ slice_index_or
      (map is_stored (slice_index_or (all_told fates) (number_of fates k) [])) i false
  -- different messages have different numbers, in their order
  pub rises : (k m : ℕ) → k < m → was_submitted (slice_index_or fates k Unheard) ≡ true → number_of fates k < number_of fates m
  -- and each submission is of a message that was handed over
  pub each : (n : ℕ) → n < length (all_submitted fates) → (k : ℕ) × (k < length messages)
      × (was_submitted (slice_index_or fates k Unheard) ≡ true) × (number_of fates k ≡ n)

-- whatever fates messages have
abbrev pub MessagesAreNumbered : Type 0
MessagesAreNumbered =
    (host : List ℕ) (directory : Directory) (messages : List Handed) (fates : List Fate) → HaveFates host directory messages fates
    → AreNumbered directory messages fates
