-- What a relay may conclude of the messages that it handed over.
use Rattle.std.specs.Prelude.{◌≡◌, ℕ, ◌<◌, true, List, [], ◌∷◌, ◌++◌, length, map, slice_index_or}
use Rattle.delivery_token.specs.declared.Verdict.{Verdict}
use Rattle.envelope.specs.Names.{Directory}
use Rattle.line_io.specs.Wire.{wire_lines}
use Rattle.lmtp_machine.specs.declared.reply.Reply.TheVariants.{Greeting}
use Rattle.lmtp_machine.specs.Dialogue.{Setting, Submission, Event, dialogue, fresh, wire}
use Rattle.laws_relay.specs.ReplyLaws.{last_line}
use Rattle.laws_relay.specs.Handed.{IsInLine, Handed, Between, handed, handed_over, is_taken, no_message}
use Rattle.laws_relay.specs.Moments.{Moment, EachMomentMayHappen, dialogue_over, ends_over, events_of}
use Rattle.laws_relay.specs.Fates.{Fate, Unheard, HaveFates, AreKnown, AreCut, EachMayHappen, all_submitted, all_told, answers_of, ends_of, lines_of, was_stored}

-- A relay that sent the lines that were heard, and perhaps more, and read the replies, knows just the messages that were submitted and those that
-- were turned away, and of each the replies to it.
abbrev pub MessagesAreKnown : Type 0
MessagesAreKnown = (host : List ℕ) (setting : Setting) (directory : Directory) (events : List Event) (unheard : List (List ℕ))
    → EachMayHappen setting directory fresh events
    → AreKnown host directory (handed Between (lines_of events ++ unheard) (map (last_line host) (dialogue setting directory fresh events).replies))
    (ends_of setting directory fresh events) (dialogue setting directory fresh events).submissions (answers_of events)

-- the same of a dialogue during which shards are shut
abbrev pub MessagesAreKnownWhileShardsAreShut : Type 0
MessagesAreKnownWhileShardsAreShut = (host : List ℕ) (setting : Setting) (directory : Directory) (moments : List Moment) (unheard : List (List ℕ))
    → EachMomentMayHappen setting directory fresh moments
    → AreKnown host directory (handed Between (lines_of (events_of moments) ++ unheard)
    (map (last_line host) (dialogue_over setting directory fresh moments).replies))
    (ends_over setting directory fresh moments) (dialogue_over setting directory fresh moments).submissions (answers_of (events_of moments))

-- the same by the bytes that it sent and was told
abbrev pub MessagesAreKnownByBytes : Type 0
MessagesAreKnownByBytes = (host : List ℕ) (setting : Setting) (directory : Directory) (events : List Event) (unheard : List (List ℕ))
    (sent told : List ℕ) → IsInLine host
    → EachMayHappen setting directory fresh events
    → wire_lines sent ≡ lines_of events ++ unheard
    → told ≡ wire host (Greeting ∷ (dialogue setting directory fresh events).replies)
    → AreKnown host directory (handed_over sent told) (ends_of setting directory fresh events) (dialogue setting directory fresh events).submissions
    (answers_of events)

-- The i-th reply of the k-th message has the code 250 if and only if the message was submitted and its i-th verdict is that the copy is stored.
abbrev pub TakenAreStored : Type 0
TakenAreStored = (host : List ℕ) (directory : Directory) (messages : List Handed) (fates : List Fate) → HaveFates host directory messages fates
    → (k i : ℕ) → is_taken (slice_index_or messages k no_message) i ≡ was_stored (slice_index_or fates k Unheard) i

-- Where what was told ends early, it knows the first of these messages, and none otherwise: the last may have fewer replies. So for all bytes.
abbrev pub FrontsAreCut : Type 0
FrontsAreCut = (sent told untold : List ℕ) → AreCut (handed_over sent told) (handed_over sent (told ++ untold))

-- a reply that it has read of a message is the reply that it reads of it by all
abbrev pub WhatIsReadStays : Type 0
WhatIsReadStays = (front whole : List Handed) → AreCut front whole → (k i : ℕ) → i < length (slice_index_or front k no_message).replies
    → slice_index_or (slice_index_or front k no_message).replies i [] ≡ slice_index_or (slice_index_or whole k no_message).replies i []

-- What it has read so far tells the fates: of a recipient whose reply it has, whether the copy is stored.
pub record MayForget (host : List ℕ) (directory : Directory) (known whole : List Handed) (submissions : List Submission)
    (answers : List (List Verdict)) : Type 0 where
  pub fates : List Fate
  pub each : HaveFates host directory whole fates
  pub submissions_are : all_submitted fates ≡ submissions
  pub answers_are : all_told fates ≡ answers
  -- a recipient whose reply is 250 has its copy stored: the relay may forget its own
  pub stored : (k i : ℕ) → is_taken (slice_index_or known k no_message) i ≡ true → was_stored (slice_index_or fates k Unheard) i ≡ true
  -- and where it has read another reply, no copy of this message is stored for this recipient: the relay may send it again
  pub tells : (k i : ℕ) → i < length (slice_index_or known k no_message).replies
      → is_taken (slice_index_or known k no_message) i ≡ was_stored (slice_index_or fates k Unheard) i

-- by the bytes that it sent, and those that it was told so far
abbrev pub RelaysMayForget : Type 0
RelaysMayForget = (host : List ℕ) (setting : Setting) (directory : Directory) (events : List Event) (unheard : List (List ℕ))
    (sent told untold : List ℕ) → IsInLine host
    → EachMayHappen setting directory fresh events
    → wire_lines sent ≡ lines_of events ++ unheard
    → told ++ untold ≡ wire host (Greeting ∷ (dialogue setting directory fresh events).replies)
    → MayForget host directory (handed_over sent told) (handed_over sent (told ++ untold)) (dialogue setting directory fresh events).submissions
    (answers_of events)

-- the same of a dialogue during which shards are shut
abbrev pub RelaysMayForgetWhileShardsAreShut : Type 0
RelaysMayForgetWhileShardsAreShut = (host : List ℕ) (setting : Setting) (directory : Directory) (moments : List Moment) (unheard : List (List ℕ))
    (sent told untold : List ℕ) → IsInLine host
    → EachMomentMayHappen setting directory fresh moments
    → wire_lines sent ≡ lines_of (events_of moments) ++ unheard
    → told ++ untold ≡ wire host (Greeting ∷ (dialogue_over setting directory fresh moments).replies)
    → MayForget host directory (handed_over sent told) (handed_over sent (told ++ untold)) (dialogue_over setting directory fresh moments).submissions
    (answers_of (events_of moments))
