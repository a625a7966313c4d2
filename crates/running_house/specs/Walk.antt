-- How the messages of a mailbox are met with what it accepted and with what was taken for it, when all three are in one order: the first
-- accepted copy with the message's UID, the first copy that was taken with that one's key, and so on behind these.
use Rattle.std.specs.Prelude.{◌≡◌, ◌<◌, length, slice_index_or, ℕ, ◌==◌, ◌&&◌, Bool, true, false, List, [], ◌∷◌, Option, Some, None, if◌then◌else◌}
use mathlib.Core.Bool.{beq}
use Rattle.std.specs.Option.{option_eq}
use Rattle.std.specs.Str.{bytes_eq}
use Rattle.mail_date.specs.declared.stamp.Stamp.{Stamp}
use Rattle.mail_date.specs.declared.stamp.Zone.{Zone}
use Rattle.delivery_token.specs.Text.{Text}
use Rattle.delivery_token.specs.declared.CopyKey.{CopyKey}
use Rattle.delivery_token.specs.declared.Job.{Job}
use Rattle.delivery_token.specs.declared.log.Noted.{Noted}
use Rattle.envelope.specs.Names.{Directory, shard_of}
use Rattle.running_house.specs.Lists.{AreTold, IsEachThere}

-- the key of the first accepted copy with this UID, and what stands behind it
abbrev pub pair_with : ℕ → List (CopyKey × ℕ) → Option (CopyKey × List (CopyKey × ℕ))
pair_with uid [] = None
pair_with uid (pair ∷ pairs) = if pair.1 == uid then Some (pair.0, pairs) else pair_with uid pairs

abbrev pub is_key : CopyKey → CopyKey → Bool
is_key a b = a.seat == b.seat && (a.serial == b.serial && (a.message == b.message && a.recipient == b.recipient))

-- the text of the first copy for this mailbox with this key, and what stands behind it
abbrev pub copy_with : ℕ → CopyKey → List Job → Option (Text × List Job)
copy_with mailbox key [] = None
copy_with mailbox key (copy ∷ copies) =
    if copy.mailbox == mailbox && is_key copy.key key then Some (copy.text, copies) else copy_with mailbox key copies

-- ---- the same text: the same bytes, and the same date that came with them

abbrev pub is_zone : Zone → Zone → Bool
is_zone a b = beq a.is_west b.is_west && (a.hours == b.hours && a.minutes == b.minutes)

abbrev pub is_stamp : Stamp → Stamp → Bool
is_stamp a b =
    a.year == b.year && (a.month == b.month && (a.day == b.day
    && (a.hour == b.hour && (a.minute == b.minute && (a.second == b.second && is_zone a.zone b.zone)))))

abbrev pub is_text : Text → Text → Bool
is_text a b = bytes_eq a.bytes b.bytes && option_eq is_stamp a.date b.date

-- ---- what is left of both lists behind a message, where it is met

abbrev pub with_text : Text → List (CopyKey × ℕ) → Option (Text × List Job) → Option (List (CopyKey × ℕ) × List Job)
with_text text pairs None = None
with_text text pairs (Some found) = if is_text text found.0 then Some (pairs, found.1) else None

abbrev pub with_copy : ℕ → Text → List Job → Option (CopyKey × List (CopyKey × ℕ)) → Option (List (CopyKey × ℕ) × List Job)
with_copy mailbox text copies None = None
with_copy mailbox text copies (Some found) = with_text text found.1 (copy_with mailbox found.0 copies)

abbrev pub behind : ℕ → ℕ × Text → List (CopyKey × ℕ) × List Job → Option (List (CopyKey × ℕ) × List Job)
behind mailbox message left = with_copy mailbox message.1 left.1 (pair_with message.0 left.0)

-- each message is met, one after another
abbrev pub are_met : ℕ → Option (List (CopyKey × ℕ) × List Job) → List (ℕ × Text) → Bool
are_met mailbox None texts = false
are_met mailbox (Some left) [] = true
are_met mailbox (Some left) (message ∷ texts) = are_met mailbox (behind mailbox message left) texts

-- ---- one mailbox and all, as they are compared

pub record MailboxMet (whole : Bool) (logs : List (List Noted)) (copies : List Job) (mailbox : ℕ)
    (accepted : List (CopyKey × ℕ)) (texts : List (ℕ × Text)) : Type 0 where
  pub told : AreTold logs mailbox accepted
  pub met : are_met mailbox (Some (accepted, copies)) texts ≡ true
  pub each : whole ≡ true → IsEachThere accepted texts

pub record ListsMet (directory : Directory) (whole : Bool) (logs : List (List Noted)) (copies : List (List Job))
    (accepted : List (List (CopyKey × ℕ))) (texts : List (List (ℕ × Text))) : Type 0 where
  pub mailboxes : (length accepted ≡ length directory.homes) × (length texts ≡ length directory.homes)
  pub mailbox : (m : ℕ) → m < length directory.homes
      → MailboxMet whole logs (slice_index_or copies (shard_of directory m) []) m
      (slice_index_or accepted m []) (slice_index_or texts m [])
