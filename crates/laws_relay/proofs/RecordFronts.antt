-- What a relay knows by a front of the replies, of each message; and how many verdicts were told on one of which it has read a reply.
use Rattle.std.proofs.Common.{◌≡◌, ℕ, zero, suc, ◌<◌, true, List, [], length, length-append, map, refl, ap, arith}
use Rattle.std.specs.Prelude.{slice_index_or}
use Rattle.std.proofs.lemmas.Bool.{false≢true}
use Rattle.std.proofs.lemmas.List.{length-map}
use Rattle.envelope.specs.Names.{Directory}
use Rattle.lmtp_machine.specs.Dialogue.{verdict_reply}
use Rattle.laws_relay.specs.Fates.{AreCut, Fate, Judged, Awaited, TurnedAway, Unheard, HaveFates, all_submitted, all_told, awaited, cut, judged, none, same, turned_away, unheard, was_stored}
use Rattle.laws_relay.specs.Handed.{Handed}
use Rattle.laws_relay.specs.ReplyLaws.{last_line}
use Rattle.laws_relay.specs.Numbers.{number_of, was_submitted}
use Rattle.laws_relay.specs.Concluded.{fate_at, message_at}

-- the two are one message, of which the second has at least these replies
pub record IsFrontOf (front whole : Handed) : Type 0 where
  pub mail : front.mail ≡ whole.mail
  pub recipients : front.recipients ≡ whole.recipients
  pub lines : front.lines ≡ whole.lines

-- a message of which it has read a reply
pub front_at : {front whole : List Handed} → AreCut front whole → (i j : ℕ) → j < length (message_at front i).replies
    → IsFrontOf (message_at front i) (message_at whole i) × (j < length (message_at whole i).replies)
front_at none i j l = absurd (omega (arith, l))
front_at (same message c) zero j l = (record { mail = refl; recipients = refl; lines = refl }, l)
front_at (same message c) (suc i) j l = front_at c i j l
front_at (cut mail recipients lines told untold) zero j l = (record { mail = refl; recipients = refl; lines = refl }, (let e = length-append told untold in omega (arith, l, e)))
front_at (cut mail recipients lines told untold) (suc i) j l = absurd (omega (arith, l))

-- a copy that is stored is of a message that was submitted
pub stored_submitted : (fate : Fate) (j : ℕ) → was_stored fate j ≡ true → was_submitted fate ≡ true
stored_submitted (Judged submission verdicts) j e = refl
stored_submitted (Awaited submission) j e = refl
stored_submitted TurnedAway j e = absurd (false≢true e)
stored_submitted Unheard j e = absurd (false≢true e)

-- a message that was submitted and of which a reply was told has as many verdicts
pub judged_at : (host : List ℕ) (directory : Directory) {messages : List Handed} {fates : List Fate} → HaveFates host directory messages fates
    → (i j : ℕ) → was_submitted (fate_at fates i) ≡ true → j < length (message_at messages i).replies → j < length (slice_index_or (all_told fates) (number_of fates i) [])
judged_at host directory none i j e l = absurd (false≢true e)
judged_at host directory (judged message submission verdicts is many r h) zero j e l =
    let a = ap length r in
    let b = length-map (map verdict_reply verdicts) (last_line host) in
    let c = length-map verdicts verdict_reply in
    omega (arith, l, a, b, c)
judged_at host directory (judged message submission verdicts is many r h) (suc i) j e l = judged_at host directory h i j e l
judged_at host directory (turned_away message many r h) zero j e l = absurd (false≢true e)
judged_at host directory (turned_away message many r h) (suc i) j e l = judged_at host directory h i j e l
judged_at host directory (awaited message submission is r) zero j e l = let a : length message.replies ≡ 0 = ap length r in absurd (omega (arith, l, a))
judged_at host directory (awaited message submission is r) (suc i) j e l = absurd (false≢true e)
judged_at host directory (unheard message r) zero j e l = absurd (false≢true e)
judged_at host directory (unheard message r) (suc i) j e l = absurd (false≢true e)

-- where each message that was submitted has its verdicts, each has as many replies as recipients
pub all_replied : (host : List ℕ) (directory : Directory) {messages : List Handed} {fates : List Fate} → HaveFates host directory messages fates
    → length (all_told fates) ≡ length (all_submitted fates)
    → (i : ℕ) → was_submitted (fate_at fates i) ≡ true → length (message_at messages i).replies ≡ length (message_at messages i).recipients
all_replied host directory none e i t = absurd (false≢true t)
all_replied host directory (judged message submission verdicts is many r h) e zero t =
    let a = ap length r in
    let b = length-map (map verdict_reply verdicts) (last_line host) in
    let c = length-map verdicts verdict_reply in
    omega (arith, many, a, b, c)
all_replied host directory (judged message submission verdicts is many r h) e (suc i) t = all_replied host directory h (omega (arith, e)) i t
all_replied host directory (turned_away message many r h) e zero t = absurd (false≢true t)
all_replied host directory (turned_away message many r h) e (suc i) t = all_replied host directory h e i t
all_replied host directory (awaited message submission is r) e zero t = absurd (omega (arith, e))
all_replied host directory (awaited message submission is r) e (suc i) t = absurd (false≢true t)
all_replied host directory (unheard message r) e zero t = absurd (false≢true t)
all_replied host directory (unheard message r) e (suc i) t = absurd (false≢true t)
