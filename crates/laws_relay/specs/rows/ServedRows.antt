-- What a server's history says of copies, and what a line tells, by small cases: what the definitions say of them, and what they refuse.
use Rattle.std.specs.Prelude.{◌≡◌, ℕ, Bool, zero, suc, codes, true, false, List, [], ◌∷◌, ◌++◌, None, Some}
use Rattle.std.proofs.Common.{refl, ap, arith, inl, inr}
use Rattle.change_ring.specs.Log.{no_flags}
use Rattle.delivery_token.specs.Text.{undated}
use Rattle.delivery_token.specs.declared.Job.{Job}
use Rattle.delivery_token.specs.declared.Verdict.{Verdict}
use Rattle.delivery_token.specs.declared.Verdict.TheVariants.{Stored, Refused}
use Rattle.delivery_token.specs.declared.Refusal.TheVariants.{Full}
use Rattle.delivery_token.specs.declared.log.Noted.{Noted}
use Rattle.house_history.specs.declared.event.Event.{Event}
use Rattle.house_history.specs.declared.event.Event.TheVariants.{Sent, Withdrawn, Judged}
use Rattle.house_history.specs.Legal.{HasUid}
use Rattle.house_history.specs.Views.{IsSettledIn}
use Rattle.lmtp_machine.specs.declared.reply.Reply.TheVariants.{Greeting, ShuttingDown}
use Rattle.lmtp_machine.specs.Dialogue.{wire}
use Rattle.serving_workers.specs.Leaving.{Closed, Spoken, Told, Took, WereOver}

abbrev pub copy : Job
copy = record { key = record { seat = 0; serial = 3; message = 1; recipient = 0 }; mailbox = 2; text = undated (codes "hi\r\n"); flags = no_flags }

abbrev pub noted : Verdict → Noted
noted verdict = record { key = copy.key; mailbox = copy.mailbox; verdict = verdict }

-- ---- the last word on a copy

abbrev pub stored : List Event
stored = Sent copy 5 ∷ Judged copy (Stored 7) 5 ∷ []

abbrev pub withdrawn : List Event
withdrawn = Sent copy 5 ∷ Withdrawn 5 ∷ []

is_stored : IsSettledIn stored (noted (Stored 7))
is_stored = inl (copy, refl, refl, (5, (1, omega arith, refl)))

is_withdrawn : IsSettledIn withdrawn (noted (Refused Full))
is_withdrawn = inr (λ uid e. cc, (copy, refl, (5, (0, omega arith, refl), (1, omega arith, refl))))

-- a copy that was withdrawn isn't told as stored
withdrawn_told_as_stored : IsSettledIn withdrawn (noted (Stored 7)) → ⊥
withdrawn_told_as_stored (inl (job, keyed, here, (ticket, (zero, under, is)))) = cc
withdrawn_told_as_stored (inl (job, keyed, here, (ticket, (suc zero, under, is)))) = cc
withdrawn_told_as_stored (inl (job, keyed, here, (ticket, (suc (suc k), under, is)))) = omega (arith, under)
withdrawn_told_as_stored (inr (never, gone)) = never 7 refl

-- a UID has 32 bits
has_uid : HasUid (Stored 4294967295)
has_uid = omega arith

no_uid : HasUid (Stored 4294967296) → ⊥
no_uid h = omega (arith, h)

-- ---- lines

abbrev pub quit : List ℕ
quit = codes "QUIT\r\n"

abbrev pub greeted : List ℕ
greeted = codes "220 mx.example.org LMTP ready\r\n"

-- two connections came in, and the second has failed
abbrev pub two : Told
two = record { came = Some (quit ∷ quit ∷ []); said = Some ((greeted, false) ∷ ([], true) ∷ []) }

abbrev pub first : Spoken
first = record { read = quit; written = greeted; failed = false }

abbrev pub second : Spoken
second = record { read = []; written = []; failed = true }

were_over : WereOver two (first ∷ second ∷ [])
were_over = record { read = (([], refl), ((quit, refl), tt)); written = refl }

-- a connection that is left out
one_left_out : WereOver two (first ∷ []) → ⊥
one_left_out w = w.read.1

abbrev second_failed : List (List ℕ × Bool) → Bool
second_failed [] = false
second_failed (a ∷ []) = false
second_failed (a ∷ b ∷ more) = b.1

-- an output that had failed, told as whole
told_as_whole : WereOver two (first ∷ record second { failed = false } ∷ []) → ⊥
told_as_whole w = let e : true ≡ false = ap second_failed w.written in cc

-- bytes that its peer doesn't send
never_sent : WereOver two (record first { read = greeted } ∷ second ∷ []) → ⊥
never_sent w = let e = w.read.0.1 in cc

-- a line that tells nothing is held to nothing
silent : WereOver (record { came = None; said = None }) (first ∷ [])
silent = record { read = tt; written = tt }

-- one more has come, and is over
came_more : Took (record { came = Some []; said = Some [] }) (record { came = Some (quit ∷ []); said = Some [] }) (Some quit)
came_more = record { came = (quit, refl, refl); said = refl }

is_over_then : Closed (record { came = Some (quit ∷ []); said = Some [] }) (record { came = Some (quit ∷ []); said = Some ((greeted, false) ∷ []) }) (Some greeted) false
is_over_then = record { came = refl; said = ((greeted, false), refl, refl) }

-- what is written where nothing was said but the greeting
greeting_alone : wire (codes "mx.example.org") (Greeting ∷ []) ≡ greeted
greeting_alone = refl

with_farewell : wire (codes "mx.example.org") (Greeting ∷ ShuttingDown ∷ []) ≡ greeted ++ codes "421 4.3.2 Shutting down\r\n"
with_farewell = refl
