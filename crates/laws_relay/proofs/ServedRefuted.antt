-- What a server's promise to a relay refuses: the connection of `ServedHolds` with one thing wrong, as `ConcludesRefuted` has it. Above each stands what somebody
-- would have seen. Each history has just the events that matter.
use Rattle.std.proofs.Common.{◌≡◌, ◌<◌, ℕ, zero, suc, Bool, List, [], ◌∷◌, refl, ap, sym, arith}
use Rattle.std.specs.Prelude.{codes, slice_index_or}
use Rattle.delivery_token.specs.declared.Job.{Job}
use Rattle.delivery_token.specs.declared.Refusal.{Refusal}
use Rattle.delivery_token.specs.declared.Verdict.TheVariants.{Stored, Refused}
use Rattle.house_history.specs.declared.event.Event.{Event}
use Rattle.house_history.specs.declared.event.Event.TheVariants.{Sent, Withdrawn, Judged}
use Rattle.lane_work.specs.Account.{Premises}
use Rattle.laws_relay.specs.Concludes.{Concludes, StandsAsSent, key_at, of_history}
use Rattle.laws_relay.specs.Served.{LineConcludes}
use Rattle.laws_relay.specs.rows.HandedRows.{alice, bob, home}
use Rattle.laws_relay.specs.rows.AccountRows.{for_alice, for_bob, names_alice, the_message}
use Rattle.laws_relay.proofs.ConcludesHolds.{bobs, copy_of, hers, names_bob, right, told}
use Rattle.laws_relay.proofs.ConcludesRefuted as refuted
use Rattle.laws_relay.proofs.ConcludesRefuted.{rise, second_key, two}
use Rattle.laws_relay.proofs.ServedHolds.{job_in}

-- ---- a message that was told as delivered

-- Its sender has read 250, and forgets its own copy. Hers was withdrawn.
nowhere : StandsAsSent home (of_history (Sent hers 5 ∷ Withdrawn 5 ∷ [])) for_alice the_message 0 → ⊥
nowhere h = refuted.stands_not _ h refl

-- Her mailbox refused it.
lost : (why : Refusal) → Concludes home (of_history (Judged hers (Refused why) 5 ∷ [])) 2 4 told told → ⊥
lost why c = refuted.lost _ c refl

abbrev both : List Event
both = Judged hers (Stored 7) 5 ∷ Judged hers (Stored 8) 6 ∷ []

-- She finds it twice.
twice : StandsAsSent home (of_history both) for_alice the_message 0 → ⊥
twice h = refuted.stands_twice _ h 7 8 refl

told_twice : Concludes home (of_history both) 2 4 told told → ⊥
told_twice c = refuted.twice _ c 7 7 8 (refl, (5, (0, omega arith, refl))) refl

abbrev of_two : List Event
of_two = Judged hers (Stored 7) 5 ∷ Judged (copy_of for_alice 1 right) (Stored 3) 6 ∷ []

-- Bob finds her message too.
in_two : StandsAsSent home (of_history of_two) for_alice the_message 0 → ⊥
in_two h = refuted.stands_in_his _ h 3 (0, omega arith, refl)

told_in_two : Concludes home (of_history of_two) 2 4 told told → ⊥
told_in_two c = refuted.in_two _ c 7 3 (refl, (5, (0, omega arith, refl))) (0, omega arith, refl)

abbrev his : List Event
his = Judged (copy_of for_alice 1 right) (Stored 7) 5 ∷ []

-- Bob finds it, and she doesn't.
in_his : StandsAsSent home (of_history his) for_alice the_message 0 → ⊥
in_his h = refuted.stands_in_his _ h 7 (0, omega arith, refl)

told_in_his : Concludes home (of_history his) 2 4 told told → ⊥
told_in_his c = refuted.in_his _ c (copy_of for_alice 1 right) 7 (refl, (5, (0, omega arith, refl))) refl

abbrev changed : List Event
changed = Judged (copy_of for_alice 0 (codes "ha\r\n")) (Stored 7) 5 ∷ []

-- She reads another text than was sent.
other_text : StandsAsSent home (of_history changed) for_alice the_message 0 → ⊥
other_text h = refuted.stands_with_another_text _ h (λ copy uid stands. by stands.1.0 copy uid stands.1.1.0 stands.1.1.1 stands.1.1.2)
  where
    by : (ticket : ℕ) (copy : Job) (uid k : ℕ) → k < 1 → slice_index_or changed k (Judged copy (Stored uid) ticket) ≡ Judged copy (Stored uid) ticket → copy.text.bytes ≡ codes "ha\r\n"
    by ticket copy uid zero l e = sym (ap (λ (x : Event). (job_in x).text.bytes) e)
    by ticket copy uid (suc k) l e = absurd (omega (arith, l))

told_with_another_text : Concludes home (of_history changed) 2 4 told told → ⊥
told_with_another_text c = refuted.other_text _ c (copy_of for_alice 0 (codes "ha\r\n")) 7 (refl, (5, (0, omega arith, refl))) refl refl

-- What she finds is bob's copy, and hers is nowhere.
other_key : StandsAsSent home (of_history (Judged (copy_of for_bob 0 right) (Stored 7) 5 ∷ [])) for_alice the_message 0 → ⊥
other_key h = refuted.stands_under_his_key _ h 7 refl

-- ---- what else stands of the connection

-- Bob finds the message that was refused for him. It will come again.
refused_stands : Concludes home (of_history (Judged hers (Stored 7) 5 ∷ Judged bobs (Stored 1) 6 ∷ [])) 2 4 told told → ⊥
refused_stands c = refuted.refused_stands _ c 1 bobs 1 (refl, (6, (1, omega arith, refl))) refl

-- She finds a second one, for a recipient that nobody named.
of_nobody : Concludes home (of_history (Judged hers (Stored 7) 5 ∷ Judged (copy_of (key_at 2 4 0 5) 0 right) (Stored 8) 6 ∷ [])) 2 4 told told → ⊥
of_nobody c = refuted.of_nobody _ c 0 (copy_of (key_at 2 4 0 5) 0 right) 8 (refl, (6, (1, omega arith, refl))) refl

-- She finds a second one, of a message that nobody sent.
never_sent : Concludes home (of_history (Judged hers (Stored 7) 5 ∷ Judged (copy_of (key_at 2 4 3 0) 0 right) (Stored 8) 6 ∷ [])) 2 4 told told → ⊥
never_sent c =
    refuted.never_sent _ c 7 (refl, (5, (0, omega arith, refl))) 0 (copy_of (key_at 2 4 3 0) 0 right) 8 (refl, (6, (1, omega arith, refl))) refl

-- She finds a message, and on this connection nothing was handed over.
of_nothing : Concludes home (of_history (Judged hers (Stored 7) 5 ∷ [])) 2 4 [] [] → ⊥
of_nothing c = refuted.of_nothing _ c 0 hers 7 (refl, (5, (0, omega arith, refl))) refl refl

-- ---- two messages

-- She finds the second message before the first.
later_first : Concludes home (of_history (Judged (copy_of second_key 0 right) (Stored 7) 5 ∷ Judged hers (Stored 8) 6 ∷ [])) 2 4 (two alice alice) (two alice alice) → ⊥
later_first c = refuted.later_first _ c 7 8 refl

-- The first message, hers, is numbered behind the second, which is bob's.
numbered_behind : Concludes home (of_history (Judged (copy_of second_key 0 right) (Stored 7) 5 ∷ Judged (copy_of for_alice 1 right) (Stored 1) 6 ∷ [])) 2 4 (two alice bob) (two alice bob) → ⊥
numbered_behind c = let less = rise _ alice bob 0 1 names_alice names_bob (second_key, 7) (for_alice, 1) refl refl c in omega (arith, less)

-- She finds one of two messages.
one_for_two : Concludes home (of_history (Judged hers (Stored 7) 5 ∷ [])) 2 4 (two alice alice) (two alice alice) → ⊥
one_for_two c = let less = rise _ alice alice 0 0 names_alice names_alice (for_alice, 7) (for_alice, 7) refl refl c in omega (arith, less)

-- ---- all connections of a worker

-- She finds a message of the fifth connection, and only one came in.
of_no_connection : (house : Premises) (came : List (List ℕ)) (one : List ℕ × Bool) → LineConcludes house 2 (Judged hers (Stored 7) 5 ∷ []) came (one ∷ []) → ⊥
of_no_connection house came one line = let serial = line.nothing_else hers 7 (5, (0, omega arith, refl)) refl in omega (arith, serial)

-- Of one of two connections nothing is told.
one_left_out : (house : Premises) (history : List Event) (a b : List ℕ) (one : List ℕ × Bool) → LineConcludes house 2 history (a ∷ b ∷ []) (one ∷ []) → ⊥
one_left_out house history a b one line = let many = line.as_many in omega (arith, many)
