-- What the definitions refuse: fates that aren't those of the messages, and submissions that aren't of them.
use Rattle.std.proofs.Common.{◌≡◌, ℕ, true, List, [], ◌∷◌, refl, ap, sym, ◌∙◌}
use Rattle.std.specs.Prelude.{codes, Ok, Result, slice_index_or}
use Rattle.std.proofs.lemmas.Bool.{false≢true}
use Rattle.delivery_token.specs.declared.Verdict.{Verdict}
use Rattle.delivery_token.specs.declared.Verdict.TheVariants.{Stored, Refused}
use Rattle.delivery_token.specs.declared.Refusal.TheVariants.{MailboxFull}
use Rattle.envelope.specs.Names.{lookup}
use Rattle.envelope.specs.Reading.{read, forward_at}
use Rattle.envelope.specs.Values.{Command, Path, Rcpt}
use Rattle.envelope.specs.declared.command.CommandFault.{CommandFault}
use Rattle.envelope.specs.declared.directory.NoSuch.{NoSuch}
use Rattle.lmtp_machine.specs.Dialogue.{Submission}
use Rattle.laws_relay.specs.Handed.{Handed}
use Rattle.laws_relay.specs.Fates.{Fate, Awaited, Judged, TurnedAway, Unheard, AreKnown, HaveFates, IsSubmitted, all_ends, all_submitted, was_stored}
use Rattle.laws_relay.specs.Concludes.{Names}
use Rattle.laws_relay.specs.rows.HandedRows.{alice, bob, home, message, path_to, the_submission}
use Rattle.laws_relay.proofs.Taken.{taken_are_stored}

abbrev host : List ℕ
host = codes "mx.example.org"

-- for bob and alice: his mailbox was full, and her copy is stored
abbrev sent : Handed
sent = message (codes "MAIL FROM:<s@a.example>") (bob ∷ alice ∷ []) (codes ".." ∷ []) (codes "452 4.2.2 Mailbox full" ∷ codes "250 2.1.5 Delivered" ∷ [])

-- the verdicts in the other order
other_order : HaveFates host home (sent ∷ []) (Judged the_submission (Stored 7 ∷ Refused MailboxFull ∷ []) ∷ []) → ⊥
other_order h = false≢true (taken_are_stored host home (sent ∷ []) _ h 0 0)

-- a stored copy of which no verdict was told
not_told : HaveFates host home (sent ∷ []) (Awaited the_submission ∷ []) → ⊥
not_told h = false≢true (sym (taken_are_stored host home (sent ∷ []) _ h 0 1))

some_is_submitted : (fates : List Fate) (i : ℕ) → was_stored (slice_index_or fates 0 Unheard) i ≡ true → all_submitted fates ≡ [] → ⊥
some_is_submitted [] i e h = false≢true e
some_is_submitted (Judged submission verdicts ∷ fates) i e h = absurd (let k : ◌≡◌ {A = List Submission} (submission ∷ all_submitted fates) [] = h in cc)
some_is_submitted (Awaited submission ∷ fates) i e h = false≢true e
some_is_submitted (TurnedAway ∷ fates) i e h = false≢true e
some_is_submitted (Unheard ∷ fates) i e h = false≢true e

-- a stored copy that was never submitted
not_submitted : (ends : List (List Submission)) (answers : List (List Verdict)) → AreKnown host home (sent ∷ []) ends [] answers → ⊥
not_submitted ends answers k = some_is_submitted k.fates 1 (sym (taken_are_stored host home (sent ∷ []) k.fates k.each 0 1)) k.submissions_are

-- the mailboxes in the other order: the first line names bob
bob_is_read : read bob ≡ Ok (Rcpt (path_to (codes "bob")))
unfolding read forward_at
bob_is_read = refl

same_path : (a b : Path) → ◌≡◌ {A = Result Command CommandFault} (Ok (Rcpt a)) (Ok (Rcpt b)) → a ≡ b
same_path a b e = cc

not_alice : ◌≡◌ {A = Result ℕ NoSuch} (Ok 1) (Ok 0) → ⊥
not_alice e = cc

other_mailboxes : IsSubmitted home sent (record { keys = the_submission.keys; mailboxes = 0 ∷ 1 ∷ []; text = the_submission.text }) → ⊥
other_mailboxes s =
    let first : Names home bob 0 = s.names.0 in
    not_alice (ap (lookup home) (same_path (path_to (codes "bob")) first.0 (sym bob_is_read ∙ first.1)) ∙ first.2)

-- a message that was refused as a whole is not left out
none_ends : (fates : List Fate) → HaveFates host home [] fates → all_ends fates ≡ [] ∷ [] → ⊥
none_ends [] h e = absurd (let k : ◌≡◌ {A = List (List Submission)} [] ([] ∷ []) = e in cc)
none_ends (fate ∷ fates) h e = elim h [ ]

left_out : AreKnown host home [] ([] ∷ []) [] [] → ⊥
left_out k = none_ends k.fates k.each k.ends_are
