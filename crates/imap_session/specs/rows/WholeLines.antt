-- What came as a command with a line: where an argument goes before it, a response is asked for, or a message; and where memory was refused to the
-- argument.
use Rattle.std.specs.Prelude.{◌≡◌, ℕ, codes, length, nat_lt, List, [], ◌∷◌, Option, None, Some, if◌then◌else◌}
use Rattle.std.proofs.Common.{refl, ap}
use Rattle.change_ring.specs.Log.{no_flags}
use Rattle.imap_session.specs.declared.standing.Profile.TheVariants.{Standard}
use Rattle.imap_session.specs.Commands.{most_line}
use Rattle.imap_session.specs.Exchange.{Argument, Message, Purpose, Response, Standing, begun_with}
use Rattle.imap_session.specs.Happenings.{Answer, Line, Words, if_kept, told_of, whole_line}

abbrev pub with_inbox : Standing
with_inbox = begun_with (record { most = Some 10; profile = Standard; login = None }) (record { name = codes "INBOX"; mailbox = 0 } ∷ [])

abbrev pub goes_on : Purpose → (text : Option (List ℕ)) → Standing
goes_on purpose text = record with_inbox {
  mailing = record with_inbox.mailing { begun = Some (record { tag = codes "a1"; purpose = purpose; size = 5; due = 0; text = text }) };
}

joined : told_of (goes_on (Argument (codes "a1 SELECT ")) (Some (codes "INBOX"))) (Line [] []) (codes "a1 BAD Wrong state\r\n")
    ≡ Answer (codes "a1 SELECT \"INBOX\"") (codes "a1 BAD Wrong state\r\n")
joined = refl

responded : whole_line (goes_on (Response (codes "a1 AUTHENTICATE PLAIN")) (Some [])) [] ≡ Some (codes "a1 AUTHENTICATE PLAIN =")
responded = refl

behind_a_message : told_of (goes_on (Message None no_flags None) (Some (codes "x"))) (Line [] []) (codes "a1 NO Message too big\r\n")
    ≡ Words (codes "a1 NO Message too big\r\n")
behind_a_message = refl

without_memory : whole_line (goes_on (Argument (codes "a1 SELECT ")) None) [] ≡ None
without_memory = refl

-- what is one byte too long is given up
given_up : (line : List ℕ) → length line ≡ 8191 → if_kept (Some line) ≡ None
given_up line is = ap (λ (n : ℕ). if nat_lt most_line n then None else Some line) is
