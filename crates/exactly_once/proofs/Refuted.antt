-- What the promise refuses: one copy told twice, and words that aren't the event's own.
use Rattle.std.proofs.Common.{◌≡◌, ℕ, ◌≢◌, List, [], ◌∷◌, AllPairs, ap, arith, subst, Some, refl}
use Rattle.std.specs.Borrow.{Bor}
use Rattle.std.specs.Prelude.{Contains}
use Rattle.delivery_token.specs.declared.CopyKey.{CopyKey}
use Rattle.delivery_token.specs.declared.log.Noted.{Noted}
use Rattle.world.specs.World.{World}
use Rattle.house.specs.Setup.{Setup}
use Rattle.house.specs.declared.event.Event.TheVariants.{Bytes, Say, Take}
use Rattle.house.specs.Scene.{Scene, seat_of}
use Rattle.exactly_once.specs.Promise.{Entry, IsOwn, Lines, Replies, Said, TellsOnce, verdicts_of}
use Rattle.delivery_token.specs.declared.Verdict.{Verdict}
use Rattle.imap_session.specs.Exchange.{Sent}
use Rattle.house_peers.specs.Visitor.{keys_of}
use Rattle.exactly_once.specs.Appended.{AnswersOnce, noted_for}
use Rattle.exactly_once.proofs.Going.{below_itself, none_twice}

-- two lines about one copy, whatever they say of it
one_copy_twice : (w : World) (entries : List Entry) (p : ℕ) (a b : Noted) → a.key ≡ b.key → verdicts_of p entries ≡ a ∷ b ∷ [] → TellsOnce w entries → ⊥
one_copy_twice w entries p a b same is h =
    let n = none_twice w entries h in
    let apart : AllPairs (λ x y. x.key ≢ y.key) (a ∷ b ∷ []) = subst (AllPairs (λ (x : Noted) (y : Noted). x.key ≢ y.key)) is (n.at_a_seat p) in
    apart 0 1 a (omega arith) (omega arith) same

-- and one verdict that sessions answered twice
one_answered_twice : (k : Setup) (w : World) (a b : Noted) → a.key ≡ b.key → AnswersOnce k w (a ∷ b ∷ []) → ⊥
one_answered_twice k w a b same h = below_itself a.key b.key (h.in_order 0 1 a (omega arith) (omega arith) (ap (λ (x : CopyKey). x.seat) same)) same

-- the verdict on a message that a session awaits is counted, and as its seat has heard it
one_is_counted : (heard : List Noted) (seat serial mailbox : ℕ) (sent : Sent) (verdict : Verdict) → (there : Contains heard (record { key = record { seat = seat; serial = serial; message = sent.append.message; recipient = 0 }; mailbox = mailbox; verdict = verdict }))
    → noted_for heard (keys_of seat serial (Some sent)) verdict ((mailbox, there), tt) ≡ record { key = record { seat = seat; serial = serial; message = sent.append.message; recipient = 0 }; mailbox = mailbox; verdict = verdict } ∷ []
one_is_counted heard seat serial mailbox sent verdict there = refl

-- the lines of a session at an event of a connection
lines_of_nobody : (k : Setup) (s t : Scene) (connection n : ℕ) (bytes : Bor (List ℕ)) (lines : List (List ℕ)) → IsOwn k s (Bytes connection bytes) t (Lines n lines) → ⊥
lines_of_nobody k s t connection n bytes lines own = own

-- replies at an event of a session, or of a shard
replies_to_a_session : (k : Setup) (s t : Scene) (session seat : ℕ) (bytes : Bor (List ℕ)) (said : List Said) → IsOwn k s (Say session bytes) t (Replies seat said) → ⊥
replies_to_a_session k s t session seat bytes said own = own

replies_to_nobody : (k : Setup) (s t : Scene) (shard seat : ℕ) (said : List Said) → IsOwn k s (Take shard) t (Replies seat said) → ⊥
replies_to_nobody k s t shard seat said own = own

-- replies of another seat
of_another_seat : (k : Setup) (s t : Scene) (connection seat : ℕ) (bytes : Bor (List ℕ)) (said : List Said) → seat ≢ seat_of connection → IsOwn k s (Bytes connection bytes) t (Replies seat said) → ⊥
of_another_seat k s t connection seat bytes said other own = other own.0
