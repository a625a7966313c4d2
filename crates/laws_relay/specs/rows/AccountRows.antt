-- Worked cases: a message for alice, for carol, who is unknown, and for bob, whose mailbox is full; alice's copy is stored. Another worker's message stands beside it.
use Rattle.std.specs.Prelude.{◌≡◌, ℕ, zero, suc, true, false, codes, List, [], ◌∷◌, ◌++◌, slice_index_or}
use Rattle.std.proofs.Common.{refl}
use Rattle.delivery_token.specs.Text.{undated}
use Rattle.delivery_token.specs.declared.CopyKey.{CopyKey}
use Rattle.envelope.specs.Reading.{read, forward_at}
use Rattle.envelope.specs.Values.{To}
use Rattle.laws_relay.specs.Handed.{Handed, handed_over, is_taken}
use Rattle.laws_relay.specs.Concludes.{Names, IsTextOf, key_at, message_at}
use Rattle.laws_relay.specs.rows.HandedRows.{alice, bob, greeting, home, message, path_to, three}
use Rattle.laws_relay.specs.Entries.{StandsNowhere, StandsOnce, with_key, with_uid}

-- ---- what the relay was told

abbrev pub replied : List ℕ
replied = greeting ++ codes "250 2.1.5 Recipient OK\r\n550 5.1.1 Mailbox unknown\r\n250 2.1.5 Recipient OK\r\n354 Start mail input\r\n250 2.1.5 Delivered\r\n452 4.2.2 Mailbox full\r\n"

abbrev pub the_message : Handed
the_message = message (codes "MAIL FROM:<s@a.example>") (alice ∷ bob ∷ []) (codes "hi" ∷ []) (codes "250 2.1.5 Delivered" ∷ codes "452 4.2.2 Mailbox full" ∷ [])

pub known : handed_over three replied ≡ the_message ∷ []
known = refl

pub alice_is_taken : is_taken (message_at (handed_over three replied) 0) 0 ≡ true
alice_is_taken = refl

pub bob_is_not : is_taken (message_at (handed_over three replied) 0) 1 ≡ false
bob_is_not = refl

-- ---- what the mailboxes accepted: worker 2's connection 4, and worker 3's

-- the copies of alice and of bob, the recipients 0 and 1
abbrev pub for_alice : CopyKey
for_alice = key_at 2 4 0 0

abbrev pub for_bob : CopyKey
for_bob = key_at 2 4 0 1

abbrev pub accepted : List (List (CopyKey × ℕ))
accepted = ((key_at 3 4 0 0, 6) ∷ (for_alice, 7) ∷ []) ∷ [] ∷ []

-- her copy stands once, in her mailbox
pub alice_stands : StandsOnce accepted for_alice 0 7
alice_stands = record { here = refl; elsewhere = elsewhere }
  where
    elsewhere : (other : ℕ) → (other ≡ 0 → ⊥) → with_key for_alice (slice_index_or accepted other []) ≡ []
    elsewhere zero differs = absurd (differs refl)
    elsewhere (suc zero) differs = refl
    elsewhere (suc (suc other)) differs = refl

-- and no copy of bob's
pub bob_stands_nowhere : StandsNowhere accepted for_bob
bob_stands_nowhere zero = refl
bob_stands_nowhere (suc zero) = refl
bob_stands_nowhere (suc (suc mailbox)) = refl

-- the UID is hers alone
hers_alone : with_uid 7 (slice_index_or accepted 0 []) ≡ (for_alice, 7) ∷ []
hers_alone = refl

-- two copies under one UID are two
shared : with_uid 7 ((for_alice, 7) ∷ (key_at 3 4 0 0, 7) ∷ []) ≡ (for_alice, 7) ∷ (key_at 3 4 0 0, 7) ∷ []
shared = refl

-- copies of other recipients, messages, connections and workers have other keys
others : with_key for_alice ((for_bob, 1) ∷ (key_at 2 4 1 0, 2) ∷ (key_at 2 5 0 0, 3) ∷ (key_at 3 4 0 0, 4) ∷ []) ≡ []
others = refl

-- ---- its text

pub names_alice : Names home alice 0
unfolding read forward_at
names_alice = (path_to (codes "alice"), refl, refl)

pub its_text : IsTextOf the_message (undated (codes "Return-Path: <s@a.example>\r\nhi\r\n"))
unfolding read forward_at
its_text = record { sender = codes "s@a.example"; from = (To (record { local = codes "s"; domain = codes "a.example" }), refl, refl); is = refl }
