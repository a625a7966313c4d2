-- What the promise to a relay refuses, whatever keeps the copies: the connection of `ConcludesHolds` with one thing wrong. `ServedRefuted` says it of the history
-- of a server, and `RecordedRefuted` of the mailboxes of a house on one thread.
use Rattle.std.proofs.Common.{◌≡◌, ◌≢◌, ◌<◌, ◌≤◌, ◌⊎◌, inl, inr, ℕ, zero, suc, true, List, [], ◌∷◌, length, refl, Option, Some, ap, sym, subst, ◌∙◌, AllPairs, Contains, arith}
use Rattle.std.specs.Prelude.{codes, slice_index_or}
use Rattle.std.proofs.lemmas.Bool.{false≢true}
use Rattle.change_ring.specs.Log.{no_flags}
use Rattle.delivery_token.specs.Keys.{Below}
use Rattle.delivery_token.specs.Text.{Text}
use Rattle.delivery_token.specs.declared.CopyKey.{CopyKey}
use Rattle.delivery_token.specs.declared.Job.{Job}
use Rattle.envelope.specs.Reading.{read}
use Rattle.house_history.specs.Events.{keys_of_seat}
use Rattle.lmtp_machine.specs.Message.{stored_text}
use Rattle.world.specs.Law.{StandsOnce}
use Rattle.laws_relay.specs.Concludes.{Concludes, Copies, IsTextOf, Names, StandsAsSent, WasHandedOver, key_at, message_at}
use Rattle.laws_relay.specs.Handed.{Handed, is_taken}
use Rattle.laws_relay.specs.rows.HandedRows.{alice, home, message}
use Rattle.laws_relay.specs.rows.AccountRows.{for_alice, for_bob, names_alice, the_message}
use Rattle.laws_relay.proofs.ConcludesHolds.{hers, one_mailbox, told}
use Rattle.laws_relay.proofs.Positions.{same_some}

-- ---- where a copy stands

module _ (copies : Copies) (key : CopyKey) (m : Handed) (i mailbox : ℕ) (named : Names home (slice_index_or m.recipients i []) mailbox) (h : StandsAsSent home copies key m i) where
  in_box : StandsOnce (copies.accepted mailbox) key h.uid
  in_box = subst (λ (box : ℕ). StandsOnce (copies.accepted box) key h.uid) (one_mailbox _ h.mailbox mailbox h.names named) h.once

  there_alone : (box uid : ℕ) → Contains (copies.accepted box) (key, uid) → box ≡ mailbox
  there_alone box uid c = (h.nowhere_else box uid c).0 ∙ one_mailbox _ h.mailbox mailbox h.names named

only : (x : CopyKey × ℕ) (key : CopyKey) (uid : ℕ) → StandsOnce (x ∷ []) key uid → x ≡ (key, uid)
only x key uid s =
    let first : s.position ≡ 0 = (let within : s.position < 1 = s.within in omega (arith, within)) in
    subst (λ (i : ℕ). slice_index_or (x ∷ []) i (key, uid) ≡ (key, uid)) first s.here

-- that isn't her text
not_her_text : (text : Text) → IsTextOf the_message text → text.bytes ≡ codes "ha\r\n" → ⊥
not_her_text text t e = let is : codes "ha\r\n" ≡ stored_text t.sender the_message.lines = sym e ∙ ap (λ (w : Text). w.bytes) t.is in cc

-- ---- hers doesn't stand as it was sent

module _ (copies : Copies) (h : StandsAsSent home copies for_alice the_message 0) where
  in_her_box : StandsOnce (copies.accepted 0) for_alice h.uid
  in_her_box = in_box copies for_alice the_message 0 0 names_alice h

  -- Her mailbox has nothing.
  pub stands_not : copies.accepted 0 ≡ [] → ⊥
  stands_not none = let within = in_her_box.within in let few = ap length none in omega (arith, within, few)

  -- She finds it twice.
  pub stands_twice : (a b : ℕ) → copies.accepted 0 ≡ (for_alice, a) ∷ (for_alice, b) ∷ [] → ⊥
  stands_twice a b is =
      let s = subst (λ (l : List (CopyKey × ℕ)). StandsOnce l for_alice h.uid) is in_her_box in
      let first : 0 ≡ s.position = s.alone 0 (for_alice, a) (omega arith) refl in
      let second : 1 ≡ s.position = s.alone 1 (for_alice, b) (omega arith) refl in
      omega (arith, first, second)

  -- Bob finds it.
  pub stands_in_his : (uid : ℕ) → Contains (copies.accepted 1) (for_alice, uid) → ⊥
  stands_in_his uid there = let same = there_alone copies for_alice the_message 0 0 names_alice h 1 uid there in omega (arith, same)

  -- Whatever she finds has another text than was sent.
  pub stands_with_another_text : ((copy : Job) (uid : ℕ) → copies.Stands 0 copy uid → copy.text.bytes ≡ codes "ha\r\n") → ⊥
  stands_with_another_text other =
      not_her_text h.copy.text h.text (other h.copy h.uid (subst (λ (box : ℕ). copies.Stands box h.copy h.uid) (one_mailbox _ h.mailbox 0 h.names names_alice) h.stands))

  -- Whatever she finds has a flag.
  pub stands_with_a_flag : ((copy : Job) (uid : ℕ) → copies.Stands 0 copy uid → copy.flags ≢ no_flags) → ⊥
  stands_with_a_flag flagged = flagged h.copy h.uid (subst (λ (box : ℕ). copies.Stands box h.copy h.uid) (one_mailbox _ h.mailbox 0 h.names names_alice) h.stands) h.plain

  -- What she finds is bob's copy, and hers is nowhere.
  pub stands_under_his_key : (uid : ℕ) → copies.accepted 0 ≡ (for_bob, uid) ∷ [] → ⊥
  stands_under_his_key uid is =
      let same = only (for_bob, uid) for_alice h.uid (subst (λ (l : List (CopyKey × ℕ)). StandsOnce l for_alice h.uid) is in_her_box) in
      let which : 1 ≡ 0 = ap (λ (x : CopyKey × ℕ). x.0.recipient) same in omega (arith, which)

-- ---- whatever stands of the connection is hers

nobody : (mailbox : ℕ) → Names home [] mailbox → ⊥
unfolding read
nobody mailbox n = let e = n.1 in cc

-- what the relay read of a recipient for whom a copy stands
was_taken : (k i mailbox : ℕ) → Names home (slice_index_or (message_at told k).recipients i []) mailbox
    → (is_taken (message_at told k) i ≡ true) ⊎ (length (message_at told k).replies ≤ i) → (k ≡ 0) × (i ≡ 0)
was_taken zero zero mailbox n read = (refl, refl)
was_taken zero (suc zero) mailbox n (inl e) = absurd (false≢true e)
was_taken zero (suc zero) mailbox n (inr l) = absurd (omega (arith, l))
was_taken zero (suc (suc i)) mailbox n read = absurd (nobody mailbox n)
was_taken (suc k) i mailbox n read = absurd (nobody mailbox n)

record IsHers (number : ℕ → Option ℕ) (mailbox : ℕ) (copy : Job) : Type 0 where
  recipient : copy.key.recipient ≡ 0
  numbered : number 0 ≡ Some copy.key.message
  names : Names home alice mailbox
  text : IsTextOf the_message copy.text

is_hers : (copies : Copies) (c : Concludes home copies 2 4 told told) (mailbox : ℕ) (copy : Job) (uid : ℕ) → copies.Stands mailbox copy uid → copy.key.seat ≡ 2 → copy.key.serial ≡ 4
    → IsHers c.number mailbox copy
is_hers copies c mailbox copy uid stands seat serial =
    let w : WasHandedOver home c.number told told mailbox copy = c.nothing_else mailbox copy uid stands seat serial in
    let first = was_taken w.k copy.key.recipient mailbox w.names w.read in
    let of_first : Names home (slice_index_or the_message.recipients copy.key.recipient []) mailbox =
    subst (λ (k : ℕ). Names home (slice_index_or (message_at told k).recipients copy.key.recipient []) mailbox) first.0 w.names in record {
      recipient = first.1;
      numbered = subst (λ (k : ℕ). c.number k ≡ Some copy.key.message) first.0 w.numbered;
      names = subst (λ (i : ℕ). Names home (slice_index_or the_message.recipients i []) mailbox) first.1 of_first;
      text = subst (λ (k : ℕ). IsTextOf (message_at told k) copy.text) first.0 w.text;
    }

-- of a copy that has this key
with_key : (copies : Copies) (c : Concludes home copies 2 4 told told) (mailbox : ℕ) (copy : Job) (uid number i : ℕ) → copies.Stands mailbox copy uid → copy.key ≡ key_at 2 4 number i
    → IsHers c.number mailbox copy
with_key copies c mailbox copy uid number i stands keyed =
    is_hers copies c mailbox copy uid stands (ap (λ (key : CopyKey). key.seat) keyed) (ap (λ (key : CopyKey). key.serial) keyed)

-- ---- a message for alice, whose reply is 250, and for bob, whose reply is 452

module _ (copies : Copies) (c : Concludes home copies 2 4 told told) where
  -- where hers stands, it is as it was sent
  stands_so : (uid : ℕ) → copies.Stands 0 hers uid → StandsAsSent home copies for_alice the_message 0
  stands_so uid stands =
      let s = c.taken 0 0 refl in
      let numbered : c.number 0 ≡ Some 0 = (is_hers copies c 0 hers uid stands refl refl).numbered in
      subst (λ (n : ℕ). StandsAsSent home copies (key_at 2 4 n 0) the_message 0) (same_some (sym s.1 ∙ numbered)) s.2

  -- Its sender has read 250 for alice, and forgets its own copy. Her mailbox has nothing.
  pub lost : copies.accepted 0 ≡ [] → ⊥
  lost none =
      let s = c.taken 0 0 refl in
      let within = (in_box copies (key_at 2 4 s.0 0) the_message 0 0 names_alice s.2).within in
      let few = ap length none in omega (arith, within, few)

  -- She finds it twice.
  pub twice : (uid a b : ℕ) → copies.Stands 0 hers uid → copies.accepted 0 ≡ (for_alice, a) ∷ (for_alice, b) ∷ [] → ⊥
  twice uid a b stands is = stands_twice copies (stands_so uid stands) a b is

  -- Bob finds her message too.
  pub in_two : (uid other : ℕ) → copies.Stands 0 hers uid → Contains (copies.accepted 1) (for_alice, other) → ⊥
  in_two uid other stands there = stands_in_his copies (stands_so uid stands) other there

  -- Bob finds it, and she doesn't.
  pub in_his : (copy : Job) (uid : ℕ) → copies.Stands 1 copy uid → copy.key ≡ for_alice → ⊥
  in_his copy uid stands keyed = let same = one_mailbox alice 1 0 (with_key copies c 1 copy uid 0 0 stands keyed).names names_alice in omega (arith, same)

  -- She reads another text than was sent.
  pub other_text : (copy : Job) (uid : ℕ) → copies.Stands 0 copy uid → copy.key ≡ for_alice → copy.text.bytes ≡ codes "ha\r\n" → ⊥
  other_text copy uid stands keyed is = not_her_text copy.text (with_key copies c 0 copy uid 0 0 stands keyed).text is

  -- Bob finds the message that was refused for him. It will come again.
  pub refused_stands : (mailbox : ℕ) (copy : Job) (uid : ℕ) → copies.Stands mailbox copy uid → copy.key ≡ for_bob → ⊥
  refused_stands mailbox copy uid stands keyed =
      let which = (with_key copies c mailbox copy uid 0 1 stands keyed).recipient in let is = ap (λ (key : CopyKey). key.recipient) keyed in omega (arith, which, is)

  -- Somebody finds one for a recipient that nobody named.
  pub of_nobody : (mailbox : ℕ) (copy : Job) (uid : ℕ) → copies.Stands mailbox copy uid → copy.key ≡ key_at 2 4 0 5 → ⊥
  of_nobody mailbox copy uid stands keyed =
      let which = (with_key copies c mailbox copy uid 0 5 stands keyed).recipient in let is = ap (λ (key : CopyKey). key.recipient) keyed in omega (arith, which, is)

  -- Beside hers somebody finds one of a message that nobody sent.
  pub never_sent : (first : ℕ) → copies.Stands 0 hers first → (mailbox : ℕ) (copy : Job) (uid : ℕ) → copies.Stands mailbox copy uid → copy.key ≡ key_at 2 4 3 0 → ⊥
  never_sent first hers_stands mailbox copy uid stands keyed =
      let one : c.number 0 ≡ Some 0 = (is_hers copies c 0 hers first hers_stands refl refl).numbered in
      let other = (with_key copies c mailbox copy uid 3 0 stands keyed).numbered in
      let same : 0 ≡ copy.key.message = same_some (sym one ∙ other) in
      let is = ap (λ (key : CopyKey). key.message) keyed in omega (arith, same, is)

-- Somebody finds a message, and on this connection nothing was handed over.
pub of_nothing : (copies : Copies) → Concludes home copies 2 4 [] [] → (mailbox : ℕ) (copy : Job) (uid : ℕ) → copies.Stands mailbox copy uid → copy.key.seat ≡ 2 → copy.key.serial ≡ 4 → ⊥
of_nothing copies c mailbox copy uid stands seat serial = nobody mailbox (c.nothing_else mailbox copy uid stands seat serial).names

-- ---- two messages

abbrev for_one : List ℕ → Handed
for_one line = message (codes "MAIL FROM:<s@a.example>") (line ∷ []) (codes "hi" ∷ []) (codes "250 2.1.5 Delivered" ∷ [])

abbrev pub two : (line other : List ℕ) → List Handed
two line other = for_one line ∷ for_one other ∷ []

abbrev pub second_key : CopyKey
second_key = key_at 2 4 1 0

-- She finds the second message before the first.
pub later_first : (copies : Copies) → Concludes home copies 2 4 (two alice alice) (two alice alice) → (a b : ℕ) → copies.accepted 0 ≡ (second_key, a) ∷ (for_alice, b) ∷ [] → ⊥
later_first copies c a b is =
    let order = subst (λ (l : List (CopyKey × ℕ)). AllPairs Below (keys_of_seat 2 l)) is (c.in_order 0) in
    below (order 0 1 for_alice (omega arith) (omega arith))
  where
    below : Below second_key for_alice → ⊥
    below (inl l) = omega (arith, l)
    below (inr (e, inl l)) = omega (arith, l)
    below (inr (e, inr (f, l))) = omega (arith, f)

-- where one copy alone stands in the mailbox of each, the first message's has the lower number
module _ (copies : Copies) (line other : List ℕ) (a b : ℕ) (first : Names home line a) (second : Names home other b) (x y : CopyKey × ℕ)
    (here : copies.accepted a ≡ x ∷ []) (there : copies.accepted b ≡ y ∷ []) where
  alone : (box n : ℕ) (z : CopyKey × ℕ) (one : List ℕ) → Names home one box → copies.accepted box ≡ z ∷ [] → StandsAsSent home copies (key_at 2 4 n 0) (for_one one) 0 → z.0.message ≡ n
  alone box n z one named is s =
      let stands = subst (λ (l : List (CopyKey × ℕ)). StandsOnce l (key_at 2 4 n 0) s.uid) is (in_box copies (key_at 2 4 n 0) (for_one one) 0 box named s) in
      ap (λ (p : CopyKey × ℕ). p.0.message) (only z (key_at 2 4 n 0) s.uid stands)

  pub rise : Concludes home copies 2 4 (two line other) (two line other) → x.0.message < y.0.message
  rise c =
      let s = c.taken 0 0 refl in
      let t = c.taken 1 0 refl in
      let less : s.0 < t.0 = c.rises 0 1 s.0 t.0 (omega arith) s.1 t.1 in
      omega (arith, less, alone a s.0 x line first here s.2, alone b t.0 y other second there t.2)
