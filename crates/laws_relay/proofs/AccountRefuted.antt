-- What the definitions refuse: houses in which a copy stands twice, or not, or elsewhere, or with another text; and copies that nobody was told of.
use Rattle.std.proofs.Common.{◌≡◌, inl, inr, ℕ, zero, suc, ◌<◌, true, List, [], ◌∷◌, ◌++◌, refl, ap, sym, subst, ◌∙◌, append-nil, Contains, arith}
use Rattle.std.specs.Prelude.{Ok, Result, codes, slice_index_or}
use Rattle.std.proofs.lemmas.Bool.{false≢true}
use Rattle.running_house.proofs.ListLaws.{contains_cases, contains_none, first_of, later_of}
use Rattle.delivery_token.specs.Text.{Text, undated}
use Rattle.delivery_token.specs.declared.CopyKey.{CopyKey}
use Rattle.envelope.specs.Names.{lookup}
use Rattle.envelope.specs.Reading.{read, forward_at}
use Rattle.envelope.specs.Values.{Command, Path, Rcpt}
use Rattle.envelope.specs.declared.command.CommandFault.{CommandFault}
use Rattle.envelope.specs.declared.directory.NoSuch.{NoSuch}
use Rattle.lmtp_machine.specs.Message.{stored_text}
use Rattle.laws_relay.specs.Handed.{Handed, handed_over, is_taken}
use Rattle.laws_relay.specs.Concludes.{Names, IsTextOf, key_at, message_at}
use Rattle.laws_relay.specs.rows.HandedRows.{alice, greeting, home, path_to, three}
use Rattle.laws_relay.specs.Concluding.{ConnectionConcludes, RelaysConclude}
use Rattle.laws_relay.specs.Entries.{StandsOnce, with_key}
use Rattle.laws_relay.specs.rows.AccountRows.{accepted, alice_is_taken, for_alice, for_bob, known, replied, the_message}
use Rattle.laws_relay.proofs.Positions.{unkept}

abbrev Entry : Type 0
Entry = CopyKey × ℕ

-- ---- one copy

two_there : (uid : ℕ) → ◌≡◌ {A = List Entry} ((for_alice, 7) ∷ (for_alice, 8) ∷ []) ((for_alice, uid) ∷ []) → ⊥
two_there uid e = cc

-- it was accepted twice by its mailbox
accepted_twice : (uid : ℕ) → StandsOnce (((for_alice, 7) ∷ (for_alice, 8) ∷ []) ∷ [] ∷ []) for_alice 0 uid → ⊥
accepted_twice uid s = two_there uid s.here

one_is_not_none : ◌≡◌ {A = List Entry} ((for_alice, 1) ∷ []) [] → ⊥
one_is_not_none e = cc

-- and by another mailbox too
accepted_by_two : StandsOnce (((for_alice, 7) ∷ []) ∷ ((for_alice, 1) ∷ []) ∷ []) for_alice 0 7 → ⊥
accepted_by_two s = one_is_not_none (s.elsewhere 1 (λ e. omega (arith, e)))

-- ---- a connection on which alice's copy was told as delivered, and bob's as refused

abbrev Texts : Type 0
Texts = List (List (ℕ × Text))

none_there : (mailbox uid : ℕ) (key : CopyKey) → with_key key (slice_index_or ([] ∷ [] ∷ []) mailbox []) ≡ (key, uid) ∷ [] → ⊥
none_there zero uid key e = let k : ◌≡◌ {A = List Entry} [] ((key, uid) ∷ []) = e in cc
none_there (suc zero) uid key e = let k : ◌≡◌ {A = List Entry} [] ((key, uid) ∷ []) = e in cc
none_there (suc (suc mailbox)) uid key e = let k : ◌≡◌ {A = List Entry} [] ((key, uid) ∷ []) = e in cc

-- no mailbox accepted it
not_accepted : (texts : Texts) → ConnectionConcludes home 2 4 three replied ([] ∷ [] ∷ []) texts → ⊥
not_accepted texts c = let s = c.taken replied [] (append-nil replied) 0 0 alice_is_taken in none_there s.2.mailbox s.2.uid (key_at 2 4 s.0 0) s.2.once.here

alice_is_read : read alice ≡ Ok (Rcpt (path_to (codes "alice")))
unfolding read forward_at
alice_is_read = refl

same_path : (a b : Path) → ◌≡◌ {A = Result Command CommandFault} (Ok (Rcpt a)) (Ok (Rcpt b)) → a ≡ b
same_path a b e = cc

same_mailbox : (a b : ℕ) → ◌≡◌ {A = Result ℕ NoSuch} (Ok a) (Ok b) → a ≡ b
same_mailbox a b e = cc

alices : (mailbox : ℕ) → Names home alice mailbox → 0 ≡ mailbox
alices mailbox n = same_mailbox 0 mailbox (ap (lookup home) (same_path (path_to (codes "alice")) n.0 (sym alice_is_read ∙ n.1)) ∙ n.2)

not_hers : (uid : ℕ) (key : CopyKey) → ◌≡◌ {A = List Entry} [] ((key, uid) ∷ []) → ⊥
not_hers uid key e = cc

-- bob's mailbox accepted it
in_another_mailbox : (texts : Texts) → ConnectionConcludes home 2 4 three replied ([] ∷ ((for_alice, 7) ∷ []) ∷ []) texts → ⊥
in_another_mailbox texts c =
    let s = c.taken replied [] (append-nil replied) 0 0 alice_is_taken in
    let hers : 0 ≡ s.2.mailbox = alices s.2.mailbox s.2.names in
    let key : CopyKey = key_at 2 4 s.0 0 in
    not_hers s.2.uid key (ap (λ (m : ℕ). with_key key (slice_index_or ([] ∷ ((for_alice, 7) ∷ []) ∷ []) m [])) hers ∙ s.2.once.here)

-- only the recipient 0 of the message 0 is taken
taken_alone : (k i : ℕ) → is_taken (message_at (the_message ∷ []) k) i ≡ true → i ≡ 0
taken_alone zero zero e = refl
taken_alone zero (suc zero) e = absurd (false≢true e)
taken_alone zero (suc (suc i)) e = absurd (false≢true e)
taken_alone (suc k) i e = absurd (false≢true e)

-- an entry of this connection is of such a recipient
of_alice : (lists : List (List Entry)) (texts : Texts) → ConnectionConcludes home 2 4 three replied lists texts
    → (mailbox uid recipient : ℕ) → Contains (slice_index_or lists mailbox []) (key_at 2 4 0 recipient, uid) → recipient ≡ 0
of_alice lists texts c mailbox uid recipient there =
    let w = c.nothing_else mailbox uid (key_at 2 4 0 recipient) there refl refl in
    taken_alone w.0 recipient (ap (λ (ms : List Handed). is_taken (message_at ms w.0) recipient) (sym known) ∙ w.2)

-- bob's copy, which was refused, stands all the same
refused_stands : (texts : Texts) → ConnectionConcludes home 2 4 three replied (((for_alice, 7) ∷ []) ∷ ((for_bob, 1) ∷ []) ∷ []) texts → ⊥
refused_stands texts c = let e = of_alice _ texts c 1 1 1 (first_of (for_bob, 1) []) in omega (arith, e)

-- a copy of a recipient that was never there
of_nobody : (texts : Texts) → ConnectionConcludes home 2 4 three replied (((for_alice, 7) ∷ (key_at 2 4 0 5, 8) ∷ []) ∷ [] ∷ []) texts → ⊥
of_nobody texts c = let e = of_alice _ texts c 0 8 5 (later_of (key_at 2 4 0 5, 8) (for_alice, 7) ((key_at 2 4 0 5, 8) ∷ []) (first_of (key_at 2 4 0 5, 8) [])) in omega (arith, e)

-- ---- another text

no_such_text : (m : Handed) → IsTextOf m (undated (codes "hi\r\n")) → ⊥
no_such_text m t = let k : codes "hi\r\n" ≡ stored_text t.sender m.lines = ap (λ (w : Text). w.bytes) t.is in cc

sixth : (key : CopyKey) → ◌≡◌ {A = Entry} (key_at 3 4 0 0, 6) (key, 7) → ⊥
sixth key e = let k : 6 ≡ 7 = ap (λ (p : Entry). p.1) e in omega (arith, k)

seventh : (key : CopyKey) → Contains (slice_index_or accepted 0 []) (key, 7) → key ≡ for_alice
seventh key c = elim (contains_cases (key, 7) (key_at 3 4 0 0, 6) ((for_alice, 7) ∷ []) c) [
  | inl e ↦ absurd (sixth key e)
  | inr d ↦ elim (contains_cases (key, 7) (for_alice, 7) [] d) [ inl e ↦ ap (λ (p : Entry). p.0) (sym e) | inr n ↦ absurd (contains_none n) ]
]

-- the message under the copy's UID has no return path
another_text : ConnectionConcludes home 2 4 three replied accepted (((7, undated (codes "hi\r\n")) ∷ []) ∷ [] ∷ []) → ⊥
another_text c =
    let t = c.texts_are 0 7 (undated (codes "hi\r\n")) (first_of (7, undated (codes "hi\r\n")) []) in
    let key : t.0 ≡ for_alice = seventh t.0 t.1 in
    let w = t.2 (ap (λ (k : CopyKey). k.seat) key) (ap (λ (k : CopyKey). k.serial) key) in
    no_such_text _ w.2

-- ---- two replies and one copy

abbrev twice_sent : List ℕ
twice_sent =
    codes "LHLO c.example\r\nMAIL FROM:<s@a.example>\r\nRCPT TO:<alice@example.org>\r\nDATA\r\nhi\r\n.\r\nMAIL FROM:<s@a.example>\r\nRCPT TO:<alice@example.org>\r\nDATA\r\nhi\r\n.\r\n"

abbrev twice_replied : List ℕ
twice_replied = greeting ++ codes "250 2.1.5 Recipient OK\r\n354 Start mail input\r\n250 2.1.5 Delivered\r\n250 2.1.0 Sender OK\r\n250 2.1.5 Recipient OK\r\n354 Start mail input\r\n250 2.1.5 Delivered\r\n"

first_is_taken : is_taken (message_at (handed_over twice_sent twice_replied) 0) 0 ≡ true
first_is_taken = refl

second_is_taken : is_taken (message_at (handed_over twice_sent twice_replied) 1) 0 ≡ true
second_is_taken = refl

abbrev one_copy : List (List Entry)
one_copy = ((for_alice, 7) ∷ []) ∷ [] ∷ []

only_key : (key : CopyKey) (uid : ℕ) (pairs : List Entry) → with_key key pairs ≡ (key, uid) ∷ [] → Contains pairs (key, uid)
only_key key uid pairs e = (unkept _ pairs (key, uid) (subst (λ (ps : List Entry). Contains ps (key, uid)) (sym e) (first_of (key, uid) []))).0

its_number : (mailbox n uid : ℕ) → Contains (slice_index_or one_copy mailbox []) (key_at 2 4 n 0, uid) → n ≡ 0
its_number zero n uid c = elim (contains_cases (key_at 2 4 n 0, uid) (for_alice, 7) [] c) [ inl e ↦ ap (λ (p : Entry). p.0.message) (sym e) | inr d ↦ absurd (contains_none d) ]
its_number (suc zero) n uid c = absurd (contains_none c)
its_number (suc (suc mailbox)) n uid c = absurd (contains_none c)

-- two messages were told as delivered, and one copy stands
one_for_two : (texts : Texts) → ConnectionConcludes home 2 4 twice_sent twice_replied one_copy texts → ⊥
one_for_two texts c =
    let a = c.taken twice_replied [] (append-nil twice_replied) 0 0 first_is_taken in
    let b = c.taken twice_replied [] (append-nil twice_replied) 1 0 second_is_taken in
    let na : a.0 ≡ 0 = its_number a.2.mailbox a.0 a.2.uid (only_key _ a.2.uid _ a.2.once.here) in
    let nb : b.0 ≡ 0 = its_number b.2.mailbox b.0 b.2.uid (only_key _ b.2.uid _ b.2.once.here) in
    let below : a.0 < b.0 = c.rises 0 1 a.0 b.0 (omega arith) a.1 b.1 in
    omega (arith, below, na, nb)

-- ---- another order

-- the second message's copy stands before the first one's
later_first : (connections replies : List (List ℕ)) (texts : Texts) → RelaysConclude home 2 connections replies (((key_at 2 4 1 0, 7) ∷ (for_alice, 8) ∷ []) ∷ [] ∷ []) texts → ⊥
later_first connections replies texts c =
    let below : 1 < 0 = c.in_order 0 1 0 8 7 for_alice (key_at 2 4 1 0) refl refl refl refl (inr (refl, inl (omega arith))) in omega (arith, below)
