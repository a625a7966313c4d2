-- What the promise to a relay says of a house on one thread, by what its mailboxes have: what it lets pass, and what it refuses, as `ConcludesHolds` and
-- `ConcludesRefuted` have it. Above each stands what somebody would have seen.
use Rattle.std.proofs.Common.{◌≡◌, ◌==◌, ℕ, zero, suc, false, List, [], ◌∷◌, refl, ap, sym, arith}
use Rattle.std.specs.Prelude.{Contains, codes}
use Rattle.std.proofs.lemmas.Bool.{false≢true}
use Rattle.delivery_token.specs.declared.Job.{Job}
use Rattle.world.specs.World.{World}
use Rattle.laws_relay.specs.Concludes.{Concludes, key_at, of_world}
use Rattle.laws_relay.specs.Handed.{Handed}
use Rattle.laws_relay.specs.rows.HandedRows.{alice, bob, home}
use Rattle.laws_relay.specs.rows.AccountRows.{for_alice, names_alice}
use Rattle.laws_relay.proofs.ConcludesHolds.{HersStands, bobs, copy_of, hers, it_concludes as hers_concludes, names_bob, right, told}
use Rattle.laws_relay.proofs.ConcludesRefuted as refuted
use Rattle.laws_relay.proofs.ConcludesRefuted.{rise, second_key, two}
use Rattle.laws_relay.proofs.RecordRefuted.{holds}

-- a relay concludes by these messages, where her mailbox, the first, and bob's have that
abbrev ConcludesOf : List Handed → (her_box his_box : List (Job × ℕ)) → Type 0
ConcludesOf messages her_box his_box = Concludes home (of_world (holds her_box his_box)) 2 4 messages messages

-- a message for alice, whose reply is 250, and for bob, whose reply is 452
abbrev ItConcludes : (her_box his_box : List (Job × ℕ)) → Type 0
ItConcludes her_box his_box = ConcludesOf told her_box his_box

-- ---- it passes

abbrev as_told : World
as_told = holds ((hers, 7) ∷ []) []

none_there : (x : Job × ℕ) → Contains [] x → ⊥
none_there x c = let l = c.1 in omega (arith, l)

only_hers : (mailbox : ℕ) (copy : Job) (uid : ℕ) → Contains (as_told.box mailbox).accepted (copy, uid) → (0 ≡ mailbox) × (hers ≡ copy)
only_hers zero copy uid (zero, l, e) = (refl, ap (λ (x : Job × ℕ). x.0) e)
only_hers zero copy uid (suc k, l, e) = absurd (omega (arith, l))
only_hers (suc zero) copy uid c = absurd (none_there (copy, uid) c)
only_hers (suc (suc m)) copy uid c = absurd (none_there (copy, uid) c)

hers_stands : HersStands (of_world as_told)
hers_stands = record { stands = (0, omega arith, refl); only = only_hers; here = refl; elsewhere = elsewhere }
  where
    elsewhere : (mailbox : ℕ) → (0 == mailbox) ≡ false → (of_world as_told).accepted mailbox ≡ []
    elsewhere zero e = absurd (false≢true (sym e))
    elsewhere (suc zero) e = refl
    elsewhere (suc (suc m)) e = refl

it_concludes : ItConcludes ((hers, 7) ∷ []) []
it_concludes = hers_concludes (of_world as_told) hers_stands

-- ---- a message that was told as delivered

-- Its sender has read 250, and forgets its own copy. Nobody has it.
lost : ItConcludes [] [] → ⊥
lost c = refuted.lost _ c refl

-- She finds it twice.
twice : ItConcludes ((hers, 7) ∷ (hers, 8) ∷ []) [] → ⊥
twice c = refuted.twice _ c 7 7 8 (0, omega arith, refl) refl

-- Bob finds her message too.
in_two : ItConcludes ((hers, 7) ∷ []) ((copy_of for_alice 1 right, 3) ∷ []) → ⊥
in_two c = refuted.in_two _ c 7 3 (0, omega arith, refl) (0, omega arith, refl)

-- Bob finds it, and she doesn't.
in_his : ItConcludes [] ((copy_of for_alice 1 right, 7) ∷ []) → ⊥
in_his c = refuted.in_his _ c (copy_of for_alice 1 right) 7 (0, omega arith, refl) refl

-- So it is of a copy for her mailbox that stands in his.
astray : ItConcludes [] ((hers, 7) ∷ []) → ⊥
astray c = refuted.in_his _ c hers 7 (0, omega arith, refl) refl

-- She reads another text than was sent.
other_text : ItConcludes ((copy_of for_alice 0 (codes "ha\r\n"), 7) ∷ []) [] → ⊥
other_text c = refuted.other_text _ c (copy_of for_alice 0 (codes "ha\r\n")) 7 (0, omega arith, refl) refl refl

-- ---- what else stands of the connection

-- Bob finds the message that was refused for him. It will come again.
refused_stands : ItConcludes ((hers, 7) ∷ []) ((bobs, 1) ∷ []) → ⊥
refused_stands c = refuted.refused_stands _ c 1 bobs 1 (0, omega arith, refl) refl

-- She finds a second one, for a recipient that nobody named.
of_nobody : ItConcludes ((hers, 7) ∷ (copy_of (key_at 2 4 0 5) 0 right, 8) ∷ []) [] → ⊥
of_nobody c = refuted.of_nobody _ c 0 (copy_of (key_at 2 4 0 5) 0 right) 8 (1, omega arith, refl) refl

-- She finds a second one, of a message that nobody sent.
never_sent : ItConcludes ((hers, 7) ∷ (copy_of (key_at 2 4 3 0) 0 right, 8) ∷ []) [] → ⊥
never_sent c = refuted.never_sent _ c 7 (0, omega arith, refl) 0 (copy_of (key_at 2 4 3 0) 0 right) 8 (1, omega arith, refl) refl

-- She finds a message, and on this connection nothing was handed over.
of_nothing : ConcludesOf [] ((hers, 7) ∷ []) [] → ⊥
of_nothing c = refuted.of_nothing _ c 0 hers 7 (0, omega arith, refl) refl refl

-- ---- two messages

-- She finds the second message before the first.
later_first : ConcludesOf (two alice alice) ((copy_of second_key 0 right, 7) ∷ (hers, 8) ∷ []) [] → ⊥
later_first c = refuted.later_first _ c 7 8 refl

-- The first message, hers, is numbered behind the second, which is bob's.
numbered_behind : ConcludesOf (two alice bob) ((copy_of second_key 0 right, 7) ∷ []) ((copy_of for_alice 1 right, 1) ∷ []) → ⊥
numbered_behind c = let less = rise _ alice bob 0 1 names_alice names_bob (second_key, 7) (for_alice, 1) refl refl c in omega (arith, less)

-- She finds one of two messages.
one_for_two : ConcludesOf (two alice alice) ((hers, 7) ∷ []) [] → ⊥
one_for_two c = let less = rise _ alice alice 0 0 names_alice names_alice (for_alice, 7) (for_alice, 7) refl refl c in omega (arith, less)
