-- A copy that stands as it was sent, and what the definition refuses: none, one of another text, key, mailbox or flag, one key at two positions or in two mailboxes. And a connection
-- that has still to print.
use Rattle.std.proofs.Common.{◌≡◌, ℕ, zero, suc, true, false, ◌<◌, List, [], ◌∷◌, length, refl, Option, Some, None, ap, sym, ◌∙◌, arith}
use Rattle.std.specs.Prelude.{Contains, codes, slice_index_or}
use Rattle.change_ring.specs.Log.{no_flags}
use Rattle.delivery_token.specs.Text.{Text, undated}
use Rattle.delivery_token.specs.declared.CopyKey.{CopyKey}
use Rattle.delivery_token.specs.declared.Job.{Job}
use Rattle.envelope.specs.Names.{Directory}
use Rattle.envelope.specs.Reading.{read, forward_at}
use Rattle.envelope.specs.Values.{To}
use Rattle.lmtp_machine.specs.Message.{stored_text}
use Rattle.laws_relay.specs.Handed.{Handed}
use Rattle.laws_relay.specs.rows.HandedRows.{bob, home, message, path_to}
use Rattle.world.specs.Law.{pairs}
use Rattle.world.specs.World.{World, empty_world}
use Rattle.house.specs.Setup.{terms_of}
use Rattle.house_peers.specs.Caller.{Caller, greeted}
use Rattle.laws_relay.specs.RecordLaws.{IsDone, imap_sessions}
use Rattle.laws_relay.specs.rows.RecordRows.{left, opened, setup, start}
use Rattle.laws_relay.specs.Concluded.{MayConclude, StandsAsSent, StandsNowhere}

abbrev key : CopyKey
key = record { seat = 0; serial = 0; message = 0; recipient = 0 }

-- a message for bob, who has the second mailbox
abbrev sent : Handed
sent = message (codes "MAIL FROM:<s@a.example>") (bob ∷ []) (codes ".." ∷ []) (codes "250 2.1.5 Delivered" ∷ [])

abbrev copy_of : (mailbox : ℕ) → (text : List ℕ) → Job
copy_of mailbox text = record { key = key; mailbox = mailbox; text = undated text; flags = no_flags }

abbrev right : List ℕ
right = codes "Return-Path: <s@a.example>\r\n.\r\n"

-- what stands in the first mailbox, and in the second
abbrev pub in_box : (first second : List (Job × ℕ)) → ℕ → List (Job × ℕ)
in_box first second zero = first
in_box first second (suc zero) = second
in_box first second (suc (suc m)) = []

abbrev pub holds : (first second : List (Job × ℕ)) → World
holds first second = record empty_world { box = λ m. record { log = []; base = 0; accepted = in_box first second m } }

none_there : (x : Job × ℕ) → Contains [] x → ⊥
none_there x c = let l = c.1 in omega (arith, l)

-- ---- it stands

abbrev there : World
there = holds [] ((copy_of 1 right, 7) ∷ [])

only_one : (m : ℕ) (a : Job × ℕ) → Contains (there.box m).accepted a → (m ≡ 1) × (a.0 ≡ copy_of 1 right)
only_one zero a c = absurd (none_there a c)
only_one (suc zero) a (zero, l, e) = (refl, ap (λ (x : Job × ℕ). x.0) (sym e))
only_one (suc zero) a (suc k, l, e) = absurd (omega (arith, l))
only_one (suc (suc m)) a c = absurd (none_there a c)

it_stands : StandsAsSent home there sent 0 key
unfolding read forward_at
it_stands = record {
  mailbox = 1;
  named = (path_to (codes "bob"), refl, refl);
  sender = codes "s@a.example";
  from = (To (record { local = codes "s"; domain = codes "a.example" }), refl, refl);
  uid = 7;
  once = record { position = 0; within = omega arith; here = refl; alone = λ i d l e. omega (arith, l) };
  copy = copy_of 1 right;
  is = refl;
  here = (0, omega arith, refl);
  alone = λ other entry c e. only_one other entry c;
}

-- so it isn't so that it stands nowhere
not_nowhere : StandsNowhere there key → ⊥
not_nowhere h = h 1 (copy_of 1 right, 7) (0, omega arith, refl) refl

-- ---- what is refused

-- nothing stands
nothing : StandsAsSent home (holds [] []) sent 0 key → ⊥
nothing h = by h.mailbox (h.copy, h.uid) h.here
  where
    by : (m : ℕ) (a : Job × ℕ) → Contains ((holds [] []).box m).accepted a → ⊥
    by zero a c = none_there a c
    by (suc zero) a c = none_there a c
    by (suc (suc m)) a c = none_there a c

-- the key stands at two positions of the mailbox
abbrev two_positions : World
two_positions = holds [] ((copy_of 1 right, 7) ∷ (copy_of 1 right, 8) ∷ [])

twice : StandsAsSent home two_positions sent 0 key → ⊥
twice h = by h.mailbox h.once.position (λ i d l e. h.once.alone i d l e) (h.copy, h.uid) h.here
  where
    by : (m position : ℕ) → ((i : ℕ) (d : CopyKey × ℕ) → i < length (pairs (two_positions.box m).accepted) → (slice_index_or (pairs (two_positions.box m).accepted) i d).0 ≡ key → i ≡ position)
        → (a : Job × ℕ) → Contains (two_positions.box m).accepted a → ⊥
    by zero position alone a c = none_there a c
    by (suc zero) position alone a c =
        let first : 0 ≡ position = alone 0 (key, 0) (omega arith) refl in
        let second : 1 ≡ position = alone 1 (key, 0) (omega arith) refl in
        omega (arith, first, second)
    by (suc (suc m)) position alone a c = none_there a c

-- the key stands in two mailboxes
in_two : StandsAsSent home (holds ((copy_of 0 right, 3) ∷ []) ((copy_of 1 right, 7) ∷ [])) sent 0 key → ⊥
in_two h =
    let first : 0 ≡ h.mailbox = (h.alone 0 (copy_of 0 right, 3) (0, omega arith, refl) refl).0 in
    let second : 1 ≡ h.mailbox = (h.alone 1 (copy_of 1 right, 7) (0, omega arith, refl) refl).0 in
    omega (arith, first, second)

first_byte : List ℕ → ℕ
first_byte [] = 0
first_byte (x ∷ xs) = x

differs : (rest : List ℕ) → codes "hi\r\n" ≡ 82 ∷ rest → ⊥
unfolding first_byte
differs rest e = let x : 104 ≡ 82 = ap first_byte e in omega (arith, x)

-- it has another text
abbrev another : World
another = holds [] ((copy_of 1 (codes "hi\r\n"), 7) ∷ [])

other_text : StandsAsSent home another sent 0 key → ⊥
other_text h = by h.mailbox (h.copy, h.uid) h.here (ap (λ (c : Job). c.text) h.is)
  where
    by : (m : ℕ) (a : Job × ℕ) → Contains (another.box m).accepted a → a.0.text ≡ undated (stored_text h.sender sent.lines) → ⊥
    by zero a c e = none_there a c
    by (suc zero) a (zero, l, same) e = differs _ (ap (λ (x : Job × ℕ). x.0.text.bytes) same ∙ ap (λ (w : Text). w.bytes) e)
    by (suc zero) a (suc k, l, same) e = omega (arith, l)
    by (suc (suc m)) a c e = none_there a c

-- it has the key of the message's second recipient
abbrev for_the_next : World
for_the_next = holds [] ((record (copy_of 1 right) { key = record key { recipient = 1 } }, 7) ∷ [])

under_another_key : StandsAsSent home for_the_next sent 0 key → ⊥
under_another_key h = by h.mailbox (h.copy, h.uid) h.here (ap (λ (c : Job). c.key.recipient) h.is)
  where
    by : (m : ℕ) (a : Job × ℕ) → Contains (for_the_next.box m).accepted a → a.0.key.recipient ≡ 0 → ⊥
    by zero a c e = none_there a c
    by (suc zero) a (zero, l, same) e = let x : 1 ≡ 0 = ap (λ (x : Job × ℕ). x.0.key.recipient) same ∙ e in omega (arith, x)
    by (suc zero) a (suc k, l, same) e = omega (arith, l)
    by (suc (suc m)) a c e = none_there a c

-- it stands in bob's mailbox, and is for the other one
abbrev gone_astray : World
gone_astray = holds [] ((copy_of 0 right, 7) ∷ [])

in_anothers_mailbox : StandsAsSent home gone_astray sent 0 key → ⊥
in_anothers_mailbox h = by h.mailbox (h.copy, h.uid) h.here (ap (λ (c : Job). c.mailbox) h.is)
  where
    by : (m : ℕ) (a : Job × ℕ) → Contains (gone_astray.box m).accepted a → a.0.mailbox ≡ m → ⊥
    by zero a c e = none_there a c
    by (suc zero) a (zero, l, same) e = let x : 0 ≡ 1 = ap (λ (x : Job × ℕ). x.0.mailbox) same ∙ e in omega (arith, x)
    by (suc zero) a (suc k, l, same) e = omega (arith, l)
    by (suc (suc m)) a c e = none_there a c

-- it was read before anybody could
abbrev read_already : World
read_already = holds [] ((record (copy_of 1 right) { flags = record no_flags { seen = true } }, 7) ∷ [])

with_a_flag : StandsAsSent home read_already sent 0 key → ⊥
with_a_flag h = by h.mailbox (h.copy, h.uid) h.here (ap (λ (c : Job). c.flags.seen) h.is)
  where
    by : (m : ℕ) (a : Job × ℕ) → Contains (read_already.box m).accepted a → a.0.flags.seen ≡ false → ⊥
    by zero a c e = none_there a c
    by (suc zero) a (zero, l, same) e = let x : true ≡ false = ap (λ (x : Job × ℕ). x.0.flags.seen) same ∙ e in cc
    by (suc zero) a (suc k, l, same) e = omega (arith, l)
    by (suc (suc m)) a c e = none_there a c

-- ---- what is to come

-- it begins with what was printed and hasn't reached the relay
another_rest : (host : List ℕ) (directory : Directory) (w : World) (seat serial : ℕ) (sent told rest : List ℕ) → (may : MayConclude host directory w seat serial sent told (50 ∷ [])) → may.untold ≡ 51 ∷ rest → ⊥
unfolding first_byte
another_rest host directory w seat serial sent told rest may e =
    let x : 51 ≡ 50 = ap first_byte (sym e ∙ may.begins) in
    omega (arith, x)

-- ---- whether more is to be said

-- one that has its greeting still to print
not_done : IsDone imap_sessions (opened start 0 0) 0 0 → ⊥
unfolding first_byte
not_done h =
    let quiet = h (greeted (terms_of setup start.shut) 0 0) refl refl in
    let x : 50 ≡ 0 = ap first_byte quiet.1 in
    omega (arith, x)

-- and one that has left
done_where_left : IsDone imap_sessions (left (opened start 0 0) 0) 0 0
done_where_left b e s = absurd (let x : ◌≡◌ {A = Option Caller} None (Some b) = e in cc)
