-- A message that was just added, and its flags.
use Rattle.std.proofs.Common.{◌≡◌, ℕ, ◌+◌, ◌<◌, ◌≤◌, Bool, true, false, List, [], ◌∷◌, ◌++◌, length, map, refl, ap, arith, subst, append_assoc, eq-eqb}
use Rattle.std.specs.Prelude.{Some, ◌||◌, nat_le, nat_lt}
use Rattle.std.specs.List.{AllByRecursion}
use Rattle.std.specs.List.Sorted.{IsStrictlyIncreasing}
use Rattle.std.proofs.lemmas.Bool.Decides.{nat_tests}
use Rattle.change_ring.specs.declared.change.Change.{Change}
use Rattle.change_ring.specs.declared.change.Flags.{Flags}
use Rattle.change_ring.specs.declared.flag_op.FlagOp.TheVariants.{Set}
use Rattle.change_ring.specs.Log.{no_flags, arrival, flags_logged, new_flags, total}
use Rattle.cursor_set.proofs.Positions.{Rises, Rises-from}
use Rattle.delivery_token.specs.Text.{Text}
use Rattle.mailbox.specs.Events.{Logs}
use Rattle.mailbox.specs.Mailbox.{Mailbox, Message, flagged, is_spent, message_with, next_uid, row_of, uids_of, Stands}
use Rattle.mailbox.proofs.MessageLaws.{eqb_less, logged_with}

-- the message before its flags are set
abbrev pub bare : ℕ → Text → Message
bare uid text = record { uid = uid; flags = no_flags; text = text }

-- what all are, the last one is
last_is : (P : ℕ → Type 0) (ms : List Message) (x : Message) → AllByRecursion P (uids_of (ms ++ x ∷ [])) → P x.uid
last_is P [] x h = h.0
last_is P (m ∷ ms) x h = last_is P ms x h.1

there : (uid : ℕ) (text : Text) (ms : List Message) → Rises (uids_of (ms ++ bare uid text ∷ [])) → message_with uid (ms ++ bare uid text ∷ []) ≡ Some (bare uid text)
there uid text [] up = rw (eq-eqb uid uid refl) refl
there uid text (m ∷ ms) up = rw (eqb_less m.uid uid (last_is (λ v. m.uid < v) ms (bare uid text) up.0)) (there uid text ms up.1)

set_last : (uid : ℕ) (flags : Flags) (text : Text) (ms : List Message) → Rises (uids_of (ms ++ bare uid text ∷ []))
    → flagged uid (Set flags) (ms ++ bare uid text ∷ []) ≡ ms ++ record { uid = uid; flags = flags; text = text } ∷ []
set_last uid flags text [] up = rw (eq-eqb uid uid refl) refl
set_last uid flags text (m ∷ ms) up =
    rw (eqb_less m.uid uid (last_is (λ v. m.uid < v) ms (bare uid text) up.0)) (ap (λ (ns : List Message). m ∷ ns) (set_last uid flags text ms up.1))

-- it is the one of its UID
pub arrived_there : (uid : ℕ) (text : Text) (ms : List Message) → IsStrictlyIncreasing (uids_of (ms ++ bare uid text ∷ [])) → message_with uid (ms ++ bare uid text ∷ []) ≡ Some (bare uid text)
arrived_there uid text ms up = there uid text ms (Rises-from (uids_of (ms ++ bare uid text ∷ [])) up)

-- setting the flags logs what is still missing
pub arrived_logged : (uid : ℕ) (flags : Flags) (text : Text) (ms : List Message) → IsStrictlyIncreasing (uids_of (ms ++ bare uid text ∷ []))
    → flags_logged (map row_of (ms ++ bare uid text ∷ [])) uid (Set flags) ≡ new_flags uid no_flags flags
arrived_logged uid flags text ms up = logged_with (Set flags) uid (ms ++ bare uid text ∷ []) (bare uid text) (arrived_there uid text ms up)

-- and then the message has them
pub arrived_flagged : (uid : ℕ) (flags : Flags) (text : Text) (ms : List Message) → IsStrictlyIncreasing (uids_of (ms ++ bare uid text ∷ []))
    → flagged uid (Set flags) (ms ++ bare uid text ∷ []) ≡ ms ++ record { uid = uid; flags = flags; text = text } ∷ []
arrived_flagged uid flags text ms up = set_last uid flags text ms (Rises-from (uids_of (ms ++ bare uid text ∷ [])) up)

-- one after the other
pub Logs-append : (old middle new : Mailbox) (cs ds : List Change) → Logs old middle cs → Logs middle new ds → Logs old new (cs ++ ds)
Logs-append old middle new cs ds one two = λ log s. subst (Stands new) (append_assoc log cs ds) (two (log ++ cs) (one log s))

or_false : (a b : Bool) → (a || b) ≡ false → (a ≡ false) × (b ≡ false)
or_false true b e = cc
or_false false b e = (refl, e)

not_less : (a b : ℕ) → nat_lt a b ≡ false → b ≤ a
not_less a b e = grind (arith, nat_tests)

-- a mailbox that isn't spent has room for all that an arrival logs
pub room_for_all : (flags : Flags) (m : Mailbox) → is_spent flags m ≡ false → total m.window + length (arrival (next_uid m) flags) ≤ 4611686018427387904
room_for_all flags m e =
    not_less 4611686018427387904 (total m.window + length (arrival (next_uid m) flags))
    (or_false (nat_le 4294967295 (next_uid m)) (nat_lt 4611686018427387904 (total m.window + length (arrival (next_uid m) flags))) e).1
