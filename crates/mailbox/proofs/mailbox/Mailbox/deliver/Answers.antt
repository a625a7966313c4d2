use Rattle.std.proofs.Common.{◌≡◌, ℕ, ◌∙◌, ap, arith, sym, subst, List, [], ◌∷◌, ◌++◌, length, map, refl}
use Rattle.std.specs.Prelude.{Some, Result, Ok, Err, IsErr, OnOk, Bool, option_map}
use Rattle.std.specs.List.Sorted.{IsStrictlyIncreasing}
use Rattle.change_ring.specs.declared.ring.Spent.{Spent}
use Rattle.change_ring.specs.declared.change.Change.TheVariants.{Add}
use Rattle.change_ring.specs.declared.change.Flags.{Flags}
use Rattle.change_ring.specs.declared.flag_op.FlagOp.TheVariants.{Set}
use Rattle.change_ring.specs.Log.{no_flags, flags_logged, new_flags}
use Rattle.cursor_set.specs.Cursors.{CursorSet}
use Rattle.delivery_token.specs.Text.{Text}
use Rattle.mailbox.specs.Events.{Logs, Moves}
use Rattle.mailbox.specs.Mailbox.{Mailbox, Message, flagged, message_with, next_uid, row_of, rows, uids_of}
use Rattle.mailbox.proofs.ArrivalLaws.{Logs-append, arrived_flagged, arrived_logged, arrived_there, room_for_all}
use Rattle.mailbox.proofs.WindowMoves.{Moves-append, moves_logged}
use Rattle.mailbox.proofs.mailbox.Mailbox.deliver.Goals as goal

on_ok : {P : Type 0} (r : Result Bool Spent) → (IsErr r → ⊥) → OnOk r P → P
on_ok (Ok u) err p = p
on_ok (Err e) err p = absurd (err refl)

-- ---- the message was added

module _ (now : Mailbox) (flags : Flags) (text : Text) (added : Mailbox) (messages : added.messages ≡ now.messages ++ record { uid = next_uid now; flags = no_flags; text = text } ∷ [])
    (rising : IsStrictlyIncreasing (uids_of added.messages)) where
  rises : IsStrictlyIncreasing (uids_of (now.messages ++ record { uid = next_uid now; flags = no_flags; text = text } ∷ []))
  rises = subst (λ (ms : List Message). IsStrictlyIncreasing (uids_of ms)) messages rising

  there : message_with (next_uid now) added.messages ≡ Some (record { uid = next_uid now; flags = no_flags; text = text })
  there = ap (message_with (next_uid now)) messages ∙ arrived_there (next_uid now) text now.messages rises

  -- what setting the flags logs
  logged : flags_logged (rows added) (next_uid now) (Set flags) ≡ new_flags (next_uid now) no_flags flags
  logged = ap (λ (ms : List Message). flags_logged (map row_of ms) (next_uid now) (Set flags)) messages ∙ arrived_logged (next_uid now) flags text now.messages rises

  flagged_last : flagged (next_uid now) (Set flags) added.messages ≡ now.messages ++ record { uid = next_uid now; flags = flags; text = text } ∷ []
  flagged_last = ap (flagged (next_uid now) (Set flags)) messages ∙ arrived_flagged (next_uid now) flags text now.messages rises

pub set_flags-requires-clause-there : goal.set_flags-requires-clause-there
set_flags-requires-clause-there c =
    let now = c.args.self.now in
    let e = c.in_ok-receipt.ensures in
    ap (λ (u : ℕ). option_map (λ (m : Message). m.flags) (message_with u c.add.new.self.messages)) (ap (λ r. r.uid) e.receipt)
    ∙ ap (option_map (λ (m : Message). m.flags)) (there now c.args.job.now.flags c.args.job.now.text c.add.new.self e.message e.rising)

-- what setting the flags logs, of the message that was added
sets : (c : goal.After-set_flags) → flags_logged (rows c.add.new.self) c.in_ok-receipt.receipt.uid (Set c.args.job.now.flags) ≡ new_flags (next_uid c.args.self.now) no_flags c.args.job.now.flags
sets c =
    let e = c.in_ok-receipt.ensures in
    ap (λ (u : ℕ). flags_logged (rows c.add.new.self) u (Set c.args.job.now.flags)) (ap (λ r. r.uid) e.receipt)
    ∙ logged c.args.self.now c.args.job.now.flags c.args.job.now.text c.add.new.self e.message e.rising

-- there is room for it
is_set : (c : goal.After-set_flags) → IsErr c.set_flags.result → ⊥
is_set c err =
    let now = c.args.self.now in
    let many = c.set_flags.ensures.spent.0 err in
    let room = room_for_all c.args.job.now.flags now (sym c.is_spent.ensures ∙ c.if-is_spent.false) in
    omega (arith, many, room, ap length (sets c), moves_logged now.cursors now.window c.add.new.self.window (Add (next_uid now) ∷ []) c.in_ok-receipt.ensures.window)

pub returns-clause-logged : goal.returns-clause-logged
returns-clause-logged c =
    let now = c.args.self.now in
    let u = next_uid now in
    Logs-append now c.add.new.self c.set_flags.new.self (Add u ∷ []) (new_flags u no_flags c.args.job.now.flags) c.in_ok-receipt.ensures.logged
    (subst (Logs c.add.new.self c.set_flags.new.self) (sets c) (on_ok c.set_flags.result (is_set c) c.set_flags.ensures.logged))

pub returns-clause-message : goal.returns-clause-message
returns-clause-message c =
    let now = c.args.self.now in
    let flags = c.args.job.now.flags in
    let e = c.in_ok-receipt.ensures in
    on_ok c.set_flags.result (is_set c) c.set_flags.ensures.messages
    ∙ ap (λ (u : ℕ). flagged u (Set flags) c.add.new.self.messages) (ap (λ r. r.uid) e.receipt)
    ∙ flagged_last now flags c.args.job.now.text c.add.new.self e.message e.rising

pub returns-clause-window : goal.returns-clause-window
returns-clause-window c =
    let now = c.args.self.now in
    let u = next_uid now in
    let flags = c.args.job.now.flags in
    let same : c.add.new.self.cursors ≡ now.cursors = ap (λ (m : Mailbox). m.cursors) c.in_ok-receipt.ensures.rest in
    let moves : Moves c.add.new.self.cursors c.add.new.self.window c.set_flags.new.self.window (new_flags u no_flags flags) =
    subst (Moves c.add.new.self.cursors c.add.new.self.window c.set_flags.new.self.window) (sets c) (on_ok c.set_flags.result (is_set c) c.set_flags.ensures.window) in
    Moves-append now.cursors now.window c.add.new.self.window c.set_flags.new.self.window (Add u ∷ []) (new_flags u no_flags flags) c.in_ok-receipt.ensures.window
    (subst (λ (s : CursorSet). Moves s c.add.new.self.window c.set_flags.new.self.window (new_flags u no_flags flags)) same moves)
