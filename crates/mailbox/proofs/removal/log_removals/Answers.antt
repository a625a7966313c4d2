use Rattle.std.proofs.Common.{refl, ◌≡◌, ◌+◌, ◌∙◌, ◌∷◌, ℕ, List, get_or, sym, subst, drop, arith}
use Rattle.std.specs.Prelude.{Result, Ok, Err, IsErr, OnOk, ◌^◌}
use Rattle.std.proofs.lemmas.List.{drop_more}
use Rattle.change_ring.specs.declared.ring.Spent.{Spent}
use Rattle.change_ring.specs.declared.change.Change.TheVariants.{Gone}
use Rattle.change_ring.specs.Log.{Window}
use Rattle.mailbox.specs.inner.Choices.{passes}
use Rattle.mailbox.specs.inner.Marks.{gone_of}
use Rattle.mailbox.proofs.RemovalLaws.{IsLogging, one_logged, room_left}
use Rattle.mailbox.proofs.TakenLaws.{told, untold}
use Rattle.mailbox.proofs.removal.log_removals.Goals as goal
use Rattle.mailbox.proofs.removal.log_removals.Goals.{then-has, else-has}

on_ok : {P : Type 0} (r : Result (Unit {0}) Spent) → (IsErr r → ⊥) → OnOk r P → P
on_ok (Ok u) err p = p
on_ok (Err e) err p = absurd (err refl)

pub loop-uid-preserved : goal.loop-uid-preserved
loop-uid-preserved c =
    let us = c.args.uids.now in
    let test = passes c.args.choice in
    let u = get_or us c.loop-uid.uid-index 0 in
    let split : drop c.loop-uid.uid-index us ≡ u ∷ drop (c.loop-uid.uid-index + 1) us = drop_more us c.loop-uid.uid-index 0 c.loop-uid-test.true in
    let left = drop (c.loop-uid.uid-index + 1) us in
    let all = gone_of test us in
    let before : IsLogging c.args.cursors.now c.args.ring.now c.loop-uid.ring all (gone_of test (u ∷ left)) =
    subst (λ (vs : List ℕ). IsLogging c.args.cursors.now c.args.ring.now c.loop-uid.ring all (gone_of test vs)) split c.loop-uid.invariant in
    let keep : Window → Type 0 = λ (w : Window). IsLogging c.args.cursors.now c.args.ring.now w all (gone_of test left) in
    elim c.if-has.branch [
      | then-has w ↦
          let one : IsLogging c.args.cursors.now c.args.ring.now c.loop-uid.ring all (Gone u ∷ gone_of test left) =
          subst (IsLogging c.args.cursors.now c.args.ring.now c.loop-uid.ring all) (told test u left (sym c.has.ensures ∙ w.if-has.true)) before in
          let room = room_left c.args.cursors.now c.args.ring.now c.loop-uid.ring all (gone_of test left) (Gone u) (2 ^ 62) one c.requires.room in
          let ok : IsErr w.log_change.result → ⊥ = λ err. omega (arith, room, w.log_change.ensures.spent.0 err) in
          subst keep (sym w.ring-is)
          (one_logged c.args.cursors.now c.args.ring.now c.loop-uid.ring w.log_change.new.ring all (gone_of test left) (Gone u) one
          (on_ok w.log_change.result ok w.log_change.ensures.goes_on) (on_ok w.log_change.result ok w.log_change.ensures.moves))
      | else-has w ↦ subst keep (sym w.ring-is)
          (subst (IsLogging c.args.cursors.now c.args.ring.now c.loop-uid.ring all) (untold test u left (sym c.has.ensures ∙ w.if-has.false)) before)
    ]
