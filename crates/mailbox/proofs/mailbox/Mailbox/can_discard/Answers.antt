use Rattle.std.proofs.Common.{◌≡◌, ◌+◌, ◌^◌, ◌≤◌, ◌∙◌, ℕ, Bool, true, false, length, ap, sym, subst, refl, arith}
use Rattle.std.specs.Prelude.{◌↔◌, IsTrue}
use Rattle.change_ring.specs.Log.{discards, total}
use Rattle.mailbox.specs.inner.Choices.{passes}
use Rattle.mailbox.specs.Mailbox.{Mailbox, rows}
use Rattle.mailbox.proofs.DoomLaws.{few_discards, length_discards}
use Rattle.mailbox.proofs.mailbox.Mailbox.can_discard.Goals as goal

-- there is room
has_room : (r : Bool) (most t n : ℕ) → IsTrue r ↔ (t + n ≤ most) → r ≡ true → t + n ≤ most
has_room true most t n tells e = tells.0 refl
has_room false most t n tells e = cc

pub returns-then-has_room : goal.returns-then-has_room
returns-then-has_room c =
    let test = passes c.args.choice in
    let ms = c.self.inside.messages in
    let fits = has_room c.has_room.result (2 ^ 62) (total c.args.self.now.window) c.len.result c.has_room.ensures c.if-has_room.true in
    let same = ap (λ (m : Mailbox). length (discards test (rows m))) c.self.view_is in
    (λ e. omega (arith, fits, c.len.ensures, few_discards test ms, same), λ h. refl)

pub returns : goal.returns
returns c =
    let test = passes c.args.choice in
    let count : c.count.result ≡ length (discards test (rows c.args.self.now))
    = c.count.ensures ∙ sym (length_discards test c.self.inside.messages) ∙ ap (λ (m : Mailbox). length (discards test (rows m))) c.self.view_is in
    subst (λ (n : ℕ). IsTrue c.has_room-2.result ↔ (total c.args.self.now.window + n ≤ 2 ^ 62)) count c.has_room-2.ensures
