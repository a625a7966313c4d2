use Rattle.std.proofs.Common.{max, [], ◌∷◌, length, ap, arith, length-append, sym, ◌∙◌}
use Rattle.delivery_core.specs.New.{IsNewBox}
use Rattle.delivery_core.proofs.Follow.{each_push}
use Rattle.delivery_core.proofs.make.new_boxes.Goals as goal

pub loop-number-preserved : goal.loop-number-preserved
loop-number-preserved c =
    let e = c.in_ok-mailbox.ensures in
    let one : IsNewBox (length c.loop-number.boxes.items) c.args.uidvalidity c.args.first_uid c.args.limits.messages c.args.limits.ring (max c.args.limits.ring c.args.limits.ring_max) c.in_ok-mailbox.mailbox = record { at = e.settings.0 ∙ sym c.loop-number.invariant.count; validity = e.settings.1; log = e.stands; empty = e.empty.0; accepted = e.empty.1; first = e.settings.2; limit = e.settings.3; history = e.settings.4; window = e.window; clients = e.empty.2 ∙ ap (λ n. record { number = n; next = 0; slots = [] }) (sym c.loop-number.invariant.count) } in
    record {
      count = omega (arith, ap length c.in_ok-push.ensures.items, length-append c.loop-number.boxes.items (c.in_ok-mailbox.mailbox ∷ []), c.loop-number.invariant.count);
      each = rw c.in_ok-push.ensures.items (each_push (λ j x. IsNewBox j c.args.uidvalidity c.args.first_uid c.args.limits.messages c.args.limits.ring (max c.args.limits.ring c.args.limits.ring_max) x) c.loop-number.boxes.items c.in_ok-mailbox.mailbox c.loop-number.invariant.each one);
    }
