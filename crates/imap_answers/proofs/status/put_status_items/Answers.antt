use Rattle.std.proofs.Common.{ℕ, List, true, ◌++◌, length, ap, sym, ◌∙◌, arith}
use Rattle.std.proofs.lemmas.List.{take_all}
use Rattle.std.specs.Prelude.{map}
use Rattle.imap_answers.specs.Answers.{status_text}
use Rattle.imap_answers.specs.inner.Joined.{joined}
use Rattle.imap_answers.proofs.JoinedLaws.{spaced_joined, whole_is}
use Rattle.imap_answers.proofs.status.put_status_items.Goals as goal

pub loop-next-init : goal.loop-next-init
loop-next-init c =
    let texts = map (status_text c.args.status.now) c.args.items.now in
    record {
      so_far = ap (λ (l : List ℕ). c.args.out.now.items ++ l)
          (ap (λ items. joined true (map (status_text c.args.status.now) items)) (whole_is c.split_first-next.result c.args.items.now c.split_first-next.ensures) ∙ sym (spaced_joined texts));
      front = take_all (length c.args.out.now.items) c.args.out.now.items (omega arith);
      room = omega arith;
    }
