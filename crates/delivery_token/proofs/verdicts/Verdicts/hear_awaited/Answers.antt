use Rattle.std.proofs.Common.{rules, ◌≡◌, ◌∙◌, ap, sym, subst, slice_set, Some, Option, List}
use Rattle.std.proofs.lemmas.List.{set-get_or}
use Rattle.delivery_token.specs.declared.CopyKey.{CopyKey}
use Rattle.delivery_token.specs.declared.Verdict.{Verdict}
use Rattle.delivery_token.specs.Verdicts.{Fills, IsStillAwaited, Verdicts}
use Rattle.delivery_token.proofs.Fills.{fills_same, fills_set, still_awaited, unknown_set}
use Rattle.delivery_token.proofs.verdicts.Verdicts.hear_awaited.Goals as goal

pub returns-then-position-len-clause-fills : goal.returns-then-position-len-clause-fills
returns-then-position-len-clause-fills c = fills_same c.args.self.now.slots

pub returns-then-ne-clause-fills : goal.returns-then-ne-clause-fills
returns-then-ne-clause-fills c = fills_same c.args.self.now.slots

pub returns-then-noted-mailboxes-clause-fills : goal.returns-then-noted-mailboxes-clause-fills
returns-then-noted-mailboxes-clause-fills c = fills_same c.args.self.now.slots

-- what stood there stands there still
pub returns-then-is_some-clause-fills : goal.returns-then-is_some-clause-fills
returns-then-is_some-clause-fills c =
    let slots = c.self.inside.slots.items in
    let same : slice_set slots c.from-position.result c.index_mut-slot.result.now ≡ c.args.self.now.slots =
    ap (slice_set slots c.from-position.result) c.index_mut-slot.ensures.value ∙ set-get_or slots c.from-position.result c.index_mut-slot.result.now ∙ ap (λ (v : Verdicts). v.slots) c.self.view_is in
    subst (Fills c.args.self.now.slots) (sym same) (fills_same c.args.self.now.slots)

pub returns-clause-fills : goal.returns-clause-fills
returns-clause-fills c =
    let slots = c.self.inside.slots.items in
    subst (λ (old : List (Option Verdict)). Fills old (slice_set slots c.from-position.result (Some c.args.noted.now.verdict))) (ap (λ (v : Verdicts). v.slots) c.self.view_is)
    (fills_set slots c.from-position.result c.args.noted.now.verdict c.index_mut-slot.result.now (search rules) (search rules))

pub returns-clause-noted : goal.returns-clause-noted
returns-clause-noted c noted =
    let slots = c.self.inside.slots.items in
    let none : CopyKey = record { seat = 0; serial = 0; message = 0; recipient = 0 } in
    record {
      there = subst (λ (old : List (Option Verdict)). IsStillAwaited c.args.keys.now c.args.mailboxes.now old c.args.noted.now) (ap (λ (v : Verdicts). v.slots) c.self.view_is)
          (still_awaited c.args.keys.now c.args.mailboxes.now slots c.args.noted.now c.from-position.result none 0 c.index_mut-slot.result.now (search rules) (search rules) (search rules) (search rules) (search rules) (search rules) (search rules));
      awaited = search (rules, unknown_set slots c.from-position.result c.args.noted.now.verdict c.index_mut-slot.result.now (search rules) (search rules));
      fills = search rules;
    }
