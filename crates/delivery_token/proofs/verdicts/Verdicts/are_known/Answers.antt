use Rattle.std.proofs.Common.{◌≡◌, ◌∙◌, ap, sym, subst, true, arith, length, List, Option}
use Rattle.std.specs.List.{list_all}
use Rattle.std.specs.Option.{is_some}
use Rattle.delivery_token.specs.declared.Verdict.{Verdict}
use Rattle.delivery_token.specs.Verdicts.{Verdicts}
use Rattle.delivery_token.proofs.Slots.{all_known, known_all}
use Rattle.delivery_token.proofs.verdicts.Verdicts.are_known.Goals as goal

pub returns-then-len-count-clause-known : goal.returns-then-len-count-clause-known
returns-then-len-count-clause-known c e =
    let v = ap (λ (x : Verdicts). x.slots) c.self.view_is in
    let all = subst (λ (os : List (Option Verdict)). list_all is_some os ≡ true) (c.deref.ensures.value ∙ v) (sym c.are_all_there.ensures ∙ e) in
    let k = all_known c.args.self.now.slots all in
    (k.0, record { all = omega (arith, c.len.ensures, c.self.inside.slots.ok.0, c.if-len-count.true, ap (λ (os : List (Option Verdict)). length os) v); each = k.1 })

pub returns-then-len-count-clause-unknown : goal.returns-then-len-count-clause-unknown
returns-then-len-count-clause-unknown c e vs k =
    let v = ap (λ (x : Verdicts). x.slots) c.self.view_is in
    let all = known_all c.args.self.now.slots vs k.each in
    let none = ap (λ (os : List (Option Verdict)). list_all is_some os) (sym (c.deref.ensures.value ∙ v)) in
    absurd (let x = sym all ∙ none ∙ sym c.are_all_there.ensures ∙ e in cc)
