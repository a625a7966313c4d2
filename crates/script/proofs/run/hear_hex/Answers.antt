use Rattle.std.proofs.Common.{◌≡◌, ◌∙◌, ℕ, List, ap, subst, sym}
use Rattle.std.proofs.lemmas.Result.{on_err_weaker, on_ok_weaker}
use Rattle.script.specs.Leaving.{LineWanting}
use Rattle.hex.specs.Hex.{decode_of}
use Rattle.script.specs.Script.{Sends, ScriptLine, brought}
use Rattle.script.proofs.RunLaws.{digits_refused, if_none, if_some}
use Rattle.script.proofs.run.hear_hex.Goals as goal

pub returns-in-None-clause-done : goal.returns-in-None-clause-done
returns-in-None-clause-done c =
    let bad = if_none c.in_ok-bytes.field-0 _ c.in-None.is c.in_ok-bytes.ensures.none (Sends c.args.connection) in
    on_ok_weaker c.refuse.result
    (λ e k s st. digits_refused k c.args.number s (Sends c.args.connection) (decode_of c.args.digits.now) c.args.house.now c.args.out.now.items c.refuse.new.out.items bad st e)
    c.refuse.ensures.ok

pub returns-in-Some-clause-wanting : goal.returns-in-Some-clause-wanting
returns-in-Some-clause-wanting c =
    let brings = if_some c.in_ok-bytes.field-0 (λ v. (brings : List ℕ → ScriptLine) → brought brings (decode_of c.args.digits.now) ≡ brings v.items) c.in-Some.bytes c.in-Some.is
    c.in_ok-bytes.ensures.some (λ x. Sends c.args.connection x) in
    on_err_weaker c.do_event.result
    (λ w k s st. subst (λ (l : ScriptLine). LineWanting k l s c.do_event.new.house) (sym (brings ∙ ap (λ (x : List ℕ). Sends c.args.connection x) (sym c.deref.ensures.value))) (w k s st)) c.do_event.ensures.wanting
