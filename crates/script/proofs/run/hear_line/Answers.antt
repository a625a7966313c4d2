use Rattle.std.proofs.Common.{◌∙◌, ℕ, List, subst}
use Rattle.std.proofs.lemmas.Result.{on_err_weaker}
use Rattle.script.specs.Leaving.{LineWanting}
use Rattle.script.specs.Script.{Sends}
use Rattle.script.proofs.run.hear_line.Goals as goal

pub returns-clause-wanting : goal.returns-clause-wanting
returns-clause-wanting c =
    let said = c.deref.ensures.value ∙ c.in_ok-put_line.ensures in
    on_err_weaker c.do_event.result (λ w k s st. subst (λ (bytes : List ℕ). LineWanting k (Sends c.args.connection bytes) s c.do_event.new.house) said (w k s st)) c.do_event.ensures.wanting
