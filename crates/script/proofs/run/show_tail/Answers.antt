use Rattle.std.proofs.Common.{◌∙◌, ◌++◌, ℕ, List, ap, sym}
use Rattle.std.specs.Prelude.{codes}
use Rattle.std.proofs.lemmas.Result.{on_ok_weaker}
use Rattle.envelope.specs.Names.{Directory, number_of}
use Rattle.script.specs.Promise.{refusal}
use Rattle.script.proofs.RunLaws.{is_nobody, shown_tail, shown_nobody}
use Rattle.script.proofs.run.show_tail.Goals as goal

pub returns-in-Ok : goal.returns-in-Ok
returns-in-Ok c k s st = shown_tail k c.args.number s c.args.word.now c.args.house.now c.args.out.now.items c.tail.new.out.items st (c.in-Ok.ensures.window k s st)

pub returns-in-Err-Nobody : goal.returns-in-Err-Nobody
returns-in-Err-Nobody c =
    let e = c.in-Err-Nobody.ensures in
    on_ok_weaker c.refuse.result
    (λ printed k s st. shown_nobody k c.args.number s c.args.word.now c.args.house.now c.args.out.now.items c.refuse.new.out.items st
    (ap (λ (d : Directory). number_of d c.args.word.now) (sym st.directory) ∙ e.nobody.0 (is_nobody c.in-Err-Nobody.field-0 c.in-Err-Nobody.field-0-is))
    (printed ∙ ap (λ (x : List ℕ). x ++ refusal c.args.number (codes "Nobody")) e.refused))
    c.refuse.ensures.ok
