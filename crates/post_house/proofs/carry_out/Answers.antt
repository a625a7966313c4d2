use Rattle.std.proofs.Common.{rules, ◌≡◌, ap, subst, sym}
use Rattle.command_line.specs.declared.asked.Asked.{Asked}
use Rattle.command_line.specs.declared.asked.Asked.TheVariants.{Script, Serve}
use Rattle.post_house.specs.inner.Playing.{HasDone}
use Rattle.post_house.specs.declared.outcome.Done.TheVariants.{Played, Served}
use Rattle.post_house.proofs.Playing.{played_not_set, served_not_set}
use Rattle.post_house.proofs.carry_out.Goals as goal

pub returns-in-Script-clause-done : goal.returns-in-Script-clause-done
returns-in-Script-clause-done g c =
    let is : c.args.asked.now ≡ Script c.in-Script.config c.in-Script.form = search rules in
    subst (λ (a : Asked). HasDone a (Played c.run_script.result) (g.I.Read.remaining c.args.input.now) (g.W.Sink.failed c.run_script.new.writer) (g.W.Sink.taken c.args.output.now) (g.W.Sink.taken c.run_script.new.writer)) (sym is)
    (λ bytes e. record {
      wrong = c.run_script.ensures.wrong;
      right = c.run_script.ensures.right;
      told = c.run_script.ensures.told bytes e;
      wrote = λ text. c.run_script.ensures.wrote text bytes e;
      once = λ text. c.run_script.ensures.played text bytes e;
      failing = c.run_script.ensures.failed;
    })

pub returns-in-Serve-clause-done : goal.returns-in-Serve-clause-done
returns-in-Serve-clause-done g c =
    let is : c.args.asked.now ≡ Serve c.in-Serve.config c.in-Serve.uidvalidity c.in-Serve.report = search rules in
    subst (λ (a : Asked). HasDone a (Served c.serve.result) (g.I.Read.remaining c.args.input.now) (g.W.Sink.failed c.serve.new.output) (g.W.Sink.taken c.args.output.now) (g.W.Sink.taken c.serve.new.output)) (sym is)
    (record {
      wrong = c.serve.ensures.wrong;
      right = c.serve.ensures.right;
      refused = λ fault e. let r = c.serve.ensures.refused fault e in (r.0, ap g.W.Sink.taken r.1);
      told = c.serve.ensures.told;
      all = c.serve.ensures.all;
    })

pub returns-in-Script-clause-not_set : goal.returns-in-Script-clause-not_set
returns-in-Script-clause-not_set g c = played_not_set c.args.output.now c.run_script.new.writer c.run_script.result (λ x e. (c.run_script.ensures.refused x (c.run_script.ensures.wrong x e)).2)

pub returns-in-Serve-clause-not_set : goal.returns-in-Serve-clause-not_set
returns-in-Serve-clause-not_set g c = served_not_set c.args.output.now c.serve.new.output c.serve.result c.serve.ensures.not_set
