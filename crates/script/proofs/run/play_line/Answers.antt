use Rattle.std.proofs.Common.{◌≡◌, ◌∙◌, ℕ, List, ap, length, subst, Result, Ok, Err}
use Rattle.std.specs.Prelude.{OnErr}
use Rattle.std.specs.declared.alloc.AllocError.{AllocError}
use Rattle.house.specs.Setup.{Setup}
use Rattle.house.specs.Scene.{Scene}
use Rattle.house.specs.Stands.{StandsFor}
use Rattle.script.specs.Leaving.{LineWanting, PlayWanting, doing}
use Rattle.std.proofs.lemmas.Result.{on_err_weaker, on_ok_weaker}
use Rattle.std.specs.Prelude.{Bool}
use Rattle.script.specs.inner.Running.{LineDone}
use Rattle.house.specs.Settled.{BrokeOffFrom, SettledFrom}
use Rattle.script.specs.Script.{ScriptLine, asked, held_after, line_of}
use Rattle.script.proofs.RunLaws.{played, settling_wanting}
use Rattle.script.proofs.run.play_line.Goals as goal

pub returns-clause-played : goal.returns-clause-played
returns-clause-played c =
    let line = asked (line_of c.args.room.now.line.items) in
    let cut : asked c.without_end.result.now ≡ line = ap asked (c.without_end.ensures ∙ ap line_of c.deref.ensures.value) in
    on_ok_weaker c.settle.result
    (λ settles k s st many. played k c.args.number c.args.room.now.held.items c.do_line.new.held.items line s c.do_line.new.house c.settle.new.self c.do_line.new.out.items c.settle.new.out.items
    (subst (λ (x : List ℕ). LineDone k c.args.number line s c.do_line.new.house x c.do_line.new.out.items) c.clear.ensures.items
    (subst (λ (l : ScriptLine). LineDone k c.args.number l s c.do_line.new.house c.clear.new.self.items c.do_line.new.out.items) cut (c.in_ok-do_line.ensures.done k s st many)))
    (c.in_ok-do_line.ensures.held ∙ ap (held_after c.args.room.now.held.items) cut) (λ j t st1. subst (λ (x : List Bool). SettledFrom j x t c.settle.new.self c.do_line.new.out.items c.settle.new.out.items) c.deref-2.ensures.value (settles j t st1)))
    c.settle.ensures.settles

-- what holds in any case holds where it is an error
on_err : (r : Result (Unit {0}) AllocError) (P : Type 0) → P → OnErr r P
on_err (Ok x) P p = tt
on_err (Err e) P p = p

pub returns-in_err-do_line-clause-wanting : goal.returns-in_err-do_line-clause-wanting
returns-in_err-do_line-clause-wanting c =
    let line = asked (line_of c.args.room.now.line.items) in
    let cut : asked c.without_end.result.now ≡ line = ap asked (c.without_end.ensures ∙ ap line_of c.deref.ensures.value) in
    on_err c.from_residual.result
    ((k : Setup) → (s : Scene) → StandsFor k c.args.house.now s → length c.args.room.now.held.items ≡ k.config.shards → PlayWanting k c.args.number c.args.room.now.held.items line s c.do_line.new.house)
    (λ k s st many. doing (subst (λ (l : ScriptLine). LineWanting k l s c.do_line.new.house) cut (c.in_err-do_line.ensures.wanting k s st)))

pub returns-clause-wanting : goal.returns-clause-wanting
returns-clause-wanting c =
    let line = asked (line_of c.args.room.now.line.items) in
    let cut : asked c.without_end.result.now ≡ line = ap asked (c.without_end.ensures ∙ ap line_of c.deref.ensures.value) in
    on_err_weaker c.settle.result
    (λ wants k s st many. settling_wanting k c.args.number c.args.room.now.held.items c.do_line.new.held.items line s c.do_line.new.house c.settle.new.self c.do_line.new.out.items c.settle.new.out.items
    (subst (λ (x : List ℕ). LineDone k c.args.number line s c.do_line.new.house x c.do_line.new.out.items) c.clear.ensures.items
    (subst (λ (l : ScriptLine). LineDone k c.args.number l s c.do_line.new.house c.clear.new.self.items c.do_line.new.out.items) cut (c.in_ok-do_line.ensures.done k s st many)))
    (c.in_ok-do_line.ensures.held ∙ ap (held_after c.args.room.now.held.items) cut) (λ j t st1. subst (λ (x : List Bool). BrokeOffFrom j x t c.settle.new.self c.do_line.new.out.items c.settle.new.out.items) c.deref-2.ensures.value (wants j t st1)))
    c.settle.ensures.no_memory
