use Rattle.std.proofs.Common.{◌≡◌, ◌∙◌, ℕ, List, ap, length, Result, Ok, Err}
use Rattle.std.specs.Prelude.{OnErr}
use Rattle.std.proofs.lemmas.Result.{on_err_weaker, on_ok_weaker}
use Rattle.std.specs.declared.alloc.AllocError.{AllocError}
use Rattle.house.specs.Setup.{Setup}
use Rattle.house.specs.Scene.{Scene}
use Rattle.house.specs.Stands.{StandsFor}
use Rattle.script.specs.Script.{asked, line_of}
use Rattle.script.specs.Telling.{rendered}
use Rattle.script.specs.inner.Running.{TellWanting, playing, telling}
use Rattle.script.proofs.RunLaws.{tells_line}
use Rattle.script.proofs.run.tell_line.Goals as goal

pub returns-clause-told : goal.returns-clause-told
returns-clause-told c =
    let cut : c.without_end.result.now ≡ line_of c.args.room.now.line.items = c.without_end.ensures ∙ ap line_of (c.deref.ensures.value ∙ c.in_ok-play_line.ensures.line) in
    on_ok_weaker c.render.result
    (λ is k s st many. tells_line c.args.form k c.args.number c.args.room.now.held.items (line_of c.args.room.now.line.items) s c.play_line.new.house c.play_line.new.room.out.items c.render.new.out.items
    (c.in_ok-play_line.ensures.played k s st many) (is ∙ ap (λ (l : List ℕ). rendered c.args.form c.args.number l c.play_line.new.room.out.items) cut))
    c.render.ensures.told

pub returns-clause-wanting : goal.returns-clause-wanting
returns-clause-wanting c =
    on_err_weaker c.render.result
    (λ is k s st many. (let p = c.in_ok-play_line.ensures.played k s st many in telling is p.after p.printed p.plays p.stands))
    c.render.ensures.wanting

-- what holds in any case holds where it is an error
on_err : (r : Result (Unit {0}) AllocError) (P : Type 0) → P → OnErr r P
on_err (Ok x) P p = tt
on_err (Err e) P p = p

pub returns-in_err-play_line-clause-wanting : goal.returns-in_err-play_line-clause-wanting
returns-in_err-play_line-clause-wanting c =
    on_err c.from_residual.result
    ((k : Setup) → (s : Scene) → StandsFor k c.args.house.now s → length c.args.room.now.held.items ≡ k.config.shards
    → TellWanting c.args.form k c.args.number c.args.room.now.held.items (asked (line_of c.args.room.now.line.items)) s c.play_line.new.house)
    (λ k s st many. playing (c.in_err-play_line.ensures.wanting k s st many))
