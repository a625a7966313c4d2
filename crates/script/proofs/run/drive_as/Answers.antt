use Rattle.std.proofs.Common.{◌∙◌, ◌+◌, ℕ, List, ap, refl, length, arith}
use Rattle.std.specs.Prelude.{Bool, false, replicate}
use Rattle.std.proofs.lemmas.List.{length-replicate}
use Rattle.envelope.specs.Names.{Directory}
use Rattle.house.specs.Scene.{empty_scene}
use Rattle.script.specs.Leaving.{IsLeft, unread}
use Rattle.script.specs.Telling.{IsLeftUntold, lines_of, wanting}
use Rattle.script.proofs.RunLaws.{none_run, one_for_each, run_cut, run_more, run_over, run_stops, told_unbegun, turn_unread, turn_unwritten}
use Rattle.script.proofs.run.drive_as.Goals as goal

pub loop-done-init : goal.loop-done-init
loop-done-init g c = record {
  run = λ k input st e. none_run c.args.form k input _ _ _ _ (empty_scene k) st (c.in-Ok.ensures ∙ ap (λ (n : ℕ). replicate n false) (c.shards.ensures ∙ ap (λ (d : Directory). d.shards) st.directory ∙ st.shards)) e;
  live = c.requires;
  few = (let l = ap (λ (xs : List Bool). length xs) c.in-Ok.ensures in let m = length-replicate c.shards.result false in let r = c.shards.auto in omega (arith, l, m, r));
  small = omega arith;
}

pub loop-done-preserved : goal.loop-done-preserved
loop-done-preserved g c = record {
  run = λ k input st e. (let r = c.loop-done.invariant.run k input st e in
      run_more c.args.form k input c.loop-done.done c.loop-done.house c.take_turn.new.house c.loop-done.room.held.items c.take_turn.new.room.held.items (g.R.Read.remaining c.loop-done.reader) (g.R.Read.remaining c.take_turn.new.reader)
      (g.W.Sink.taken c.args.writer.now) (g.W.Sink.taken c.loop-done.writer) (g.W.Sink.taken c.take_turn.new.writer) c.loop-done.sent c.in-Ok-Some.count (empty_scene k)
      r c.in-Ok-Some.field-0 c.in-Ok-Some.field-0-is (c.in-Ok-Some.ensures.tells k r.after r.rest r.stands (one_for_each c.args.form k input _ _ _ _ _ _ _ _ r) r.remaining));
  live = c.in-Ok-Some.ensures.live;
  few = (let l = c.in-Ok-Some.ensures.as_many in let m = c.loop-done.invariant.few in omega (arith, l, m));
  small = omega arith;
}

pub returns-in-Ok-None-clause-tells : goal.returns-in-Ok-None-clause-tells
returns-in-Ok-None-clause-tells g c k input st e =
    let r = c.loop-done.invariant.run k input st e in
    run_over c.args.form k input c.loop-done.done c.loop-done.house c.take_turn.new.house c.loop-done.room.held.items c.take_turn.new.room.held.items (g.R.Read.remaining c.loop-done.reader) (g.R.Read.remaining c.take_turn.new.reader)
    (g.W.Sink.taken c.args.writer.now) (g.W.Sink.taken c.loop-done.writer) (g.W.Sink.taken c.take_turn.new.writer) c.loop-done.sent
    r c.in-Ok-None.field-0 c.in-Ok-None.field-0-is (c.in-Ok-None.ensures.tells k r.after r.rest r.stands (one_for_each c.args.form k input _ _ _ _ _ _ _ _ r) r.remaining)

pub returns-in-Err-Write-clause-tells : goal.returns-in-Err-Write-clause-tells
returns-in-Err-Write-clause-tells g c k input st e =
    let r = c.loop-done.invariant.run k input st e in
    rw c.in-Err-Write.field-0-is (run_cut c.args.form k input c.loop-done.done c.loop-done.house c.take_turn.new.house c.loop-done.room.held.items c.take_turn.new.room.held.items (g.R.Read.remaining c.loop-done.reader) (g.R.Read.remaining c.take_turn.new.reader)
    (g.W.Sink.taken c.args.writer.now) (g.W.Sink.taken c.loop-done.writer) (g.W.Sink.taken c.take_turn.new.writer) c.loop-done.sent c.in-Err-Write.some
    r c.in-Err-Write.field-0 c.in-Err-Write.field-0-is (c.in-Err-Write.ensures.tells k r.after r.rest r.stands (one_for_each c.args.form k input _ _ _ _ _ _ _ _ r) r.remaining))

pub returns-in-Err-Read-clause-tells : goal.returns-in-Err-Read-clause-tells
returns-in-Err-Read-clause-tells g c k input st e =
    let r = c.loop-done.invariant.run k input st e in
    let t = turn_unread c.args.form k (c.loop-done.done + 1) c.loop-done.room.held.items r.after r.rest c.take_turn.new.house c.take_turn.new.room.held.items (g.R.Read.remaining c.take_turn.new.reader)
    (g.W.Sink.taken c.loop-done.writer) (g.W.Sink.taken c.take_turn.new.writer) c.in-Err-Read.field-0 c.in-Err-Read.field-0-is (c.in-Err-Read.ensures.tells k r.after r.rest r.stands (one_for_each c.args.form k input _ _ _ _ _ _ _ _ r) r.remaining) in
    run_stops c.args.form k input _ _ _ _ _ _ _ _ (IsLeft k c.take_turn.new.house) r t.stands t.silent

pub returns-in-Err-NoMemory-clause-tells : goal.returns-in-Err-NoMemory-clause-tells
returns-in-Err-NoMemory-clause-tells g c k input st e =
    let r = c.loop-done.invariant.run k input st e in
    let t = turn_unwritten c.args.form k (c.loop-done.done + 1) c.loop-done.room.held.items r.after r.rest c.take_turn.new.house c.take_turn.new.room.held.items (g.R.Read.remaining c.take_turn.new.reader)
    (g.W.Sink.taken c.loop-done.writer) (g.W.Sink.taken c.take_turn.new.writer) c.in-Err-NoMemory.field-0 c.in-Err-NoMemory.field-0-is (c.in-Err-NoMemory.ensures.tells k r.after r.rest r.stands (one_for_each c.args.form k input _ _ _ _ _ _ _ _ r) r.remaining) in
    run_stops c.args.form k input _ _ _ _ _ _ _ _ (IsLeftUntold c.args.form k c.take_turn.new.house) r t.left t.silent

pub returns-clause-tells : goal.returns-clause-tells
returns-clause-tells g c k input st e =
    let r = c.loop-done.invariant.run k input st e in run_stops c.args.form k input _ _ _ _ _ _ _ _ (IsLeft k c.loop-done.house) r r.stands refl

pub returns-in_default-clause-tells : goal.returns-in_default-clause-tells
returns-in_default-clause-tells g c k input st e =
    told_unbegun c.args.form k (lines_of input) (g.W.Sink.taken c.args.writer.now) (IsLeftUntold c.args.form k c.args.house.now) (wanting (unread st))
