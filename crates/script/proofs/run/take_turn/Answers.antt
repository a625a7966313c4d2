use Rattle.std.proofs.Common.{arith, ◌<◌, ℕ, List, subst, take, length, refl}
use Rattle.std.specs.Io.KnownBytes.{Appends}
use Rattle.script.proofs.RunLaws.{turn_cut, turn_wanting, turn_written}
use Rattle.script.proofs.run.take_turn.Goals as goal

pub returns-in-Ok-send-clause-tells : goal.returns-in-Ok-send-clause-tells
returns-in-Ok-send-clause-tells g c k s input st many e =
    turn_written c.args.form k c.args.number c.args.room.now.held.items c.tell_line.new.room.held.items s input c.read_piece.new.line.items c.tell_line.new.room.out.items c.tell_line.new.house _ _ _ c.len.result
    (c.in_ok-read_piece.ensures.some input e) (c.in_ok-read_piece.ensures.front input e) (c.in_ok-read_piece.ensures.more c.if-not-branch.false input e) (c.in_ok-read_piece.ensures.rest input e) (c.in-Ok.ensures.told k s st many) c.in-Ok.ensures.held
    (subst (λ (x : List ℕ). Appends (g.W.Sink.taken c.args.writer.now) (g.W.Sink.taken c.send.new.w) x) c.deref.ensures.value c.in-Ok-send.ensures.ok) (omega (arith, c.len.ensures, c.tell_line.new.room.out.ok.0))

pub returns-in-Err-clause-tells : goal.returns-in-Err-clause-tells
returns-in-Err-clause-tells g c k s input st many e =
    turn_cut c.args.form k c.args.number c.args.room.now.held.items s input c.read_piece.new.line.items c.tell_line.new.room.out.items c.tell_line.new.house _ _ c.in-Err.fault.sent
    (c.in_ok-read_piece.ensures.some input e) (c.in_ok-read_piece.ensures.front input e) (c.in_ok-read_piece.ensures.more c.if-not-branch.false input e) (c.in-Ok.ensures.told k s st many)
    (subst (λ (x : List ℕ). Appends (g.W.Sink.taken c.args.writer.now) (g.W.Sink.taken c.send.new.w) (take c.in-Err.fault.sent x)) c.deref.ensures.value c.in-Err.ensures.fault)
    (subst (λ (x : List ℕ). c.in-Err.fault.sent < length x) c.deref.ensures.value c.in-Err.ensures.sent)

pub returns-in_default-clause-tells : goal.returns-in_default-clause-tells
returns-in_default-clause-tells g c k s input st many e =
    turn_wanting c.args.form k c.args.number c.args.room.now.held.items s input c.read_piece.new.line.items c.tell_line.new.house (g.W.Sink.taken c.args.writer.now) (g.W.Sink.taken c.args.writer.now)
    (c.in_ok-read_piece.ensures.some input e) (c.in_ok-read_piece.ensures.more c.if-not-branch.false input e) (c.in_default.ensures.wanting k s st many) refl
