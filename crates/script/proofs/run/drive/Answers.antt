use Rattle.house.specs.Scene.{empty_scene}
use Rattle.house.specs.Stands.{StandsFor}
use Rattle.std.proofs.Common.{◌≡◌, Some}
use Rattle.script.proofs.TellingLaws.{ran_all, ran_first, ran_once, ran_unread, ran_wanting}
use Rattle.script.proofs.run.drive.Goals as goal

pub returns-clause-ok : goal.returns-clause-ok
returns-clause-ok g c =
    ran_all c.drive_as.result c.drive_as.new.house (g.W.Sink.taken c.args.writer.now) (g.W.Sink.taken c.drive_as.new.writer) (λ k. StandsFor k c.args.house.now (empty_scene k))
    (λ input. g.R.Read.remaining c.args.reader.now ≡ Some input) c.drive_as.ensures.tells

pub returns-clause-write : goal.returns-clause-write
returns-clause-write g c sent same k input st e =
    ran_first k input sent c.drive_as.result c.drive_as.new.house (g.W.Sink.taken c.args.writer.now) (g.W.Sink.taken c.drive_as.new.writer) same (c.drive_as.ensures.tells k input st e)

pub returns-clause-no_memory : goal.returns-clause-no_memory
returns-clause-no_memory g c same k input st e =
    ran_wanting k input c.drive_as.result c.drive_as.new.house (g.W.Sink.taken c.args.writer.now) (g.W.Sink.taken c.drive_as.new.writer) same (c.drive_as.ensures.tells k input st e)

pub returns-clause-read : goal.returns-clause-read
returns-clause-read g c same k input st e =
    ran_unread k input c.drive_as.result c.drive_as.new.house (g.W.Sink.taken c.args.writer.now) (g.W.Sink.taken c.drive_as.new.writer) same (c.drive_as.ensures.tells k input st e)

pub returns-clause-once : goal.returns-clause-once
returns-clause-once g c k input st e =
    ran_once k input c.drive_as.result c.drive_as.new.house (g.W.Sink.taken c.args.writer.now) (g.W.Sink.taken c.drive_as.new.writer) (c.drive_as.ensures.tells k input st e)
