use Rattle.house.specs.Setup.{setup_of}
use Rattle.settings.specs.Settings.{config_fault}
use Rattle.house.specs.declared.house.House.{House}
use Rattle.std.proofs.Common.{refl}
use Rattle.std.specs.Prelude.{Ok, Err}
use Rattle.script.specs.Script.{script_of}
use Rattle.script.specs.Telling.{lines_of}
use Rattle.script.proofs.Programs.{fault_named, none_once, not_wrong, ran_once, ran_wrote, refused_as, right_of, same_run, wrong_told, wrong_wrote}
use Rattle.script.proofs.TellingLaws.{run_told}
use Rattle.script.proofs.program.run_script.Goals as goal

pub returns-in-Err-clause-told : goal.returns-in-Err-clause-told
returns-in-Err-clause-told g c input e =
    wrong_told c.args.form c.args.config.now (lines_of input) (g.W.Sink.taken c.args.writer.now) c.in-Err.fault c.from.result c.from.ensures

pub returns-in-Err-clause-wrote : goal.returns-in-Err-clause-wrote
returns-in-Err-clause-wrote g c is input e =
    wrong_wrote c.args.config.now (script_of input) (g.W.Sink.taken c.args.writer.now) c.in-Err.fault c.from.result c.from.ensures

pub returns-in-Err-clause-played : goal.returns-in-Err-clause-played
returns-in-Err-clause-played g c is input e = none_once c.args.config.now (script_of input) (g.W.Sink.taken c.args.writer.now)

pub returns-in-Err-clause-once : goal.returns-in-Err-clause-once
returns-in-Err-clause-once g c is input e = (returns-in-Err-clause-played g c is input e).delivered

pub returns-in-Err-clause-wrong : goal.returns-in-Err-clause-wrong
returns-in-Err-clause-wrong g c x e =
    fault_named House (config_fault c.args.config.now) c.in-Err.fault c.from.result x c.in-Err.ensures.fault c.in-Err.ensures.made c.from.ensures e

pub returns-in-Ok-drive_as-clause-told : goal.returns-in-Ok-drive_as-clause-told
returns-in-Ok-drive_as-clause-told g c input e =
    run_told c.args.form (setup_of c.args.config.now) (lines_of input) c.drive_as.new.house (Ok tt) (g.W.Sink.taken c.args.writer.now) (g.W.Sink.taken c.drive_as.new.writer)
    (c.in-Ok-drive_as.ensures.tells (setup_of c.args.config.now) input c.in-Ok.ensures.stands e)

pub returns-in-Ok-drive_as-clause-wrote : goal.returns-in-Ok-drive_as-clause-wrote
returns-in-Ok-drive_as-clause-wrote g c is input e =
    ran_wrote c.args.form c.args.config.now input c.drive_as.new.house (Ok tt) (g.W.Sink.taken c.args.writer.now) (g.W.Sink.taken c.drive_as.new.writer) is
    (c.in-Ok-drive_as.ensures.tells (setup_of c.args.config.now) input c.in-Ok.ensures.stands e)

pub returns-in-Ok-drive_as-clause-played : goal.returns-in-Ok-drive_as-clause-played
returns-in-Ok-drive_as-clause-played g c is input e =
    ran_once c.args.form c.args.config.now input c.drive_as.new.house (Ok tt) (g.W.Sink.taken c.args.writer.now) (g.W.Sink.taken c.drive_as.new.writer) is
    (c.in-Ok-drive_as.ensures.tells (setup_of c.args.config.now) input c.in-Ok.ensures.stands e)

pub returns-in-Ok-drive_as-clause-once : goal.returns-in-Ok-drive_as-clause-once
returns-in-Ok-drive_as-clause-once g c is input e = (returns-in-Ok-drive_as-clause-played g c is input e).delivered

pub returns-in-Ok-drive_as-clause-right : goal.returns-in-Ok-drive_as-clause-right
returns-in-Ok-drive_as-clause-right g c = right_of House (config_fault c.args.config.now) c.in-Ok.house c.in-Ok.ensures.fault

pub returns-in-Err-clause-refused : goal.returns-in-Err-clause-refused
returns-in-Err-clause-refused g c x e =
    (refused_as House (config_fault c.args.config.now) c.in-Err.fault x c.from.result c.in-Err.ensures.fault e c.from.ensures, refl, refl)

pub returns-in-Ok-drive_as-clause-refused : goal.returns-in-Ok-drive_as-clause-refused
returns-in-Ok-drive_as-clause-refused g c x e = absurd (not_wrong House (config_fault c.args.config.now) c.in-Ok.house c.in-Ok.ensures.fault x e)

pub returns-clause-refused : goal.returns-clause-refused
returns-clause-refused g c x e = absurd (not_wrong House (config_fault c.args.config.now) c.in-Ok.house c.in-Ok.ensures.fault x e)

pub returns-clause-told : goal.returns-clause-told
returns-clause-told g c input e =
    run_told c.args.form (setup_of c.args.config.now) (lines_of input) c.drive_as.new.house (Err c.in-Err-drive_as.fault) (g.W.Sink.taken c.args.writer.now) (g.W.Sink.taken c.drive_as.new.writer)
    (c.in-Err-drive_as.ensures.tells (setup_of c.args.config.now) input c.in-Ok.ensures.stands e)

pub returns-clause-wrote : goal.returns-clause-wrote
returns-clause-wrote g c is input e =
    ran_wrote c.args.form c.args.config.now input c.drive_as.new.house (Err c.in-Err-drive_as.fault) (g.W.Sink.taken c.args.writer.now) (g.W.Sink.taken c.drive_as.new.writer) is
    (c.in-Err-drive_as.ensures.tells (setup_of c.args.config.now) input c.in-Ok.ensures.stands e)

pub returns-clause-played : goal.returns-clause-played
returns-clause-played g c is input e =
    ran_once c.args.form c.args.config.now input c.drive_as.new.house (Err c.in-Err-drive_as.fault) (g.W.Sink.taken c.args.writer.now) (g.W.Sink.taken c.drive_as.new.writer) is
    (c.in-Err-drive_as.ensures.tells (setup_of c.args.config.now) input c.in-Ok.ensures.stands e)

pub returns-clause-once : goal.returns-clause-once
returns-clause-once g c is input e = (returns-clause-played g c is input e).delivered

pub returns-clause-failed : goal.returns-clause-failed
returns-clause-failed g c sent e = c.in-Err-drive_as.ensures.failed sent (same_run c.in-Err-drive_as.fault _ e)
