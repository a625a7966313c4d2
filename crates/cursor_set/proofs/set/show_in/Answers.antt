use Rattle.std.proofs.Common.{None, Some, ap, sym, ◌∙◌}
use Rattle.std.specs.Prelude.{Option, option_map}
use Rattle.std.proofs.Math.Seq.{map-set_same}
use Rattle.std.proofs.lemmas.Result.{on_err_weaker}
use Rattle.cursor_set.specs.declared.set.Cursor.{Cursor}
use Rattle.cursor_set.specs.Cursors.{Open}
use Rattle.cursor_set.specs.Opened.{open_of}
use Rattle.cursor_set.proofs.set.show_in.Goals as goal

pub show-requires-clause-legal : goal.show-requires-clause-legal
show-requires-clause-legal c = c.requires.legal c.in-Some.cursor.now (sym c.in-Some.ensures.value)

-- what was written back isn't told from what was there
pub returns-in-Some-clause-err : goal.returns-in-Some-clause-err
returns-in-Some-clause-err c =
    on_err_weaker c.show.result (λ same. map-set_same (option_map open_of) c.args.slots.now.slots c.args.slot _ None
    (ap (λ (o : Open). Some o) same ∙ ap (λ (x : Option Cursor). option_map open_of x) c.in-Some.ensures.value)) c.show.ensures.err
