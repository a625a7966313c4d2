use Rattle.std.proofs.Common.{refl}
use Rattle.line_io.specs.Outgoing.{room_of, said_of}
use Rattle.imap_stream.specs.Visits.{ShowsAll, ShowsInPart}
use Rattle.imap_stream.specs.inner.Visits.{taken_of}
use Rattle.imap_stream.proofs.Flushing.{all_went_behind, first_went_behind, none_of_fresh}
use Rattle.imap_stream.proofs.Sending.{tells_all, tells_all_in_part, tells_what_went}
use Rattle.imap_stream.proofs.visit.Visit.look.Goals as goal

pub returns-in_default-clause-cut : goal.returns-in_default-clause-cut
returns-in_default-clause-cut g c is =
    let h = c.show_all-shown in
    let start = taken_of c.self.inside.out in
    let fresh = c.take_row.new.out in
    let before = h.new.out in
    let after = c.flush.new.self in
    let went = first_went_behind start fresh before after c.flush.result c.in_default.field-0 c.take_row.ensures h.ensures.lot c.in_default.is c.flush.ensures in
    tells_what_went h.result ShowsAll ShowsInPart (room_of before.buffer before.spare) (room_of after.buffer after.spare) c.args.self.now _ _ (said_of fresh.buffer fresh.kept) (said_of before.buffer before.kept) went.room c.self.view_is
    (none_of_fresh start fresh c.take_row.ensures) h.ensures.ok h.ensures.err went.took went.failed refl

pub returns-in_err-shown-clause-short : goal.returns-in_err-shown-clause-short
returns-in_err-shown-clause-short g c is =
    let h = c.show_all-shown in
    let start = taken_of c.self.inside.out in
    let fresh = c.take_row.new.out in
    let before = h.new.out in
    let after = c.flush.new.self in
    let last = c.give_row_back.new.out in
    let went = all_went_behind start fresh before after last c.flush.result c.in-Ok.field-0 c.take_row.ensures h.ensures.lot c.in-Ok.is c.flush.ensures c.give_row_back.ensures in
    tells_all_in_part ShowsInPart (room_of before.buffer before.spare) (room_of last.buffer last.spare) c.args.self.now _ _ (said_of fresh.buffer fresh.kept) (said_of before.buffer before.kept) went.room c.self.view_is
    (none_of_fresh start fresh c.take_row.ensures) c.in_err-shown.ensures.err went.took went.live

pub returns-clause-ok : goal.returns-clause-ok
returns-clause-ok g c goes =
    let h = c.show_all-shown in
    let start = taken_of c.self.inside.out in
    let fresh = c.take_row.new.out in
    let before = h.new.out in
    let after = c.flush.new.self in
    let last = c.give_row_back.new.out in
    let went = all_went_behind start fresh before after last c.flush.result c.in-Ok.field-0 c.take_row.ensures h.ensures.lot c.in-Ok.is c.flush.ensures c.give_row_back.ensures in
    tells_all ShowsAll c.args.self.now _ _ (said_of fresh.buffer fresh.kept) (said_of before.buffer before.kept) c.self.view_is (none_of_fresh start fresh c.take_row.ensures) c.in_ok-shown.ensures.ok went.took went.live
