use Rattle.std.proofs.Common.{refl}
use Rattle.line_io.specs.Outgoing.{room_of, said_of}
use Rattle.workers_sync.specs.declared.courier.Lost.TheVariants as lost
use Rattle.imap_stream.specs.inner.Visits.{taken_of}
use Rattle.imap_stream.proofs.Flushing.{all_went_behind, first_went_behind, none_of_fresh}
use Rattle.imap_stream.proofs.Sending.{hears_all, hears_in_part, hears_what_went, the_fault}
use Rattle.imap_stream.proofs.visit.Visit.hear.Goals as goal

pub returns-in_default-clause-cut : goal.returns-in_default-clause-cut
returns-in_default-clause-cut g c is =
    let h = c.answer_and_show-heard in
    let start = taken_of c.self.inside.out in
    let fresh = c.take_row.new.out in
    let before = h.new.out in
    let after = c.flush.new.self in
    let went = first_went_behind start fresh before after c.flush.result c.in_default.field-0 c.take_row.ensures h.ensures.lot c.in_default.is c.flush.ensures in
    hears_what_went h.result (g.C.Courier.carried c.args.courier.now) (g.C.Courier.carried h.new.courier) c.args.piece.now (room_of before.buffer before.spare) (room_of after.buffer after.spare) c.args.self.now _ _
    (said_of fresh.buffer fresh.kept) (said_of before.buffer before.kept) went.room c.self.view_is (none_of_fresh start fresh c.take_row.ensures) h.ensures.ok h.ensures.err went.took went.failed refl

pub returns-in-Ok-heard-clause-ok : goal.returns-in-Ok-heard-clause-ok
returns-in-Ok-heard-clause-ok g c goes =
    let h = c.answer_and_show-heard in
    let start = taken_of c.self.inside.out in
    let fresh = c.take_row.new.out in
    let before = h.new.out in
    let after = c.flush.new.self in
    let last = c.give_row_back.new.out in
    let went = all_went_behind start fresh before after last c.flush.result c.in-Ok.field-0 c.take_row.ensures h.ensures.lot c.in-Ok.is c.flush.ensures c.give_row_back.ensures in
    hears_all (g.C.Courier.carried c.args.courier.now) (g.C.Courier.carried h.new.courier) c.args.piece.now c.args.self.now _ _ (said_of fresh.buffer fresh.kept) (said_of before.buffer before.kept) c.self.view_is
    (none_of_fresh start fresh c.take_row.ensures) c.in-Ok-heard.ensures.ok went.took went.live

pub returns-in-Err-clause-short : goal.returns-in-Err-clause-short
returns-in-Err-clause-short g c is =
    let h = c.answer_and_show-heard in
    let start = taken_of c.self.inside.out in
    let fresh = c.take_row.new.out in
    let before = h.new.out in
    let after = c.flush.new.self in
    let last = c.give_row_back.new.out in
    let went = all_went_behind start fresh before after last c.flush.result c.in-Ok.field-0 c.take_row.ensures h.ensures.lot c.in-Ok.is c.flush.ensures c.give_row_back.ensures in
    hears_in_part h.result c.in-Err.why lost.NoMemory c.args.piece.now (room_of before.buffer before.spare) (room_of last.buffer last.spare) c.args.self.now _ _ (said_of fresh.buffer fresh.kept) (said_of before.buffer before.kept) c.in-Err.is
    (c.fault_of.ensures.memory (the_fault is)) went.room c.self.view_is (none_of_fresh start fresh c.take_row.ensures) h.ensures.err went.took went.live

pub returns-in-Err-clause-torn : goal.returns-in-Err-clause-torn
returns-in-Err-clause-torn g c is =
    let h = c.answer_and_show-heard in
    let start = taken_of c.self.inside.out in
    let fresh = c.take_row.new.out in
    let before = h.new.out in
    let after = c.flush.new.self in
    let last = c.give_row_back.new.out in
    let went = all_went_behind start fresh before after last c.flush.result c.in-Ok.field-0 c.take_row.ensures h.ensures.lot c.in-Ok.is c.flush.ensures c.give_row_back.ensures in
    hears_in_part h.result c.in-Err.why lost.Torn c.args.piece.now (room_of before.buffer before.spare) (room_of last.buffer last.spare) c.args.self.now _ _ (said_of fresh.buffer fresh.kept) (said_of before.buffer before.kept) c.in-Err.is
    (c.fault_of.ensures.torn (the_fault is)) went.room c.self.view_is (none_of_fresh start fresh c.take_row.ensures) h.ensures.err went.took went.live
