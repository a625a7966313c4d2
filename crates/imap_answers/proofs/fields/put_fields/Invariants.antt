use Rattle.std.proofs.Common.{◌≡◌, ◌+◌, ◌≤◌, ◌++◌, List, ℕ, length, take, drop}
use Rattle.std.specs.Prelude.{false, true}
use Rattle.imap_answers.specs.Answers.{fields_from, takes_field}
use Rattle.imap_answers.proofs.fields.put_fields.Given as goal

abbrev pub invariant-loop-field : goal.invariant-loop-field
invariant-loop-field g l =
    let all = take l.fn.span.count (drop l.fn.span.origin (fields_from (takes_field l.others l.names) true false false l.header)) in
    let left = take l.left.count (drop l.left.origin (fields_from (takes_field l.others l.names) true false false l.rest)) in
    record {
      so_far : g.O.Outlet.said l.out ++ left ≡ g.O.Outlet.said l.initial.out ++ all;
      lot : g.O.Outlet.lot l.out ≡ g.O.Outlet.lot l.initial.out;
      fits : length left ≤ g.O.Outlet.room l.out;
      room : g.O.Outlet.room l.initial.out + length left ≤ g.O.Outlet.room l.out + length all;
    }

abbrev pub decreases-loop-field : goal.decreases-loop-field
decreases-loop-field g l = length l.rest
