use Rattle.std.proofs.Common.{◌≡◌, ◌+◌, ◌*◌, ◌≤◌, ◌++◌, drop}
use Rattle.imap_answers.specs.Answers.{runs_text}
use Rattle.imap_answers.specs.inner.Ranges.{most_of}
use Rattle.imap_answers.proofs.uid_set.put_runs.Given as goal

abbrev pub invariant-loop-next : goal.invariant-loop-next
invariant-loop-next g l = record {
  so_far : g.O.Outlet.said l.out ++ runs_text l.first l.last (drop l.next-index l.uids) ≡ g.O.Outlet.said l.initial.out ++ runs_text l.uid l.uid l.uids;
  room : g.O.Outlet.room l.initial.out + (most_of l.first l.last + 1) ≤ g.O.Outlet.room l.out + (11 + 11 * l.next-index);
  lot : g.O.Outlet.lot l.out ≡ g.O.Outlet.lot l.initial.out;
}
